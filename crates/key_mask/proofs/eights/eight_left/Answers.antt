use Rattle.std.proofs.Common.{ℕ, ◌+◌, get_or, bit_and, ap, ap₂, sym, ◌∙◌}
use Rattle.key_mask.proofs.BytesLemmas.{get_or-and_bytes}
use Rattle.key_mask.proofs.EightLemmas.{byte_of_eight, byte_at_and}
use Rattle.key_mask.proofs.eights.eight_left.Goals as goal

pub returns : goal.returns
returns c k h =
    let one : ℕ = c.eight_at.result in
    let two : ℕ = c.eight_at-2.result in
    ap (λ l. get_or l k 0) c.to_le_bytes.ensures
    ∙ byte_of_eight (bit_and one two) k h
    ∙ byte_at_and one two k h
    ∙ ap₂ bit_and (c.eight_at.ensures k h) (c.eight_at-2.ensures k h)
    ∙ sym (get_or-and_bytes c.args.bytes.now c.args.mask.now (c.args.at + k))
