use Rattle.std.proofs.Common.{List, ℕ, ap, ◌∙◌}
use Rattle.key_mask.specs.Bytes.{and_bytes}
use Rattle.key_mask.specs.Masks.{mask_bytes_of}
use Rattle.match_table.proofs.FindLemmas.{group_find}
use Rattle.match_table.proofs.finds.find_in_group.Goals as goal

pub returns : goal.returns
returns c =
    let masked = c.masked-value.ensures.value ∙ ap (λ (m : List ℕ). and_bytes c.args.vec.now (mask_bytes_of m)) c.mask.ensures.value in
    c.find_value.ensures ∙ group_find c.args.group.now c.args.vec.now c.masked-value.result c.index-group-0.result c.requires.group masked
