use Rattle.std.proofs.Common.{length, arith}
use Rattle.std.proofs.lemmas.List.FromFn.{fill_by_all}
use Rattle.key_mask.specs.Masks.{prefix_byte}
use Rattle.key_mask.proofs.masks.fill_prefix.Goals as goal

pub returns : goal.returns
returns c =
    fill_by_all (prefix_byte c.args.ones) c.bytes.bytes (length c.args.bytes.now) 0 (omega arith)
    (λ k h. c.bytes.invariant.done k (omega arith))
