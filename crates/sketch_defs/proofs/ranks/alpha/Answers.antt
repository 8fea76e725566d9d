use Rattle.std.proofs.Common.{arith}
use Rattle.sketch_defs.proofs.EstimateLemmas.{shifted_le}
use Rattle.sketch_defs.proofs.ranks.alpha.Goals as goal

pub returns-in_default-clause-small_over : goal.returns-in_default-clause-small_over
returns-in_default-clause-small_over c = omega (arith, shifted_le c.args.bits 20 (omega arith) (omega arith))

pub returns-in_default-clause-small_under : goal.returns-in_default-clause-small_under
returns-in_default-clause-small_under c = omega (arith, shifted_le c.args.bits 20 (omega arith) (omega arith))
