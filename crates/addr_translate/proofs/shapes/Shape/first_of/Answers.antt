use Rattle.std.proofs.Common.{arith}
use Rattle.std.proofs.lemmas.List.Sums.{sum_by-take-le}
use Rattle.addr_translate.proofs.shapes.Shape.first_of.Goals as goal

pub arrays_in-requires : goal.arrays_in-requires
arrays_in-requires c = rw c.in_use.ensures.groups (omega (arith, sum_by-take-le (λ g. g.cmus) c.args.self.now.groups c.args.group, c.in_use.ensures.few))
