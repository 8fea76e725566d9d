use Rattle.std.proofs.Common.{◌≡◌}
use Rattle.group_keys.proofs.PairLemmas.{pair_from}
use Rattle.group_keys.proofs.finds.first_pair.Given as goal

abbrev pub invariant-firsts : goal.invariant-firsts
invariant-firsts l = pair_from l.units l.mask l.one ≡ pair_from l.units l.mask 0
