use Rattle.match_table.proofs.FindLemmas.{Looking}
use Rattle.match_table.proofs.finds.find_in.Given as goal

abbrev pub invariant-groups : goal.invariant-groups
invariant-groups l = Looking l.vec l.ranked l.ends l.from l.end-index
