use Rattle.std.proofs.Common.{sym, ap, ◌∙◌, subst, List}
use Rattle.std.specs.List.{find}
use Rattle.match_table.specs.Tables.{takes, IsGroup}
use Rattle.match_table.specs.declared.entries.Entry.{Entry}
use Rattle.match_table.proofs.FindLemmas.{looking_first, looking_part, looking_on, found_here, none_here, looking_end}
use Rattle.match_table.proofs.finds.find_in.Goals as goal

pub groups-init : goal.groups-init
groups-init c = looking_first c.args.vec.now c.args.ranked.now c.args.ends.now c.requires.rising c.requires.ends

pub part_of-requires-clause-order : goal.part_of-requires-clause-order
part_of-requires-clause-order c = (looking_part c.groups.invariant c.groups-test.true).order

pub part_of-requires-clause-within : goal.part_of-requires-clause-within
part_of-requires-clause-within c = (looking_part c.groups.invariant c.groups-test.true).within

pub find_in_group-found-requires-clause-some : goal.find_in_group-found-requires-clause-some
find_in_group-found-requires-clause-some c = rw c.part_of.ensures (looking_part c.groups.invariant c.groups-test.true).some

pub find_in_group-found-requires-clause-group : goal.find_in_group-found-requires-clause-group
find_in_group-found-requires-clause-group c =
    subst (λ (l : List Entry). IsGroup l) (sym c.part_of.ensures) (looking_part c.groups.invariant c.groups-test.true).group

pub returns-then-is_some : goal.returns-then-is_some
returns-then-is_some c =
    found_here c.find_in_group-found.result c.groups.invariant c.groups-test.true
    (c.find_in_group-found.ensures ∙ ap (find (takes c.args.vec.now)) c.part_of.ensures) (sym c.is_some.ensures ∙ c.if-is_some.true)

pub groups-preserved : goal.groups-preserved
groups-preserved c =
    looking_on c.groups.invariant c.groups-test.true
    (none_here c.find_in_group-found.result _ c.args.vec.now
    (c.find_in_group-found.ensures ∙ ap (find (takes c.args.vec.now)) c.part_of.ensures) (sym c.is_some.ensures ∙ c.if-is_some.false))

pub returns : goal.returns
returns c = looking_end c.groups.invariant c.groups-test.false
