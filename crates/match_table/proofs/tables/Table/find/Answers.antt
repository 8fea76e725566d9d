use Rattle.std.proofs.Common.{◌≤◌, length, List, sym, ap, ◌∙◌, subst}
use Rattle.std.specs.List.{filter, find}
use Rattle.match_table.specs.declared.entries.Entry.{Entry}
use Rattle.lists.specs.Sorting.{Rising}
use Rattle.match_table.specs.Tables.{EntryTable, takes, comes_first}
use Rattle.match_table.proofs.OrderLemmas.{rank_find}
use Rattle.match_table.proofs.TableLemmas.{kept_rises, one_takes}
use Rattle.match_table.proofs.tables.Table.find.Goals as goal

pub find_in-requires-clause-rising : goal.find_in-requires-clause-rising
find_in-requires-clause-rising c =
    subst (λ (l : List Entry). Rising comes_first l) (sym c.deref-else-len.ensures.value)
    (kept_rises c.self.inside.list.items c.self.inside.ranked.items c.self.invariant.apart c.self.invariant.in_rank)

pub returns-else-len-clause-found : goal.returns-else-len-clause-found
returns-else-len-clause-found c =
    let vec = c.args.vec.now in
    c.find_in.ensures ∙ ap (find (takes vec)) (c.deref-else-len.ensures.value ∙ c.self.invariant.in_rank)
    ∙ rank_find vec c.self.inside.list.items c.self.invariant.apart ∙ ap (λ (r : EntryTable). find (takes vec) r.entries) c.self.view_is

pub returns-then-len-clause-alone : goal.returns-then-len-clause-alone
returns-then-len-clause-alone c =
    subst (λ (r : EntryTable). length (filter (takes c.args.vec.now) r.entries) ≤ 1) c.self.view_is
    (one_takes c.args.vec.now c.self.inside.list.items c.self.invariant.apart)

pub returns-else-len-clause-alone : goal.returns-else-len-clause-alone
returns-else-len-clause-alone c =
    subst (λ (r : EntryTable). length (filter (takes c.args.vec.now) r.entries) ≤ 1) c.self.view_is
    (one_takes c.args.vec.now c.self.inside.list.items c.self.invariant.apart)
