use Rattle.std.proofs.Common.{◌≡◌, List, length, sym, ap, ◌∙◌, subst, arith}
use Rattle.match_table.specs.declared.entries.Entry.{Entry}
use Rattle.lists.specs.Sorting.{Rising}
use Rattle.match_table.specs.Tables.{EntryTable, comes_first, masks_of}
use Rattle.match_table.proofs.TableLemmas.{kept_rises, mask_count_is}
use Rattle.match_table.proofs.tables.Table.mask_group.Goals as goal

pub group_in-requires-clause-rising : goal.group_in-requires-clause-rising
group_in-requires-clause-rising c =
    subst (λ (l : List Entry). Rising comes_first l) (sym c.deref.ensures.value)
    (kept_rises c.self.inside.list.items c.self.inside.ranked.items c.self.invariant.apart c.self.invariant.in_rank)

pub group_in-requires-clause-within : goal.group_in-requires-clause-within
group_in-requires-clause-within c =
    let t = c.self.inside in
    let count : length c.deref-2.result.now ≡ length (masks_of c.args.self.now.entries) =
    ap length c.deref-2.ensures.value ∙ mask_count_is t.list.items t.ranked.items t.ends.items c.self.invariant.in_rank c.self.invariant.grouped
    ∙ ap (λ (r : EntryTable). length (masks_of r.entries)) c.self.view_is in
    let below = c.requires in
    omega arith
