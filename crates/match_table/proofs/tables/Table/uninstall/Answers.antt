use Rattle.std.proofs.Common.{List, ap, ◌∙◌, arith}
use Rattle.std.specs.List.{list_any}
use Rattle.match_table.specs.Runs.{ends_from}
use Rattle.lists.specs.Sorting.{cut_by}
use Rattle.match_table.specs.declared.entries.Entry.{Entry}
use Rattle.match_table.specs.Tables.{EntryTable, has_base, comes_first, same_mask}
use Rattle.match_table.proofs.ChangeLemmas.{any_sorted}
use Rattle.match_table.proofs.TableLemmas.{length_rank, uninstalled}
use Rattle.match_table.proofs.tables.Table.uninstall.Goals as goal

pub take_out-requires : goal.take_out-requires
take_out-requires c =
    let t = c.self.inside in
    ap (list_any (has_base c.args.base)) c.self.invariant.in_rank ∙ any_sorted (has_base c.args.base) comes_first t.list.items
    ∙ ap (λ (r : EntryTable). list_any (has_base c.args.base) r.entries) c.self.view_is ∙ c.requires

pub mark_ends-requires : goal.mark_ends-requires
mark_ends-requires c =
    let t = c.self.inside in
    let ranked = length_rank t.list.items t.ranked.items c.self.invariant.in_rank in
    let few = c.self.invariant.few in let holds = c.self.invariant.ends_holds in
    let left = c.take_out.ensures.len in let long = c.deref.ensures.len in
    omega (arith, t.ranked.ok.0)

pub invariant_of-self : goal.invariant_of-self
invariant_of-self c =
    let same = c.take_out.ensures.capacity in let same_2 = c.take_out-2.ensures.capacity in
    uninstalled c.args.base c.self.invariant (ap (λ (r : EntryTable). list_any (has_base c.args.base) r.entries) c.self.view_is ∙ c.requires)
    c.take_out-2.ensures.items c.take_out.ensures.items (c.mark_ends.ensures.items ∙ ap (ends_from same_mask 0) c.deref.ensures.value)
    (omega arith) (omega arith) c.mark_ends.ensures.capacity

pub returns-clause-table : goal.returns-clause-table
returns-clause-table c =
    let t = c.self.inside in
    ap (λ (l : List Entry). let r : EntryTable = record { room = t.room; entries = l } in r) c.take_out-2.ensures.items
    ∙ ap (λ (r : EntryTable). let s : EntryTable = record r { entries = cut_by (has_base c.args.base) r.entries } in s) c.self.view_is
