use Rattle.std.proofs.Common.{◌<◌, ◌++◌, ◌∷◌, [], List, length, ap, ◌∙◌, arith}
use Rattle.std.specs.List.{list_any}
use Rattle.match_table.specs.Runs.{ends_from}
use Rattle.match_table.specs.declared.entries.Entry.{Entry}
use Rattle.match_table.specs.Tables.{EntryTable, admits, has_base, same_mask}
use Rattle.match_table.proofs.TableLemmas.{length_rank, installed}
use Rattle.match_table.proofs.tables.Table.install.Goals as goal

pub put_in_rank-requires : goal.put_in_rank-requires
put_in_rank-requires c =
    let t = c.self.inside in
    let entries = ap (λ (r : EntryTable). length r.entries) c.self.view_is in
    let room = ap (λ (r : EntryTable). r.room) c.self.view_is in
    let ranked = length_rank t.list.items t.ranked.items c.self.invariant.in_rank in
    let less = c.requires.room in let holds = c.self.invariant.ranked_holds in
    omega (arith, t.ranked.ok.0)

pub mark_ends-requires : goal.mark_ends-requires
mark_ends-requires c =
    let t = c.self.inside in
    let entries = ap (λ (r : EntryTable). length r.entries) c.self.view_is in
    let room = ap (λ (r : EntryTable). r.room) c.self.view_is in
    let ranked = length_rank t.list.items t.ranked.items c.self.invariant.in_rank in
    let less = c.requires.room in let holds = c.self.invariant.ends_holds in
    let put = c.put_in_rank.ensures.len in let long = c.deref.ensures.len in
    omega (arith, t.ranked.ok.0)

pub invariant_of-self : goal.invariant_of-self
invariant_of-self c =
    let t = c.self.inside in
    let entries = ap (λ (r : EntryTable). r.entries) c.self.view_is in
    let count = ap (λ (r : EntryTable). length r.entries) c.self.view_is in
    let room = ap (λ (r : EntryTable). r.room) c.self.view_is in
    let rule = c.requires.room in
    let less : length t.list.items < t.room = omega arith in
    installed c.args.entry c.self.invariant less
    (ap (λ (r : EntryTable). admits r.entries c.args.entry.filter) c.self.view_is ∙ c.requires.apart)
    (ap (λ (r : EntryTable). list_any (has_base c.args.entry.region.base) r.entries) c.self.view_is ∙ c.requires.base)
    c.put_last.ensures.items c.put_in_rank.ensures.items (c.mark_ends.ensures.items ∙ ap (ends_from same_mask 0) c.deref.ensures.value)
    c.put_last.ensures.capacity c.put_in_rank.ensures.capacity c.mark_ends.ensures.capacity

pub returns : goal.returns
returns c =
    let t = c.self.inside in
    ap (λ (l : List Entry). let r : EntryTable = record { room = t.room; entries = l } in r) c.put_last.ensures.items
    ∙ ap (λ (r : EntryTable). let s : EntryTable = record r { entries = r.entries ++ c.args.entry ∷ [] } in s) c.self.view_is
