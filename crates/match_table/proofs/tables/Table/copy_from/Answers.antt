use Rattle.std.proofs.Common.{length, sym, ap, ◌∙◌, arith}
use Rattle.match_table.specs.Runs.{ends_from}
use Rattle.match_table.specs.Tables.{EntryTable, same_mask}
use Rattle.match_table.proofs.TableLemmas.{length_rank, copied}
use Rattle.match_table.proofs.tables.Table.copy_from.Goals as goal

pub copy_over-requires-2 : goal.copy_over-requires-2
copy_over-requires-2 c =
    let o = c.other.inside in
    let room = ap (λ (r : EntryTable). r.room) c.self.view_is in
    let other_room = ap (λ (r : EntryTable). r.room) c.other.view_is in
    let same = c.requires in
    let ranked = length_rank o.list.items o.ranked.items c.other.invariant.in_rank in
    let few = c.other.invariant.few in let holds = c.self.invariant.ranked_holds in
    let value = ap length c.deref-2.ensures.value in
    omega arith

pub mark_ends-requires : goal.mark_ends-requires
mark_ends-requires c =
    let o = c.other.inside in
    let room = ap (λ (r : EntryTable). r.room) c.self.view_is in
    let other_room = ap (λ (r : EntryTable). r.room) c.other.view_is in
    let same = c.requires in
    let ranked = length_rank o.list.items o.ranked.items c.other.invariant.in_rank in
    let few = c.other.invariant.few in let holds = c.self.invariant.ends_holds in
    let value = ap length (c.deref-3.ensures.value ∙ c.copy_over-2.ensures.items ∙ c.deref-2.ensures.value) in
    omega arith

pub invariant_of-self : goal.invariant_of-self
invariant_of-self c =
    copied c.self.invariant c.other.invariant
    (ap (λ (r : EntryTable). r.room) c.self.view_is ∙ c.requires ∙ sym (ap (λ (r : EntryTable). r.room) c.other.view_is))
    (c.copy_over.ensures.items ∙ c.deref.ensures.value) (c.copy_over-2.ensures.items ∙ c.deref-2.ensures.value)
    (c.mark_ends.ensures.items ∙ ap (ends_from same_mask 0) c.deref-3.ensures.value)
    c.copy_over.ensures.capacity c.copy_over-2.ensures.capacity c.mark_ends.ensures.capacity
