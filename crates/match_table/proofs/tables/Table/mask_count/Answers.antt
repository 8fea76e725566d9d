use Rattle.std.proofs.Common.{◌≡◌, subst, length, vec_len, ap, ◌∙◌, arith}
use Rattle.lists.specs.Sorting.{Rising}
use Rattle.match_table.specs.Runs.{lasts}
use Rattle.match_table.specs.Tables.{EntryTable, masks_of, by_rank, lesser_mask, same_mask}
use Rattle.match_table.proofs.MaskLemmas.{masks_whole}
use Rattle.match_table.proofs.OrderLemmas.{rank_rises}
use Rattle.match_table.proofs.TableLemmas.{mask_count_is, masks_rise}
use Rattle.match_table.proofs.tables.Table.mask_count.Goals as goal

pub returns-clause-count : goal.returns-clause-count
returns-clause-count c =
    let t = c.self.inside in
    let long : vec_len t.ends ≡ length t.ends.items = omega (arith, t.ends.ok.0) in
    c.len.ensures ∙ long ∙ mask_count_is t.list.items t.ranked.items t.ends.items c.self.invariant.in_rank c.self.invariant.grouped
    ∙ ap (λ (r : EntryTable). length (masks_of r.entries)) c.self.view_is

pub returns-clause-rising : goal.returns-clause-rising
returns-clause-rising c =
    subst (λ (r : EntryTable). Rising lesser_mask (lasts same_mask (by_rank r.entries))) c.self.view_is
    (masks_rise (by_rank c.self.inside.list.items) (rank_rises c.self.inside.list.items c.self.invariant.apart))

pub returns-clause-whole : goal.returns-clause-whole
returns-clause-whole c = masks_whole c.args.self.now.entries
