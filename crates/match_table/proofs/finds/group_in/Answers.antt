use Rattle.std.proofs.Common.{sym, ◌∙◌}
use Rattle.match_table.proofs.FindLemmas.{mask_group_at}
use Rattle.match_table.proofs.finds.group_in.Goals as goal

pub part_of-requires-clause-order : goal.part_of-requires-clause-order
part_of-requires-clause-order c =
    let is = mask_group_at c.args.ranked.now c.args.ends.now c.args.at c.requires.rising c.requires.ends c.requires.within in
    rw c.start_in.ensures is.order

pub part_of-requires-clause-within : goal.part_of-requires-clause-within
part_of-requires-clause-within c =
    (mask_group_at c.args.ranked.now c.args.ends.now c.args.at c.requires.rising c.requires.ends c.requires.within).within

pub returns : goal.returns
returns c =
    let is = mask_group_at c.args.ranked.now c.args.ends.now c.args.at c.requires.rising c.requires.ends c.requires.within in
    c.part_of.ensures ∙ rw c.start_in.ensures (sym is.group)
