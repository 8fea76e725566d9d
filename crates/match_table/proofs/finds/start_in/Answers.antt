use Rattle.std.proofs.Common.{◌≡◌, ◌<◌, ◌-◌, suc, length, sym, ap, ◌∙◌, arith}
use Rattle.match_table.specs.Runs.{start_of}
use Rattle.match_table.proofs.RunLemmas.{start_is}
use Rattle.match_table.proofs.finds.start_in.Goals as goal

pub returns-else-at-eq0 : goal.returns-else-at-eq0
returns-else-at-eq0 c =
    let some = c.if-at-eq0.false in
    let one : c.args.at ≡ suc (c.args.at - 1) = omega arith in
    let below : c.args.at - 1 < length c.args.ends.now = omega arith in
    sym (ap (start_of 0 c.args.ends.now) one ∙ start_is 0 c.args.ends.now (c.args.at - 1) below)
