use Rattle.std.proofs.Common.{length}
use Rattle.rule_txn.proofs.switch.looking.+place_among.Given as goal

abbrev pub decreases-place_among : goal.decreases-place_among
decreases-place_among l = length l.rows.now
