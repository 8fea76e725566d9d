use Rattle.readout.proofs.ShowLemmas.{told_front, told_whole}
use Rattle.readout.proofs.stat.told_bytes.Goals as goal

pub returns-then-are_zero : goal.returns-then-are_zero
returns-then-are_zero c = told_front c.args.bytes.now c.told-bytes c.if-are_zero.ensures

pub returns-else-are_zero : goal.returns-else-are_zero
returns-else-are_zero c = told_whole c.args.bytes.now c.told-bytes c.if-are_zero.ensures
