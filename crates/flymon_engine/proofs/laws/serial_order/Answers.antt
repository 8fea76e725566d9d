use Rattle.flymon_engine.proofs.ScheduleLemmas.{keeps_serial_order}
use Rattle.flymon_engine.proofs.laws.serial_order.Goals as goal

pub returns : goal.returns
returns c = keeps_serial_order
