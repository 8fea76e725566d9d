use Rattle.flymon_engine.proofs.FlightLemmas.{flight_is_serial}
use Rattle.flymon_engine.proofs.laws.flight_is_serial.Goals as goal

pub returns : goal.returns
returns c = flight_is_serial
