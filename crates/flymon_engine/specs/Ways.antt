-- By which rules a run goes.
use Rattle.flymon_engine.specs.declared.words.Way.{Way}
use Rattle.flymon_engine.specs.declared.words.Way.TheVariants.{Replay, Flight}
use Rattle.flymon_engine.specs.Words.{Form, Wrong, Carry, Demo}
use Rattle.flymon_engine.specs.Boards.{Rules}
use Rattle.flymon_engine.specs.Serial.{serial_rules}
use Rattle.flymon_engine.specs.Flight.{flight_rules}

abbrev pub rules_of : Way → Rules
rules_of Replay = serial_rules
rules_of Flight = flight_rules

-- a demo is a replay
abbrev pub rules_by : Form → Rules
rules_by Wrong = serial_rules
rules_by (Carry way profile script capture) = rules_of way
rules_by (Demo seed count) = serial_rules
