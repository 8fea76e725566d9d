-- A switch with packets in flight, as a machine.
use Rattle.std.specs.Prelude.{◌≡◌, List, [], ◌∷◌, length, map}
use Rattle.pipe_core.specs.Flow.{stages_in}
use Rattle.pipe_core.specs.Rules as pipes
use Rattle.pipe_flight.specs.Flights.{Flying, Versions, rest_of, drain}
use Rattle.pkt_headers.specs.declared.packets.Packet.{Packet}
use Rattle.reg_file.specs.Registers.{Contents, Dims}
use Rattle.reg_file.specs.Calls.{all_made}
use Rattle.switch_model.specs.Sights.{all_spots, all_uses}
use Rattle.rule_txn.specs.Switch.{SwitchState, placed_table, tables_for, groups_for, rules_for}
use Rattle.flymon_engine.specs.declared.pipelined.Pipelined.{Pipelined}
use Rattle.flymon_engine.specs.Boards.{Aloft, Board}
use Rattle.flymon_engine.specs.Serial.{FitsSerial, IsSerial}

-- a packet in flight, with what it has still to do over these registers
abbrev pub aloft : Versions Packet → Contents → Flying Packet → Aloft
aloft rules contents one = record { group = one.group; kept = one.kept; calls = rest_of rules contents one }

-- in order of entry, each over the registers that those before it leave
abbrev pub alofts : Versions Packet → Contents → List (Flying Packet) → List Aloft
alofts rules contents [] = []
alofts rules contents (one ∷ others) = aloft rules contents one ∷ alofts rules (all_made contents (rest_of rules contents one)) others

-- the rules of the switch's tasks, and those before the last change
abbrev pub versions_of : SwitchState → pipes.Rules → Versions Packet
versions_of switch before = record { count = length switch.geometry.groups; now = stages_in (rules_for switch); old = stages_in before }

-- the pipe is that of a switch in this state
pub record IsPipeOf (pipe : pipes.Rules) (switch : SwitchState) : Type 0 where
  pub whole : pipes.IsPipe pipe
  pub geometry : pipe.geometry ≡ switch.geometry
  pub hash_key : pipe.hash_key ≡ switch.hash_key
  pub tables : map placed_table pipe.tables ≡ tables_for switch.geometry (all_spots switch.outlines)
  pub groups : pipe.groups ≡ groups_for switch.geometry (all_uses switch.geometry switch.outlines)
  pub acts : stages_in pipe ≡ stages_in (rules_for switch)

-- the board has these packets in flight, and the registers will be laid out for it when they have passed
pub record IsAirborne (rules : Versions Packet) (switch : SwitchState) (flight : List (Flying Packet)) (board : Board) (contents : Contents) : Type 0 where
  pub flying : board.flying ≡ alofts rules contents flight
  pub serial : IsSerial switch board (drain rules contents flight)

-- ---- the machine

-- the switch fits the registers, and the rules before the last change have its shape
pub record FitsPipelined (machine : Pipelined) (dims : Dims) : Type 0 where
  pub serial : FitsSerial machine.serial dims
  pub geometry : machine.flight.before.geometry ≡ machine.serial.switch.geometry
  pub hash_key : machine.flight.before.hash_key ≡ machine.serial.switch.hash_key

abbrev pub StandsPipelined : Pipelined → Board → Contents → Type 0
StandsPipelined machine board contents =
    IsAirborne (versions_of machine.serial.switch machine.flight.before) machine.serial.switch machine.flight.flight board contents
