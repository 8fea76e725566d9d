-- The rules of a switch whose packets pass one after another, each through all groups.
use Rattle.std.specs.Prelude.{◌≡◌, ℕ, List, [], Option, Result, Ok, Err}
use Rattle.arrayvec.specs.ArrayString.{ArrayString}
use Rattle.addr_translate.specs.Geometry.{IsGeometry, greatest_bits}
use Rattle.pipe_core.specs.Rules.{IsShaped}
use Rattle.pkt_headers.specs.declared.packets.Packet.{Packet}
use Rattle.reg_file.specs.Registers.{Contents, Dims}
use Rattle.reg_file.specs.declared.traits.Call.{Call}
use Rattle.reg_file.specs.declared.traits.DeviceFault.{DeviceFault}
use Rattle.flymon_engine.specs.declared.work.Request.{Request}
use Rattle.flymon_engine.specs.declared.work.Request.TheVariants as requests
use Rattle.readout.specs.declared.refusals as refusals
use Rattle.readout.specs.Answers.{Answer, answer_by, task_answer, refused_line}
use Rattle.readout.specs.Lines.{show_lines, stat_lines}
use Rattle.readout.specs.Parts.{SketchPart}
use Rattle.readout.specs.PlacedTasks.{View}
use Rattle.switch_model.specs.Records.{Record, outlines}
use Rattle.switch_model.specs.Changes.{Edit, Refusal, judged, changed}
use Rattle.switch_model.specs.Packets.{join, calls_of, Layout}
use Rattle.rule_txn.specs.Switch.{SwitchState}
use Rattle.rule_txn.specs.Fills.{Refills}
use Rattle.rule_txn.specs.Seen.{StandsFor, parts_shown, view_of}
use Rattle.flymon_engine.specs.declared.serial.Serial.{Serial}
use Rattle.flymon_engine.specs.declared.work.Change.{Change}
use Rattle.flymon_engine.specs.Boards.{Board, Move, Verdict, Accepted, Refused, Rules}
use Rattle.flymon_engine.specs.ChangeLines.{change_of, done_line, denied_line}
use Rattle.flymon_engine.specs.Moves.{Changes}

-- nothing changes, and no operation is made
abbrev pub stayed : Board → Move
stayed board = record { board = board; calls = [] }

abbrev pub with_records : Board → List Record → Board
with_records board records = record { profile = board.profile; records = records; flying = board.flying }

-- a packet joins the tasks whose filters it matches, with an operation in each of their rows
abbrev pub packet_move : Board → Packet → Move
packet_move board packet = record {
  board = with_records board (join packet board.records);
  calls = calls_of board.profile.shape board.profile.key packet board.records;
}

abbrev pub change_move : Board → Change → Move
change_move board change = stayed (with_records board (changed board.profile.shape board.records (change_of change)))

-- what a change comes to
abbrev pub change_verdict : Change → Result Edit Refusal → Verdict
change_verdict change (Ok edit) = Accepted (done_line change)
change_verdict change (Err why) = Refused (denied_line change why)

-- what a read-out comes to; `show` and `stat` are never refused
abbrev pub denied_request : Request → refusals.Refusal.Refusal → List ℕ
denied_request (requests.Task name ask) why = refused_line ask name why
denied_request requests.Show why = []
denied_request requests.Stat why = []

abbrev pub request_verdict : Request → Answer → Verdict
request_verdict request (Ok lines) = Accepted lines
request_verdict request (Err why) = Refused (denied_request request why)

-- what a switch keeps of a board
abbrev pub state_of : Board → SwitchState
state_of board = record { geometry = board.profile.shape; hash_key = board.profile.key; outlines = outlines board.records }

-- the answer to a request
unfoldable pub answer_to : List ℕ → Request → View → List SketchPart → Answer
answer_to hash_key (requests.Task name ask) view parts = answer_by name (task_answer hash_key ask) parts
answer_to hash_key requests.Show view parts = Ok (show_lines view)
answer_to hash_key requests.Stat view parts = Ok (stat_lines view)

-- the answer over what the tasks have counted, and where they stand
abbrev pub answer_on : Board → Request → Answer
answer_on board request = answer_to board.profile.key request (view_of (state_of board)) (parts_shown board.profile.key board.records)

abbrev pub serial_rules : Rules
serial_rules = record {
  pass = packet_move;
  verdict = λ board change. change_verdict change (judged board.profile.shape (outlines board.records) (change_of change));
  change = change_move;
  parts = λ board change. 1;
  spoil = λ board change part. stayed board;
  answer = λ board request. request_verdict request (answer_on board request);
  ask = λ board request. stayed board;
  finish = stayed;
}

-- the registers hold the cells of all tasks
abbrev pub serial_lays : Board → Contents → Type 0
serial_lays board cells = Layout board.profile.key board.records cells

-- ---- the machine

-- registers of the switch's shape, and room for the cells of a row
pub record FitsSerial (serial : Serial) (dims : Dims) : Type 0 where
  pub limits : IsGeometry serial.switch.geometry
  pub shaped : IsShaped serial.switch.geometry dims
  pub room : serial.reader ≡ greatest_bits serial.switch.geometry
  pub keyed : serial.key ≡ serial.switch.hash_key

-- the switch has the tasks of the board in their places, and the registers hold their cells
pub record IsSerial (switch : SwitchState) (board : Board) (cells : Contents) : Type 0 where
  pub geometry : switch.geometry ≡ board.profile.shape
  pub hash_key : switch.hash_key ≡ board.profile.key
  pub stands : StandsFor switch board.records cells

-- a change, whatever the registers hold and however they are filled as it says: where the switch stood for a board, it is
-- one of the rules
pub record EditsTo (before after : SwitchState) (change : Change) (result : Result ArrayString DeviceFault) (list new_list : Option (List Call)) : Type 0 where
  pub geometry : after.geometry ≡ before.geometry
  pub hash_key : after.hash_key ≡ before.hash_key
  pub over : (board : Board) (old new : Contents) → Refills (judged before.geometry before.outlines (change_of change)) result old new
      → IsSerial before board old → Changes serial_rules (IsSerial after) board change result list new_list new

abbrev pub StandsSerial : Serial → Board → Contents → Type 0
StandsSerial serial board cells = IsSerial serial.switch board cells
