-- Packets in flight, step by step, in any order that the conditions of the steps allow.
use Rattle.std.specs.Prelude.{◌≡◌, ◌≢◌, ℕ, ◌+◌, List, [], ◌∷◌, ◌++◌, filter, fold, if◌then◌else◌, Result, Ok, Err}
use Rattle.std.specs.List.{All, list_any}
use Rattle.addr_translate.specs.Geometry.{IsGeometry}
use Rattle.pkt_headers.specs.declared.packets.Packet.{Packet}
use Rattle.reg_file.specs.declared.traits.Call.{Call}
use Rattle.reg_file.specs.Registers.{Contents}
use Rattle.reg_file.specs.Calls.{all_made, is_on}
use Rattle.switch_model.specs.Records.{outlines}
use Rattle.switch_model.specs.Changes.{Edit, Refusal, judged}
use Rattle.switch_model.specs.Packets.{Layout}
use Rattle.switch_model.specs.Laws.{IsProper, is_in, fresh_of, start_in}
use Rattle.sw_profile.specs.declared.profiles.Profile.{Profile}
use Rattle.flymon_engine.specs.declared.work.Change as changes
use Rattle.flymon_engine.specs.ChangeLines.{change_of}
use Rattle.flymon_engine.specs.Boards.{Aloft, Board, Move, no_tasks}
use Rattle.outside.specs.Sent.{IsFront}
use Rattle.flymon_engine.specs.Serial.{stayed, packet_move, change_move}
use Rattle.flymon_engine.specs.Flight.{entered, advanced, settled, flight_change}

-- a packet enters, the packet before a group passes it, tasks change, or all packets pass to the end
pub data Step : Type 0 where
  Enter : (packet : Packet) → Step
  Advance : (group : ℕ) → Step
  Change : (change : changes.Change) → Step
  Show : Step

-- what a step comes to
abbrev pub move_by : Board → Step → Move
move_by board (Enter packet) = entered packet board
move_by board (Advance group) = advanced group board
move_by board (Change change) = flight_change board change
move_by board Show = settled board

-- and what it is where packets pass one after another: each with all its operations as it enters
abbrev pub serial_by : Board → Step → Move
serial_by board (Enter packet) = packet_move board packet
serial_by board (Advance group) = stayed board
serial_by board (Change change) = change_move board change
serial_by board Show = stayed board

-- ---- when a step may come

abbrev pub NobodyAt : ℕ → List Aloft → Type 0
NobodyAt group flying = All (λ (one : Aloft). one.group ≢ group) flying

abbrev pub Meets : Board → Step → Type 0
Meets board (Enter packet) = NobodyAt 0 board.flying
Meets board (Advance group) = (NobodyAt group board.flying → ⊥) × NobodyAt (group + 1) board.flying
Meets board (Change change) = IsProper (change_of change)
Meets board Show = Unit {0}

-- ---- moments

-- the tasks and the packets in flight, the operations so far, and the registers
pub record Moment : Type 0 where
  pub board : Board
  pub calls : List Call
  pub contents : Contents

-- a change that is accepted fills the registers of the regions that it takes
abbrev pub refilled : Result Edit Refusal → Contents → Contents
refilled (Ok edit) contents array addr = if list_any (is_in array addr) (fresh_of edit) then start_in edit else contents array addr
refilled (Err why) contents array addr = contents array addr

abbrev pub filled_by : Board → Step → Contents → Contents
filled_by board (Change change) contents = refilled (judged board.profile.shape (outlines board.records) (change_of change)) contents
filled_by board (Enter packet) contents = contents
filled_by board (Advance group) contents = contents
filled_by board Show contents = contents

-- the moment behind a move: first its operations, then what the step fills
abbrev pub behind : Moment → Step → Move → Moment
behind m step move = record {
  board = move.board;
  calls = m.calls ++ move.calls;
  contents = filled_by m.board step (all_made m.contents move.calls);
}

abbrev pub moment_after : Moment → Step → Moment
moment_after m step = behind m step (move_by m.board step)

abbrev pub serial_after : Moment → Step → Moment
serial_after m step = behind m step (serial_by m.board step)

abbrev pub first_moment : Profile → Contents → Moment
first_moment profile contents = record { board = no_tasks profile; calls = []; contents = contents }

abbrev pub ran : Moment → List Step → Moment
ran m steps = fold moment_after m steps

abbrev pub ran_serially : Moment → List Step → Moment
ran_serially m steps = fold serial_after m steps

-- each step meets its condition when its turn comes
abbrev pub MeetAll : Moment → List Step → Type 0
MeetAll m [] = Unit {0}
MeetAll m (step ∷ steps) = Meets m.board step × MeetAll (moment_after m step) steps

-- ---- what holds of every schedule

-- The tasks are those of the serial run, and on each array the operations so far are a front of the serial ones. Once
-- nobody is in flight they are equal, and so are the registers, which are laid out for the tasks.
pub record FollowsSerial (m s : Moment) : Type 0 where
  pub tasks : m.board.records ≡ s.board.records
  pub front : (array : ℕ) → IsFront (filter (is_on array) m.calls) (filter (is_on array) s.calls)
  pub calls_at_end : m.board.flying ≡ [] → (array : ℕ) → filter (is_on array) m.calls ≡ filter (is_on array) s.calls
  pub contents_at_end : m.board.flying ≡ [] → m.contents ≡ s.contents
  pub laid_at_end : m.board.flying ≡ [] → Layout m.board.profile.key m.board.records m.contents

abbrev pub KeepsSerialOrder : Type 0
KeepsSerialOrder = (profile : Profile) (contents : Contents) (steps : List Step) → IsGeometry profile.shape
    → MeetAll (first_moment profile contents) steps → FollowsSerial (ran (first_moment profile contents) steps) (ran_serially (first_moment profile contents) steps)
