-- What is true of runs.
use Rattle.std.specs.Prelude.{◌≡◌, ℕ, Bool, true, List, [], ◌∷◌, ◌++◌, map, take, filter, Result}
use Rattle.addr_translate.specs.Geometry.{IsGeometry}
use Rattle.reg_file.specs.Calls.{is_on}
use Rattle.std.specs.Str.{bytes_eq}
use Rattle.readout.specs.declared.requests.Ask as asks
use Rattle.flymon_engine.specs.declared.work.Request.TheVariants.{Task}
use Rattle.sw_profile.specs.declared.profiles.Profile.{Profile}
use Rattle.switch_model.specs.Histories.{Event, Passes, Changes, accepted, alone, part_of, name_in}
use Rattle.flymon_engine.specs.declared.work.Work.{Work}
use Rattle.flymon_engine.specs.declared.work.Work.TheVariants.{Take, Change, Ask}
use Rattle.flymon_engine.specs.declared.stop.Halt.{Halt}
use Rattle.flymon_engine.specs.Arrivals.{Arrival, Left}
use Rattle.flymon_engine.specs.Boards.{Rules}
use Rattle.flymon_engine.specs.ChangeLines.{change_of}
use Rattle.flymon_engine.specs.Runs.{Run, taken_by, step, carried, lines_of}
use Rattle.flymon_engine.specs.Stops.{Ends}
use Rattle.flymon_engine.specs.Going.{AgreesBy, going, damage_met}
use Rattle.flymon_engine.specs.Endings.{beginning, finished}
use Rattle.flymon_engine.specs.Serial.{serial_rules}
use Rattle.flymon_engine.specs.Flight.{flight_rules}

-- Where nothing fails a run ends as the whole script does, at its damage or without; a fault leaves a front of its text.
abbrev pub EndsAsTheScript : Type 0
EndsAsTheScript = (rules : Rules) (at : ℕ) (result : Result ℕ Halt) (start : Run) (works : List Work) (end : Run)
    → Ends rules at result start works end → AgreesBy rules result start works end

-- ---- isolation

-- what becomes of the tasks in a command
abbrev pub events_of : Run → Work → List Event
events_of run (Take count) = map (λ (a : Arrival). Passes a.packet) (take (taken_by run (Take count)) run.left.list)
events_of run (Change change) = Changes (change_of change) ∷ []
events_of run (Ask request) = []

-- and in several
unfoldable pub history : Run → List Work → List Event
history run [] = []
history run (work ∷ works) = events_of run work ++ history (step serial_rules run work) works

-- the packets, and the changes of one task
abbrev pub is_own : List ℕ → Event → Bool
is_own name (Passes packet) = true
is_own name (Changes change) = bytes_eq (name_in change) name

-- the accepted changes of a task, each behind the packets that came before it
abbrev pub own_history : List ℕ → Profile → Run → List Work → List Event
own_history name profile run works = filter (is_own name) (accepted profile.shape [] (history run works))

-- after these commands a read-out of a task sends these lines
abbrev pub lines_after : Profile → Left → List Work → List ℕ → asks.Ask → List ℕ
lines_after profile left works name ask = lines_of serial_rules (carried serial_rules (beginning profile left) works) (Ask (Task name ask))

-- After every run the sketch part of a task is the one that it has alone.
abbrev pub CountsAlone : Type 0
CountsAlone = (profile : Profile) (left : Left) (works : List Work) (name : List ℕ)
    → part_of name (carried serial_rules (beginning profile left) works).board.records
    ≡ alone name (own_history name profile (beginning profile left) works)

-- Two runs of one hash key, of any shapes and scripts: where a task's own accepted changes are the same, each behind the same
-- packets, its read-outs are the same, whatever stands beside it and wherever it stands.
abbrev pub AnswersAlone : Type 0
AnswersAlone = (one two : Profile) (left_one left_two : Left) (works_one works_two : List Work) (name : List ℕ) (ask : asks.Ask)
    → one.key ≡ two.key
    → own_history name one (beginning one left_one) works_one ≡ own_history name two (beginning two left_two) works_two
    → lines_after one left_one works_one name ask ≡ lines_after two left_two works_two name ask

-- ---- packets in flight

-- two runs wrote the same, have the same tasks and the same packets left, and made the same operations on each array in the
-- same order
pub record AreAlike (one two : Run) : Type 0 where
  pub text : one.text ≡ two.text
  pub tasks : one.board.records ≡ two.board.records
  pub left : one.left ≡ two.left
  pub calls : (array : ℕ) → filter (is_on array) one.calls ≡ filter (is_on array) two.calls

-- What a run does with packets before different groups at once, to the end of its commands or to the damage of the capture,
-- is what it does with one packet after another.
abbrev pub FlightIsSerial : Type 0
FlightIsSerial = (profile : Profile) (left : Left) (works : List Work) → IsGeometry profile.shape
    → (damage_met flight_rules (beginning profile left) works ≡ damage_met serial_rules (beginning profile left) works)
    × AreAlike (finished flight_rules (going flight_rules (beginning profile left) works)) (finished serial_rules (going serial_rules (beginning profile left) works))
