-- Where a run stops, and what it has done there.
use Rattle.std.specs.Prelude.{◌≡◌, ℕ, ◌<◌, ◌++◌, ◌∷◌, nat_le, length, take, count_by, true, false, List, Some, Result, Ok, Err}
use Rattle.capture_read.specs.declared.records.CaptureFault.{CaptureFault}
use Rattle.flymon_engine.specs.declared.work.Change as changes
use Rattle.flymon_engine.specs.declared.work.Work.{Work}
use Rattle.flymon_engine.specs.declared.work.Work.TheVariants.{Take, Change, Ask}
use Rattle.flymon_engine.specs.declared.stop.Halt.{Halt}
use Rattle.flymon_engine.specs.declared.stop.Halt.TheVariants.{Damage, Input, Device, Output}
use Rattle.flymon_engine.specs.Arrivals.{Arrival}
use Rattle.flymon_engine.specs.Boards.{Rules, IsAccepted}
use Rattle.flymon_engine.specs.Works.{IsFilling, IsReading}
use Rattle.flymon_engine.specs.Runs.{Run, moved, sends, passed, asked_by, taken_by, meets, lines_of, done_by, carried, unmet}

-- how many of the records that are asked for end at or before this place
abbrev pub ended_by : ℕ → ℕ → List Arrival → ℕ
ended_by at asked list = count_by (λ (a : Arrival). nat_le a.end at) (take asked list)

-- a part of a change was done, and not the whole
pub record PartOf (rules : Rules) (run : Run) (change : changes.Change) (here : Run) : Type 0 where
  pub part : ℕ
  pub less : part < rules.parts run.board change
  pub is : here ≡ moved run (rules.spoil run.board change part)

-- what a command that the device refused leaves
abbrev pub SpoilsTo : Rules → Run → Work → Run → Type 0
SpoilsTo rules run (Take count) here = ⊥
SpoilsTo rules run (Change change) here = PartOf rules run change here
SpoilsTo rules run (Ask request) here = here ≡ moved run (rules.ask run.board request)

-- the device can refuse it: registers are filled or read for it, and its lines are no refusal
abbrev pub IsServed : Rules → Run → Work → Type 0
IsServed rules run (Take count) = ⊥
IsServed rules run (Change change) = IsFilling change × IsAccepted (rules.verdict run.board change)
IsServed rules run (Ask request) = IsReading request × IsAccepted (rules.answer run.board request)

-- a proper front of the lines
pub record Cuts (all front : List ℕ) : Type 0 where
  pub rest : List ℕ
  pub some : 0 < length rest
  pub whole : front ++ rest ≡ all

-- all packets that were left passed, and the next record is damaged
pub record StopsAtDamage (rules : Rules) (fault : CaptureFault) (run : Run) (command : Work) (end : Run) : Type 0 where
  pub meets : meets run command ≡ true
  pub damaged : run.left.fault ≡ Some fault
  pub is : end ≡ passed rules run (taken_by run command)

-- the packets passed whose records end at or before the position, and more were asked for
pub record StopsAtRead (rules : Rules) (at : ℕ) (run : Run) (command : Work) (end : Run) : Type 0 where
  pub less : ended_by at (asked_by command) run.left.list < asked_by command
  pub is : end ≡ passed rules run (ended_by at (asked_by command) run.left.list)

-- the device refused: nothing was done but that a front of the lines was sent
pub record StopsAtDevice (rules : Rules) (run : Run) (command : Work) (end : Run) : Type 0 where
  pub here : Run
  pub front : List ℕ
  pub served : IsServed rules run command
  pub spoiled : SpoilsTo rules run command here
  pub cuts : Cuts (lines_of rules run command) front
  pub is : end ≡ sends here front

-- the command was carried out, and a front of its lines was sent
pub record StopsAtWrite (rules : Rules) (run : Run) (command : Work) (end : Run) : Type 0 where
  pub front : List ℕ
  pub unmet : meets run command ≡ false
  pub cuts : Cuts (lines_of rules run command) front
  pub is : end ≡ sends (done_by rules run command) front

-- how a command that was not carried out whole leads from one run to another; `at` is the position in the capture
abbrev pub HaltsBy : Rules → ℕ → Halt → Run → Work → Run → Type 0
HaltsBy rules at (Damage fault) run command end = StopsAtDamage rules fault run command end
HaltsBy rules at Input run command end = StopsAtRead rules at run command end
HaltsBy rules at Device run command end = StopsAtDevice rules run command end
HaltsBy rules at Output run command end = StopsAtWrite rules run command end

-- commands were carried out, then one in part, and the rest not at all
pub record Stopped (rules : Rules) (at : ℕ) (halt : Halt) (start : Run) (commands : List Work) (end : Run) : Type 0 where
  pub done : List Work
  pub command : Work
  pub rest : List Work
  pub whole : done ++ command ∷ rest ≡ commands
  pub unmet : unmet rules start done ≡ true
  pub halts : HaltsBy rules at halt (carried rules start done) command end

-- all commands were carried out
pub record Finished (rules : Rules) (start : Run) (commands : List Work) (end : Run) : Type 0 where
  pub unmet : unmet rules start commands ≡ true
  pub is : end ≡ carried rules start commands

-- how the carrying out of commands ends
abbrev pub Ends : {T : Type 0} → Rules → ℕ → Result T Halt → Run → List Work → Run → Type 0
Ends rules at (Ok x) start commands end = Finished rules start commands end
Ends rules at (Err halt) start commands end = Stopped rules at halt start commands end
