-- What is told of the outside shows a run.
use Rattle.std.specs.Prelude.{◌≡◌, ℕ, ◌≤◌, length, take, drop, true, false, List, Option, IfSome, Result, Ok, Err}
use Rattle.std.specs.List.{All}
use Rattle.outside.specs.Told.{Grows}
use Rattle.fm_io.specs.Slots.{Cursor}
use Rattle.reg_file.specs.Registers.{Contents}
use Rattle.reg_file.specs.declared.traits.Call.{Call}
use Rattle.flymon_engine.specs.declared.work.Work.{Work}
use Rattle.flymon_engine.specs.declared.stop.Halt.{Halt}
use Rattle.flymon_engine.specs.Arrivals.{Arrival, Left}
use Rattle.flymon_engine.specs.Boards.{Board, Rules}
use Rattle.flymon_engine.specs.Runs.{Run, step, meets, passed, taken_by, carried, unmet}
use Rattle.flymon_engine.specs.Stops.{HaltsBy, Ends}

-- what was told of operations and output before the run
pub record Before : Type 0 where
  pub calls : Option (List Call)
  pub sent : Option (List ℕ)

-- machine, operations and output are as the run has them
pub record Shows (stands : Board → Contents → Type 0) (before : Before) (calls : Option (List Call)) (sent : Option (List ℕ)) (cells : Contents) (run : Run) : Type 0 where
  pub board : stands run.board cells
  pub made : Grows before.calls run.calls calls
  pub wrote : Grows before.sent run.text sent

-- and so is the capture
pub record IsAt (stands : Board → Contents → Type 0) (comes : Left → Cursor → Type 0) (before : Before)
    (calls : Option (List Call)) (sent : Option (List ℕ)) (cursor : Cursor) (cells : Contents) (run : Run) : Type 0 where
  pub shows : Shows stands before calls sent cells run
  pub left : comes run.left cursor

-- where the capture and the registers are told
abbrev pub WhereTold : Option Cursor → Option Contents → (Cursor → Contents → Type 0) → Type 0
WhereTold cursor cells P = IfSome cursor (λ t. IfSome cells (λ c. P t c))

-- the outside ends as the run does
pub record EndsAt {T : Type 0} (rules : Rules) (stands : Board → Contents → Type 0) (before : Before) (calls : Option (List Call)) (sent : Option (List ℕ))
    (result : Result T Halt) (start : Run) (commands : List Work) (cursor : Cursor) (cells : Contents) : Type 0 where
  pub end : Run
  pub ends : Ends rules cursor.at result start commands end
  pub shows : Shows stands before calls sent cells end

-- one command was carried out whole
pub record Advances (rules : Rules) (stands : Board → Contents → Type 0) (before : Before)
    (calls : Option (List Call)) (sent : Option (List ℕ)) (run : Run) (command : Work) (cells : Contents) : Type 0 where
  pub unmet : meets run command ≡ false
  pub shows : Shows stands before calls sent cells (step rules run command)

-- or it was not; `at` is the position in the capture
pub record Halts (rules : Rules) (stands : Board → Contents → Type 0) (before : Before)
    (calls : Option (List Call)) (sent : Option (List ℕ)) (halt : Halt) (run : Run) (command : Work) (at : ℕ) (cells : Contents) : Type 0 where
  pub end : Run
  pub halts : HaltsBy rules at halt run command end
  pub shows : Shows stands before calls sent cells end

-- what a command comes to that asks for no packets
abbrev pub GoesOn : {T : Type 0} → Rules → (Board → Contents → Type 0) → Before → Option (List Call) → Option (List ℕ)
    → Result T Halt → Run → Work → ℕ → Contents → Type 0
GoesOn rules stands before calls sent (Ok x) run command at cells = Advances rules stands before calls sent run command cells
GoesOn rules stands before calls sent (Err halt) run command at cells = Halts rules stands before calls sent halt run command at cells

-- a command was carried out, and the capture is where the next begins
pub record AdvancesTo (rules : Rules) (stands : Board → Contents → Type 0) (comes : Left → Cursor → Type 0) (before : Before)
    (calls : Option (List Call)) (sent : Option (List ℕ)) (run : Run) (command : Work) (cursor : Cursor) (cells : Contents) : Type 0 where
  pub advances : Advances rules stands before calls sent run command cells
  pub left : comes (step rules run command).left cursor

-- what a command comes to
abbrev pub Goes : {T : Type 0} → Rules → (Board → Contents → Type 0) → (Left → Cursor → Type 0) → Before → Option (List Call) → Option (List ℕ)
    → Result T Halt → Run → Work → Cursor → Contents → Type 0
Goes rules stands comes before calls sent (Ok x) run command cursor cells = AdvancesTo rules stands comes before calls sent run command cursor cells
Goes rules stands comes before calls sent (Err halt) run command cursor cells = Halts rules stands before calls sent halt run command cursor.at cells

-- so many packets were taken
pub record Took (rules : Rules) (stands : Board → Contents → Type 0) (comes : Left → Cursor → Type 0) (before : Before)
    (calls : Option (List Call)) (sent : Option (List ℕ)) (count : ℕ) (run : Run) (cursor : Cursor) (cells : Contents) : Type 0 where
  pub room : count ≤ length run.left.list
  pub ended : All (λ (a : Arrival). a.end ≤ cursor.at) (take count run.left.list)
  pub rest : (passed rules run count).left ≡ record { list = drop count run.left.list; fault = run.left.fault }
  pub now : IsAt stands comes before calls sent cursor cells (passed rules run count)

-- as many as were asked for, or as the capture had
pub record TookAll (rules : Rules) (stands : Board → Contents → Type 0) (comes : Left → Cursor → Type 0) (before : Before)
    (calls : Option (List Call)) (sent : Option (List ℕ)) (count : ℕ) (run : Run) (command : Work) (cursor : Cursor) (cells : Contents) : Type 0 where
  pub took : count ≡ taken_by run command
  pub unmet : meets run command ≡ false
  pub now : IsAt stands comes before calls sent cursor cells (passed rules run count)

abbrev pub TakesBy : Rules → (Board → Contents → Type 0) → (Left → Cursor → Type 0) → Before → Option (List Call) → Option (List ℕ)
    → Result ℕ Halt → Run → Work → Cursor → Contents → Type 0
TakesBy rules stands comes before calls sent (Ok count) run command cursor cells = TookAll rules stands comes before calls sent count run command cursor cells
TakesBy rules stands comes before calls sent (Err halt) run command cursor cells = Halts rules stands before calls sent halt run command cursor.at cells

-- the commands so far were carried out
pub record Reaches (rules : Rules) (stands : Board → Contents → Type 0) (comes : Left → Cursor → Type 0) (before : Before)
    (calls : Option (List Call)) (sent : Option (List ℕ)) (start : Run) (done : List Work) (cursor : Cursor) (cells : Contents) : Type 0 where
  pub unmet : unmet rules start done ≡ true
  pub now : IsAt stands comes before calls sent cursor cells (carried rules start done)
