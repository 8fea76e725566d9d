-- How a read-out ends: it is refused, or carried out, or stopped by a fault.
use Rattle.std.specs.Prelude.{◌≡◌, ℕ, List, ◌++◌, Option, IfSome, IfOk, Result, Ok, Err}
use Rattle.outside.specs.Faults.{Rose}
use Rattle.outside.specs.Told.{Stays}
use Rattle.outside.specs.Sent.{CameSoFar, CameInFront, Sends}
use Rattle.fm_io.specs.declared.traits.Sink.{Ghosts as SinkGhosts}
use Rattle.reg_file.specs.declared.traits.RegFile.{Ghosts as FileGhosts}
use Rattle.reg_file.specs.Registers.{Contents}
use Rattle.readout.specs.declared.faults.ReadFault.{ReadFault}
use Rattle.readout.specs.declared.faults.ReadFault.TheVariants as faults
use Rattle.readout.specs.declared.refusals.Refusal.{Refusal}
use Rattle.readout.specs.declared.refusals.Refusal.TheVariants.{Unknown, NoFrozen, NoAnswer, BadKey}
use Rattle.readout.specs.declared.refusals.Stop.{Stop}
use Rattle.readout.specs.declared.refusals.Stop.TheVariants.{Device, Write}
use Rattle.readout.specs.Answers.{Answer}

-- lines were sent or there is a refusal, unless a fault stopped it
abbrev pub Outcome : Type 0
Outcome = Result (Result (Unit {0}) Refusal) Stop

-- the outcome that a call tells by its fault
abbrev pub outcome_of : Result (Unit {0}) ReadFault → Outcome
outcome_of (Ok x) = Ok (Ok x)
outcome_of (Err faults.Unknown) = Ok (Err Unknown)
outcome_of (Err faults.NoFrozen) = Ok (Err NoFrozen)
outcome_of (Err faults.NoAnswer) = Ok (Err NoAnswer)
outcome_of (Err faults.BadKey) = Ok (Err BadKey)
outcome_of (Err faults.Device) = Err Device
outcome_of (Err faults.Write) = Err Write

-- the outcome where nothing is refused
abbrev pub outcome_of_sent : Result (Unit {0}) Stop → Outcome
outcome_of_sent (Ok x) = Ok (Ok x)
outcome_of_sent (Err stop) = Err stop

-- it was not refused
abbrev pub IsAllowed : Outcome → Type 0
IsAllowed (Ok (Ok x)) = Unit {0}
IsAllowed (Ok (Err refusal)) = ⊥
IsAllowed (Err stop) = Unit {0}

-- it is refused where the answer is a refusal, and nothing is sent; where the answer is lines, it is not
abbrev pub Judges : Answer → Option (List ℕ) → Outcome → Option (List ℕ) → Type 0
Judges (Err refusal) before outcome after = (outcome ≡ Ok (Err refusal)) × Stays before after
Judges (Ok lines) before outcome after = IsAllowed outcome

-- It is judged alike whatever the registers hold. Where they tell what they hold, the lines of the answer over it are sent, or a
-- proper front of them where a fault stopped it.
pub record Replies (answer : Contents → Answer) (cells : Option Contents) (before : Option (List ℕ)) (outcome : Outcome) (after : Option (List ℕ)) : Type 0 where
  pub verdict : (told : Contents) → Judges (answer told) before outcome after
  pub sent : IfSome cells (λ told. IfOk (answer told) (λ lines. Sends before lines outcome after))

-- the count of the registers or of the sink rose
abbrev pub IsStopOf : {R S : Type 0} → FileGhosts R → SinkGhosts S → R → R → S → S → Stop → Type 0
IsStopOf file sink regs regs' out out' Device = Rose (file.faults regs) (file.faults regs')
IsStopOf file sink regs regs' out out' Write = Rose (sink.faults out) (sink.faults out')

-- a text was put behind the piece, of which what was sent is gone; a front of both was sent where a fault stopped it
abbrev pub Gathers : {T E : Type 0} → Option (List ℕ) → List ℕ → List ℕ → Result T E → List ℕ → Option (List ℕ) → Type 0
Gathers before piece text (Ok x) left after = CameSoFar before (piece ++ text) left after
Gathers before piece text (Err e) left after = CameInFront before (piece ++ text) after
