-- What a whole script comes to, where nothing fails but the capture may be damaged.
use Rattle.std.specs.Prelude.{◌≡◌, List, [], ◌∷◌, ◌++◌, if◌then◌else◌, Option, None, Some, Result, Ok, Err}
use Rattle.flymon_engine.specs.declared.work.Work.{Work}
use Rattle.outside.specs.Sent.{IsFront}
use Rattle.capture_read.specs.declared.records.CaptureFault.{CaptureFault}
use Rattle.flymon_engine.specs.declared.stop.Halt.{Halt}
use Rattle.flymon_engine.specs.declared.stop.Halt.TheVariants.{Damage, Input, Device, Output}
use Rattle.flymon_engine.specs.Boards.{Rules}
use Rattle.flymon_engine.specs.Runs.{Run, passed, taken_by, meets, step}

-- the run that all commands lead to, or the command that meets the damage
unfoldable pub going : Rules → Run → List Work → Run
going rules run [] = run
going rules run (command ∷ commands) = if meets run command then passed rules run (taken_by run command) else going rules (step rules run command) commands

-- the damage that is met
unfoldable pub damage_met : Rules → Run → List Work → Option CaptureFault
damage_met rules run [] = None
damage_met rules run (command ∷ commands) = if meets run command then run.left.fault else damage_met rules (step rules run command) commands

pub record GoesTo (rules : Rules) (start : Run) (commands : List Work) (damage : Option CaptureFault) (end : Run) : Type 0 where
  pub damaged : damage_met rules start commands ≡ damage
  pub is : going rules start commands ≡ end

-- what the end of the commands has to do with the whole script
abbrev pub AgreesBy : {T : Type 0} → Rules → Result T Halt → Run → List Work → Run → Type 0
AgreesBy rules (Ok x) start commands end = GoesTo rules start commands None end
AgreesBy rules (Err (Damage fault)) start commands end = GoesTo rules start commands (Some fault) end
AgreesBy rules (Err Input) start commands end = IsFront end.text (going rules start commands).text
AgreesBy rules (Err Device) start commands end = IsFront end.text (going rules start commands).text
AgreesBy rules (Err Output) start commands end = IsFront end.text (going rules start commands).text
