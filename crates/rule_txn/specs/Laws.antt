-- What holds of every switch, whatever its changes.
use Rattle.std.specs.Prelude.{Option, Result, List}
use Rattle.addr_translate.specs.Geometry.{IsGeometry}
use Rattle.reg_file.specs.Registers.{Contents}
use Rattle.switch_model.specs.Records.{Record}
use Rattle.switch_model.specs.Changes.{Change, Refusal, judged}
use Rattle.switch_model.specs.Laws.{IsProper}
use Rattle.rule_txn.specs.Switch.{SwitchState}
use Rattle.rule_txn.specs.Changes.{Answers}
use Rattle.rule_txn.specs.Fills.{Refills}
use Rattle.rule_txn.specs.Seen.{StandsFor, records_after}

-- a change that was answered, and filled registers so, leaves a switch that stands for the tasks after it
abbrev pub ChangeStands : {F : Type 0} → (F → Option Refusal) → Type 0
ChangeStands {F} cause = (change : Change) (result : Result (Unit {0}) F) (state now : SwitchState) (records : List Record) (old new : Contents)
    → IsGeometry state.geometry → IsProper change
    → Answers cause (judged state.geometry state.outlines change) result state now
    → Refills (judged state.geometry state.outlines change) result old new
    → StandsFor state records old → StandsFor now (records_after result state.geometry change records) new
