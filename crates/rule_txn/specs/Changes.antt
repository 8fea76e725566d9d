-- The answers of a change.
use Rattle.std.specs.Prelude.{◌≡◌, Option, None, Some, Result, Ok, Err}
use Rattle.placer.specs.declared.places.Refusal.TheVariants as places
use Rattle.reg_file.specs.declared.traits.ShapeFail.{ShapeFail}
use Rattle.reg_file.specs.declared.traits.ShapeFail.TheVariants as shapes
use Rattle.switch_model.specs.Changes.{Refusal, Exists, BadMemory, Misplaced, Unknown, FrozenHeld, NoRoom, NoFrozen, Edit, edited_outlines}
use Rattle.rule_txn.specs.declared.faults.StartFail.{StartFail}
use Rattle.rule_txn.specs.declared.faults.StartFail.TheVariants as starts
use Rattle.rule_txn.specs.declared.faults.AddFault.{AddFault}
use Rattle.rule_txn.specs.declared.faults.AddFault.TheVariants as added
use Rattle.rule_txn.specs.declared.faults.ResizeFault.{ResizeFault}
use Rattle.rule_txn.specs.declared.faults.ResizeFault.TheVariants as resized
use Rattle.rule_txn.specs.declared.faults.ReleaseFault.{ReleaseFault}
use Rattle.rule_txn.specs.declared.faults.ReleaseFault.TheVariants as released
use Rattle.rule_txn.specs.declared.faults.Unknown as unknown
use Rattle.rule_txn.specs.Switch.{SwitchState}

-- why a switch does not start, by why the register file got no shape
abbrev pub start_fail_of : ShapeFail → StartFail
start_fail_of shapes.Memory = starts.Memory
start_fail_of shapes.Device = starts.Device

-- why the tasks refuse a change, by its fault; none where the register file refused it
abbrev pub add_cause : AddFault → Option Refusal
add_cause added.Exists = Some Exists
add_cause (added.BadMemory size) = Some (BadMemory size)
add_cause (added.NoUnit need have) = Some (Misplaced (places.NoUnit need have))
add_cause (added.NoPartition need have) = Some (Misplaced (places.NoPartition need have))
add_cause added.Device = None

abbrev pub resize_cause : ResizeFault → Option Refusal
resize_cause resized.Unknown = Some Unknown
resize_cause resized.FrozenHeld = Some FrozenHeld
resize_cause (resized.BadMemory size) = Some (BadMemory size)
resize_cause (resized.NoRoom row) = Some (NoRoom row)
resize_cause resized.Device = None

abbrev pub remove_cause : unknown.Unknown → Option Refusal
remove_cause fault = Some Unknown

abbrev pub release_cause : ReleaseFault → Option Refusal
release_cause released.Unknown = Some Unknown
release_cause released.NoFrozen = Some NoFrozen

-- A change that the tasks allow is made, unless the register file refuses it. One that they refuse is refused for their
-- cause. Refused, all is as it was.
abbrev pub Answers : {F T : Type 0} → (F → Option Refusal) → Result Edit Refusal → Result T F → SwitchState → SwitchState → Type 0
Answers cause (Ok edit) (Ok t) old now = now ≡ record old { outlines = edited_outlines edit old.outlines }
Answers cause (Ok edit) (Err fault) old now = (cause fault ≡ None) × (now ≡ old)
Answers cause (Err why) (Ok t) old now = ⊥
Answers cause (Err why) (Err fault) old now = (cause fault ≡ Some why) × (now ≡ old)
