-- The line of a change.
use Rattle.std.specs.Prelude.{◌≡◌, ℕ, List, ◌++◌, codes, Option, None, Some, Result, Ok, Err}
use Rattle.arrayvec.specs.ArrayString.{ArrayString}
use Rattle.std.specs.Fmt.{decimal}
use Rattle.placer.specs.declared.places as places
use Rattle.placer.specs.declared.places.Refusal.TheVariants.{NoUnit, NoPartition}
use Rattle.reg_file.specs.declared.traits.DeviceFault.{DeviceFault}
use Rattle.switch_model.specs.Changes.{Refusal, Exists, BadMemory, Misplaced, Unknown, FrozenHeld, NoRoom, NoFrozen}
use Rattle.switch_model.specs.Changes as model
use Rattle.flymon_engine.specs.declared.change_lines.Reason.{Reason}
use Rattle.flymon_engine.specs.declared.change_lines.Reason.TheVariants as reasons
use Rattle.flymon_engine.specs.declared.work.Change.{Change}
use Rattle.flymon_engine.specs.declared.work.Change.TheVariants.{Add, Resize, Remove, Release}

-- a change, as the model of the switch has it
abbrev pub change_of : Change → model.Change
change_of (Add task) = model.Add task
change_of (Resize name size) = model.Resize name size
change_of (Remove name) = model.Remove name
change_of (Release name) = model.Release name

abbrev pub name_of : Change → List ℕ
name_of (Add task) = task.name
name_of (Resize name size) = name
name_of (Remove name) = name
name_of (Release name) = name

abbrev pub done_word : Change → List ℕ
done_word (Add task) = codes "added "
done_word (Resize name size) = codes "resized "
done_word (Remove name) = codes "removed "
done_word (Release name) = codes "released "

abbrev pub change_word : Change → List ℕ
change_word (Add task) = codes "add "
change_word (Resize name size) = codes "resize "
change_word (Remove name) = codes "remove "
change_word (Release name) = codes "release "

-- how many there have to be, and are
abbrev pub need_words : ℕ → ℕ → List ℕ
need_words need have = codes " need " ++ (decimal need ++ (codes " have " ++ decimal have))

abbrev pub place_words : places.Refusal.Refusal → List ℕ
place_words (NoUnit need have) = codes "no unit" ++ need_words need have
place_words (NoPartition need have) = codes "no partition" ++ need_words need have

-- why a change is refused
abbrev pub reason_words : Refusal → List ℕ
reason_words Exists = codes "exists"
reason_words (BadMemory size) = codes "bad memory " ++ decimal size
reason_words (Misplaced why) = place_words why
reason_words Unknown = codes "unknown"
reason_words FrozenHeld = codes "frozen held"
reason_words (NoRoom row) = codes "no room row " ++ decimal row
reason_words NoFrozen = codes "nothing frozen"

-- a reason, as the model of the switch has it
abbrev pub refusal_of : Reason → Refusal
refusal_of reasons.Exists = Exists
refusal_of (reasons.BadMemory size) = BadMemory size
refusal_of (reasons.NoUnit need have) = Misplaced (NoUnit need have)
refusal_of (reasons.NoPartition need have) = Misplaced (NoPartition need have)
refusal_of reasons.Unknown = Unknown
refusal_of reasons.FrozenHeld = FrozenHeld
refusal_of (reasons.NoRoom row) = NoRoom row
refusal_of reasons.NoFrozen = NoFrozen

-- `added NAME` and the like
abbrev pub done_line : Change → List ℕ
done_line change = done_word change ++ (name_of change ++ codes "\n")

-- `refused WORD NAME REASON`
abbrev pub denied_line : Change → Refusal → List ℕ
denied_line change why = codes "refused " ++ (change_word change ++ (name_of change ++ (codes " " ++ (reason_words why ++ codes "\n"))))

-- a change that was refused so is told by a line; where only the device refused it there is none
abbrev pub Tells : Option Refusal → Change → Result ArrayString DeviceFault → Type 0
Tells (Some why) change (Ok line) = line.bytes ≡ denied_line change why
Tells None change (Err fault) = Unit {0}
Tells _ change _ = ⊥
