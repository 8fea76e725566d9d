-- A law of the units of a group.
use Rattle.std.specs.Prelude.{◌≡◌, ℕ, List, Option, Some}
use Rattle.group_keys.specs.declared.uses.KeyUse.{KeyUse}
use Rattle.group_keys.specs.Units.{UsedUnit, AreSound, keys_for, served_units, freed_units}

-- one use less, after one use more on what gives the key, leaves the units as they were
abbrev pub FreeRestores : Type 0
FreeRestores = (units : List (Option UsedUnit)) (mask : List ℕ) (keys : KeyUse) → AreSound units → keys_for units mask ≡ Some keys
    → freed_units (served_units units keys mask) keys ≡ units
