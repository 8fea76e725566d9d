-- The hash units of a group: each is free, or in use with a mask, which is seen as its prefix lengths.
use Rattle.std.specs.Prelude.{◌≡◌, ◌≢◌, ℕ, ◌+◌, ◌-◌, ◌<◌, ◌≤◌, ◌==◌, Bool, true, false, nat_le, if◌then◌else◌, List, [], ◌∷◌, ◌++◌, length, map, take, replicate, position, fold, slice_set, Option, None, Some, IfSome, option_map}
use Rattle.std.specs.List.{All, AllPairs, count_by, find, range_with_len, slice_index_or}
use Rattle.std.specs.Option.{option_or}
use Rattle.std.specs.Str.{bytes_eq}
use Rattle.key_mask.specs.Bytes.{xor_bytes}
use Rattle.key_mask.specs.Masks.{no_lengths, mask_bytes_of}
use Rattle.group_keys.specs.declared.uses.KeyUse.{KeyUse}
use Rattle.group_keys.specs.declared.uses.KeyUse.TheVariants.{Single, Pair}

-- a unit in use: its mask, and how many times it stands in the uses of rows
pub record UsedUnit : Type 0 where
  pub mask : List ℕ
  pub uses : ℕ

-- a unit of the group, by its number
abbrev pub unit_at : List (Option UsedUnit) → ℕ → Option UsedUnit
unit_at units unit = slice_index_or units unit None

-- a unit in use has a use, and a mask that is not empty
pub record IsUsed (unit : UsedUnit) : Type 0 where
  pub some : 1 ≤ unit.uses
  pub stands : unit.mask ≢ no_lengths

-- two units, where both are in use, have different masks
abbrev pub DifferInMask : Option UsedUnit → Option UsedUnit → Type 0
DifferInMask one two = IfSome one (λ used. IfSome two (λ other. used.mask ≢ other.mask))

-- what holds of the units of a group at all times
pub record AreSound (units : List (Option UsedUnit)) : Type 0 where
  pub each : (unit : ℕ) → IfSome (unit_at units unit) IsUsed
  pub differ : (one two : ℕ) → one ≢ two → DifferInMask (unit_at units one) (unit_at units two)

-- a group has at most 4 units; they stand in so many slots, of which the last may be empty
abbrev pub in_slots : List (Option UsedUnit) → List (Option UsedUnit)
in_slots units = units ++ replicate (4 - length units) None

-- so many units stand in the slots, and the slots behind them are empty
pub record AreInSlots (slots : List (Option UsedUnit)) (count : ℕ) : Type 0 where
  pub few : count ≤ 4
  pub counted : length (take count slots) ≡ count
  pub filled : slots ≡ in_slots (take count slots)
  pub sound : AreSound (take count slots)

abbrev pub is_free : Option UsedUnit → Bool
is_free None = true
is_free (Some used) = false

-- whether a unit is in use with this mask
abbrev pub has_mask : List ℕ → Option UsedUnit → Bool
has_mask mask None = false
has_mask mask (Some used) = bytes_eq used.mask mask

-- the mask of a unit in use
abbrev pub mask_of : Option UsedUnit → Option (List ℕ)
mask_of unit = option_map (λ (used : UsedUnit). used.mask) unit

-- how many uses a unit has
abbrev pub uses_of : Option UsedUnit → ℕ
uses_of None = 0
uses_of (Some used) = used.uses

-- a unit that can have one use more
abbrev pub HasRoom : Option UsedUnit → Type 0
HasRoom unit = uses_of unit < 10000

-- the units of a use: each stands here once for each time that it serves the use
abbrev pub units_in : KeyUse → List ℕ
units_in (Single unit) = unit ∷ []
units_in (Pair one two) = one ∷ two ∷ []

-- how many times a unit serves a use
abbrev pub times_in : KeyUse → ℕ → ℕ
times_in keys unit = count_by (λ other. other == unit) (units_in keys)

-- the units of the use exist, and no two are one
pub record AreUnits (units : List (Option UsedUnit)) (keys : KeyUse) : Type 0 where
  pub exist : All (λ unit. unit < length units) (units_in keys)
  pub apart : AllPairs (λ one two. one ≢ two) (units_in keys)

-- each unit of the use has as many uses as times that it serves it, or more
abbrev pub AreInUse : List (Option UsedUnit) → KeyUse → Type 0
AreInUse units keys = All (λ unit. times_in keys unit ≤ uses_of (unit_at units unit)) (units_in keys)

-- whether two masks XOR to this one, bit by bit
abbrev pub masks_xor_to : List ℕ → List ℕ → List ℕ → Bool
masks_xor_to mask one two = bytes_eq (xor_bytes (mask_bytes_of one) (mask_bytes_of two)) (mask_bytes_of mask)

-- whether two units are in use with masks that XOR to this one
abbrev pub xor_to : List ℕ → Option UsedUnit → Option UsedUnit → Bool
xor_to mask None two = false
xor_to mask (Some one) None = false
xor_to mask (Some one) (Some two) = masks_xor_to mask one.mask two.mask

-- the pairs of these numbers, in the order of their first ones and then of their second ones
abbrev pub pairs_of : List ℕ → List (ℕ × ℕ)
pairs_of [] = []
pairs_of (one ∷ others) = map (λ two. (one, two)) others ++ pairs_of others

-- the first pair of units in use whose masks XOR to this one
unfoldable pub pair_for : List (Option UsedUnit) → List ℕ → Option KeyUse
pair_for units mask =
    option_map (λ (pair : ℕ × ℕ). Pair pair.0 pair.1)
    (find (λ (pair : ℕ × ℕ). xor_to mask (unit_at units pair.0) (unit_at units pair.1)) (pairs_of (range_with_len 0 (length units))))

-- the units that give the key of a mask: the least in use with the mask, else the first pair that XORs to it, else the least
-- free one
unfoldable pub keys_for : List (Option UsedUnit) → List ℕ → Option KeyUse
keys_for units mask =
    option_or (option_map Single (position (has_mask mask) units))
    (option_or (pair_for units mask) (option_map Single (position is_free units)))

-- a unit with one use more: a free one takes the mask
abbrev pub served : List ℕ → Option UsedUnit → Option UsedUnit
served mask None = Some (record { mask = mask; uses = 1 })
served mask (Some used) = Some (record { mask = used.mask; uses = used.uses + 1 })

-- a unit with one use less: without uses it is free
abbrev pub freed : Option UsedUnit → Option UsedUnit
freed None = None
freed (Some used) = if nat_le used.uses 1 then None else Some (record { mask = used.mask; uses = used.uses - 1 })

abbrev pub served_at : List ℕ → List (Option UsedUnit) → ℕ → List (Option UsedUnit)
served_at mask units unit = slice_set units unit (served mask (unit_at units unit))

abbrev pub freed_at : List (Option UsedUnit) → ℕ → List (Option UsedUnit)
freed_at units unit = slice_set units unit (freed (unit_at units unit))

-- the units of a group with one use more on each of a use, which is made of this mask
unfoldable pub served_units : List (Option UsedUnit) → KeyUse → List ℕ → List (Option UsedUnit)
served_units units keys mask = fold (served_at mask) units (units_in keys)

-- the units of a group with one use less on each of a use
unfoldable pub freed_units : List (Option UsedUnit) → KeyUse → List (Option UsedUnit)
freed_units units keys = fold freed_at units (units_in keys)
