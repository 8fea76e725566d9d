-- The units of a group stand in slots, of which the last may be empty.
use Rattle.std.proofs.Common.{◌≡◌, ℕ, ◌-◌, ◌<◌, ◌≤◌, List, ◌++◌, length, take, set, replicate, get_or, Option, None, ap, ap₂, sym, ◌∙◌, arith}
use Rattle.std.proofs.Math.Seq.{take-set-lt}
use Rattle.std.proofs.lemmas.List.{length-take, get_or_default, get_or-take, length-set, set-append_left, take-replicate}
use Rattle.group_keys.specs.Units.{UsedUnit, in_slots, AreInSlots, AreSound, unit_at}

-- the units after a change of one
pub units_set : (slots : List (Option UsedUnit)) (count at : ℕ) (unit : Option UsedUnit) → at < length (take count slots)
    → take count (set slots at unit) ≡ set (take count slots) at unit
units_set slots count at unit within = take-set-lt count slots at unit (omega (arith, within, length-take count slots))

pub set_in_slots : (units : List (Option UsedUnit)) (at : ℕ) (unit : Option UsedUnit) → at < length units
    → set (in_slots units) at unit ≡ in_slots (set units at unit)
set_in_slots units at unit within =
    set-append_left units (replicate (4 - length units) None) at unit within
    ∙ ap (λ n. set units at unit ++ replicate (4 - n) None) (sym (length-set units at unit))

pub slots_set : (slots : List (Option UsedUnit)) (count at : ℕ) (unit : Option UsedUnit) → at < length (take count slots)
    → AreSound (take count (set slots at unit)) → AreInSlots slots count → AreInSlots (set slots at unit) count
slots_set slots count at unit within sound h = record {
  few = h.few;
  counted = ap length (units_set slots count at unit within) ∙ length-set (take count slots) at unit ∙ h.counted;
  filled = ap (λ all. set all at unit) h.filled ∙ set_in_slots (take count slots) at unit within
      ∙ ap in_slots (sym (units_set slots count at unit within));
  sound = sound;
}

-- a change of one unit, made in its place
pub unit_changed : (change : Option UsedUnit → Option UsedUnit) (slots units : List (Option UsedUnit)) (count at : ℕ) (any new : Option UsedUnit)
    → take count slots ≡ units → at < length units → new ≡ change (get_or slots at any)
    → take count (set slots at new) ≡ set units at (change (unit_at units at))
unit_changed change slots units count at any new same within made =
    let here : at < length (take count slots) = omega (arith, within, ap length same) in
    let there : at < count = omega (arith, here, length-take count slots) in
    let read : get_or slots at any ≡ unit_at units at =
    sym (get_or-take count slots at any there) ∙ ap (λ all. get_or all at any) same ∙ get_or_default units at any None within in
    units_set slots count at new here ∙ ap₂ (λ all unit. set all at unit) same (made ∙ ap change read)

-- no unit is in use at first
pub first_units : (count : ℕ) → count ≤ 4 → take count (replicate 4 (let free : Option UsedUnit = None in free)) ≡ replicate count (let free : Option UsedUnit = None in free)
first_units count few = take-replicate count 4 (let free : Option UsedUnit = None in free) few
