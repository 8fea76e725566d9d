-- That what holds of the units of a group at all times stays so.
use Rattle.std.proofs.Common.{◌≡◌, ◌≢◌, ℕ, ◌+◌, ◌-◌, ◌<◌, ◌≤◌, Bool, true, false, nat_le, if◌then◌else◌, List, length, set, Option, None, Some, IsSome, IfSome, position, refl, sym, subst, arith, ⊎_elim}
use Rattle.std.specs.List.{position_or_len}
use Rattle.std.specs.Str.{bytes_eq}
use Rattle.std.proofs.lemmas.Bool.{cases_eq, cases_lt}
use Rattle.std.proofs.lemmas.Bool.Decides.{nat_tests, not_from_Decides}
use Rattle.std.proofs.lemmas.Grind.{common_steps}
use Rattle.std.proofs.lemmas.List.{get_or-set_same, get_or-set_other, get_or_past}
use Rattle.std.proofs.lemmas.List.Sums.{fails_before_first}
use Rattle.std.proofs.lemmas.Slice.Eq.{bytes_eq-Decides}
use Rattle.key_mask.specs.Masks.{no_lengths}
use Rattle.group_keys.specs.Units.{UsedUnit, IsUsed, DifferInMask, AreSound, unit_at, has_mask, served, freed, served_at, freed_at}

-- ---- masks that differ

turned : (one two : Option UsedUnit) → DifferInMask one two → DifferInMask two one
turned None None h = tt
turned None (Some two) h = tt
turned (Some one) None h = tt
turned (Some one) (Some two) h = λ same. h (sym same)

-- ---- one unit changed

set_each : (units : List (Option UsedUnit)) (at : ℕ) (new : Option UsedUnit) → at < length units → AreSound units → IfSome new IsUsed
    → (unit : ℕ) → IfSome (unit_at (set units at new) unit) IsUsed
set_each units at new within h used unit = ⊎_elim
    (λ (e : unit ≡ at). subst (λ (n : ℕ). IfSome (unit_at (set units at new) n) IsUsed) (sym e)
    (subst (λ (u : Option UsedUnit). IfSome u IsUsed) (sym (get_or-set_same units at new None within)) used))
    (λ (ne : unit ≡ at → ⊥). subst (λ (u : Option UsedUnit). IfSome u IsUsed) (sym (get_or-set_other units at unit new None ne)) (h.each unit))
    (cases_eq unit at)

-- the changed unit and another one
set_first : (units : List (Option UsedUnit)) (at : ℕ) (new : Option UsedUnit) (two : ℕ) → at < length units → two ≢ at
    → DifferInMask new (unit_at units two) → DifferInMask (unit_at (set units at new) at) (unit_at (set units at new) two)
set_first units at new two within other h =
    subst (λ (u : Option UsedUnit). DifferInMask u (unit_at (set units at new) two)) (sym (get_or-set_same units at new None within))
    (subst (DifferInMask new) (sym (get_or-set_other units at two new None other)) h)

set_differ : (units : List (Option UsedUnit)) (at : ℕ) (new : Option UsedUnit) → at < length units → AreSound units
    → ((other : ℕ) → other ≢ at → DifferInMask new (unit_at units other))
    → (one two : ℕ) → one ≢ two → DifferInMask (unit_at (set units at new) one) (unit_at (set units at new) two)
set_differ units at new within h apart one two ne = ⊎_elim
    (λ (e : one ≡ at).
    let other : two ≢ at = λ f. ne (subst (λ (n : ℕ). one ≡ n) (sym f) e) in
    subst (λ (n : ℕ). DifferInMask (unit_at (set units at new) n) (unit_at (set units at new) two)) (sym e)
    (set_first units at new two within other (apart two other)))
    (λ (first : one ≡ at → ⊥). ⊎_elim
    (λ (e : two ≡ at).
    subst (λ (n : ℕ). DifferInMask (unit_at (set units at new) one) (unit_at (set units at new) n)) (sym e)
    (turned (unit_at (set units at new) at) (unit_at (set units at new) one) (set_first units at new one within first (apart one first))))
    (λ (second : two ≡ at → ⊥).
    subst (λ (u : Option UsedUnit). DifferInMask u (unit_at (set units at new) two)) (sym (get_or-set_other units at one new None first))
    (subst (DifferInMask (unit_at units one)) (sym (get_or-set_other units at two new None second)) (h.differ one two ne)))
    (cases_eq two at))
    (cases_eq one at)

set_sound : (units : List (Option UsedUnit)) (at : ℕ) (new : Option UsedUnit) → at < length units → AreSound units → IfSome new IsUsed
    → ((other : ℕ) → other ≢ at → DifferInMask new (unit_at units other)) → AreSound (set units at new)
set_sound units at new within h used apart = record {
  each = set_each units at new within h used;
  differ = set_differ units at new within h apart;
}

-- ---- one use more

-- on a unit in use
pub more_sound : (units : List (Option UsedUnit)) (mask : List ℕ) (unit : ℕ) → unit < length units → AreSound units
    → IsSome (unit_at units unit) → AreSound (served_at mask units unit)
more_sound units mask unit within h = by (unit_at units unit) (h.each unit) (λ other ne. h.differ unit other (λ e. ne (sym e))) where
  by : (old : Option UsedUnit) → IfSome old IsUsed → ((other : ℕ) → other ≢ unit → DifferInMask old (unit_at units other)) → IsSome old
      → AreSound (set units unit (served mask old))
  by None used apart some = cc
  by (Some old) used apart some =
      set_sound units unit (Some (record { mask = old.mask; uses = old.uses + 1 })) within h (record { some = omega arith; stands = used.stands }) apart

-- no unit has the mask
none_with : (units : List (Option UsedUnit)) (mask : List ℕ) → position (has_mask mask) units ≡ None → (other : ℕ)
    → IfSome (unit_at units other) (λ used. mask ≢ used.mask)
none_with units mask none other = ⊎_elim
    (λ (h : other < length units).
    let past : length units ≤ position_or_len (has_mask mask) units = grind (arith, common_steps) in
    lacks (unit_at units other) (fails_before_first (has_mask mask) units other None (omega arith)))
    (λ (h : length units ≤ other). subst (λ (u : Option UsedUnit). IfSome u (λ used. mask ≢ used.mask)) (sym (get_or_past units other None h)) tt)
    (cases_lt other (length units)) where
      lacks : (unit : Option UsedUnit) → has_mask mask unit ≡ false → IfSome unit (λ used. mask ≢ used.mask)
      lacks None e = tt
      lacks (Some used) e = λ same. not_from_Decides (bytes_eq used.mask mask) (bytes_eq-Decides used.mask mask) e (sym same)

-- on a free unit, with a mask that no unit has
pub fresh_sound : (units : List (Option UsedUnit)) (mask : List ℕ) (unit : ℕ) → unit < length units → AreSound units
    → unit_at units unit ≡ None → mask ≢ no_lengths → position (has_mask mask) units ≡ None → AreSound (served_at mask units unit)
fresh_sound units mask unit within h free stands none =
    subst (λ (old : Option UsedUnit). AreSound (set units unit (served mask old))) (sym free)
    (set_sound units unit (Some (record { mask = mask; uses = 1 })) within h (record { some = omega arith; stands = stands })
    (λ other ne. none_with units mask none other))

-- ---- one use less

pub less_sound : (units : List (Option UsedUnit)) (unit : ℕ) → unit < length units → AreSound units → AreSound (freed_at units unit)
less_sound units unit within h = by (unit_at units unit) (h.each unit) (λ other ne. h.differ unit other (λ e. ne (sym e))) where
  left : (old : UsedUnit) → IsUsed old → ((other : ℕ) → other ≢ unit → DifferInMask (Some old) (unit_at units other))
      → (last : Bool) → nat_le old.uses 1 ≡ last
      → AreSound (set units unit (if last then None else Some (record { mask = old.mask; uses = old.uses - 1 })))
  left old used apart true e = set_sound units unit None within h tt (λ other ne. tt)
  left old used apart false e =
      let some : 1 ≤ old.uses - 1 = grind (arith, nat_tests) in
      set_sound units unit (Some (record { mask = old.mask; uses = old.uses - 1 })) within h (record { some = some; stands = used.stands }) apart

  by : (old : Option UsedUnit) → IfSome old IsUsed → ((other : ℕ) → other ≢ unit → DifferInMask old (unit_at units other))
      → AreSound (set units unit (freed old))
  by None used apart = set_sound units unit None within h tt (λ other ne. tt)
  by (Some old) used apart = left old used apart (nat_le old.uses 1) refl

-- ---- no unit is in use at first
