-- One use less after one use more.
use Rattle.std.proofs.Common.{◌≡◌, ◌≢◌, ℕ, ◌+◌, ◌-◌, ◌<◌, Bool, true, false, nat_le, if◌then◌else◌, List, [], ◌∷◌, length, set, Option, None, Some, IfSome, refl, subst, ap, sym, ◌∙◌, arith}
use Rattle.std.specs.List.{All}
use Rattle.std.proofs.lemmas.List.{get_or-set_same, get_or-set_other, set-set, set-get_or, set_comm}
use Rattle.std.proofs.lemmas.List.Elements.{All-head, All-tail}
use Rattle.std.proofs.lemmas.Bool.Decides.{nat_tests}
use Rattle.group_keys.specs.declared.uses.KeyUse.{KeyUse}
use Rattle.group_keys.specs.declared.uses.KeyUse.TheVariants.{Single, Pair}
use Rattle.group_keys.specs.Laws.{FreeRestores}
use Rattle.group_keys.specs.Units.{UsedUnit, IsUsed, AreSound, unit_at, AreUnits, served, freed, served_at, freed_at, served_units, freed_units}
use Rattle.group_keys.proofs.UseLemmas.{keys_stand}

-- a unit as it was
freed_served : (mask : List ℕ) (unit : Option UsedUnit) → IfSome unit IsUsed → freed (served mask unit) ≡ unit
freed_served mask None h = refl
freed_served mask (Some used) h = by (nat_le (used.uses + 1) 1) refl where
  by : (few : Bool) → nat_le (used.uses + 1) 1 ≡ few
      → (if few then None else (let left : Option UsedUnit = Some (record { mask = used.mask; uses = used.uses + 1 - 1 }) in left)) ≡ Some used
  by true e = grind (arith, nat_tests)
  by false e = let same : used.uses + 1 - 1 ≡ used.uses = omega arith in
      ap (λ uses. let left : Option UsedUnit = Some (record { mask = used.mask; uses = uses }) in left) same

-- the units as they were
restored_at : (units : List (Option UsedUnit)) (unit : ℕ) (mask : List ℕ) → unit < length units → IfSome (unit_at units unit) IsUsed
    → freed_at (served_at mask units unit) unit ≡ units
restored_at units unit mask within h =
    let new : Option UsedUnit = served mask (unit_at units unit) in
    let back : freed (unit_at (set units unit new) unit) ≡ unit_at units unit =
    ap freed (get_or-set_same units unit new None within) ∙ freed_served mask (unit_at units unit) h in
    set-set units unit new (freed (unit_at (set units unit new) unit))
    ∙ ap (set units unit) back ∙ set-get_or units unit None

-- what one unit becomes does not matter for the other
freed_served_apart : (units : List (Option UsedUnit)) (one two : ℕ) (mask : List ℕ) → one ≢ two
    → freed_at (served_at mask units two) one ≡ served_at mask (freed_at units one) two
freed_served_apart units one two mask apart =
    let new : Option UsedUnit = served mask (unit_at units two) in
    let left : Option UsedUnit = freed (unit_at units one) in
    ap (λ unit. set (set units two new) one (freed unit)) (get_or-set_other units two one new None apart)
    ∙ sym (set_comm units one two left new apart)
    ∙ ap (λ unit. set (set units one left) two (served mask unit)) (sym (get_or-set_other units one two left None (λ same. apart (sym same))))

restored : (units : List (Option UsedUnit)) (keys : KeyUse) (mask : List ℕ) → AreUnits units keys → AreSound units
    → freed_units (served_units units keys mask) keys ≡ units
unfolding served_units freed_units
restored units (Single unit) mask h sound =
    let within : unit < length units = All-head (λ (n : ℕ). n < length units) unit [] h.exist in
    restored_at units unit mask within (sound.each unit)
restored units (Pair one two) mask h sound =
    let first : one < length units = All-head (λ (n : ℕ). n < length units) one (two ∷ []) h.exist in
    let others : All (λ (n : ℕ). n < length units) (two ∷ []) = All-tail (λ (n : ℕ). n < length units) one (two ∷ []) h.exist in
    let second : two < length units = All-head (λ (n : ℕ). n < length units) two [] others in
    ap (λ all. freed_at all two) (freed_served_apart (served_at mask units one) one two mask (h.apart 0 1 0 (omega arith) (omega arith))
    ∙ ap (λ all. served_at mask all two) (restored_at units one mask first (sound.each one)))
    ∙ restored_at units two mask second (sound.each two)

pub free_restores : FreeRestores
free_restores units mask keys sound found =
    restored units keys mask (subst (λ (k : Option KeyUse). IfSome k (AreUnits units)) found (keys_stand units mask)) sound
