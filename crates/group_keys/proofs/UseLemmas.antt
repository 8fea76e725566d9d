-- The units that give a key, and what a use more or less leaves of the units of a group.
use Rattle.std.proofs.Common.{◌≡◌, ◌≢◌, ℕ, ◌<◌, ◌≤◌, true, List, [], ◌∷◌, length, get_or, Option, None, Some, IsSome, IfSome, option_map, position, refl, ap, sym, subst, arith, ⊎_elim}
use Rattle.std.specs.List.{All}
use Rattle.std.specs.Option.{option_or}
use Rattle.std.proofs.lemmas.Bool.{cases_lt, eq-eqb, ne_eqb}
use Rattle.std.proofs.lemmas.List.{get_or-set_same, get_or-set_other, get_or_past, length-set}
use Rattle.std.proofs.lemmas.List.Elements.{All-nil, All-cons, All-head, All-tail}
use Rattle.std.proofs.lemmas.List.Quantifiers.{position-Some}
use Rattle.key_mask.specs.Masks.{no_lengths}
use Rattle.group_keys.specs.declared.uses.KeyUse.{KeyUse}
use Rattle.group_keys.specs.declared.uses.KeyUse.TheVariants.{Single, Pair}
use Rattle.group_keys.specs.Units.{UsedUnit, AreSound, HasRoom, unit_at, is_free, has_mask, uses_of, times_in, AreUnits, AreInUse, xor_to, pair_for, keys_for, served, served_at, served_units}
use Rattle.group_keys.proofs.PairLemmas.{pair_from, is_pair, IsPairIn, pair_found, pair_is}
use Rattle.group_keys.proofs.SoundLemmas.{more_sound, fresh_sound}

-- ---- the three cases of a key

-- what is to be shown of a unit with the mask, of a pair and of a free unit
pub record Cases (P : KeyUse → Type 0) (units : List (Option UsedUnit)) (mask : List ℕ) : Type 0 where
  pub known : (unit : ℕ) → position (has_mask mask) units ≡ Some unit → P (Single unit)
  pub pair : (one two : ℕ) → one < two → two < length units → xor_to mask (unit_at units one) (unit_at units two) ≡ true → P (Pair one two)
  pub fresh : (unit : ℕ) → position (has_mask mask) units ≡ None → position is_free units ≡ Some unit → P (Single unit)

pub of_keys : (P : KeyUse → Type 0) (units : List (Option UsedUnit)) (mask : List ℕ) → Cases P units mask → IfSome (keys_for units mask) P
unfolding keys_for
of_keys P units mask cases =
    by (position (has_mask mask) units) (pair_from units mask 0) (position is_free units) refl refl refl where
      by : (known : Option ℕ) (pair : Option (ℕ × ℕ)) (free : Option ℕ) → position (has_mask mask) units ≡ known → pair_from units mask 0 ≡ pair
          → position is_free units ≡ free
          → IfSome (option_or (option_map Single known) (option_or (pair_for units mask) (option_map Single free))) P
      by (Some unit) pair free one two three = cases.known unit one
      by None (Some pair) free one two three =
          let h : IsPairIn (is_pair units mask) 0 (length units) pair = pair_is units mask pair two in
          subst (λ (found : Option KeyUse). IfSome (option_or found (option_map Single free)) P) (sym (pair_found units mask (Some pair) two))
          (cases.pair pair.0 pair.1 h.order (omega (arith, h.high)) h.passes)
      by None None (Some unit) one two three =
          subst (λ (found : Option KeyUse). IfSome (option_or found (Some (Single unit))) P) (sym (pair_found units mask None two))
          (cases.fresh unit one three)
      by None None None one two three =
          subst (λ (found : Option KeyUse). IfSome (option_or found None) P) (sym (pair_found units mask None two)) tt

pub of_found : (P : KeyUse → Type 0) (units : List (Option UsedUnit)) (mask : List ℕ) (keys : KeyUse) → keys_for units mask ≡ Some keys
    → Cases P units mask → P keys
of_found P units mask keys found cases = subst (λ (k : Option KeyUse). IfSome k P) found (of_keys P units mask cases)

-- ---- the units that are found exist

one_stands : (units : List (Option UsedUnit)) (unit : ℕ) → unit < length units → AreUnits units (Single unit)
one_stands units unit h = record {
  exist = All-cons (λ (n : ℕ). n < length units) unit [] h (All-nil (λ (n : ℕ). n < length units));
  apart = λ i j d before within same. omega (arith, before, within);
}

two_apart : (one two : ℕ) → one ≢ two → (i j d : ℕ) → i < j → j < 2 → get_or (one ∷ two ∷ []) i d ≢ get_or (one ∷ two ∷ []) j d
two_apart one two ne i j d before within =
    let first : i ≡ 0 = omega arith in
    let second : j ≡ 1 = omega arith in
    rw (first, second) ne

two_stand : (units : List (Option UsedUnit)) (one two : ℕ) → one < two → two < length units → AreUnits units (Pair one two)
two_stand units one two order within = record {
  exist = All-cons (λ (n : ℕ). n < length units) one (two ∷ []) (omega arith)
      (All-cons (λ (n : ℕ). n < length units) two [] within (All-nil (λ (n : ℕ). n < length units)));
  apart = two_apart one two (λ same. omega arith);
}

pub keys_stand : (units : List (Option UsedUnit)) (mask : List ℕ) → IfSome (keys_for units mask) (AreUnits units)
keys_stand units mask = of_keys (AreUnits units) units mask (record {
  known = λ unit found. one_stands units unit (position-Some (has_mask mask) units unit None found).0;
  pair = λ one two order within passes. two_stand units one two order within;
  fresh = λ unit none found. one_stands units unit (position-Some is_free units unit None found).0;
})

-- ---- which of them are in use

has_is_used : (mask : List ℕ) (unit : Option UsedUnit) → has_mask mask unit ≡ true → IsSome unit
has_is_used mask None e = cc
has_is_used mask (Some used) e = refl

xor_is_used : (mask : List ℕ) (one two : Option UsedUnit) → xor_to mask one two ≡ true → IsSome one × IsSome two
xor_is_used mask None two e = cc
xor_is_used mask (Some one) None e = cc
xor_is_used mask (Some one) (Some two) e = (refl, refl)

free_is_none : (unit : Option UsedUnit) → is_free unit ≡ true → unit ≡ None
free_is_none None e = refl
free_is_none (Some used) e = cc

-- the others are as they were
used_there : (units : List (Option UsedUnit)) (unit other : ℕ) (mask : List ℕ) → other ≢ unit
    → IsSome (unit_at units other) → IsSome (unit_at (served_at mask units unit) other)
used_there units unit other mask ne =
    subst IsSome (sym (get_or-set_other units unit other (served mask (unit_at units unit)) None ne))

-- ---- one use more on what gives a key

-- after each of its units in turn the units are sound
abbrev pub ServesSoundly : List (Option UsedUnit) → List ℕ → KeyUse → Type 0
ServesSoundly units mask (Single unit) = AreSound (served_at mask units unit)
ServesSoundly units mask (Pair one two) = AreSound (served_at mask units one) × AreSound (served_at mask (served_at mask units one) two)

known_serves : (units : List (Option UsedUnit)) (mask : List ℕ) → AreSound units → (unit : ℕ) → position (has_mask mask) units ≡ Some unit
    → ServesSoundly units mask (Single unit)
known_serves units mask h unit found =
    let at = position-Some (has_mask mask) units unit None found in
    more_sound units mask unit at.0 h (has_is_used mask (unit_at units unit) at.1)

pair_serves : (units : List (Option UsedUnit)) (mask : List ℕ) → AreSound units → (one two : ℕ) → one < two → two < length units
    → xor_to mask (unit_at units one) (unit_at units two) ≡ true → ServesSoundly units mask (Pair one two)
pair_serves units mask h one two order within passes =
    let used : IsSome (unit_at units one) × IsSome (unit_at units two) = xor_is_used mask (unit_at units one) (unit_at units two) passes in
    let first : AreSound (served_at mask units one) = more_sound units mask one (omega arith) h used.0 in (
      first,
      more_sound (served_at mask units one) mask two (omega (arith, length-set units one (served mask (unit_at units one)))) first
          (used_there units one two mask (λ same. omega arith) used.1),
    )

fresh_serves : (units : List (Option UsedUnit)) (mask : List ℕ) → AreSound units → mask ≢ no_lengths → (unit : ℕ)
    → position (has_mask mask) units ≡ None → position is_free units ≡ Some unit → ServesSoundly units mask (Single unit)
fresh_serves units mask h stands unit none found =
    let at = position-Some is_free units unit None found in
    fresh_sound units mask unit at.0 h (free_is_none (unit_at units unit) at.1) stands none

pub serves_soundly : (units : List (Option UsedUnit)) (mask : List ℕ) (keys : KeyUse) → AreSound units → mask ≢ no_lengths
    → keys_for units mask ≡ Some keys → ServesSoundly units mask keys
serves_soundly units mask keys h stands found = of_found (ServesSoundly units mask) units mask keys found (record {
  known = known_serves units mask h;
  pair = pair_serves units mask h;
  fresh = fresh_serves units mask h stands;
})

-- ---- a use is in use once it is served

times_alone : (unit : ℕ) → times_in (Single unit) unit ≤ 1
times_alone unit = rw (eq-eqb unit unit refl) (omega arith)

times_first : (one two : ℕ) → one ≢ two → times_in (Pair one two) one ≤ 1
times_first one two ne = rw (eq-eqb one one refl, ne_eqb two one (λ e. ne (sym e))) (omega arith)

times_second : (one two : ℕ) → one ≢ two → times_in (Pair one two) two ≤ 1
times_second one two ne = rw (eq-eqb two two refl, ne_eqb one two ne) (omega arith)

some_uses : (mask : List ℕ) (unit : Option UsedUnit) → 1 ≤ uses_of (served mask unit)
some_uses mask None = omega arith
some_uses mask (Some used) = omega arith

uses_here : (units : List (Option UsedUnit)) (unit : ℕ) (mask : List ℕ) → unit < length units
    → 1 ≤ uses_of (unit_at (served_at mask units unit) unit)
uses_here units unit mask h =
    subst (λ (u : Option UsedUnit). 1 ≤ uses_of u) (sym (get_or-set_same units unit (served mask (unit_at units unit)) None h))
    (some_uses mask (unit_at units unit))

uses_there : (units : List (Option UsedUnit)) (unit other : ℕ) (mask : List ℕ) → other ≢ unit
    → uses_of (unit_at (served_at mask units unit) other) ≡ uses_of (unit_at units other)
uses_there units unit other mask ne = ap uses_of (get_or-set_other units unit other (served mask (unit_at units unit)) None ne)

pub served_used : (units : List (Option UsedUnit)) (keys : KeyUse) (mask : List ℕ) → AreUnits units keys
    → AreInUse (served_units units keys mask) keys
unfolding served_units
served_used units (Single unit) mask h =
    let after : List (Option UsedUnit) = served_at mask units unit in
    let P : ℕ → Type 0 = λ n. times_in (Single unit) n ≤ uses_of (unit_at after n) in
    let within : unit < length units = All-head (λ (n : ℕ). n < length units) unit [] h.exist in
    All-cons P unit [] (omega (arith, times_alone unit, uses_here units unit mask within)) (All-nil P)
served_used units (Pair one two) mask h =
    let first : List (Option UsedUnit) = served_at mask units one in
    let after : List (Option UsedUnit) = served_at mask first two in
    let P : ℕ → Type 0 = λ n. times_in (Pair one two) n ≤ uses_of (unit_at after n) in
    let differ : one ≢ two = h.apart 0 1 0 (omega arith) (omega arith) in
    let here : one < length units = All-head (λ (n : ℕ). n < length units) one (two ∷ []) h.exist in
    let there : two < length units = All-head (λ (n : ℕ). n < length units) two [] (All-tail (λ (n : ℕ). n < length units) one (two ∷ []) h.exist) in
    let within : two < length first = omega (arith, there, length-set units one (served mask (unit_at units one))) in
    All-cons P one (two ∷ [])
    (omega (arith, times_first one two differ, uses_there first two one mask differ, uses_here units one mask here))
    (All-cons P two [] (omega (arith, times_second one two differ, uses_here first two mask within)) (All-nil P))

-- the same of units that are known to be those
pub served_now : (new units : List (Option UsedUnit)) (keys : KeyUse) (mask : List ℕ) → new ≡ served_units units keys mask
    → keys_for units mask ≡ Some keys → AreInUse new keys
served_now new units keys mask made found =
    subst (λ (all : List (Option UsedUnit)). AreInUse all keys) (sym made)
    (served_used units keys mask (subst (λ (k : Option KeyUse). IfSome k (AreUnits units)) found (keys_stand units mask)))

-- ---- a unit in use exists

used_exists : (units : List (Option UsedUnit)) (unit : ℕ) → 1 ≤ uses_of (unit_at units unit) → unit < length units
used_exists units unit h = ⊎_elim
    (λ (within : unit < length units). within)
    (λ (past : length units ≤ unit). let none : uses_of (unit_at units unit) ≡ 0 = ap uses_of (get_or_past units unit None past) in absurd (omega arith))
    (cases_lt unit (length units))

times_first_some : (one two : ℕ) → 1 ≤ times_in (Pair one two) one
times_first_some one two = rw (eq-eqb one one refl) (omega arith)

times_second_some : (one two : ℕ) → 1 ≤ times_in (Pair one two) two
times_second_some one two = rw (eq-eqb two two refl) (omega arith)

pub first_exists : (units : List (Option UsedUnit)) (one two : ℕ) → AreInUse units (Pair one two) → one < length units
first_exists units one two h = used_exists units one (omega (
  arith,
  times_first_some one two,
  All-head (λ (n : ℕ). times_in (Pair one two) n ≤ uses_of (unit_at units n)) one (two ∷ []) h,
))

pub second_exists : (units : List (Option UsedUnit)) (one two : ℕ) → AreInUse units (Pair one two) → two < length units
second_exists units one two h = used_exists units two (omega (
  arith,
  times_second_some one two,
  All-head (λ (n : ℕ). times_in (Pair one two) n ≤ uses_of (unit_at units n)) two []
      (All-tail (λ (n : ℕ). times_in (Pair one two) n ≤ uses_of (unit_at units n)) one (two ∷ []) h),
))

-- ---- what the units of a use ask, each in its turn

pub record AloneServes (units : List (Option UsedUnit)) (mask : List ℕ) (unit : ℕ) : Type 0 where
  pub exists : unit < length units
  pub sound : AreSound (served_at mask units unit)

pub record PairServes (units : List (Option UsedUnit)) (mask : List ℕ) (one two : ℕ) : Type 0 where
  pub one_exists : one < length units
  pub two_exists : two < length (served_at mask units one)
  pub two_same : unit_at (served_at mask units one) two ≡ unit_at units two
  pub one_sound : AreSound (served_at mask units one)
  pub two_sound : AreSound (served_at mask (served_at mask units one) two)

stands_at : (units : List (Option UsedUnit)) (mask : List ℕ) (keys : KeyUse) → keys_for units mask ≡ Some keys → AreUnits units keys
stands_at units mask keys found = subst (λ (k : Option KeyUse). IfSome k (AreUnits units)) found (keys_stand units mask)

pub alone_serves : (units : List (Option UsedUnit)) (mask : List ℕ) (keys : KeyUse) (unit : ℕ) → keys ≡ Single unit → AreSound units
    → mask ≢ no_lengths → keys_for units mask ≡ Some keys → AloneServes units mask unit
alone_serves units mask keys unit is sound stands found =
    let at : keys_for units mask ≡ Some (Single unit) = subst (λ (k : KeyUse). keys_for units mask ≡ Some k) is found in
    record {
      exists = All-head (λ (n : ℕ). n < length units) unit [] (stands_at units mask (Single unit) at).exist;
      sound = serves_soundly units mask (Single unit) sound stands at;
    }

pub pair_serves_both : (units : List (Option UsedUnit)) (mask : List ℕ) (keys : KeyUse) (one two : ℕ) → keys ≡ Pair one two → AreSound units
    → mask ≢ no_lengths → keys_for units mask ≡ Some keys → PairServes units mask one two
pair_serves_both units mask keys one two is sound stands found =
    let at : keys_for units mask ≡ Some (Pair one two) = subst (λ (k : KeyUse). keys_for units mask ≡ Some k) is found in
    let h : AreUnits units (Pair one two) = stands_at units mask (Pair one two) at in
    let both : AreSound (served_at mask units one) × AreSound (served_at mask (served_at mask units one) two) = serves_soundly units mask (Pair one two) sound stands at in
    let differ : one ≢ two = h.apart 0 1 0 (omega arith) (omega arith) in
    let there : two < length units = All-head (λ (n : ℕ). n < length units) two [] (All-tail (λ (n : ℕ). n < length units) one (two ∷ []) h.exist) in
    record {
      one_exists = All-head (λ (n : ℕ). n < length units) one (two ∷ []) h.exist;
      two_exists = omega (arith, there, length-set units one (served mask (unit_at units one)));
      two_same = get_or-set_other units one two (served mask (unit_at units one)) None (λ same. differ (sym same));
      one_sound = both.0;
      two_sound = both.1;
    }

pub second_room : (units : List (Option UsedUnit)) (mask : List ℕ) (one two : ℕ) → PairServes units mask one two → All HasRoom units
    → HasRoom (unit_at (served_at mask units one) two)
second_room units mask one two h room =
    let there : two < length units = omega (arith, h.two_exists, length-set units one (served mask (unit_at units one))) in
    subst HasRoom (sym h.two_same) (room two None there)
