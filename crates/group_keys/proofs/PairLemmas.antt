-- The search for a pair of units.
use Rattle.std.proofs.Common.{◌≡◌, ◌↔◌, ℕ, zero, suc, ◌+◌, ◌-◌, ◌<◌, ◌≤◌, Bool, true, false, cond, IsTrue, List, [], ◌∷◌, ◌++◌, length, map, get_or, Option, None, Some, option_map, refl, ap, ap₂, sym, ◌∙◌, subst, arith}
use Rattle.std.specs.List.{find, range_with_len}
use Rattle.std.specs.Option.{option_or}
use Rattle.std.specs.Str.{bytes_eq}
use Rattle.std.proofs.lemmas.Bool.Decides.{same_from_decides}
use Rattle.std.proofs.lemmas.List.{get_or_default}
use Rattle.std.proofs.lemmas.List.Folds.{find-append}
use Rattle.std.proofs.lemmas.Slice.Eq.{bytes_eq-Decides}
use Rattle.group_keys.specs.declared.uses.KeyUse.TheVariants.{Pair}
use Rattle.group_keys.specs.Units.{UsedUnit, unit_at, xor_to, pairs_of, pair_for}

-- a test of equal bytes
pub tested : (r : Bool) (xs ys : List ℕ) → (IsTrue r ↔ (xs ≡ ys)) → r ≡ bytes_eq xs ys
tested r xs ys h = same_from_decides r (bytes_eq xs ys) h (bytes_eq-Decides xs ys)

-- ---- a search from a number on

-- the numbers from this one to below the other
abbrev pub numbers_from : ℕ → ℕ → List ℕ
numbers_from k n = range_with_len k (n - k)

numbers_on : (k n : ℕ) → k < n → numbers_from k n ≡ k ∷ numbers_from (k + 1) n
numbers_on k n h = let e : n - k ≡ suc (n - (k + 1)) = omega arith in ap (range_with_len k) e

pub numbers_end : (k n : ℕ) → n ≤ k → numbers_from k n ≡ []
numbers_end k n h = let e : n - k ≡ 0 = omega arith in ap (range_with_len k) e

found_cons : {X : Type 0} (p : X → Bool) (x : X) (xs : List X) (b : Bool) → p x ≡ b → find p (x ∷ xs) ≡ cond b (Some x) (find p xs)
found_cons p x xs b e = ap (λ t. cond t (Some x) (find p xs)) e

pub search_on : (p : ℕ → Bool) (k n : ℕ) → k < n → p k ≡ false → find p (numbers_from k n) ≡ find p (numbers_from (k + 1) n)
search_on p k n h e = ap (find p) (numbers_on k n h) ∙ found_cons p k (numbers_from (k + 1) n) false e

-- ---- pairs from a first number on

found_mapped : {X Y : Type 0} (p : Y → Bool) (f : X → Y) (xs : List X) → find p (map f xs) ≡ option_map f (find (λ x. p (f x)) xs)
found_mapped p f [] = refl
found_mapped {X} {Y} p f (x ∷ xs) = by (p (f x)) (found_mapped p f xs) where
  by : (b : Bool) → find p (map f xs) ≡ option_map f (find (λ z. p (f z)) xs)
      → cond b (Some (f x)) (find p (map f xs)) ≡ option_map f (cond b (Some x) (find (λ z. p (f z)) xs))
  by true rest = refl
  by false rest = rest

-- the test of a pair by its numbers
abbrev pub is_pair : List (Option UsedUnit) → List ℕ → ℕ × ℕ → Bool
is_pair units mask pair = xor_to mask (unit_at units pair.0) (unit_at units pair.1)

-- the first pair whose first unit is this one or a later one
abbrev pub pair_from : List (Option UsedUnit) → List ℕ → ℕ → Option (ℕ × ℕ)
pair_from units mask k = find (is_pair units mask) (pairs_of (numbers_from k (length units)))

-- the partner of a unit
abbrev pub partner : List (Option UsedUnit) → List ℕ → ℕ → Option ℕ
partner units mask k = find (λ two. xor_to mask (unit_at units k) (unit_at units two)) (numbers_from (k + 1) (length units))

pair_on : (units : List (Option UsedUnit)) (mask : List ℕ) (k : ℕ) → k < length units
    → pair_from units mask k ≡ option_or (option_map (λ (two : ℕ). (k, two)) (partner units mask k)) (pair_from units mask (k + 1))
pair_on units mask k h =
    let others : List ℕ = numbers_from (k + 1) (length units) in
    let test : ℕ × ℕ → Bool = is_pair units mask in
    ap (λ numbers. find test (pairs_of numbers)) (numbers_on k (length units) h)
    ∙ find-append test (map (λ (two : ℕ). (k, two)) others) (pairs_of others)
    ∙ ap (λ first. option_or first (find test (pairs_of others))) (found_mapped test (λ (two : ℕ). (k, two)) others)

pub no_partner : (units : List (Option UsedUnit)) (mask : List ℕ) (k : ℕ) → k < length units → None ≡ partner units mask k
    → pair_from units mask k ≡ pair_from units mask (k + 1)
no_partner units mask k h none =
    pair_on units mask k h ∙ ap (λ (found : Option ℕ). option_or (option_map (λ (two : ℕ). (k, two)) found) (pair_from units mask (k + 1))) (sym none)

pub some_partner : (units : List (Option UsedUnit)) (mask : List ℕ) (k two : ℕ) → k < length units → Some two ≡ partner units mask k
    → pair_from units mask k ≡ Some (k, two)
some_partner units mask k two h found =
    pair_on units mask k h ∙ ap (λ (found : Option ℕ). option_or (option_map (λ (two : ℕ). (k, two)) found) (pair_from units mask (k + 1))) (sym found)

-- what the search has found by its end
pub pair_found : (units : List (Option UsedUnit)) (mask : List ℕ) (found : Option (ℕ × ℕ)) → pair_from units mask 0 ≡ found
    → pair_for units mask ≡ option_map (λ (pair : ℕ × ℕ). Pair pair.0 pair.1) found
unfolding pair_for
pair_found units mask found e =
    let whole : length units ≡ length units - 0 = omega arith in
    ap (λ n. option_map (λ (pair : ℕ × ℕ). Pair pair.0 pair.1) (find (is_pair units mask) (pairs_of (range_with_len 0 n)))) whole
    ∙ ap (option_map (λ (pair : ℕ × ℕ). Pair pair.0 pair.1)) e

pub none_left : (units : List (Option UsedUnit)) (mask : List ℕ) (k : ℕ) → length units ≤ k → pair_from units mask k ≡ None
none_left units mask k h = ap (λ numbers. find (is_pair units mask) (pairs_of numbers)) (numbers_end k (length units) h)

-- ---- what two units that are read say of the pair of their numbers

pub read_pair : (units : List (Option UsedUnit)) (mask : List ℕ) (one two : ℕ) (first second : Option UsedUnit) (t : Bool)
    → one < length units → two < length units → first ≡ get_or units one first → second ≡ get_or units two second
    → t ≡ xor_to mask first second → xor_to mask (unit_at units one) (unit_at units two) ≡ t
read_pair units mask one two first second t within there first_is second_is is =
    ap₂ (xor_to mask) (get_or_default units one None first within ∙ sym first_is) (get_or_default units two None second there ∙ sym second_is) ∙ sym is

-- ---- the pair that is found

found_number : (test : ℕ → Bool) (from count number : ℕ) → find test (range_with_len from count) ≡ Some number
    → (from ≤ number) × (number < from + count) × (test number ≡ true)
found_number test from zero number e = cc
found_number test from (suc count) number e = by (found_number test (from + 1) count number) (test from) refl e where
  by : (find test (range_with_len (from + 1) count) ≡ Some number → (from + 1 ≤ number) × (number < from + 1 + count) × (test number ≡ true))
      → (passes : Bool) → test from ≡ passes → cond passes (Some from) (find test (range_with_len (from + 1) count)) ≡ Some number
      → (from ≤ number) × (number < from + suc count) × (test number ≡ true)
  by rest true p found =
      let same : from ≡ number = cc in
      (omega arith, omega arith, subst (λ (n : ℕ). test n ≡ true) same p)
  by rest false p found = let (low, high, passes) = rest found in (omega arith, omega arith, passes)

pub record IsPairIn (test : ℕ × ℕ → Bool) (from count : ℕ) (pair : ℕ × ℕ) : Type 0 where
  pub low : from ≤ pair.0
  pub order : pair.0 < pair.1
  pub high : pair.1 < from + count
  pub passes : test pair ≡ true

pub found_pair : (test : ℕ × ℕ → Bool) (from count : ℕ) (pair : ℕ × ℕ) → find test (pairs_of (range_with_len from count)) ≡ Some pair
    → IsPairIn test from count pair
found_pair test from zero pair e = cc
found_pair test from (suc count) pair e =
    by (found_pair test (from + 1) count pair) (find (λ (two : ℕ). test (from, two)) (range_with_len (from + 1) count)) refl (sym step ∙ e) where
      others : List ℕ
      others = range_with_len (from + 1) count

      step : find test (map (λ (two : ℕ). (from, two)) (range_with_len (from + 1) count) ++ pairs_of (range_with_len (from + 1) count))
          ≡ option_or (option_map (λ (two : ℕ). (from, two)) (find (λ (two : ℕ). test (from, two)) (range_with_len (from + 1) count)))
          (find test (pairs_of (range_with_len (from + 1) count)))
      step =
          find-append test (map (λ (two : ℕ). (from, two)) (range_with_len (from + 1) count)) (pairs_of (range_with_len (from + 1) count))
          ∙ ap (λ (first : Option (ℕ × ℕ)). option_or first (find test (pairs_of (range_with_len (from + 1) count))))
          (found_mapped test (λ (two : ℕ). (from, two)) (range_with_len (from + 1) count))

      by : (find test (pairs_of (range_with_len (from + 1) count)) ≡ Some pair → IsPairIn test (from + 1) count pair)
          → (partner : Option ℕ) → find (λ (two : ℕ). test (from, two)) (range_with_len (from + 1) count) ≡ partner
          → option_or (option_map (λ (two : ℕ). (from, two)) partner) (find test (pairs_of (range_with_len (from + 1) count))) ≡ Some pair
          → IsPairIn test from (suc count) pair
      by rest (Some two) f found =
          let same : (let whole : ℕ × ℕ = (from, two) in whole) ≡ pair = cc in
          let (low, high, passes) = found_number (λ (n : ℕ). test (from, n)) (from + 1) count two f in
          subst (IsPairIn test from (suc count)) same (record { low = omega arith; order = omega arith; high = omega arith; passes = passes })
      by rest None f found =
          let h : IsPairIn test (from + 1) count pair = rest found in
          record { low = omega (arith, h.low); order = h.order; high = omega (arith, h.high); passes = h.passes }

pub pair_is : (units : List (Option UsedUnit)) (mask : List ℕ) (pair : ℕ × ℕ) → pair_from units mask 0 ≡ Some pair
    → IsPairIn (is_pair units mask) 0 (length units) pair
pair_is units mask pair e =
    let whole : length units - 0 ≡ length units = omega arith in
    found_pair (is_pair units mask) 0 (length units) pair
    (subst (λ (n : ℕ). find (is_pair units mask) (pairs_of (range_with_len 0 n)) ≡ Some pair) whole e)
