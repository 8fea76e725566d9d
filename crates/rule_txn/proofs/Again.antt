-- A row that served its key finds the same units again.
use Rattle.std.proofs.Common.{◌≡◌, ℕ, zero, suc, ◌+◌, ◌<◌, Bool, true, false, not, cond, List, [], ◌∷◌, length, get_or, set, map, position, refl, ap, ap₂, sym, ◌∙◌, arith, length-set}
use Rattle.std.specs.Prelude.{Option, None, Some, option_map, nat_lt}
use Rattle.std.specs.Option.{option_or}
use Rattle.std.specs.Str.{bytes_eq}
use Rattle.std.specs.List.{find, range_with_len, position_or_len, prefix_len}
use Rattle.std.proofs.lemmas.List.{set-get_or}
use Rattle.std.proofs.lemmas.Bool.Decides.{nat_tests}
use Rattle.std.proofs.lemmas.List.Quantifiers.{position-Some}
use Rattle.std.proofs.lemmas.Slice.Eq.{bytes_eq-Decides}
use Rattle.group_keys.specs.declared.uses.KeyUse.{KeyUse}
use Rattle.group_keys.specs.declared.uses.KeyUse.TheVariants.{Single, Pair}
use Rattle.group_keys.specs.Units.{UsedUnit, unit_at, is_free, has_mask, xor_to, pairs_of, pair_for, keys_for, served, served_at, served_units}
use Rattle.group_keys.proofs.UseLemmas.{of_found}
use Rattle.lists.proofs.PlaceLemmas.{position_none}
use Rattle.switch_model.proofs.ListLemmas.{mapped_position}
use Rattle.rule_txn.proofs.Places.{map-set, get_or-map}

position_same : {X : Type 0} (p : X → Bool) (xs ys : List X) → map p xs ≡ map p ys → position p xs ≡ position p ys
position_same p xs ys e = sym (mapped_position (λ (b : Bool). b) p xs) ∙ ap (position (λ (b : Bool). b)) e ∙ mapped_position (λ (b : Bool). b) p ys

find_ext : {X : Type 0} (p q : X → Bool) → ((x : X) → p x ≡ q x) → (xs : List X) → find p xs ≡ find q xs
find_ext p q same [] = refl
find_ext p q same (x ∷ xs) = ap₂ (λ b r. cond b (Some x) r) (same x) (find_ext p q same xs)

-- a test that the unit answers as before
still_map : (p : Option UsedUnit → Bool) (units : List (Option UsedUnit)) (k : ℕ) (new : Option UsedUnit) → p new ≡ p (unit_at units k)
    → map p (set units k new) ≡ map p units
still_map p units k new e =
    map-set p units k new ∙ ap (set (map p units) k) (e ∙ sym (get_or-map p units k None)) ∙ set-get_or (map p units) k (p None)

still_at : (p : Option UsedUnit → Bool) (units : List (Option UsedUnit)) (k : ℕ) (new : Option UsedUnit) → p new ≡ p (unit_at units k)
    → (i : ℕ) → p (unit_at (set units k new) i) ≡ p (unit_at units i)
still_at p units k new e i =
    sym (get_or-map p (set units k new) i None) ∙ ap (λ bs. get_or bs i (p None)) (still_map p units k new e) ∙ get_or-map p units i None

-- ---- a unit in use that serves once more

same_mask : (m key : List ℕ) (o : Option UsedUnit) → is_free o ≡ false → has_mask m (served key o) ≡ has_mask m o
same_mask m key None used = absurd (cc)
same_mask m key (Some u) used = refl

same_free : (key : List ℕ) (o : Option UsedUnit) → is_free o ≡ false → is_free (served key o) ≡ is_free o
same_free key None used = absurd (cc)
same_free key (Some u) used = refl

same_xor : (m key : List ℕ) (o p : Option UsedUnit) → is_free o ≡ false → xor_to m (served key o) p ≡ xor_to m o p
same_xor m key None p used = absurd (cc)
same_xor m key (Some u) p used = refl

same_xor_second : (m key : List ℕ) (o p : Option UsedUnit) → is_free p ≡ false → xor_to m o (served key p) ≡ xor_to m o p
same_xor_second m key None p used = refl
same_xor_second m key (Some u) None used = absurd (cc)
same_xor_second m key (Some u) (Some v) used = refl

pair_same : (units : List (Option UsedUnit)) (m key : List ℕ) (k : ℕ) → is_free (unit_at units k) ≡ false → pair_for (served_at key units k) m ≡ pair_for units m
unfolding pair_for
pair_same units m key k used =
    let new = served key (unit_at units k) in
    let long : length (set units k new) ≡ length units = length-set units k new in
    let test : (i j : ℕ) → xor_to m (unit_at (set units k new) i) (unit_at (set units k new) j) ≡ xor_to m (unit_at units i) (unit_at units j) =
    λ i j. still_at (λ o. xor_to m o (unit_at (set units k new) j)) units k new (same_xor m key (unit_at units k) (unit_at (set units k new) j) used) i
    ∙ still_at (λ o. xor_to m (unit_at units i) o) units k new (same_xor_second m key (unit_at units i) (unit_at units k) used) j in
    ap (λ n. option_map (λ (pair : ℕ × ℕ). Pair pair.0 pair.1)
    (find (λ (pair : ℕ × ℕ). xor_to m (unit_at (set units k new) pair.0) (unit_at (set units k new) pair.1)) (pairs_of (range_with_len 0 n)))) long
    ∙ ap (option_map (λ (pair : ℕ × ℕ). Pair pair.0 pair.1))
    (find_ext (λ (pair : ℕ × ℕ). xor_to m (unit_at (set units k new) pair.0) (unit_at (set units k new) pair.1)) (λ (pair : ℕ × ℕ). xor_to m (unit_at units pair.0) (unit_at units pair.1))
    (λ (pair : ℕ × ℕ). test pair.0 pair.1) (pairs_of (range_with_len 0 (length units))))

keys_same : (units : List (Option UsedUnit)) (m key : List ℕ) (k : ℕ) → is_free (unit_at units k) ≡ false → keys_for (served_at key units k) m ≡ keys_for units m
unfolding keys_for
keys_same units m key k used =
    let new = served key (unit_at units k) in
    ap₂ (λ known free. option_or (option_map Single known) (option_or (pair_for (set units k new) m) (option_map Single free)))
    (position_same (has_mask m) (set units k new) units (still_map (has_mask m) units k new (same_mask m key (unit_at units k) used)))
    (position_same is_free (set units k new) units (still_map is_free units k new (same_free key (unit_at units k) used)))
    ∙ ap (λ pair. option_or (option_map Single (position (has_mask m) units)) (option_or pair (option_map Single (position is_free units)))) (pair_same units m key k used)

-- ---- a free one

first_now : {X : Type 0} (p : X → Bool) (xs : List X) (k : ℕ) (y : X) → k < length xs → position_or_len p xs ≡ length xs → p y ≡ true → position_or_len p (set xs k y) ≡ k
first_now p [] k y lt none hit = absurd (omega arith)
first_now p (x ∷ xs) zero y lt none hit = ap (λ b. cond (not b) (1 + prefix_len (λ z. not (p z)) xs) 0) hit
first_now {X} p (x ∷ xs) (suc k) y lt none hit = by (first_now p xs k y (omega arith)) (p x) refl none
  where
    by : (position_or_len p xs ≡ length xs → p y ≡ true → position_or_len p (set xs k y) ≡ k) → (b : Bool) → p x ≡ b → cond (not b) (1 + position_or_len p xs) 0 ≡ suc (length xs)
        → cond (not (p x)) (1 + position_or_len p (set xs k y)) 0 ≡ suc k
    by rest true e g = absurd (omega arith)
    by rest false e g =
        let all_ : position_or_len p xs ≡ length xs = omega arith in
        let n = rest all_ hit in
        ap (λ b. cond (not b) (1 + position_or_len p (set xs k y)) 0) e ∙ (let s : 1 + position_or_len p (set xs k y) ≡ suc k = omega arith in s)

position_is : {X : Type 0} (p : X → Bool) (xs : List X) (k : ℕ) → k < length xs → position_or_len p xs ≡ k → position p xs ≡ Some k
position_is p xs k lt e =
    let t : nat_lt (position_or_len p xs) (length xs) ≡ true = grind (arith, nat_tests) in
    ap (λ b. cond b (Some (position_or_len p xs)) None) t ∙ ap Some e

itself : (key : List ℕ) → bytes_eq key key ≡ true
itself key = (bytes_eq-Decides key key).1 refl

now_known : (key : List ℕ) (o : Option UsedUnit) → is_free o ≡ true → has_mask key (served key o) ≡ true
now_known key None free = itself key
now_known key (Some u) free = absurd (cc)

fresh_again : (units : List (Option UsedUnit)) (key : List ℕ) (k : ℕ) → position (has_mask key) units ≡ None → position is_free units ≡ Some k
    → keys_for (served_at key units k) key ≡ Some (Single k)
unfolding keys_for
fresh_again units key k none free =
    let at = position-Some is_free units k None free in
    let new = served key (unit_at units k) in
    let first : position (has_mask key) (set units k new) ≡ Some k =
    position_is (has_mask key) (set units k new) k (let n = length-set units k new in let small = at.0 in omega arith)
    (first_now (has_mask key) units k new at.0 (sym (position_none (has_mask key) units (sym none))) (now_known key (unit_at units k) at.1)) in
    ap (λ o. option_or (option_map Single o) (option_or (pair_for (set units k new) key) (option_map Single (position is_free (set units k new))))) first

-- ---- all three cases

known_used : (key : List ℕ) (o : Option UsedUnit) → has_mask key o ≡ true → is_free o ≡ false
known_used key None h = absurd (cc)
known_used key (Some u) h = refl

first_used : (m : List ℕ) (o p : Option UsedUnit) → xor_to m o p ≡ true → is_free o ≡ false
first_used m None p h = absurd (cc)
first_used m (Some u) p h = refl

second_used : (m : List ℕ) (o p : Option UsedUnit) → xor_to m o p ≡ true → is_free p ≡ false
second_used m None p h = absurd (cc)
second_used m (Some u) None h = absurd (cc)
second_used m (Some u) (Some v) h = refl

pub keys_again : (units : List (Option UsedUnit)) (key : List ℕ) (keys : KeyUse) → keys_for units key ≡ Some keys
    → keys_for (served_units units keys key) key ≡ Some keys
unfolding served_units
keys_again units key keys found = of_found P units key keys found (record {
  known = λ unit known is. keys_same units key key unit (known_used key (unit_at units unit) (position-Some (has_mask key) units unit None known).1) ∙ is;
  pair = λ one two order within passes is.
      (let used = first_used key (unit_at units one) (unit_at units two) passes in
      let other = second_used key (unit_at units one) (unit_at units two) passes in
      let new = served key (unit_at units one) in
      keys_same (served_at key units one) key key two (still_at is_free units one new (same_free key (unit_at units one) used) two ∙ other)
      ∙ keys_same units key key one used ∙ is);
  fresh = λ unit none free is. fresh_again units key unit none free;
}) found
  where
    P : KeyUse → Type 0
    P k = keys_for units key ≡ Some k → keys_for (served_units units k key) key ≡ Some k
