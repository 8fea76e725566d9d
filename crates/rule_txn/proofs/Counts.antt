-- How much the tasks of a switch can take: regions of an array, entries, uses of a unit, and how many tasks there can be.
use Rattle.std.proofs.Common.{◌≡◌, ℕ, suc, ◌+◌, ◌-◌, ◌*◌, ◌<◌, ◌≤◌, ◌^◌, Bool, true, false, cond, List, [], ◌∷◌, ◌++◌, length, map, refl, ap, sym, ◌∙◌, subst, arith, length-append, ⊎_elim}
use Rattle.std.specs.Prelude.{◌==◌, ◌&&◌, Option, None, Some, IfSome, ◌⊎◌}
use Rattle.std.specs.List.{All, AllPairs, filter, filter_map, list_all, cons_option}
use Rattle.std.proofs.lemmas.Bool.Decides.{nat_tests}
use Rattle.std.proofs.lemmas.List.Elements.{All-head, All-tail, All-nil, All-cons, All-append, All-map, All-weaker, filter-append}
use Rattle.std.proofs.lemmas.Nat.{pow-add}
use Rattle.std.proofs.Math.Nat.{le_of_mul-le-mul_right}
use Rattle.std.proofs.Math.Pow.{pow_mono}
use Rattle.addr_translate.specs.Blocks.{Block}
use Rattle.addr_translate.specs.Geometry.{Geometry, array_count, bits_of, least_bits_of}
use Rattle.partition_pool.specs.Regions.{InOrder, are_apart, begins_before, by_base}
use Rattle.partition_pool.proofs.Orders.{put_in_order, few_in_order}
use Rattle.match_table.proofs.ChangeLemmas.{length_sorted}
use Rattle.switch_model.specs.Records.{Row, Outline}
use Rattle.switch_model.specs.Sights.{Holding, live_holding, frozen_in, frozen_holding, held_by, all_held, taken_on}
use Rattle.switch_model.specs.Soundness.{IsPartOf, IsRow, IsTask, ShareNone, Sound}
use Rattle.switch_model.proofs.ListLemmas.{pairs_head, pairs_tail, all_flat, length_map}
use Rattle.rule_txn.proofs.Tables.{all_sorted}

-- ---- the regions of an array

abbrev pub on : List Holding → ℕ → ℕ
on held array = length (filter (λ (h : Holding). h.array == array) held)

pub record IsHeld (geometry : Geometry) (h : Holding) : Type 0 where
  pub array : h.array < array_count geometry
  pub part : IsPartOf geometry h.array h.region

frozen_held : (geometry : Geometry) (array : ℕ) (region : Option Block) → array < array_count geometry → IfSome region (IsPartOf geometry array)
    → IfSome (frozen_in array region) (IsHeld geometry)
frozen_held geometry array None lt part = tt
frozen_held geometry array (Some region) lt part = record { array = lt; part = part }

all_there : {X Y : Type 0} (P : Y → Type 0) (f : X → Option Y) (xs : List X) → All (λ x. IfSome (f x) P) xs → All P (filter_map f xs)
all_there P f [] each = All-nil P
all_there {Y = Y} P f (x ∷ xs) each = by (f x) (All-head (λ x. IfSome (f x) P) x xs each) (all_there P f xs (All-tail (λ x. IfSome (f x) P) x xs each))
  where
    by : (o : Option Y) → IfSome o P → All P (filter_map f xs) → All P (cons_option o (filter_map f xs))
    by None here rest = rest
    by (Some y) here rest = All-cons P y (filter_map f xs) here rest

rows_held : (geometry : Geometry) (o : Outline) → All (IsRow geometry o) o.rows → All (IsHeld geometry) (held_by o)
rows_held geometry o each =
    All-append (IsHeld geometry) (map live_holding o.rows) (filter_map frozen_holding o.rows)
    (All-map (IsHeld geometry) live_holding o.rows
    (All-weaker (IsRow geometry o) (λ (row : Row). IsHeld geometry (live_holding row)) (λ row is. record { array = is.array; part = is.live }) o.rows each))
    (all_there (IsHeld geometry) frozen_holding o.rows
    (All-weaker (IsRow geometry o) (λ (row : Row). IfSome (frozen_holding row) (IsHeld geometry)) (λ row is. frozen_held geometry row.array row.frozen is.array is.frozen) o.rows each))

pub all_are_held : (geometry : Geometry) (os : List Outline) → Sound geometry os → All (IsHeld geometry) (all_held os)
unfolding all_held
all_are_held geometry os sound =
    all_flat (IsHeld geometry) held_by os (All-weaker (IsTask geometry) (λ o. All (IsHeld geometry) (held_by o)) (λ o is. rows_held geometry o is.each) os sound.tasks)

kept_free : (geometry : Geometry) (a : ℕ) (h : Holding) (hs : List Holding) → h.array ≡ a → All (ShareNone h) hs
    → list_all (are_apart h.region) (map (λ (x : Holding). x.region) (filter (λ (x : Holding). x.array == a) hs)) ≡ true
kept_free geometry a h [] same apart = refl
kept_free geometry a h (x ∷ hs) same apart = by (kept_free geometry a h hs same (All-tail (ShareNone h) x hs apart)) (x.array == a) refl
  where
    by : list_all (are_apart h.region) (map (λ (x : Holding). x.region) (filter (λ (x : Holding). x.array == a) hs)) ≡ true → (b : Bool) → (x.array == a) ≡ b
        → list_all (are_apart h.region) (map (λ (x : Holding). x.region) (cond b (x ∷ filter (λ (x : Holding). x.array == a) hs) (filter (λ (x : Holding). x.array == a) hs))) ≡ true
    by rest true e =
        let on_a : x.array ≡ a = grind (arith, nat_tests) in
        ap (λ b. b && list_all (are_apart h.region) (map (λ (x : Holding). x.region) (filter (λ (x : Holding). x.array == a) hs))) (All-head (ShareNone h) x hs apart (same ∙ sym on_a)) ∙ rest
    by rest false e = rest

in_order : (geometry : Geometry) (a : ℕ) (hs : List Holding) → All (IsHeld geometry) hs → AllPairs ShareNone hs
    → InOrder (least_bits_of geometry a) 0 (2 ^ bits_of geometry a) (taken_on hs a)
in_order geometry a [] are pairs = omega arith
in_order geometry a (h ∷ hs) are pairs =
    by (in_order geometry a hs (All-tail (IsHeld geometry) h hs are) (pairs_tail ShareNone h hs pairs)) (h.array == a) refl (All-head (IsHeld geometry) h hs are)
  where
    by : InOrder (least_bits_of geometry a) 0 (2 ^ bits_of geometry a) (taken_on hs a) → (b : Bool) → (h.array == a) ≡ b → IsHeld geometry h
        → InOrder (least_bits_of geometry a) 0 (2 ^ bits_of geometry a) (by_base (map (λ (x : Holding). x.region) (cond b (h ∷ filter (λ (x : Holding). x.array == a) hs) (filter (λ (x : Holding). x.array == a) hs))))
    by rest true e is =
        let same : h.array ≡ a = grind (arith, nat_tests) in
        let part : IsPartOf geometry a h.region = subst (λ n. IsPartOf geometry n h.region) same is.part in
        let regions = map (λ (x : Holding). x.region) (filter (λ (x : Holding). x.array == a) hs) in
        put_in_order (least_bits_of geometry a) 0 (2 ^ bits_of geometry a) h.region (taken_on hs a) rest
        (all_sorted (are_apart h.region) begins_before regions ∙ kept_free geometry a h hs same (pairs_head ShareNone h hs pairs))
        part.large (omega arith) part.inside
    by rest false e is = rest

most_parts : (bits split n : ℕ) → 0 + n * 2 ^ (bits - split) ≤ 2 ^ bits → n ≤ 2 ^ split
most_parts bits split n le =
    let up : 2 ^ bits ≤ 2 ^ (split + (bits - split)) = pow_mono {i = bits} {j = split + (bits - split)} (omega arith) in
    let parts : 2 ^ (split + (bits - split)) ≡ 2 ^ split * 2 ^ (bits - split) = pow-add 2 split (bits - split) in
    let some = pow_mono {i = 0} {j = bits - split} (omega arith) in
    le_of_mul-le-mul_right {m = n} {n = 2 ^ split} {k = 2 ^ (bits - split)} (omega (arith, le, up, parts)) (omega (arith, some))

pub few_held : (geometry : Geometry) (os : List Outline) → Sound geometry os → (a : ℕ) → on (all_held os) a ≤ 2 ^ geometry.split
few_held geometry os sound a =
    let order = in_order geometry a (all_held os) (all_are_held geometry os sound) sound.regions in
    let regions = map (λ (x : Holding). x.region) (filter (λ (x : Holding). x.array == a) (all_held os)) in
    let few = few_in_order (least_bits_of geometry a) 0 (2 ^ bits_of geometry a) (taken_on (all_held os) a) order in
    let long : length (taken_on (all_held os) a) ≡ on (all_held os) a =
    length_sorted begins_before regions ∙ length_map (λ (x : Holding). x.region) (filter (λ (x : Holding). x.array == a) (all_held os)) in
    let most = most_parts (bits_of geometry a) geometry.split (length (taken_on (all_held os) a)) few in
    omega (arith, most, long)

-- ---- counts of lists

abbrev pub count : {X : Type 0} → (X → Bool) → List X → ℕ
count p xs = length (filter p xs)

pub count_append : {X : Type 0} (p : X → Bool) (xs ys : List X) → count p (xs ++ ys) ≡ count p xs + count p ys
count_append p xs ys = ap length (filter-append p xs ys) ∙ length-append (filter p xs) (filter p ys)

pub count_map : {X Y : Type 0} (p : Y → Bool) (f : X → Y) (xs : List X) → count p (map f xs) ≡ count (λ x. p (f x)) xs
count_map p f [] = refl
count_map p f (x ∷ xs) = by (count_map p f xs) (p (f x))
  where
    by : count p (map f xs) ≡ count (λ x. p (f x)) xs → (b : Bool) → length (cond b (f x ∷ filter p (map f xs)) (filter p (map f xs))) ≡ length (cond b (x ∷ filter (λ x. p (f x)) xs) (filter (λ x. p (f x)) xs))
    by rest true = ap suc rest
    by rest false = rest

-- what passes one test passes one of two others
pub count_either : {X : Type 0} (p q r : X → Bool) → ((x : X) → p x ≡ true → (q x ≡ true) ⊎ (r x ≡ true)) → (xs : List X) → count p xs ≤ count q xs + count r xs
count_either p q r either [] = omega arith
count_either p q r either (x ∷ xs) = by (count_either p q r either xs) (p x) (q x) (r x) refl refl refl
  where
    by : count p xs ≤ count q xs + count r xs → (a b c : Bool) → p x ≡ a → q x ≡ b → r x ≡ c
        → length (cond a (x ∷ filter p xs) (filter p xs)) ≤ length (cond b (x ∷ filter q xs) (filter q xs)) + length (cond c (x ∷ filter r xs) (filter r xs))
    by rest true true true e f g = omega (arith, rest)
    by rest true true false e f g = omega (arith, rest)
    by rest true false true e f g = omega (arith, rest)
    by rest true false false e f g = absurd (⊎_elim (λ (h : q x ≡ true). let bad : false ≡ true = sym f ∙ h in (cc)) (λ (h : r x ≡ true). let bad : false ≡ true = sym g ∙ h in (cc)) (either x e))
    by rest false true true e f g = omega (arith, rest)
    by rest false true false e f g = omega (arith, rest)
    by rest false false true e f g = omega (arith, rest)
    by rest false false false e f g = rest
