-- Free partitions and sizes, and what the places do not depend on.
use Rattle.std.proofs.Common.{◌≡◌, ℕ, zero, suc, ◌+◌, ◌^◌, ◌<◌, ◌≤◌, ◌==◌, ◌&&◌, Bool, true, false, cond, not, if◌then◌else◌, nat_lt, nat_le, List, [], ◌∷◌, length, take, filter, get_or, slice_index_or, position, Option, None, Some, is_some, Ok, Err, refl, ap, ap₂, sym, ◌∙◌, arith}
use Rattle.std.specs.List.{All, filter_map, cons_option, find, list_all, range_with_len}
use Rattle.std.proofs.lemmas.Bool.{and_parts, leb-true, eqb-true}
use Rattle.std.proofs.lemmas.List.Sums.{fails_before_first}
use Rattle.lists.proofs.PlaceLemmas.{position_none}
use Rattle.std.proofs.lemmas.List.Elements.{All-head, All-tail}
use Rattle.addr_translate.specs.Blocks.{Block}
use Rattle.addr_translate.specs.Geometry.{Geometry, array_count, bits_of, least_bits_of, group_number}
use Rattle.partition_pool.specs.Regions.{IsPartition, is_free, free_block}
use Rattle.partition_pool.specs.Pools.{PoolState, least_bits}
use Rattle.partition_pool.proofs.Pools.{IsFound, is_found}
use Rattle.group_keys.specs.Units.{keys_for}
use Rattle.lists.specs.Sorting.{put_by, sort_by}
use Rattle.match_table.specs.declared.entries.Entry.{Entry}
use Rattle.match_table.specs.Tables.{admits, is_apart}
use Rattle.sketch_defs.specs.declared.kinds.Kind.{Kind}
use Rattle.sketch_defs.specs.Tasks.{Sketch}
use Rattle.placer.specs.declared.places.Refusal.TheVariants.{NoUnit, NoPartition}
use Rattle.placer.specs.Sights.{Sight, rules_at, units_at, taken_at, region_in, region_for, may_have, bits_for}
use Rattle.placer.specs.Placement.{is_open, place_of, place_on, counted, open_arrays, places_for, placed, pool_at, is_full, first_full}
use Rattle.placer.proofs.PlacementLemmas.{range_below}

-- ---- free partitions

-- what is found in an array of 2 ^ array_bits registers is a free partition of the size
pub region_found : (array_bits least : ℕ) (taken : List Block) (bits : ℕ) (region : Block) → array_bits ≤ 20
    → region_in array_bits least taken bits ≡ Some region → IsFound taken least array_bits bits region
region_found array_bits least taken bits region small = by (nat_le least bits)
    (nat_le bits array_bits) refl refl where
      by : (t u : Bool) → nat_le least bits ≡ t → nat_le bits array_bits ≡ u
          → (if t && u then free_block taken array_bits bits else None) ≡ Some region
          → IsFound taken least array_bits bits region
      by true true e d found = is_found taken least array_bits bits region (leb-true least bits e)
          (leb-true bits array_bits d) small found
      by true false e d found = absurd (cc)
      by false u e d found = absurd (cc)

pub region_for_found : (geometry : Geometry) (sight : Sight) (bits array : ℕ) (region : Block)
    → bits_of geometry array ≤ 20
    → region_for geometry sight bits array ≡ Some region
    → IsPartition (least_bits_of geometry array) (bits_of geometry array) region × (region.bits ≡ bits) ×
    (is_free (taken_at sight array) region ≡ true)
region_for_found geometry sight bits array region small found =
    let is = region_found (bits_of geometry array) (least_bits_of geometry array)
    (taken_at sight array) bits region small found in
    (is.partition, is.size, is.free)

-- ---- sizes

pub record IsSize (geometry : Geometry) (kind : Kind) (size bits : ℕ) : Type 0 where
  pub power : 2 ^ bits ≡ size
  pub few : bits ≤ 20
  pub allowed : may_have geometry kind bits ≡ true

size_among : (geometry : Geometry) (kind : Kind) (size a n bits : ℕ)
    → find (λ b. may_have geometry kind b && 2 ^ b == size) (range_with_len a n) ≡ Some bits
    → (2 ^ bits ≡ size) × (bits < a + n) × (may_have geometry kind bits ≡ true)
size_among geometry kind size a zero bits found = absurd (cc)
size_among geometry kind size a (suc n) bits found =
    by (λ later. size_among geometry kind size (a + 1) n bits later)
    (may_have geometry kind a && 2 ^ a == size) refl found where
      by : (find (λ b. may_have geometry kind b && 2 ^ b == size) (range_with_len (a + 1) n) ≡ Some bits
          → (2 ^ bits ≡ size) × (bits < a + 1 + n) × (may_have geometry kind bits ≡ true))
          → (t : Bool) → (may_have geometry kind a && 2 ^ a == size) ≡ t
          → cond t (Some a) (find (λ b. may_have geometry kind b && 2 ^ b == size) (range_with_len (a + 1) n))
          ≡ Some bits
          → (2 ^ bits ≡ size) × (bits < a + suc n) × (may_have geometry kind bits ≡ true)
      by rest false e d = let h = rest d in (h.0, omega (arith, h.1), h.2)
      by rest true e d =
          let same : a ≡ bits = cc in
          let parts = and_parts (may_have geometry kind a) (2 ^ a == size) e in
          (ap (λ b. 2 ^ b) (sym same) ∙ eqb-true (2 ^ a) size parts.1, omega (arith, same), ap (may_have geometry kind) (sym same) ∙ parts.0)

size_below : (geometry : Geometry) (kind : Kind) (size n bits : ℕ) → n ≡ 21
    → find (λ b. may_have geometry kind b && 2 ^ b == size) (range_with_len 0 n) ≡ Some bits
    → IsSize geometry kind size bits
size_below geometry kind size n bits e found =
    let h = size_among geometry kind size 0 n bits found in
    record { power = h.0; few = omega (arith, h.1, e); allowed = h.2 }

pub size_is : (geometry : Geometry) (kind : Kind) (size bits : ℕ) → bits_for geometry kind size ≡ Some bits
    → IsSize geometry kind size bits
unfolding bits_for
size_is geometry kind size bits found = size_below geometry kind size 21 bits refl found

-- ---- what the places do not depend on

filter_alike : {X : Type 0} (p q : X → Bool) (xs : List X) → All (λ x. p x ≡ q x) xs
    → filter p xs ≡ filter q xs
filter_alike p q [] alike = refl
filter_alike p q (x ∷ xs) alike =
    ap₂ (λ t rest. cond t (x ∷ rest) rest) (All-head (λ x. p x ≡ q x) x xs alike)
    (filter_alike p q xs (All-tail (λ x. p x ≡ q x) x xs alike))

filter_map_alike : {X Y : Type 0} (p q : X → Option Y) (xs : List X) → All (λ x. p x ≡ q x) xs
    → filter_map p xs ≡ filter_map q xs
filter_map_alike p q [] alike = refl
filter_map_alike p q (x ∷ xs) alike =
    ap₂ cons_option (All-head (λ x. p x ≡ q x) x xs alike)
    (filter_map_alike p q xs (All-tail (λ x. p x ≡ q x) x xs alike))

-- two sights in which each array leaves the filter room alike, with the same units and the same regions
pub record AreAlike (geometry : Geometry) (task : Sketch) (one two : Sight) : Type 0 where
  pub rules : (array : ℕ) → array < array_count geometry
      → admits (rules_at one array) task.filter ≡ admits (rules_at two array) task.filter
  pub units : one.units ≡ two.units
  pub taken : one.taken ≡ two.taken

open_alike : (geometry : Geometry) (task : Sketch) (one two : Sight) → AreAlike geometry task one two
    → (array : ℕ) → array < array_count geometry
    → is_open geometry one task array ≡ is_open geometry two task array
open_alike geometry task one two alike array within =
    ap₂ (λ t units. t && is_some (keys_for (slice_index_or units (group_number geometry array) []) task.key))
    (alike.rules array within) alike.units

place_alike : (geometry : Geometry) (task : Sketch) (bits : ℕ) (one two : Sight)
    → AreAlike geometry task one two → (array : ℕ) → array < array_count geometry
    → place_on geometry one task bits array ≡ place_on geometry two task bits array
place_alike geometry task bits one two alike array within =
    ap₂ (λ t units. if t then place_of array (keys_for (slice_index_or units (group_number geometry array) []) task.key) (region_for geometry one bits array) else None) (alike.rules array within) alike.units
    ∙ ap (λ taken. if admits (rules_at two array) task.filter
    then place_of array (keys_for (units_at geometry two array) task.key)
    (region_in (bits_of geometry array) (least_bits_of geometry array) (slice_index_or taken array []) bits)
    else None) alike.taken

pub placed_alike : (geometry : Geometry) (task : Sketch) (bits : ℕ) (one two : Sight)
    → AreAlike geometry task one two
    → placed geometry one task bits ≡ placed geometry two task bits
unfolding placed open_arrays places_for
placed_alike geometry task bits one two alike =
    let count : ℕ = array_count geometry in
    let arrays : List ℕ = range_with_len 0 count in
    let below : All (λ a. a < count) arrays = range_below count 0 count (omega arith) in
    let opens : open_arrays geometry one task ≡ open_arrays geometry two task =
    ap (counted task.kind (group_number geometry))
    (filter_alike (is_open geometry one task) (is_open geometry two task) arrays (λ k d within. open_alike geometry task one two alike (get_or arrays k d) (below k d within))) in
    let places : places_for geometry one task bits ≡ places_for geometry two task bits =
    ap (counted task.kind (λ place. group_number geometry place.array))
    (filter_map_alike (place_on geometry one task bits) (place_on geometry two task bits) arrays (λ k d within. place_alike geometry task bits one two alike (get_or arrays k d) (below k d within))) in
    ap₂ (λ ns ps. if nat_lt (length ns) task.rows then Err (NoUnit task.rows (length ns))
    else (if nat_lt (length ps) task.rows then Err (NoPartition task.rows (length ps)) else Ok (take task.rows ps))) opens places

-- in which order an array's entries stand is all the same
and_swap : (a b c : Bool) → (b && (a && c)) ≡ (a && (b && c))
and_swap true true c = refl
and_swap true false c = refl
and_swap false true c = refl
and_swap false false c = refl

all_put : {X : Type 0} (p : X → Bool) (first : X → X → Bool) (x : X) (ys : List X)
    → list_all p (put_by first x ys) ≡ (p x && list_all p ys)
all_put p first x [] = refl
all_put p first x (y ∷ ys) = by (all_put p first x ys) (first x y) where
  by : list_all p (put_by first x ys) ≡ (p x && list_all p ys) → (t : Bool)
      → list_all p (if t then x ∷ y ∷ ys else (y ∷ put_by first x ys)) ≡ (p x && (p y && list_all p ys))
  by rest true = refl
  by rest false = ap (λ t. p y && t) rest ∙ and_swap (p x) (p y) (list_all p ys)

pub all_sorted : {X : Type 0} (p : X → Bool) (first : X → X → Bool) (xs : List X)
    → list_all p (sort_by first xs) ≡ list_all p xs
all_sorted p first [] = refl
all_sorted p first (x ∷ xs) = all_put p first x (sort_by first xs)
    ∙ ap (λ t. p x && t) (all_sorted p first xs)

pub placed_same : (geometry : Geometry) (task : Sketch) (bits : ℕ) (one two : Sight)
    (first : Entry → Entry → Bool)
    → ((array : ℕ) → array < array_count geometry → sort_by first (rules_at one array) ≡ sort_by first (rules_at two array))
    → one.units ≡ two.units → one.taken ≡ two.taken
    → placed geometry one task bits ≡ placed geometry two task bits
placed_same geometry task bits one two first sorted units taken =
    placed_alike geometry task bits one two (record {
      rules = λ array within.
          sym (all_sorted (is_apart task.filter) first (rules_at one array))
          ∙ ap (list_all (is_apart task.filter)) (sorted array within)
          ∙ all_sorted (is_apart task.filter) first (rules_at two array);
      units = units;
      taken = taken;
    })
