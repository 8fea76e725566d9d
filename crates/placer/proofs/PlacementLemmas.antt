-- What holds of the places that the rule gives.
use Rattle.std.proofs.Common.{◌≡◌, ◌≢◌, ℕ, zero, suc, ◌+◌, ◌-◌, ◌<◌, ◌≤◌, ◌==◌, ◌&&◌, Bool, true, false, not, if◌then◌else◌, nat_lt, List, [], ◌∷◌, length, take, filter, get_or, Option, None, Some, is_some, Ok, Err, refl, ap, ap₂, sym, ◌∙◌, subst, arith}
use Rattle.std.specs.List.{All, AllPairs, filter_map, cons_option, range_with_len}
use Rattle.std.proofs.lemmas.Bool.{ltb-true, ltb-false, eqb-false, not-true}
use Rattle.std.proofs.lemmas.List.{length-take-le}
use Rattle.std.proofs.lemmas.List.Kept.{AllPairs-cons, AllPairs-filter}
use Rattle.std.proofs.lemmas.List.Elements.{All-cons, All-head, All-tail, All-nil, All-filter, All-take, All-weaker, filter_passes}
use Rattle.addr_translate.specs.Blocks.{Block}
use Rattle.addr_translate.specs.declared.shapes.GroupShape.{GroupShape}
use Rattle.addr_translate.specs.Geometry.{Geometry, array_count, group_number, groups_ended}
use Rattle.group_keys.specs.Units.{keys_for}
use Rattle.group_keys.specs.declared.uses.KeyUse.{KeyUse}
use Rattle.match_table.specs.Tables.{admits}
use Rattle.match_table.proofs.OrderLemmas.{pairs_first, pairs_rest}
use Rattle.sketch_defs.specs.declared.kinds.Kind.{Kind}
use Rattle.sketch_defs.specs.declared.kinds.Kind.TheVariants.{Cms, SumaxSum, SumaxMax, Bloom, Mrac, Hll, FlagOr, FlagAnd}
use Rattle.sketch_defs.specs.Tasks.{Sketch}
use Rattle.placer.specs.declared.places.Place.{Place}
use Rattle.placer.specs.declared.places.Refusal.TheVariants.{NoUnit, NoPartition}
use Rattle.placer.specs.Sights.{Sight, rules_at, units_at, region_for}
use Rattle.placer.specs.Laws.{IsPlaceOn, ArePlaces}
use Rattle.placer.specs.Placement.{place_of, place_on, first_of_groups, counted, open_arrays, places_for, placed}

-- ---- one place

pub placed_on : (geometry : Geometry) (sight : Sight) (task : Sketch) (bits array : ℕ) (place : Place)
    → place_on geometry sight task bits array ≡ Some place → IsPlaceOn geometry sight task bits array place
placed_on geometry sight task bits array place =
    by (admits (rules_at sight array) task.filter) (keys_for (units_at geometry sight array) task.key)
    (region_for geometry sight bits array) refl refl refl where
      by : (b : Bool) (keys : Option KeyUse) (region : Option Block)
          → admits (rules_at sight array) task.filter ≡ b
          → keys_for (units_at geometry sight array) task.key ≡ keys
          → region_for geometry sight bits array ≡ region
          → (if b then place_of array keys region else None) ≡ Some place
          → IsPlaceOn geometry sight task bits array place
      by false keys region a k r e = absurd (cc)
      by true None region a k r e = absurd (cc)
      by true (Some keys) None a k r e = absurd (cc)
      by true (Some keys) (Some region) a k r e = record {
        array_is = (cc);
        open_to = ap₂ (λ t o. t && is_some o) a k;
        keys_are = k ∙ (let f : keys ≡ place.keys = cc in ap Some f);
        region_is = r ∙ (let f : region ≡ place.region = cc in ap Some f);
      }

-- ---- what holds of all elements or pairs holds of those that are counted

pub All-groups : {X : Type 0} (P : X → Type 0) (group : X → ℕ) (xs : List X) → All P xs
    → All P (first_of_groups group xs)
All-groups P group [] holds = All-nil P
All-groups P group (x ∷ xs) holds =
    All-cons P x (filter (λ y. not (group y == group x)) (first_of_groups group xs)) (All-head P x xs holds)
    (All-filter (λ y. not (group y == group x)) P (first_of_groups group xs) (All-groups P group xs (All-tail P x xs holds)))

pub All-counted : {X : Type 0} (P : X → Type 0) (kind : Kind) (group : X → ℕ) (xs : List X) → All P xs
    → All P (counted kind group xs)
All-counted P Cms group xs holds = holds
All-counted P SumaxSum group xs holds = All-groups P group xs holds
All-counted P SumaxMax group xs holds = holds
All-counted P Bloom group xs holds = holds
All-counted P Mrac group xs holds = holds
All-counted P Hll group xs holds = holds
All-counted P FlagOr group xs holds = holds
All-counted P FlagAnd group xs holds = holds

pub range_below : (limit a n : ℕ) → a + n ≤ limit → All (λ b. b < limit) (range_with_len a n)
range_below limit a zero few = All-nil (λ b. b < limit)
range_below limit a (suc n) few = All-cons (λ b. b < limit) a (range_with_len (a + 1) n) (omega arith)
    (range_below limit (a + 1) n (omega arith))

-- each of them is the place on some array
pub placed_each : (geometry : Geometry) (sight : Sight) (task : Sketch) (bits limit : ℕ) (arrays : List ℕ)
    → All (λ b. b < limit) arrays
    → All (λ place. (place.array < limit) × IsPlaceOn geometry sight task bits place.array place)
    (filter_map (place_on geometry sight task bits) arrays)
placed_each geometry sight task bits limit [] below = All-nil
    (λ place. (place.array < limit) × IsPlaceOn geometry sight task bits place.array place)
placed_each geometry sight task bits limit (array ∷ arrays) below =
    by (placed_each geometry sight task bits limit arrays (All-tail (λ b. b < limit) array arrays below))
    (place_on geometry sight task bits array) refl where
      Stands : Place → Type 0
      Stands place = (place.array < limit) × IsPlaceOn geometry sight task bits place.array place

      by : All Stands (filter_map (place_on geometry sight task bits) arrays) → (o : Option Place)
          → place_on geometry sight task bits array ≡ o
          → All Stands (cons_option o (filter_map (place_on geometry sight task bits) arrays))
      by rest None e = rest
      by rest (Some place) e =
          let on : IsPlaceOn geometry sight task bits array place = placed_on geometry sight task bits array place e in
          let below_it : place.array < limit = omega
          (arith, on.array_is, All-head (λ b. b < limit) array arrays below) in
          All-cons Stands place (filter_map (place_on geometry sight task bits) arrays)
          (below_it, (let P : ℕ → Type 0 = λ a. IsPlaceOn geometry sight task bits a place in subst P (sym on.array_is) on)) rest

-- ---- the places that the rule has to choose from

pub places_each : (geometry : Geometry) (sight : Sight) (task : Sketch) (bits : ℕ)
    → All (λ place. (place.array < array_count geometry) × IsPlaceOn geometry sight task bits place.array place)
    (places_for geometry sight task bits)
unfolding places_for
places_each geometry sight task bits =
    All-counted (λ place. (place.array < array_count geometry) × IsPlaceOn geometry sight task bits place.array place) task.kind (λ place. group_number geometry place.array)
    (filter_map (place_on geometry sight task bits) (range_with_len 0 (array_count geometry)))
    (placed_each geometry sight task bits (array_count geometry) (range_with_len 0 (array_count geometry)) (range_below (array_count geometry) 0 (array_count geometry) (omega arith)))

-- ---- in which order they stand

pub pairs-groups : {X : Type 0} (R : X → X → Type 0) (group : X → ℕ) (xs : List X) → AllPairs R xs
    → AllPairs R (first_of_groups group xs)
pairs-groups R group [] holds = holds
pairs-groups R group (x ∷ xs) holds =
    AllPairs-cons R x (filter (λ y. not (group y == group x)) (first_of_groups group xs))
    (All-filter (λ y. not (group y == group x)) (R x) (first_of_groups group xs) (All-groups (R x) group xs (pairs_first R x xs holds)))
    (AllPairs-filter R (λ y. not (group y == group x)) (first_of_groups group xs) (pairs-groups R group xs (pairs_rest R x xs holds)))

pub pairs-counted : {X : Type 0} (R : X → X → Type 0) (kind : Kind) (group : X → ℕ) (xs : List X)
    → AllPairs R xs → AllPairs R (counted kind group xs)
pairs-counted R Cms group xs holds = holds
pairs-counted R SumaxSum group xs holds = pairs-groups R group xs holds
pairs-counted R SumaxMax group xs holds = holds
pairs-counted R Bloom group xs holds = holds
pairs-counted R Mrac group xs holds = holds
pairs-counted R Hll group xs holds = holds
pairs-counted R FlagOr group xs holds = holds
pairs-counted R FlagAnd group xs holds = holds

-- of two that are the first of their groups the groups differ
pub groups_differ : {X : Type 0} (group : X → ℕ) (xs : List X)
    → AllPairs (λ x y. group x ≢ group y) (first_of_groups group xs)
groups_differ group [] = λ i j d before within. absurd (omega (arith, within))
groups_differ {X} group (x ∷ xs) =
    AllPairs-cons (λ x y. group x ≢ group y) x (filter out firsts)
    (All-weaker (λ y. out y ≡ true) (λ y. group x ≢ group y) other (filter out firsts) (filter_passes out firsts))
    (AllPairs-filter (λ x y. group x ≢ group y) out firsts (groups_differ group xs)) where
      firsts : List X
      firsts = first_of_groups group xs

      out : X → Bool
      out y = not (group y == group x)

      other : (y : X) → out y ≡ true → group x ≢ group y
      other y passes same = eqb-false (group y) (group x) (not-true (group y == group x) passes) (sym same)

-- arrays that rise
pub placed_rise : (geometry : Geometry) (sight : Sight) (task : Sketch) (bits a n : ℕ)
    → AllPairs (λ one two. one.array < two.array)
    (filter_map (place_on geometry sight task bits) (range_with_len a n))
    × All (λ place. a ≤ place.array) (filter_map (place_on geometry sight task bits) (range_with_len a n))
placed_rise geometry sight task bits a zero =
    ((λ i j d before within. absurd (omega (arith, within))), All-nil (λ place. a ≤ place.array))
placed_rise geometry sight task bits a (suc n) = by (placed_rise geometry sight task bits (a + 1) n)
    (place_on geometry sight task bits a) refl where
      rest : List Place
      rest = filter_map (place_on geometry sight task bits) (range_with_len (a + 1) n)

      Rising : List Place → Type 0
      Rising places = AllPairs (λ one two. one.array < two.array) places × All (λ place. a ≤ place.array) places

      by : AllPairs (λ one two. one.array < two.array) rest × All (λ place. a + 1 ≤ place.array) rest
          → (o : Option Place) → place_on geometry sight task bits a ≡ o → Rising (cons_option o rest)
      by h None e = (h.0, All-weaker (λ place. a + 1 ≤ place.array) (λ place. a ≤ place.array) (λ place later. omega arith) rest h.1)
      by h (Some place) e =
          let here : place.array ≡ a = (placed_on geometry sight task bits a place e).array_is in (
            AllPairs-cons (λ one two. one.array < two.array) place rest
                (All-weaker (λ other. a + 1 ≤ other.array) (λ other. place.array < other.array) (λ other later. omega arith) rest h.1) h.0,
            All-cons (λ place. a ≤ place.array) place rest (omega arith)
                (All-weaker (λ place. a + 1 ≤ place.array) (λ place. a ≤ place.array) (λ place later. omega arith) rest h.1),
          )

pub places_rise : (geometry : Geometry) (sight : Sight) (task : Sketch) (bits : ℕ)
    → AllPairs (λ one two. one.array < two.array) (places_for geometry sight task bits)
unfolding places_for
places_rise geometry sight task bits =
    pairs-counted (λ one two. one.array < two.array) task.kind (λ place. group_number geometry place.array)
    (filter_map (place_on geometry sight task bits) (range_with_len 0 (array_count geometry)))
    (placed_rise geometry sight task bits 0 (array_count geometry)).0

-- a later array stands in no earlier group
ended_rises : (groups : List GroupShape) (a b : ℕ) → a ≤ b → groups_ended groups a ≤ groups_ended groups b
unfolding groups_ended
ended_rises [] a b le = omega arith
ended_rises (g ∷ gs) a b le =
    by (λ one two. ended_rises gs (a - g.cmus) (b - g.cmus) (omega (arith, le))) (nat_lt a g.cmus)
    (nat_lt b g.cmus) refl refl where
      by : (g.cmus ≤ a → g.cmus ≤ b → groups_ended gs (a - g.cmus) ≤ groups_ended gs (b - g.cmus))
          → (t u : Bool) → nat_lt a g.cmus ≡ t → nat_lt b g.cmus ≡ u
          → (if t then 0 else suc (groups_ended gs (a - g.cmus))) ≤
          (if u then 0 else suc (groups_ended gs (b - g.cmus)))
      by rest true u e d = omega arith
      by rest false true e d = absurd (omega (arith, le, ltb-false a g.cmus e, ltb-true b g.cmus d))
      by rest false false e d = omega (arith, rest (ltb-false a g.cmus e) (ltb-false b g.cmus d))

pub groups_rise : (geometry : Geometry) (sight : Sight) (task : Sketch) (bits : ℕ) → task.kind ≡ SumaxSum
    → AllPairs (λ one two. group_number geometry one.array < group_number geometry two.array)
    (places_for geometry sight task bits)
unfolding places_for
groups_rise geometry sight task bits chained = λ i j d before within.
    let group : Place → ℕ = λ place. group_number geometry place.array in
    let all : List Place = filter_map (place_on geometry sight task bits)
    (range_with_len 0 (array_count geometry)) in
    let same : counted task.kind group all
    ≡ first_of_groups group all = ap (λ kind. counted kind group all) chained in
    let Differ : List Place → Type 0 = λ ps. AllPairs (λ one two. group one ≢ group two) ps in
    let differ : Differ (counted task.kind group all) = subst Differ (sym same) (groups_differ group all) in
    let rise = ended_rises geometry.groups (get_or (counted task.kind group all) i d).array
    (get_or (counted task.kind group all) j d).array
    (omega (arith, places_rise geometry sight task bits i j d before within)) in
    omega (arith, rise, differ i j d before within)

-- ---- what is accepted

pairs-take : {X : Type 0} (R : X → X → Type 0) (n : ℕ) (xs : List X) → AllPairs R xs
    → AllPairs R (take n xs)
pairs-take R zero xs holds = λ i j d before within. absurd (omega (arith, within))
pairs-take R (suc n) [] holds = holds
pairs-take R (suc n) (x ∷ xs) holds =
    AllPairs-cons R x (take n xs) (All-take (R x) n xs (pairs_first R x xs holds))
    (pairs-take R n xs (pairs_rest R x xs holds))

taken_places : (geometry : Geometry) (sight : Sight) (task : Sketch) (bits : ℕ)
    → task.rows ≤ length (places_for geometry sight task bits)
    → ArePlaces geometry sight task bits (take task.rows (places_for geometry sight task bits))
taken_places geometry sight task bits enough =
    let all : List Place = places_for geometry sight task bits in
    let Stands : Place → Type 0 = λ place.
    (place.array < array_count geometry) × IsPlaceOn geometry sight task bits place.array place in
    let each : All Stands (take task.rows all) = All-take Stands task.rows all
    (places_each geometry sight task bits) in
    record {
      first = refl;
      counted_is = length-take-le task.rows all enough;
      exist = All-weaker Stands (λ place. place.array < array_count geometry) (λ place h. h.0)
          (take task.rows all) each;
      stand = All-weaker Stands (λ place. IsPlaceOn geometry sight task bits place.array place) (λ place h. h.1)
          (take task.rows all) each;
      rise = pairs-take (λ one two. one.array < two.array) task.rows all (places_rise geometry sight task bits);
      groups = λ chained. pairs-take
          (λ one two. group_number geometry one.array < group_number geometry two.array) task.rows all
          (groups_rise geometry sight task bits chained);
    }

pub placed_accepted : (geometry : Geometry) (sight : Sight) (task : Sketch) (bits : ℕ) (places : List Place)
    → placed geometry sight task bits ≡ Ok places → ArePlaces geometry sight task bits places
unfolding placed
placed_accepted geometry sight task bits places = by (nat_lt have task.rows)
    (nat_lt (length all) task.rows) refl where
      have : ℕ
      have = length (open_arrays geometry sight task)

      all : List Place
      all = places_for geometry sight task bits

      by : (t u : Bool) → nat_lt (length all) task.rows ≡ u
          → (if t then Err (NoUnit task.rows have) else (if u then Err (NoPartition task.rows (length all)) else Ok (take task.rows all))) ≡ Ok places
          → ArePlaces geometry sight task bits places
      by true u d e = absurd (cc)
      by false true d e = absurd (cc)
      by false false d e =
          let same : take task.rows all ≡ places = cc in
          subst (ArePlaces geometry sight task bits) same
          (taken_places geometry sight task bits (ltb-false (length all) task.rows d))
