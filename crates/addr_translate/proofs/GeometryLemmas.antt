-- Where the arrays of a geometry stand, and how a shape keeps its groups.
use Rattle.std.proofs.Common.{◌≡◌, ℕ, zero, suc, ◌+◌, ◌-◌, ◌<◌, ◌≤◌, ◌++◌, Bool, true, false, List, [], ◌∷◌, max, length, map, fold, take, drop, get_or, replicate, sum_by, nat_lt, if◌then◌else◌, refl, ap, sym, ◌∙◌, arith}
use Rattle.std.specs.List.{All}
use Rattle.std.proofs.lemmas.Bool.{ltb-true, ltb-false}
use Rattle.std.proofs.lemmas.List.{take_at, drop-replicate, get_or-replicate, length-replicate}
use Rattle.std.proofs.lemmas.List.Elements.{All-get_or, All-head, All-tail, All-weaker}
use Rattle.std.proofs.lemmas.List.Sums.{sum_by-cons, sum_by_more_le, sum_by-le, get_or-le-sum_by}
use Rattle.addr_translate.specs.declared.shapes.GroupShape.{GroupShape}
use Rattle.addr_translate.specs.Geometry.{Geometry, group_in, no_group, array_count, arrays_before, groups_ended, group_number, bits_of, greatest_bits, equal_geometry, unused_group, padded_groups, IsGroup, IsGeometry, IsPadded}

abbrev cmus : GroupShape → ℕ
cmus g = g.cmus

-- ---- how many arrays there are

pub few_arrays : (geometry : Geometry) → IsGeometry geometry → array_count geometry ≤ 48
few_arrays geometry good =
    let four : All (λ (g : GroupShape). g.cmus ≤ 4) geometry.groups =
    All-weaker IsGroup (λ (g : GroupShape). g.cmus ≤ 4) (λ g kept. kept.few_cmus) geometry.groups good.each in
    omega (arith, sum_by-le cmus 4 geometry.groups four, good.few_groups)

pub some_arrays : (geometry : Geometry) → IsGeometry geometry → 1 ≤ array_count geometry
some_arrays geometry good =
    let first : IsGroup (get_or geometry.groups 0 no_group) = All-get_or IsGroup geometry.groups 0 no_group good.some_groups good.each in
    omega (arith, first.some_cmus, get_or-le-sum_by cmus geometry.groups 0 no_group good.some_groups)

-- ---- the group of an array

-- it begins at or before the array, and ends behind it
pub ended_is : (groups : List GroupShape) (n array : ℕ) → n < length groups → sum_by cmus (take n groups) ≤ array
    → array < sum_by cmus (take n groups) + (get_or groups n no_group).cmus → groups_ended groups array ≡ n
unfolding groups_ended
ended_is [] n array within from below = absurd (omega (arith, within))
ended_is (g ∷ gs) zero array within from below = by (nat_lt array g.cmus) refl where
  by : (b : Bool) → nat_lt array g.cmus ≡ b → (if b then 0 else suc (groups_ended gs (array - g.cmus))) ≡ 0
  by true e = refl
  by false e = absurd (omega (arith, ltb-false array g.cmus e))
ended_is (g ∷ gs) (suc n) array within from below =
    by (λ large. ended_is gs n (array - g.cmus) (omega (arith, within))
    (omega (arith, from, sum_by-cons cmus g (take n gs), large))
    (omega (arith, below, sum_by-cons cmus g (take n gs), large))) (nat_lt array g.cmus) refl where
      by : (g.cmus ≤ array → groups_ended gs (array - g.cmus) ≡ n)
          → (b : Bool) → nat_lt array g.cmus ≡ b → (if b then 0 else suc (groups_ended gs (array - g.cmus))) ≡ suc n
      by rest true e = absurd (omega (arith, ltb-true array g.cmus e, from, sum_by-cons cmus g (take n gs)))
      by rest false e = ap suc (rest (ltb-false array g.cmus e))

-- an array that is one of theirs stands in one of the groups
pub ended_below : (groups : List GroupShape) (array : ℕ) → array < sum_by cmus groups → groups_ended groups array < length groups
unfolding groups_ended
ended_below [] array within = absurd (omega (arith, within))
ended_below (g ∷ gs) array within =
    by (λ large. ended_below gs (array - g.cmus) (omega (arith, within, sum_by-cons cmus g gs, large))) (nat_lt array g.cmus) refl where
      by : (g.cmus ≤ array → groups_ended gs (array - g.cmus) < length gs)
          → (b : Bool) → nat_lt array g.cmus ≡ b → (if b then 0 else suc (groups_ended gs (array - g.cmus))) < suc (length gs)
      by rest true e = omega arith
      by rest false e = omega (arith, rest (ltb-false array g.cmus e))

-- ---- the bits of arrays

-- of equal groups all arrays have the same
pub equal_bits : (count : ℕ) (group : GroupShape) (split array : ℕ) → array < array_count (equal_geometry count group split)
    → bits_of (equal_geometry count group split) array ≡ group.bits
equal_bits count group split array within =
    let number : ℕ = group_number (equal_geometry count group split) array in
    let exists : number < count = omega (arith, ended_below (replicate count group) array within, length-replicate count group) in
    ap (λ (g : GroupShape). g.bits) (get_or-replicate count number group no_group exists)

start_within : (start : ℕ) (xs : List ℕ) → start ≤ fold max start xs
start_within start [] = omega arith
start_within start (x ∷ xs) = omega (arith, start_within (max start x) xs)

group_within : (groups : List GroupShape) (start n : ℕ) → (get_or groups n no_group).bits ≤ fold max start (map (λ g. g.bits) groups)
group_within [] start n = omega arith
group_within (g ∷ gs) start zero = omega (arith, start_within (max start g.bits) (map (λ g. g.bits) gs))
group_within (g ∷ gs) start (suc n) = group_within gs (max start g.bits) n

groups_within : (groups : List GroupShape) (start : ℕ) → start ≤ 20 → All IsGroup groups → fold max start (map (λ g. g.bits) groups) ≤ 20
groups_within [] start few good = few
groups_within (g ∷ gs) start few good =
    groups_within gs (max start g.bits) (omega (arith, few, (All-head IsGroup g gs good).most_bits)) (All-tail IsGroup g gs good)

-- no array has more bits than the largest
pub bits_within : (geometry : Geometry) (array : ℕ) → bits_of geometry array ≤ greatest_bits geometry
bits_within geometry array = group_within geometry.groups 0 (group_number geometry array)

pub greatest_at_most : (geometry : Geometry) → IsGeometry geometry → greatest_bits geometry ≤ 20
greatest_at_most geometry good = groups_within geometry.groups 0 (omega arith) good.each

pub greatest_at_least : (geometry : Geometry) → IsGeometry geometry → 5 ≤ greatest_bits geometry
greatest_at_least geometry good =
    let first : IsGroup (get_or geometry.groups 0 no_group) = All-get_or IsGroup geometry.groups 0 no_group good.some_groups good.each in
    omega (arith, first.least_bits, group_within geometry.groups 0 0)

-- ---- how a shape keeps its groups

pub front_padded : (groups : List GroupShape)
    → IsPadded (length groups) (groups ++ drop (length groups) (replicate 12 unused_group))
front_padded groups =
    let rest : List GroupShape = drop (length groups) (replicate 12 unused_group) in
    let front : take (length groups) (groups ++ rest) ≡ groups = take_at groups rest (length groups) refl in
    record {
      counted = sym (ap length front);
      padded = sym (ap padded_groups front ∙ ap (λ gs. groups ++ gs) (sym (drop-replicate (length groups) 12 unused_group)));
    }
