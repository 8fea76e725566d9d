-- What tasks take, piece by piece: with a task more at the end, and with a task between others.
use Rattle.std.proofs.Common.{◌≡◌, ◌≢◌, ℕ, ◌+◌, ◌<◌, true, List, [], ◌∷◌, ◌++◌, get_or, map, refl, ap, ap₂, sym, ◌∙◌, subst, arith, append-nil}
use Rattle.std.specs.Prelude.{Option, None, Some}
use Rattle.std.specs.List.{All, AllPairs, flat_map}
use Rattle.std.proofs.lemmas.List.Elements.{All-append, All-weaker}
use Rattle.addr_translate.specs.Geometry.{Geometry, group_number}
use Rattle.task_filters.specs.Filters.{Pattern, are_disjoint}
use Rattle.sketch_defs.specs.declared.kinds.Kind.{Kind}
use Rattle.sketch_defs.specs.declared.kinds.Kind.TheVariants.{Cms, SumaxSum, SumaxMax, Bloom, Mrac, Hll, FlagOr, FlagAnd}
use Rattle.sketch_defs.specs.Tasks.{Sketch}
use Rattle.switch_model.specs.Records.{Row, Outline}
use Rattle.switch_model.specs.Sights.{Spot, live_holding, held_by, all_held, spots_from, spots_by, all_spots, row_uses, uses_by, all_uses}
use Rattle.switch_model.specs.Soundness.{RisesIn, ShareNone, MatchNone}
use Rattle.switch_model.proofs.ListLemmas.{Across, flat_append, pairs_append, pairs_map, pairs_mapped, pairs_weaker, across_turned, Parts, pairs_parts, all_front, all_back}

-- ---- a task more at the end

pub held_pushed : (all : List Outline) (o : Outline) → all_held (all ++ o ∷ []) ≡ all_held all ++ held_by o
unfolding all_held
held_pushed all o = flat_append held_by all (o ∷ []) ∙ ap (λ hs. flat_map held_by all ++ hs) (append-nil (held_by o))

pub spots_pushed : (all : List Outline) (o : Outline) → all_spots (all ++ o ∷ []) ≡ all_spots all ++ spots_by o
unfolding all_spots
spots_pushed all o = flat_append spots_by all (o ∷ []) ∙ ap (λ ss. flat_map spots_by all ++ ss) (append-nil (spots_by o))

pub uses_pushed : (geometry : Geometry) (all : List Outline) (o : Outline) → all_uses geometry (all ++ o ∷ []) ≡ all_uses geometry all ++ uses_by geometry o
unfolding all_uses
uses_pushed geometry all o = flat_append (uses_by geometry) all (o ∷ []) ∙ ap (λ us. flat_map (uses_by geometry) all ++ us) (append-nil (uses_by geometry o))

-- ---- a task between others

pub held_between : (front back : List Outline) (o : Outline) → all_held (front ++ o ∷ back) ≡ all_held front ++ (held_by o ++ all_held back)
unfolding all_held
held_between front back o = flat_append held_by front (o ∷ back)

pub spots_between : (front back : List Outline) (o : Outline) → all_spots (front ++ o ∷ back) ≡ all_spots front ++ (spots_by o ++ all_spots back)
unfolding all_spots
spots_between front back o = flat_append spots_by front (o ∷ back)

pub uses_between : (geometry : Geometry) (front back : List Outline) (o : Outline)
    → all_uses geometry (front ++ o ∷ back) ≡ all_uses geometry front ++ (uses_by geometry o ++ all_uses geometry back)
unfolding all_uses
uses_between geometry front back o = flat_append (uses_by geometry) front (o ∷ back)

pub held_both : (front back : List Outline) → all_held (front ++ back) ≡ all_held front ++ all_held back
unfolding all_held
held_both front back = flat_append held_by front back

pub spots_both : (front back : List Outline) → all_spots (front ++ back) ≡ all_spots front ++ all_spots back
unfolding all_spots
spots_both front back = flat_append spots_by front back

pub uses_both : (geometry : Geometry) (front back : List Outline) → all_uses geometry (front ++ back) ≡ all_uses geometry front ++ all_uses geometry back
unfolding all_uses
uses_both geometry front back = flat_append (uses_by geometry) front back

-- ---- pairs, with a piece less or more

pub pairs_cut : {X : Type 0} (R : X → X → Type 0) (xs ys zs : List X) → AllPairs R (xs ++ (ys ++ zs)) → AllPairs R (xs ++ zs)
pairs_cut R xs ys zs pairs =
    let parts : Parts R xs (ys ++ zs) = pairs_parts R xs (ys ++ zs) pairs in
    let rest : Parts R ys zs = pairs_parts R ys zs parts.back in
    pairs_append R xs zs parts.front rest.back
    (All-weaker (λ x. All (R x) (ys ++ zs)) (λ x. All (R x) zs) (λ x all. all_back (R x) ys zs all) xs parts.across)

pub pairs_inserted : {X : Type 0} (R : X → X → Type 0) → ((x y : X) → R x y → R y x) → (xs ns ys : List X) → AllPairs R (xs ++ ys) → AllPairs R ns
    → Across R ns (xs ++ ys) → AllPairs R (xs ++ (ns ++ ys))
pairs_inserted R turned xs ns ys pairs news across =
    let parts : Parts R xs ys = pairs_parts R xs ys pairs in
    let with_front : Across R xs ns =
    across_turned R R turned ns xs (All-weaker (λ n. All (R n) (xs ++ ys)) (λ n. All (R n) xs) (λ n all. all_front (R n) xs ys all) ns across) in
    let with_back : Across R ns ys = All-weaker (λ n. All (R n) (xs ++ ys)) (λ n. All (R n) ys) (λ n all. all_back (R n) xs ys all) ns across in
    pairs_append R xs (ns ++ ys) parts.front (pairs_append R ns ys news parts.back with_back)
    (λ k d within. All-append (R (get_or xs k d)) ns ys (with_front k d within) (parts.across k d within))

-- ---- order of rows

pub rises_in : (geometry : Geometry) (kind : Kind) (one two : Row) → one.array < two.array
    → (kind ≡ SumaxSum → group_number geometry one.array < group_number geometry two.array) → RisesIn geometry kind one two
rises_in geometry Cms one two less groups = less
rises_in geometry SumaxSum one two less groups = groups refl
rises_in geometry SumaxMax one two less groups = less
rises_in geometry Bloom one two less groups = less
rises_in geometry Mrac one two less groups = less
rises_in geometry Hll one two less groups = less
rises_in geometry FlagOr one two less groups = less
rises_in geometry FlagAnd one two less groups = less

pub rises_differ : (geometry : Geometry) (kind : Kind) (one two : Row) → RisesIn geometry kind one two → one.array ≢ two.array
rises_differ geometry Cms one two less same = omega arith
rises_differ geometry SumaxSum one two less same = let groups : group_number geometry one.array ≡ group_number geometry two.array = ap (group_number geometry) same in omega arith
rises_differ geometry SumaxMax one two less same = omega arith
rises_differ geometry Bloom one two less same = omega arith
rises_differ geometry Mrac one two less same = omega arith
rises_differ geometry Hll one two less same = omega arith
rises_differ geometry FlagOr one two less same = omega arith
rises_differ geometry FlagAnd one two less same = omega arith

pub rises_same : (geometry : Geometry) (kind : Kind) (one two p q : Row) → p.array ≡ one.array → q.array ≡ two.array → RisesIn geometry kind one two
    → RisesIn geometry kind p q
rises_same geometry Cms one two p q e f less = omega arith
rises_same geometry SumaxSum one two p q e f less =
    let first : group_number geometry p.array ≡ group_number geometry one.array = ap (group_number geometry) e in
    let second : group_number geometry q.array ≡ group_number geometry two.array = ap (group_number geometry) f in
    omega arith
rises_same geometry SumaxMax one two p q e f less = omega arith
rises_same geometry Bloom one two p q e f less = omega arith
rises_same geometry Mrac one two p q e f less = omega arith
rises_same geometry Hll one two p q e f less = omega arith
rises_same geometry FlagOr one two p q e f less = omega arith
rises_same geometry FlagAnd one two p q e f less = omega arith

-- ---- the entries of rows, as far as they must differ

pub record Key : Type 0 where
  pub array : ℕ
  pub filter : Pattern

abbrev pub key_of : Spot → Key
key_of s = record { array = s.array; filter = s.entry.filter }

abbrev pub KeysMatchNone : Key → Key → Type 0
KeysMatchNone one two = one.array ≡ two.array → are_disjoint one.filter two.filter ≡ true

abbrev pub row_key : Sketch → Row → Key
row_key task row = record { array = row.array; filter = task.filter }

pub spot_keys : (task : Sketch) (i : ℕ) (before : Option ℕ) (rows : List Row) → map key_of (spots_from task i before rows) ≡ map (row_key task) rows
spot_keys task i before [] = refl
spot_keys task i before (row ∷ rows) = ap (λ ks. row_key task row ∷ ks) (spot_keys task (i + 1) (Some row.array) rows)

-- rows on different arrays
abbrev pub OnDifferent : Row → Row → Type 0
OnDifferent one two = one.array ≢ two.array

pub different_spots : (task : Sketch) (rows : List Row) → AllPairs OnDifferent rows → AllPairs MatchNone (spots_from task 0 None rows)
different_spots task rows pairs =
    pairs_mapped KeysMatchNone key_of (spots_from task 0 None rows)
    (subst (AllPairs KeysMatchNone) (sym (spot_keys task 0 None rows))
    (pairs_map KeysMatchNone (row_key task) rows
    (pairs_weaker OnDifferent (λ one two. KeysMatchNone (row_key task one) (row_key task two)) (λ one two ne same. absurd (ne same)) rows pairs)))

pub different_regions : (rows : List Row) → AllPairs OnDifferent rows → AllPairs ShareNone (map live_holding rows)
different_regions rows pairs =
    pairs_map ShareNone live_holding rows
    (pairs_weaker OnDifferent (λ one two. ShareNone (live_holding one) (live_holding two)) (λ one two ne same. absurd (ne same)) rows pairs)

-- rows that keep their arrays keep entries but for regions, and those that keep masks as well keep uses
pub keep_keys : (task : Sketch) (f : Row → Row) → ((row : Row) → (f row).array ≡ row.array) → (rows : List Row)
    → map (row_key task) (map f rows) ≡ map (row_key task) rows
keep_keys task f arrays [] = refl
keep_keys task f arrays (row ∷ rows) = ap₂ (λ k ks. k ∷ ks) (ap (λ a. (let k : Key = record { array = a; filter = task.filter } in k)) (arrays row)) (keep_keys task f arrays rows)

pub keep_uses : (geometry : Geometry) (f : Row → Row) → ((row : Row) → row_uses geometry (f row) ≡ row_uses geometry row) → (rows : List Row)
    → flat_map (row_uses geometry) (map f rows) ≡ flat_map (row_uses geometry) rows
keep_uses geometry f same [] = refl
keep_uses geometry f same (row ∷ rows) = ap₂ (λ us vs. us ++ vs) (same row) (keep_uses geometry f same rows)
