-- Arrays are counted one at a time: what one array more adds.
use Rattle.std.proofs.Common.{◌≡◌, ℕ, zero, suc, ◌+◌, ◌<◌, ◌≤◌, ◌==◌, ◌&&◌, ◌||◌, Bool, true, false, not, cond, if◌then◌else◌, nat_lt, eqb, List, [], ◌∷◌, ◌++◌, length, take, filter, Option, None, Some, Result, Ok, Err, refl, ap, ap₂, sym, ◌∙◌, inl, inr, ◌⊎◌, arith, add-one, append-nil}
use Rattle.std.specs.List.{filter_map, cons_option, range_with_len}
use Rattle.std.proofs.lemmas.Bool.{eqb-true, eqb-false, ne_eqb, eq-eqb, ltb-true, le-ltb, or_parts, cases_lt}
use Rattle.std.proofs.lemmas.List.{take_all, take-append-le, length-take-le}
use Rattle.std.proofs.lemmas.List.Elements.{filter-append, filter_map-append}
use Rattle.addr_translate.specs.Geometry.{Geometry, array_count, group_number}
use Rattle.sketch_defs.specs.Tasks.{Sketch}
use Rattle.sketch_defs.specs.declared.kinds.Kind.{Kind}
use Rattle.sketch_defs.specs.declared.kinds.Kind.TheVariants.{Cms, SumaxSum, SumaxMax, Bloom, Mrac, Hll, FlagOr, FlagAnd}
use Rattle.placer.specs.declared.places.Place.{Place}
use Rattle.placer.specs.declared.places.Refusal.{Refusal}
use Rattle.placer.specs.declared.places.Refusal.TheVariants.{NoUnit, NoPartition}
use Rattle.placer.specs.Sights.{Sight}
use Rattle.placer.specs.Placement.{first_of_groups, counted, is_open, place_on, open_arrays, places_for, placed}
use Rattle.placer.specs.Steps.{is_chained, is_there, with_one, judged}

-- ---- the first of each group, with one element more

-- an element of another group than z is not lost where z's group is left out
still_there : {X : Type 0} (group : X → ℕ) (z x : X) → eqb (group x) (group z) ≡ false → (ys : List X)
    → is_there group x (filter (λ y. not (group y == group z)) ys) ≡ is_there group x ys
still_there group z x other [] = refl
still_there {X} group z x other (y ∷ ys) = by (still_there group z x other ys)
    (eqb (group y) (group z)) refl where
      rest : List X
      rest = filter (λ y. not (group y == group z)) ys

      by : is_there group x rest ≡ is_there group x ys → (t : Bool) → eqb (group y) (group z) ≡ t
          → is_there group x (cond (not t) (y ∷ rest) rest) ≡ is_there group x (y ∷ ys)
      by more true e =
          let same : group y ≡ group z = eqb-true (group y) (group z) e in
          let no : eqb (group x) (group y) ≡ false = ap (eqb (group x)) same ∙ other in
          more ∙ sym (ap (λ t. t || is_there group x ys) no)
      by more false e = ap (λ t. (group x == group y) || t) more

-- where none of x's group is there, none is when some are left out
never_there : {X : Type 0} (group : X → ℕ) (z x : X) (ys : List X) → is_there group x ys ≡ false
    → is_there group x (filter (λ y. not (group y == group z)) ys) ≡ false
never_there group z x [] none = refl
never_there {X} group z x (y ∷ ys) none =
    by (or_parts (group x == group y) (is_there group x ys) none).0
    (never_there group z x ys (or_parts (group x == group y) (is_there group x ys) none).1)
    (group y == group z) where
      rest : List X
      rest = filter (λ y. not (group y == group z)) ys

      by : eqb (group x) (group y) ≡ false → is_there group x rest ≡ false → (t : Bool)
          → is_there group x (cond (not t) (y ∷ rest) rest) ≡ false
      by here more true = more
      by here more false = ap (λ t. t || is_there group x rest) here ∙ more

pub groups_more : {X : Type 0} (group : X → ℕ) (xs : List X) (x : X)
    → first_of_groups group (xs ++ x ∷ [])
    ≡ (if is_there group x (first_of_groups group xs) then first_of_groups group xs else (first_of_groups group xs ++ x ∷ []))
groups_more group [] x = refl
groups_more {X} group (z ∷ zs) x =
    ap (λ ys. z ∷ filter (λ y. not (group y == group z)) ys) (groups_more group zs x)
    ∙ by (is_there group x firsts) (eqb (group x) (group z)) refl refl where
      firsts : List X
      firsts = first_of_groups group zs

      out : X → Bool
      out y = not (group y == group z)

      by : (t u : Bool) → is_there group x firsts ≡ t → eqb (group x) (group z) ≡ u
          → z ∷ filter out (if t then firsts else (firsts ++ x ∷ []))
          ≡ (if u || is_there group x (filter out firsts) then z ∷ filter out firsts else ((z ∷ filter out firsts) ++ x ∷ []))
      by true true e d = refl
      by true false e d =
          sym (ap (λ t. if t then z ∷ filter out firsts else ((z ∷ filter out firsts) ++ x ∷ [])) (still_there group z x d firsts ∙ e))
      by false true e d =
          ap (λ ys. z ∷ ys) (filter-append out firsts (x ∷ []) ∙ ap (λ u. filter out firsts ++ cond (not u) (x ∷ []) []) d ∙ append-nil (filter out firsts))
      by false false e d =
          ap (λ ys. z ∷ ys) (filter-append out firsts (x ∷ []) ∙ ap (λ u. filter out firsts ++ cond (not u) (x ∷ []) []) d)
          ∙ sym (ap (λ t. if t then z ∷ filter out firsts else ((z ∷ filter out firsts) ++ x ∷ [])) (never_there group z x firsts e))

-- ---- of any kind

counted_by : {X : Type 0} (kind : Kind) (group : X → ℕ) (xs : List X)
    → counted kind group xs ≡ (if is_chained kind then first_of_groups group xs else xs)
counted_by Cms group xs = refl
counted_by SumaxSum group xs = refl
counted_by SumaxMax group xs = refl
counted_by Bloom group xs = refl
counted_by Mrac group xs = refl
counted_by Hll group xs = refl
counted_by FlagOr group xs = refl
counted_by FlagAnd group xs = refl

pub counted_more : {X : Type 0} (kind : Kind) (group : X → ℕ) (xs : List X) (x : X)
    → counted kind group (xs ++ x ∷ [])
    ≡ (if is_chained kind && is_there group x (counted kind group xs) then counted kind group xs else (counted kind group xs ++ x ∷ []))
counted_more {X} kind group xs x =
    counted_by kind group (xs ++ x ∷ []) ∙ by (is_chained kind)
    ∙ sym (ap (λ ys. if is_chained kind && is_there group x ys then ys else (ys ++ x ∷ [])) (counted_by kind group xs)) where
      by : (c : Bool) → (if c then first_of_groups group (xs ++ x ∷ []) else (xs ++ x ∷ []))
          ≡ (let ys : List X = if c then first_of_groups group xs else xs in if c && is_there group x ys then ys else (ys ++ x ∷ []))
      by true = groups_more group xs x
      by false = refl

-- ---- no further than to a number of rows

take_last : {X : Type 0} (n : ℕ) (xs : List X) (x : X)
    → take n (take n xs ++ x ∷ []) ≡ take n (xs ++ x ∷ [])
take_last zero xs x = refl
take_last (suc n) [] x = refl
take_last (suc n) (y ∷ ys) x = ap (λ zs. y ∷ zs) (take_last n ys x)

not_among : {X : Type 0} (group : X → ℕ) (x : X) (n : ℕ) (xs : List X) → is_there group x xs ≡ false
    → is_there group x (take n xs) ≡ false
not_among group x zero xs none = refl
not_among group x (suc n) [] none = refl
not_among group x (suc n) (y ∷ ys) none =
    ap (λ t. t || is_there group x (take n ys)) (or_parts (group x == group y) (is_there group x ys) none).0
    ∙ not_among group x n ys (or_parts (group x == group y) (is_there group x ys) none).1

-- one that is not among the first n of a list, but in it, stands behind them
long_list : {X : Type 0} (group : X → ℕ) (x : X) (n : ℕ) (xs : List X) → is_there group x xs ≡ true
    → is_there group x (take n xs) ≡ false → n ≤ length xs
long_list group x n xs there not_there = by (cases_lt (length xs) n) where
  by : (length xs < n) ⊎ (n ≤ length xs) → n ≤ length xs
  by (inl short) =
      let whole : take n xs ≡ xs = take_all n xs (omega arith) in
      let both : true ≡ false = sym there ∙ ap (is_there group x) (sym whole) ∙ not_there in
      absurd (cc)
  by (inr long) = long

pub one_more : {X : Type 0} (most : ℕ) (kind : Kind) (group : X → ℕ) (xs : List X) (x : X)
    → with_one most kind group (Some x) (take most (counted kind group xs))
    ≡ take most (counted kind group (xs ++ x ∷ []))
unfolding with_one
one_more {X} most kind group xs x = by (is_chained kind) (is_there group x full)
    (is_there group x (take most full)) refl refl
    ∙ sym (ap (take most) (counted_more kind group xs x)) where
      full : List X
      full = counted kind group xs

      by : (c t u : Bool) → is_there group x full ≡ t → is_there group x (take most full) ≡ u
          → (if c && u then take most full else take most (take most full ++ x ∷ []))
          ≡ take most (if c && t then full else (full ++ x ∷ []))
      by false t u e d = take_last most full x
      by true true true e d = refl
      by true true false e d = take_last most full x
          ∙ take-append-le most full (x ∷ []) (long_list group x most full e d)
      by true false true e d = let both : true ≡ false = sym d ∙ not_among group x most full e in absurd (cc)
      by true false false e d = take_last most full x

-- ---- arrays in order of number

range_more : (a n : ℕ) → range_with_len a (suc n) ≡ range_with_len a n ++ (a + n) ∷ []
range_more a zero = let e : a ≡ a + 0 = omega arith in ap (λ b. b ∷ []) e
range_more a (suc n) =
    let e : a + 1 + n ≡ a + suc n = omega arith in
    ap (λ ns. a ∷ ns) (range_more (a + 1) n ∙ ap (λ b. range_with_len (a + 1) n ++ b ∷ []) e)

range_next : (n : ℕ) → range_with_len 0 (n + 1) ≡ range_with_len 0 n ++ n ∷ []
range_next n = let e : 0 + n ≡ n = omega arith in ap (range_with_len 0) (add-one n) ∙ range_more 0 n
    ∙ ap (λ b. range_with_len 0 n ++ b ∷ []) e

-- an array that passes a test
pub array_more : (most : ℕ) (kind : Kind) (group : ℕ → ℕ) (test : ℕ → Bool) (n : ℕ) (passes : Bool)
    → passes ≡ test n
    → with_one most kind group (if passes then Some n else None)
    (take most (counted kind group (filter test (range_with_len 0 n))))
    ≡ take most (counted kind group (filter test (range_with_len 0 (n + 1))))
unfolding with_one
array_more most kind group test n passes e =
    by passes ∙ ap (λ ns. take most (counted kind group ns)) (sym whole) where
      before : List ℕ
      before = filter test (range_with_len 0 n)

      whole : filter test (range_with_len 0 (n + 1)) ≡ before ++ cond passes (n ∷ []) []
      whole = ap (filter test) (range_next n) ∙ filter-append test (range_with_len 0 n) (n ∷ [])
          ∙ ap (λ t. before ++ cond t (n ∷ []) []) (sym e)

      by : (t : Bool)
          → with_one most kind group (if t then Some n else None) (take most (counted kind group before))
          ≡ take most (counted kind group (before ++ cond t (n ∷ []) []))
      by true = one_more most kind group before n
      by false = sym (ap (λ ns. take most (counted kind group ns)) (append-nil before))

-- an array that has a place
pub place_more : {X : Type 0} (most : ℕ) (kind : Kind) (group : X → ℕ) (place_on : ℕ → Option X) (n : ℕ)
    (place : Option X)
    → place ≡ place_on n
    → with_one most kind group place (take most (counted kind group (filter_map place_on (range_with_len 0 n))))
    ≡ take most (counted kind group (filter_map place_on (range_with_len 0 (n + 1))))
unfolding with_one
place_more {X} most kind group place_on n place e =
    by place ∙ ap (λ xs. take most (counted kind group xs)) (sym whole) where
      before : List X
      before = filter_map place_on (range_with_len 0 n)

      here : Option X → List X
      here o = cons_option o []

      whole : filter_map place_on (range_with_len 0 (n + 1)) ≡ before ++ here place
      whole = ap (filter_map place_on) (range_next n)
          ∙ filter_map-append place_on (range_with_len 0 n) (n ∷ []) ∙ ap (λ o. before ++ here o) (sym e)

      by : (o : Option X)
          → with_one most kind group o (take most (counted kind group before))
          ≡ take most (counted kind group (before ++ here o))
      by None = sym (ap (λ xs. take most (counted kind group xs)) (append-nil before))
      by (Some x) = one_more most kind group before x

-- ---- at the end

length_short : {X : Type 0} (n : ℕ) (xs : List X) → nat_lt (length (take n xs)) n ≡ nat_lt (length xs) n
length_short n xs = by (cases_lt (length xs) n) where
  by : (length xs < n) ⊎ (n ≤ length xs) → nat_lt (length (take n xs)) n ≡ nat_lt (length xs) n
  by (inl short) = ap (λ ys. nat_lt (length ys) n) (take_all n xs (omega arith))
  by (inr long) =
      le-ltb (length (take n xs)) n (omega (arith, length-take-le n xs long))
      ∙ sym (le-ltb (length xs) n long)

-- whether there are fewer than the rows, and how many, shows of the first ones
pub judged_is : (need : ℕ) (arrays : List ℕ) (places : List Place)
    → judged need (take need arrays) (take need places)
    ≡ (if nat_lt (length arrays) need then Err (NoUnit need (length arrays))
    else (if nat_lt (length places) need then Err (NoPartition need (length places)) else Ok (take need places)))
judged_is need arrays places = by (nat_lt (length arrays) need) (nat_lt (length places) need) refl refl where
  later : Result (List Place) Refusal
  later = if nat_lt (length (take need places)) need then Err
      (NoPartition need (length (take need places))) else Ok (take need places)

  by : (t u : Bool) → nat_lt (length arrays) need ≡ t → nat_lt (length places) need ≡ u
      → judged need (take need arrays) (take need places)
      ≡ (if t then Err (NoUnit need (length arrays)) else (if u then Err (NoPartition need (length places)) else Ok (take need places)))
  by true u e d =
      ap (λ b. if b then Err (NoUnit need (length (take need arrays))) else later)
      (length_short need arrays ∙ e)
      ∙ ap (λ ns. Err (NoUnit need (length ns)))
      (take_all need arrays (omega (arith, ltb-true (length arrays) need e)))
  by false true e d =
      ap (λ b. if b then Err (NoUnit need (length (take need arrays))) else later)
      (length_short need arrays ∙ e)
      ∙ ap (λ b. if b then Err (NoPartition need (length (take need places))) else Ok (take need places))
      (length_short need places ∙ d)
      ∙ ap (λ ps. Err (NoPartition need (length ps)))
      (take_all need places (omega (arith, ltb-true (length places) need d)))
  by false false e d =
      ap (λ b. if b then Err (NoUnit need (length (take need arrays))) else later)
      (length_short need arrays ∙ e)
      ∙ ap (λ b. if b then Err (NoPartition need (length (take need places))) else Ok (take need places))
      (length_short need places ∙ d)

pub placed_judged : (geometry : Geometry) (sight : Sight) (task : Sketch) (bits count need : ℕ)
    (arrays : List ℕ) (places : List Place)
    → count ≡ array_count geometry → need ≡ task.rows
    → arrays ≡ take task.rows
    (counted task.kind (group_number geometry) (filter (is_open geometry sight task) (range_with_len 0 count)))
    → places ≡ take task.rows
    (counted task.kind (λ place. group_number geometry place.array) (filter_map (place_on geometry sight task bits) (range_with_len 0 count)))
    → judged need arrays places ≡ placed geometry sight task bits
unfolding placed open_arrays places_for
placed_judged geometry sight task bits count need arrays places all rows a p =
    ap₂ (λ n ns. judged n ns places) rows
    (a ∙ ap (λ n. take task.rows (counted task.kind (group_number geometry) (filter (is_open geometry sight task) (range_with_len 0 n)))) all)
    ∙ ap (λ ps. judged task.rows (take task.rows (open_arrays geometry sight task)) ps)
    (p ∙ ap (λ n. take task.rows (counted task.kind (λ place. group_number geometry place.array) (filter_map (place_on geometry sight task bits) (range_with_len 0 n)))) all)
    ∙ judged_is task.rows (open_arrays geometry sight task) (places_for geometry sight task bits)
