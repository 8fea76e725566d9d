-- How the code counts arrays: one at a time, no further than to the number of rows.
use Rattle.std.specs.Prelude.{ℕ, ◌==◌, ◌&&◌, Bool, true, false, nat_lt, if◌then◌else◌, List, [], ◌∷◌, ◌++◌, length, take, Option, None, Some, Result, Ok, Err}
use Rattle.std.specs.List.{list_any}
use Rattle.sketch_defs.specs.declared.kinds.Kind.{Kind}
use Rattle.sketch_defs.specs.declared.kinds.Kind.TheVariants.{Cms, SumaxSum, SumaxMax, Bloom, Mrac, Hll, FlagOr, FlagAnd}
use Rattle.placer.specs.declared.places.Place.{Place}
use Rattle.placer.specs.declared.places.Refusal.{Refusal}
use Rattle.placer.specs.declared.places.Refusal.TheVariants.{NoUnit, NoPartition}

-- the rows of the kind stand in different groups
abbrev pub is_chained : Kind → Bool
is_chained Cms = false
is_chained SumaxSum = true
is_chained SumaxMax = false
is_chained Bloom = false
is_chained Mrac = false
is_chained Hll = false
is_chained FlagOr = false
is_chained FlagAnd = false

-- one of these stands in the group of x
abbrev pub is_there : {X : Type 0} → (X → ℕ) → X → List X → Bool
is_there group x xs = list_any (λ y. group x == group y) xs

-- with one more, where there is one, it counts, and there are fewer than most
unfoldable pub with_one : {X : Type 0} → ℕ → Kind → (X → ℕ) → Option X → List X → List X
with_one most kind group None xs = xs
with_one most kind group (Some x) xs = if is_chained kind && is_there group x xs then xs else take most
    (xs ++ x ∷ [])

-- the places of so many rows, or how many of them there are too few
abbrev pub judged : ℕ → List ℕ → List Place → Result (List Place) Refusal
judged need arrays places =
    if nat_lt (length arrays) need then Err (NoUnit need (length arrays))
    else (if nat_lt (length places) need then Err (NoPartition need (length places)) else Ok places)
