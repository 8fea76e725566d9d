-- The runs of a list: elements that stand side by side and are alike.
use Rattle.std.specs.Prelude.{ℕ, ◌+◌, Bool, false, zero, suc, if◌then◌else◌, List, [], ◌∷◌}

-- whether the next one is alike
abbrev pub goes_on : {X : Type 0} → (X → X → Bool) → X → List X → Bool
goes_on alike x [] = false
goes_on alike x (y ∷ ys) = alike x y

-- where each run ends, in a list that stands from place `at` on
abbrev pub ends_from : {X : Type 0} → (X → X → Bool) → ℕ → List X → List ℕ
ends_from alike at [] = []
ends_from alike at (x ∷ xs) = if goes_on alike x xs then ends_from alike (at + 1) xs else ((at + 1) ∷ ends_from alike (at + 1) xs)

-- the last of each run
abbrev pub lasts : {X : Type 0} → (X → X → Bool) → List X → List X
lasts alike [] = []
lasts alike (x ∷ xs) = if goes_on alike x xs then lasts alike xs else (x ∷ lasts alike xs)

-- where a run starts, by where the runs end, in a list that stands from place `at` on
abbrev pub start_of : ℕ → List ℕ → ℕ → ℕ
start_of at ends zero = at
start_of at [] (suc k) = at
start_of at (end ∷ ends) (suc k) = start_of end ends k
