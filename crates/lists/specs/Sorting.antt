-- Lists put in order, by a test of which of two elements comes first.
use Rattle.std.specs.Prelude.{◌≡◌, Bool, true, ⊤, if◌then◌else◌, List, [], ◌∷◌}
use Rattle.std.specs.List.{All}

-- the list with one element more, before the first that it comes before
abbrev pub put_by : {X : Type 0} → (X → X → Bool) → X → List X → List X
put_by first x [] = x ∷ []
put_by first x (y ∷ ys) = if first x y then x ∷ y ∷ ys else (y ∷ put_by first x ys)

-- the elements in order
abbrev pub sort_by : {X : Type 0} → (X → X → Bool) → List X → List X
sort_by first [] = []
sort_by first (x ∷ xs) = put_by first x (sort_by first xs)

-- each element comes before all later ones
abbrev pub Rising : {X : Type 0} → (X → X → Bool) → List X → Type 0
Rising first [] = ⊤
Rising first (x ∷ xs) = All (λ y. first x y ≡ true) xs × Rising first xs

-- all but the first that passes
abbrev pub cut_by : {X : Type 0} → (X → Bool) → List X → List X
cut_by test [] = []
cut_by test (x ∷ xs) = if test x then xs else (x ∷ cut_by test xs)
