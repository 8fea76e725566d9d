-- A text cut at the bytes that pass a test.
use Rattle.std.specs.Prelude.{ℕ, ◌+◌, ◌==◌, Bool, cond, List, [], ◌∷◌, length, Option, None, Some}
use Rattle.std.specs.List.{slice_split}

-- what stands before the first byte that passes, or the whole text
abbrev pub front : (ℕ → Bool) → List ℕ → List ℕ
front p [] = []
front p (b ∷ bs) = cond (p b) [] (b ∷ front p bs)

-- what stands behind that byte, if there is one
abbrev pub back : (ℕ → Bool) → List ℕ → Option (List ℕ)
back p [] = None
back p (b ∷ bs) = cond (p b) (Some bs) (back p bs)

-- the separator with what stands behind it, if it is there
abbrev pub tail_of : ℕ → Option (List ℕ) → List ℕ
tail_of separator None = []
tail_of separator (Some bytes) = separator ∷ bytes

-- how many bytes a cut leaves to read, with the separator
abbrev pub left_behind : Option (List ℕ) → ℕ
left_behind None = 0
left_behind (Some bytes) = length bytes + 1

-- the parts between the separators
abbrev pub parts : ℕ → List ℕ → List (List ℕ)
parts separator text = slice_split (λ b. b == separator) text
