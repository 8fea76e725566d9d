-- Lists of bytes, taken bit by bit.
use Rattle.std.specs.Prelude.{ℕ, List, [], ◌∷◌, bit_and, bit_xor}

-- the operation on the two bytes of each place that both lists have
abbrev pub bytewise : (ℕ → ℕ → ℕ) → List ℕ → List ℕ → List ℕ
bytewise f [] ys = []
bytewise f (x ∷ xs) [] = []
bytewise f (x ∷ xs) (y ∷ ys) = f x y ∷ bytewise f xs ys

abbrev pub and_bytes : List ℕ → List ℕ → List ℕ
and_bytes = bytewise bit_and

abbrev pub xor_bytes : List ℕ → List ℕ → List ℕ
xor_bytes = bytewise bit_xor
