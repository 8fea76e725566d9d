-- The words of a text, with blanks between.
use Rattle.std.specs.Prelude.{ℕ, ◌==◌, ◌||◌, Bool, nat_lt, List, [], filter, length}
use Rattle.std.specs.List.{slice_split, slice_index_or}

-- a space or a tab
abbrev pub is_blank : ℕ → Bool
is_blank byte = byte == 32 || byte == 9

-- the pieces between blanks that are not empty
abbrev pub words : List ℕ → List (List ℕ)
words text = filter (λ word. nat_lt 0 (length word)) (slice_split is_blank text)

-- the word of this number from 0, empty where there is none
abbrev pub word_at : List (List ℕ) → ℕ → List ℕ
word_at found number = slice_index_or found number []
