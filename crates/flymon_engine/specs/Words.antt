-- The words of the command line, without the program's own name.
use Rattle.std.specs.Prelude.{ℕ, cond, List, [], ◌∷◌, Option, None, Some, map, codes, string_bytes}
use Rattle.std.specs.declared.string.String.{String}
use Rattle.std.specs.declared.alloc.Global.{Global}
use Rattle.std.specs.Str.{bytes_eq}
use Rattle.key_mask.specs.Numbers.{number_in}
use Rattle.flymon_engine.specs.declared.words.Way.{Way}
use Rattle.flymon_engine.specs.declared.words.Way.TheVariants.{Replay, Flight}

-- what the words ask for
pub data Form : Type 0 where
  Wrong : Form
  Carry : (way : Way) (profile script capture : List ℕ) → Form
  Demo : (seed count : ℕ) → Form

-- 1 to 20 decimal digits of a number of 64 bits
abbrev pub seed_in : List ℕ → Option ℕ
seed_in text = number_in 20 18446744073709551615 text

-- 1 to 7 decimal digits of a number up to a million
abbrev pub count_in : List ℕ → Option ℕ
count_in text = number_in 7 1000000 text

abbrev pub demo_by : Option ℕ → Option ℕ → Form
demo_by (Some seed) (Some count) = Demo seed count
demo_by (Some seed) None = Wrong
demo_by None count = Wrong

-- one packet after another, or packets before different groups at once
abbrev pub way_in : List ℕ → Option Way
way_in word = cond (bytes_eq word (codes "replay")) (Some Replay) (cond (bytes_eq word (codes "flight")) (Some Flight) None)

abbrev pub carry_by : Option Way → (profile script capture : List ℕ) → Form
carry_by (Some way) profile script capture = Carry way profile script capture
carry_by None profile script capture = Wrong

abbrev pub form_of : List (List ℕ) → Form
form_of [] = Wrong
form_of (word ∷ []) = Wrong
form_of (word ∷ seed ∷ []) = Wrong
form_of (word ∷ seed ∷ count ∷ []) = cond (bytes_eq word (codes "demo")) (demo_by (seed_in seed) (count_in count)) Wrong
form_of (word ∷ profile ∷ script ∷ capture ∷ []) = carry_by (way_in word) profile script capture
form_of (word ∷ profile ∷ script ∷ capture ∷ more ∷ words) = Wrong

abbrev pub texts_of : List (String Global) → List (List ℕ)
texts_of words = map string_bytes words
