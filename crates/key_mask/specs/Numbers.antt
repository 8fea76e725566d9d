-- Numbers in texts.
use Rattle.std.specs.Prelude.{ℕ, ◌+◌, ◌-◌, ◌*◌, ◌==◌, ◌||◌, ◌&&◌, Bool, nat_lt, nat_le, if◌then◌else◌, List, [], ◌∷◌, length, slice_index, Option, None, Some}
use Rattle.std.specs.Char.{digit_value}
use Rattle.texts.specs.Cuts.{front, back}

-- the second step, if the first gave a value
infixl 10 ◌>>=◌
abbrev pub ◌>>=◌ : {A B : Type 0} → Option A → (A → Option B) → Option B
Some x >>= f = f x
None >>= f = None

abbrev pub is_digit : ℕ → Bool
is_digit byte = nat_le 48 byte && nat_le byte 57

-- the number that decimal digits go on to behind those of n
abbrev pub digits_after : ℕ → List ℕ → Option ℕ
digits_after n [] = Some n
digits_after n (c ∷ cs) = if is_digit c then digits_after (n * 10 + (c - 48)) cs else None

abbrev pub up_to : ℕ → ℕ → Option ℕ
up_to limit n = if nat_le n limit then Some n else None

-- one to `most` decimal digits of a number up to the limit
unfoldable pub number_in : ℕ → ℕ → List ℕ → Option ℕ
number_in most limit text =
    if length text == 0 || nat_lt most (length text) then None else digits_after 0 text >>= up_to limit

abbrev pub is_dot : ℕ → Bool
is_dot byte = byte == 46

-- an IPv4 address: four numbers up to 255 with dots between, the first the most significant
unfoldable pub address_in : List ℕ → Option ℕ
address_in text = do
  a ← number_in 3 255 (front is_dot text)
  behind_a ← back is_dot text
  b ← number_in 3 255 (front is_dot behind_a)
  behind_b ← back is_dot behind_a
  c ← number_in 3 255 (front is_dot behind_b)
  behind_c ← back is_dot behind_b
  d ← number_in 3 255 behind_c
  Some (((a * 256 + b) * 256 + c) * 256 + d)

-- a hexadecimal digit of either case
abbrev pub hex_digit_in : ℕ → Option ℕ
hex_digit_in byte = if nat_lt (digit_value byte) 16 then Some (digit_value byte) else None

-- `0x`, and the four bytes behind it
abbrev pub has_hex_form : List ℕ → Bool
has_hex_form text = length text == 6 && slice_index text 0 == 48 && slice_index text 1 == 120

-- `0x` and four hexadecimal digits
unfoldable pub hex_in : List ℕ → Option ℕ
hex_in text = do
  whole ← if has_hex_form text then Some text else None
  a ← hex_digit_in (slice_index whole 2)
  b ← hex_digit_in (slice_index whole 3)
  c ← hex_digit_in (slice_index whole 4)
  d ← hex_digit_in (slice_index whole 5)
  Some (((a * 16 + b) * 16 + c) * 16 + d)
