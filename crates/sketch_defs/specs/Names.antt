-- The names of tasks.
use Rattle.std.specs.Prelude.{ℕ, ◌==◌, ◌-◌, ◌||◌, ◌&&◌, Bool, false, nat_le, List, [], ◌∷◌, ◌++◌, length, replicate}
use Rattle.std.specs.List.{list_all}
use Rattle.key_mask.specs.Numbers.{is_digit}

abbrev pub is_lower : ℕ → Bool
is_lower byte = nat_le 97 byte && nat_le byte 122

-- a lower-case letter, a digit or `_`
abbrev pub is_name_byte : ℕ → Bool
is_name_byte byte = is_lower byte || is_digit byte || byte == 95

abbrev pub starts_low : List ℕ → Bool
starts_low [] = false
starts_low (first ∷ rest) = is_lower first

-- 1 to 16 bytes, a lower-case letter first
abbrev pub is_name : List ℕ → Bool
is_name text = starts_low text && nat_le (length text) 16 && list_all is_name_byte text

-- the bytes of a name with zeros behind
unfoldable pub padded : List ℕ → List ℕ
padded name = name ++ replicate (16 - length name) 0
