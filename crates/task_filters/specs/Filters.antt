-- What a filter matches, and when two filters share no vector.
use Rattle.std.specs.Prelude.{◌≡◌, ◌<◌, ◌==◌, ℕ, Bool, not, List, length}
use Rattle.std.specs.List.{All, list_any}
use Rattle.std.specs.Str.{bytes_eq}
use Rattle.key_mask.specs.Bytes.{and_bytes, xor_bytes}
use Rattle.key_mask.specs.Masks.{AreLengths, mask_bytes_of}

-- a filter: the bytes of its value, and the prefix lengths of its mask
pub record Pattern : Type 0 where
  pub value : List ℕ
  pub mask : List ℕ

-- the value has no bit outside the mask
abbrev pub IsKept : Pattern → Type 0
IsKept pattern = and_bytes pattern.value (mask_bytes_of pattern.mask) ≡ pattern.value

-- what a filter keeps: a value of 48 bytes under a mask
pub record IsFilter (pattern : Pattern) : Type 0 where
  pub kept : IsKept pattern
  pub long : length pattern.value ≡ 48
  pub known : AreLengths pattern.mask

-- what the mask leaves of the vector is the value
abbrev pub Matches : Pattern → List ℕ → Type 0
Matches pattern vector = and_bytes vector (mask_bytes_of pattern.mask) ≡ pattern.value

-- the same as a test
unfoldable pub passes : Pattern → List ℕ → Bool
passes pattern vector = bytes_eq (and_bytes vector (mask_bytes_of pattern.mask)) pattern.value

-- the bytes of a key vector
pub record IsVector (vector : List ℕ) : Type 0 where
  pub long : length vector ≡ 48
  pub bytes : All (λ byte. byte < 256) vector

-- no vector matches both
abbrev pub AreDisjoint : Pattern → Pattern → Type 0
AreDisjoint one two = (vector : List ℕ) → IsVector vector → Matches one vector → Matches two vector → ⊥

-- the bits of both masks in which the values differ
abbrev pub difference : Pattern → Pattern → List ℕ
difference one two =
    and_bytes (and_bytes (xor_bytes one.value two.value) (mask_bytes_of one.mask)) (mask_bytes_of two.mask)

abbrev pub some_bit : ℕ → Bool
some_bit byte = not (byte == 0)

-- some bit of both masks tells the values apart
unfoldable pub are_disjoint : Pattern → Pattern → Bool
are_disjoint one two = list_any some_bit (difference one two)
