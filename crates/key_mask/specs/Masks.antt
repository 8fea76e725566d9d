-- A mask is seen as its prefix lengths, field by field: 0 where the field does not stand in it.
use Rattle.std.specs.Prelude.{◌≡◌, ◌≢◌, ℕ, ◌-◌, ◌/◌, ◌*◌, ◌^◌, ◌==◌, min, List, map, length, replicate, slice_index, IsTrue, unwrap_or}
use Rattle.std.specs.List.{All, AllPairs, flat_map, range_with_len}
use Rattle.std.specs.Map.{lookup}
use Rattle.key_mask.specs.declared.fields.Field.{Field}
use Rattle.key_mask.specs.Fields.{fields, field_number, size_of, is_length}

-- byte `at` of a prefix of this length, whose ones stand at the top
abbrev pub prefix_byte : ℕ → ℕ → ℕ
prefix_byte length at = 256 - 256 / 2 ^ min 8 (length - 8 * at)

-- so many bytes of a prefix
abbrev pub prefix_bytes : ℕ → ℕ → List ℕ
prefix_bytes length count = map (prefix_byte length) (range_with_len 0 count)

-- the bytes of a field's prefix
abbrev pub field_bytes : List ℕ → Field → List ℕ
field_bytes lengths field = prefix_bytes (slice_index lengths (field_number field)) (size_of field)

-- the bytes of a mask: those of its fields, in their order
unfoldable pub mask_bytes_of : List ℕ → List ℕ
mask_bytes_of lengths = flat_map (field_bytes lengths) fields

-- the prefix lengths of no field
abbrev pub no_lengths : List ℕ
no_lengths = replicate (length fields) 0

-- a field that stands in the mask has a length that it may have
pub record AreLengths (lengths : List ℕ) : Type 0 where
  pub whole : length lengths ≡ length fields
  pub allowed : (field : Field) → slice_index lengths (field_number field) ≢ 0
      → IsTrue (is_length field (slice_index lengths (field_number field)))

-- fields with their lengths: each length allowed, and no field twice
pub record AreParts (parts : List (Field × ℕ)) : Type 0 where
  pub allowed : All (λ part. IsTrue (is_length part.0 part.1)) parts
  pub once : AllPairs (λ one other. one.0 ≢ other.0) parts

-- the length that stands beside a field, 0 where there is none
abbrev pub length_in : List (Field × ℕ) → Field → ℕ
length_in parts field = unwrap_or (lookup (λ other. field_number other == field_number field) parts) 0

-- the mask of these parts
abbrev pub lengths_of : List (Field × ℕ) → List ℕ
lengths_of parts = map (length_in parts) fields
