-- The values that the fields have in a key vector.
use Rattle.std.specs.Prelude.{ℕ, ◌+◌, ◌*◌, List, ◌++◌, fold, take, drop, slice_range}
use Rattle.std.specs.Int.{bytes_high_first}
use Rattle.key_mask.specs.declared.fields.Field.{Field}
use Rattle.key_mask.specs.Fields.{start_of, size_of}

-- bytes as one number, the first the most significant
abbrev pub big_endian : List ℕ → ℕ
big_endian bytes = fold (λ n byte. n * 256 + byte) 0 bytes

-- the bytes of a field
abbrev pub bytes_at : List ℕ → Field → List ℕ
bytes_at bytes field = slice_range bytes (start_of field) (start_of field + size_of field)

-- the value that they are
unfoldable pub value_at : List ℕ → Field → ℕ
value_at bytes field = big_endian (bytes_at bytes field)

-- the vector with this value of the field, and all else as it is
unfoldable pub with_value : List ℕ → Field → ℕ → List ℕ
with_value bytes field value =
    take (start_of field) bytes
    ++ (bytes_high_first (size_of field) value ++ drop (start_of field + size_of field) bytes)
