-- Filters as texts: `all`, or items with commas between, each `FIELD:VALUE`, for an address with `/` and a prefix
-- or without.
use Rattle.std.specs.Prelude.{ℕ, ◌==◌, ◌&&◌, ◌||◌, Bool, false, if◌then◌else◌, List, replicate, slice_set, codes, Option, None, Some, ok_or, option_and_then, Result, Ok}
use Rattle.std.specs.Int.{bytes_high_first}
use Rattle.std.specs.Str.{bytes_eq}
use Rattle.texts.specs.Cuts.{front, back, parts}
use Rattle.key_mask.specs.declared.fields.Field.{Field}
use Rattle.key_mask.specs.declared.items.FieldKind.{FieldKind}
use Rattle.key_mask.specs.declared.items.FieldKind.TheVariants.{UnknownField, BadPrefix, BadValue}
use Rattle.key_mask.specs.declared.items.FieldFault.{FieldFault}
use Rattle.key_mask.specs.Bytes.{and_bytes}
use Rattle.key_mask.specs.Fields.{field_number, size_of}
use Rattle.key_mask.specs.Items.{◌>>=◌, are_in_order, field_named, fresh_field, is_canonical_prefix, is_slash, prefix_in, with_items}
use Rattle.key_mask.specs.Masks.{mask_bytes_of, no_lengths, prefix_bytes}
use Rattle.key_mask.specs.Spellings.{is_canonical_value, value_in}
use Rattle.key_mask.specs.Vectors.{with_value}
use Rattle.task_filters.specs.Filters.{Pattern}

abbrev pub is_colon : ℕ → Bool
is_colon byte = byte == 58

-- what stands behind the slash, of what stands behind the colon
abbrev pub slash_behind : Option (List ℕ) → Option (List ℕ)
slash_behind rest = option_and_then (back is_slash) rest

-- the value by what stands behind the colon: up to the slash
abbrev pub value_behind : Field → Option (List ℕ) → Option ℕ
value_behind field None = None
value_behind field (Some text) = value_in field (front is_slash text)

-- what items say, with one field more: the values as they are written, not cut at their prefixes, and the
-- prefix lengths
abbrev pub with_both : Pattern → Field → ℕ → ℕ → Pattern
with_both found field prefix value = record {
  value = with_value found.value field value;
  mask = slice_set found.mask (field_number field) prefix;
}

-- what was found with what one item adds to it, or the item's first fault
unfoldable pub with_term : Pattern → List ℕ → Result Pattern FieldKind
with_term found item = do
  named ← ok_or (field_named (front is_colon item)) UnknownField
  field ← fresh_field found.mask named
  prefix ← ok_or (prefix_in field (slash_behind (back is_colon item))) BadPrefix
  value ← ok_or (value_behind field (back is_colon item)) BadValue
  Ok (with_both found field prefix value)

-- no field's prefix length, and no value
abbrev pub no_terms : Pattern
no_terms = record { value = replicate 48 0; mask = no_lengths }

-- what the items of a filter say, or the fault of the first item at fault
unfoldable pub terms_in : List ℕ → Result Pattern FieldFault
terms_in text =
    if bytes_eq text (codes "all") then Ok no_terms else with_items with_term 0 no_terms (parts 44 text)

-- what the mask leaves of the values: bits of an address past its prefix count as 0
abbrev pub kept_terms : Pattern → Pattern
kept_terms found = record { value = and_bytes found.value (mask_bytes_of found.mask); mask = found.mask }

-- the filter that a text writes, or the fault of the first item at fault
abbrev pub filter_in : List ℕ → Result Pattern FieldFault
filter_in text = terms_in text >>= λ found. Ok (kept_terms found)

-- ---- canonical spellings

-- the prefix leaves the whole value
abbrev pub is_cut : Field → Option ℕ → Option ℕ → Bool
is_cut field None value = false
is_cut field (Some prefix) None = false
is_cut field (Some prefix) (Some value) =
    let bytes = bytes_high_first (size_of field) value in
    bytes_eq (and_bytes bytes (prefix_bytes prefix (size_of field))) bytes

-- what stands behind the colon: a canonical value with no bit past its prefix, and a canonical prefix
abbrev pub is_canonical_rest : Field → Option (List ℕ) → Bool
is_canonical_rest field None = false
is_canonical_rest field (Some rest) =
    is_canonical_value field (front is_slash rest) && (is_canonical_prefix field (back is_slash rest)
    && is_cut field (prefix_in field (back is_slash rest)) (value_in field (front is_slash rest)))

-- an item of a canonical filter
abbrev pub is_filter_item : Field → List ℕ → Bool
is_filter_item field item = is_canonical_rest field (back is_colon item)

-- a filter in its one canonical spelling: `all`, or one comma between items, the fields in their order, no zeros
-- in front of a number, letters in lower case, no group of an IPv6 address left out, no bit past a prefix, and
-- no prefix of a whole field
unfoldable pub is_canonical_filter : List ℕ → Bool
is_canonical_filter text =
    bytes_eq text (codes "all") || are_in_order is_colon is_filter_item 0 (parts 44 text)
