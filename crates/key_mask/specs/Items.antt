-- Items with commas between, each of which names a field: what keys and filters share.
use Rattle.std.specs.Prelude.{ℕ, ◌+◌, ◌==◌, ◌&&◌, Bool, true, false, not, nat_le, if◌then◌else◌, List, [], ◌∷◌, ◌++◌, codes, find, length, slice_index, Option, None, Some, option_and_then, Result, Ok, Err}
use Rattle.std.specs.List.{join_with_byte, sum_by}
use Rattle.std.specs.Option.{option_map_or}
use Rattle.std.specs.Str.{bytes_eq}
use Rattle.std.specs.Fmt.{decimal}
use Rattle.texts.specs.Cuts.{front}
use Rattle.key_mask.specs.declared.fields.Field.{Field}
use Rattle.key_mask.specs.declared.items.FieldKind.{FieldKind}
use Rattle.key_mask.specs.declared.items.FieldKind.TheVariants.{UnknownField, RepeatedField, BadPrefix, BadValue}
use Rattle.key_mask.specs.declared.items.FieldFault.{FieldFault}
use Rattle.key_mask.specs.Fields.{fields, field_number, width_of, kind_of, name_of, prefix_digits}
use Rattle.key_mask.specs.Numbers.{number_in}
use Rattle.key_mask.specs.Spellings.{value_text, longest_value, has_no_leading_zero}
use Rattle.key_mask.specs.Vectors.{value_at}

-- ---- faults

-- how a fault is told, in front of its place
abbrev pub field_words : FieldKind → List ℕ
field_words UnknownField = codes "unknown field "
field_words RepeatedField = codes "repeated field "
field_words BadPrefix = codes "bad prefix "
field_words BadValue = codes "bad value "

-- ---- reading

-- the second step, if the first found no fault
infixl 10 ◌>>=◌
abbrev pub ◌>>=◌ : {A B E : Type 0} → Result A E → (A → Result B E) → Result B E
Ok x >>= f = f x
Err e >>= f = Err e

-- the field that has this name
unfoldable pub field_named : List ℕ → Option Field
field_named name = find (λ field. bytes_eq name (name_of field)) fields

abbrev pub is_slash : ℕ → Bool
is_slash byte = byte == 47

abbrev pub not_zero : ℕ → Option ℕ
not_zero n = if n == 0 then None else Some n

-- the prefix length that a text behind the slash writes, of an address alone: a number from 1 to the field's bits
abbrev pub prefix_behind : Field → List ℕ → Option ℕ
prefix_behind field text =
    option_and_then
    (λ digits. option_and_then not_zero (number_in digits (width_of field) text))
    (prefix_digits (kind_of field))

-- the prefix length by what stands behind the slash: the whole field where there is no slash
abbrev pub prefix_in : Field → Option (List ℕ) → Option ℕ
prefix_in field None = Some (width_of field)
prefix_in field (Some text) = prefix_behind field text

-- a field that stands in no item before: its length is still 0
abbrev pub fresh_field : List ℕ → Field → Result Field FieldKind
fresh_field lengths field =
    if slice_index lengths (field_number field) == 0 then Ok field else Err RepeatedField

abbrev pub at_place : {A : Type 0} → ℕ → Result A FieldKind → Result A FieldFault
at_place place (Ok found) = Ok found
at_place place (Err kind) = Err (record { kind = kind; place = place })

-- what was found before with what these items add to it, the first of which stands at this place, or the fault
-- of the first item at fault
abbrev pub with_items : {A : Type 0} → (A → List ℕ → Result A FieldKind) → ℕ → A → List (List ℕ)
    → Result A FieldFault
with_items add place found [] = Ok found
with_items add place found (item ∷ items) =
    at_place place (add found item) >>= λ next. with_items add (place + (length item + 1)) next items

-- ---- printing

-- a slash and the prefix length, where it is not the whole field
abbrev pub prefix_text : Field → ℕ → List ℕ
prefix_text field prefix = if prefix == width_of field then [] else 47 ∷ decimal prefix

-- a colon and the field's value, where the items have values, which are those of a vector
abbrev pub value_part : Option (List ℕ) → Field → List ℕ
value_part None field = []
value_part (Some bytes) field = 58 ∷ value_text field (value_at bytes field)

-- a field's item
abbrev pub item_text : Option (List ℕ) → Field → ℕ → List ℕ
item_text values field prefix = name_of field ++ (value_part values field ++ prefix_text field prefix)

-- the items of those of the fields that stand in the mask
abbrev pub item_texts : Option (List ℕ) → List ℕ → List Field → List (List ℕ)
item_texts values lengths [] = []
item_texts values lengths (field ∷ fields) =
    if slice_index lengths (field_number field) == 0 then item_texts values lengths fields
    else item_text values field (slice_index lengths (field_number field)) ∷ item_texts values lengths fields

-- the items of a mask in the fields' order, with commas between
unfoldable pub items_text : Option (List ℕ) → List ℕ → List ℕ
items_text values lengths = join_with_byte 44 (item_texts values lengths fields)

-- a line with the item of one field more, where the field stands in the mask
unfoldable pub with_field : Option (List ℕ) → List ℕ → Field → ℕ → List ℕ
with_field values line field prefix =
    if prefix == 0 then line
    else (if length line == 0 then item_text values field prefix
    else line ++ 44 ∷ item_text values field prefix)

-- how many bytes a slash and a prefix have at most
abbrev pub longest_prefix : Field → ℕ
longest_prefix field = option_map_or (λ digits. digits + 1) (prefix_digits (kind_of field)) 0

-- how many bytes a field's item has at most, with its value or without
abbrev pub longest_item : Bool → Field → ℕ
longest_item valued field =
    length (name_of field) + (if valued then longest_value (kind_of field) + 1 else 0) + longest_prefix field

-- how many bytes the items of all fields have at most, each with a comma
abbrev pub longest_items : Bool → ℕ
longest_items valued = sum_by (λ field. longest_item valued field + 1) fields

-- ---- canonical spellings

-- no zeros in front, and not the prefix of the whole field
abbrev pub is_canonical_prefix : Field → Option (List ℕ) → Bool
is_canonical_prefix field None = true
is_canonical_prefix field (Some text) =
    has_no_leading_zero text
    && option_map_or (λ prefix. not (prefix == width_of field)) (prefix_behind field text) false

-- items in the fields' order from a field on, no field twice, each spelled as its field's items are; a name ends
-- at the first byte that passes the test
abbrev pub are_in_order : (ℕ → Bool) → (Field → List ℕ → Bool) → ℕ → List (List ℕ) → Bool
are_in_order ends is_spelled least [] = true
are_in_order ends is_spelled least (item ∷ items) =
    option_map_or
    (λ field. nat_le least (field_number field)
    && (is_spelled field item && are_in_order ends is_spelled (field_number field + 1) items))
    (field_named (front ends item)) false
