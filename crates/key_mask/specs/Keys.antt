-- Keys as texts: items with commas between, each a field's name, for an address with `/` and a prefix or not.
use Rattle.std.specs.Prelude.{ℕ, Bool, false, List, slice_set, None, ok_or, Result, Ok}
use Rattle.texts.specs.Cuts.{front, back, parts}
use Rattle.key_mask.specs.declared.fields.Field.{Field}
use Rattle.key_mask.specs.declared.items.FieldKind.{FieldKind}
use Rattle.key_mask.specs.declared.items.FieldKind.TheVariants.{UnknownField, BadPrefix}
use Rattle.key_mask.specs.declared.items.FieldFault.{FieldFault}
use Rattle.key_mask.specs.Fields.{field_number}
use Rattle.key_mask.specs.Masks.{no_lengths}
use Rattle.key_mask.specs.Items.{◌>>=◌, field_named, fresh_field, is_slash, prefix_in, with_items, items_text, longest_items, is_canonical_prefix, are_in_order}

-- the prefix lengths with those of one item more, or the item's first fault
unfoldable pub with_item : List ℕ → List ℕ → Result (List ℕ) FieldKind
with_item lengths item = do
  named ← ok_or (field_named (front is_slash item)) UnknownField
  field ← fresh_field lengths named
  prefix ← ok_or (prefix_in field (back is_slash item)) BadPrefix
  Ok (slice_set lengths (field_number field) prefix)

-- the mask of a key, as its prefix lengths, or the fault of the first item at fault
unfoldable pub key_in : List ℕ → Result (List ℕ) FieldFault
key_in text = with_items with_item 0 no_lengths (parts 44 text)

-- the one canonical key of a mask: its fields in their order
abbrev pub key_text : List ℕ → List ℕ
key_text lengths = items_text None lengths

-- how many bytes it has at most
abbrev pub longest_key : ℕ
longest_key = longest_items false

-- an item of a canonical key
abbrev pub is_key_item : Field → List ℕ → Bool
is_key_item field item = is_canonical_prefix field (back is_slash item)

-- a key in its one canonical spelling: one comma between items, the fields in their order, no zeros in front of
-- a prefix, and no prefix of a whole field
unfoldable pub is_canonical_key : List ℕ → Bool
is_canonical_key text = are_in_order is_slash is_key_item 0 (parts 44 text)
