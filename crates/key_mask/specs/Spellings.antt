-- The values of a field in texts: how they are read, and the one canonical spelling of each.
use Rattle.std.specs.Prelude.{ℕ, ◌/◌, ◌%◌, ◌==◌, ◌&&◌, ◌||◌, Bool, not, List, [], ◌∷◌, length, map, slice_index, Option, is_none}
use Rattle.std.specs.Char.{digit_char, is_ascii_uppercase}
use Rattle.std.specs.Fmt.{decimal}
use Rattle.std.specs.Int.{bytes_high_first}
use Rattle.std.specs.List.{join_with_byte, list_all}
use Rattle.texts.specs.Cuts.{parts}
use Rattle.key_mask.specs.declared.fields.Field.{Field}
use Rattle.key_mask.specs.declared.fields.ValueKind.{ValueKind}
use Rattle.key_mask.specs.declared.fields.ValueKind.TheVariants.{Ipv4, Port, Byte, Hex, Ipv6}
use Rattle.key_mask.specs.Fields.{kind_of}
use Rattle.key_mask.specs.Numbers.{number_in, address_in, hex_in}
use Rattle.key_mask.specs.Ipv6.{ipv6_in, ipv6_text, double_from}

-- the value of this kind that a text writes
abbrev pub kind_value_in : ValueKind → List ℕ → Option ℕ
kind_value_in Ipv4 text = address_in text
kind_value_in Port text = number_in 5 65535 text
kind_value_in Byte text = number_in 3 255 text
kind_value_in Hex text = hex_in text
kind_value_in Ipv6 text = ipv6_in text

-- the value of a field that a text writes
abbrev pub value_in : Field → List ℕ → Option ℕ
value_in field text = kind_value_in (kind_of field) text

-- the four bytes of an address in decimal, with dots between
unfoldable pub address_text : ℕ → List ℕ
address_text n = join_with_byte 46 (map decimal (bytes_high_first 4 n))

-- `0x` and four digits in lower case
unfoldable pub hex_text : ℕ → List ℕ
hex_text n =
    48 ∷ 120 ∷ digit_char (n / 16 / 16 / 16) ∷ digit_char (n / 16 / 16 % 16) ∷ digit_char (n / 16 % 16)
    ∷ digit_char (n % 16) ∷ []

-- the canonical spelling of a value of this kind
abbrev pub kind_text : ValueKind → ℕ → List ℕ
kind_text Ipv4 n = address_text n
kind_text Port n = decimal n
kind_text Byte n = decimal n
kind_text Hex n = hex_text n
kind_text Ipv6 n = ipv6_text n

-- the canonical spelling of a value of a field
abbrev pub value_text : Field → ℕ → List ℕ
value_text field n = kind_text (kind_of field) n

-- how many bytes it has at most
abbrev pub longest_value : ValueKind → ℕ
longest_value Ipv4 = 15
longest_value Port = 5
longest_value Byte = 3
longest_value Hex = 6
longest_value Ipv6 = 39

-- ---- what a canonical spelling looks like

-- no zero stands in front of another digit
abbrev pub has_no_leading_zero : List ℕ → Bool
has_no_leading_zero text = length text == 1 || not (slice_index text 0 == 48)

-- no letter of the upper case
abbrev pub is_lower_case : List ℕ → Bool
is_lower_case text = list_all (λ byte. not (is_ascii_uppercase byte)) text

abbrev pub is_canonical_group : List ℕ → Bool
is_canonical_group group = has_no_leading_zero group && is_lower_case group

-- numbers have no zeros in front, letters are in lower case, and no group is left out
abbrev pub is_canonical_kind : ValueKind → List ℕ → Bool
is_canonical_kind Ipv4 text = list_all has_no_leading_zero (parts 46 text)
is_canonical_kind Port text = has_no_leading_zero text
is_canonical_kind Byte text = has_no_leading_zero text
is_canonical_kind Hex text = is_lower_case text
is_canonical_kind Ipv6 text = list_all is_canonical_group (parts 58 text) && is_none (double_from 0 text)

abbrev pub is_canonical_value : Field → List ℕ → Bool
is_canonical_value field text = is_canonical_kind (kind_of field) text
