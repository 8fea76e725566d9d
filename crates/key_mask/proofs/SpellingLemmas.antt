-- Values in their canonical spellings are what is printed of them.
use Rattle.std.proofs.Common.{◌≡◌, ℕ, ◌^◌, ◌<◌, ◌≤◌, true, List, Some, refl, sym, subst, arith}
use Rattle.key_mask.specs.declared.fields.Field.{Field}
use Rattle.key_mask.specs.declared.fields.ValueKind.{ValueKind}
use Rattle.key_mask.specs.declared.fields.ValueKind.TheVariants.{Ipv4, Port, Byte, Hex, Ipv6}
use Rattle.key_mask.specs.Fields.{kind_of, width_of}
use Rattle.key_mask.specs.Spellings.{is_canonical_kind, is_canonical_value, kind_text, kind_value_in, value_in, value_text}
use Rattle.key_mask.proofs.FieldLemmas.{kind_fits, kind_width, width_is}
use Rattle.key_mask.proofs.NumberLemmas.{decimal_lead, digit_pass, each_below, number_read, number_text}
use Rattle.key_mask.proofs.ValueLemmas.{PassesAll, kind_pass}
use Rattle.key_mask.proofs.AddressLemmas.{address_canonical, address_is, address_small}
use Rattle.key_mask.proofs.GroupLemmas.{ipv6_canonical, ipv6_is, ipv6_small}
use Rattle.key_mask.proofs.HexLemmas.{hex_is, hex_small, is_lower}

lower_value : PassesAll is_lower
lower_value = record { decimals = λ c low high. lower_low c high; digits = digit_pass is_lower refl; dot = refl; colon = refl; letter = refl } where
  lower_low : (c : ℕ) → c ≤ 57 → is_lower c ≡ true
  lower_low c h = each_below is_lower 58 refl c (omega arith)

kind_canonical : (kind : ValueKind) (n : ℕ) → n < 2 ^ kind_width kind → is_canonical_kind kind (kind_text kind n) ≡ true
kind_canonical Ipv4 n small = address_canonical n
kind_canonical Port n small = decimal_lead n (omega arith)
kind_canonical Byte n small = decimal_lead n (omega arith)
kind_canonical Hex n small = kind_pass is_lower lower_value Hex n small
kind_canonical Ipv6 n small = ipv6_canonical n

pub value_canonical : (field : Field) (n : ℕ) → n < 2 ^ width_of field → is_canonical_value field (value_text field n) ≡ true
value_canonical field n small = kind_canonical (kind_of field) n (kind_fits field n small)

-- ---- the values of fields

kind_is : (kind : ValueKind) (text : List ℕ) (n : ℕ) → kind_value_in kind text ≡ Some n → is_canonical_kind kind text ≡ true → text ≡ kind_text kind n
kind_is Ipv4 text n h canonical = address_is text n h canonical
kind_is Port text n h canonical = number_text 5 65535 n text (omega arith) h canonical
kind_is Byte text n h canonical = number_text 3 255 n text (omega arith) h canonical
kind_is Hex text n h canonical = hex_is text n h canonical
kind_is Ipv6 text n h canonical = ipv6_is text n h canonical

pub value_is : (field : Field) (text : List ℕ) (n : ℕ) → value_in field text ≡ Some n → is_canonical_value field text ≡ true → text ≡ value_text field n
value_is field = kind_is (kind_of field)

kind_small : (kind : ValueKind) (text : List ℕ) (n : ℕ) → kind_value_in kind text ≡ Some n → n < 2 ^ kind_width kind
kind_small Ipv4 text n h = address_small text n h
kind_small Port text n h = let read = number_read 5 65535 n text h in omega (arith, read.within)
kind_small Byte text n h = let read = number_read 3 255 n text h in omega (arith, read.within)
kind_small Hex text n h = let small = hex_small text n h in omega (arith, small)
kind_small Ipv6 text n h = ipv6_small text n h

pub value_small : (field : Field) (text : List ℕ) (n : ℕ) → value_in field text ≡ Some n → n < 2 ^ width_of field
value_small field text n h = subst (λ width. n < 2 ^ width) (sym (width_is field)) (kind_small (kind_of field) text n h)
