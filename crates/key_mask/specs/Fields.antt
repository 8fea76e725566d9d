-- The fields of a key vector.
use Rattle.std.specs.Prelude.{ℕ, ◌/◌, List, [], ◌∷◌, Bool, ◌&&◌, ◌==◌, nat_le, if◌then◌else◌, codes, Option, None, Some, is_some}
use Rattle.key_mask.specs.declared.fields.Field.{Field}
use Rattle.key_mask.specs.declared.fields.Field.TheVariants.{SrcIp, DstIp, SrcPort, DstPort, Proto, Tos, EtherType, SrcIp6, DstIp6}
use Rattle.key_mask.specs.declared.fields.ValueKind.{ValueKind}
use Rattle.key_mask.specs.declared.fields.ValueKind.TheVariants.{Ipv4, Port, Byte, Hex, Ipv6}

-- a row of the table of the fields: the field's number, its name in texts, its first byte, its width in bits,
-- and what its values are
pub record Row : Type 0 where
  pub number : ℕ
  pub name : List ℕ
  pub start : ℕ
  pub width : ℕ
  pub kind : ValueKind

-- the table
abbrev pub row_of : Field → Row
row_of SrcIp = record { number = 0; name = codes "src_ip"; start = 0; width = 32; kind = Ipv4 }
row_of DstIp = record { number = 1; name = codes "dst_ip"; start = 4; width = 32; kind = Ipv4 }
row_of SrcPort = record { number = 2; name = codes "src_port"; start = 8; width = 16; kind = Port }
row_of DstPort = record { number = 3; name = codes "dst_port"; start = 10; width = 16; kind = Port }
row_of Proto = record { number = 4; name = codes "proto"; start = 12; width = 8; kind = Byte }
row_of Tos = record { number = 5; name = codes "tos"; start = 13; width = 8; kind = Byte }
row_of EtherType = record { number = 6; name = codes "ethertype"; start = 14; width = 16; kind = Hex }
row_of SrcIp6 = record { number = 7; name = codes "src_ip6"; start = 16; width = 128; kind = Ipv6 }
row_of DstIp6 = record { number = 8; name = codes "dst_ip6"; start = 32; width = 128; kind = Ipv6 }

-- the fields in the order of their bytes
abbrev pub fields : List Field
fields = SrcIp ∷ DstIp ∷ SrcPort ∷ DstPort ∷ Proto ∷ Tos ∷ EtherType ∷ SrcIp6 ∷ DstIp6 ∷ []

-- a field's place among them
abbrev pub field_number : Field → ℕ
field_number field = (row_of field).number

-- a field's name in texts
abbrev pub name_of : Field → List ℕ
name_of field = (row_of field).name

-- a field's first byte
abbrev pub start_of : Field → ℕ
start_of field = (row_of field).start

-- a field's width in bits, a multiple of 8
abbrev pub width_of : Field → ℕ
width_of field = (row_of field).width

-- how many bytes a field has
abbrev pub size_of : Field → ℕ
size_of field = width_of field / 8

-- what the values of a field are
abbrev pub kind_of : Field → ValueKind
kind_of field = (row_of field).kind

-- how many digits a prefix may have, where the values are addresses, of which a mask may leave a prefix
abbrev pub prefix_digits : ValueKind → Option ℕ
prefix_digits Ipv4 = Some 2
prefix_digits Port = None
prefix_digits Byte = None
prefix_digits Hex = None
prefix_digits Ipv6 = Some 3

-- the fields of which a mask may leave a prefix
abbrev pub is_address : Field → Bool
is_address field = is_some (prefix_digits (kind_of field))

-- the lengths that a field may have where it stands in a mask
abbrev pub is_length : Field → ℕ → Bool
is_length field length =
    if is_address field then nat_le 1 length && nat_le length (width_of field) else length == width_of field
