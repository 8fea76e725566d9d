-- Worked values of the definitions.
use Rattle.std.proofs.Common.{◌≡◌, ℕ, List, [], ◌∷◌, ◌++◌, replicate, map, None, Some, Ok, Err, true, false, codes, refl, arith}
use Rattle.std.specs.List.{sum_by}
use Rattle.key_mask.specs.declared.fields.Field.TheVariants.{SrcIp, DstIp, SrcPort, DstPort, Proto, Tos, EtherType, SrcIp6, DstIp6}
use Rattle.key_mask.specs.declared.fields.TheConstants.{KEY_BYTES, FIELD_COUNT, FIELDS}
use Rattle.key_mask.specs.declared.items.FieldKind.TheVariants.{UnknownField, RepeatedField, BadPrefix}
use Rattle.std.proofs.lemmas.Fmt.{decimal_digit}
use Rattle.key_mask.specs.Fields.{fields, field_number, size_of, start_of}
use Rattle.key_mask.specs.Items.{field_named, items_text}
use Rattle.key_mask.specs.Ipv6.{group_in, groups_in, side_in, full_in, sides_in, eight_groups_in, ipv6_in, group_text, groups_before, ipv6_text}
use Rattle.key_mask.specs.Keys.{is_canonical_key, key_in, key_text, longest_key, with_item}
use Rattle.key_mask.specs.Masks.{lengths_of, mask_bytes_of}
use Rattle.key_mask.specs.Numbers.{number_in, address_in, hex_in}
use Rattle.key_mask.specs.Spellings.{is_canonical_value, value_in, value_text}
use Rattle.key_mask.specs.Vectors.{value_at, with_value}

-- ---- the table

-- each field begins where the one before it ends, and the last ends with the vector
places : map start_of fields ≡ 0 ∷ 4 ∷ 8 ∷ 10 ∷ 12 ∷ 13 ∷ 14 ∷ 16 ∷ 32 ∷ []
places = refl

sizes : map size_of fields ≡ 4 ∷ 4 ∷ 2 ∷ 2 ∷ 1 ∷ 1 ∷ 2 ∷ 16 ∷ 16 ∷ []
sizes = refl

whole_vector : sum_by size_of fields ≡ KEY_BYTES
whole_vector = refl

vector_of_48 : KEY_BYTES ≡ 48
vector_of_48 = refl

nine_fields : FIELD_COUNT ≡ 9
nine_fields = refl

same_order : FIELDS ≡ fields
same_order = refl

numbers : map field_number fields ≡ 0 ∷ 1 ∷ 2 ∷ 3 ∷ 4 ∷ 5 ∷ 6 ∷ 7 ∷ 8 ∷ []
numbers = refl

-- a key of all fields fits a line
whole_key : longest_key ≡ 82
whole_key = refl

-- ---- masks

-- no bit of the IPv6 addresses
abbrev no_ipv6 : List ℕ
no_ipv6 = replicate 32 0

-- a source prefix of 8 bits
prefix_of_8 : mask_bytes_of (lengths_of ((SrcIp, 8) ∷ []))
    ≡ 255 ∷ 0 ∷ 0 ∷ 0 ∷ 0 ∷ 0 ∷ 0 ∷ 0 ∷ 0 ∷ 0 ∷ 0 ∷ 0 ∷ 0 ∷ 0 ∷ 0 ∷ 0 ∷ no_ipv6
unfolding mask_bytes_of
prefix_of_8 = refl

-- a destination prefix of 9 bits, and the protocol
prefix_of_9 : mask_bytes_of (lengths_of ((Proto, 8) ∷ (DstIp, 9) ∷ []))
    ≡ 0 ∷ 0 ∷ 0 ∷ 0 ∷ 255 ∷ 128 ∷ 0 ∷ 0 ∷ 0 ∷ 0 ∷ 0 ∷ 0 ∷ 255 ∷ 0 ∷ 0 ∷ 0 ∷ no_ipv6
unfolding mask_bytes_of
prefix_of_9 = refl

-- the five fields of a connection
five_fields : mask_bytes_of (lengths_of ((SrcIp, 32) ∷ (DstIp, 32) ∷ (SrcPort, 16) ∷ (DstPort, 16) ∷ (Proto, 8) ∷ []))
    ≡ replicate 13 255 ++ replicate 35 0
unfolding mask_bytes_of
five_fields = refl

-- prefixes of IPv6 addresses: the second begins at byte 32
ipv6_prefixes : mask_bytes_of (lengths_of ((DstIp6, 9) ∷ (SrcIp6, 127) ∷ []))
    ≡ replicate 16 0 ++ (replicate 15 255 ++ 254 ∷ 255 ∷ 128 ∷ replicate 14 0)
unfolding mask_bytes_of
ipv6_prefixes = refl

-- each field whole
every_field : mask_bytes_of (32 ∷ 32 ∷ 16 ∷ 16 ∷ 8 ∷ 8 ∷ 16 ∷ 128 ∷ 128 ∷ []) ≡ replicate 48 255
unfolding mask_bytes_of
every_field = refl

-- ---- values in a vector

abbrev numbered : List ℕ
numbered = 0 ∷ 1 ∷ 2 ∷ 3 ∷ 4 ∷ 5 ∷ 6 ∷ 7 ∷ 8 ∷ 9 ∷ 10 ∷ 11 ∷ 12 ∷ 13 ∷ 14 ∷ 15 ∷ 16 ∷ 17 ∷ 18 ∷ 19 ∷ 20 ∷ 21 ∷ 22 ∷ 23
    ∷ 24 ∷ 25 ∷ 26 ∷ 27 ∷ 28 ∷ 29 ∷ 30 ∷ 31 ∷ 32 ∷ 33 ∷ 34 ∷ 35 ∷ 36 ∷ 37 ∷ 38 ∷ 39 ∷ 40 ∷ 41 ∷ 42 ∷ 43 ∷ 44 ∷ 45 ∷ 46 ∷ 47 ∷ []

a_port : value_at numbered DstPort ≡ 0x0a0b
unfolding value_at
a_port = refl

a_wide_value : value_at numbered DstIp6 ≡ 0x202122232425262728292a2b2c2d2e2f
unfolding value_at
a_wide_value = refl

a_port_put : with_value (replicate 48 0) SrcPort 0x1234 ≡ replicate 8 0 ++ 0x12 ∷ 0x34 ∷ replicate 38 0
unfolding with_value
a_port_put = refl

-- ---- values of fields in texts

an_address : value_in SrcIp (codes "10.0.0.20") ≡ Some 0x0a000014
unfolding address_in number_in
an_address = refl

zeros_in_front : value_in DstIp (codes "001.02.3.255") ≡ Some 0x010203ff
unfolding address_in number_in
zeros_in_front = refl

three_numbers : value_in DstIp (codes "1.2.3") ≡ None
unfolding address_in number_in
three_numbers = refl

five_numbers : value_in DstIp (codes "1.2.3.4.5") ≡ None
unfolding address_in number_in
five_numbers = refl

the_last_port : value_in SrcPort (codes "65535") ≡ Some 65535
unfolding number_in
the_last_port = refl

past_the_last_port : value_in DstPort (codes "65536") ≡ None
unfolding number_in
past_the_last_port = refl

four_digits : value_in Proto (codes "0006") ≡ None
unfolding number_in
four_digits = refl

a_sign : value_in Tos (codes "+6") ≡ None
unfolding number_in
a_sign = refl

either_case : value_in EtherType (codes "0x86dD") ≡ Some 0x86dd
unfolding hex_in
either_case = refl

decimal_type : value_in EtherType (codes "2048") ≡ None
unfolding hex_in
decimal_type = refl

-- ---- IPv6 addresses

zeros_left_out : value_in SrcIp6 (codes "2001:DB8::1") ≡ Some 0x20010db8000000000000000000000001
unfolding group_in groups_in side_in full_in sides_in eight_groups_in ipv6_in
zeros_left_out = refl

all_left_out : value_in SrcIp6 (codes "::") ≡ Some 0
unfolding group_in groups_in side_in full_in sides_in eight_groups_in ipv6_in
all_left_out = refl

at_the_start : value_in DstIp6 (codes "::1") ≡ Some 1
unfolding group_in groups_in side_in full_in sides_in eight_groups_in ipv6_in
at_the_start = refl

at_the_end : value_in DstIp6 (codes "1::") ≡ Some 0x00010000000000000000000000000000
unfolding group_in groups_in side_in full_in sides_in eight_groups_in ipv6_in
at_the_end = refl

eight_groups : value_in SrcIp6 (codes "1:02:003:0004:a:B:c:ffff") ≡ Some 0x0001000200030004000a000b000cffff
unfolding group_in groups_in side_in full_in sides_in eight_groups_in ipv6_in
eight_groups = refl

seven_groups : value_in SrcIp6 (codes "1:2:3:4:5:6:7::") ≡ Some 0x00010002000300040005000600070000
unfolding group_in groups_in side_in full_in sides_in eight_groups_in ipv6_in
seven_groups = refl

two_doubles : value_in SrcIp6 (codes "1::2::3") ≡ None
unfolding group_in groups_in side_in full_in sides_in eight_groups_in ipv6_in
two_doubles = refl

three_colons : value_in SrcIp6 (codes "1:::2") ≡ None
unfolding group_in groups_in side_in full_in sides_in eight_groups_in ipv6_in
three_colons = refl

seven_alone : value_in SrcIp6 (codes "1:2:3:4:5:6:7") ≡ None
unfolding group_in groups_in side_in full_in sides_in eight_groups_in ipv6_in
seven_alone = refl

nine_groups : value_in SrcIp6 (codes "1:2:3:4:5:6:7:8:9") ≡ None
unfolding group_in groups_in side_in full_in sides_in eight_groups_in ipv6_in
nine_groups = refl

nothing_left_out : value_in SrcIp6 (codes "1:2:3:4::5:6:7:8") ≡ None
unfolding group_in groups_in side_in full_in sides_in eight_groups_in ipv6_in
nothing_left_out = refl

nothing_behind : value_in SrcIp6 (codes "1:2:3:4:5:6:7:8::") ≡ None
unfolding group_in groups_in side_in full_in sides_in eight_groups_in ipv6_in
nothing_behind = refl

five_digits : value_in SrcIp6 (codes "12345::") ≡ None
unfolding group_in groups_in side_in full_in sides_in eight_groups_in ipv6_in
five_digits = refl

dotted_part : value_in SrcIp6 (codes "::ffff:10.0.0.1") ≡ None
unfolding group_in groups_in side_in full_in sides_in eight_groups_in ipv6_in
dotted_part = refl

printed : value_text SrcIp6 0x20010db8000000000000000000000001 ≡ codes "2001:db8:0:0:0:0:0:1"
unfolding group_text groups_before ipv6_text
printed = refl

-- ---- keys

in_any_order : key_in (codes "tos,src_ip/8,dst_ip") ≡ Ok (8 ∷ 32 ∷ 0 ∷ 0 ∷ 0 ∷ 8 ∷ 0 ∷ 0 ∷ 0 ∷ [])
unfolding key_in with_item field_named number_in
in_any_order = refl

ipv6_keys : key_in (codes "dst_ip6/128,src_ip6/064") ≡ Ok (0 ∷ 0 ∷ 0 ∷ 0 ∷ 0 ∷ 0 ∷ 0 ∷ 64 ∷ 128 ∷ [])
unfolding key_in with_item field_named number_in
ipv6_keys = refl

prefix_of_129 : key_in (codes "tos,src_ip6/129") ≡ Err (record { kind = BadPrefix; place = 4 })
unfolding key_in with_item field_named number_in
prefix_of_129 = refl

prefix_of_33 : key_in (codes "src_ip/33") ≡ Err (record { kind = BadPrefix; place = 0 })
unfolding key_in with_item field_named number_in
prefix_of_33 = refl

an_empty_item : key_in (codes "src_ip,") ≡ Err (record { kind = UnknownField; place = 7 })
unfolding key_in with_item field_named number_in
an_empty_item = refl

a_field_again : key_in (codes "tos,src_ip,tos") ≡ Err (record { kind = RepeatedField; place = 11 })
unfolding key_in with_item field_named number_in
a_field_again = refl

-- of two faults of an item the earlier in their order
again_with_a_bad_prefix : key_in (codes "tos,tos/8") ≡ Err (record { kind = RepeatedField; place = 4 })
unfolding key_in with_item field_named number_in
again_with_a_bad_prefix = refl

-- of two items at fault the first
two_at_fault : key_in (codes "proto,src_ip/33,ttl") ≡ Err (record { kind = BadPrefix; place = 6 })
unfolding key_in with_item field_named number_in
two_at_fault = refl

no_bits : key_in (codes "dst_ip/0") ≡ Err (record { kind = BadPrefix; place = 0 })
unfolding key_in with_item field_named number_in
no_bits = refl

a_zero_in_front : key_in (codes "dst_ip/08") ≡ Ok (0 ∷ 8 ∷ 0 ∷ 0 ∷ 0 ∷ 0 ∷ 0 ∷ 0 ∷ 0 ∷ [])
unfolding key_in with_item field_named number_in
a_zero_in_front = refl

-- canonical keys: the fields in their order, and no prefix of a whole address
whole_addresses : key_text (32 ∷ 32 ∷ 0 ∷ 16 ∷ 0 ∷ 8 ∷ 0 ∷ 128 ∷ 0 ∷ []) ≡ codes "src_ip,dst_ip,dst_port,tos,src_ip6"
unfolding items_text
whole_addresses = refl

a_prefix : key_text (0 ∷ 8 ∷ 0 ∷ 0 ∷ 0 ∷ 0 ∷ 16 ∷ 0 ∷ 0 ∷ []) ≡ codes "dst_ip/8,ethertype"
unfolding items_text
a_prefix = rw (decimal_digit 8 (omega arith)) refl

-- the fields out of their order, a zero in front, a prefix of a whole field
a_canonical_key : is_canonical_key (codes "src_ip/8,tos,src_ip6/32") ≡ true
unfolding is_canonical_key field_named number_in
a_canonical_key = refl

out_of_order : is_canonical_key (codes "tos,src_ip/8") ≡ false
unfolding is_canonical_key field_named number_in
out_of_order = refl

twice : is_canonical_key (codes "tos,tos") ≡ false
unfolding is_canonical_key field_named number_in
twice = refl

zero_before_the_prefix : is_canonical_key (codes "src_ip/08") ≡ false
unfolding is_canonical_key field_named number_in
zero_before_the_prefix = refl

whole_prefix : is_canonical_key (codes "src_ip/32") ≡ false
unfolding is_canonical_key field_named number_in
whole_prefix = refl

whole_ipv6_prefix : is_canonical_key (codes "src_ip6/128") ≡ false
unfolding is_canonical_key field_named number_in
whole_ipv6_prefix = refl

-- canonical values
spelled_out : is_canonical_value SrcIp6 (codes "2001:db8:0:0:0:0:0:1") ≡ true
spelled_out = refl

double_colon : is_canonical_value SrcIp6 (codes "2001:db8::1") ≡ false
double_colon = refl

upper_case : is_canonical_value SrcIp6 (codes "2001:DB8:0:0:0:0:0:1") ≡ false
upper_case = refl

zero_in_a_group : is_canonical_value SrcIp6 (codes "2001:db8:0:0:0:0:0:01") ≡ false
zero_in_a_group = refl

zero_in_an_address : is_canonical_value SrcIp (codes "10.0.0.01") ≡ false
zero_in_an_address = refl

upper_case_type : is_canonical_value EtherType (codes "0x86DD") ≡ false
upper_case_type = refl

zeros_of_a_type : is_canonical_value EtherType (codes "0x0800") ≡ true
zeros_of_a_type = refl

-- ---- numbers

widest_number : number_in 10 4294967295 (codes "4294967295") ≡ Some 4294967295
unfolding number_in
widest_number = refl

past_the_widest : number_in 10 4294967295 (codes "4294967296") ≡ None
unfolding number_in
past_the_widest = refl
