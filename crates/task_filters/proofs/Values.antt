-- Worked values of the definitions.
use Rattle.std.proofs.Common.{◌≡◌, true, false, List, ℕ, [], ◌∷◌, ◌++◌, replicate, Ok, Err, codes, refl}
use Rattle.key_mask.specs.declared.items.FieldKind.TheVariants.{UnknownField, RepeatedField, BadPrefix, BadValue}
use Rattle.std.specs.Fmt.{digits}
use Rattle.key_mask.specs.Items.{field_named, items_text}
use Rattle.key_mask.specs.Ipv6.{group_in, groups_in, side_in, full_in, sides_in, eight_groups_in, ipv6_in, group_text, groups_before, ipv6_text}
use Rattle.key_mask.specs.Masks.{mask_bytes_of}
use Rattle.key_mask.specs.Numbers.{number_in, address_in, hex_in}
use Rattle.key_mask.specs.Spellings.{address_text, hex_text}
use Rattle.key_mask.specs.Vectors.{value_at, with_value}
use Rattle.task_filters.specs.Filters.{Pattern, passes, are_disjoint}
use Rattle.task_filters.specs.Terms.{filter_in, is_canonical_filter, terms_in, with_term}
use Rattle.task_filters.specs.Printing.{filter_text, longest_filter}

-- a filter of all fields fits a line
whole_filter : longest_filter ≡ 221
whole_filter = refl

-- packets from 10.0.0.0/8
abbrev from_ten : Pattern
from_ten = record { value = 10 ∷ replicate 47 0; mask = 8 ∷ replicate 8 0 }

-- packets from 10.0.0.20
abbrev from_one : Pattern
from_one = record { value = 10 ∷ 0 ∷ 0 ∷ 20 ∷ replicate 44 0; mask = 32 ∷ replicate 8 0 }

-- packets from 11.0.0.0/8
abbrev from_eleven : Pattern
from_eleven = record { value = 11 ∷ replicate 47 0; mask = 8 ∷ replicate 8 0 }

-- packets from 2001:db8::/32
abbrev from_ipv6 : Pattern
from_ipv6 = record {
  value = replicate 16 0 ++ 0x20 ∷ 1 ∷ 0x0d ∷ 0xb8 ∷ replicate 28 0;
  mask = 0 ∷ 0 ∷ 0 ∷ 0 ∷ 0 ∷ 0 ∷ 0 ∷ 32 ∷ 0 ∷ [];
}

-- from 10.0.0.20 to 10.128.0.1 over TCP
abbrev a_packet : List ℕ
a_packet = 10 ∷ 0 ∷ 0 ∷ 20 ∷ 10 ∷ 128 ∷ 0 ∷ 1 ∷ 4 ∷ 210 ∷ 0 ∷ 80 ∷ 6 ∷ 0 ∷ 8 ∷ 0 ∷ replicate 32 0

in_the_net : passes from_ten a_packet ≡ true
unfolding passes mask_bytes_of
in_the_net = refl

outside_the_net : passes from_eleven a_packet ≡ false
unfolding passes mask_bytes_of
outside_the_net = refl

no_ipv6_packet : passes from_ipv6 a_packet ≡ false
unfolding passes mask_bytes_of
no_ipv6_packet = refl

-- their values differ, but in no bit that both look at
a_net_and_its_host : are_disjoint from_ten from_one ≡ false
unfolding are_disjoint mask_bytes_of
a_net_and_its_host = refl

two_nets : are_disjoint from_one from_eleven ≡ true
unfolding are_disjoint mask_bytes_of
two_nets = refl

-- texts
everything : filter_in (codes "all") ≡ Ok (record { value = replicate 48 0; mask = replicate 9 0 })
unfolding terms_in mask_bytes_of
everything = refl

past_the_prefix : filter_in (codes "src_ip:10.1.2.3/8") ≡ Ok from_ten
unfolding terms_in with_term field_named address_in number_in with_value mask_bytes_of
past_the_prefix = refl

past_an_ipv6_prefix : filter_in (codes "src_ip6:2001:DB8::1/32") ≡ Ok from_ipv6
unfolding terms_in with_term field_named number_in with_value mask_bytes_of group_in groups_in side_in full_in sides_in eight_groups_in ipv6_in
past_an_ipv6_prefix = refl

in_any_order : filter_in (codes "ethertype:0x86dD,dst_port:080,src_ip:010.0.0.20")
    ≡ Ok (record {
      value = 10 ∷ 0 ∷ 0 ∷ 20 ∷ 0 ∷ 0 ∷ 0 ∷ 0 ∷ 0 ∷ 0 ∷ 0 ∷ 80 ∷ 0 ∷ 0 ∷ 0x86 ∷ 0xdd ∷ replicate 32 0;
      mask = 32 ∷ 0 ∷ 0 ∷ 16 ∷ 0 ∷ 0 ∷ 16 ∷ 0 ∷ 0 ∷ [];
    })
unfolding terms_in with_term field_named address_in number_in hex_in with_value mask_bytes_of
in_any_order = refl

-- the name goes up to the colon, and to the end where there is none
no_colon : filter_in (codes "tos:1,proto/8") ≡ Err (record { kind = UnknownField; place = 6 })
unfolding terms_in with_term field_named number_in
no_colon = refl

no_value : filter_in (codes "tos:1,proto") ≡ Err (record { kind = BadValue; place = 6 })
unfolding terms_in with_term field_named number_in
no_value = refl

all_in_a_list : filter_in (codes "all,tos:1") ≡ Err (record { kind = UnknownField; place = 0 })
unfolding terms_in with_term field_named
all_in_a_list = refl

-- of the faults of an item the earlier in their order
again_with_a_bad_value : filter_in (codes "tos:1,tos:256/8") ≡ Err (record { kind = RepeatedField; place = 6 })
unfolding terms_in with_term field_named number_in
again_with_a_bad_value = refl

bad_prefix_and_value : filter_in (codes "proto:256/8") ≡ Err (record { kind = BadPrefix; place = 0 })
unfolding terms_in with_term field_named number_in
bad_prefix_and_value = refl

ipv6_prefix_of_129 : filter_in (codes "src_ip6:::1/129") ≡ Err (record { kind = BadPrefix; place = 0 })
unfolding terms_in with_term field_named number_in
ipv6_prefix_of_129 = refl

-- of two items at fault the first
two_at_fault : filter_in (codes "tos:1,src_ip:1.2.3/8,ttl:1") ≡ Err (record { kind = BadValue; place = 6 })
unfolding terms_in with_term field_named address_in number_in
two_at_fault = refl

one_net : filter_text from_ten ≡ codes "src_ip:10.0.0.0/8"
unfolding filter_text items_text value_at address_text digits
one_net = refl

one_host : filter_text from_one ≡ codes "src_ip:10.0.0.20"
unfolding filter_text items_text value_at address_text digits
one_host = refl

one_ipv6_net : filter_text from_ipv6 ≡ codes "src_ip6:2001:db8:0:0:0:0:0:0/32"
unfolding filter_text items_text value_at digits group_text groups_before ipv6_text
one_ipv6_net = refl

a_kind : filter_text (record {
  value = replicate 12 0 ++ 6 ∷ 0 ∷ 134 ∷ 221 ∷ replicate 32 0;
  mask = 0 ∷ 0 ∷ 0 ∷ 0 ∷ 8 ∷ 0 ∷ 16 ∷ 0 ∷ 0 ∷ [];
})
    ≡ codes "proto:6,ethertype:0x86dd"
unfolding filter_text items_text value_at hex_text digits
a_kind = refl

-- canonical texts
everything_canonical : is_canonical_filter (codes "all") ≡ true
unfolding is_canonical_filter
everything_canonical = refl

a_canonical_filter : is_canonical_filter (codes "src_ip:10.0.0.0/8,proto:6,ethertype:0x0800") ≡ true
unfolding is_canonical_filter field_named address_in number_in hex_in
a_canonical_filter = refl

a_canonical_ipv6_filter : is_canonical_filter (codes "src_ip6:2001:db8:0:0:0:0:0:0/32") ≡ true
unfolding is_canonical_filter field_named number_in group_in groups_in full_in eight_groups_in ipv6_in
a_canonical_ipv6_filter = refl

group_left_out : is_canonical_filter (codes "src_ip6:2001:db8::/32") ≡ false
unfolding is_canonical_filter field_named
group_left_out = refl

bit_past_the_prefix : is_canonical_filter (codes "src_ip:10.1.0.0/8") ≡ false
unfolding is_canonical_filter field_named address_in number_in
bit_past_the_prefix = refl

zero_in_front : is_canonical_filter (codes "proto:06") ≡ false
unfolding is_canonical_filter field_named number_in
zero_in_front = refl

out_of_order : is_canonical_filter (codes "tos:1,proto:6") ≡ false
unfolding is_canonical_filter field_named number_in
out_of_order = refl
