-- Worked values of the operations of entries, and of tables.
use Rattle.std.proofs.Common.{◌≡◌, ℕ, ◌-◌, true, false, List, [], ◌∷◌, ◌++◌, length, replicate, None, Some, refl}
use Rattle.std.specs.List.{find}
use Rattle.key_mask.specs.declared.fields.Field.TheVariants.{SrcIp}
use Rattle.key_mask.specs.declared.fields.TheConstants.{KEY_BYTES}
use Rattle.key_mask.specs.Masks.{mask_bytes_of, lengths_of}
use Rattle.task_filters.specs.Filters.{passes, are_disjoint}
use Rattle.group_keys.specs.declared.uses.KeyUse.TheVariants.{Single}
use Rattle.match_table.specs.declared.entries.Entry.{Entry}
use Rattle.match_table.specs.Tables.{comes_first, by_rank, masks_of, group_of, takes, admits}
use Rattle.std.specs.Int.Count.{count_leading_zeros}
use Rattle.pkt_headers.specs.declared.packets.Packet.{Packet}
use Rattle.pkt_headers.specs.declared.packets.Attr.TheVariants.{Bytes, Ttl}
use Rattle.hash_units.specs.Toeplitz.{rho_of}
use Rattle.stateful_ops.specs.declared.ops.Op.TheVariants as ops
use Rattle.match_table.specs.declared.operations.Code.TheVariants.{CondAdd, Max, Or}
use Rattle.match_table.specs.declared.operations.First.TheVariants.{Weight, Bit, Rho}
use Rattle.match_table.specs.declared.operations.Second.TheVariants.{Top, Carry}
use Rattle.match_table.specs.Operations.{operation_by}

abbrev packet : Packet
packet = record { vec = replicate 16 0; len = 54; ttl = 64; flags = 2 }

bytes_to_the_top : operation_by (record { code = CondAdd; first = Weight Bytes; second = Top }) 0x919d5c4a 5 packet 7 ≡ ops.CondAdd 54 4294967295
bytes_to_the_top = refl

bytes_to_the_carry : operation_by (record { code = CondAdd; first = Weight Bytes; second = Carry 2 }) 0x919d5c4a 5 packet 7 ≡ ops.CondAdd 54 7
bytes_to_the_carry = refl

greatest_ttl : operation_by (record { code = Max; first = Weight Ttl; second = Top }) 0x919d5c4a 5 packet 7 ≡ ops.Max 64
greatest_ttl = refl

bit_of_the_hash : operation_by (record { code = Or; first = Bit; second = Top }) 0x919d5c4a 5 packet 7 ≡ ops.Or 1024
bit_of_the_hash = refl

rank_below_four_bits : operation_by (record { code = Max; first = Rho; second = Top }) 0x90000000 4 packet 7 ≡ ops.Max 29
unfolding rho_of count_leading_zeros
rank_below_four_bits = refl

-- ---- tables

-- bytes of a vector that begins so
abbrev begins : List ℕ → List ℕ
begins bytes = bytes ++ replicate (KEY_BYTES - length bytes) 0

abbrev entry_on : List ℕ → List ℕ → ℕ → Entry
entry_on value mask base = record {
  row = 0;
  filter = record { value = begins value; mask = mask };
  keys = Single 0;
  region = record { base = base; bits = 5 };
  micro = record { code = Max; first = Weight Ttl; second = Top };
}

-- the networks 11 and 9, and 10.1 by a longer prefix
abbrev eleven : Entry
eleven = entry_on (11 ∷ []) (lengths_of ((SrcIp, 8) ∷ [])) 0

abbrev ten_one : Entry
ten_one = entry_on (10 ∷ 1 ∷ []) (lengths_of ((SrcIp, 16) ∷ [])) 32

abbrev nine : Entry
nine = entry_on (9 ∷ []) (lengths_of ((SrcIp, 8) ∷ [])) 64

in_order : by_rank (eleven ∷ ten_one ∷ nine ∷ []) ≡ nine ∷ eleven ∷ ten_one ∷ []
unfolding comes_first mask_bytes_of
in_order = refl

two_masks : masks_of (eleven ∷ ten_one ∷ nine ∷ []) ≡ begins (255 ∷ []) ∷ begins (255 ∷ 255 ∷ []) ∷ []
unfolding comes_first mask_bytes_of
two_masks = refl

of_the_first : group_of (begins (255 ∷ [])) (eleven ∷ ten_one ∷ nine ∷ []) ≡ nine ∷ eleven ∷ []
unfolding comes_first mask_bytes_of
of_the_first = refl

taken_by_one : find (takes (begins (10 ∷ 1 ∷ 2 ∷ []))) (eleven ∷ ten_one ∷ nine ∷ []) ≡ Some ten_one
unfolding passes mask_bytes_of
taken_by_one = refl

taken_by_none : find (takes (begins (10 ∷ 2 ∷ []))) (eleven ∷ ten_one ∷ nine ∷ []) ≡ None
unfolding passes mask_bytes_of
taken_by_none = refl

-- a filter on all of network 10 meets the second entry
not_admitted : admits (eleven ∷ ten_one ∷ nine ∷ []) (entry_on (10 ∷ []) (lengths_of ((SrcIp, 8) ∷ [])) 0).filter ≡ false
unfolding are_disjoint mask_bytes_of
not_admitted = refl

is_admitted : admits (eleven ∷ ten_one ∷ nine ∷ []) (entry_on (10 ∷ 2 ∷ []) (lengths_of ((SrcIp, 16) ∷ [])) 0).filter ≡ true
unfolding are_disjoint mask_bytes_of
is_admitted = refl
