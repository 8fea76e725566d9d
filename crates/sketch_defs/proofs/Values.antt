-- Worked values of cells and answers, under the default key.
use Rattle.std.proofs.Common.{◌≡◌, ℕ, ◌*◌, ◌^◌, List, [], ◌∷◌, None, Some, refl}
use Rattle.std.specs.Int.Count.{count_leading_zeros}
use Rattle.std.specs.Prelude.{◌++◌, replicate, codes}
use Rattle.key_mask.specs.declared.fields.Field.TheVariants.{SrcIp}
use Rattle.key_mask.specs.Masks.{no_lengths, mask_bytes_of, lengths_of}
use Rattle.pkt_headers.specs.declared.packets.Packet.{Packet}
use Rattle.pkt_headers.specs.declared.packets.Attr.{Attr}
use Rattle.pkt_headers.specs.declared.packets.Attr.TheVariants.{Packets, Bytes, Flags, Flow}
use Rattle.hash_units.specs.Keys.{standard_key}
use Rattle.hash_units.specs.Toeplitz.{window, hash_of, rho_of}
use Rattle.sketch_defs.specs.declared.answers.Reply.TheVariants.{Number, Yes, No}
use Rattle.sketch_defs.specs.declared.kinds.Kind.{Kind}
use Rattle.sketch_defs.specs.declared.kinds.Kind.TheVariants.{Cms, SumaxSum, SumaxMax, Bloom, Mrac, Hll, FlagOr, FlagAnd}
use Rattle.sketch_defs.specs.Answers.{cells_found, answer_of, raw_of, alpha, sizes_of, rank_share, z_of}
use Rattle.sketch_defs.specs.Cells.{key_hash, row_hash_at, index_at, independent_cell, independent_cells, raised, chained_cells, cells_of, row_of}
use Rattle.sketch_defs.specs.Tasks.{Sketch}

-- a packet from 10.0.0.x port 1024 to port 80 of 192.168.1.1, with the flags of the first packet of a connection
abbrev packet_from : ℕ → ℕ → Packet
packet_from x length = record {
  vec = 10 ∷ 0 ∷ 0 ∷ x ∷ 192 ∷ 168 ∷ 1 ∷ 1 ∷ 4 ∷ 0 ∷ 0 ∷ 80 ∷ 6 ∷ 0 ∷ 8 ∷ 0 ∷ [];
  len = length;
  ttl = 64;
  flags = 2;
}

abbrev with_flags : ℕ → Packet
with_flags flags = record { vec = (packet_from 1 54).vec; len = 54; ttl = 64; flags = flags }

-- a task over the source address and all packets
abbrev task : Kind → ℕ → Attr → Sketch
task kind rows attr = record {
  name = codes "t";
  kind = kind;
  rows = rows;
  key = lengths_of ((SrcIp, 32) ∷ []);
  attr = attr;
  filter = record { value = replicate 16 0; mask = no_lengths };
  size = 32;
}

abbrev zeros : ℕ → List ℕ
zeros count = replicate count 0

count_min : cells_of standard_key (task Cms 1 Packets) 5 (packet_from 1 54 ∷ packet_from 1 54 ∷ packet_from 2 54 ∷ packet_from 1 54 ∷ [])
    ≡ (0 ∷ 1 ∷ zeros 16 ++ 3 ∷ zeros 13) ∷ []
unfolding cells_of independent_cells independent_cell index_at row_hash_at key_hash hash_of window mask_bytes_of
count_min = refl

-- a counter stops at its greatest value
stopped : row_of (cells_of standard_key (task Cms 1 Bytes) 5 (packet_from 1 4294967294 ∷ packet_from 1 5 ∷ packet_from 1 1 ∷ [])) 0
    ≡ zeros 18 ++ 4294967295 ∷ zeros 13
unfolding cells_of independent_cells independent_cell index_at row_hash_at key_hash hash_of window mask_bytes_of
stopped = refl

-- two cells a row: the last packet raises rows 0 and 2 alone
least_raised : cells_of standard_key (task SumaxSum 3 Packets) 1 (packet_from 3 54 ∷ packet_from 3 54 ∷ packet_from 1 54 ∷ [])
    ≡ (2 ∷ 1 ∷ []) ∷ (0 ∷ 2 ∷ []) ∷ (1 ∷ 2 ∷ []) ∷ []
unfolding cells_of chained_cells raised index_at row_hash_at key_hash hash_of window mask_bytes_of
least_raised = refl

least_raised_answer : answer_of SumaxSum (cells_found 0x919d5c4a 1 ((2 ∷ 1 ∷ []) ∷ (0 ∷ 2 ∷ []) ∷ (1 ∷ 2 ∷ []) ∷ [])) 0x919d5c4a ≡ Some (Number 1)
unfolding answer_of cells_found
least_raised_answer = refl

greatest : cells_of standard_key (task SumaxMax 1 Bytes) 5 (packet_from 1 54 ∷ []) ≡ (zeros 18 ++ 54 ∷ zeros 13) ∷ []
unfolding cells_of independent_cells independent_cell index_at row_hash_at key_hash hash_of window mask_bytes_of
greatest = refl

bloom : cells_of standard_key (task Bloom 2 Flow) 5 (packet_from 1 54 ∷ [])
    ≡ (zeros 18 ++ 1024 ∷ zeros 13) ∷ (zeros 19 ++ 131072 ∷ zeros 12) ∷ []
unfolding cells_of independent_cells independent_cell index_at row_hash_at key_hash hash_of window mask_bytes_of
bloom = refl

bloom_answers : answer_of Bloom (1024 ∷ 131072 ∷ []) 0x919d5c4a ≡ Some Yes
unfolding answer_of
bloom_answers = refl

bloom_misses : answer_of Bloom (1024 ∷ 65536 ∷ []) 0x919d5c4a ≡ Some No
unfolding answer_of
bloom_misses = refl

flags_of_all : cells_of standard_key (task FlagAnd 1 Flags) 5 (with_flags 2 ∷ with_flags 18 ∷ [])
    ≡ (replicate 18 4294967295 ++ 2 ∷ replicate 13 4294967295) ∷ []
unfolding cells_of independent_cells independent_cell index_at row_hash_at key_hash hash_of window mask_bytes_of
flags_of_all = refl

flags_of_any : cells_of standard_key (task FlagOr 1 Flags) 5 (with_flags 2 ∷ with_flags 16 ∷ [])
    ≡ (zeros 18 ++ 18 ∷ zeros 13) ∷ []
unfolding cells_of independent_cells independent_cell index_at row_hash_at key_hash hash_of window mask_bytes_of
flags_of_any = refl

flags_answer : answer_of FlagOr (18 ∷ 3 ∷ []) 0x919d5c4a ≡ Some (Number 2)
unfolding answer_of
flags_answer = refl

all_flags_answer : answer_of FlagAnd (18 ∷ 3 ∷ []) 0x919d5c4a ≡ Some (Number 19)
unfolding answer_of
all_flags_answer = refl

counters : cells_of standard_key (task Mrac 1 Packets) 5 (packet_from 1 54 ∷ packet_from 2 54 ∷ packet_from 1 54 ∷ [])
    ≡ (0 ∷ 1 ∷ zeros 16 ++ 2 ∷ zeros 13) ∷ []
unfolding cells_of independent_cells independent_cell index_at row_hash_at key_hash hash_of window mask_bytes_of
counters = refl

no_answer : answer_of Mrac (2 ∷ []) 0x919d5c4a ≡ None
unfolding answer_of
no_answer = refl

ranks : cells_of standard_key (task Hll 1 Flow) 5 (packet_from 1 54 ∷ []) ≡ (zeros 18 ++ 3 ∷ zeros 13) ∷ []
unfolding cells_of independent_cells independent_cell index_at row_hash_at key_hash hash_of window mask_bytes_of rho_of count_leading_zeros
ranks = refl

none_of_32 : raw_of 5 (z_of (zeros 32)) ≡ 22
unfolding raw_of alpha
none_of_32 = refl

all_zero : z_of (zeros 32) ≡ 274877906944
all_zero = refl

-- a cell above 33 counts as 33
share_of_33 : rank_share 33 ≡ 1
share_of_33 = refl

share_of_34 : rank_share 34 ≡ 1
share_of_34 = refl

share_of_the_greatest : rank_share 4294967295 ≡ 1
share_of_the_greatest = refl

none_of_16 : raw_of 4 137438953472 ≡ 10
unfolding raw_of alpha
none_of_16 = refl

one_of_64 : raw_of 6 543313362944 ≡ 45
unfolding raw_of alpha
one_of_64 = refl

-- from 128 cells on alpha is of one formula
none_of_128 : raw_of 7 (z_of (zeros 128)) ≡ 91
unfolding raw_of alpha
none_of_128 = refl

none_of_1024 : raw_of 10 (1024 * 2 ^ 33) ≡ 737
unfolding raw_of alpha
none_of_1024 = refl

sizes : sizes_of (zeros 18 ++ 2 ∷ zeros 12 ++ 1 ∷ [])
    ≡ record { value = 0; cells = 30 } ∷ record { value = 1; cells = 1 } ∷ record { value = 2; cells = 1 } ∷ []
sizes = refl
