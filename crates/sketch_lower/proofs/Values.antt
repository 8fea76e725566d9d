-- Worked values of entries, and of what rows leave by their operations, under the default key.
use Rattle.std.proofs.Common.{◌≡◌, ℕ, [], ◌∷◌, ◌++◌, None, Some, replicate, refl}
use Rattle.std.specs.Int.Count.{count_leading_zeros}
use Rattle.std.specs.Prelude.{codes}
use Rattle.key_mask.specs.declared.fields.Field.TheVariants.{SrcIp}
use Rattle.key_mask.specs.Masks.{no_lengths, mask_bytes_of, lengths_of}
use Rattle.pkt_headers.specs.declared.packets.Packet.{Packet}
use Rattle.pkt_headers.specs.declared.packets.Attr.{Attr}
use Rattle.pkt_headers.specs.declared.packets.Attr.TheVariants.{Packets, Flags, Flow}
use Rattle.hash_units.specs.Keys.{standard_key}
use Rattle.hash_units.specs.Toeplitz.{window, hash_of, rho_of}
use Rattle.task_filters.specs.Filters.{Pattern}
use Rattle.addr_translate.specs.Blocks.{Block}
use Rattle.group_keys.specs.declared.uses.KeyUse.TheVariants.{Single, Pair}
use Rattle.match_table.specs.declared.operations.Code.TheVariants.{CondAdd, Max, And, Or}
use Rattle.match_table.specs.declared.operations.First.TheVariants.{Weight, Bit, Rho}
use Rattle.match_table.specs.declared.operations.Second.TheVariants.{Top, Carry}
use Rattle.sketch_defs.specs.declared.kinds.Kind.{Kind}
use Rattle.sketch_defs.specs.declared.kinds.Kind.TheVariants.{SumaxSum, Bloom, Hll, FlagAnd}
use Rattle.sketch_defs.specs.Tasks.{Sketch}
use Rattle.sketch_defs.specs.Cells.{key_hash, row_hash_at, index_at}
use Rattle.sketch_lower.specs.Lowering.{entry_of}
use Rattle.sketch_lower.specs.Operations.{row_after, passed, rows_left}

abbrev every : Pattern
every = record { value = replicate 16 0; mask = no_lengths }

-- a task over the source address and all packets
abbrev task : Kind → ℕ → Attr → Sketch
task kind rows attr = record {
  name = codes "t";
  kind = kind;
  rows = rows;
  key = lengths_of ((SrcIp, 32) ∷ []);
  attr = attr;
  filter = every;
  size = 32;
}

abbrev region : Block
region = record { base = 64; bits = 5 }

-- ---- entries

first_of_sumax_sum : entry_of (task SumaxSum 2 Packets) 0 (Single 1) region None
    ≡ record { row = 0; filter = every; keys = Single 1; region = region; micro = record { code = CondAdd; first = Weight Packets; second = Top } }
first_of_sumax_sum = refl

second_of_sumax_sum : entry_of (task SumaxSum 2 Packets) 1 (Single 1) region (Some 4)
    ≡ record { row = 1; filter = every; keys = Single 1; region = region; micro = record { code = CondAdd; first = Weight Packets; second = Carry 4 } }
second_of_sumax_sum = refl

second_of_bloom : entry_of (task Bloom 2 Flow) 1 (Pair 0 2) region (Some 4)
    ≡ record { row = 1; filter = every; keys = Pair 0 2; region = region; micro = record { code = Or; first = Bit; second = Top } }
second_of_bloom = refl

of_hll : entry_of (task Hll 1 Flow) 0 (Single 0) region None
    ≡ record { row = 0; filter = every; keys = Single 0; region = region; micro = record { code = Max; first = Rho; second = Top } }
of_hll = refl

of_flag_and : entry_of (task FlagAnd 1 Flags) 0 (Single 0) region None
    ≡ record { row = 0; filter = every; keys = Single 0; region = region; micro = record { code = And; first = Weight Flags; second = Top } }
of_flag_and = refl

-- ---- what rows leave

-- a packet from 10.0.0.x port 1024 to port 80 of 192.168.1.1
abbrev packet_from : ℕ → ℕ → Packet
packet_from x flags = record {
  vec = 10 ∷ 0 ∷ 0 ∷ x ∷ 192 ∷ 168 ∷ 1 ∷ 1 ∷ 4 ∷ 0 ∷ 0 ∷ 80 ∷ 6 ∷ 0 ∷ 8 ∷ 0 ∷ [];
  len = 54;
  ttl = 64;
  flags = flags;
}

-- the carry of row 0 keeps row 1 from being raised by the last packet
least_raised : rows_left standard_key (task SumaxSum 3 Packets) 1 (packet_from 3 2 ∷ packet_from 3 2 ∷ packet_from 1 2 ∷ [])
    ≡ (2 ∷ 1 ∷ []) ∷ (0 ∷ 2 ∷ []) ∷ (1 ∷ 2 ∷ []) ∷ []
unfolding rows_left passed row_after index_at row_hash_at key_hash hash_of window mask_bytes_of
least_raised = refl

flags_of_all : rows_left standard_key (task FlagAnd 1 Flags) 5 (packet_from 1 2 ∷ packet_from 1 18 ∷ [])
    ≡ (replicate 18 4294967295 ++ 2 ∷ replicate 13 4294967295) ∷ []
unfolding rows_left passed row_after index_at row_hash_at key_hash hash_of window mask_bytes_of
flags_of_all = refl

ranks : rows_left standard_key (task Hll 1 Flow) 5 (packet_from 1 2 ∷ []) ≡ (replicate 18 0 ++ 3 ∷ replicate 13 0) ∷ []
unfolding rows_left passed row_after index_at row_hash_at key_hash hash_of window mask_bytes_of rho_of count_leading_zeros
ranks = refl
