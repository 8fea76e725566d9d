-- The operation by an entry.
use Rattle.std.proofs.Common.{◌≡◌, ℕ, List, Option, None, Some, refl, ap, sym}
use Rattle.pkt_headers.specs.declared.packets.Packet.{Packet}
use Rattle.pkt_headers.specs.Packets.{weight_of}
use Rattle.addr_translate.specs.Blocks.{Block}
use Rattle.group_keys.specs.declared.uses.KeyUse.{KeyUse}
use Rattle.stateful_ops.specs.declared.ops.Op.TheVariants.{CondAdd}
use Rattle.match_table.specs.Operations.{second_by, operation_by}
use Rattle.sketch_defs.specs.declared.kinds.Kind.{Kind}
use Rattle.sketch_defs.specs.declared.kinds.Kind.TheVariants.{SumaxSum}
use Rattle.sketch_defs.specs.Tasks.{Sketch}
use Rattle.sketch_defs.specs.Cells.{cell_max, row_hash_at, brought_by, bound_at}
use Rattle.sketch_lower.specs.Lowering.{second_after, micro_of, entry_of}
use Rattle.sketch_lower.specs.Operations.{operation, operation_at}
use Rattle.sketch_lower.specs.Laws.{LoweredOperation}

second_is : (before : Option ℕ) (bound : ℕ) → (before ≡ None → bound ≡ cell_max) → second_by (second_after before) bound ≡ bound
second_is None bound top = sym (top refl)
second_is (Some array) bound top = refl

by_kind : (kind : Kind) (hash_key : List ℕ) (sketch : Sketch) (bits row : ℕ) (before : Option ℕ) (packet : Packet) (bound : ℕ)
    → (kind ≡ SumaxSum → before ≡ None → bound ≡ cell_max)
    → operation_by (micro_of kind sketch.attr before) (row_hash_at hash_key sketch row packet) bits packet bound
    ≡ operation kind (brought_by kind hash_key sketch bits row packet) bound
by_kind SumaxSum hash_key sketch bits row before packet bound top = ap (CondAdd (weight_of packet sketch.attr)) (second_is before bound (top refl))
by_kind _ hash_key sketch bits row before packet bound top = refl

pub lowered_operation : LoweredOperation
lowered_operation hash_key sketch bits row keys region before packet bound top = by_kind sketch.kind hash_key sketch bits row before packet bound top

-- under the bound that the row finds, where the row before is named for all rows but the first
pub lowered_at : (hash_key : List ℕ) (sketch : Sketch) (bits row : ℕ) (keys : KeyUse) (region : Block) (before : Option ℕ)
    (cells : List (List ℕ)) (packet : Packet)
    → (sketch.kind ≡ SumaxSum → before ≡ None → row ≡ 0)
    → operation_by (entry_of sketch row keys region before).micro (row_hash_at hash_key sketch row packet) bits packet (bound_at hash_key sketch bits cells packet row)
    ≡ operation_at hash_key sketch bits row packet (bound_at hash_key sketch bits cells packet row)
unfolding bound_at
lowered_at hash_key sketch bits row keys region before cells packet first =
    lowered_operation hash_key sketch bits row keys region before packet (bound_at hash_key sketch bits cells packet row)
    (λ chained none. ap (bound_at hash_key sketch bits cells packet) (first chained none))
