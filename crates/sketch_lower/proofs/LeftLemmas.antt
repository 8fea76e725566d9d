-- What the operations of a lowered row leave.
use Rattle.std.proofs.Common.{◌≡◌, ℕ, List, [], ◌∷◌, ◌++◌, set, get_or, Option, None, refl, ap, ◌∙◌}
use Rattle.pkt_headers.specs.declared.packets.Packet.{Packet}
use Rattle.addr_translate.specs.Blocks.{Block}
use Rattle.group_keys.specs.declared.uses.KeyUse.{KeyUse}
use Rattle.stateful_ops.specs.declared.ops.Op.{Op}
use Rattle.stateful_ops.specs.Ops.{new_register}
use Rattle.sketch_defs.specs.declared.kinds.Kind.TheVariants.{SumaxSum}
use Rattle.sketch_defs.specs.Tasks.{Sketch}
use Rattle.sketch_defs.specs.Cells.{index_at, bound_at, cells_of}
use Rattle.sketch_lower.specs.Laws.{EntryLeaves}
use Rattle.sketch_lower.specs.Lowering.{entry_of, entry_after, entry_left}
use Rattle.sketch_lower.specs.Operations.{row_after, row_left}
use Rattle.sketch_lower.proofs.EntryLemmas.{lowered_at}
use Rattle.sketch_lower.proofs.RowLemmas.{row_leaves}

entry_is_row : (hash_key : List ℕ) (sketch : Sketch) (row : ℕ) (keys : KeyUse) (region : Block) (before : Option ℕ) (cells : List (List ℕ)) (packet : Packet)
    (registers : List ℕ) → (sketch.kind ≡ SumaxSum → before ≡ None → row ≡ 0)
    → entry_after hash_key sketch (entry_of sketch row keys region before) packet (bound_at hash_key sketch region.bits cells packet row) registers
    ≡ row_after hash_key sketch region.bits row packet (bound_at hash_key sketch region.bits cells packet row) registers
unfolding entry_after row_after index_at
entry_is_row hash_key sketch row keys region before cells packet registers first =
    let place : ℕ = index_at hash_key sketch region.bits row packet in
    ap (λ (op : Op). set registers place (new_register op (get_or registers place 0))) (lowered_at hash_key sketch region.bits row keys region before cells packet first)

entry_left_is_row : (hash_key : List ℕ) (sketch : Sketch) (row : ℕ) (keys : KeyUse) (region : Block) (before : Option ℕ) (came packets : List Packet)
    (registers : List ℕ) → (sketch.kind ≡ SumaxSum → before ≡ None → row ≡ 0)
    → entry_left hash_key sketch (entry_of sketch row keys region before) came packets registers ≡ row_left hash_key sketch region.bits row came packets registers
entry_left_is_row hash_key sketch row keys region before came [] registers first = refl
entry_left_is_row hash_key sketch row keys region before came (packet ∷ packets) registers first =
    ap (λ next. entry_left hash_key sketch (entry_of sketch row keys region before) (came ++ packet ∷ []) packets next)
    (entry_is_row hash_key sketch row keys region before (cells_of hash_key sketch region.bits came) packet registers first)
    ∙ entry_left_is_row hash_key sketch row keys region before (came ++ packet ∷ []) packets
    (row_after hash_key sketch region.bits row packet (bound_at hash_key sketch region.bits (cells_of hash_key sketch region.bits came) packet row) registers) first

pub entry_leaves : EntryLeaves
entry_leaves hash_key sketch packets row keys region before few within first =
    entry_left_is_row hash_key sketch row keys region before [] packets _ first ∙ row_leaves hash_key sketch region.bits packets row few within
