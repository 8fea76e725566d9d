-- The entries that the rows of a task are lowered to.
use Rattle.std.specs.Prelude.{ℕ, List, [], ◌∷◌, ◌++◌, slice_index, slice_set, Option, None, Some}
use Rattle.pkt_headers.specs.declared.packets.Packet.{Packet}
use Rattle.stateful_ops.specs.Ops.{new_register}
use Rattle.match_table.specs.Operations.{operation_by}
use Rattle.sketch_defs.specs.Cells.{row_hash_at, bound_at, cells_of}
use Rattle.pkt_headers.specs.declared.packets.Attr.{Attr}
use Rattle.addr_translate.specs.Blocks.{Block, index_of}
use Rattle.group_keys.specs.declared.uses.KeyUse.{KeyUse}
use Rattle.match_table.specs.declared.operations.Code.{Code}
use Rattle.match_table.specs.declared.operations.Code.TheVariants.{CondAdd, Max, And, Or}
use Rattle.match_table.specs.declared.operations.First.{First}
use Rattle.match_table.specs.declared.operations.First.TheVariants.{Weight, Bit, Rho}
use Rattle.match_table.specs.declared.operations.Second.{Second}
use Rattle.match_table.specs.declared.operations.Second.TheVariants.{Top, Carry}
use Rattle.match_table.specs.declared.operations.Micro.{Micro}
use Rattle.match_table.specs.declared.entries.Entry.{Entry}
use Rattle.sketch_defs.specs.declared.kinds.Kind.{Kind}
use Rattle.sketch_defs.specs.declared.kinds.Kind.TheVariants.{Cms, SumaxSum, SumaxMax, Bloom, Mrac, Hll, FlagOr, FlagAnd}
use Rattle.sketch_defs.specs.Tasks.{Sketch}

-- the bound of a row of SuMax-Sum, by the array of the row before
abbrev pub second_after : Option ℕ → Second
second_after None = Top
second_after (Some array) = Carry array

-- an operation with no bound from another row
abbrev pub unbound : Code → First → Micro
unbound code first = record { code = code; first = first; second = Top }

-- the operation of a kind's rows, kind by kind
abbrev pub micro_of : Kind → Attr → Option ℕ → Micro
micro_of Cms attr before = unbound CondAdd (Weight attr)
micro_of SumaxSum attr before = record { code = CondAdd; first = Weight attr; second = second_after before }
micro_of SumaxMax attr before = unbound Max (Weight attr)
micro_of Bloom attr before = unbound Or Bit
micro_of Mrac attr before = unbound CondAdd (Weight attr)
micro_of Hll attr before = unbound Max Rho
micro_of FlagOr attr before = unbound Or (Weight attr)
micro_of FlagAnd attr before = unbound And (Weight attr)

-- the entry of a row, where `before` is the array of the row before
abbrev pub entry_of : Sketch → ℕ → KeyUse → Block → Option ℕ → Entry
entry_of sketch row keys region before =
    record { row = row; filter = sketch.filter; keys = keys; region = region; micro = micro_of sketch.kind sketch.attr before }

-- the registers of an entry's region after the operation that it makes for a packet, under this carry from another row
unfoldable pub entry_after : List ℕ → Sketch → Entry → Packet → ℕ → List ℕ → List ℕ
entry_after hash_key sketch entry packet carry registers =
    let h = row_hash_at hash_key sketch entry.row packet in
    let place = index_of h entry.region.bits in
    slice_set registers place (new_register (operation_by entry.micro h entry.region.bits packet carry) (slice_index registers place))

-- the registers after these packets, where those before them came too: the carry is the bound that their cells leave the row
abbrev pub entry_left : List ℕ → Sketch → Entry → List Packet → List Packet → List ℕ → List ℕ
entry_left hash_key sketch entry before [] registers = registers
entry_left hash_key sketch entry before (packet ∷ packets) registers =
    let bound = bound_at hash_key sketch entry.region.bits (cells_of hash_key sketch entry.region.bits before) packet entry.row in
    entry_left hash_key sketch entry (before ++ packet ∷ []) packets (entry_after hash_key sketch entry packet bound registers)
