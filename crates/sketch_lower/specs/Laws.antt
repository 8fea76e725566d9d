-- What holds of the cells of every task and of its entries, under every key and for all packets.
use Rattle.std.specs.Prelude.{◌≡◌, ℕ, ◌+◌, ◌^◌, ◌<◌, ◌≤◌, List, [], ◌∷◌, ◌++◌, map, replicate, slice_index, Option, None}
use Rattle.std.specs.List.{range_with_len}
use Rattle.pkt_headers.specs.declared.packets.Packet.{Packet}
use Rattle.addr_translate.specs.Blocks.{Block}
use Rattle.group_keys.specs.declared.uses.KeyUse.{KeyUse}
use Rattle.stateful_ops.specs.Ops.{carry_of}
use Rattle.match_table.specs.Operations.{operation_by}
use Rattle.sketch_defs.specs.declared.kinds.Kind.TheVariants.{SumaxSum}
use Rattle.sketch_defs.specs.Tasks.{Sketch}
use Rattle.sketch_defs.specs.Cells.{cell_max, row_hash_at, index_at, cells_of, bound_at, row_of}
use Rattle.sketch_lower.specs.Lowering.{entry_of, entry_left}
use Rattle.sketch_lower.specs.Operations.{start_of, operation_at, row_after, row_left, started, rows_left}

-- before any packet each cell is what a register starts at
abbrev pub CellsStart : Type 0
CellsStart = (hash_key : List ℕ) (sketch : Sketch) (bits : ℕ) → cells_of hash_key sketch bits [] ≡ started sketch bits

-- one packet more makes one operation in each row, at the row's place for it, under the bound that the row finds; there are no
-- other rows, and all other cells stay
abbrev pub CellsStep : Type 0
CellsStep = (hash_key : List ℕ) (sketch : Sketch) (bits : ℕ) (packets : List Packet) (packet : Packet)
    → bits ≤ 32
    → let before = cells_of hash_key sketch bits packets in
    cells_of hash_key sketch bits (packets ++ packet ∷ [])
    ≡ map (λ row. row_after hash_key sketch bits row packet (bound_at hash_key sketch bits before packet row) (row_of before row))
    (range_with_len 0 sketch.rows)

-- the carry of a row of SuMax-Sum is the bound that the next row finds
abbrev pub CarryIsBound : Type 0
CarryIsBound = (hash_key : List ℕ) (sketch : Sketch) (bits : ℕ) (packets : List Packet) (packet : Packet) (row : ℕ)
    → sketch.kind ≡ SumaxSum
    → row < sketch.rows
    → let before = cells_of hash_key sketch bits packets in
    carry_of (operation_at hash_key sketch bits row packet (bound_at hash_key sketch bits before packet row))
    (slice_index (row_of before row) (index_at hash_key sketch bits row packet))
    ≡ bound_at hash_key sketch bits before packet (row + 1)

-- what a row's operations leave of its registers are its cells, where each packet finds the bound that the cells leave it
abbrev pub RowLeaves : Type 0
RowLeaves = (hash_key : List ℕ) (sketch : Sketch) (bits : ℕ) (packets : List Packet) (row : ℕ)
    → bits ≤ 32
    → row < sketch.rows
    → row_left hash_key sketch bits row [] packets (replicate (2 ^ bits) (start_of sketch.kind)) ≡ row_of (cells_of hash_key sketch bits packets) row

-- what all rows leave, where each hands its carry to the next, are the cells of the task
abbrev pub RowsLeave : Type 0
RowsLeave = (hash_key : List ℕ) (sketch : Sketch) (bits : ℕ) (packets : List Packet)
    → bits ≤ 32
    → rows_left hash_key sketch bits packets ≡ cells_of hash_key sketch bits packets

-- the operation by a row's entry is the row's operation, where a row of SuMax-Sum with no row before has no other bound than the
-- greatest
abbrev pub LoweredOperation : Type 0
LoweredOperation = (hash_key : List ℕ) (sketch : Sketch) (bits row : ℕ) (keys : KeyUse) (region : Block) (before : Option ℕ) (packet : Packet) (bound : ℕ)
    → (sketch.kind ≡ SumaxSum → before ≡ None → bound ≡ cell_max)
    → operation_by (entry_of sketch row keys region before).micro (row_hash_at hash_key sketch row packet) bits packet bound
    ≡ operation_at hash_key sketch bits row packet bound

-- what the operations of a lowered row leave of the registers of its region are the cells of the row, where each packet finds, as
-- the carry from another row, the bound that the cells leave it
abbrev pub EntryLeaves : Type 0
EntryLeaves = (hash_key : List ℕ) (sketch : Sketch) (packets : List Packet) (row : ℕ) (keys : KeyUse) (region : Block) (before : Option ℕ)
    → region.bits ≤ 32
    → row < sketch.rows
    → (sketch.kind ≡ SumaxSum → before ≡ None → row ≡ 0)
    → entry_left hash_key sketch (entry_of sketch row keys region before) [] packets (replicate (2 ^ region.bits) (start_of sketch.kind))
    ≡ row_of (cells_of hash_key sketch region.bits packets) row
