-- The operations that the rows of a task make, by the kind of its sketch, on registers that stand for its cells.
use Rattle.std.specs.Prelude.{ℕ, ◌+◌, ◌^◌, List, [], ◌∷◌, ◌++◌, replicate, slice_index, slice_set}
use Rattle.std.specs.List.{fold}
use Rattle.pkt_headers.specs.declared.packets.Packet.{Packet}
use Rattle.stateful_ops.specs.declared.ops.Op.{Op}
use Rattle.stateful_ops.specs.declared.ops.Op.TheVariants.{CondAdd, Max, And, Or}
use Rattle.stateful_ops.specs.Ops.{new_register, carry_of}
use Rattle.sketch_defs.specs.declared.kinds.Kind.{Kind}
use Rattle.sketch_defs.specs.declared.kinds.Kind.TheVariants.{Cms, SumaxSum, SumaxMax, Bloom, Mrac, Hll, FlagOr, FlagAnd}
use Rattle.sketch_defs.specs.Tasks.{Sketch}
use Rattle.sketch_defs.specs.Cells.{cell_max, index_at, brought_by, cells_of, bound_at}

-- what each register of a row holds before any packet
abbrev pub start_of : Kind → ℕ
start_of Cms = 0
start_of SumaxSum = 0
start_of SumaxMax = 0
start_of Bloom = 0
start_of Mrac = 0
start_of Hll = 0
start_of FlagOr = 0
start_of FlagAnd = cell_max

-- the operation for what a packet brings and the bound that the row before handed on
abbrev pub operation : Kind → ℕ → ℕ → Op
operation Cms brought bound = CondAdd brought cell_max
operation SumaxSum brought bound = CondAdd brought bound
operation SumaxMax brought bound = Max brought
operation Bloom brought bound = Or brought
operation Mrac brought bound = CondAdd brought cell_max
operation Hll brought bound = Max brought
operation FlagOr brought bound = Or brought
operation FlagAnd brought bound = And brought

-- the operation of a row for a packet, under this bound
abbrev pub operation_at : List ℕ → Sketch → ℕ → ℕ → Packet → ℕ → Op
operation_at hash_key sketch bits row packet bound = operation sketch.kind (brought_by sketch.kind hash_key sketch bits row packet) bound

-- the registers of a row after its operation for a packet, under this bound
unfoldable pub row_after : List ℕ → Sketch → ℕ → ℕ → Packet → ℕ → List ℕ → List ℕ
row_after hash_key sketch bits row packet bound registers =
    let place = index_at hash_key sketch bits row packet in
    slice_set registers place (new_register (operation_at hash_key sketch bits row packet bound) (slice_index registers place))

-- the registers of a row after these packets, where those before them came to the cells too: each packet finds the bound that
-- the cells leave it
abbrev pub row_left : List ℕ → Sketch → ℕ → ℕ → List Packet → List Packet → List ℕ → List ℕ
row_left hash_key sketch bits row before [] registers = registers
row_left hash_key sketch bits row before (packet ∷ packets) registers =
    row_left hash_key sketch bits row (before ++ packet ∷ []) packets
    (row_after hash_key sketch bits row packet (bound_at hash_key sketch bits (cells_of hash_key sketch bits before) packet row) registers)

-- the registers of the rows from this one on after a packet: each row hands its carry to the next as its bound
abbrev pub rows_after : List ℕ → Sketch → ℕ → Packet → ℕ → ℕ → List (List ℕ) → List (List ℕ)
rows_after hash_key sketch bits packet bound row [] = []
rows_after hash_key sketch bits packet bound row (registers ∷ rows) =
    row_after hash_key sketch bits row packet bound registers
    ∷ rows_after hash_key sketch bits packet
    (carry_of (operation_at hash_key sketch bits row packet bound) (slice_index registers (index_at hash_key sketch bits row packet))) (row + 1) rows

unfoldable pub passed : List ℕ → Sketch → ℕ → List (List ℕ) → Packet → List (List ℕ)
passed hash_key sketch bits rows packet = rows_after hash_key sketch bits packet cell_max 0 rows

-- the registers of all rows before any packet
abbrev pub started : Sketch → ℕ → List (List ℕ)
started sketch bits = replicate sketch.rows (replicate (2 ^ bits) (start_of sketch.kind))

-- and after these packets
unfoldable pub rows_left : List ℕ → Sketch → ℕ → List Packet → List (List ℕ)
rows_left hash_key sketch bits packets = fold (passed hash_key sketch bits) (started sketch bits) packets
