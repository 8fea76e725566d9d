-- That the operations of the rows leave the cells.
use Rattle.std.proofs.Common.{◌≡◌, ℕ, zero, suc, ◌+◌, ◌^◌, ◌<◌, ◌≤◌, List, [], ◌∷◌, ◌++◌, length, set, get_or, replicate, refl, ap, ap₂, sym, ◌∙◌, arith, ⊎_elim}
use Rattle.std.specs.List.{fold}
use Rattle.std.proofs.lemmas.List.{get_or-set_same, get_or-set_other, append-nil, length-set, length-replicate, get_or-replicate, ext_get_or, append_assoc}
use Rattle.pkt_headers.specs.declared.packets.Packet.{Packet}
use Rattle.pkt_headers.specs.Packets.{weight_of}
use Rattle.stateful_ops.specs.Ops.{new_register, carry_of}
use Rattle.sketch_defs.specs.declared.kinds.Kind.{Kind}
use Rattle.sketch_defs.specs.declared.kinds.Kind.TheVariants.{SumaxSum}
use Rattle.sketch_defs.specs.Tasks.{Sketch}
use Rattle.sketch_defs.specs.Cells.{cell_max, index_at, brought_by, next_bound, raised_rows, raised, bound_at, cells_of, row_of}
use Rattle.sketch_lower.specs.Operations.{start_of, operation, operation_at, row_after, row_left, rows_after, passed, rows_left}
use Rattle.sketch_lower.specs.Laws.{RowLeaves, RowsLeave}
use Rattle.sketch_lower.proofs.CellLemmas.{place_lt, cases_chained, chained_is, chained_more, raised_after, carried, cells_start, row_step, length-cells}

-- ---- what the rows leave

length-row_after : (hash_key : List ℕ) (sketch : Sketch) (bits row : ℕ) (packet : Packet) (bound : ℕ) (registers : List ℕ)
    → length (row_after hash_key sketch bits row packet bound registers) ≡ length registers
unfolding row_after
length-row_after hash_key sketch bits row packet bound registers = length-set registers (index_at hash_key sketch bits row packet) _

-- the operations for the packets to come, on the cells of those before
row_goes_on : (hash_key : List ℕ) (sketch : Sketch) (bits row : ℕ) (before packets : List Packet) → bits ≤ 32 → row < sketch.rows
    → row_left hash_key sketch bits row before packets (row_of (cells_of hash_key sketch bits before) row)
    ≡ row_of (cells_of hash_key sketch bits (before ++ packets)) row
row_goes_on hash_key sketch bits row before [] few within =
    ap (λ packets. row_of (cells_of hash_key sketch bits packets) row) (sym (append-nil before))
row_goes_on hash_key sketch bits row before (packet ∷ packets) few within =
    ap (row_left hash_key sketch bits row (before ++ packet ∷ []) packets) (sym (row_step hash_key sketch bits before packet row few within))
    ∙ row_goes_on hash_key sketch bits row (before ++ packet ∷ []) packets few within
    ∙ ap (λ all. row_of (cells_of hash_key sketch bits all) row) (append_assoc before (packet ∷ []) packets)

row_starts : (hash_key : List ℕ) (sketch : Sketch) (bits row : ℕ) → row < sketch.rows
    → row_of (cells_of hash_key sketch bits []) row ≡ replicate (2 ^ bits) (start_of sketch.kind)
row_starts hash_key sketch bits row within =
    ap (λ cells. row_of cells row) (cells_start hash_key sketch bits)
    ∙ get_or-replicate {A = List ℕ} sketch.rows row (replicate (2 ^ bits) (start_of sketch.kind)) [] within

pub row_leaves : RowLeaves
row_leaves hash_key sketch bits packets row few within =
    ap (row_left hash_key sketch bits row [] packets) (sym (row_starts hash_key sketch bits row within))
    ∙ row_goes_on hash_key sketch bits row [] packets few within

-- a row has 2 ^ bits cells
length-row_left : (hash_key : List ℕ) (sketch : Sketch) (bits row : ℕ) (before packets : List Packet) (registers : List ℕ)
    → length (row_left hash_key sketch bits row before packets registers) ≡ length registers
length-row_left hash_key sketch bits row before [] registers = refl
length-row_left hash_key sketch bits row before (packet ∷ packets) registers =
    length-row_left hash_key sketch bits row (before ++ packet ∷ []) packets
    (row_after hash_key sketch bits row packet (bound_at hash_key sketch bits (cells_of hash_key sketch bits before) packet row) registers)
    ∙ length-row_after hash_key sketch bits row packet (bound_at hash_key sketch bits (cells_of hash_key sketch bits before) packet row) registers

pub length-row : (hash_key : List ℕ) (sketch : Sketch) (bits : ℕ) (packets : List Packet) (row : ℕ) → bits ≤ 32 → row < sketch.rows
    → length (row_of (cells_of hash_key sketch bits packets) row) ≡ 2 ^ bits
length-row hash_key sketch bits packets row few within =
    ap length (sym (row_leaves hash_key sketch bits packets row few within))
    ∙ length-row_left hash_key sketch bits row [] packets (replicate (2 ^ bits) (start_of sketch.kind))
    ∙ length-replicate (2 ^ bits) (start_of sketch.kind)

-- what one packet more leaves of a cell: at its place what the operation makes of it, and elsewhere the cell
pub cell_here : (hash_key : List ℕ) (sketch : Sketch) (bits : ℕ) (packets : List Packet) (packet : Packet) (row : ℕ)
    → bits ≤ 32
    → row < sketch.rows
    → let before = cells_of hash_key sketch bits packets in
    let place = index_at hash_key sketch bits row packet in
    get_or (row_of (cells_of hash_key sketch bits (packets ++ packet ∷ [])) row) place 0
    ≡ new_register (operation_at hash_key sketch bits row packet (bound_at hash_key sketch bits before packet row)) (get_or (row_of before row) place 0)
unfolding row_after
cell_here hash_key sketch bits packets packet row few within =
    let before : List (List ℕ) = cells_of hash_key sketch bits packets in
    let place : ℕ = index_at hash_key sketch bits row packet in
    let left : ℕ =
    new_register (operation_at hash_key sketch bits row packet (bound_at hash_key sketch bits before packet row)) (get_or (row_of before row) place 0) in
    ap (λ cells. get_or cells place 0) (row_step hash_key sketch bits packets packet row few within)
    ∙ get_or-set_same (row_of before row) place left 0
    (omega (arith, place_lt hash_key sketch bits row packet few, length-row hash_key sketch bits packets row few within))

pub cell_elsewhere : (hash_key : List ℕ) (sketch : Sketch) (bits : ℕ) (packets : List Packet) (packet : Packet) (row index : ℕ)
    → bits ≤ 32
    → row < sketch.rows
    → (index ≡ index_at hash_key sketch bits row packet → ⊥)
    → get_or (row_of (cells_of hash_key sketch bits (packets ++ packet ∷ [])) row) index 0
    ≡ get_or (row_of (cells_of hash_key sketch bits packets) row) index 0
unfolding row_after
cell_elsewhere hash_key sketch bits packets packet row index few within other =
    let before : List (List ℕ) = cells_of hash_key sketch bits packets in
    let place : ℕ = index_at hash_key sketch bits row packet in
    let left : ℕ =
    new_register (operation_at hash_key sketch bits row packet (bound_at hash_key sketch bits before packet row)) (get_or (row_of before row) place 0) in
    ap (λ cells. get_or cells index 0) (row_step hash_key sketch bits packets packet row few within)
    ∙ get_or-set_other (row_of before row) place index left 0 other

-- ---- what all rows leave

length-rows_after : (hash_key : List ℕ) (sketch : Sketch) (bits : ℕ) (packet : Packet) (bound row : ℕ) (rows : List (List ℕ))
    → length (rows_after hash_key sketch bits packet bound row rows) ≡ length rows
length-rows_after hash_key sketch bits packet bound row [] = refl
length-rows_after hash_key sketch bits packet bound row (registers ∷ rows) =
    ap suc
    (length-rows_after hash_key sketch bits packet
    (carry_of (operation_at hash_key sketch bits row packet bound) (get_or registers (index_at hash_key sketch bits row packet) 0)) (row + 1) rows)

-- a row of the chained kind finds the bound of the cells
chained_rows : (hash_key : List ℕ) (sketch : Sketch) (bits : ℕ) (packet : Packet) (bound row : ℕ) (rows : List (List ℕ)) → sketch.kind ≡ SumaxSum
    → rows_after hash_key sketch bits packet bound row rows ≡ raised_rows hash_key sketch bits packet bound row rows
chained_rows hash_key sketch bits packet bound row [] chained = refl
chained_rows hash_key sketch bits packet bound row (cells ∷ rows) chained =
    ap₂ (λ first rest. first ∷ rest) (sym (raised_after hash_key sketch bits row packet bound cells chained))
    (ap (λ next. rows_after hash_key sketch bits packet next (row + 1) rows)
    (carried hash_key sketch bits row packet bound (get_or cells (index_at hash_key sketch bits row packet) 0) chained)
    ∙ chained_rows hash_key sketch bits packet (next_bound (weight_of packet sketch.attr) bound (get_or cells (index_at hash_key sketch bits row packet) 0)) (row + 1) rows chained)

-- the bound of a row of another kind is nothing to it
pub bound_is_nothing : (kind : Kind) (x one two : ℕ) → (kind ≡ SumaxSum → ⊥) → operation kind x one ≡ operation kind x two
bound_is_nothing SumaxSum x one two other = absurd (other refl)
bound_is_nothing _ x one two other = refl

any_bound : (hash_key : List ℕ) (sketch : Sketch) (bits row : ℕ) (packet : Packet) (one two : ℕ) (registers : List ℕ) → (sketch.kind ≡ SumaxSum → ⊥)
    → row_after hash_key sketch bits row packet one registers ≡ row_after hash_key sketch bits row packet two registers
unfolding row_after
any_bound hash_key sketch bits row packet one two registers other =
    let place : ℕ = index_at hash_key sketch bits row packet in
    ap (λ op. set registers place (new_register op (get_or registers place 0)))
    (bound_is_nothing sketch.kind (brought_by sketch.kind hash_key sketch bits row packet) one two other)

independent_rows : (hash_key : List ℕ) (sketch : Sketch) (bits : ℕ) (packet : Packet) (bound row : ℕ) (rows : List (List ℕ)) (i any : ℕ)
    → (sketch.kind ≡ SumaxSum → ⊥) → i < length rows
    → row_of (rows_after hash_key sketch bits packet bound row rows) i ≡ row_after hash_key sketch bits (row + i) packet any (row_of rows i)
independent_rows hash_key sketch bits packet bound row [] i any other within = absurd (omega arith)
independent_rows hash_key sketch bits packet bound row (cells ∷ rows) zero any other within =
    let same : row ≡ row + 0 = omega arith in
    any_bound hash_key sketch bits row packet bound any cells other ∙ ap (λ r. row_after hash_key sketch bits r packet any cells) same
independent_rows hash_key sketch bits packet bound row (cells ∷ rows) (suc i) any other within =
    let same : row + 1 + i ≡ row + suc i = omega arith in
    independent_rows hash_key sketch bits packet
    (carry_of (operation_at hash_key sketch bits row packet bound) (get_or cells (index_at hash_key sketch bits row packet) 0)) (row + 1) rows i any other
    (omega arith)
    ∙ ap (λ r. row_after hash_key sketch bits r packet any (row_of rows i)) same

-- one packet more through all rows
pub cells_passed : (hash_key : List ℕ) (sketch : Sketch) (bits : ℕ) (packets : List Packet) (packet : Packet) → bits ≤ 32
    → passed hash_key sketch bits (cells_of hash_key sketch bits packets) packet ≡ cells_of hash_key sketch bits (packets ++ packet ∷ [])
unfolding passed raised
cells_passed hash_key sketch bits packets packet few =
    let before : List (List ℕ) = cells_of hash_key sketch bits packets in
    let after : List (List ℕ) = cells_of hash_key sketch bits (packets ++ packet ∷ []) in
    ⊎_elim
    (λ (chained : sketch.kind ≡ SumaxSum).
    chained_rows hash_key sketch bits packet cell_max 0 before chained
    ∙ ap (raised_rows hash_key sketch bits packet cell_max 0) (chained_is hash_key sketch bits packets chained)
    ∙ sym (chained_more hash_key sketch bits packets packet)
    ∙ sym (chained_is hash_key sketch bits (packets ++ packet ∷ []) chained))
    (λ (other : sketch.kind ≡ SumaxSum → ⊥).
    let long : length (rows_after hash_key sketch bits packet cell_max 0 before) ≡ sketch.rows =
    length-rows_after hash_key sketch bits packet cell_max 0 before ∙ length-cells hash_key sketch bits packets in
    ext_get_or {A = List ℕ} [] (rows_after hash_key sketch bits packet cell_max 0 before) after
    (long ∙ sym (length-cells hash_key sketch bits (packets ++ packet ∷ [])))
    (λ row h.
    let within : row < sketch.rows = omega (arith, h, long) in
    let bound : ℕ = bound_at hash_key sketch bits before packet row in
    let same : 0 + row ≡ row = omega arith in
    independent_rows hash_key sketch bits packet cell_max 0 before row bound other (omega (arith, within, length-cells hash_key sketch bits packets))
    ∙ ap (λ r. row_after hash_key sketch bits r packet bound (row_of before row)) same
    ∙ sym (row_step hash_key sketch bits packets packet row few within)))
    (cases_chained sketch.kind)

rows_go_on : (hash_key : List ℕ) (sketch : Sketch) (bits : ℕ) (before packets : List Packet) → bits ≤ 32
    → fold (passed hash_key sketch bits) (cells_of hash_key sketch bits before) packets ≡ cells_of hash_key sketch bits (before ++ packets)
rows_go_on hash_key sketch bits before [] few = ap (cells_of hash_key sketch bits) (sym (append-nil before))
rows_go_on hash_key sketch bits before (packet ∷ packets) few =
    ap (λ cells. fold (passed hash_key sketch bits) cells packets) (cells_passed hash_key sketch bits before packet few)
    ∙ rows_go_on hash_key sketch bits (before ++ packet ∷ []) packets few
    ∙ ap (cells_of hash_key sketch bits) (append_assoc before (packet ∷ []) packets)

pub rows_leave : RowsLeave
unfolding rows_left
rows_leave hash_key sketch bits packets few =
    ap (λ cells. fold (passed hash_key sketch bits) cells packets) (sym (cells_start hash_key sketch bits)) ∙ rows_go_on hash_key sketch bits [] packets few
