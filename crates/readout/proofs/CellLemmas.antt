-- The lines of cells, one cell and one row after the other.
use Rattle.std.proofs.Common.{◌≡◌, ℕ, ◌+◌, ◌^◌, ◌<◌, ◌≤◌, ◌==◌, true, List, [], ◌++◌, length, codes, Option, Result, IfSome, IfOk, refl, ap, ap₂, sym, ◌∙◌, subst, arith, eq-eqb}
use Rattle.std.specs.List.{flat_map, enumerate_from, slice_index_or}
use Rattle.std.specs.Result.{IsErr}
use Rattle.std.proofs.lemmas.List.{append-nil, length-map, get_or-map}
use Rattle.std.proofs.lemmas.List.FromFn.{length-enumerate_from, get_or-enumerate_from, get_or-map-range_with_len, length-map-range_with_len}
use Rattle.outside.specs.Told.{Stays}
use Rattle.outside.specs.Sent.{CameSoFar, CameInFront, Sends}
use Rattle.outside.proofs.ToldLemmas.{stays_same}
use Rattle.outside.proofs.SentLemmas.{none_in_front}
use Rattle.reg_file.specs.Registers.{Contents, Dims}
use Rattle.sketch_lower.specs.Operations.{start_of}
use Rattle.readout.specs.declared.views.Placed.{Placed}
use Rattle.readout.specs.declared.views.Side.{Side}
use Rattle.readout.specs.PlacedTasks.{PlacedTask, View, CanRead, part_in, no_place, place_at, block_of, register_at, row_contents, rows_contents, rows_of_side}
use Rattle.readout.specs.Lines.{cell_line, row_lines, head_line, cells_lines}
use Rattle.readout.specs.Answers.{lines_of_rows, lines_of_cells}
use Rattle.readout.specs.Outcomes.{Gathers}
use Rattle.readout.proofs.AnswerLemmas.{cells_answered}
use Rattle.readout.proofs.ToldLemmas.{told_more, told_all, told_then}
use Rattle.readout.proofs.PieceLemmas.{put_behind, FlatSoFar, flat_start, flat_more, flat_cut, flat_done, block_sent, block_cut, room_put, gathers_at_err, sends_at_err}

-- ---- reading on

-- they can be read still
pub reads_on : (view : View) (one two : Dims) (at : ℕ) (side : Side) → two ≡ one → CanRead view one at side → CanRead view two at side
reads_on view one two at side same can = subst (λ (dims : Dims). CanRead view dims at side) (sym same) can

-- ---- the rows

pub length_row : (told : Contents) (side : Side) (place : Placed) → length (row_contents told side place) ≡ 2 ^ (block_of side place).bits
length_row told side place = length-map-range_with_len (register_at told side place) 0 (2 ^ (block_of side place).bits)

pub row_at : (told : Contents) (side : Side) (place : Placed) (index : ℕ) → index < 2 ^ (block_of side place).bits
    → slice_index_or (row_contents told side place) index 0 ≡ register_at told side place index
row_at told side place index inside = get_or-map-range_with_len (register_at told side place) 0 (2 ^ (block_of side place).bits) index index 0 inside (omega arith)

abbrev pub cell_of : ℕ → ℕ → (ℕ × ℕ) → List ℕ
cell_of start row at = cell_line start row at.0 at.1

abbrev pub cells_at : Side → Placed → Contents → List (ℕ × ℕ)
cells_at side place told = enumerate_from 0 (row_contents told side place)

length_cells : (told : Contents) (side : Side) (place : Placed) → length (cells_at side place told) ≡ 2 ^ (block_of side place).bits
length_cells told side place = length-enumerate_from 0 (row_contents told side place) ∙ length_row told side place

cell_here : (told : Contents) (start row : ℕ) (side : Side) (place : Placed) (index : ℕ) → index < 2 ^ (block_of side place).bits
    → cell_of start row (slice_index_or (cells_at side place told) index (0, 0)) ≡ cell_line start row index (register_at told side place index)
cell_here told start row side place index inside =
    let long : index < length (row_contents told side place) = omega (arith, length_row told side place) in
    ap (cell_of start row) (get_or-enumerate_from 0 (row_contents told side place) index (0, 0) long)
    ∙ ap₂ (cell_line start row) (omega arith) (row_at told side place index inside)

-- ---- one cell

pub cell_unsent : (cells : Option Contents) (before : Option (List ℕ)) (piece left : List ℕ) (T E : Type 0) (result : Result T E) (line : Contents → List ℕ)
    → IsErr result → IfSome cells (λ told. Gathers before piece (line told) result left before)
cell_unsent cells before piece left T E result line failed =
    told_all cells (λ told. Gathers before piece (line told) result left before)
    (λ told. gathers_at_err result before before piece (line told) left failed (none_in_front before before (piece ++ line told) (stays_same before)))

start_unwritten : (start row index value : ℕ) → value ≡ start → cell_line start row index value ≡ []
unfolding cell_line
start_unwritten start row index value e = let t : (value == start) ≡ true = eq-eqb value start e in rw t refl

-- a cell that is as it started puts nothing behind the piece
pub cell_as_started : (cells : Option Contents) (before : Option (List ℕ)) (piece : List ℕ) (start row : ℕ) (side : Side) (place : Placed) (index value : ℕ)
    → value ≡ start → IfSome cells (λ told. value ≡ register_at told side place index)
    → IfSome cells (λ told. CameSoFar before (piece ++ cell_line start row index (register_at told side place index)) piece before)
cell_as_started cells before piece start row side place index value same is =
    told_then cells (λ told. value ≡ register_at told side place index) (λ told. CameSoFar before (piece ++ cell_line start row index (register_at told side place index)) piece before)
    (λ told p.
    let none : cell_line start row index (register_at told side place index) ≡ [] = start_unwritten start row index (register_at told side place index) (sym p ∙ same) in
    subst (λ all. CameSoFar before all piece before) (sym (ap (λ line. piece ++ line) none ∙ append-nil piece)) (put_behind before piece)) is

-- ---- lines of what the registers tell, one after the other

abbrev SoFar : {X : Type 0} → Option (List ℕ) → List ℕ → (X → List ℕ) → (Contents → List X) → ℕ → List ℕ → Option (List ℕ) → Contents → Type 0
SoFar before first f xs i piece now told = FlatSoFar before first f (xs told) i piece now

-- the element at this place is inside, and has this line
record LineAt {X : Type 0} (f : X → List ℕ) (xs : Contents → List X) (i : ℕ) (d : X) (line : Contents → List ℕ) : Type 0 where
  inside : (told : Contents) → i < length (xs told)
  here : (told : Contents) → f (slice_index_or (xs told) i d) ≡ line told

lines_more : {X : Type 0} (one two : Option Contents) (a b c : Option (List ℕ)) (first piece left : List ℕ) (f : X → List ℕ) (xs : Contents → List X) (i : ℕ) (d : X)
    (line : Contents → List ℕ) → LineAt f xs i d line → Stays one two → IfSome one (SoFar a first f xs i piece b)
    → IfSome two (λ told. CameSoFar b (piece ++ line told) left c) → IfSome two (SoFar a first f xs (i + 1) left c)
lines_more one two a b c first piece left f xs i d line at same far put =
    told_more one two (SoFar a first f xs i piece b) (λ told. CameSoFar b (piece ++ line told) left c) (SoFar a first f xs (i + 1) left c) same
    (λ told p q. flat_more a b c first f (xs told) i d piece left (at.inside told) p (subst (λ l. CameSoFar b (piece ++ l) left c) (sym (at.here told)) q)) far put

lines_cut : {X T E : Type 0} (one two : Option Contents) (a b c : Option (List ℕ)) (first piece left : List ℕ) (f : X → List ℕ) (xs : Contents → List X) (i : ℕ) (d : X)
    (line : Contents → List ℕ) (result : Result T E) → IsErr result → LineAt f xs i d line → Stays one two → IfSome one (SoFar a first f xs i piece b)
    → IfSome two (λ told. CameInFront b (piece ++ line told) c) → IfSome two (λ told. Gathers a first (flat_map f (xs told)) result left c)
lines_cut one two a b c first piece left f xs i d line result failed at same far cut =
    told_more one two (SoFar a first f xs i piece b) (λ told. CameInFront b (piece ++ line told) c) (λ told. Gathers a first (flat_map f (xs told)) result left c) same
    (λ told p q. gathers_at_err result a c first (flat_map f (xs told)) left failed
    (flat_cut a b c first f (xs told) i d piece (at.inside told) p (subst (λ l. CameInFront b (piece ++ l) c) (sym (at.here told)) q))) far cut

lines_done : {X : Type 0} (cells : Option Contents) (a b : Option (List ℕ)) (first piece : List ℕ) (f : X → List ℕ) (xs : Contents → List X) (i : ℕ)
    → ((told : Contents) → length (xs told) ≤ i) → IfSome cells (SoFar a first f xs i piece b)
    → IfSome cells (λ told. CameSoFar a (first ++ flat_map f (xs told)) piece b)
lines_done cells a b first piece f xs i all far =
    told_then cells (SoFar a first f xs i piece b) (λ told. CameSoFar a (first ++ flat_map f (xs told)) piece b)
    (λ told p. flat_done a b first f (xs told) i piece (all told) p) far

-- ---- the cells of a row

abbrev pub RowSoFar : Option (List ℕ) → List ℕ → ℕ → ℕ → Side → Placed → ℕ → List ℕ → Option (List ℕ) → Contents → Type 0
RowSoFar before first start row side place index piece now told = FlatSoFar before first (cell_of start row) (cells_at side place told) index piece now

pub row_start : (cells : Option Contents) (before : Option (List ℕ)) (first : List ℕ) (start row : ℕ) (side : Side) (place : Placed)
    → IfSome cells (RowSoFar before first start row side place 0 first before)
row_start cells before first start row side place =
    told_all cells (RowSoFar before first start row side place 0 first before) (λ told. flat_start before first (cell_of start row) (cells_at side place told))

cell_line_at : (start row index : ℕ) (side : Side) (place : Placed) → index < 2 ^ (block_of side place).bits
    → LineAt (cell_of start row) (cells_at side place) index (0, 0) (λ told. cell_line start row index (register_at told side place index))
cell_line_at start row index side place inside = record {
  inside = λ told. omega (arith, length_cells told side place);
  here = λ told. cell_here told start row side place index inside;
}

pub row_more : (one two : Option Contents) (a b c : Option (List ℕ)) (first piece left : List ℕ) (start row index : ℕ) (side : Side) (place : Placed)
    → index < 2 ^ (block_of side place).bits → Stays one two
    → IfSome one (RowSoFar a first start row side place index piece b)
    → IfSome two (λ told. CameSoFar b (piece ++ cell_line start row index (register_at told side place index)) left c)
    → IfSome two (RowSoFar a first start row side place (index + 1) left c)
row_more one two a b c first piece left start row index side place inside =
    lines_more one two a b c first piece left (cell_of start row) (cells_at side place) index (0, 0) (λ told. cell_line start row index (register_at told side place index))
    (cell_line_at start row index side place inside)

pub row_cut : {T E : Type 0} (one two : Option Contents) (a b c : Option (List ℕ)) (first piece left : List ℕ) (start row index : ℕ) (side : Side) (place : Placed)
    (result : Result T E) → IsErr result → index < 2 ^ (block_of side place).bits → Stays one two
    → IfSome one (RowSoFar a first start row side place index piece b)
    → IfSome two (λ told. CameInFront b (piece ++ cell_line start row index (register_at told side place index)) c)
    → IfSome two (λ told. Gathers a first (row_lines start row (row_contents told side place)) result left c)
row_cut one two a b c first piece left start row index side place result failed inside =
    lines_cut one two a b c first piece left (cell_of start row) (cells_at side place) index (0, 0) (λ told. cell_line start row index (register_at told side place index))
    result failed (cell_line_at start row index side place inside)

pub row_done : (cells : Option Contents) (a b : Option (List ℕ)) (first piece : List ℕ) (start row index : ℕ) (side : Side) (place : Placed)
    → index ≡ 2 ^ (block_of side place).bits → IfSome cells (RowSoFar a first start row side place index piece b)
    → IfSome cells (λ told. CameSoFar a (first ++ row_lines start row (row_contents told side place)) piece b)
row_done cells a b first piece start row index side place is =
    lines_done cells a b first piece (cell_of start row) (cells_at side place) index (λ told. omega (arith, length_cells told side place))

-- ---- the rows of a task

abbrev pub row_of_lines : ℕ → (ℕ × List ℕ) → List ℕ
row_of_lines start at = row_lines start at.0 at.1

abbrev pub rows_at : Side → PlacedTask → Contents → List (ℕ × List ℕ)
rows_at side placed told = enumerate_from 0 (rows_contents told side placed)

abbrev pub RowsSoFar : Option (List ℕ) → List ℕ → ℕ → Side → PlacedTask → ℕ → List ℕ → Option (List ℕ) → Contents → Type 0
RowsSoFar before first start side placed row piece now told = FlatSoFar before first (row_of_lines start) (rows_at side placed told) row piece now

length_told : (told : Contents) (side : Side) (placed : PlacedTask) → length (rows_contents told side placed) ≡ length placed.places
unfolding rows_contents
length_told told side placed = length-map placed.places (row_contents told side)

row_told : (told : Contents) (side : Side) (placed : PlacedTask) (row : ℕ) → row < length placed.places
    → slice_index_or (rows_contents told side placed) row [] ≡ row_contents told side (place_at placed row)
unfolding rows_contents
row_told told side placed row inside = get_or-map (row_contents told side) placed.places row no_place [] inside

length_rows : (told : Contents) (side : Side) (placed : PlacedTask) → length (rows_at side placed told) ≡ length placed.places
length_rows told side placed = length-enumerate_from 0 (rows_contents told side placed) ∙ length_told told side placed

row_here : (told : Contents) (start : ℕ) (side : Side) (placed : PlacedTask) (row : ℕ) → row < length placed.places
    → row_of_lines start (slice_index_or (rows_at side placed told) row (0, [])) ≡ row_lines start row (row_contents told side (place_at placed row))
row_here told start side placed row inside =
    let long : row < length (rows_contents told side placed) = omega (arith, length_told told side placed) in
    ap (row_of_lines start) (get_or-enumerate_from 0 (rows_contents told side placed) row (0, []) long)
    ∙ ap₂ (row_lines start) (omega arith) (row_told told side placed row inside)

pub rows_start : (cells : Option Contents) (before : Option (List ℕ)) (first : List ℕ) (start : ℕ) (side : Side) (placed : PlacedTask)
    → IfSome cells (RowsSoFar before first start side placed 0 first before)
rows_start cells before first start side placed =
    told_all cells (RowsSoFar before first start side placed 0 first before) (λ told. flat_start before first (row_of_lines start) (rows_at side placed told))

row_line_at : (start : ℕ) (side : Side) (placed : PlacedTask) (row : ℕ) → row < length placed.places
    → LineAt (row_of_lines start) (rows_at side placed) row (0, []) (λ told. row_lines start row (row_contents told side (place_at placed row)))
row_line_at start side placed row inside = record {
  inside = λ told. omega (arith, length_rows told side placed);
  here = λ told. row_here told start side placed row inside;
}

pub rows_more : (one two : Option Contents) (a b c : Option (List ℕ)) (first piece left : List ℕ) (start : ℕ) (side : Side) (placed : PlacedTask) (row : ℕ)
    → row < length placed.places → Stays one two
    → IfSome one (RowsSoFar a first start side placed row piece b)
    → IfSome two (λ told. CameSoFar b (piece ++ row_lines start row (row_contents told side (place_at placed row))) left c)
    → IfSome two (RowsSoFar a first start side placed (row + 1) left c)
rows_more one two a b c first piece left start side placed row inside =
    lines_more one two a b c first piece left (row_of_lines start) (rows_at side placed) row (0, []) (λ told. row_lines start row (row_contents told side (place_at placed row)))
    (row_line_at start side placed row inside)

pub rows_cut : {T E : Type 0} (one two : Option Contents) (a b c : Option (List ℕ)) (first piece left : List ℕ) (start : ℕ) (side : Side) (placed : PlacedTask) (row : ℕ)
    (result : Result T E) → IsErr result → row < length placed.places → Stays one two
    → IfSome one (RowsSoFar a first start side placed row piece b)
    → IfSome two (λ told. CameInFront b (piece ++ row_lines start row (row_contents told side (place_at placed row))) c)
    → IfSome two (λ told. Gathers a first (flat_map (row_of_lines start) (rows_at side placed told)) result left c)
rows_cut one two a b c first piece left start side placed row result failed inside =
    lines_cut one two a b c first piece left (row_of_lines start) (rows_at side placed) row (0, []) (λ told. row_lines start row (row_contents told side (place_at placed row)))
    result failed (row_line_at start side placed row inside)

pub rows_done : (cells : Option Contents) (a b : Option (List ℕ)) (first piece : List ℕ) (start : ℕ) (side : Side) (placed : PlacedTask) (row : ℕ)
    → row ≡ length placed.places → IfSome cells (RowsSoFar a first start side placed row piece b)
    → IfSome cells (λ told. CameSoFar a (first ++ flat_map (row_of_lines start) (rows_at side placed told)) piece b)
rows_done cells a b first piece start side placed row is =
    lines_done cells a b first piece (row_of_lines start) (rows_at side placed) row (λ told. omega (arith, length_rows told side placed))

-- ---- the block

abbrev block_of_cells : Side → PlacedTask → Contents → List ℕ
block_of_cells side placed told = lines_of_rows side placed.task (rows_of_side told side placed)

abbrev pub head_of_cells : Side → PlacedTask → List ℕ
head_of_cells side placed = head_line side placed.task.name (length placed.places) (2 ^ (block_of side (place_at placed 0)).bits) (start_of placed.task.kind)

block_text : (told : Contents) (side : Side) (placed : PlacedTask)
    → block_of_cells side placed told ≡ head_of_cells side placed ++ (flat_map (row_of_lines (start_of placed.task.kind)) (rows_at side placed told) ++ codes "end\n")
unfolding cells_lines
block_text told side placed =
    ap (λ n. head_line side placed.task.name n (2 ^ (block_of side (place_at placed 0)).bits) (start_of placed.task.kind)
    ++ (flat_map (row_of_lines (start_of placed.task.kind)) (rows_at side placed told) ++ codes "end\n"))
    (length_told told side placed)

pub cells_sent : {T E : Type 0} (cells : Option Contents) (a b c : Option (List ℕ)) (side : Side) (placed : PlacedTask) (head left : List ℕ) (result : Result T E)
    → head ≡ head_of_cells side placed
    → IfSome cells (λ told. CameSoFar a (head ++ flat_map (row_of_lines (start_of placed.task.kind)) (rows_at side placed told)) left b)
    → Sends b (left ++ codes "end\n") result c → IfSome cells (λ told. IfOk (lines_of_cells side (part_in told placed)) (λ lines. Sends a lines result c))
cells_sent cells a b c side placed head left result is far sent =
    told_then cells (λ told. CameSoFar a (head ++ flat_map (row_of_lines (start_of placed.task.kind)) (rows_at side placed told)) left b)
    (λ told. IfOk (lines_of_cells side (part_in told placed)) (λ lines. Sends a lines result c))
    (λ told p. cells_answered side placed told (λ lines. Sends a lines result c) (subst (λ t. Sends a t result c) (ap (λ h. h ++ (flat_map (row_of_lines (start_of placed.task.kind)) (rows_at side placed told) ++ codes "end\n")) is ∙ sym (block_text told side placed))
    (block_sent result a b c head (flat_map (row_of_lines (start_of placed.task.kind)) (rows_at side placed told)) (codes "end\n") left p sent))) far

pub cells_cut : {T E : Type 0} (cells : Option Contents) (a b : Option (List ℕ)) (side : Side) (placed : PlacedTask) (head : List ℕ) (result : Result T E)
    → head ≡ head_of_cells side placed → IsErr result
    → IfSome cells (λ told. CameInFront a (head ++ flat_map (row_of_lines (start_of placed.task.kind)) (rows_at side placed told)) b)
    → IfSome cells (λ told. IfOk (lines_of_cells side (part_in told placed)) (λ lines. Sends a lines result b))
cells_cut cells a b side placed head result is failed cut =
    told_then cells (λ told. CameInFront a (head ++ flat_map (row_of_lines (start_of placed.task.kind)) (rows_at side placed told)) b)
    (λ told. IfOk (lines_of_cells side (part_in told placed)) (λ lines. Sends a lines result b))
    (λ told p. cells_answered side placed told (λ lines. Sends a lines result b) (subst (λ t. Sends a t result b) (ap (λ h. h ++ (flat_map (row_of_lines (start_of placed.task.kind)) (rows_at side placed told) ++ codes "end\n")) is ∙ sym (block_text told side placed))
    (sends_at_err result a b (head ++ (flat_map (row_of_lines (start_of placed.task.kind)) (rows_at side placed told) ++ codes "end\n")) failed
    (block_cut a b head (flat_map (row_of_lines (start_of placed.task.kind)) (rows_at side placed told)) (codes "end\n") (omega arith) p)))) cut
