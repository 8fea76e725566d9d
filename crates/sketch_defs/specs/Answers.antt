-- What the cells of a task answer.
use Rattle.std.specs.Prelude.{ℕ, ◌+◌, ◌-◌, ◌*◌, ◌/◌, ◌^◌, ◌==◌, ◌&&◌, Bool, true, min, nat_lt, if◌then◌else◌, List, [], ◌∷◌, map, slice_index, bit_and, bit_or, Option, None, Some}
use Rattle.std.specs.Int.{bit_at}
use Rattle.std.specs.List.{fold, sum}
use Rattle.addr_translate.specs.Blocks.{index_of}
use Rattle.hash_units.specs.Toeplitz.{row_hash_of, bit_of}
use Rattle.sketch_defs.specs.declared.answers.Reply.{Reply}
use Rattle.sketch_defs.specs.declared.answers.Reply.TheVariants.{Number, Yes, No}
use Rattle.sketch_defs.specs.declared.kinds.Kind.{Kind}
use Rattle.sketch_defs.specs.declared.kinds.Kind.TheVariants.{Cms, SumaxSum, SumaxMax, Bloom, Mrac, Hll, FlagOr, FlagAnd}
use Rattle.sketch_defs.specs.Cells.{cell_max}

-- the cell that a key of this hash has in each of these rows, the first of which is this one
abbrev pub cells_from : ℕ → ℕ → ℕ → List (List ℕ) → List ℕ
cells_from h bits row [] = []
cells_from h bits row (cells ∷ rows) = slice_index cells (index_of (row_hash_of h row) bits) ∷ cells_from h bits (row + 1) rows

unfoldable pub cells_found : ℕ → ℕ → List (List ℕ) → List ℕ
cells_found h bits rows = cells_from h bits 0 rows

abbrev pub least_of : List ℕ → ℕ
least_of cells = fold min cell_max cells

-- the cell of a row has the bit of the row's hash
abbrev pub has_bit : ℕ → ℕ → ℕ → Bool
has_bit h row cell = bit_at cell (bit_of (row_hash_of h row)) == 1

-- each of these cells, the first of which is of this row
abbrev pub have_bits : ℕ → ℕ → List ℕ → Bool
have_bits h row [] = true
have_bits h row (cell ∷ cells) = has_bit h row cell && have_bits h (row + 1) cells

-- what the cells of a key in the rows answer, where h is the key's hash; MRAC and HyperLogLog answer no key
unfoldable pub answer_of : Kind → List ℕ → ℕ → Option Reply
answer_of Cms cells h = Some (Number (least_of cells))
answer_of SumaxSum cells h = Some (Number (least_of cells))
answer_of SumaxMax cells h = Some (Number (least_of cells))
answer_of Bloom cells h = Some (if have_bits h 0 cells then Yes else No)
answer_of Mrac cells h = None
answer_of Hll cells h = None
answer_of FlagOr cells h = Some (Number (fold bit_and cell_max cells))
answer_of FlagAnd cells h = Some (Number (fold bit_or 0 cells))

-- HyperLogLog: how many cells are 0, and the sum of 2^(33 - cell), where a cell above 33 counts as 33
abbrev pub zero_share : ℕ → ℕ
zero_share cell = if cell == 0 then 1 else 0

abbrev pub rank_share : ℕ → ℕ
rank_share cell = 2 ^ (33 - cell)

abbrev pub zeros_of : List ℕ → ℕ
zeros_of cells = sum (map zero_share cells)

abbrev pub z_of : List ℕ → ℕ
z_of cells = sum (map rank_share cells)

-- alpha for 2^bits cells, as a fraction: three constants, and from 128 cells on 0.7213 / (1 + 1.079 / 2^bits). A row of
-- HyperLogLog has 16 cells or more
unfoldable pub alpha : ℕ → ℕ × ℕ
alpha bits =
    if bits == 4 then (673, 1000)
    else (if bits == 5 then (697, 1000)
    else (if bits == 6 then (709, 1000)
    else (7213 * 2 ^ bits, 10 * (1000 * 2 ^ bits + 1079))))

-- the raw estimate: alpha times the square of the number of cells, over the sum of 2^-cell
unfoldable pub raw_of : ℕ → ℕ → ℕ
raw_of bits z = (alpha bits).0 * 2 ^ (2 * bits + 33) / ((alpha bits).1 * z)

-- MRAC: each value among the cells with the number of cells that hold it, the values rising
pub record Size : Type 0 where
  pub value : ℕ
  pub cells : ℕ

abbrev pub with_cell : ℕ → List Size → List Size
with_cell value [] = record { value = value; cells = 1 } ∷ []
with_cell value (size ∷ sizes) =
    if value == size.value then record { value = value; cells = size.cells + 1 } ∷ sizes
    else (if nat_lt value size.value then record { value = value; cells = 1 } ∷ size ∷ sizes
    else size ∷ with_cell value sizes)

abbrev pub sizes_of : List ℕ → List Size
sizes_of [] = []
sizes_of (cell ∷ cells) = with_cell cell (sizes_of cells)
