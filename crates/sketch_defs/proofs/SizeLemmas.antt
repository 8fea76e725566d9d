-- Sizes do not depend on the order of the cells, and in a rising list each run of equal cells is one of them.
use Rattle.std.proofs.Common.{◌≡◌, ℕ, zero, suc, ◌+◌, ◌<◌, List, [], ◌∷◌, ◌++◌, length, get_or, set, replicate, ⊎_elim, refl, ap, sym, ◌∙◌, subst, arith}
use Rattle.std.specs.List.{All, swap}
use Rattle.std.specs.List.Sorted.{IsPermutation}
use Rattle.std.proofs.lemmas.Bool.{cases_order, eq-eqb, ne_eqb, lt-ltb, le-ltb}
use Rattle.std.proofs.lemmas.List.Elements.{All-head, All-tail}
use Rattle.std.proofs.lemmas.List.Sorted.{IsPermutation-keeps}
use Rattle.sketch_defs.specs.Answers.{Size, with_cell, sizes_of}

-- ---- one cell more, by the order of its value to the first

with_same : (value : ℕ) (size : Size) (sizes : List Size) → value ≡ size.value
    → with_cell value (size ∷ sizes) ≡ record { value = value; cells = size.cells + 1 } ∷ sizes
with_same value size sizes e = rw (eq-eqb value size.value e) refl

with_before : (value : ℕ) (size : Size) (sizes : List Size) → value < size.value
    → with_cell value (size ∷ sizes) ≡ record { value = value; cells = 1 } ∷ size ∷ sizes
with_before value size sizes h = rw (ne_eqb value size.value (λ e. omega arith), lt-ltb value size.value h) refl

with_after : (value : ℕ) (size : Size) (sizes : List Size) → size.value < value
    → with_cell value (size ∷ sizes) ≡ size ∷ with_cell value sizes
with_after value size sizes h = rw (ne_eqb value size.value (λ e. omega arith), le-ltb value size.value (omega arith)) refl

-- ---- the order of two cells

with_two : (low high : ℕ) (sizes : List Size) → low < high → with_cell low (with_cell high sizes) ≡ with_cell high (with_cell low sizes)
with_two low high [] h =
    with_before low (record { value = high; cells = 1 }) [] h ∙ sym (with_after high (record { value = low; cells = 1 }) [] h)
with_two low high (size ∷ sizes) h =
    ⊎_elim low_same (λ other. ⊎_elim low_before (low_after (with_two low high sizes h)) other) (cases_order low size.value) where
      after_low : low < size.value → (rest : List Size) → with_cell high (size ∷ sizes) ≡ rest
          → with_cell high (record { value = low; cells = 1 } ∷ size ∷ sizes) ≡ record { value = low; cells = 1 } ∷ rest
      after_low k rest e = with_after high (record { value = low; cells = 1 }) (size ∷ sizes) h ∙ ap (λ l. record { value = low; cells = 1 } ∷ l) e

      low_same : low ≡ size.value → with_cell low (with_cell high (size ∷ sizes)) ≡ with_cell high (with_cell low (size ∷ sizes))
      low_same e =
          ap (with_cell low) (with_after high size sizes (omega arith))
          ∙ with_same low size (with_cell high sizes) e
          ∙ sym (ap (with_cell high) (with_same low size sizes e) ∙ with_after high (record { value = low; cells = size.cells + 1 }) sizes h)

      low_before : low < size.value → with_cell low (with_cell high (size ∷ sizes)) ≡ with_cell high (with_cell low (size ∷ sizes))
      low_before k = ⊎_elim
          (λ (e : high ≡ size.value).
          let one : with_cell high (size ∷ sizes) ≡ record { value = high; cells = size.cells + 1 } ∷ sizes = with_same high size sizes e in
          ap (with_cell low) one
          ∙ with_before low (record { value = high; cells = size.cells + 1 }) sizes h
          ∙ sym (ap (with_cell high) (with_before low size sizes k) ∙ after_low k _ one))
          (λ other. ⊎_elim
          (λ (m : high < size.value).
          let one : with_cell high (size ∷ sizes) ≡ record { value = high; cells = 1 } ∷ size ∷ sizes = with_before high size sizes m in
          ap (with_cell low) one
          ∙ with_before low (record { value = high; cells = 1 }) (size ∷ sizes) h
          ∙ sym (ap (with_cell high) (with_before low size sizes k) ∙ after_low k _ one))
          (λ (m : size.value < high).
          let one : with_cell high (size ∷ sizes) ≡ size ∷ with_cell high sizes = with_after high size sizes m in
          ap (with_cell low) one
          ∙ with_before low size (with_cell high sizes) k
          ∙ sym (ap (with_cell high) (with_before low size sizes k) ∙ after_low k _ one))
          other)
          (cases_order high size.value)

      low_after : with_cell low (with_cell high sizes) ≡ with_cell high (with_cell low sizes) → size.value < low
          → with_cell low (with_cell high (size ∷ sizes)) ≡ with_cell high (with_cell low (size ∷ sizes))
      low_after later k =
          ap (with_cell low) (with_after high size sizes (omega arith))
          ∙ with_after low size (with_cell high sizes) k
          ∙ ap (λ l. size ∷ l) later
          ∙ sym (ap (with_cell high) (with_after low size sizes k) ∙ with_after high size (with_cell low sizes) (omega arith))

with_cells_comm : (one two : ℕ) (sizes : List Size) → with_cell one (with_cell two sizes) ≡ with_cell two (with_cell one sizes)
with_cells_comm one two sizes = ⊎_elim
    (λ (e : one ≡ two). rw e refl)
    (λ other. ⊎_elim (λ (h : one < two). with_two one two sizes h) (λ (h : two < one). sym (with_two two one sizes h)) other)
    (cases_order one two)

-- ---- any order

-- one cell put in the place of another
sizes-set : (cells : List ℕ) (i cell d : ℕ) → i < length cells
    → with_cell (get_or cells i d) (sizes_of (set cells i cell)) ≡ with_cell cell (sizes_of cells)
sizes-set [] i cell d h = absurd (omega arith)
sizes-set (first ∷ cells) zero cell d h = with_cells_comm first cell (sizes_of cells)
sizes-set (first ∷ cells) (suc i) cell d h =
    with_cells_comm (get_or cells i d) first (sizes_of (set cells i cell))
    ∙ ap (with_cell first) (sizes-set cells i cell d (omega arith))
    ∙ with_cells_comm first cell (sizes_of cells)

sizes-exchange : (cells : List ℕ) (i j d : ℕ) → i < length cells → j < length cells
    → sizes_of (set (set cells i (get_or cells j d)) j (get_or cells i d)) ≡ sizes_of cells
sizes-exchange [] i j d h k = absurd (omega arith)
sizes-exchange (first ∷ cells) zero zero d h k = refl
sizes-exchange (first ∷ cells) zero (suc j) d h k = sizes-set cells j first d (omega arith)
sizes-exchange (first ∷ cells) (suc i) zero d h k = sizes-set cells i first d (omega arith)
sizes-exchange (first ∷ cells) (suc i) (suc j) d h k = ap (with_cell first) (sizes-exchange cells i j d (omega arith) (omega arith))

sizes-swap : (cells : List ℕ) (i j : ℕ) → i < length cells → j < length cells → sizes_of (swap cells i j) ≡ sizes_of cells
sizes-swap [] i j h k = refl
sizes-swap (first ∷ cells) i j h k = sizes-exchange (first ∷ cells) i j first h k

pub sizes_in_any_order : (cells sorted : List ℕ) → IsPermutation cells sorted → sizes_of sorted ≡ sizes_of cells
sizes_in_any_order cells sorted same =
    IsPermutation-keeps cells (λ l. sizes_of l ≡ sizes_of cells) refl (λ l i j h k e. sizes-swap l i j h k ∙ e) sorted same

-- ---- runs

-- the first of these sizes is above a value
abbrev starts_above : ℕ → List Size → Type 0
starts_above value [] = Unit {0}
starts_above value (size ∷ sizes) = value < size.value

above-with : (value cell : ℕ) (sizes : List Size) → value < cell → starts_above value sizes → starts_above value (with_cell cell sizes)
above-with value cell [] h above = h
above-with value cell (size ∷ sizes) h above = ⊎_elim
    (λ (e : cell ≡ size.value). subst (starts_above value) (sym (with_same cell size sizes e)) h)
    (λ other. ⊎_elim
    (λ (k : cell < size.value). subst (starts_above value) (sym (with_before cell size sizes k)) h)
    (λ (k : size.value < cell). subst (starts_above value) (sym (with_after cell size sizes k)) above)
    other)
    (cases_order cell size.value)

above_all : (value : ℕ) (cells : List ℕ) → All (λ cell. value < cell) cells → starts_above value (sizes_of cells)
above_all value [] above = tt
above_all value (cell ∷ cells) above =
    above-with value cell (sizes_of cells) (All-head (λ n. value < n) cell cells above)
    (above_all value cells (All-tail (λ n. value < n) cell cells above))

first_of_run : (value : ℕ) (sizes : List Size) → starts_above value sizes → with_cell value sizes ≡ record { value = value; cells = 1 } ∷ sizes
first_of_run value [] above = refl
first_of_run value (size ∷ sizes) above = with_before value size sizes above

-- a run of equal cells before cells that are all above it
pub sizes_of_run : (value count : ℕ) (rest : List ℕ) → All (λ cell. value < cell) rest
    → sizes_of (replicate (suc count) value ++ rest) ≡ record { value = value; cells = suc count } ∷ sizes_of rest
sizes_of_run value zero rest above = first_of_run value (sizes_of rest) (above_all value rest above)
sizes_of_run value (suc count) rest above =
    let more : suc count + 1 ≡ suc (suc count) = omega arith in
    ap (with_cell value) (sizes_of_run value count rest above)
    ∙ with_same value (record { value = value; cells = suc count }) (sizes_of rest) refl
    ∙ ap (λ n. record { value = value; cells = n } ∷ sizes_of rest) more
