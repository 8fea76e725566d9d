-- The answer of SuMax that adds: no cell of a key value falls, and one of its packets leaves each of them at least as high as
-- the lowest with the weight added.
use Rattle.std.proofs.Common.{◌≡◌, ℕ, zero, suc, ◌+◌, ◌^◌, ◌<◌, ◌≤◌, true, false, min, nat_lt, List, [], ◌∷◌, length, replicate, get_or, set, ⊎_elim, ap, sym, ◌∙◌, subst, arith, get_or-set_other, get_or-set_same}
use Rattle.std.specs.List.{filter, fold, sum_by}
use Rattle.std.proofs.lemmas.Bool.{cases_Bool, cases_eq, cond_both, ltb-false}
use Rattle.std.proofs.lemmas.List.{length-set, length-replicate}
use Rattle.std.proofs.lemmas.List.Sums.{sum-map, sum_by-cons}
use Rattle.pkt_headers.specs.declared.packets.Packet.{Packet}
use Rattle.pkt_headers.specs.Packets.{weight_of}
use Rattle.addr_translate.specs.Blocks.{index_of}
use Rattle.addr_translate.proofs.BlockLemmas.{index_lt}
use Rattle.hash_units.specs.Toeplitz.{row_hash_of}
use Rattle.hash_units.proofs.HashLemmas.{row_hash_lt}
use Rattle.sketch_defs.specs.declared.kinds.Kind.TheVariants.{SumaxSum}
use Rattle.sketch_defs.specs.Answers.{cells_from, cells_found, least_of, answer_of}
use Rattle.sketch_defs.specs.Cells.{cell_max, key_hash, row_hash_at, index_at, raised_cell, next_bound, raised_rows, raised, chained_cells, gathering_of, cells_by, cells_of}
use Rattle.sketch_defs.specs.Laws.{packets_of, answered, SumaxSumIsAbove}
use Rattle.sketch_defs.specs.Tasks.{Sketch}
use Rattle.sketch_defs.proofs.AnswerLemmas.{key_hash_lt, of_key}
use Rattle.sketch_defs.proofs.KeptLemmas.{same_place}

-- rows of 2 ^ bits cells, of which a hash finds none that is below a number
abbrev AreAbove : ℕ → ℕ → ℕ → ℕ → List (List ℕ) → Type 0
AreAbove h bits low row [] = Unit {0}
AreAbove h bits low row (cells ∷ rows) =
    (length cells ≡ 2 ^ bits) × (low ≤ get_or cells (index_of (row_hash_of h row) bits) 0) × AreAbove h bits low (row + 1) rows

least_found : (h bits low start row : ℕ) (rows : List (List ℕ)) → AreAbove h bits low row rows → low ≤ start
    → low ≤ fold min start (cells_from h bits row rows)
least_found h bits low start row [] above k = k
least_found h bits low start row (cells ∷ rows) above k =
    least_found h bits low (min start (get_or cells (index_of (row_hash_of h row) bits) 0)) (row + 1) rows above.2 (omega (arith, above.1))

-- ---- one cell

never_falls : (weight bound cell low : ℕ) → low ≤ cell → low ≤ cell_max → low ≤ raised_cell weight bound cell
never_falls weight bound cell low h k =
    cond_both (nat_lt cell bound) (min (cell + weight) cell_max) cell (λ n. low ≤ n) (λ e. omega arith) (λ e. h)

-- where the bound is high enough, so are the cell after the packet and the next bound
raised_high : (weight bound cell low : ℕ) → low ≤ cell → min (low + weight) cell_max ≤ bound
    → min (low + weight) cell_max ≤ raised_cell weight bound cell
raised_high weight bound cell low h k =
    cond_both (nat_lt cell bound) (min (cell + weight) cell_max) cell (λ n. min (low + weight) cell_max ≤ n)
    (λ e. omega arith) (λ e. omega (arith, ltb-false cell bound e))

bound_high : (weight bound cell low : ℕ) → low ≤ cell → min (low + weight) cell_max ≤ bound
    → min (low + weight) cell_max ≤ next_bound weight bound cell
bound_high weight bound cell low h k =
    cond_both (nat_lt cell bound) (min (cell + weight) cell_max) bound (λ n. min (low + weight) cell_max ≤ n)
    (λ e. omega arith) (λ e. k)

-- ---- one packet

-- a write that lets no cell fall
still_above : (cells : List ℕ) (at place value low : ℕ) → low ≤ get_or cells at 0 → (low ≤ get_or cells place 0 → low ≤ value)
    → place < length cells → low ≤ get_or (set cells place value) at 0
still_above cells at place value low h k within = ⊎_elim
    (λ (e : at ≡ place). subst (λ n. low ≤ get_or (set cells place value) n 0) (sym e)
    (rw (get_or-set_same cells place value 0 within) (k (subst (λ n. low ≤ get_or cells n 0) e h))))
    (λ (ne : at ≡ place → ⊥). rw (get_or-set_other cells place at value 0 ne) h)
    (cases_eq at place)

place_lt : (hash_key : List ℕ) (sketch : Sketch) (bits row : ℕ) (packet : Packet) → bits ≤ 32 → index_at hash_key sketch bits row packet < 2 ^ bits
unfolding index_at row_hash_at
place_lt hash_key sketch bits row packet few =
    index_lt (row_hash_of (key_hash hash_key sketch packet.vec) row) bits
    (row_hash_lt (key_hash hash_key sketch packet.vec) row (key_hash_lt hash_key sketch packet.vec)) few

any_packet : (hash_key : List ℕ) (sketch : Sketch) (bits h low bound row : ℕ) (packet : Packet) (rows : List (List ℕ))
    → bits ≤ 32 → low ≤ cell_max → AreAbove h bits low row rows
    → AreAbove h bits low row (raised_rows hash_key sketch bits packet bound row rows)
any_packet hash_key sketch bits h low bound row packet [] few k above = tt
any_packet hash_key sketch bits h low bound row packet (cells ∷ rows) few k above =
    let place : ℕ = index_at hash_key sketch bits row packet in
    let weight : ℕ = weight_of packet sketch.attr in
    let cell : ℕ = get_or cells place 0 in (
      length-set cells place (raised_cell weight bound cell) ∙ above.0,
      still_above cells (index_of (row_hash_of h row) bits) place (raised_cell weight bound cell) low above.1
          (λ m. never_falls weight bound cell low m k) (omega (arith, above.0, place_lt hash_key sketch bits row packet few)),
      any_packet hash_key sketch bits h low (next_bound weight bound cell) (row + 1) packet rows few k above.2,
    )

-- a packet of the key value
its_packet : (hash_key : List ℕ) (sketch : Sketch) (bits h low bound row : ℕ) (packet : Packet) (rows : List (List ℕ))
    → bits ≤ 32 → ((r : ℕ) → index_at hash_key sketch bits r packet ≡ index_of (row_hash_of h r) bits)
    → min (low + weight_of packet sketch.attr) cell_max ≤ bound → AreAbove h bits low row rows
    → AreAbove h bits (min (low + weight_of packet sketch.attr) cell_max) row (raised_rows hash_key sketch bits packet bound row rows)
its_packet hash_key sketch bits h low bound row packet [] few there k above = tt
its_packet hash_key sketch bits h low bound row packet (cells ∷ rows) few there k above =
    let place : ℕ = index_at hash_key sketch bits row packet in
    let found : ℕ = index_of (row_hash_of h row) bits in
    let weight : ℕ = weight_of packet sketch.attr in
    let cell : ℕ = get_or cells place 0 in
    let high : ℕ = min (low + weight) cell_max in
    let same : place ≡ found = there row in
    let within : place < length cells = omega (arith, above.0, place_lt hash_key sketch bits row packet few) in
    let low_cell : low ≤ cell = subst (λ n. low ≤ get_or cells n 0) (sym same) above.1 in
    let written : high ≤ get_or (set cells place (raised_cell weight bound cell)) place 0 =
    rw (get_or-set_same cells place (raised_cell weight bound cell) 0 within) (raised_high weight bound cell low low_cell k) in (
      length-set cells place (raised_cell weight bound cell) ∙ above.0,
      subst (λ n. high ≤ get_or (set cells place (raised_cell weight bound cell)) n 0) same written,
      its_packet hash_key sketch bits h low (next_bound weight bound cell) (row + 1) packet rows few there
          (bound_high weight bound cell low low_cell k) above.2,
    )

-- ---- all packets

all_packets : (hash_key : List ℕ) (sketch : Sketch) (bits : ℕ) (vector : List ℕ) (low : ℕ) (rows : List (List ℕ)) (packets : List Packet)
    → bits ≤ 32 → low ≤ cell_max → AreAbove (key_hash hash_key sketch vector) bits low 0 rows
    → AreAbove (key_hash hash_key sketch vector) bits
    (min (low + sum_by (λ (packet : Packet). weight_of packet sketch.attr) (filter (of_key sketch vector) packets)) cell_max) 0
    (fold (raised hash_key sketch bits) rows packets)
unfolding raised
all_packets hash_key sketch bits vector low rows [] few k above =
    let same : low ≡ min (low + 0) cell_max = omega arith in
    subst (λ n. AreAbove (key_hash hash_key sketch vector) bits n 0 rows) same above
all_packets hash_key sketch bits vector low rows (packet ∷ packets) few k above =
    let h : ℕ = key_hash hash_key sketch vector in
    let weight : Packet → ℕ = λ p. weight_of p sketch.attr in
    let next : List (List ℕ) = raised_rows hash_key sketch bits packet cell_max 0 rows in
    ⊎_elim
    (λ (e : of_key sketch vector packet ≡ true).
    let one : AreAbove h bits (min (low + weight packet) cell_max) 0 next =
    its_packet hash_key sketch bits h low cell_max 0 packet rows few
    (λ r. same_place hash_key sketch bits vector r packet e) (omega arith) above in
    let rest : AreAbove h bits (min (min (low + weight packet) cell_max + sum_by weight (filter (of_key sketch vector) packets)) cell_max) 0
    (fold (raised hash_key sketch bits) next packets) =
    all_packets hash_key sketch bits vector (min (low + weight packet) cell_max) next packets few (omega arith) one in
    let same : min (min (low + weight packet) cell_max + sum_by weight (filter (of_key sketch vector) packets)) cell_max
    ≡ min (low + sum_by weight (packet ∷ filter (of_key sketch vector) packets)) cell_max =
    omega (arith, sum_by-cons weight packet (filter (of_key sketch vector) packets)) in
    rw e (subst (λ n. AreAbove h bits n 0 (fold (raised hash_key sketch bits) next packets)) same rest))
    (λ (e : of_key sketch vector packet ≡ false).
    rw e (all_packets hash_key sketch bits vector low next packets few k (any_packet hash_key sketch bits h low cell_max 0 packet rows few k above)))
    (cases_Bool (of_key sketch vector packet))

zeros_above : (h bits row count : ℕ) → AreAbove h bits 0 row (replicate count (replicate (2 ^ bits) 0))
zeros_above h bits row zero = tt
zeros_above h bits row (suc count) = (length-replicate (2 ^ bits) 0, omega arith, zeros_above h bits (row + 1) count)

answered_chained : (hash_key : List ℕ) (sketch : Sketch) (bits : ℕ) (packets : List Packet) (vector : List ℕ) → sketch.kind ≡ SumaxSum
    → answered hash_key sketch bits packets vector
    ≡ answer_of SumaxSum (cells_found (key_hash hash_key sketch vector) bits (chained_cells hash_key sketch bits packets)) (key_hash hash_key sketch vector)
unfolding cells_of
answered_chained hash_key sketch bits packets vector e =
    let h : ℕ = key_hash hash_key sketch vector in
    ap (λ kind. answer_of kind (cells_found h bits (cells_by (gathering_of kind) hash_key sketch bits packets)) h) e

pub sumax_sum_is_above : SumaxSumIsAbove
unfolding answer_of cells_found chained_cells
sumax_sum_is_above hash_key sketch bits packets vector e few =
    let h : ℕ = key_hash hash_key sketch vector in
    let weight : Packet → ℕ = λ packet. weight_of packet sketch.attr in
    let own : List Packet = packets_of sketch vector packets in
    let start : List (List ℕ) = replicate sketch.rows (replicate (2 ^ bits) 0) in
    let above : AreAbove h bits (min (0 + sum_by weight own) cell_max) 0 (fold (raised hash_key sketch bits) start packets) =
    all_packets hash_key sketch bits vector 0 start packets few (omega arith) (zeros_above h bits 0 sketch.rows) in
    let least : min (0 + sum_by weight own) cell_max ≤ least_of (cells_found h bits (chained_cells hash_key sketch bits packets)) =
    least_found h bits (min (0 + sum_by weight own) cell_max) cell_max 0 (fold (raised hash_key sketch bits) start packets) above (omega arith) in (
      least_of (cells_found h bits (chained_cells hash_key sketch bits packets)),
      answered_chained hash_key sketch bits packets vector e,
      omega (arith, sum-map weight own, least),
    )
