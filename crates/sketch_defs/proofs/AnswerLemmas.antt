-- The answers of the kinds whose rows know nothing of one another.
use Rattle.std.proofs.Common.{◌≡◌, ℕ, ◌^◌, ◌<◌, ◌≤◌, ◌==◌, Bool, true, false, min, max, if◌then◌else◌, List, [], ◌∷◌, map, bit_and, bit_or, Option, Some, ⊎_elim, refl, ap, sym, ◌∙◌, subst, eq-eqb, arith}
use Rattle.std.specs.Int.{bit_at}
use Rattle.std.specs.List.{All, filter, fold, sum, range_with_len}
use Rattle.std.specs.Str.{bytes_eq}
use Rattle.std.proofs.lemmas.Bool.{cases_Bool, cases_lt}
use Rattle.std.proofs.lemmas.List.Elements.{All-head, All-tail}
use Rattle.std.proofs.lemmas.Nat.Bits.{bit_at-lt, bit_at-zero, bit_at_ones, bit_at_above}
use Rattle.key_mask.specs.Bytes.{and_bytes}
use Rattle.key_mask.specs.Masks.{mask_bytes_of}
use Rattle.pkt_headers.specs.declared.packets.Packet.{Packet}
use Rattle.pkt_headers.specs.Packets.{weight_of}
use Rattle.addr_translate.specs.Blocks.{index_of}
use Rattle.hash_units.specs.Toeplitz.{row_hash_of, bit_of}
use Rattle.hash_units.proofs.HashLemmas.{hash_lt}
use Rattle.sketch_defs.specs.declared.answers.Reply.TheVariants.{Yes, No}
use Rattle.sketch_defs.specs.declared.kinds.Kind.{Kind}
use Rattle.sketch_defs.specs.declared.kinds.Kind.TheVariants.{Cms, SumaxMax, Bloom, FlagOr, FlagAnd}
use Rattle.sketch_defs.specs.Answers.{cells_found, least_of, has_bit, answer_of}
use Rattle.sketch_defs.specs.Cells.{cell_max, key_hash, row_hash_at, index_at, brought_by, Gathering, Added, Greatest, AnyBits, AllBits, gathering_of, gathered, independent_cell, independent_cells, cells_by, cells_of}
use Rattle.sketch_defs.specs.Laws.{weights_of, answered, CountMinIsAbove, SumaxMaxIsAbove, BloomMissesNone, FlagOrHasAll, FlagAndHasNoOther}
use Rattle.sketch_defs.specs.Tasks.{Sketch}
use Rattle.sketch_defs.proofs.FoundLemmas.{found_in_made, least_above, bits_in_all, IsWithin, and_of_within, or_within, and_above, or_below}
use Rattle.sketch_defs.proofs.KeptLemmas.{same_row_hash, comes_there, sum_kept, max_kept, or_kept, and_kept, bit_kept, max_fits}

-- ---- the cells that are found

pub key_hash_lt : (hash_key : List ℕ) (sketch : Sketch) (vector : List ℕ) → key_hash hash_key sketch vector < 2 ^ 32
unfolding key_hash
key_hash_lt hash_key sketch vector = hash_lt hash_key (and_bytes vector (mask_bytes_of sketch.key))

-- the cell of a row that a key value has
abbrev its_cell : Gathering → List ℕ → Sketch → ℕ → List Packet → List ℕ → ℕ → ℕ
its_cell gathering hash_key sketch bits packets vector row = independent_cell gathering hash_key sketch bits packets row (index_of (row_hash_of (key_hash hash_key sketch vector) row) bits)

-- the packets that come to it
abbrev to_its_cell : List ℕ → Sketch → ℕ → List ℕ → ℕ → Packet → Bool
to_its_cell hash_key sketch bits vector row = λ packet. index_at hash_key sketch bits row packet == index_of (row_hash_of (key_hash hash_key sketch vector) row) bits

-- those of the key value
abbrev pub of_key : Sketch → List ℕ → Packet → Bool
of_key sketch vector = λ packet. bytes_eq (and_bytes packet.vec (mask_bytes_of sketch.key)) (and_bytes vector (mask_bytes_of sketch.key))

found_independent : (gathering : Gathering) (hash_key : List ℕ) (sketch : Sketch) (bits : ℕ) (packets : List Packet) (vector : List ℕ) → bits ≤ 32
    → cells_found (key_hash hash_key sketch vector) bits (independent_cells gathering hash_key sketch bits packets)
    ≡ map (its_cell gathering hash_key sketch bits packets vector) (range_with_len 0 sketch.rows)
unfolding cells_found independent_cells
found_independent gathering hash_key sketch bits packets vector few =
    found_in_made (independent_cell gathering hash_key sketch bits packets) (key_hash hash_key sketch vector) bits 0 sketch.rows (key_hash_lt hash_key sketch vector) few

answered_independent : (gathering : Gathering) (hash_key : List ℕ) (sketch : Sketch) (bits : ℕ) (packets : List Packet) (vector : List ℕ) (kind : Kind)
    → sketch.kind ≡ kind → gathering_of kind ≡ Some gathering → bits ≤ 32
    → answered hash_key sketch bits packets vector
    ≡ answer_of kind (map (its_cell gathering hash_key sketch bits packets vector) (range_with_len 0 sketch.rows)) (key_hash hash_key sketch vector)
unfolding cells_of
answered_independent gathering hash_key sketch bits packets vector kind e independent few =
    let h : ℕ = key_hash hash_key sketch vector in
    ap (λ k. answer_of k (cells_found h bits (cells_by (gathering_of k) hash_key sketch bits packets)) h) e
    ∙ ap (λ (g : Option Gathering). answer_of kind (cells_found h bits (cells_by g hash_key sketch bits packets)) h) independent
    ∙ ap (λ cells. answer_of kind cells h) (found_independent gathering hash_key sketch bits packets vector few)

cell_is : (gathering : Gathering) (hash_key : List ℕ) (sketch : Sketch) (bits : ℕ) (packets : List Packet) (vector : List ℕ) (kind : Kind) (row : ℕ)
    → sketch.kind ≡ kind
    → its_cell gathering hash_key sketch bits packets vector row
    ≡ gathered gathering (map (brought_by kind hash_key sketch bits row) (filter (to_its_cell hash_key sketch bits vector row) packets))
unfolding independent_cell
cell_is gathering hash_key sketch bits packets vector kind row e =
    ap (λ k. gathered gathering (map (brought_by k hash_key sketch bits row) (filter (to_its_cell hash_key sketch bits vector row) packets))) e

-- ---- words

word_within : (n : ℕ) → n ≤ cell_max → IsWithin n cell_max
word_within n h = λ i. ⊎_elim
    (λ (low : i < 32). omega (arith, bit_at-lt n i, bit_at_ones 32 i low))
    (λ (high : 32 ≤ i). omega (arith, bit_at_above n 32 i (omega arith) high))
    (cases_lt i 32)

or_of_words : (start : ℕ) (f : Packet → ℕ) (p : Packet → Bool) (packets : List Packet) → All (λ x. f x ≤ cell_max) packets → IsWithin start cell_max
    → IsWithin (fold bit_or start (map f (filter p packets))) cell_max
or_of_words start f p [] each h = h
or_of_words start f p (packet ∷ packets) each h =
    let rest : All (λ x. f x ≤ cell_max) packets = All-tail (λ x. f x ≤ cell_max) packet packets each in
    let first : IsWithin (f packet) cell_max = word_within (f packet) (All-head (λ x. f x ≤ cell_max) packet packets each) in
    ⊎_elim
    (λ (e : p packet ≡ true). rw e (or_of_words (bit_or start (f packet)) f p packets rest (or_within cell_max start (f packet) h first)))
    (λ (e : p packet ≡ false). rw e (or_of_words start f p packets rest h))
    (cases_Bool (p packet))

-- ---- each kind

pub count_min_is_above : CountMinIsAbove
unfolding answer_of
count_min_is_above hash_key sketch bits packets vector e few =
    let cell : ℕ → ℕ = its_cell Added hash_key sketch bits packets vector in
    let weight : Packet → ℕ = λ packet. weight_of packet sketch.attr in
    let low : ℕ = min (sum (weights_of sketch vector packets)) cell_max in
    let each : (row : ℕ) → low ≤ cell row = λ row.
    omega (
      arith,
      cell_is Added hash_key sketch bits packets vector Cms row e,
      sum_kept weight (of_key sketch vector) (to_its_cell hash_key sketch bits vector row) (comes_there hash_key sketch bits vector row) packets,
    ) in (
      least_of (map cell (range_with_len 0 sketch.rows)),
      answered_independent Added hash_key sketch bits packets vector Cms e refl few,
      least_above low cell_max cell each (range_with_len 0 sketch.rows) (omega arith),
    )

pub sumax_max_is_above : SumaxMaxIsAbove
unfolding answer_of
sumax_max_is_above hash_key sketch bits packets vector e few words =
    let cell : ℕ → ℕ = its_cell Greatest hash_key sketch bits packets vector in
    let weight : Packet → ℕ = λ packet. weight_of packet sketch.attr in
    let low : ℕ = fold max 0 (weights_of sketch vector packets) in
    let each : (row : ℕ) → low ≤ cell row = λ row.
    omega (
      arith,
      cell_is Greatest hash_key sketch bits packets vector SumaxMax row e,
      max_kept weight (of_key sketch vector) (to_its_cell hash_key sketch bits vector row) (comes_there hash_key sketch bits vector row) packets,
    ) in (
      least_of (map cell (range_with_len 0 sketch.rows)),
      answered_independent Greatest hash_key sketch bits packets vector SumaxMax e refl few,
      least_above low cell_max cell each (range_with_len 0 sketch.rows)
          (max_fits cell_max 0 weight (of_key sketch vector) packets words (omega arith)),
    )

pub bloom_misses_none : BloomMissesNone
unfolding answer_of
bloom_misses_none hash_key sketch bits packets vector e few some =
    let h : ℕ = key_hash hash_key sketch vector in
    let cell : ℕ → ℕ = its_cell AnyBits hash_key sketch bits packets vector in
    let each : (row : ℕ) → has_bit h row (cell row) ≡ true = λ row.
    let bit : ℕ = bit_of (row_hash_of h row) in
    let there : bit_at (cell row) bit ≡ 1 =
    ap (λ n. bit_at n bit) (cell_is AnyBits hash_key sketch bits packets vector Bloom row e)
    ∙ bit_kept bit 0 (λ packet. 2 ^ bit_of (row_hash_at hash_key sketch row packet)) (of_key sketch vector)
    (to_its_cell hash_key sketch bits vector row) (comes_there hash_key sketch bits vector row)
    (λ packet same. ap (λ n. 2 ^ bit_of n) (same_row_hash hash_key sketch vector row packet same)) packets some in
    eq-eqb (bit_at (cell row) bit) 1 there in
    answered_independent AnyBits hash_key sketch bits packets vector Bloom e refl few
    ∙ ap (λ (b : Bool). Some (if b then Yes else No)) (bits_in_all h cell each 0 sketch.rows)

pub flag_or_has_all : FlagOrHasAll
unfolding answer_of
flag_or_has_all hash_key sketch bits packets vector e few words =
    let cell : ℕ → ℕ = its_cell AnyBits hash_key sketch bits packets vector in
    let weight : Packet → ℕ = λ packet. weight_of packet sketch.attr in
    let low : ℕ = fold bit_or 0 (weights_of sketch vector packets) in
    let each : (row : ℕ) → IsWithin low (cell row) = λ row.
    subst (IsWithin low) (sym (cell_is AnyBits hash_key sketch bits packets vector FlagOr row e))
    (or_kept weight (of_key sketch vector) (to_its_cell hash_key sketch bits vector row) (comes_there hash_key sketch bits vector row) packets) in
    let answer : ℕ = fold bit_and cell_max (map cell (range_with_len 0 sketch.rows)) in
    let all : IsWithin low answer =
    and_above low cell_max cell each (range_with_len 0 sketch.rows)
    (or_of_words 0 weight (of_key sketch vector) packets words (word_within 0 (omega arith))) in
    (answer, answered_independent AnyBits hash_key sketch bits packets vector FlagOr e refl few, and_of_within low answer all)

pub flag_and_has_no_other : FlagAndHasNoOther
unfolding answer_of
flag_and_has_no_other hash_key sketch bits packets vector e few =
    let cell : ℕ → ℕ = its_cell AllBits hash_key sketch bits packets vector in
    let weight : Packet → ℕ = λ packet. weight_of packet sketch.attr in
    let high : ℕ = fold bit_and cell_max (weights_of sketch vector packets) in
    let each : (row : ℕ) → IsWithin (cell row) high = λ row.
    subst (λ n. IsWithin n high) (sym (cell_is AllBits hash_key sketch bits packets vector FlagAnd row e))
    (and_kept cell_max weight (of_key sketch vector) (to_its_cell hash_key sketch bits vector row) (comes_there hash_key sketch bits vector row) packets) in
    let answer : ℕ = fold bit_or 0 (map cell (range_with_len 0 sketch.rows)) in
    let none : IsWithin 0 high = λ i. omega (arith, bit_at-zero i) in
    let all : IsWithin answer high = or_below high 0 cell each (range_with_len 0 sketch.rows) none in
    (answer, answered_independent AllBits hash_key sketch bits packets vector FlagAnd e refl few, and_of_within answer high all)
