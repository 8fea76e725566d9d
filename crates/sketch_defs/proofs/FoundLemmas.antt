-- The cells of a key in the rows, and what of them an answer takes.
use Rattle.std.proofs.Common.{◌≡◌, ℕ, zero, suc, ◌+◌, ◌^◌, ◌<◌, ◌≤◌, min, true, List, [], ◌∷◌, map, get_or, bit_and, bit_or, refl, ap₂, arith}
use Rattle.std.specs.Int.{bit_at}
use Rattle.std.specs.List.{fold, range_with_len}
use Rattle.std.proofs.lemmas.Bool.{and_from}
use Rattle.std.proofs.lemmas.List.FromFn.{get_or-map-range_with_len}
use Rattle.std.proofs.lemmas.Nat.Bits.{bit_at_and, bit_at_or, same_from_bits}
use Rattle.addr_translate.specs.Blocks.{index_of}
use Rattle.addr_translate.proofs.BlockLemmas.{index_lt}
use Rattle.hash_units.specs.Toeplitz.{row_hash_of}
use Rattle.hash_units.proofs.HashLemmas.{row_hash_lt}
use Rattle.sketch_defs.specs.Answers.{cells_from, has_bit, have_bits}

-- ---- rows that are made cell by cell

pub found_in_made : (cell : ℕ → ℕ → ℕ) (h bits row count : ℕ) → h < 2 ^ 32 → bits ≤ 32
    → cells_from h bits row (map (λ r. map (cell r) (range_with_len 0 (2 ^ bits))) (range_with_len row count))
    ≡ map (λ r. cell r (index_of (row_hash_of h r) bits)) (range_with_len row count)
found_in_made cell h bits row zero small few = refl
found_in_made cell h bits row (suc count) small few =
    let place : ℕ = index_of (row_hash_of h row) bits in
    let within : place < 2 ^ bits = index_lt (row_hash_of h row) bits (row_hash_lt h row small) few in
    let first : get_or (map (cell row) (range_with_len 0 (2 ^ bits))) place 0 ≡ cell row place =
    get_or-map-range_with_len (cell row) 0 (2 ^ bits) place place 0 within (omega arith) in
    ap₂ (λ c cs. c ∷ cs) first (found_in_made cell h bits (row + 1) count small few)

-- ---- the least, and bits in every row

pub least_above : (low start : ℕ) (cell : ℕ → ℕ) → ((row : ℕ) → low ≤ cell row) → (rows : List ℕ) → low ≤ start
    → low ≤ fold min start (map cell rows)
least_above low start cell each [] h = h
least_above low start cell each (row ∷ rows) h = least_above low (min start (cell row)) cell each rows (omega (arith, each row))

pub bits_in_all : (h : ℕ) (cell : ℕ → ℕ) → ((row : ℕ) → has_bit h row (cell row) ≡ true) → (row count : ℕ)
    → have_bits h row (map cell (range_with_len row count)) ≡ true
bits_in_all h cell each row zero = refl
bits_in_all h cell each row (suc count) =
    and_from (has_bit h row (cell row)) (have_bits h (row + 1) (map cell (range_with_len (row + 1) count))) (each row)
    (bits_in_all h cell each (row + 1) count)

-- ---- one word's bits among another's

abbrev pub IsWithin : ℕ → ℕ → Type 0
IsWithin small large = (i : ℕ) → bit_at small i ≤ bit_at large i

pub and_of_within : (small large : ℕ) → IsWithin small large → bit_and small large ≡ small
and_of_within small large h = same_from_bits (bit_and small large) small (λ i. omega (arith, bit_at_and small large i, h i))

pub within_and : (low x y : ℕ) → IsWithin low x → IsWithin low y → IsWithin low (bit_and x y)
within_and low x y h k = λ i. omega (arith, bit_at_and x y i, h i, k i)

pub or_within : (high x y : ℕ) → IsWithin x high → IsWithin y high → IsWithin (bit_or x y) high
or_within high x y h k = λ i. omega (arith, bit_at_or x y i, h i, k i)

-- what every cell has, all of them have; what some cell has stands in what holds every cell
pub and_above : (low start : ℕ) (cell : ℕ → ℕ) → ((row : ℕ) → IsWithin low (cell row)) → (rows : List ℕ) → IsWithin low start
    → IsWithin low (fold bit_and start (map cell rows))
and_above low start cell each [] h = h
and_above low start cell each (row ∷ rows) h =
    and_above low (bit_and start (cell row)) cell each rows (within_and low start (cell row) h (each row))

pub or_below : (high start : ℕ) (cell : ℕ → ℕ) → ((row : ℕ) → IsWithin (cell row) high) → (rows : List ℕ) → IsWithin start high
    → IsWithin (fold bit_or start (map cell rows)) high
or_below high start cell each [] h = h
or_below high start cell each (row ∷ rows) h =
    or_below high (bit_or start (cell row)) cell each rows (or_within high start (cell row) h (each row))
