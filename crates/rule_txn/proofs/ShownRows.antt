-- What registers tell of rows are the cells that they hold.
use Rattle.std.proofs.Common.{◌≡◌, ℕ, zero, suc, ◌+◌, ◌^◌, ◌<◌, ◌≤◌, ◌==◌, Bool, true, false, cond, List, [], ◌∷◌, ◌++◌, length, map, refl, ap, ap₂, sym, ◌∙◌, subst, arith, eq-eqb, inl, inr}
use Rattle.std.specs.Prelude.{◌⊎◌, slice_index, Option, None, Some, option_map, unwrap_or}
use Rattle.std.specs.List.{All, find, range_with_len}
use Rattle.std.proofs.Math.Pow.{pow-lt}
use Rattle.std.proofs.lemmas.Bool.{false≢true, cases_lt, eqb-true}
use Rattle.std.proofs.lemmas.List.{ext_get_or}
use Rattle.std.proofs.lemmas.List.Elements.{All-head, All-tail}
use Rattle.std.proofs.lemmas.List.FromFn.{get_or-map-range_with_len, length-map-range_with_len}
use Rattle.addr_translate.specs.Blocks.{Block}
use Rattle.reg_file.specs.Registers.{Contents}
use Rattle.sketch_defs.specs.Cells.{cells_of, row_of}
use Rattle.sketch_lower.proofs.RowLemmas.{length-row}
use Rattle.switch_model.specs.Records.{Past, Part, Row}
use Rattle.switch_model.specs.Packets.{Stand, HoldsCells, live_stand, live_stands, frozen_stand, frozen_stands}
use Rattle.readout.specs.declared.views.Side.TheVariants.{Live, Frozen}
use Rattle.readout.specs.PlacedTasks.{row_contents}
use Rattle.rule_txn.specs.Seen.{placed_row, bits_in}

-- ---- sizes

pub same_power : (a b : ℕ) → 2 ^ a ≡ 2 ^ b → a ≡ b
same_power a b same = by (cases_lt a b) (cases_lt b a) where
  by : (a < b) ⊎ (b ≤ a) → (b < a) ⊎ (a ≤ b) → a ≡ b
  by (inl less) other = absurd (let power : 2 ^ a < 2 ^ b = pow-lt less in omega arith)
  by (inr le) (inl less) = absurd (let power : 2 ^ b < 2 ^ a = pow-lt less in omega arith)
  by (inr le) (inr other) = omega arith

power_found : (size bits a n : ℕ) → 2 ^ bits ≡ size → a ≤ bits → bits < a + n → find (λ b. 2 ^ b == size) (range_with_len a n) ≡ Some bits
power_found size bits a zero is low high = absurd (omega arith)
power_found size bits a (suc n) is low high = by (λ more. power_found size bits (a + 1) n is more (omega arith)) (2 ^ a == size) refl where
  by : (a + 1 ≤ bits → find (λ b. 2 ^ b == size) (range_with_len (a + 1) n) ≡ Some bits) → (t : Bool) → (2 ^ a == size) ≡ t
      → cond t (Some a) (find (λ b. 2 ^ b == size) (range_with_len (a + 1) n)) ≡ Some bits
  by rest true e = ap Some (same_power a bits (eqb-true (2 ^ a) size e ∙ sym is))
  by rest false e = rest (other (cases_lt a bits)) where
    other : (a < bits) ⊎ (bits ≤ a) → a + 1 ≤ bits
    other (inl less) = omega arith
    other (inr le) = absurd (
        let same : a ≡ bits = omega arith in
        false≢true (sym e ∙ eq-eqb (2 ^ a) size (ap (λ b. 2 ^ b) same ∙ is)))

pub bits_are : (size bits : ℕ) → 2 ^ bits ≡ size → bits ≤ 20 → bits_in size ≡ bits
bits_are size bits is few = ap (λ o. unwrap_or o 0) (power_found size bits 0 21 is (omega arith) (omega arith))

-- ---- rows

row_reads : (contents : Contents) (array : ℕ) (region : Block) (xs : List ℕ) → length xs ≡ 2 ^ region.bits
    → ((j : ℕ) → j < 2 ^ region.bits → contents array (region.base + j) ≡ slice_index xs j)
    → map (λ j. contents array (region.base + j)) (range_with_len 0 (2 ^ region.bits)) ≡ xs
row_reads contents array region xs long holds =
    let told : ℕ → ℕ = λ j. contents array (region.base + j) in
    let count = length-map-range_with_len told 0 (2 ^ region.bits) in
    ext_get_or 0 (map told (range_with_len 0 (2 ^ region.bits))) xs (count ∙ sym long) (λ i within.
    let small : i < 2 ^ region.bits = subst (λ (n : ℕ). i < n) count within in
    get_or-map-range_with_len told 0 (2 ^ region.bits) i i 0 small (omega arith) ∙ holds i small)

-- all rows of cells, one by one
pub whole_rows : (cells : List (List ℕ)) (n : ℕ) → length cells ≡ n → map (row_of cells) (range_with_len 0 n) ≡ cells
whole_rows cells n long =
    let count = length-map-range_with_len (row_of cells) 0 n in
    ext_get_or [] (map (row_of cells) (range_with_len 0 n)) cells (count ∙ sym long) (λ i within.
    get_or-map-range_with_len (row_of cells) 0 n i i [] (subst (λ (n : ℕ). i < n) count within) (omega arith))

abbrev pub LiveBits : ℕ → Row → Type 0
LiveBits bits row = row.region.bits ≡ bits

pub live_reads : (hash_key : List ℕ) (contents : Contents) (part : Part) (bits i : ℕ) (before : Option ℕ) (rows : List Row) → bits ≤ 20
    → i + length rows ≡ part.task.rows → All (LiveBits bits) rows → All (HoldsCells hash_key contents) (live_stands part i before rows)
    → map (row_contents contents Live) (map placed_row rows) ≡ map (row_of (cells_of hash_key part.task bits part.packets)) (range_with_len i (length rows))
live_reads hash_key contents part bits i before [] few long same holds = refl
live_reads hash_key contents part bits i before (row ∷ rows) few long same holds =
    let here : row.region.bits ≡ bits = All-head (LiveBits bits) row rows same in
    ap₂ (λ x xs. x ∷ xs)
    (row_reads contents row.array row.region (row_of (cells_of hash_key part.task row.region.bits part.packets) i)
    (length-row hash_key part.task row.region.bits part.packets i (omega arith) (omega (arith, long)))
    (All-head (HoldsCells hash_key contents) (live_stand part i before row) (live_stands part (i + 1) (Some row.array) rows) holds)
    ∙ ap (λ b. row_of (cells_of hash_key part.task b part.packets) i) here)
    (live_reads hash_key contents part bits (i + 1) (Some row.array) rows few (omega (arith, long)) (All-tail (LiveBits bits) row rows same)
    (All-tail (HoldsCells hash_key contents) (live_stand part i before row) (live_stands part (i + 1) (Some row.array) rows) holds))

abbrev pub FrozenBits : ℕ → Row → Type 0
FrozenBits bits row = option_map (λ (b : Block). b.bits) row.frozen ≡ Some bits

pub frozen_reads : (hash_key : List ℕ) (contents : Contents) (part : Part) (past : Past) (bits i : ℕ) (rows : List Row) → bits ≤ 20
    → i + length rows ≡ part.task.rows → All (FrozenBits bits) rows → All (HoldsCells hash_key contents) (frozen_stands part past i rows)
    → map (row_contents contents Frozen) (map placed_row rows) ≡ map (row_of (cells_of hash_key part.task bits past.packets)) (range_with_len i (length rows))
frozen_reads hash_key contents part past bits i [] few long same holds = refl
frozen_reads hash_key contents part past bits i (row ∷ rows) few long same holds =
    by (λ rest. frozen_reads hash_key contents part past bits (i + 1) rows few (omega (arith, long)) (All-tail (FrozenBits bits) row rows same) rest)
    row.frozen refl (All-head (FrozenBits bits) row rows same) holds where
      told : Option Block → List ℕ
      told frozen = map (λ j. contents row.array ((unwrap_or frozen row.region).base + j)) (range_with_len 0 (2 ^ (unwrap_or frozen row.region).bits))

      by : (All (HoldsCells hash_key contents) (frozen_stands part past (i + 1) rows)
          → map (row_contents contents Frozen) (map placed_row rows) ≡ map (row_of (cells_of hash_key part.task bits past.packets)) (range_with_len (i + 1) (length rows)))
          → (frozen : Option Block) → row.frozen ≡ frozen → option_map (λ (b : Block). b.bits) frozen ≡ Some bits
          → All (HoldsCells hash_key contents) (frozen_stand part past i row frozen ++ frozen_stands part past (i + 1) rows)
          → map (row_contents contents Frozen) (map placed_row (row ∷ rows)) ≡ map (row_of (cells_of hash_key part.task bits past.packets)) (range_with_len i (length (row ∷ rows)))
      by later None e none all = absurd (cc)
      by later (Some region) e is all =
          let here : region.bits ≡ bits = cc in
          let s : Stand = record { live = false; task = part.task; packets = past.packets; row = i; array = row.array; region = region; keys = row.keys; before = None } in
          ap₂ (λ x xs. x ∷ xs)
          (ap told e
          ∙ row_reads contents row.array region (row_of (cells_of hash_key part.task region.bits past.packets) i)
          (length-row hash_key part.task region.bits past.packets i (omega arith) (omega (arith, long)))
          (All-head (HoldsCells hash_key contents) s (frozen_stands part past (i + 1) rows) all)
          ∙ ap (λ b. row_of (cells_of hash_key part.task b past.packets) i) here)
          (later (All-tail (HoldsCells hash_key contents) s (frozen_stands part past (i + 1) rows) all))
