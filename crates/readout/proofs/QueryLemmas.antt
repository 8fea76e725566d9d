-- The cells of a key, one row after the other.
use Rattle.std.proofs.Common.{◌≡◌, ◌≢◌, ℕ, ◌+◌, ◌^◌, ◌<◌, List, [], ◌∷◌, ◌++◌, length, map, drop, slice_index, unwrap_or, Ok, Option, Result, Some, IfSome, IfOk, refl, ap, sym, ◌∙◌, subst, arith, append_assoc, add-one}
use Rattle.std.specs.Result.{IsErr}
use Rattle.std.specs.Str.{bytes_eq}
use Rattle.std.proofs.Math.Seq.{drop-cons}
use Rattle.std.proofs.lemmas.List.{append-nil, drop_all}
use Rattle.std.proofs.lemmas.List.FromFn.{get_or-map-range_with_len}
use Rattle.outside.specs.Told.{Stays}
use Rattle.outside.specs.Sent.{Sends}
use Rattle.outside.proofs.SentLemmas.{none_in_part}
use Rattle.outside.proofs.ToldLemmas.{stays_same}
use Rattle.addr_translate.specs.Blocks.{index_of}
use Rattle.hash_units.specs.Toeplitz.{hash_of, row_hash_of}
use Rattle.key_mask.specs.Bytes.{and_bytes}
use Rattle.key_mask.specs.Masks.{mask_bytes_of}
use Rattle.reg_file.specs.Registers.{Contents}
use Rattle.sketch_defs.specs.declared.answers.Reply.{Reply}
use Rattle.sketch_defs.specs.declared.kinds.Kind.TheVariants.{Mrac, Hll}
use Rattle.sketch_defs.specs.Answers.{answer_of, cells_from, cells_found}
use Rattle.sketch_defs.specs.Cells.{key_hash}
use Rattle.task_filters.specs.Filters.{Pattern}
use Rattle.readout.specs.declared.views.Side.TheVariants.{Live}
use Rattle.readout.specs.PlacedTasks.{PlacedTask, no_place, place_at, part_in, live_bits, register_at, row_contents, rows_contents}
use Rattle.readout.specs.Lines.{query_line}
use Rattle.readout.specs.Answers.{line_of_query}
use Rattle.readout.proofs.PieceLemmas.{sends_at_err}
use Rattle.readout.proofs.ToldLemmas.{told_more, told_all, told_then}
use Rattle.readout.proofs.AnswerLemmas.{query_answered}

-- these cells are those of the rows before this one
abbrev pub FoundSoFar : ℕ → PlacedTask → ℕ → List ℕ → Contents → Type 0
FoundSoFar h placed row found told =
    found ++ cells_from h (live_bits placed) row (map (row_contents told Live) (drop row placed.places)) ≡ cells_found h (live_bits placed) (rows_contents told Live placed)

abbrev pub FoundAt : ℕ → PlacedTask → ℕ → ℕ → Contents → Type 0
FoundAt h placed row cell told = cell ≡ slice_index (row_contents told Live (place_at placed row)) (index_of (row_hash_of h row) (live_bits placed))

found_none : (h : ℕ) (placed : PlacedTask) (told : Contents) → FoundSoFar h placed 0 [] told
unfolding cells_found rows_contents
found_none h placed told = refl

pub found_start : (cells : Option Contents) (h : ℕ) (placed : PlacedTask) → IfSome cells (FoundSoFar h placed 0 [])
found_start cells h placed = told_all cells (FoundSoFar h placed 0 []) (found_none h placed)

found_first : (h : ℕ) (placed : PlacedTask) (row : ℕ) (told : Contents) → row < length placed.places
    → cells_from h (live_bits placed) row (map (row_contents told Live) (drop row placed.places))
    ≡ slice_index (row_contents told Live (place_at placed row)) (index_of (row_hash_of h row) (live_bits placed))
    ∷ cells_from h (live_bits placed) (row + 1) (map (row_contents told Live) (drop (row + 1) placed.places))
found_first h placed row told inside =
    ap (λ places. cells_from h (live_bits placed) row (map (row_contents told Live) places)) (drop-cons placed.places row no_place inside)
    ∙ ap (λ k. slice_index (row_contents told Live (place_at placed row)) (index_of (row_hash_of h row) (live_bits placed))
    ∷ cells_from h (live_bits placed) (row + 1) (map (row_contents told Live) (drop k placed.places))) (sym (add-one row))

pub found_more : (one two : Option Contents) (h : ℕ) (placed : PlacedTask) (row : ℕ) (found : List ℕ) (cell : ℕ) → row < length placed.places → Stays one two
    → IfSome one (FoundSoFar h placed row found) → IfSome two (FoundAt h placed row cell)
    → IfSome two (FoundSoFar h placed (row + 1) (found ++ cell ∷ []))
found_more one two h placed row found cell inside same far here =
    told_more one two (FoundSoFar h placed row found) (FoundAt h placed row cell) (FoundSoFar h placed (row + 1) (found ++ cell ∷ [])) same
    (λ told p q. append_assoc found (cell ∷ []) (cells_from h (live_bits placed) (row + 1) (map (row_contents told Live) (drop (row + 1) placed.places)))
    ∙ (ap (λ l. found ++ l) (ap (λ c. c ∷ cells_from h (live_bits placed) (row + 1) (map (row_contents told Live) (drop (row + 1) placed.places))) q
    ∙ sym (found_first h placed row told inside)) ∙ p))
    far here

pub found_done : (cells : Option Contents) (h : ℕ) (placed : PlacedTask) (row : ℕ) (found : List ℕ) → row ≡ length placed.places
    → IfSome cells (FoundSoFar h placed row found)
    → IfSome cells (λ told. found ≡ cells_found h (live_bits placed) (rows_contents told Live placed))
found_done cells h placed row found is far =
    told_then cells (FoundSoFar h placed row found) (λ told. found ≡ cells_found h (live_bits placed) (rows_contents told Live placed))
    (λ told p. sym (append-nil found)
    ∙ (ap (λ places. found ++ cells_from h (live_bits placed) row (map (row_contents told Live) places)) (sym (drop_all row placed.places (omega arith))) ∙ p))
    far

-- the register at a row's index is the cell that the row tells there
pub cell_found : (cells : Option Contents) (h : ℕ) (placed : PlacedTask) (row cell index : ℕ) → index ≡ index_of (row_hash_of h row) (live_bits placed)
    → index < 2 ^ (place_at placed row).region.bits → IfSome cells (λ told. cell ≡ register_at told Live (place_at placed row) index)
    → IfSome cells (FoundAt h placed row cell)
cell_found cells h placed row cell index is inside here =
    told_then cells (λ told. cell ≡ register_at told Live (place_at placed row) index) (FoundAt h placed row cell)
    (λ told p. p
    ∙ (sym (get_or-map-range_with_len (register_at told Live (place_at placed row)) 0 (2 ^ (place_at placed row).region.bits) index index 0 inside (omega arith))
    ∙ ap (slice_index (row_contents told Live (place_at placed row))) is))
    here

-- ---- the line

hash_as : (hash_key : List ℕ) (placed : PlacedTask) (vector : List ℕ) (h : ℕ) → h ≡ hash_of hash_key (and_bytes vector (mask_bytes_of placed.task.key))
    → h ≡ key_hash hash_key placed.task vector
unfolding key_hash
hash_as hash_key placed vector h is = is

pub query_sent : {T E : Type 0} (result : Result T E) (cells : Option Contents) (a b : Option (List ℕ)) (hash_key : List ℕ) (at : Pattern) (placed : PlacedTask) (h : ℕ) (found line : List ℕ) (reply : Reply)
    → h ≡ hash_of hash_key (and_bytes at.value (mask_bytes_of placed.task.key))
    → answer_of placed.task.kind found h ≡ Some reply → line ≡ query_line placed.task.name reply
    → IfSome cells (λ told. found ≡ cells_found h (live_bits placed) (rows_contents told Live placed))
    → Sends a line result b → IfSome cells (λ told. IfOk (line_of_query hash_key at (part_in told placed)) (λ l. Sends a l result b))
query_sent result cells a b hash_key at placed h found line reply hashed is put all sent =
    told_then cells (λ told. found ≡ cells_found h (live_bits placed) (rows_contents told Live placed))
    (λ told. IfOk (line_of_query hash_key at (part_in told placed)) (λ l. Sends a l result b))
    (λ told p. query_answered hash_key at (part_in told placed) (λ l. Sends a l result b)
    (λ r e.
    let hash = hash_as hash_key placed at.value h hashed in
    let same : Some reply ≡ Some r =
    sym is ∙ (ap (λ f. answer_of placed.task.kind f h) p
    ∙ (ap (λ k. answer_of placed.task.kind (cells_found k (live_bits placed) (rows_contents told Live placed)) k) hash ∙ e)) in
    subst (λ l. Sends a l result b) (put ∙ ap (query_line placed.task.name) (ap (λ (o : Option Reply). unwrap_or o reply) same)) sent)) all

some_line : (name : List ℕ) (reply : Reply) → 0 < length (query_line name reply)
unfolding query_line
some_line name reply = omega arith

pub query_unsent : {T E : Type 0} (result : Result T E) (cells : Option Contents) (a : Option (List ℕ)) (hash_key : List ℕ) (at : Pattern) (placed : PlacedTask) → IsErr result
    → IfSome cells (λ told. IfOk (line_of_query hash_key at (part_in told placed)) (λ l. Sends a l result a))
query_unsent result cells a hash_key at placed failed =
    told_all cells (λ told. IfOk (line_of_query hash_key at (part_in told placed)) (λ l. Sends a l result a))
    (λ told. query_answered hash_key at (part_in told placed) (λ l. Sends a l result a)
    (λ reply e. sends_at_err result a a (query_line placed.task.name reply) failed
    (none_in_part a a (query_line placed.task.name reply) (some_line placed.task.name reply) (stays_same a))))
