-- The sizes of rising cells, one run after the other.
use Rattle.std.proofs.Common.{◌≡◌, ◌≢◌, ℕ, zero, suc, ◌+◌, ◌-◌, ◌^◌, ◌<◌, ◌≤◌, List, [], ◌∷◌, ◌++◌, length, take, drop, get_or, replicate, codes, Option, Result, None, Some, IfSome, IfOk, refl, ap, ap₂, sym, ◌∙◌, subst, arith, append_assoc, add-one, length-drop}
use Rattle.std.specs.List.{All, flat_map}
use Rattle.std.specs.List.Sorted.{IsSorted}
use Rattle.std.specs.Ordering.{nat_cmp}
use Rattle.std.specs.Result.{IsErr}
use Rattle.std.proofs.Math.Seq.{drop-cons, take-suc}
use Rattle.std.proofs.lemmas.List.{append-nil, drop_all, get_or-drop}
use Rattle.std.proofs.lemmas.List.Elements.{All-from_get_or}
use Rattle.std.proofs.lemmas.Map.Keys.{ge_from_not_lt}
use Rattle.outside.specs.Told.{Stays}
use Rattle.outside.specs.Sent.{CameSoFar, CameInFront, Sends}
use Rattle.outside.proofs.SentLemmas.{none_in_part}
use Rattle.outside.proofs.ToldLemmas.{stays_same, grows_then}
use Rattle.reg_file.specs.Registers.{Contents}
use Rattle.sketch_defs.specs.Answers.{Size, sizes_of}
use Rattle.sketch_defs.specs.Cells.{row_of}
use Rattle.sketch_defs.proofs.EstimateLemmas.{power_le}
use Rattle.sketch_defs.proofs.SizeLemmas.{sizes_of_run}
use Rattle.readout.specs.declared.views.Placed.{Placed}
use Rattle.readout.specs.declared.views.Side.TheVariants.{Live}
use Rattle.readout.specs.PlacedTasks.{PlacedTask, part_in, place_at, live_bits, row_contents, rows_contents}
use Rattle.readout.specs.Lines.{size_line, dist_lines}
use Rattle.readout.specs.Answers.{lines_of_dist}
use Rattle.readout.proofs.AnswerLemmas.{dist_answered}
use Rattle.readout.proofs.PieceLemmas.{put_behind, sends_at_err, block_sent, block_cut}
use Rattle.readout.proofs.ToldLemmas.{told_more, told_all, told_then}
use Rattle.readout.proofs.CellLemmas.{length_row, row_at}
use Rattle.readout.proofs.CardLemmas.{CellAt, row_whole, row_first}

-- ---- the cells read

abbrev pub ReadSoFar : List ℕ → Placed → ℕ → Contents → Type 0
ReadSoFar cells place index told = cells ≡ take index (row_contents told Live place)

pub read_start : (cells : Option Contents) (place : Placed) → IfSome cells (ReadSoFar [] place 0)
read_start cells place = told_all cells (ReadSoFar [] place 0) (λ told. refl)

pub read_more : (one two : Option Contents) (place : Placed) (read : List ℕ) (index cell : ℕ) → index < 2 ^ place.region.bits → Stays one two
    → IfSome one (ReadSoFar read place index) → IfSome two (CellAt place index cell) → IfSome two (ReadSoFar (read ++ cell ∷ []) place (index + 1))
read_more one two place read index cell inside same far here =
    told_more one two (ReadSoFar read place index) (CellAt place index cell) (ReadSoFar (read ++ cell ∷ []) place (index + 1)) same
    (λ told p q. let long : index < length (row_contents told Live place) = omega (arith, length_row told Live place) in
    ap₂ (λ (l : List ℕ) (n : ℕ). l ++ n ∷ []) p (q ∙ sym (row_at told Live place index inside))
    ∙ (sym (take-suc (row_contents told Live place) index 0 long) ∙ ap (λ n. take n (row_contents told Live place)) (sym (add-one index))))
    far here

pub read_done : (cells : Option Contents) (place : Placed) (read : List ℕ) (index : ℕ) → index ≡ 2 ^ place.region.bits
    → IfSome cells (ReadSoFar read place index) → IfSome cells (λ told. read ≡ row_contents told Live place)
read_done cells place read index all far =
    told_then cells (ReadSoFar read place index) (λ told. read ≡ row_contents told Live place) (λ told p. p ∙ row_whole told place index all) far

-- ---- runs

-- from an index to an end, the cells hold the value of the first
abbrev pub RunTo : List ℕ → ℕ → ℕ → Type 0
RunTo cells at end = drop at cells ≡ replicate (end - at) (get_or cells at 0) ++ drop end cells

replicate_more : (count value : ℕ) (rest : List ℕ) → replicate count value ++ (value ∷ rest) ≡ replicate (suc count) value ++ rest
replicate_more zero value rest = refl
replicate_more (suc count) value rest = ap (λ l. value ∷ l) (replicate_more count value rest)

pub run_first : (cells : List ℕ) (at : ℕ) → at < length cells → RunTo cells at (at + 1)
run_first cells at inside =
    let one : at + 1 - at ≡ 1 = omega arith in
    drop-cons cells at 0 inside ∙ ap₂ (λ n m. replicate n (get_or cells at 0) ++ drop m cells) (sym one) (sym (add-one at))

pub run_more : (cells : List ℕ) (at end : ℕ) → at < end → end < length cells → get_or cells end 0 ≡ get_or cells at 0
    → RunTo cells at end → RunTo cells at (end + 1)
run_more cells at end above inside same far =
    let more : end + 1 - at ≡ suc (end - at) = omega arith in
    far
    ∙ (ap (λ l. replicate (end - at) (get_or cells at 0) ++ l) (drop-cons cells end 0 inside ∙ ap (λ v. v ∷ drop (suc end) cells) same)
    ∙ (replicate_more (end - at) (get_or cells at 0) (drop (suc end) cells)
    ∙ ap₂ (λ n m. replicate n (get_or cells at 0) ++ drop m cells) (sym more) (sym (add-one end))))

rises : (cells : List ℕ) → IsSorted nat_cmp cells → (i k : ℕ) → i + k < length cells → get_or cells i 0 ≤ get_or cells (i + k) 0
rises cells up i zero inside = let none : i ≡ i + 0 = omega arith in subst (λ n. get_or cells i 0 ≤ get_or cells n 0) none (omega arith)
rises cells up i (suc k) inside =
    let before = rises cells up i k (omega arith) in
    let step = ge_from_not_lt (get_or cells (i + k + 1) 0) (get_or cells (i + k) 0) (up (i + k) 0 (omega arith) (omega arith)) in
    let next : i + k + 1 ≡ i + suc k = omega arith in
    subst (λ n. get_or cells i 0 ≤ get_or cells n 0) next (omega (arith, before, step))

above_run : (cells : List ℕ) → IsSorted nat_cmp cells → (at end : ℕ) → at < end → (end < length cells → get_or cells end 0 ≢ get_or cells at 0)
    → All (λ cell. get_or cells at 0 < cell) (drop end cells)
above_run cells up at end above other =
    All-from_get_or (λ cell. get_or cells at 0 < cell) (drop end cells) 0
    (λ i inside.
    let long : end + i < length cells = omega (arith, length-drop end cells, inside) in
    let first = rises cells up at (end - at) (omega arith) in
    let same : at + (end - at) ≡ end = omega arith in
    let low : get_or cells at 0 ≤ get_or cells end 0 = rw same at first in
    let high = rises cells up end i long in
    let apart = other (omega arith) in
    rw (get_or-drop end cells i 0) (omega (arith, low, high, apart)))

size_first : (count value : ℕ) (rest : List ℕ) → 1 ≤ count → All (λ cell. value < cell) rest
    → sizes_of (replicate count value ++ rest) ≡ record { value = value; cells = count } ∷ sizes_of rest
size_first zero value rest some above = absurd (omega arith)
size_first (suc count) value rest some above = sizes_of_run value count rest above

pub run_sizes : (cells : List ℕ) → IsSorted nat_cmp cells → (at end : ℕ) → at < end → (end < length cells → get_or cells end 0 ≢ get_or cells at 0)
    → RunTo cells at end
    → sizes_of (drop at cells) ≡ record { value = get_or cells at 0; cells = end - at } ∷ sizes_of (drop (at + (end - at)) cells)
run_sizes cells up at end above other far =
    let back : end ≡ at + (end - at) = omega arith in
    ap sizes_of far
    ∙ (size_first (end - at) (get_or cells at 0) (drop end cells) (omega arith) (above_run cells up at end above other)
    ∙ ap (λ n. record { value = get_or cells at 0; cells = end - at } ∷ sizes_of (drop n cells)) back)

-- ---- the lines of the sizes

-- the lines of the cells from this one on are to come, behind a piece
abbrev pub SizesSoFar : Option (List ℕ) → List ℕ → List ℕ → List ℕ → ℕ → Option (List ℕ) → Type 0
SizesSoFar before first cells piece at now =
    CameSoFar before (first ++ flat_map size_line (sizes_of cells)) (piece ++ flat_map size_line (sizes_of (drop at cells))) now

pub sizes_start : (before : Option (List ℕ)) (piece cells : List ℕ) → SizesSoFar before piece cells piece 0 before
sizes_start before piece cells = put_behind before (piece ++ flat_map size_line (sizes_of cells))

-- of a piece and what is to come behind it, a piece is sent
came_on : (a b c : Option (List ℕ)) (all piece mid rest : List ℕ) → CameSoFar a all (piece ++ rest) b → CameSoFar b (piece ++ []) mid c → CameSoFar a all (mid ++ rest) c
came_on a b c all piece mid rest far next = record {
  front = far.front ++ next.front;
  grows = grows_then a b c far.front next.front far.grows next.grows;
  whole = append_assoc far.front next.front (mid ++ rest)
      ∙ (ap (λ t. far.front ++ t) (sym (append_assoc next.front mid rest) ∙ ap (λ t. t ++ rest) (next.whole ∙ append-nil piece)) ∙ far.whole);
}

pub sizes_more : (a b c : Option (List ℕ)) (first cells piece mid left : List ℕ) (at count : ℕ) (size : Size)
    → sizes_of (drop at cells) ≡ size ∷ sizes_of (drop (at + count) cells)
    → SizesSoFar a first cells piece at b → CameSoFar b (piece ++ []) mid c → left ≡ mid ++ size_line size
    → SizesSoFar a first cells left (at + count) c
sizes_more a b c first cells piece mid left at count size is far next put =
    let rest = flat_map size_line (sizes_of (drop (at + count) cells)) in
    subst (λ t. CameSoFar a (first ++ flat_map size_line (sizes_of cells)) t c)
    (ap (λ (sizes : List Size). mid ++ flat_map size_line sizes) is ∙ (sym (append_assoc mid (size_line size) rest) ∙ ap (λ t. t ++ rest) (sym put)))
    (came_on a b c (first ++ flat_map size_line (sizes_of cells)) piece mid (flat_map size_line (sizes_of (drop at cells))) far next)

pub sizes_cut : (a b c : Option (List ℕ)) (first cells piece : List ℕ) (at : ℕ)
    → SizesSoFar a first cells piece at b → CameInFront b (piece ++ []) c → CameInFront a (first ++ flat_map size_line (sizes_of cells)) c
sizes_cut a b c first cells piece at far front = record {
  rest = front.rest ++ flat_map size_line (sizes_of (drop at cells));
  so_far = came_on a b c (first ++ flat_map size_line (sizes_of cells)) piece front.rest (flat_map size_line (sizes_of (drop at cells))) far front.so_far;
}

pub sizes_done : (before now : Option (List ℕ)) (first cells piece : List ℕ) (at : ℕ) → length cells ≤ at
    → SizesSoFar before first cells piece at now → CameSoFar before (first ++ flat_map size_line (sizes_of cells)) piece now
sizes_done before now first cells piece at all far =
    subst (λ rest. CameSoFar before (first ++ flat_map size_line (sizes_of cells)) rest now)
    (ap (λ l. piece ++ flat_map size_line (sizes_of l)) (drop_all at cells all) ∙ append-nil piece) far

-- ---- the block

pub sizes_sent : {T E : Type 0} (result : Result T E) (a b c : Option (List ℕ)) (name head left : List ℕ) (sizes : List Size)
    → head ≡ codes "dist " ++ (name ++ codes "\n") → CameSoFar a (head ++ flat_map size_line sizes) left b → Sends b (left ++ codes "end\n") result c
    → Sends a (dist_lines name sizes) result c
unfolding dist_lines
sizes_sent result a b c name head left sizes is far sent =
    subst (λ h. Sends a (h ++ (flat_map size_line sizes ++ codes "end\n")) result c) is
    (block_sent result a b c head (flat_map size_line sizes) (codes "end\n") left far sent)

pub sizes_unsent : {T E : Type 0} (result : Result T E) (a b : Option (List ℕ)) (name head : List ℕ) (sizes : List Size) → IsErr result
    → head ≡ codes "dist " ++ (name ++ codes "\n") → CameInFront a (head ++ flat_map size_line sizes) b → Sends a (dist_lines name sizes) result b
unfolding dist_lines
sizes_unsent result a b name head sizes failed is front =
    subst (λ h. Sends a (h ++ (flat_map size_line sizes ++ codes "end\n")) result b) is
    (sends_at_err result a b (head ++ (flat_map size_line sizes ++ codes "end\n")) failed (block_cut a b head (flat_map size_line sizes) (codes "end\n") (omega arith) front))

-- ---- the task

abbrev dist_of : PlacedTask → Contents → List ℕ
dist_of placed told = dist_lines placed.task.name (sizes_of (row_of (rows_contents told Live placed) 0))

pub dist_sent : {T E : Type 0} (result : Result T E) (cells : Option Contents) (a b : Option (List ℕ)) (placed : PlacedTask) (read sorted : List ℕ) → 0 < length placed.places
    → sizes_of sorted ≡ sizes_of read → IfSome cells (λ told. read ≡ row_contents told Live (place_at placed 0))
    → Sends a (dist_lines placed.task.name (sizes_of sorted)) result b → IfSome cells (λ told. IfOk (lines_of_dist (part_in told placed)) (λ lines. Sends a lines result b))
dist_sent result cells a b placed read sorted some same is sent =
    told_then cells (λ told. read ≡ row_contents told Live (place_at placed 0)) (λ told. IfOk (lines_of_dist (part_in told placed)) (λ lines. Sends a lines result b))
    (λ told p. dist_answered (part_in told placed) (λ lines. Sends a lines result b) (subst (λ t. Sends a t result b)
    (ap (dist_lines placed.task.name) (same ∙ ap sizes_of (p ∙ sym (row_first told placed some)))) sent)) is

some_dist : (placed : PlacedTask) (told : Contents) → 0 < length (dist_of placed told)
unfolding dist_lines
some_dist placed told = omega arith

pub dist_unsent : {T E : Type 0} (result : Result T E) (cells : Option Contents) (a : Option (List ℕ)) (placed : PlacedTask) → IsErr result
    → IfSome cells (λ told. IfOk (lines_of_dist (part_in told placed)) (λ lines. Sends a lines result a))
dist_unsent result cells a placed failed =
    told_all cells (λ told. IfOk (lines_of_dist (part_in told placed)) (λ lines. Sends a lines result a))
    (λ told. dist_answered (part_in told placed) (λ lines. Sends a lines result a) (sends_at_err result a a (dist_of placed told) failed (none_in_part a a (dist_of placed told) (some_dist placed told) (stays_same a))))

-- ---- the room

pub room_for : (found : Option PlacedTask) (bits room : ℕ) → IfSome found (λ placed. live_bits placed ≤ bits) → 2 ^ bits ≤ room
    → IfSome found (λ placed. 2 ^ live_bits placed ≤ room)
room_for None bits room enough has = tt
room_for (Some placed) bits room enough has = omega (arith, power_le (live_bits placed) bits enough, has)
