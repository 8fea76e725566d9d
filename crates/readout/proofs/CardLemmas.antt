-- The tally of a row, one cell after the other.
use Rattle.std.proofs.Common.{◌≡◌, ℕ, ◌+◌, ◌-◌, ◌*◌, ◌^◌, ◌<◌, ◌≤◌, ◌==◌, List, [], length, take, Option, Result, None, Some, IfSome, IfOk, refl, ap, ap₂, sym, ◌∙◌, subst, arith}
use Rattle.std.specs.Result.{IsErr}
use Rattle.std.proofs.lemmas.Bool.{cond_both}
use Rattle.std.proofs.lemmas.List.{get_or-map, take_all}
use Rattle.std.proofs.lemmas.Nat.{pow_pos, pow-add}
use Rattle.outside.specs.Told.{Stays}
use Rattle.outside.specs.Sent.{Sends}
use Rattle.outside.proofs.SentLemmas.{none_in_part}
use Rattle.outside.proofs.ToldLemmas.{stays_same}
use Rattle.reg_file.specs.Registers.{Contents}
use Rattle.sketch_defs.specs.Answers.{zero_share, rank_share, zeros_of, z_of, raw_of}
use Rattle.sketch_defs.specs.Cells.{row_of}
use Rattle.sketch_defs.proofs.TallyLemmas.{zeros_more, z_more}
use Rattle.readout.specs.declared.views.Placed.{Placed}
use Rattle.readout.specs.declared.views.Side.TheVariants.{Live}
use Rattle.readout.specs.PlacedTasks.{PlacedTask, part_in, no_place, place_at, live_bits, register_at, row_contents, rows_contents}
use Rattle.readout.specs.Lines.{card_line}
use Rattle.readout.specs.Answers.{line_of_card}
use Rattle.readout.proofs.AnswerLemmas.{card_answered}
use Rattle.readout.proofs.PieceLemmas.{sends_at_err}
use Rattle.readout.proofs.ToldLemmas.{told_more, told_all, told_then, both_told}
use Rattle.readout.proofs.CellLemmas.{length_row, row_at}

-- ---- the row

pub row_whole : (told : Contents) (place : Placed) (index : ℕ) → index ≡ 2 ^ place.region.bits → take index (row_contents told Live place) ≡ row_contents told Live place
row_whole told place index all = take_all index (row_contents told Live place) (omega (arith, length_row told Live place))

pub row_first : (told : Contents) (placed : PlacedTask) → 0 < length placed.places
    → row_of (rows_contents told Live placed) 0 ≡ row_contents told Live (place_at placed 0)
unfolding rows_contents
row_first told placed some = get_or-map (row_contents told Live) placed.places 0 no_place [] some

-- ---- the tally so far

abbrev pub CellAt : Placed → ℕ → ℕ → Contents → Type 0
CellAt place index cell told = cell ≡ register_at told Live place index

abbrev pub ZerosSoFar : ℕ → Placed → ℕ → Contents → Type 0
ZerosSoFar count place index told = count ≡ zeros_of (take index (row_contents told Live place))

abbrev pub ZSoFar : ℕ → Placed → ℕ → Contents → Type 0
ZSoFar z place index told = z ≡ z_of (take index (row_contents told Live place))

pub zeros_step : (one two : Option Contents) (place : Placed) (count index cell : ℕ) → index < 2 ^ place.region.bits → Stays one two
    → IfSome one (ZerosSoFar count place index) → IfSome two (CellAt place index cell) → IfSome two (ZerosSoFar (count + zero_share cell) place (index + 1))
zeros_step one two place count index cell inside same far here =
    told_more one two (ZerosSoFar count place index) (CellAt place index cell) (ZerosSoFar (count + zero_share cell) place (index + 1)) same
    (λ told p q. let long : index < length (row_contents told Live place) = omega (arith, length_row told Live place) in
    ap₂ (λ (n : ℕ) (m : ℕ). n + m) p (ap zero_share (q ∙ sym (row_at told Live place index inside))) ∙ sym (zeros_more (row_contents told Live place) index long))
    far here

pub z_step : (one two : Option Contents) (place : Placed) (z index cell : ℕ) → index < 2 ^ place.region.bits → Stays one two
    → IfSome one (ZSoFar z place index) → IfSome two (CellAt place index cell) → IfSome two (ZSoFar (z + rank_share cell) place (index + 1))
z_step one two place z index cell inside same far here =
    told_more one two (ZSoFar z place index) (CellAt place index cell) (ZSoFar (z + rank_share cell) place (index + 1)) same
    (λ told p q. let long : index < length (row_contents told Live place) = omega (arith, length_row told Live place) in
    ap₂ (λ (n : ℕ) (m : ℕ). n + m) p (ap rank_share (q ∙ sym (row_at told Live place index inside))) ∙ sym (z_more (row_contents told Live place) index long))
    far here

pub zeros_start : (cells : Option Contents) (place : Placed) → IfSome cells (ZerosSoFar 0 place 0)
zeros_start cells place = told_all cells (ZerosSoFar 0 place 0) (λ told. refl)

pub z_start : (cells : Option Contents) (place : Placed) → IfSome cells (ZSoFar 0 place 0)
z_start cells place = told_all cells (ZSoFar 0 place 0) (λ told. refl)

pub zeros_done : (cells : Option Contents) (place : Placed) (count index : ℕ) → index ≡ 2 ^ place.region.bits → IfSome cells (ZerosSoFar count place index)
    → IfSome cells (λ told. count ≡ zeros_of (row_contents told Live place))
zeros_done cells place count index all far =
    told_then cells (ZerosSoFar count place index) (λ told. count ≡ zeros_of (row_contents told Live place)) (λ told p. p ∙ ap zeros_of (row_whole told place index all)) far

pub z_done : (cells : Option Contents) (place : Placed) (z index : ℕ) → index ≡ 2 ^ place.region.bits → IfSome cells (ZSoFar z place index)
    → IfSome cells (λ told. z ≡ z_of (row_contents told Live place))
z_done cells place z index all far =
    told_then cells (ZSoFar z place index) (λ told. z ≡ z_of (row_contents told Live place)) (λ told p. p ∙ ap z_of (row_whole told place index all)) far

-- ---- ranges

pub zero_share_few : (cell : ℕ) → zero_share cell ≤ 1
zero_share_few cell = cond_both (cell == 0) 1 0 (λ n. n ≤ 1) (λ e. omega arith) (λ e. omega arith)

pub rank_share_some : (cell : ℕ) → 1 ≤ rank_share cell
rank_share_some cell = pow_pos (33 - cell)

pub z_fits : (z size bits : ℕ) → size ≡ 2 ^ bits → z ≤ size * 2 ^ 33 → z ≤ 2 ^ (33 + bits)
z_fits z size bits is high = omega (arith, pow-add 2 33 bits, ap (λ n. n * 2 ^ 33) is)

-- ---- the line

abbrev card_of : PlacedTask → Contents → List ℕ
card_of placed told =
    let cells = row_of (rows_contents told Live placed) 0 in
    card_line placed.task.name (zeros_of cells) (z_of cells) (raw_of (live_bits placed) (z_of cells))

card_as : (told : Contents) (placed : PlacedTask) (line : List ℕ) (count z : ℕ) → 0 < length placed.places
    → line ≡ card_line placed.task.name count z (raw_of (live_bits placed) z)
    → count ≡ zeros_of (row_contents told Live (place_at placed 0)) → z ≡ z_of (row_contents told Live (place_at placed 0))
    → line ≡ card_of placed told
card_as told placed line count z some is are sums =
    let row = row_first told placed some in
    is ∙ ap₂ (λ n m. card_line placed.task.name n m (raw_of (live_bits placed) m)) (are ∙ ap zeros_of (sym row)) (sums ∙ ap z_of (sym row))

pub card_sent : {T E : Type 0} (result : Result T E) (cells : Option Contents) (a b : Option (List ℕ)) (placed : PlacedTask) (line : List ℕ) (count z : ℕ) → 0 < length placed.places
    → line ≡ card_line placed.task.name count z (raw_of (live_bits placed) z)
    → IfSome cells (λ told. count ≡ zeros_of (row_contents told Live (place_at placed 0)))
    → IfSome cells (λ told. z ≡ z_of (row_contents told Live (place_at placed 0)))
    → Sends a line result b → IfSome cells (λ told. IfOk (line_of_card (part_in told placed)) (λ l. Sends a l result b))
card_sent result cells a b placed line count z some is are sums sent =
    told_then cells (λ told. (count ≡ zeros_of (row_contents told Live (place_at placed 0))) × (z ≡ z_of (row_contents told Live (place_at placed 0))))
    (λ told. IfOk (line_of_card (part_in told placed)) (λ l. Sends a l result b))
    (λ told p. card_answered (part_in told placed) (λ l. Sends a l result b) (subst (λ t. Sends a t result b) (card_as told placed line count z some is p.0 p.1) sent))
    (both_told cells (λ told. count ≡ zeros_of (row_contents told Live (place_at placed 0))) (λ told. z ≡ z_of (row_contents told Live (place_at placed 0))) are sums)

some_card : (placed : PlacedTask) (told : Contents) → 0 < length (card_of placed told)
unfolding card_line
some_card placed told = omega arith

pub card_unsent : {T E : Type 0} (result : Result T E) (cells : Option Contents) (a : Option (List ℕ)) (placed : PlacedTask) → IsErr result
    → IfSome cells (λ told. IfOk (line_of_card (part_in told placed)) (λ l. Sends a l result a))
card_unsent result cells a placed failed =
    told_all cells (λ told. IfOk (line_of_card (part_in told placed)) (λ l. Sends a l result a))
    (λ told. card_answered (part_in told placed) (λ l. Sends a l result a) (sends_at_err result a a (card_of placed told) failed (none_in_part a a (card_of placed told) (some_card placed told) (stays_same a))))
