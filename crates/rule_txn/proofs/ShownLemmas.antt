-- The view that a switch shows fits together, and over registers that stand for tasks it shows their parts.
use Rattle.std.proofs.Common.{◌≡◌, ℕ, ◌^◌, ◌<◌, ◌≤◌, ◌&&◌, Bool, true, false, List, [], ◌∷◌, length, get_or, map, refl, ap, ap₂, sym, ◌∙◌, subst, arith, inl, inr}
use Rattle.std.specs.Prelude.{◌⊎◌, nat_le, cond, Option, None, Some, IfSome, IsSome, option_map, unwrap_or}
use Rattle.std.specs.Str.{bytes_eq}
use Rattle.std.specs.List.{All, find}
use Rattle.std.proofs.Math.Pow.{pow-lt}
use Rattle.std.proofs.lemmas.Bool.{cases_lt}
use Rattle.std.proofs.lemmas.Bool.Decides.{nat_tests}
use Rattle.std.proofs.lemmas.List.Elements.{All-head, All-tail, All-map, All-weaker}
use Rattle.addr_translate.specs.Blocks.{Block}
use Rattle.addr_translate.specs.Geometry.{Geometry, bits_of, greatest_bits}
use Rattle.addr_translate.proofs.GeometryLemmas.{bits_within}
use Rattle.reg_file.specs.Registers.{Contents}
use Rattle.sketch_defs.specs.declared.kinds.Kind.{Kind}
use Rattle.sketch_defs.specs.declared.kinds.Kind.TheVariants.{Hll}
use Rattle.sketch_defs.specs.Tasks.{Sketch}
use Rattle.sketch_defs.specs.Cells.{cells_of}
use Rattle.sketch_defs.proofs.TaskLemmas.{some_rows}
use Rattle.sketch_lower.proofs.CellLemmas.{length-cells}
use Rattle.placer.specs.Sights.{bits_for, smallest_bits, least_cells}
use Rattle.placer.proofs.SightLemmas.{IsSize, size_is}
use Rattle.switch_model.specs.Records.{Past, Part, Row, Record, Outline, outline, outlines}
use Rattle.switch_model.specs.Soundness.{IsRow, IsTask, IsPartOf, size_of, Sound}
use Rattle.switch_model.specs.Histories.{has_name, part_of}
use Rattle.switch_model.specs.Packets.{Stand, HoldsCells, Layout, live_stands, frozen_stands, past_stands, stands_by, all_stands}
use Rattle.switch_model.proofs.ListLemmas.{all_unflat, all_front, all_back, length_map}
use Rattle.switch_model.proofs.CallLemmas.{and_parts}
use Rattle.readout.specs.declared.views.Side.TheVariants.{Live, Frozen}
use Rattle.readout.specs.Parts.{Rows, SketchPart}
use Rattle.readout.specs.Answers.{part_named}
use Rattle.readout.specs.PlacedTasks.{no_place, place_at, rows_of_side, PlacedTask, IsPlaced, IsPlacedTask, IsFit, LiesIn, AreWithin, live_bits, frozen_bits, frozen_bits_in, row_contents, rows_contents, part_in, parts_in}
use Rattle.rule_txn.specs.Switch.{SwitchState}
use Rattle.rule_txn.specs.Seen.{StandsFor, placed_row, placed_task, view_of, bits_in, rows_shown, past_shown, part_shown, parts_shown}
use Rattle.rule_txn.proofs.ShownRows.{same_power, bits_are, whole_rows, LiveBits, live_reads, FrozenBits, frozen_reads}

-- ---- sizes of a sound task's rows

live_same : (geometry : Geometry) (o : Outline) (bits : ℕ) → 2 ^ bits ≡ o.task.size → (row : Row) → IsRow geometry o row → LiveBits bits row
live_same geometry o bits is row sound = same_power row.region.bits bits (sound.live_size ∙ sym is)

same_size : (one : Option Block) (size bits : ℕ) → option_map size_of one ≡ Some size → 2 ^ bits ≡ size
    → option_map (λ (b : Block). b.bits) one ≡ Some bits
same_size None size bits e is = absurd (cc)
same_size (Some region) size bits e is =
    let here : 2 ^ region.bits ≡ size = cc in ap Some (same_power region.bits bits (here ∙ sym is))

same_sizes : (one two : Option Block) → option_map size_of one ≡ option_map size_of two
    → option_map (λ (b : Block). b.bits) one ≡ option_map (λ (b : Block). b.bits) two
same_sizes None None e = refl
same_sizes None (Some region) e = absurd (cc)
same_sizes (Some region) None e = absurd (cc)
same_sizes (Some one) (Some two) e =
    let here : 2 ^ one.bits ≡ 2 ^ two.bits = cc in ap Some (same_power one.bits two.bits here)

-- ---- the view fits together

lies_in : (geometry : Geometry) (array : ℕ) (frozen : Option Block) → IfSome frozen (IsPartOf geometry array) → IfSome frozen (LiesIn geometry array)
lies_in geometry array None is = tt
lies_in geometry array (Some region) is = let part : IsPartOf geometry array region = is in part.inside

row_placed : (geometry : Geometry) (o : Outline) (first row : Row) → IsRow geometry o first → IsRow geometry o row
    → IsPlaced geometry first.region.bits (frozen_bits_in (placed_row first)) (placed_row row)
row_placed geometry o first row one two = record {
  array = two.array;
  region = two.live.inside;
  bits_are = same_power row.region.bits first.region.bits (two.live_size ∙ sym one.live_size);
  frozen_region = lies_in geometry row.array row.frozen two.frozen;
  frozen_size = same_sizes row.frozen first.frozen (two.frozen_size ∙ sym one.frozen_size);
}

least_of : (kind : Kind) (bits : ℕ) → kind ≡ Hll → least_cells kind ≤ bits → 4 ≤ bits
least_of kind bits is few = subst (λ k. least_cells k ≤ bits) is few

ranks : (geometry : Geometry) (task : Sketch) (bits : ℕ) → 2 ^ bits ≡ task.size → (found : Option ℕ) → bits_for geometry task.kind task.size ≡ found → IsSome found
    → task.kind ≡ Hll → 4 ≤ bits
ranks geometry task bits is None e some hll = absurd (cc)
ranks geometry task bits is (Some b) e some hll =
    let size : IsSize geometry task.kind task.size b = size_is geometry task.kind task.size b e in
    let one = and_parts (nat_le (smallest_bits geometry) b) (nat_le b (greatest_bits geometry) && nat_le (least_cells task.kind) b) size.allowed in
    let two = and_parts (nat_le b (greatest_bits geometry)) (nat_le (least_cells task.kind) b) one.1 in
    let low : least_cells task.kind ≤ b = grind (arith, nat_tests, two.1) in
    let same : b ≡ bits = same_power b bits (size.power ∙ sym is) in
    least_of task.kind bits hll (omega (arith, low, same))

task_placed : (geometry : Geometry) (task : Sketch) (frozen : Option ℕ) (rows : List Row)
    → IsTask geometry (let o : Outline = record { task = task; frozen = frozen; rows = rows } in o)
    → IsPlacedTask geometry (placed_task (let o : Outline = record { task = task; frozen = frozen; rows = rows } in o))
task_placed geometry task frozen [] is = absurd (omega (arith, is.rows, some_rows task is.allowed))
task_placed geometry task frozen (first ∷ rows) is =
    let o : Outline = record { task = task; frozen = frozen; rows = first ∷ rows } in
    let one : IsRow geometry o first = All-head (IsRow geometry o) first rows is.each in
    record {
      rows = length_map placed_row (first ∷ rows) ∙ is.rows;
      places = All-map (IsPlaced geometry first.region.bits (frozen_bits_in (placed_row first))) placed_row (first ∷ rows)
          (All-weaker (IsRow geometry o) (λ row. IsPlaced geometry first.region.bits (frozen_bits_in (placed_row first)) (placed_row row))
          (λ row two. row_placed geometry o first row one two) (first ∷ rows) is.each);
      size = sym one.live_size;
      most = one.live.aligned.small;
      ranks = ranks geometry task first.region.bits one.live_size (bits_for geometry task.kind task.size) refl is.size;
    }

-- the view of sound tasks
pub view_fits : (state : SwitchState) → Sound state.geometry state.outlines → IsFit (view_of state)
view_fits state sound =
    All-map (IsPlacedTask state.geometry) placed_task state.outlines
    (All-weaker (IsTask state.geometry) (λ o. IsPlacedTask state.geometry (placed_task o)) (λ o is. task_placed state.geometry o.task o.frozen o.rows is)
    state.outlines sound.tasks)

-- ---- the parts of tasks

rows_told : (bits one : ℕ) (xs ys : List (List ℕ)) → bits ≡ one → xs ≡ ys
    → (let a : Rows = record { bits = bits; cells = xs } in a) ≡ record { bits = one; cells = ys }
rows_told bits one xs ys e f = ap₂ (λ (b : ℕ) (c : List (List ℕ)). (let a : Rows = record { bits = b; cells = c } in a)) e f

live_told : (geometry : Geometry) (hash_key : List ℕ) (contents : Contents) (part : Part) (rows : List Row) (bits : ℕ)
    → IsTask geometry (outline (let r : Record = record { part = part; rows = rows } in r)) → 2 ^ bits ≡ part.task.size → bits ≤ 20
    → All (HoldsCells hash_key contents) (live_stands part 0 None rows)
    → map (row_contents contents Live) (map placed_row rows) ≡ cells_of hash_key part.task bits part.packets
live_told geometry hash_key contents part rows bits is size few holds =
    let o : Outline = outline (let r : Record = record { part = part; rows = rows } in r) in
    live_reads hash_key contents part bits 0 None rows few (omega (arith, is.rows))
    (All-weaker (IsRow geometry o) (LiveBits bits) (λ row sound. live_same geometry o bits size row sound) rows is.each) holds
    ∙ whole_rows (cells_of hash_key part.task bits part.packets) (length rows) (length-cells hash_key part.task bits part.packets ∙ sym is.rows)

frozen_told : (geometry : Geometry) (hash_key : List ℕ) (contents : Contents) (part : Part) (past : Past) (rows : List Row) (bits : ℕ)
    → IsTask geometry (outline (let r : Record = record { part = part; rows = rows } in r)) → part.past ≡ Some past → 2 ^ bits ≡ past.size → bits ≤ 20
    → All (HoldsCells hash_key contents) (frozen_stands part past 0 rows)
    → map (row_contents contents Frozen) (map placed_row rows) ≡ cells_of hash_key part.task bits past.packets
frozen_told geometry hash_key contents part past rows bits is has size few holds =
    let o : Outline = outline (let r : Record = record { part = part; rows = rows } in r) in
    frozen_reads hash_key contents part past bits 0 rows few (omega (arith, is.rows))
    (All-weaker (IsRow geometry o) (FrozenBits bits)
    (λ row sound. same_size row.frozen past.size bits (sound.frozen_size ∙ ap (option_map (λ (p : Past). p.size)) has) size) rows is.each) holds
    ∙ whole_rows (cells_of hash_key part.task bits past.packets) (length rows) (length-cells hash_key part.task bits past.packets ∙ sym is.rows)

frozen_shown : (geometry : Geometry) (hash_key : List ℕ) (contents : Contents) (part : Part) (first : Row) (rows : List Row)
    → IsTask geometry (outline (let r : Record = record { part = part; rows = first ∷ rows } in r))
    → (past : Option Past) (frozen : Option Block) → part.past ≡ past → first.frozen ≡ frozen
    → option_map size_of frozen ≡ option_map (λ (p : Past). p.size) past → IfSome frozen (IsPartOf geometry first.array)
    → All (HoldsCells hash_key contents) (past_stands part past (first ∷ rows))
    → option_map (λ (block : Block). rows_of_side contents Frozen (placed_task (outline (let r : Record = record { part = part; rows = first ∷ rows } in r)))) frozen
    ≡ option_map (past_shown hash_key part.task) past
unfolding rows_contents
frozen_shown geometry hash_key contents part first rows is None None e f size partition holds = refl
frozen_shown geometry hash_key contents part first rows is None (Some region) e f size partition holds = absurd (cc)
frozen_shown geometry hash_key contents part first rows is (Some past) None e f size partition holds = absurd (cc)
frozen_shown geometry hash_key contents part first rows is (Some past) (Some region) e f size partition holds =
    let here : 2 ^ region.bits ≡ past.size = cc in
    let stands : IsPartOf geometry first.array region = partition in
    let few : region.bits ≤ 20 = stands.aligned.small in
    let bits : region.bits ≡ bits_in past.size = sym (bits_are past.size region.bits here few) in
    ap Some (rows_told (unwrap_or first.frozen first.region).bits (bits_in past.size)
    (map (row_contents contents Frozen) (map placed_row (first ∷ rows))) (cells_of hash_key part.task (bits_in past.size) past.packets)
    (ap (λ (o : Option Block). (unwrap_or o first.region).bits) f ∙ bits)
    (frozen_told geometry hash_key contents part past (first ∷ rows) region.bits is e here few holds
    ∙ ap (λ b. cells_of hash_key part.task b past.packets) bits))

part_told : (task : Sketch) (a b : Rows) (c d : Option Rows) → a ≡ b → c ≡ d
    → (let p : SketchPart = record { task = task; live = a; frozen = c } in p) ≡ record { task = task; live = b; frozen = d }
part_told task a b c d e f = ap₂ (λ (x : Rows) (y : Option Rows). (let p : SketchPart = record { task = task; live = x; frozen = y } in p)) e f

task_told : (geometry : Geometry) (hash_key : List ℕ) (contents : Contents) (part : Part) (rows : List Row)
    → IsTask geometry (outline (let r : Record = record { part = part; rows = rows } in r))
    → All (HoldsCells hash_key contents) (stands_by (let r : Record = record { part = part; rows = rows } in r))
    → part_in contents (placed_task (outline (let r : Record = record { part = part; rows = rows } in r))) ≡ part_shown hash_key part
unfolding rows_contents
task_told geometry hash_key contents part [] is holds = absurd (omega (arith, is.rows, some_rows part.task is.allowed))
task_told geometry hash_key contents part (first ∷ rows) is holds =
    let r : Record = record { part = part; rows = first ∷ rows } in
    let one : IsRow geometry (outline r) first = All-head (IsRow geometry (outline r)) first rows is.each in
    let few : first.region.bits ≤ 20 = one.live.aligned.small in
    let bits : first.region.bits ≡ bits_in part.task.size = sym (bits_are part.task.size first.region.bits one.live_size few) in
    let live : List Stand = live_stands part 0 None (first ∷ rows) in
    let frozen : List Stand = past_stands part part.past (first ∷ rows) in
    part_told part.task (rows_of_side contents Live (placed_task (outline r))) (rows_shown hash_key part.task part.task.size part.packets)
    (option_map (λ (block : Block). rows_of_side contents Frozen (placed_task (outline r))) first.frozen) (option_map (past_shown hash_key part.task) part.past)
    (rows_told first.region.bits (bits_in part.task.size)
    (map (row_contents contents Live) (map placed_row (first ∷ rows))) (cells_of hash_key part.task (bits_in part.task.size) part.packets) bits
    (live_told geometry hash_key contents part (first ∷ rows) first.region.bits is one.live_size few (all_front (HoldsCells hash_key contents) live frozen holds)
    ∙ ap (λ b. cells_of hash_key part.task b part.packets) bits))
    (frozen_shown geometry hash_key contents part first rows is part.past first.frozen refl refl one.frozen_size one.frozen
    (all_back (HoldsCells hash_key contents) live frozen holds))

parts_told : (geometry : Geometry) (hash_key : List ℕ) (contents : Contents) (records : List Record) → All (IsTask geometry) (outlines records)
    → All (λ r. All (HoldsCells hash_key contents) (stands_by r)) records
    → map (part_in contents) (map placed_task (outlines records)) ≡ parts_shown hash_key records
parts_told geometry hash_key contents [] each holds = refl
parts_told geometry hash_key contents (r ∷ rs) each holds =
    ap₂ (λ x xs. x ∷ xs)
    (task_told geometry hash_key contents r.part r.rows (All-head (IsTask geometry) (outline r) (outlines rs) each)
    (All-head (λ r. All (HoldsCells hash_key contents) (stands_by r)) r rs holds))
    (parts_told geometry hash_key contents rs (All-tail (IsTask geometry) (outline r) (outlines rs) each)
    (All-tail (λ r. All (HoldsCells hash_key contents) (stands_by r)) r rs holds))

by_records : (hash_key : List ℕ) (contents : Contents) (records : List Record) → Layout hash_key records contents
    → All (λ r. All (HoldsCells hash_key contents) (stands_by r)) records
unfolding all_stands
by_records hash_key contents records laid = all_unflat (HoldsCells hash_key contents) stands_by records laid

-- over registers that stand for tasks read-outs see the parts of these tasks, wherever they stand
pub parts_seen : (state : SwitchState) (records : List Record) (contents : Contents) → StandsFor state records contents
    → parts_in contents (view_of state) ≡ parts_shown state.hash_key records
parts_seen state records contents for =
    ap (λ os. map (part_in contents) (map placed_task os)) for.same
    ∙ parts_told state.geometry state.hash_key contents records for.sound.tasks (by_records state.hash_key contents records for.laid)

-- ---- room for a row

fits_within : (geometry : Geometry) (bits array : ℕ) (region : Block) → LiesIn geometry array region → region.bits ≡ bits → bits ≤ greatest_bits geometry
fits_within geometry bits array region lies is = by (cases_lt (greatest_bits geometry) bits) where
  by : (greatest_bits geometry < bits) ⊎ (bits ≤ greatest_bits geometry) → bits ≤ greatest_bits geometry
  by (inr le) = le
  by (inl less) =
      let wide : 2 ^ bits_of geometry array < 2 ^ bits = pow-lt (let most = bits_within geometry array in omega arith) in
      let same : 2 ^ region.bits ≡ 2 ^ bits = ap (λ b. 2 ^ b) is in
      absurd (omega (arith, lies, wide, same))

-- no row of a view that fits has more cells than the largest array has registers
pub fit_within : (geometry : Geometry) (tasks : List PlacedTask) → All (IsPlacedTask geometry) tasks → All (λ placed. 1 ≤ placed.task.rows) tasks
    → All (λ placed. live_bits placed ≤ greatest_bits geometry) tasks
fit_within geometry tasks fit some k d within =
    let placed : PlacedTask = get_or tasks k d in
    let is : IsPlacedTask geometry placed = fit k d within in
    let one : IsPlaced geometry (live_bits placed) (frozen_bits placed) (place_at placed 0) =
    is.places 0 no_place (omega (arith, is.rows, some k d within)) in
    fits_within geometry (live_bits placed) (place_at placed 0).array (place_at placed 0).region one.region one.bits_are

pub view_within : (state : SwitchState) → Sound state.geometry state.outlines → AreWithin (greatest_bits state.geometry) (view_of state)
view_within state sound =
    fit_within state.geometry (map placed_task state.outlines) (view_fits state sound)
    (All-map (λ (placed : PlacedTask). 1 ≤ placed.task.rows) placed_task state.outlines
    (All-weaker (IsTask state.geometry) (λ (o : Outline). 1 ≤ o.task.rows) (λ o is. some_rows o.task is.allowed) state.outlines sound.tasks))
