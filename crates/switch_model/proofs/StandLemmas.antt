-- Rows with their packets, and the regions and entries of the same rows.
use Rattle.std.proofs.Common.{◌≡◌, ℕ, ◌+◌, ◌<◌, ◌&&◌, Bool, true, false, cond, List, [], ◌∷◌, ◌++◌, length, map, filter, refl, ap, ap₂, sym, ◌∙◌, arith}
use Rattle.std.specs.Prelude.{Option, None, Some, IfSome, option_map, if◌then◌else◌}
use Rattle.std.specs.List.{All, cons_option, filter_map, flat_map}
use Rattle.std.proofs.lemmas.List.{append-nil}
use Rattle.std.proofs.lemmas.List.Elements.{All-nil, All-cons, All-head, All-tail, All-append, All-weaker, filter-append}
use Rattle.addr_translate.specs.Blocks.{Block}
use Rattle.addr_translate.specs.Geometry.{Geometry, array_count}
use Rattle.pkt_headers.specs.declared.packets.Packet.{Packet}
use Rattle.task_filters.specs.Filters.{passes}
use Rattle.sketch_defs.specs.Tasks.{Sketch}
use Rattle.sketch_lower.specs.Lowering.{entry_of}
use Rattle.switch_model.specs.Records.{Past, Part, Row, Record, Outline, outline, outlines, frozen_size}
use Rattle.switch_model.specs.Sights.{Holding, live_holding, frozen_in, frozen_holding, held_by, all_held, Spot, before_of, spot_of, spots_from, spots_by, all_spots}
use Rattle.switch_model.specs.Soundness.{IsTask, IsRow, IsPartOf, size_of}
use Rattle.switch_model.specs.Packets.{joined_part, joined, join, Stand, live_stand, live_stands, frozen_stand, frozen_stands, past_stands, stands_by, all_stands}
use Rattle.switch_model.proofs.ListLemmas.{map_append}

-- ---- regions

abbrev pub holding_of : Stand → Holding
holding_of s = record { array = s.array; region = s.region }

abbrev pub is_live : Stand → Bool
is_live s = s.live

live_regions : (part : Part) (i : ℕ) (before : Option ℕ) (rows : List Row) → map holding_of (live_stands part i before rows) ≡ map live_holding rows
live_regions part i before [] = refl
live_regions part i before (row ∷ rows) = ap (λ hs. live_holding row ∷ hs) (live_regions part (i + 1) (Some row.array) rows)

one_frozen : (part : Part) (past : Past) (i : ℕ) (row : Row) (frozen : Option Block) (hs : List Holding) (ss : List Stand) → map holding_of ss ≡ hs
    → map holding_of (frozen_stand part past i row frozen ++ ss) ≡ cons_option (frozen_in row.array frozen) hs
one_frozen part past i row None hs ss e = e
one_frozen part past i row (Some region) hs ss e = ap (λ hs. (let h : Holding = record { array = row.array; region = region } in h) ∷ hs) e

frozen_regions : (part : Part) (past : Past) (i : ℕ) (rows : List Row) → map holding_of (frozen_stands part past i rows) ≡ filter_map frozen_holding rows
frozen_regions part past i [] = refl
frozen_regions part past i (row ∷ rows) =
    one_frozen part past i row row.frozen (filter_map frozen_holding rows) (frozen_stands part past (i + 1) rows) (frozen_regions part past (i + 1) rows)

-- rows of a task that froze nothing have frozen nothing
pub none_frozen : (rows : List Row) → All (λ (row : Row). row.frozen ≡ None) rows → filter_map frozen_holding rows ≡ []
none_frozen [] none = refl
none_frozen (row ∷ rows) none =
    ap (λ frozen. cons_option (frozen_in row.array frozen) (filter_map frozen_holding rows)) (All-head (λ (row : Row). row.frozen ≡ None) row rows none)
    ∙ none_frozen rows (All-tail (λ (row : Row). row.frozen ≡ None) row rows none)

pub no_size : (frozen : Option Block) → option_map size_of frozen ≡ None → frozen ≡ None
no_size None e = refl
no_size (Some region) e = cc

past_regions : (geometry : Geometry) (part : Part) (past : Option Past) (rows : List Row)
    → All (λ (row : Row). option_map size_of row.frozen ≡ option_map (λ (past : Past). past.size) past) rows
    → map holding_of (past_stands part past rows) ≡ filter_map frozen_holding rows
past_regions geometry part None rows each =
    sym (none_frozen rows (All-weaker (λ (row : Row). option_map size_of row.frozen ≡ None) (λ (row : Row). row.frozen ≡ None) (λ row e. no_size row.frozen e) rows each))
past_regions geometry part (Some past) rows each = frozen_regions part past 0 rows

task_regions : (geometry : Geometry) (r : Record) → IsTask geometry (outline r) → map holding_of (stands_by r) ≡ held_by (outline r)
task_regions geometry r is =
    map_append holding_of (live_stands r.part 0 None r.rows) (past_stands r.part r.part.past r.rows)
    ∙ ap₂ (λ xs ys. xs ++ ys) (live_regions r.part 0 None r.rows)
    (past_regions geometry r.part r.part.past r.rows
    (All-weaker (IsRow geometry (outline r)) (λ (row : Row). option_map size_of row.frozen ≡ frozen_size r.part) (λ row h. h.frozen_size) r.rows is.each))

-- the regions of the rows are those that the tasks hold
pub stands_hold : (geometry : Geometry) (rs : List Record) → All (IsTask geometry) (outlines rs) → map holding_of (all_stands rs) ≡ all_held (outlines rs)
unfolding all_stands all_held
stands_hold geometry [] each = refl
stands_hold geometry (r ∷ rs) each =
    map_append holding_of (stands_by r) (flat_map stands_by rs)
    ∙ ap₂ (λ xs ys. xs ++ ys) (task_regions geometry r (All-head (IsTask geometry) (outline r) (outlines rs) each))
    (stands_hold geometry rs (All-tail (IsTask geometry) (outline r) (outlines rs) each))

-- ---- entries

abbrev pub spot_by : Stand → Spot
spot_by s = record { array = s.array; entry = entry_of s.task s.row s.keys s.region (before_of s.task.kind s.before) }

live_spots : (part : Part) (i : ℕ) (before : Option ℕ) (rows : List Row)
    → map spot_by (filter is_live (live_stands part i before rows)) ≡ spots_from part.task i before rows
live_spots part i before [] = refl
live_spots part i before (row ∷ rows) = ap (λ ss. spot_of part.task i before row ∷ ss) (live_spots part (i + 1) (Some row.array) rows)

frozen_spots : (part : Part) (past : Past) (i : ℕ) (rows : List Row) → filter is_live (frozen_stands part past i rows) ≡ []
frozen_spots part past i [] = refl
frozen_spots part past i (row ∷ rows) = by (frozen_spots part past (i + 1) rows) row.frozen where
  by : filter is_live (frozen_stands part past (i + 1) rows) ≡ [] → (frozen : Option Block)
      → filter is_live (frozen_stand part past i row frozen ++ frozen_stands part past (i + 1) rows) ≡ []
  by rest None = rest
  by rest (Some region) = rest

past_spots : (part : Part) (past : Option Past) (rows : List Row) → filter is_live (past_stands part past rows) ≡ []
past_spots part None rows = refl
past_spots part (Some past) rows = frozen_spots part past 0 rows

task_spots : (r : Record) → map spot_by (filter is_live (stands_by r)) ≡ spots_by (outline r)
task_spots r =
    ap (map spot_by) (filter-append is_live (live_stands r.part 0 None r.rows) (past_stands r.part r.part.past r.rows)
    ∙ ap (λ ss. filter is_live (live_stands r.part 0 None r.rows) ++ ss) (past_spots r.part r.part.past r.rows)
    ∙ append-nil (filter is_live (live_stands r.part 0 None r.rows)))
    ∙ live_spots r.part 0 None r.rows

-- the entries of the live rows are those that the tasks take
pub stands_enter : (rs : List Record) → map spot_by (filter is_live (all_stands rs)) ≡ all_spots (outlines rs)
unfolding all_stands all_spots
stands_enter [] = refl
stands_enter (r ∷ rs) =
    ap (map spot_by) (filter-append is_live (stands_by r) (flat_map stands_by rs))
    ∙ map_append spot_by (filter is_live (stands_by r)) (filter is_live (flat_map stands_by rs))
    ∙ ap₂ (λ xs ys. xs ++ ys) (task_spots r) (stands_enter rs)

-- ---- each of them

pub record IsStand (geometry : Geometry) (s : Stand) : Type 0 where
  pub array : s.array < array_count geometry
  pub region : IsPartOf geometry s.array s.region
  pub row : s.row < s.task.rows

live_are : (geometry : Geometry) (o : Outline) (part : Part) (i : ℕ) (before : Option ℕ) (rows : List Row) → i + length rows ≡ part.task.rows
    → All (IsRow geometry o) rows → All (IsStand geometry) (live_stands part i before rows)
live_are geometry o part i before [] long each = All-nil (IsStand geometry)
live_are geometry o part i before (row ∷ rows) long each =
    let here : IsRow geometry o row = All-head (IsRow geometry o) row rows each in
    All-cons (IsStand geometry) (live_stand part i before row) (live_stands part (i + 1) (Some row.array) rows)
    (record { array = here.array; region = here.live; row = omega (arith, long) })
    (live_are geometry o part (i + 1) (Some row.array) rows (omega (arith, long)) (All-tail (IsRow geometry o) row rows each))

one_frozen_is : (geometry : Geometry) (part : Part) (past : Past) (i : ℕ) (row : Row) (frozen : Option Block) (ss : List Stand)
    → row.array < array_count geometry → IfSome frozen (IsPartOf geometry row.array) → i < part.task.rows
    → All (IsStand geometry) ss → All (IsStand geometry) (frozen_stand part past i row frozen ++ ss)
one_frozen_is geometry part past i row None ss array region within rest = rest
one_frozen_is geometry part past i row (Some region_) ss array region within rest =
    All-cons (IsStand geometry)
    (let s : Stand = record { live = false; task = part.task; packets = past.packets; row = i; array = row.array; region = region_; keys = row.keys; before = None } in s)
    ss (record { array = array; region = region; row = within }) rest

frozen_are : (geometry : Geometry) (o : Outline) (part : Part) (past : Past) (i : ℕ) (rows : List Row) → i + length rows ≡ part.task.rows
    → All (IsRow geometry o) rows → All (IsStand geometry) (frozen_stands part past i rows)
frozen_are geometry o part past i [] long each = All-nil (IsStand geometry)
frozen_are geometry o part past i (row ∷ rows) long each =
    let here : IsRow geometry o row = All-head (IsRow geometry o) row rows each in
    one_frozen_is geometry part past i row row.frozen (frozen_stands part past (i + 1) rows) here.array here.frozen (omega (arith, long))
    (frozen_are geometry o part past (i + 1) rows (omega (arith, long)) (All-tail (IsRow geometry o) row rows each))

past_are : (geometry : Geometry) (o : Outline) (part : Part) (past : Option Past) (rows : List Row) → length rows ≡ part.task.rows
    → All (IsRow geometry o) rows → All (IsStand geometry) (past_stands part past rows)
past_are geometry o part None rows long each = All-nil (IsStand geometry)
past_are geometry o part (Some past) rows long each = frozen_are geometry o part past 0 rows (omega (arith, long)) each

pub stands_are : (geometry : Geometry) (rs : List Record) → All (IsTask geometry) (outlines rs) → All (IsStand geometry) (all_stands rs)
unfolding all_stands
stands_are geometry [] each = All-nil (IsStand geometry)
stands_are geometry (r ∷ rs) each =
    let here : IsTask geometry (outline r) = All-head (IsTask geometry) (outline r) (outlines rs) each in
    All-append (IsStand geometry) (stands_by r) (flat_map stands_by rs)
    (All-append (IsStand geometry) (live_stands r.part 0 None r.rows) (past_stands r.part r.part.past r.rows)
    (live_are geometry (outline r) r.part 0 None r.rows (omega (arith, here.rows)) here.each)
    (past_are geometry (outline r) r.part r.part.past r.rows here.rows here.each))
    (stands_are geometry rs (All-tail (IsTask geometry) (outline r) (outlines rs) each))

-- ---- a packet more

abbrev pub joined_stand : Packet → Stand → Stand
joined_stand packet s =
    if s.live && passes s.task.filter packet.vec then record s { packets = s.packets ++ packet ∷ [] } else s

live_joined : (packet : Packet) (part : Part) (i : ℕ) (before : Option ℕ) (rows : List Row)
    → live_stands (joined_part packet part) i before rows ≡ map (joined_stand packet) (live_stands part i before rows)
live_joined packet part i before [] = refl
live_joined packet part i before (row ∷ rows) =
    ap₂ (λ s ss. s ∷ ss) (by (passes part.task.filter packet.vec)) (live_joined packet part (i + 1) (Some row.array) rows) where
      by : (b : Bool) → live_stand (cond b (record part { packets = part.packets ++ packet ∷ [] }) part) i before row
          ≡ cond b (record (live_stand part i before row) { packets = part.packets ++ packet ∷ [] }) (live_stand part i before row)
      by true = refl
      by false = refl

one_frozen_joined : (packet : Packet) (part : Part) (past : Past) (i : ℕ) (row : Row) (frozen : Option Block) (one two : List Stand)
    → one ≡ map (joined_stand packet) two
    → frozen_stand part past i row frozen ++ one ≡ map (joined_stand packet) (frozen_stand part past i row frozen ++ two)
one_frozen_joined packet part past i row None one two e = e
one_frozen_joined packet part past i row (Some region) one two e = ap (λ ss. frozen_stand part past i row (Some region) ++ ss) e

frozen_joined : (packet : Packet) (part : Part) (past : Past) (i : ℕ) (rows : List Row)
    → frozen_stands part past i rows ≡ map (joined_stand packet) (frozen_stands part past i rows)
frozen_joined packet part past i [] = refl
frozen_joined packet part past i (row ∷ rows) =
    one_frozen_joined packet part past i row row.frozen (frozen_stands part past (i + 1) rows) (frozen_stands part past (i + 1) rows)
    (frozen_joined packet part past (i + 1) rows)

past_joined : (packet : Packet) (part : Part) (past : Option Past) (rows : List Row)
    → past_stands part past rows ≡ map (joined_stand packet) (past_stands part past rows)
past_joined packet part None rows = refl
past_joined packet part (Some past) rows = frozen_joined packet part past 0 rows

same_task : (one two : Part) (past : Past) (i : ℕ) (rows : List Row) → one.task ≡ two.task → frozen_stands one past i rows ≡ frozen_stands two past i rows
same_task one two past i [] e = refl
same_task one two past i (row ∷ rows) e = ap₂ (λ xs ys. xs ++ ys) (by row.frozen) (same_task one two past (i + 1) rows e) where
  by : (frozen : Option Block) → frozen_stand one past i row frozen ≡ frozen_stand two past i row frozen
  by None = refl
  by (Some region) = ap (λ (task : Sketch).
      (let s : Stand = record { live = false; task = task; packets = past.packets; row = i; array = row.array; region = region; keys = row.keys; before = None } in s) ∷ []) e

joined_task : (packet : Packet) (part : Part) → (joined_part packet part).task ≡ part.task
joined_task packet part = by (passes part.task.filter packet.vec) where
  by : (b : Bool) → (let new : Part = cond b (record part { packets = part.packets ++ packet ∷ [] }) part in new).task ≡ part.task
  by true = refl
  by false = refl

joined_past : (packet : Packet) (part : Part) → (joined_part packet part).past ≡ part.past
joined_past packet part = by (passes part.task.filter packet.vec) where
  by : (b : Bool) → (let new : Part = cond b (record part { packets = part.packets ++ packet ∷ [] }) part in new).past ≡ part.past
  by true = refl
  by false = refl

past_same : (one two : Part) (past : Option Past) (rows : List Row) → one.task ≡ two.task → past_stands one past rows ≡ past_stands two past rows
past_same one two None rows e = refl
past_same one two (Some past) rows e = same_task one two past 0 rows e

task_joined : (packet : Packet) (r : Record) → stands_by (joined packet r) ≡ map (joined_stand packet) (stands_by r)
task_joined packet r =
    ap₂ (λ xs ys. xs ++ ys) (live_joined packet r.part 0 None r.rows)
    (ap (λ past. past_stands (joined_part packet r.part) past r.rows) (joined_past packet r.part)
    ∙ past_same (joined_part packet r.part) r.part r.part.past r.rows (joined_task packet r.part)
    ∙ past_joined packet r.part r.part.past r.rows)
    ∙ sym (map_append (joined_stand packet) (live_stands r.part 0 None r.rows) (past_stands r.part r.part.past r.rows))

-- a packet joins the live rows whose filter matches it
pub stands_joined : (packet : Packet) (rs : List Record) → all_stands (join packet rs) ≡ map (joined_stand packet) (all_stands rs)
unfolding all_stands join
stands_joined packet [] = refl
stands_joined packet (r ∷ rs) =
    ap₂ (λ xs ys. xs ++ ys) (task_joined packet r) (stands_joined packet rs)
    ∙ sym (map_append (joined_stand packet) (stands_by r) (flat_map stands_by rs))
