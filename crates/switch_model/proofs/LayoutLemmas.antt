-- A change that fills the regions that it takes, and no other register, leaves the registers laid out.
use Rattle.std.proofs.Common.{◌≡◌, ℕ, ◌+◌, ◌^◌, ◌<◌, ◌≤◌, ◌==◌, ◌&&◌, Bool, true, false, List, [], ◌∷◌, ◌++◌, length, get_or, map, remove, replicate, refl, ap, ap₂, sym, ◌∙◌, subst, arith, eq-eqb, append-nil}
use Rattle.std.specs.Prelude.{◌||◌, ◌-◌, Option, None, Some, nat_le, nat_lt, slice_index}
use Rattle.std.specs.List.{All, list_any, flat_map}
use Rattle.std.proofs.lemmas.Bool.{eqb-true, leb-true, ltb-true, le-leb, lt-ltb}
use Rattle.std.proofs.lemmas.List.{get_or-replicate}
use Rattle.std.proofs.lemmas.List.Elements.{All-nil, All-cons, All-head, All-tail, All-append}
use Rattle.addr_translate.specs.Blocks.{Block}
use Rattle.addr_translate.specs.Geometry.{Geometry, IsGeometry}
use Rattle.reg_file.specs.Registers.{Contents}
use Rattle.sketch_defs.specs.Tasks.{Sketch}
use Rattle.sketch_defs.specs.Cells.{cells_of, row_of}
use Rattle.sketch_lower.specs.Operations.{start_of}
use Rattle.sketch_lower.proofs.CellLemmas.{cells_start}
use Rattle.switch_model.specs.Records.{Past, Part, Row, Record, Outline, outline, outlines}
use Rattle.switch_model.specs.Sights.{Holding, live_holding, sight_of}
use Rattle.switch_model.specs.Soundness.{ShareNone, IsTask, Sound}
use Rattle.switch_model.specs.Changes.{Add, Resize, Remove, Release, Edit, Move, Drop, Thaw, row_at, started, resized_part, released_part, moved_row, moved_rows, thawed_row, edit_at, edited_records}
use Rattle.switch_model.specs.Packets.{Stand, live_stand, live_stands, frozen_stands, past_stands, stands_by, all_stands, HoldsCells, Layout}
use Rattle.switch_model.specs.Laws.{Refilled, is_in, fresh_of, start_in, ChangeKeepsLayout}
use Rattle.switch_model.proofs.ListLemmas.{Across, flat_append, all_front, all_back, all_here, all_mapped, map_append, length_map, edited_here, removed_here}
use Rattle.switch_model.proofs.JudgedLemmas.{AddIs, ResizeIs, EditsAt, add_is, resize_is, remove_is, release_is}
use Rattle.switch_model.proofs.IsolationLemmas.{RecordAt, record_at}
use Rattle.switch_model.proofs.AddLemmas.{news_apart, all_placed}
use Rattle.switch_model.proofs.EditLemmas.{moved_by, region_of, AreMoved, are_moved, all_moving, moved_apart}
use Rattle.placer.specs.Sights.{Sight, region_for}
use Rattle.placer.specs.Laws.{ArePlaces}
use Rattle.placer.proofs.PlacementLemmas.{placed_accepted}
use Rattle.switch_model.proofs.CallLemmas.{and_parts, apart_misses}
use Rattle.switch_model.proofs.AnySizeLemmas.{cells_any_size}
use Rattle.switch_model.proofs.StandLemmas.{holding_of, stands_hold}

-- ---- cells

-- before any packet each cell is what its register starts at
pub first_cell : (hash_key : List ℕ) (task : Sketch) (bits row j : ℕ) → row < task.rows → j < 2 ^ bits
    → slice_index (row_of (cells_of hash_key task bits []) row) j ≡ start_of task.kind
first_cell hash_key task bits row j within inside =
    ap (λ cells. slice_index (row_of cells row) j) (cells_start hash_key task bits)
    ∙ ap (λ cells. slice_index cells j) (get_or-replicate {A = List ℕ} task.rows row (replicate (2 ^ bits) (start_of task.kind)) [] within)
    ∙ get_or-replicate {A = ℕ} (2 ^ bits) j (start_of task.kind) 0 inside

-- ---- registers in and out of regions

pub not_in : (h : Holding) (array : ℕ) (region : Block) (j : ℕ) → ShareNone h (let other : Holding = record { array = array; region = region } in other)
    → j < 2 ^ region.bits → is_in array (region.base + j) h ≡ false
not_in h array region j apart within = by (is_in array (region.base + j) h) refl where
  by : (b : Bool) → is_in array (region.base + j) h ≡ b → b ≡ false
  by false e = refl
  by true e =
      let first = and_parts (h.array == array) (nat_le h.region.base (region.base + j) && nat_lt (region.base + j) (h.region.base + 2 ^ h.region.bits)) e in
      let second = and_parts (nat_le h.region.base (region.base + j)) (nat_lt (region.base + j) (h.region.base + 2 ^ h.region.bits)) first.1 in
      let low : h.region.base ≤ region.base + j = leb-true h.region.base (region.base + j) second.0 in
      let high : region.base + j < h.region.base + 2 ^ h.region.bits = ltb-true (region.base + j) (h.region.base + 2 ^ h.region.bits) second.1 in
      let x : ℕ = region.base + j - h.region.base in
      absurd (apart_misses h.region region x j (apart (eqb-true h.array array first.0)) (omega arith) within (omega arith))

none_in : (fresh : List Holding) (array : ℕ) (region : Block) (j : ℕ) → All (λ h. ShareNone h (let other : Holding = record { array = array; region = region } in other)) fresh
    → j < 2 ^ region.bits → list_any (is_in array (region.base + j)) fresh ≡ false
none_in [] array region j apart within = refl
none_in (h ∷ fresh) array region j apart within =
    ap₂ (λ a b. a || b)
    (not_in h array region j (All-head (λ h. ShareNone h (let other : Holding = record { array = array; region = region } in other)) h fresh apart) within)
    (none_in fresh array region j (All-tail (λ h. ShareNone h (let other : Holding = record { array = array; region = region } in other)) h fresh apart) within)

pub is_inside : (array : ℕ) (region : Block) (j : ℕ) → j < 2 ^ region.bits
    → is_in array (region.base + j) (let h : Holding = record { array = array; region = region } in h) ≡ true
is_inside array region j within =
    ap₂ (λ a b. a && b) (eq-eqb array array refl)
    (ap₂ (λ a b. a && b) (le-leb region.base (region.base + j) (omega arith)) (lt-ltb (region.base + j) (region.base + 2 ^ region.bits) (omega arith)))

-- a row apart from what was filled keeps its cells
pub cells_stay : (hash_key : List ℕ) (fresh : List Holding) (value : ℕ) (old new : Contents) (s : Stand) → Refilled fresh value old new
    → All (λ h. ShareNone h (holding_of s)) fresh → HoldsCells hash_key old s → HoldsCells hash_key new s
cells_stay hash_key fresh value old new s filled apart holds j within =
    filled.others s.array (s.region.base + j) (none_in fresh s.array s.region j apart within) ∙ holds j within

-- all rows of such regions
pub all_stay : (hash_key : List ℕ) (fresh : List Holding) (value : ℕ) (old new : Contents) (stands : List Stand) → Refilled fresh value old new
    → Across ShareNone fresh (map holding_of stands) → All (HoldsCells hash_key old) stands → All (HoldsCells hash_key new) stands
all_stay hash_key fresh value old new stands filled apart holds k d within =
    cells_stay hash_key fresh value old new (get_or stands k d) filled
    (λ i e inside. all_mapped (ShareNone (get_or fresh i e)) holding_of stands (apart i e inside) k d within) (holds k d within)

-- the new rows of a task hold its cells of no packets
pub new_hold : (hash_key : List ℕ) (part : Part) (i : ℕ) (before : Option ℕ) (rows : List Row) (new : Contents) → part.packets ≡ [] → i + length rows ≡ part.task.rows
    → All (λ (h : Holding). (addr : ℕ) → is_in h.array addr h ≡ true → new h.array addr ≡ start_of part.task.kind) (map live_holding rows)
    → All (HoldsCells hash_key new) (live_stands part i before rows)
new_hold hash_key part i before [] new none long filled = All-nil (HoldsCells hash_key new)
new_hold hash_key part i before (row ∷ rows) new none long filled =
    All-cons (HoldsCells hash_key new) (live_stand part i before row) (live_stands part (i + 1) (Some row.array) rows)
    (λ j within.
    All-head (λ (h : Holding). (addr : ℕ) → is_in h.array addr h ≡ true → new h.array addr ≡ start_of part.task.kind) (live_holding row) (map live_holding rows) filled
    (row.region.base + j) (is_inside row.array row.region j within)
    ∙ sym (ap (λ ps. slice_index (row_of (cells_of hash_key part.task row.region.bits ps) i) j) none
    ∙ first_cell hash_key part.task row.region.bits i j (omega (arith, long)) within))
    (new_hold hash_key part (i + 1) (Some row.array) rows new none (omega (arith, long))
    (All-tail (λ (h : Holding). (addr : ℕ) → is_in h.array addr h ≡ true → new h.array addr ≡ start_of part.task.kind) (live_holding row) (map live_holding rows) filled))

-- ---- a task between others

pub stands_between : (front back : List Record) (r : Record) → all_stands (front ++ r ∷ back) ≡ all_stands front ++ (stands_by r ++ all_stands back)
unfolding all_stands
stands_between front back r = flat_append stands_by front (r ∷ back)

pub stands_both : (front back : List Record) → all_stands (front ++ back) ≡ all_stands front ++ all_stands back
unfolding all_stands
stands_both front back = flat_append stands_by front back

pub stands_pushed : (rs : List Record) (r : Record) → all_stands (rs ++ r ∷ []) ≡ all_stands rs ++ stands_by r
unfolding all_stands
stands_pushed rs r = flat_append stands_by rs (r ∷ []) ∙ ap (λ ss. flat_map stands_by rs ++ ss) (append-nil (stands_by r))

-- what was live is frozen with the cells that it had
frozen_hold : (hash_key : List ℕ) (part : Part) (size : ℕ) (i : ℕ) (before : Option ℕ) (f : Row → Block) (rows : List Row) (contents : Contents)
    → All (HoldsCells hash_key contents) (live_stands part i before rows)
    → (let task : Sketch = record part.task { size = size } in
    All (HoldsCells hash_key contents) (frozen_stands (resized_part task part) (record { size = part.task.size; packets = part.packets }) i (map (λ row. moved_row row (f row)) rows)))
frozen_hold hash_key part size i before f [] contents holds = All-nil (HoldsCells hash_key contents)
frozen_hold hash_key part size i before f (row ∷ rows) contents holds =
    let task : Sketch = record part.task { size = size } in
    let past : Past = record { size = part.task.size; packets = part.packets } in
    let s : Stand = record { live = false; task = task; packets = part.packets; row = i; array = row.array; region = row.region; keys = row.keys; before = None } in
    let here : HoldsCells hash_key contents (live_stand part i before row) =
    All-head (HoldsCells hash_key contents) (live_stand part i before row) (live_stands part (i + 1) (Some row.array) rows) holds in
    All-cons (HoldsCells hash_key contents) s (frozen_stands (resized_part task part) past (i + 1) (map (λ row. moved_row row (f row)) rows))
    (λ j within. here j within ∙ ap (λ cells. slice_index (row_of cells i) j) (sym (cells_any_size hash_key part.task size row.region.bits part.packets)))
    (frozen_hold hash_key part size (i + 1) (Some row.array) f rows contents
    (All-tail (HoldsCells hash_key contents) (live_stand part i before row) (live_stands part (i + 1) (Some row.array) rows) holds))

-- a task that releases has the live rows that it had
thawed_stands : (part : Part) (i : ℕ) (before : Option ℕ) (rows : List Row)
    → live_stands (released_part part) i before (map thawed_row rows) ≡ live_stands part i before rows
thawed_stands part i before [] = refl
thawed_stands part i before (row ∷ rows) = ap (λ ss. live_stand part i before row ∷ ss) (thawed_stands part (i + 1) (Some row.array) rows)

-- nothing filled
nothing_apart : (hs : List Holding) → Across ShareNone [] hs
nothing_apart hs = All-nil (λ h. All (ShareNone h) hs)

pub push_layout : (geometry : Geometry) (hash_key : List ℕ) (rs : List Record) (task : Sketch) (edit : Edit) (old new : Contents) → IsGeometry geometry
    → Sound geometry (outlines rs) → Layout hash_key rs old → AddIs geometry (outlines rs) task edit → Refilled (fresh_of edit) (start_in edit) old new
    → Layout hash_key (edited_records edit rs) new
push_layout geometry hash_key rs task edit old new good sound layout is filled =
    let all : List Outline = outlines rs in
    let rows : List Row = map (row_at geometry (sight_of geometry all) task) is.found in
    let r : Record = record { part = started task; rows = rows } in
    let places : ArePlaces geometry (sight_of geometry all) task is.bits is.found = placed_accepted geometry (sight_of geometry all) task is.bits is.found is.places in
    let fresh : List Holding = map live_holding rows in
    let filled_ : Refilled fresh (start_of task.kind) old new = subst (λ (e : Edit). Refilled (fresh_of e) (start_in e) old new) is.is filled in
    let stay : All (HoldsCells hash_key new) (all_stands rs) =
    all_stay hash_key fresh (start_of task.kind) old new (all_stands rs) filled_
    (subst (Across ShareNone fresh) (sym (stands_hold geometry rs sound.tasks))
    (news_apart geometry all task is.bits is.found (all_placed geometry all task is.bits is.found good places))) layout in
    let news : All (HoldsCells hash_key new) (live_stands (started task) 0 None rows) =
    new_hold hash_key (started task) 0 None rows new refl
    (omega (arith, length_map (row_at geometry (sight_of geometry all) task) is.found, places.counted_is)) filled_.filled in
    subst (λ (e : Edit). Layout hash_key (edited_records e rs) new) (sym is.is)
    (subst (All (HoldsCells hash_key new)) (sym (stands_pushed rs r))
    (All-append (HoldsCells hash_key new) (all_stands rs) (stands_by r) stay
    (All-append (HoldsCells hash_key new) (live_stands (started task) 0 None rows) [] news (All-nil (HoldsCells hash_key new)))))

pub move_layout : (geometry : Geometry) (hash_key : List ℕ) (rs : List Record) (name : List ℕ) (size : ℕ) (edit : Edit) (old new : Contents) → IsGeometry geometry
    → Sound geometry (outlines rs) → Layout hash_key rs old → ResizeIs geometry (outlines rs) name size edit → Refilled (fresh_of edit) (start_in edit) old new
    → Layout hash_key (edited_records edit rs) new
move_layout geometry hash_key rs name size edit old new good sound layout is filled =
    let all : List Outline = outlines rs in
    let at : RecordAt name rs is.front is.here is.back = record_at name rs is.front is.here is.back is.whole is.called is.none in
    let one : Record = at.one in
    let sight : Sight = sight_of geometry all in
    let f : Row → Row = moved_by geometry sight is.bits in
    let rows_ : is.here.rows ≡ one.rows = ap (λ (o : Outline). o.rows) (sym at.heres) in
    let are : AreMoved geometry sight is.bits one.rows is.rows =
    are_moved geometry sight is.bits 0 one.rows is.rows (ap (λ rows. moved_rows geometry sight is.bits 0 rows) (sym rows_) ∙ is.moves) in
    let task : Sketch = record one.part.task { size = size } in
    let task_ : (let t : Sketch = record is.here.task { size = size } in t) ≡ task = ap (λ (o : Outline). (let t : Sketch = record o.task { size = size } in t)) (sym at.heres) in
    let long : length is.front ≡ length at.before = sym (ap length at.fronts) ∙ length_map outline at.before in
    let edit_ : edit ≡ Move (length at.before) task (map f one.rows) =
    is.is ∙ ap₂ (λ n t. Move n t is.rows) long task_ ∙ ap (λ rows. Move (length at.before) task rows) are.are in
    let fresh : List Holding = map live_holding (map f one.rows) in
    let filled_ : Refilled fresh (start_of task.kind) old new = subst (λ (e : Edit). Refilled (fresh_of e) (start_in e) old new) edit_ filled in
    let its : IsTask geometry (outline one) =
    all_here (IsTask geometry) (map outline at.before) (map outline at.after) (outline one)
    (subst (All (IsTask geometry)) (ap outlines at.is ∙ map_append outline at.before (one ∷ at.after)) sound.tasks) in
    let stay : All (HoldsCells hash_key new) (all_stands rs) =
    all_stay hash_key fresh (start_of task.kind) old new (all_stands rs) filled_
    (subst (Across ShareNone fresh) (sym (stands_hold geometry rs sound.tasks))
    (moved_apart geometry all is.bits one.rows (all_moving geometry all is.bits (outline one) one.rows good its.each are.each))) layout in
    let parts : All (HoldsCells hash_key new) (all_stands at.before ++ (stands_by one ++ all_stands at.after)) =
    subst (All (HoldsCells hash_key new)) (ap all_stands at.is ∙ stands_between at.before at.after one) stay in
    let behind : All (HoldsCells hash_key new) (stands_by one ++ all_stands at.after) =
    all_back (HoldsCells hash_key new) (all_stands at.before) (stands_by one ++ all_stands at.after) parts in
    let was_live : All (HoldsCells hash_key new) (live_stands one.part 0 None one.rows) =
    all_front (HoldsCells hash_key new) (live_stands one.part 0 None one.rows) (past_stands one.part one.part.past one.rows)
    (all_front (HoldsCells hash_key new) (stands_by one) (all_stands at.after) behind) in
    let part : Part = resized_part task one.part in
    let past : Past = record { size = one.part.task.size; packets = one.part.packets } in
    let r : Record = record { part = part; rows = map f one.rows } in
    let fresh_hold : All (HoldsCells hash_key new) (live_stands part 0 None (map f one.rows)) =
    new_hold hash_key part 0 None (map f one.rows) new refl (omega (arith, length_map f one.rows, its.rows)) filled_.filled in
    let frozen : All (HoldsCells hash_key new) (frozen_stands part past 0 (map f one.rows)) =
    frozen_hold hash_key one.part size 0 None (λ row. region_of (region_for geometry sight is.bits row.array)) one.rows new was_live in
    subst (λ (e : Edit). Layout hash_key (edited_records e rs) new) (sym edit_)
    (subst (λ (xs : List Record). All (HoldsCells hash_key new) (all_stands xs))
    (sym (ap (edit_at (length at.before) (λ (r : Record). record { part = resized_part task r.part; rows = map f one.rows })) at.is
    ∙ edited_here (λ (r : Record). record { part = resized_part task r.part; rows = map f one.rows }) at.before at.after one))
    (subst (All (HoldsCells hash_key new)) (sym (stands_between at.before at.after r))
    (All-append (HoldsCells hash_key new) (all_stands at.before) (stands_by r ++ all_stands at.after)
    (all_front (HoldsCells hash_key new) (all_stands at.before) (stands_by one ++ all_stands at.after) parts)
    (All-append (HoldsCells hash_key new) (stands_by r) (all_stands at.after)
    (All-append (HoldsCells hash_key new) (live_stands part 0 None (map f one.rows)) (frozen_stands part past 0 (map f one.rows)) fresh_hold frozen)
    (all_back (HoldsCells hash_key new) (stands_by one) (all_stands at.after) behind)))))

pub drop_layout : (hash_key : List ℕ) (rs : List Record) (name : List ℕ) (edit : Edit) (old new : Contents)
    → Layout hash_key rs old → EditsAt name (outlines rs) Drop edit → Refilled (fresh_of edit) (start_in edit) old new
    → Layout hash_key (edited_records edit rs) new
drop_layout hash_key rs name edit old new layout is filled =
    let at : RecordAt name rs is.front is.here is.back = record_at name rs is.front is.here is.back is.whole is.called is.none in
    let long : length is.front ≡ length at.before = sym (ap length at.fronts) ∙ length_map outline at.before in
    let filled_ : Refilled [] 0 old new = subst (λ (e : Edit). Refilled (fresh_of e) (start_in e) old new) is.is filled in
    let stay : All (HoldsCells hash_key new) (all_stands rs) =
    all_stay hash_key [] 0 old new (all_stands rs) filled_ (nothing_apart (map holding_of (all_stands rs))) layout in
    let parts : All (HoldsCells hash_key new) (all_stands at.before ++ (stands_by at.one ++ all_stands at.after)) =
    subst (All (HoldsCells hash_key new)) (ap all_stands at.is ∙ stands_between at.before at.after at.one) stay in
    subst (λ (e : Edit). Layout hash_key (edited_records e rs) new) (sym (is.is ∙ ap (λ n. Drop n) long))
    (subst (λ (xs : List Record). All (HoldsCells hash_key new) (all_stands xs))
    (sym (ap (λ (xs : List Record). remove xs (length at.before)) at.is ∙ removed_here at.before at.after at.one))
    (subst (All (HoldsCells hash_key new)) (sym (stands_both at.before at.after))
    (All-append (HoldsCells hash_key new) (all_stands at.before) (all_stands at.after)
    (all_front (HoldsCells hash_key new) (all_stands at.before) (stands_by at.one ++ all_stands at.after) parts)
    (all_back (HoldsCells hash_key new) (stands_by at.one) (all_stands at.after)
    (all_back (HoldsCells hash_key new) (all_stands at.before) (stands_by at.one ++ all_stands at.after) parts)))))

pub thaw_layout : (hash_key : List ℕ) (rs : List Record) (name : List ℕ) (edit : Edit) (old new : Contents)
    → Layout hash_key rs old → EditsAt name (outlines rs) Thaw edit → Refilled (fresh_of edit) (start_in edit) old new
    → Layout hash_key (edited_records edit rs) new
thaw_layout hash_key rs name edit old new layout is filled =
    let at : RecordAt name rs is.front is.here is.back = record_at name rs is.front is.here is.back is.whole is.called is.none in
    let one : Record = at.one in
    let long : length is.front ≡ length at.before = sym (ap length at.fronts) ∙ length_map outline at.before in
    let filled_ : Refilled [] 0 old new = subst (λ (e : Edit). Refilled (fresh_of e) (start_in e) old new) is.is filled in
    let stay : All (HoldsCells hash_key new) (all_stands rs) =
    all_stay hash_key [] 0 old new (all_stands rs) filled_ (nothing_apart (map holding_of (all_stands rs))) layout in
    let parts : All (HoldsCells hash_key new) (all_stands at.before ++ (stands_by one ++ all_stands at.after)) =
    subst (All (HoldsCells hash_key new)) (ap all_stands at.is ∙ stands_between at.before at.after one) stay in
    let behind : All (HoldsCells hash_key new) (stands_by one ++ all_stands at.after) =
    all_back (HoldsCells hash_key new) (all_stands at.before) (stands_by one ++ all_stands at.after) parts in
    let live : All (HoldsCells hash_key new) (live_stands one.part 0 None one.rows) =
    all_front (HoldsCells hash_key new) (live_stands one.part 0 None one.rows) (past_stands one.part one.part.past one.rows)
    (all_front (HoldsCells hash_key new) (stands_by one) (all_stands at.after) behind) in
    let r : Record = record { part = released_part one.part; rows = map thawed_row one.rows } in
    let mine : All (HoldsCells hash_key new) (stands_by r) =
    All-append (HoldsCells hash_key new) (live_stands (released_part one.part) 0 None (map thawed_row one.rows)) []
    (subst (All (HoldsCells hash_key new)) (sym (thawed_stands one.part 0 None one.rows)) live) (All-nil (HoldsCells hash_key new)) in
    let thaw : Record → Record = λ r. record { part = released_part r.part; rows = map thawed_row r.rows } in
    subst (λ (e : Edit). Layout hash_key (edited_records e rs) new) (sym (is.is ∙ ap (λ n. Thaw n) long))
    (subst (λ (xs : List Record). All (HoldsCells hash_key new) (all_stands xs))
    (sym (ap (edit_at (length at.before) thaw) at.is ∙ edited_here thaw at.before at.after one))
    (subst (All (HoldsCells hash_key new)) (sym (stands_between at.before at.after r))
    (All-append (HoldsCells hash_key new) (all_stands at.before) (stands_by r ++ all_stands at.after)
    (all_front (HoldsCells hash_key new) (all_stands at.before) (stands_by one ++ all_stands at.after) parts)
    (All-append (HoldsCells hash_key new) (stands_by r) (all_stands at.after) mine
    (all_back (HoldsCells hash_key new) (stands_by one) (all_stands at.after) behind)))))

pub change_keeps_layout : ChangeKeepsLayout
change_keeps_layout geometry hash_key rs (Add task) edit old new good sound layout h filled =
    push_layout geometry hash_key rs task edit old new good sound layout (add_is geometry (outlines rs) task edit h) filled
change_keeps_layout geometry hash_key rs (Resize name size) edit old new good sound layout h filled =
    move_layout geometry hash_key rs name size edit old new good sound layout (resize_is geometry (outlines rs) name size edit h) filled
change_keeps_layout geometry hash_key rs (Remove name) edit old new good sound layout h filled =
    drop_layout hash_key rs name edit old new layout (remove_is geometry (outlines rs) name edit h) filled
change_keeps_layout geometry hash_key rs (Release name) edit old new good sound layout h filled =
    thaw_layout hash_key rs name edit old new layout (release_is geometry (outlines rs) name edit h) filled
