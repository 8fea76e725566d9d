-- A change is judged on tasks and places. It is refused, or comes to one edit of the list of tasks.
use Rattle.std.specs.Prelude.{ℕ, Bool, zero, suc, ◌+◌, is_some, if◌then◌else◌, List, [], ◌∷◌, ◌++◌, map, position, remove, Option, None, Some, Result, Ok, Err}
use Rattle.std.specs.List.{slice_get}
use Rattle.std.specs.Str.{bytes_eq}
use Rattle.addr_translate.specs.Blocks.{Block}
use Rattle.addr_translate.specs.Geometry.{Geometry}
use Rattle.group_keys.specs.Units.{UsedUnit, unit_at, units_in}
use Rattle.group_keys.specs.declared.uses.KeyUse.{KeyUse}
use Rattle.sketch_defs.specs.Tasks.{Sketch}
use Rattle.placer.specs.Sights.{Sight, units_at, region_for, bits_for}
use Rattle.placer.specs.Placement.{placed}
use Rattle.placer.specs.declared.places.Place.{Place}
use Rattle.placer.specs.declared.places as places
use Rattle.switch_model.specs.Records.{Part, UnitMask, Row, Record, Outline, outlines}
use Rattle.switch_model.specs.Sights.{sight_of}

pub data Change : Type 0 where
  Add : (task : Sketch) → Change
  Resize : (name : List ℕ) (size : ℕ) → Change
  Remove : (name : List ℕ) → Change
  Release : (name : List ℕ) → Change

-- why a change is refused
pub data Refusal : Type 0 where
  Exists : Refusal
  BadMemory : (size : ℕ) → Refusal
  Misplaced : (why : places.Refusal.Refusal) → Refusal
  Unknown : Refusal
  FrozenHeld : Refusal
  NoRoom : (row : ℕ) → Refusal
  NoFrozen : Refusal

-- a task at the end of the list; the task at a place with another size and other rows; without it; without what it froze
pub data Edit : Type 0 where
  Push : (task : Sketch) (rows : List Row) → Edit
  Move : (at : ℕ) (task : Sketch) (rows : List Row) → Edit
  Drop : (at : ℕ) → Edit
  Thaw : (at : ℕ) → Edit

-- ---- what a change comes to

abbrev pub is_called : List ℕ → Outline → Bool
is_called name o = bytes_eq o.task.name name

-- the mask that a row has for a unit: a free one takes the key
abbrev pub mask_in : List ℕ → Option UsedUnit → List ℕ
mask_in key None = key
mask_in key (Some used) = used.mask

abbrev pub masks_for : List (Option UsedUnit) → List ℕ → KeyUse → List UnitMask
masks_for units key keys = map (λ unit. record { unit = unit; mask = mask_in key (unit_at units unit) }) (units_in keys)

abbrev pub row_at : Geometry → Sight → Sketch → Place → Row
row_at geometry sight task place = record {
  array = place.array;
  region = place.region;
  keys = place.keys;
  masks = masks_for (units_at geometry sight place.array) task.key place.keys;
  frozen = None;
}

abbrev pub pushed : Geometry → Sight → Sketch → Result (List Place) places.Refusal.Refusal → Result Edit Refusal
pushed geometry sight task (Err why) = Err (Misplaced why)
pushed geometry sight task (Ok found) = Ok (Push task (map (row_at geometry sight task) found))

abbrev pub added : Geometry → Sight → Sketch → Option ℕ → Result Edit Refusal
added geometry sight task None = Err (BadMemory task.size)
added geometry sight task (Some bits) = pushed geometry sight task (placed geometry sight task bits)

abbrev pub judged_add : Geometry → List Outline → Sketch → Result Edit Refusal
judged_add geometry all task =
    if is_some (position (is_called task.name) all) then Err Exists
    else added geometry (sight_of geometry all) task (bits_for geometry task.kind task.size)

-- a row on another region, with the old one frozen
abbrev pub moved_row : Row → Block → Row
moved_row row region = record row { region = region; frozen = Some row.region }

abbrev pub moved_first : ℕ → Row → Option Block → Result (List Row) ℕ → Result (List Row) ℕ
moved_first i row None rest = Err i
moved_first i row (Some region) (Err later) = Err later
moved_first i row (Some region) (Ok rows) = Ok (moved_row row region ∷ rows)

-- these rows, the first of which is the i-th, on free regions of 2 ^ bits registers; or the first whose array has none
abbrev pub moved_rows : Geometry → Sight → ℕ → ℕ → List Row → Result (List Row) ℕ
moved_rows geometry sight bits i [] = Ok []
moved_rows geometry sight bits i (row ∷ rows) =
    moved_first i row (region_for geometry sight bits row.array) (moved_rows geometry sight bits (i + 1) rows)

abbrev pub moved : ℕ → Sketch → Result (List Row) ℕ → Result Edit Refusal
moved at task (Err row) = Err (NoRoom row)
moved at task (Ok rows) = Ok (Move at task rows)

abbrev pub resized : Geometry → Sight → ℕ → ℕ → Outline → Option ℕ → Result Edit Refusal
resized geometry sight at size o None = Err (BadMemory size)
resized geometry sight at size o (Some bits) = moved at (record o.task { size = size }) (moved_rows geometry sight bits 0 o.rows)

abbrev pub at_found : ℕ → Option Outline → (ℕ → Outline → Result Edit Refusal) → Result Edit Refusal
at_found at None change = Err Unknown
at_found at (Some o) change = change at o

abbrev pub at_place : Option ℕ → List Outline → (ℕ → Outline → Result Edit Refusal) → Result Edit Refusal
at_place None all change = Err Unknown
at_place (Some at) all change = at_found at (slice_get all at) change

-- what comes of a change of the task of this name, by its place in the list
abbrev pub at_name : List ℕ → List Outline → (ℕ → Outline → Result Edit Refusal) → Result Edit Refusal
at_name name all change = at_place (position (is_called name) all) all change

abbrev pub judged_resize : Geometry → List Outline → List ℕ → ℕ → Result Edit Refusal
judged_resize geometry all name size = at_name name all (λ at o.
    if is_some o.frozen then Err FrozenHeld
    else resized geometry (sight_of geometry all) at size o (bits_for geometry o.task.kind size))

abbrev pub judged_remove : List Outline → List ℕ → Result Edit Refusal
judged_remove all name = at_name name all (λ at o. Ok (Drop at))

abbrev pub judged_release : List Outline → List ℕ → Result Edit Refusal
judged_release all name = at_name name all (λ at o. if is_some o.frozen then Ok (Thaw at) else Err NoFrozen)

unfoldable pub judged : Geometry → List Outline → Change → Result Edit Refusal
judged geometry all (Add task) = judged_add geometry all task
judged geometry all (Resize name size) = judged_resize geometry all name size
judged geometry all (Remove name) = judged_remove all name
judged geometry all (Release name) = judged_release all name

-- ---- edits

-- the list with the element at a place changed
abbrev pub edit_at : {X : Type 0} → ℕ → (X → X) → List X → List X
edit_at at f [] = []
edit_at zero f (x ∷ xs) = f x ∷ xs
edit_at (suc at) f (x ∷ xs) = x ∷ edit_at at f xs

abbrev pub thawed_row : Row → Row
thawed_row row = record row { frozen = None }

abbrev pub new_outline : Sketch → List Row → Outline
new_outline task rows = record { task = task; frozen = None; rows = rows }

abbrev pub moved_outline : Sketch → List Row → Outline → Outline
moved_outline task rows o = record { task = task; frozen = Some o.task.size; rows = rows }

abbrev pub thawed_outline : Outline → Outline
thawed_outline o = record { task = o.task; frozen = None; rows = map thawed_row o.rows }

abbrev pub edited_outlines : Edit → List Outline → List Outline
edited_outlines (Push task rows) all = all ++ new_outline task rows ∷ []
edited_outlines (Move at task rows) all = edit_at at (moved_outline task rows) all
edited_outlines (Drop at) all = remove all at
edited_outlines (Thaw at) all = edit_at at thawed_outline all

-- a task begins with no packets
abbrev pub started : Sketch → Part
started task = record { task = task; packets = []; past = None }

-- what it counted is frozen, with the size that it had
abbrev pub resized_part : Sketch → Part → Part
resized_part task part = record { task = task; packets = []; past = Some (record { size = part.task.size; packets = part.packets }) }

abbrev pub released_part : Part → Part
released_part part = record { task = part.task; packets = part.packets; past = None }

abbrev pub edited_records : Edit → List Record → List Record
edited_records (Push task rows) all = all ++ record { part = started task; rows = rows } ∷ []
edited_records (Move at task rows) all = edit_at at (λ (r : Record). record { part = resized_part task r.part; rows = rows }) all
edited_records (Drop at) all = remove all at
edited_records (Thaw at) all = edit_at at (λ (r : Record). record { part = released_part r.part; rows = map thawed_row r.rows }) all

-- ---- a change of the records

abbrev pub after_verdict : Result Edit Refusal → List Record → List Record
after_verdict (Ok edit) records = edited_records edit records
after_verdict (Err refusal) records = records

-- a refused change leaves all as it is
unfoldable pub changed : Geometry → List Record → Change → List Record
changed geometry records change = after_verdict (judged geometry (outlines records) change) records
