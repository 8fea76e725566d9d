-- What a view of a switch shows: its arrays, its tasks with their places, the units of its groups, and three numbers of each
-- array; and what registers tell of the tasks.
use Rattle.std.specs.Prelude.{◌≡◌, ℕ, ◌+◌, ◌^◌, ◌<◌, ◌≤◌, Bool, true, List, [], length, map, slice_index_or, replicate, Option, None, IfSome, option_map, unwrap_or, is_some}
use Rattle.std.specs.List.{All, find, range_with_len}
use Rattle.std.specs.Str.{bytes_eq}
use Rattle.addr_translate.specs.Blocks.{Block}
use Rattle.addr_translate.specs.Geometry.{Geometry, array_count, bits_of, greatest_bits}
use Rattle.group_keys.specs.declared.uses.KeyUse.TheVariants.{Single}
use Rattle.key_mask.specs.declared.fields.TheConstants.{KEY_BYTES}
use Rattle.key_mask.specs.Masks.{no_lengths}
use Rattle.pkt_headers.specs.declared.packets.Attr.TheVariants as attrs
use Rattle.reg_file.specs.Registers.{Contents, Dims}
use Rattle.sketch_defs.specs.declared.kinds.Kind.TheVariants.{Cms, Hll}
use Rattle.sketch_defs.specs.Tasks.{Sketch}
use Rattle.readout.specs.declared.views.Placed.{Placed}
use Rattle.readout.specs.declared.views.Side.{Side}
use Rattle.readout.specs.declared.views.Side.TheVariants.{Live, Frozen}
use Rattle.readout.specs.Parts.{Rows, SketchPart}

-- a live task with its present size, and where each of its rows stands
pub record PlacedTask : Type 0 where
  pub task : Sketch
  pub places : List Placed

-- `mask` is that of a unit of a group, and none where the unit is free. Of an array, `free` is how many registers are in no
-- partition, `largest` how many the largest free partition has, and `rows` how many live rows stand on it
pub record View : Type 0 where
  pub geometry : Geometry
  pub tasks : List PlacedTask
  pub mask : ℕ → ℕ → Option (List ℕ)
  pub free : ℕ → ℕ
  pub largest : ℕ → ℕ
  pub rows : ℕ → ℕ

-- what stands where there is no task and no place
abbrev pub no_block : Block
no_block = record { base = 0; bits = 0 }

abbrev pub no_place : Placed
no_place = record { array = 0; region = no_block; keys = Single 0; frozen = None }

abbrev pub no_task : Sketch
no_task = record { name = []; kind = Cms; rows = 0; key = no_lengths; attr = attrs.Packets; filter = record { value = replicate KEY_BYTES 0; mask = no_lengths }; size = 0 }

abbrev pub no_placed_task : PlacedTask
no_placed_task = record { task = no_task; places = [] }

abbrev pub placed_task_at : List PlacedTask → ℕ → PlacedTask
placed_task_at tasks at = slice_index_or tasks at no_placed_task

abbrev pub place_at : PlacedTask → ℕ → Placed
place_at placed row = slice_index_or placed.places row no_place

-- a task of a view, and a row of it
abbrev pub task_in : View → ℕ → PlacedTask
task_in view at = placed_task_at view.tasks at

abbrev pub place_in : View → ℕ → ℕ → Placed
place_in view at row = place_at (task_in view at) row

abbrev pub is_named : List ℕ → PlacedTask → Bool
is_named name placed = bytes_eq placed.task.name name

-- the live task of a name
abbrev pub task_named : List ℕ → View → Option PlacedTask
task_named name view = find (is_named name) view.tasks

-- the cells of a row are 2 to this many
abbrev pub live_bits : PlacedTask → ℕ
live_bits placed = (place_at placed 0).region.bits

-- and those of its frozen partition, where it has one
abbrev pub frozen_bits_in : Placed → Option ℕ
frozen_bits_in place = option_map (λ (block : Block). block.bits) place.frozen

abbrev pub frozen_bits : PlacedTask → Option ℕ
frozen_bits placed = frozen_bits_in (place_at placed 0)

-- the task has partitions of this side
abbrev pub HasSide : Side → PlacedTask → Type 0
HasSide Live placed = Unit {0}
HasSide Frozen placed = is_some (place_at placed 0).frozen ≡ true

-- the partition of a row, which has one of this side
abbrev pub block_of : Side → Placed → Block
block_of Live place = place.region
block_of Frozen place = unwrap_or place.frozen place.region

-- a block lies in its array
abbrev pub LiesIn : Geometry → ℕ → Block → Type 0
LiesIn geometry array block = block.base + 2 ^ block.bits ≤ 2 ^ bits_of geometry array

-- a row stands on an array of the geometry, in a live partition of 2 ^ bits registers and a frozen one of this size, if there is one
pub record IsPlaced (geometry : Geometry) (bits : ℕ) (frozen : Option ℕ) (place : Placed) : Type 0 where
  pub array : place.array < array_count geometry
  pub region : LiesIn geometry place.array place.region
  pub bits_are : place.region.bits ≡ bits
  pub frozen_region : IfSome place.frozen (LiesIn geometry place.array)
  pub frozen_size : frozen_bits_in place ≡ frozen

-- a task has one place a row, all of its size
pub record IsPlacedTask (geometry : Geometry) (placed : PlacedTask) : Type 0 where
  pub rows : length placed.places ≡ placed.task.rows
  pub places : All (IsPlaced geometry (live_bits placed) (frozen_bits placed)) placed.places
  pub size : placed.task.size ≡ 2 ^ live_bits placed
  pub most : live_bits placed ≤ 20
  pub ranks : placed.task.kind ≡ Hll → 4 ≤ live_bits placed

abbrev pub IsFit : View → Type 0
IsFit view = All (IsPlacedTask view.geometry) view.tasks

-- the register file has the arrays of the geometry, each with room for the largest
pub record IsShaped (geometry : Geometry) (dims : Dims) : Type 0 where
  pub arrays : dims.arrays ≡ array_count geometry
  pub bits : dims.bits ≡ greatest_bits geometry

-- the registers of a task's partitions of a side can be read
pub record CanRead (view : View) (dims : Dims) (at : ℕ) (side : Side) : Type 0 where
  pub fit : IsFit view
  pub shaped : IsShaped view.geometry dims
  pub task : at < length view.tasks
  pub has_side : HasSide side (task_in view at)

-- the rows of each task have at most 2 to this many cells
abbrev pub AreWithin : ℕ → View → Type 0
AreWithin bits view = All (λ placed. live_bits placed ≤ bits) view.tasks

-- the register at an index of a row's partition
abbrev pub register_at : Contents → Side → Placed → ℕ → ℕ
register_at cells side place index = cells place.array ((block_of side place).base + index)

-- what the registers tell of a row
abbrev pub row_contents : Contents → Side → Placed → List ℕ
row_contents cells side place = map (register_at cells side place) (range_with_len 0 (2 ^ (block_of side place).bits))

-- and of all rows of a task
unfoldable pub rows_contents : Contents → Side → PlacedTask → List (List ℕ)
rows_contents cells side placed = map (row_contents cells side) placed.places

abbrev pub rows_of_side : Contents → Side → PlacedTask → Rows
rows_of_side cells side placed = record { bits = (block_of side (place_at placed 0)).bits; cells = rows_contents cells side placed }

-- and of the whole task
abbrev pub part_in : Contents → PlacedTask → SketchPart
part_in cells placed = record {
  task = placed.task;
  live = rows_of_side cells Live placed;
  frozen = option_map (λ (block : Block). rows_of_side cells Frozen placed) (place_at placed 0).frozen;
}

abbrev pub parts_in : Contents → View → List SketchPart
parts_in cells view = map (part_in cells) view.tasks
