-- A packet: whom it joins, which operations it makes, and what registers hold of the packets that came.
use Rattle.std.specs.Prelude.{◌≡◌, ℕ, ◌+◌, ◌^◌, ◌<◌, ◌==◌, ◌&&◌, Bool, true, false, if◌then◌else◌, List, [], ◌∷◌, ◌++◌, map, filter, slice_index, Option, None, Some}
use Rattle.std.specs.List.{All, flat_map, range_with_len}
use Rattle.addr_translate.specs.Blocks.{Block}
use Rattle.addr_translate.specs.Geometry.{Geometry, array_count}
use Rattle.group_keys.specs.declared.uses.KeyUse.{KeyUse}
use Rattle.pkt_headers.specs.declared.packets.Packet.{Packet}
use Rattle.task_filters.specs.Filters.{passes}
use Rattle.reg_file.specs.declared.traits.Call.{Call}
use Rattle.reg_file.specs.Registers.{Contents}
use Rattle.sketch_defs.specs.Tasks.{Sketch}
use Rattle.sketch_defs.specs.Cells.{cells_of, bound_at, index_at, row_of}
use Rattle.sketch_lower.specs.Operations.{operation_at}
use Rattle.switch_model.specs.Records.{Past, Part, Row, Record}

-- ---- whom it joins

abbrev pub joined_part : Packet → Part → Part
joined_part packet part =
    if passes part.task.filter packet.vec then record part { packets = part.packets ++ packet ∷ [] } else part

abbrev pub joined : Packet → Record → Record
joined packet r = record { part = joined_part packet r.part; rows = r.rows }

-- the packet joins each task whose filter matches it
unfoldable pub join : Packet → List Record → List Record
join packet records = map (joined packet) records

-- ---- regions with the packets whose cells stand in them

-- row `row` of a task in a region of an array, and the packets whose cells stand there: those that it counts, where it is live.
-- `before` is the array of the row before
pub record Stand : Type 0 where
  pub live : Bool
  pub task : Sketch
  pub packets : List Packet
  pub row : ℕ
  pub array : ℕ
  pub region : Block
  pub keys : KeyUse
  pub before : Option ℕ

abbrev pub live_stand : Part → ℕ → Option ℕ → Row → Stand
live_stand part i before row = record {
  live = true;
  task = part.task;
  packets = part.packets;
  row = i;
  array = row.array;
  region = row.region;
  keys = row.keys;
  before = before;
}

abbrev pub live_stands : Part → ℕ → Option ℕ → List Row → List Stand
live_stands part i before [] = []
live_stands part i before (row ∷ rows) = live_stand part i before row ∷ live_stands part (i + 1) (Some row.array) rows

abbrev pub frozen_stand : Part → Past → ℕ → Row → Option Block → List Stand
frozen_stand part past i row None = []
frozen_stand part past i row (Some region) = record {
  live = false;
  task = part.task;
  packets = past.packets;
  row = i;
  array = row.array;
  region = region;
  keys = row.keys;
  before = None;
} ∷ []

abbrev pub frozen_stands : Part → Past → ℕ → List Row → List Stand
frozen_stands part past i [] = []
frozen_stands part past i (row ∷ rows) = frozen_stand part past i row row.frozen ++ frozen_stands part past (i + 1) rows

abbrev pub past_stands : Part → Option Past → List Row → List Stand
past_stands part None rows = []
past_stands part (Some past) rows = frozen_stands part past 0 rows

abbrev pub stands_by : Record → List Stand
stands_by r = live_stands r.part 0 None r.rows ++ past_stands r.part r.part.past r.rows

unfoldable pub all_stands : List Record → List Stand
all_stands records = flat_map stands_by records

-- ---- what registers hold

abbrev pub cells_at : List ℕ → Stand → List (List ℕ)
cells_at hash_key s = cells_of hash_key s.task s.region.bits s.packets

-- each register of the region holds its cell
abbrev pub HoldsCells : List ℕ → Contents → Stand → Type 0
HoldsCells hash_key contents s = (j : ℕ) → j < 2 ^ s.region.bits
    → contents s.array (s.region.base + j) ≡ slice_index (row_of (cells_at hash_key s) s.row) j

-- the registers are laid out for these tasks: all live and frozen regions hold their cells
abbrev pub Layout : List ℕ → List Record → Contents → Type 0
Layout hash_key records contents = All (HoldsCells hash_key contents) (all_stands records)

-- ---- which operations it makes

abbrev pub takes_on : Packet → ℕ → Stand → Bool
takes_on packet array s = s.live && (s.array == array && passes s.task.filter packet.vec)

-- the operation of a row: at the packet's place, under the bound that the cells before it leave the row
abbrev pub call_of : List ℕ → Packet → Stand → Call
call_of hash_key packet s = record {
  array = s.array;
  addr = s.region.base + index_at hash_key s.task s.region.bits s.row packet;
  op = operation_at hash_key s.task s.region.bits s.row packet
      (bound_at hash_key s.task s.region.bits (cells_at hash_key s) packet s.row);
}

abbrev pub calls_on : List ℕ → Packet → List Stand → ℕ → List Call
calls_on hash_key packet stands array = map (call_of hash_key packet) (filter (takes_on packet array) stands)

-- the operations of a packet, array by array: one for each live row whose filter matches it
unfoldable pub calls_of : Geometry → List ℕ → Packet → List Record → List Call
calls_of geometry hash_key packet records =
    flat_map (calls_on hash_key packet (all_stands records)) (range_with_len 0 (array_count geometry))
