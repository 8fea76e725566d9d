-- What a switch shows: the tasks and packets that registers stand for, and what read-outs see of it.
use Rattle.std.specs.Prelude.{◌≡◌, ℕ, ◌^◌, ◌==◌, List, map, count_by, Option, option_map, unwrap_or, Result, Ok, Err}
use Rattle.std.specs.List.{find, flat_map, range_with_len}
use Rattle.outside.specs.Told.{Told, Grows}
use Rattle.addr_translate.specs.Geometry.{Geometry, bits_of, least_bits_of}
use Rattle.partition_pool.specs.Nodes.{largest_free}
use Rattle.partition_pool.specs.Regions.{free_registers}
use Rattle.group_keys.specs.Units.{mask_of, unit_at}
use Rattle.pkt_headers.specs.declared.packets.Packet.{Packet}
use Rattle.reg_file.specs.declared.traits.Call.{Call}
use Rattle.reg_file.specs.Registers.{Contents}
use Rattle.sketch_defs.specs.Cells.{cells_of}
use Rattle.sketch_defs.specs.Tasks.{Sketch}
use Rattle.switch_model.specs.Records.{Past, Part, Row, Record, Outline, outlines}
use Rattle.switch_model.specs.Sights.{all_held, all_uses, taken_on, units_on}
use Rattle.switch_model.specs.Soundness.{Sound}
use Rattle.switch_model.specs.Changes.{Change, changed}
use Rattle.switch_model.specs.Packets.{join, calls_of, Layout}
use Rattle.readout.specs.declared.views.Placed.{Placed}
use Rattle.readout.specs.Parts.{Rows, SketchPart}
use Rattle.readout.specs.PlacedTasks.{PlacedTask, View}
use Rattle.rule_txn.specs.Switch.{SwitchState}

-- ---- registers

-- the tasks of the switch are sound, these packets came to them, and the registers hold their cells
pub record StandsFor (state : SwitchState) (records : List Record) (contents : Contents) : Type 0 where
  pub sound : Sound state.geometry (outlines records)
  pub same : state.outlines ≡ outlines records
  pub laid : Layout state.hash_key records contents

-- one packet passed: its calls are those of the tasks, and it joins the tasks that the registers stand for
pub record Passes (state : SwitchState) (packet : Packet) (records : List Record) (new_contents : Contents) (list new_list : Option (List Call)) : Type 0 where
  pub stands : StandsFor state (join packet records) new_contents
  pub calls : Grows list (calls_of state.geometry state.hash_key packet records) new_list

-- whatever tasks and packets the registers stood for, where they are told
abbrev pub PassesOver : SwitchState → Packet → Option Contents → Option Contents → Option (List Call) → Option (List Call) → Type 0
PassesOver state packet contents new_contents list new_list = (records : List Record)
    → Told (λ old new. StandsFor state records old → Passes state packet records new list new_list) contents new_contents

-- ---- what read-outs see

abbrev pub placed_row : Row → Placed
placed_row row = record { array = row.array; region = row.region; keys = row.keys; frozen = row.frozen }

abbrev pub placed_task : Outline → PlacedTask
placed_task o = record { task = o.task; places = map placed_row o.rows }

-- how many live rows stand on an array
abbrev pub rows_on : List Outline → ℕ → ℕ
rows_on all array = count_by (λ (row : Row). row.array == array) (flat_map (λ (o : Outline). o.rows) all)

abbrev pub view_of : SwitchState → View
view_of state = record {
  geometry = state.geometry;
  tasks = map placed_task state.outlines;
  mask = λ group unit. mask_of (unit_at (units_on state.geometry (all_uses state.geometry state.outlines) group) unit);
  free = λ array. free_registers (taken_on (all_held state.outlines) array) (bits_of state.geometry array);
  largest = λ array. largest_free (taken_on (all_held state.outlines) array) (bits_of state.geometry array) (least_bits_of state.geometry array);
  rows = rows_on state.outlines;
}

-- ---- tasks, apart from where they stand

-- the bits of a size that is a power of two, up to 2 ^ 20
abbrev pub bits_in : ℕ → ℕ
bits_in size = unwrap_or (find (λ bits. 2 ^ bits == size) (range_with_len 0 21)) 0

-- the cells of a task after these packets, in rows of this size
abbrev pub rows_shown : List ℕ → Sketch → ℕ → List Packet → Rows
rows_shown hash_key task size packets = record { bits = bits_in size; cells = cells_of hash_key task (bits_in size) packets }

abbrev pub past_shown : List ℕ → Sketch → Past → Rows
past_shown hash_key task past = rows_shown hash_key task past.size past.packets

abbrev pub part_shown : List ℕ → Part → SketchPart
part_shown hash_key part = record {
  task = part.task;
  live = rows_shown hash_key part.task part.task.size part.packets;
  frozen = option_map (past_shown hash_key part.task) part.past;
}

-- what read-outs see of these tasks, after their packets
abbrev pub parts_shown : List ℕ → List Record → List SketchPart
parts_shown hash_key records = map (λ (r : Record). part_shown hash_key r.part) records

-- ---- changes

-- the tasks with their packets after a change that was made; one that was refused leaves them as they were
abbrev pub records_after : {T F : Type 0} → Result T F → Geometry → Change → List Record → List Record
records_after (Ok t) geometry change records = changed geometry records change
records_after (Err fault) geometry change records = records
