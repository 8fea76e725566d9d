-- The live tasks of a switch: of each a sketch part, which knows nothing of places, and a row for each place.
use Rattle.std.specs.Prelude.{ℕ, List, Option, option_map, map}
use Rattle.addr_translate.specs.Blocks.{Block}
use Rattle.group_keys.specs.declared.uses.KeyUse.{KeyUse}
use Rattle.pkt_headers.specs.declared.packets.Packet.{Packet}
use Rattle.sketch_defs.specs.Tasks.{Sketch}

-- what a resize froze: rows of this size, and the packets that they counted
pub record Past : Type 0 where
  pub size : ℕ
  pub packets : List Packet

-- a task with its present size, and the packets that it counted since it began or was last resized
pub record Part : Type 0 where
  pub task : Sketch
  pub packets : List Packet
  pub past : Option Past

-- a unit, and the mask that a row has for it
pub record UnitMask : Type 0 where
  pub unit : ℕ
  pub mask : List ℕ

-- where a row stands: its array, its live region, the units that give its key, and the region that a resize froze
pub record Row : Type 0 where
  pub array : ℕ
  pub region : Block
  pub keys : KeyUse
  pub masks : List UnitMask
  pub frozen : Option Block

pub record Record : Type 0 where
  pub part : Part
  pub rows : List Row

-- a task, the size of its frozen rows, and where its rows stand: what a switch that keeps no packets knows
pub record Outline : Type 0 where
  pub task : Sketch
  pub frozen : Option ℕ
  pub rows : List Row

abbrev pub frozen_size : Part → Option ℕ
frozen_size part = option_map (λ (past : Past). past.size) part.past

abbrev pub outline : Record → Outline
outline r = record { task = r.part.task; frozen = frozen_size r.part; rows = r.rows }

abbrev pub outlines : List Record → List Outline
outlines records = map outline records
