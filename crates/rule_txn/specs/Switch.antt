-- What a switch keeps of its tasks.
use Rattle.std.specs.Prelude.{◌≡◌, ℕ, ◌*◌, ◌^◌, ◌≤◌, List, [], length, map}
use Rattle.std.specs.List.{range_with_len}
use Rattle.addr_translate.specs.Geometry.{Geometry, IsGeometry, array_count, bits_of}
use Rattle.partition_pool.specs.Pools.{PoolState}
use Rattle.match_table.specs.Tables.{EntryTable}
use Rattle.pipe_core.specs.Rules.{Rules, rules_of, first_rules}
use Rattle.switch_model.specs.Records.{Outline}
use Rattle.switch_model.specs.Sights.{Holding, Spot, GroupUse, all_held, all_spots, all_uses, taken_on, rules_on, units_on, by_place}
use Rattle.switch_model.specs.Soundness.{Sound}
use Rattle.rule_txn.specs.State.{State}
use Rattle.rule_txn.specs.Rows.{Groups}

-- the shape of a switch, the key of its hash, and its tasks, in order of their addition
pub record SwitchState : Type 0 where
  pub geometry : Geometry
  pub hash_key : List ℕ
  pub outlines : List Outline

-- ---- what stands in its arrays and groups

abbrev pub pool_for : Geometry → List Holding → ℕ → PoolState
pool_for geometry held array =
    record { number = array; bits = bits_of geometry array; split = geometry.split; taken = taken_on held array }

unfoldable pub pools_for : Geometry → List Holding → List PoolState
pools_for geometry held = map (pool_for geometry held) (range_with_len 0 (array_count geometry))

-- entries in the order of their bases: a table keeps them in the order in which they came
abbrev pub placed_table : EntryTable → EntryTable
placed_table table = record { room = table.room; entries = by_place table.entries }

abbrev pub table_for : Geometry → List Spot → ℕ → EntryTable
table_for geometry spots array = record { room = 2 ^ geometry.split; entries = by_place (rules_on spots array) }

unfoldable pub tables_for : Geometry → List Spot → List EntryTable
tables_for geometry spots = map (table_for geometry spots) (range_with_len 0 (array_count geometry))

unfoldable pub groups_for : Geometry → List GroupUse → Groups
groups_for geometry uses = map (units_on geometry uses) (range_with_len 0 (length geometry.groups))

-- rules that make of each packet what a switch in this state makes of it: entries stand in the order of their bases
abbrev pub rules_for : SwitchState → Rules
rules_for state = rules_of state.geometry state.hash_key (tables_for state.geometry (all_spots state.outlines))
    (groups_for state.geometry (all_uses state.geometry state.outlines))

-- pools, tables and units are those of the tasks
pub record Stands (outlines : List Outline) (state : State) : Type 0 where
  pub pools : state.pools ≡ pools_for state.geometry (all_held outlines)
  pub tables : map placed_table state.tables ≡ tables_for state.geometry (all_spots outlines)
  pub groups : state.groups ≡ groups_for state.geometry (all_uses state.geometry outlines)

-- so many records may be live: each has a partition of some array
abbrev pub most_records : Geometry → ℕ
most_records geometry = 2 ^ geometry.split * array_count geometry

-- what holds at all times, where there is memory for so many records
pub record IsSwitch (outlines : List Outline) (state : State) (capacity : ℕ) : Type 0 where
  pub limits : IsGeometry state.geometry
  pub sound : Sound state.geometry outlines
  pub stands : Stands outlines state
  pub room : most_records state.geometry ≤ capacity

-- before any task
abbrev pub first_state : Geometry → List ℕ → State
first_state geometry hash_key = record {
  geometry = geometry;
  hash_key = hash_key;
  pools = pools_for geometry [];
  tables = (first_rules geometry hash_key).tables;
  groups = (first_rules geometry hash_key).groups;
}
