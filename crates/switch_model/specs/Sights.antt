-- What the rows of tasks take of a switch: regions of arrays, entries of tables, uses of units.
use Rattle.std.specs.Prelude.{ℕ, ◌+◌, ◌==◌, nat_le, Bool, List, [], ◌∷◌, ◌++◌, length, map, filter, Option, None, Some}
use Rattle.std.specs.List.{filter_map, flat_map, range_with_len}
use Rattle.addr_translate.specs.Blocks.{Block}
use Rattle.addr_translate.specs.Geometry.{Geometry, array_count, group_in, group_number}
use Rattle.lists.specs.Sorting.{sort_by}
use Rattle.partition_pool.specs.Regions.{by_base}
use Rattle.group_keys.specs.Units.{UsedUnit}
use Rattle.match_table.specs.declared.entries.Entry.{Entry}
use Rattle.sketch_defs.specs.declared.kinds.Kind.{Kind}
use Rattle.sketch_defs.specs.declared.kinds.Kind.TheVariants.{Cms, SumaxSum, SumaxMax, Bloom, Mrac, Hll, FlagOr, FlagAnd}
use Rattle.sketch_defs.specs.Tasks.{Sketch}
use Rattle.sketch_lower.specs.Lowering.{entry_of}
use Rattle.placer.specs.Sights.{Sight}
use Rattle.switch_model.specs.Records.{Row, Outline, UnitMask}

-- ---- regions

-- a region of an array
pub record Holding : Type 0 where
  pub array : ℕ
  pub region : Block

abbrev pub live_holding : Row → Holding
live_holding row = record { array = row.array; region = row.region }

abbrev pub frozen_in : ℕ → Option Block → Option Holding
frozen_in array None = None
frozen_in array (Some region) = Some (record { array = array; region = region })

abbrev pub frozen_holding : Row → Option Holding
frozen_holding row = frozen_in row.array row.frozen

-- the live regions of a task, and behind them its frozen ones
abbrev pub held_in : List Row → List Holding
held_in rows = map live_holding rows ++ filter_map frozen_holding rows

abbrev pub held_by : Outline → List Holding
held_by o = held_in o.rows

unfoldable pub all_held : List Outline → List Holding
all_held outlines = flat_map held_by outlines

-- the taken regions of an array, by base
abbrev pub taken_on : List Holding → ℕ → List Block
taken_on held array = by_base (map (λ (h : Holding). h.region) (filter (λ (h : Holding). h.array == array) held))

-- ---- entries

-- an entry of an array
pub record Spot : Type 0 where
  pub array : ℕ
  pub entry : Entry

-- a row of SuMax-Sum finds the carry of the row before, if there is one
abbrev pub before_of : Kind → Option ℕ → Option ℕ
before_of Cms before = None
before_of SumaxSum before = before
before_of SumaxMax before = None
before_of Bloom before = None
before_of Mrac before = None
before_of Hll before = None
before_of FlagOr before = None
before_of FlagAnd before = None

abbrev pub spot_of : Sketch → ℕ → Option ℕ → Row → Spot
spot_of task i before row =
    record { array = row.array; entry = entry_of task i row.keys row.region (before_of task.kind before) }

-- the entries of rows, the first of which is the i-th and stands behind a row on this array
abbrev pub spots_from : Sketch → ℕ → Option ℕ → List Row → List Spot
spots_from task i before [] = []
spots_from task i before (row ∷ rows) = spot_of task i before row ∷ spots_from task (i + 1) (Some row.array) rows

abbrev pub spots_by : Outline → List Spot
spots_by o = spots_from o.task 0 None o.rows

unfoldable pub all_spots : List Outline → List Spot
all_spots outlines = flat_map spots_by outlines

-- the entries of an array, in order of addition of their tasks
abbrev pub rules_on : List Spot → ℕ → List Entry
rules_on spots array = map (λ (s : Spot). s.entry) (filter (λ (s : Spot). s.array == array) spots)

-- in the order of their bases, which tells tables apart that differ in more than the order of installation
abbrev pub starts_before : Entry → Entry → Bool
starts_before one two = nat_le one.region.base two.region.base

abbrev pub by_place : List Entry → List Entry
by_place entries = sort_by starts_before entries

-- ---- uses of units

-- a use of a unit of a group, with the mask of its row
pub record GroupUse : Type 0 where
  pub group : ℕ
  pub unit : ℕ
  pub mask : List ℕ

abbrev pub row_uses : Geometry → Row → List GroupUse
row_uses geometry row =
    map (λ (u : UnitMask). record { group = group_number geometry row.array; unit = u.unit; mask = u.mask }) row.masks

abbrev pub uses_by : Geometry → Outline → List GroupUse
uses_by geometry o = flat_map (row_uses geometry) o.rows

unfoldable pub all_uses : Geometry → List Outline → List GroupUse
all_uses geometry outlines = flat_map (uses_by geometry) outlines

-- a unit of these uses: free where there is none
abbrev pub used_from : List GroupUse → Option UsedUnit
used_from [] = None
used_from (first ∷ others) = Some (record { mask = first.mask; uses = 1 + length others })

abbrev pub unit_uses : List GroupUse → ℕ → List GroupUse
unit_uses uses unit = filter (λ (u : GroupUse). u.unit == unit) uses

abbrev pub group_uses : List GroupUse → ℕ → List GroupUse
group_uses uses group = filter (λ (u : GroupUse). u.group == group) uses

-- so many units, by the uses of their group
abbrev pub units_from : ℕ → List GroupUse → List (Option UsedUnit)
units_from count uses = map (λ unit. used_from (unit_uses uses unit)) (range_with_len 0 count)

abbrev pub units_on : Geometry → List GroupUse → ℕ → List (Option UsedUnit)
units_on geometry uses group = units_from (group_in geometry group).units (group_uses uses group)

-- ---- all of it

-- what a placement sees of these tasks
unfoldable pub sight_of : Geometry → List Outline → Sight
sight_of geometry outlines = record {
  rules = map (rules_on (all_spots outlines)) (range_with_len 0 (array_count geometry));
  units = map (units_on geometry (all_uses geometry outlines)) (range_with_len 0 (length geometry.groups));
  taken = map (taken_on (all_held outlines)) (range_with_len 0 (array_count geometry));
}
