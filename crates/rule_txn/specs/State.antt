-- What stands in the arrays of a switch: pools, tables and units, and the steps that a row makes of them.
use Rattle.std.specs.Prelude.{◌≡◌, ℕ, ◌<◌, ◌≤◌, false, List, [], ◌∷◌, length, slice_set, Option, None, Some, IsSome, IsTrue, Contains}
use Rattle.std.specs.List.{list_any}
use Rattle.addr_translate.specs.Blocks.{Block}
use Rattle.addr_translate.specs.Geometry.{Geometry, group_number}
use Rattle.partition_pool.specs.Pools.{PoolState, least_bits}
use Rattle.partition_pool.specs.Pools as pools_in
use Rattle.partition_pool.specs.Regions.{free_block, put_by_base, without}
use Rattle.group_keys.specs.Units.{UsedUnit}
use Rattle.match_table.specs.declared.entries.Entry.{Entry}
use Rattle.match_table.specs.Tables.{EntryTable, has_base, admits}
use Rattle.pipe_core.specs.Rules.{table_at, units_of}
use Rattle.placer.specs.Placement.{pool_at}

-- the shape of the switch, the key of its hash, and what stands in its arrays and groups
pub record State : Type 0 where
  pub geometry : Geometry
  pub hash_key : List ℕ
  pub pools : List PoolState
  pub tables : List EntryTable
  pub groups : List (List (Option UsedUnit))

-- the elements that are there
abbrev pub there : {X : Type 0} → List (Option X) → List X
there [] = []
there (None ∷ xs) = there xs
there (Some x ∷ xs) = x ∷ there xs

-- a lease: the number of its pool, and its region
abbrev pub Lent : Type 0
Lent = pools_in.Holding

-- the units of the group in which an array stands
abbrev pub units_for : Geometry → List (List (Option UsedUnit)) → ℕ → List (Option UsedUnit)
units_for geometry groups array = units_of groups (group_number geometry array)

-- ---- pools

abbrev pub free_in : PoolState → ℕ → Option Block
free_in pool bits = free_block pool.taken pool.bits bits

abbrev pub with_region : List PoolState → ℕ → Block → List PoolState
with_region pools array region =
    let pool = pool_at pools array in slice_set pools array (record pool { taken = put_by_base region pool.taken })

abbrev pub less_region : List PoolState → ℕ → Block → List PoolState
less_region pools array region =
    let pool = pool_at pools array in slice_set pools array (record pool { taken = without region pool.taken })

-- the pool of this number has a free partition of 2 ^ bits registers
pub record Gives (bits : ℕ) (pools : List PoolState) (array : ℕ) : Type 0 where
  pub exists : array < length pools
  pub number : (pool_at pools array).number ≡ array
  pub least : least_bits (pool_at pools array) ≤ bits
  pub most : bits ≤ (pool_at pools array).bits
  pub free : IsSome (free_in (pool_at pools array) bits)

-- and it has given this region
pub record HasGiven (pools : List PoolState) (array : ℕ) (region : Block) : Type 0 where
  pub exists : array < length pools
  pub number : (pool_at pools array).number ≡ array
  pub taken : Contains (pool_at pools array).taken region

-- ---- tables

-- the table of this array, with room for so many entries, admits the entry
pub record Admits (room : ℕ) (tables : List EntryTable) (array : ℕ) (entry : Entry) : Type 0 where
  pub few : length (table_at tables array).entries < room
  pub apart : IsTrue (admits (table_at tables array).entries entry.filter)
  pub base : list_any (has_base entry.region.base) (table_at tables array).entries ≡ false

-- the table of this array has an entry with this base
abbrev pub HasEntry : List EntryTable → ℕ → ℕ → Type 0
HasEntry tables array base = IsTrue (list_any (has_base base) (table_at tables array).entries)
