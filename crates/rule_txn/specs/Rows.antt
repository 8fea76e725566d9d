-- Rows of a task that take, settle, move and go, one after another. There are at most four; a place may be empty.
use Rattle.std.specs.Prelude.{◌≡◌, ℕ, ◌+◌, ◌<◌, ◌^◌, ◌↔◌, List, [], ◌∷◌, length, map, slice_index_or, Option, None, Some, IsSome, option_map}
use Rattle.std.specs.List.{All}
use Rattle.addr_translate.specs.Blocks.{Block}
use Rattle.addr_translate.specs.Geometry.{Geometry, array_count, group_number}
use Rattle.partition_pool.specs.Pools.{PoolState}
use Rattle.group_keys.specs.Units.{UsedUnit, HasRoom, AreInUse, keys_for}
use Rattle.group_keys.specs.declared.uses.KeyUse.{KeyUse}
use Rattle.group_keys.specs.declared.uses.KeyUse.TheVariants as uses
use Rattle.match_table.specs.declared.entries.Entry.{Entry}
use Rattle.match_table.specs.Tables.{EntryTable}
use Rattle.sketch_defs.specs.Tasks.{Sketch}
use Rattle.pipe_core.specs.Rules.{Fits, installed, uninstalled, served_in, freed_in}
use Rattle.placer.specs.Placement.{pool_at}
use Rattle.switch_model.specs.Records.{UnitMask, Row}
use Rattle.switch_model.specs.Sights.{spot_of}
use Rattle.switch_model.specs.Changes.{moved_row, thawed_row}
use Rattle.rule_txn.specs.declared.rows.Served.{Served}
use Rattle.rule_txn.specs.declared.rows.Served.TheVariants.{Single, Pair}
use Rattle.rule_txn.specs.declared.rows.Turn.{Turn}
use Rattle.rule_txn.specs.State.{Lent, free_in, with_region, less_region, Gives, HasGiven, units_for, Admits, HasEntry}

abbrev pub keys_in : Served → KeyUse
keys_in (Single unit mask) = uses.Single unit
keys_in (Pair one one_mask two two_mask) = uses.Pair one two

abbrev pub masks_in : Served → List UnitMask
masks_in (Single unit mask) = record { unit = unit; mask = mask } ∷ []
masks_in (Pair one one_mask two two_mask) = record { unit = one; mask = one_mask } ∷ record { unit = two; mask = two_mask } ∷ []

abbrev pub region_held : Option Lent → Option Block
region_held lease = option_map (λ (l : Lent). l.region) lease

-- ---- leases that are taken and given back

-- the lease that an array gives
abbrev pub next_lease : ℕ → List PoolState → Option ℕ → Option Lent
next_lease bits pools None = None
next_lease bits pools (Some array) =
    option_map (λ (region : Block). record { pool = array; region = region }) (free_in (pool_at pools array) bits)

abbrev pub with_lease : List PoolState → Option Lent → List PoolState
with_lease pools None = pools
with_lease pools (Some lease) = with_region pools lease.pool lease.region

abbrev pub less_lease : List PoolState → Option Lent → List PoolState
less_lease pools None = pools
less_lease pools (Some lease) = less_region pools lease.pool lease.region

-- the leases that these arrays give, one after another
abbrev pub fresh_leases : ℕ → List PoolState → List (Option ℕ) → List (Option Lent)
fresh_leases bits pools [] = []
fresh_leases bits pools (array ∷ rest) =
    let lease = next_lease bits pools array in lease ∷ fresh_leases bits (with_lease pools lease) rest

abbrev pub taken : List (Option Lent) → List PoolState → List PoolState
taken [] pools = pools
taken (lease ∷ rest) pools = taken rest (with_lease pools lease)

abbrev pub given : List (Option Lent) → List PoolState → List PoolState
given [] pools = pools
given (lease ∷ rest) pools = given rest (less_lease pools lease)

-- the last first
abbrev pub given_back : List (Option Lent) → List PoolState → List PoolState
given_back [] pools = pools
given_back (lease ∷ rest) pools = less_lease (given_back rest pools) lease

abbrev pub GivesAt : ℕ → List PoolState → Option ℕ → Type 0
GivesAt bits pools None = Unit {0}
GivesAt bits pools (Some array) = Gives bits pools array

abbrev pub CanTake : ℕ → List PoolState → List (Option ℕ) → Type 0
CanTake bits pools [] = Unit {0}
CanTake bits pools (array ∷ rest) = GivesAt bits pools array × CanTake bits (with_lease pools (next_lease bits pools array)) rest

abbrev pub IsLent : List PoolState → Option Lent → Type 0
IsLent pools None = Unit {0}
IsLent pools (Some lease) = HasGiven pools lease.pool lease.region

abbrev pub CanGive : List PoolState → List (Option Lent) → Type 0
CanGive pools [] = Unit {0}
CanGive pools (lease ∷ rest) = IsLent pools lease × CanGive (less_lease pools lease) rest

abbrev pub CanGiveBack : List PoolState → List (Option Lent) → Type 0
CanGiveBack pools [] = Unit {0}
CanGiveBack pools (lease ∷ rest) = CanGiveBack pools rest × IsLent (given_back rest pools) lease

-- ---- rows and their leases

abbrev pub row_array : Option Row → Option ℕ
row_array row = option_map (λ (r : Row). r.array) row

abbrev pub live_lease : Option Row → Option Lent
live_lease None = None
live_lease (Some row) = Some (record { pool = row.array; region = row.region })

abbrev pub frozen_in : ℕ → Option Block → Option Lent
frozen_in array region = option_map (λ (r : Block). record { pool = array; region = r }) region

abbrev pub frozen_lease : Option Row → Option Lent
frozen_lease None = None
frozen_lease (Some row) = frozen_in row.array row.frozen

abbrev pub lives : List (Option Row) → List (Option Lent)
lives rows = map live_lease rows

abbrev pub frozens : List (Option Row) → List (Option Lent)
frozens rows = map frozen_lease rows

-- a row on a lease, with these units
abbrev pub leased_row : Option Served → Option Lent → Option Row
leased_row served None = None
leased_row None (Some lease) = None
leased_row (Some served) (Some lease) = Some (record {
  array = lease.pool;
  region = lease.region;
  keys = keys_in served;
  masks = masks_in served;
  frozen = None;
})

-- the k-th units go with the first lease
abbrev pub leased_rows : List (Option Served) → ℕ → List (Option Lent) → List (Option Row)
leased_rows served k [] = []
leased_rows served k (lease ∷ rest) = leased_row (slice_index_or served k None) lease ∷ leased_rows served (k + 1) rest

abbrev pub IsServed : Option Served → Option Lent → Type 0
IsServed served None = Unit {0}
IsServed served (Some lease) = IsSome served

abbrev pub AreServed : List (Option Served) → ℕ → List (Option Lent) → Type 0
AreServed served k [] = Unit {0}
AreServed served k (lease ∷ rest) = IsServed (slice_index_or served k None) lease × AreServed served (k + 1) rest

-- a row on a new lease of its array, with the old one frozen
abbrev pub moved_to : Option Row → Option Lent → Option Row
moved_to row None = row
moved_to None (Some lease) = None
moved_to (Some row) (Some lease) = Some (moved_row row lease.region)

abbrev pub moved_all : List (Option Row) → List (Option Lent) → List (Option Row)
moved_all [] leases = []
moved_all (row ∷ rows) [] = []
moved_all (row ∷ rows) (lease ∷ rest) = moved_to row lease ∷ moved_all rows rest

-- the lease is of the row's array, and the row has nothing frozen
pub record MovesTo (row : Row) (lease : Lent) : Type 0 where
  pub same : lease.pool ≡ row.array
  pub thawed : row.frozen ≡ None

abbrev pub CanMove : Option Row → Option Lent → Type 0
CanMove row None = Unit {0}
CanMove None (Some lease) = ⊥
CanMove (Some row) (Some lease) = MovesTo row lease

abbrev pub CanMoveAll : List (Option Row) → List (Option Lent) → Type 0
CanMoveAll [] leases = Unit {0}
CanMoveAll (row ∷ rows) [] = Unit {0}
CanMoveAll (row ∷ rows) (lease ∷ rest) = CanMove row lease × CanMoveAll rows rest

abbrev pub thawed : List (Option Row) → List (Option Row)
thawed rows = map (option_map thawed_row) rows

-- ---- units

abbrev pub Groups : Type 0
Groups = List (List (Option UsedUnit))

abbrev pub with_use : Geometry → List ℕ → Groups → Option Row → Groups
with_use geometry key groups None = groups
with_use geometry key groups (Some row) =
    served_in groups (group_number geometry row.array) row.keys key

abbrev pub with_uses : Geometry → List ℕ → Groups → List (Option Row) → Groups
with_uses geometry key groups [] = groups
with_uses geometry key groups (row ∷ rows) = with_uses geometry key (with_use geometry key groups row) rows

abbrev pub less_use : Geometry → Groups → Option Row → Groups
less_use geometry groups None = groups
less_use geometry groups (Some row) =
    freed_in groups (group_number geometry row.array) row.keys

abbrev pub less_uses : Geometry → Groups → List (Option Row) → Groups
less_uses geometry groups [] = groups
less_uses geometry groups (row ∷ rows) = less_uses geometry (less_use geometry groups row) rows

-- the group of the row's array gives the key by the row's units
pub record Serves (geometry : Geometry) (key : List ℕ) (groups : Groups) (row : Row) : Type 0 where
  pub array : row.array < array_count geometry
  pub group : group_number geometry row.array < length groups
  pub room : All HasRoom (units_for geometry groups row.array)
  pub keys : keys_for (units_for geometry groups row.array) key ≡ Some row.keys

abbrev pub CanServe : Geometry → List ℕ → Groups → Option Row → Type 0
CanServe geometry key groups None = Unit {0}
CanServe geometry key groups (Some row) = Serves geometry key groups row

abbrev pub CanServeAll : Geometry → List ℕ → Groups → List (Option Row) → Type 0
CanServeAll geometry key groups [] = Unit {0}
CanServeAll geometry key groups (row ∷ rows) =
    CanServe geometry key groups row × CanServeAll geometry key (with_use geometry key groups row) rows

-- the row's units are in use
pub record Frees (geometry : Geometry) (groups : Groups) (row : Row) : Type 0 where
  pub array : row.array < array_count geometry
  pub group : group_number geometry row.array < length groups
  pub in_use : AreInUse (units_for geometry groups row.array) row.keys

abbrev pub CanFree : Geometry → Groups → Option Row → Type 0
CanFree geometry groups None = Unit {0}
CanFree geometry groups (Some row) = Frees geometry groups row

abbrev pub CanFreeAll : Geometry → Groups → List (Option Row) → Type 0
CanFreeAll geometry groups [] = Unit {0}
CanFreeAll geometry groups (row ∷ rows) = CanFree geometry groups row × CanFreeAll geometry (less_use geometry groups row) rows

-- ---- entries

abbrev pub first_turn : Turn
first_turn = record { row = 0; before = None }

abbrev pub turn_after : Turn → Option Row → Turn
turn_after turn None = turn
turn_after turn (Some row) = record { row = turn.row + 1; before = Some row.array }

abbrev pub entry_for : Sketch → Turn → Row → Entry
entry_for task turn row = (spot_of task turn.row turn.before row).entry

abbrev pub with_row : Sketch → Turn → List EntryTable → Option Row → List EntryTable
with_row task turn tables None = tables
with_row task turn tables (Some row) = installed tables row.array (entry_for task turn row)

abbrev pub with_rows : Sketch → Turn → List EntryTable → List (Option Row) → List EntryTable
with_rows task turn tables [] = tables
with_rows task turn tables (row ∷ rows) = with_rows task (turn_after turn row) (with_row task turn tables row) rows

abbrev pub less_row : List EntryTable → Option Row → List EntryTable
less_row tables None = tables
less_row tables (Some row) = uninstalled tables row.array row.region.base

abbrev pub less_rows : List EntryTable → List (Option Row) → List EntryTable
less_rows tables [] = tables
less_rows tables (row ∷ rows) = less_rows (less_row tables row) rows

-- the row's entry can be installed
pub record Settles (geometry : Geometry) (task : Sketch) (turn : Turn) (tables : List EntryTable) (row : Row) : Type 0 where
  pub few : turn.row < task.rows
  pub first : (turn.before ≡ None) ↔ (turn.row ≡ 0)
  pub array : row.array < array_count geometry
  pub fits : Fits geometry row.array (entry_for task turn row)
  pub table : Admits (2 ^ geometry.split) tables row.array (entry_for task turn row)

abbrev pub CanSettle : Geometry → Sketch → Turn → List EntryTable → Option Row → Type 0
CanSettle geometry task turn tables None = Unit {0}
CanSettle geometry task turn tables (Some row) = Settles geometry task turn tables row

abbrev pub CanSettleAll : Geometry → Sketch → Turn → List EntryTable → List (Option Row) → Type 0
CanSettleAll geometry task turn tables [] = Unit {0}
CanSettleAll geometry task turn tables (row ∷ rows) =
    CanSettle geometry task turn tables row × CanSettleAll geometry task (turn_after turn row) (with_row task turn tables row) rows

-- the row has an entry in the table of its array
pub record Leaves (geometry : Geometry) (tables : List EntryTable) (row : Row) : Type 0 where
  pub array : row.array < array_count geometry
  pub entry : HasEntry tables row.array row.region.base

abbrev pub CanLeave : Geometry → List EntryTable → Option Row → Type 0
CanLeave geometry tables None = Unit {0}
CanLeave geometry tables (Some row) = Leaves geometry tables row

abbrev pub CanLeaveAll : Geometry → List EntryTable → List (Option Row) → Type 0
CanLeaveAll geometry tables [] = Unit {0}
CanLeaveAll geometry tables (row ∷ rows) = CanLeave geometry tables row × CanLeaveAll geometry (less_row tables row) rows
