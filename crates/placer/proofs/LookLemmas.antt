-- What the code looks at is what the sight shows.
use Rattle.std.proofs.Common.{◌≡◌, ◌≢◌, ℕ, ◌-◌, ◌<◌, ◌≤◌, ◌&&◌, Bool, true, false, if◌then◌else◌, eqb, List, [], length, get_or, Option, None, is_some, refl, ap, ap₂, sym, ◌∙◌, arith}
use Rattle.std.specs.List.{All, AllPairs, list_any}
use Rattle.std.proofs.lemmas.Bool.{eqb-true}
use Rattle.std.proofs.lemmas.Bool.Decides.{Decides-eqb}
use Rattle.std.proofs.lemmas.List.{get_or-map, get_or_read}
use Rattle.std.proofs.lemmas.List.Folds.{Any-from_list_any}
use Rattle.std.proofs.lemmas.Map.Made.{IsDistinct-from_AllPairs}
use Rattle.std.proofs.lemmas.Map.Steps.{length-le_from_distinct_below}
use Rattle.addr_translate.specs.Blocks.{Block}
use Rattle.addr_translate.specs.declared.shapes.GroupShape.{GroupShape}
use Rattle.addr_translate.specs.Geometry.{Geometry, array_count, bits_of, equal_geometry, group_number, least_bits_of}
use Rattle.addr_translate.proofs.GeometryLemmas.{equal_bits}
use Rattle.partition_pool.specs.Pools.{PoolState, least_bits}
use Rattle.group_keys.specs.Units.{UsedUnit, keys_for}
use Rattle.group_keys.specs.declared.uses.KeyUse.{KeyUse}
use Rattle.match_table.specs.declared.entries.Entry.{Entry}
use Rattle.match_table.specs.Tables.{EntryTable, admits}
use Rattle.sketch_defs.specs.Tasks.{Sketch}
use Rattle.placer.specs.Sights.{Sight, rules_at, units_at, taken_at, region_in, region_for}
use Rattle.placer.specs.Placement.{sight_in, is_open, no_pool, place_of, place_on, pool_at}

rules_seen : (tables : List EntryTable) (units : List (List (Option UsedUnit))) (pools : List PoolState) (k : ℕ)
    (table : EntryTable)
    → k < length tables → table ≡ get_or tables k table
    → rules_at (sight_in tables units pools) k ≡ table.entries
rules_seen tables units pools k table within e =
    get_or-map (λ (t : EntryTable). t.entries) tables k table [] within
    ∙ ap (λ (t : EntryTable). t.entries) (sym e)

taken_seen : (tables : List EntryTable) (units : List (List (Option UsedUnit))) (pools : List PoolState) (k : ℕ)
    (pool : PoolState)
    → k < length pools → pool ≡ get_or pools k pool → taken_at (sight_in tables units pools) k ≡ pool.taken
taken_seen tables units pools k pool within e =
    get_or-map (λ (p : PoolState). p.taken) pools k pool [] within ∙ ap (λ (p : PoolState). p.taken) (sym e)

open_by : (b : Bool) (o : Option KeyUse) → is_some (if b then o else None) ≡ (b && is_some o)
open_by true o = refl
open_by false o = refl

place_by : (b : Bool) (array : ℕ) (o : Option KeyUse) (region : Option Block)
    → place_of array (if b then o else None) region ≡ (if b then place_of array o region else None)
place_by true array o region = refl
place_by false array o region = refl

-- what the array's table and group, and the group's units are
pub record Looks (geometry : Geometry) (tables : List EntryTable) (units : List (List (Option UsedUnit)))
    (array : ℕ)
    (table : EntryTable) (group : List (Option UsedUnit)) : Type 0 where
  pub table_exists : array < length tables
  pub table_is : table ≡ get_or tables array table
  pub group_exists : group_number geometry array < length units
  pub group_is : group ≡ get_or units (group_number geometry array) group

pub keys_seen : (geometry : Geometry) (tables : List EntryTable) (units : List (List (Option UsedUnit)))
    (pools : List PoolState)
    (task : Sketch) (array : ℕ) (table : EntryTable) (group : List (Option UsedUnit))
    → Looks geometry tables units array table group
    → (if admits table.entries task.filter then keys_for group task.key else None)
    ≡ (if admits (rules_at (sight_in tables units pools) array) task.filter then keys_for (units_at geometry (sight_in tables units pools) array) task.key else None)
keys_seen geometry tables units pools task array table group looks =
    ap₂ (λ (entries : List Entry) (us : List (Option UsedUnit)). if admits entries task.filter then keys_for us task.key else None)
    (sym (rules_seen tables units pools array table looks.table_exists looks.table_is))
    (get_or_read units (group_number geometry array) group looks.group_exists looks.group_is [])

pub open_seen : (geometry : Geometry) (tables : List EntryTable) (units : List (List (Option UsedUnit)))
    (pools : List PoolState)
    (task : Sketch) (array : ℕ) (table : EntryTable) (group : List (Option UsedUnit)) (keys : Option KeyUse)
    → Looks geometry tables units array table group
    → keys ≡ (if admits table.entries task.filter then keys_for group task.key else None)
    → is_some keys ≡ is_open geometry (sight_in tables units pools) task array
open_seen geometry tables units pools task array table group keys looks e =
    ap is_some (e ∙ keys_seen geometry tables units pools task array table group looks)
    ∙ open_by (admits (rules_at (sight_in tables units pools) array) task.filter)
    (keys_for (units_at geometry (sight_in tables units pools) array) task.key)

pub place_seen : (geometry : Geometry) (tables : List EntryTable) (units : List (List (Option UsedUnit)))
    (pools : List PoolState)
    (task : Sketch) (bits array : ℕ) (table : EntryTable) (group : List (Option UsedUnit)) (pool : PoolState)
    (keys : Option KeyUse) (region : Option Block)
    → Looks geometry tables units array table group → array < length pools → pool ≡ get_or pools array pool
    → pool.bits ≡ bits_of geometry array → pool.split ≡ geometry.split
    → keys ≡ (if admits table.entries task.filter then keys_for group task.key else None)
    → region ≡ region_in pool.bits (least_bits pool) pool.taken bits
    → place_of array keys region ≡ place_on geometry (sight_in tables units pools) task bits array
place_seen geometry tables units pools task bits array table group pool keys region looks within pool_is same_bits same_split e r =
    let sight : Sight = sight_in tables units pools in
    let least : least_bits pool ≡ least_bits_of geometry array = ap₂ (λ a b. a - b) same_bits same_split in
    let whole : region ≡ region_for geometry sight bits array =
    r ∙ ap (λ n. region_in n (least_bits pool) pool.taken bits) same_bits
    ∙ ap₂ (λ n taken. region_in (bits_of geometry array) n taken bits) least
    (sym (taken_seen tables units pools array pool within pool_is)) in
    ap₂ (place_of array) (e ∙ keys_seen geometry tables units pools task array table group looks) whole
    ∙ place_by (admits (rules_at sight array) task.filter) array
    (keys_for (units_at geometry sight array) task.key) (region_for geometry sight bits array)

-- numbers that differ are no more than the numbers below their limit
pub few_distinct : (xs : List ℕ) (n : ℕ) → AllPairs (λ x y. x ≢ y) xs → All (λ x. x < n) xs → length xs ≤ n
few_distinct xs n differ below = length-le_from_distinct_below xs n
    (IsDistinct-from_AllPairs Decides-eqb xs differ) by where
      by : (q : ℕ) → list_any (eqb q) xs ≡ true → q < n
      by q found =
          let here = Any-from_list_any (eqb q) xs found in
          let same : q ≡ here.1 = eqb-true q here.1 here.4 in
          let small : get_or xs here.0 here.1 < n = below here.0 here.1 here.2 in
          omega (arith, same, small, here.3)

-- pools of equal bits are those of equal groups
pub equal_pools : (count : ℕ) (group : GroupShape) (split : ℕ) (pools : List PoolState)
    → length pools ≡ array_count (equal_geometry count group split)
    → All (λ pool. pool.bits ≡ group.bits) pools
    → (array : ℕ) → array < array_count (equal_geometry count group split)
    → (pool_at pools array).bits ≡ bits_of (equal_geometry count group split) array
equal_pools count group split pools long alike array within =
    alike array no_pool (omega (arith, within, long)) ∙ sym (equal_bits count group split array within)
