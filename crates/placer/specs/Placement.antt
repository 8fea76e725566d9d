-- The placement rule: where the rows of a new task go, or how many arrays there are too few.
use Rattle.std.specs.Prelude.{ℕ, ◌==◌, ◌&&◌, Bool, not, nat_lt, is_some, if◌then◌else◌, List, [], ◌∷◌, length, map, take, filter, position, slice_index_or, Option, None, Some, Result, Ok, Err}
use Rattle.std.specs.List.{filter_map, range_with_len}
use Rattle.addr_translate.specs.Blocks.{Block}
use Rattle.addr_translate.specs.Geometry.{Geometry, array_count, group_number}
use Rattle.partition_pool.specs.Pools.{PoolState, least_bits}
use Rattle.group_keys.specs.Units.{UsedUnit, keys_for}
use Rattle.group_keys.specs.declared.uses.KeyUse.{KeyUse}
use Rattle.match_table.specs.Tables.{EntryTable, admits}
use Rattle.sketch_defs.specs.declared.kinds.Kind.{Kind}
use Rattle.sketch_defs.specs.declared.kinds.Kind.TheVariants.{Cms, SumaxSum, SumaxMax, Bloom, Mrac, Hll, FlagOr, FlagAnd}
use Rattle.sketch_defs.specs.Tasks.{Sketch}
use Rattle.placer.specs.declared.places.Place.{Place}
use Rattle.placer.specs.declared.places.Refusal.{Refusal}
use Rattle.placer.specs.declared.places.Refusal.TheVariants.{NoUnit, NoPartition}
use Rattle.placer.specs.Sights.{Sight, rules_at, units_at, region_in, region_for}

-- what tables, units and pools show
abbrev pub sight_in : List EntryTable → List (List (Option UsedUnit)) → List PoolState → Sight
sight_in tables units pools =
    record { rules = map (λ t. t.entries) tables; units = units; taken = map (λ p. p.taken) pools }

-- the array's entries leave the filter room, and its group gives the key
abbrev pub is_open : Geometry → Sight → Sketch → ℕ → Bool
is_open geometry sight task array =
    admits (rules_at sight array) task.filter && is_some (keys_for (units_at geometry sight array) task.key)

abbrev pub place_of : ℕ → Option KeyUse → Option Block → Option Place
place_of array None region = None
place_of array (Some keys) None = None
place_of array (Some keys) (Some region) = Some (record { array = array; keys = keys; region = region })

-- where a row stands on an array that is open and has a free partition: in the lowest, with the units that give the key
abbrev pub place_on : Geometry → Sight → Sketch → ℕ → ℕ → Option Place
place_on geometry sight task bits array =
    if admits (rules_at sight array) task.filter
    then place_of array (keys_for (units_at geometry sight array) task.key) (region_for geometry sight bits array)
    else None

-- of elements that stand in order, the first of each group
abbrev pub first_of_groups : {X : Type 0} → (X → ℕ) → List X → List X
first_of_groups group [] = []
first_of_groups group (x ∷ xs) = x ∷ filter (λ y. not (group y == group x)) (first_of_groups group xs)

-- SuMax-Sum counts groups: its rows stand in different ones
abbrev pub counted : {X : Type 0} → Kind → (X → ℕ) → List X → List X
counted Cms group xs = xs
counted SumaxSum group xs = first_of_groups group xs
counted SumaxMax group xs = xs
counted Bloom group xs = xs
counted Mrac group xs = xs
counted Hll group xs = xs
counted FlagOr group xs = xs
counted FlagAnd group xs = xs

-- the arrays that are open to the task
unfoldable pub open_arrays : Geometry → Sight → Sketch → List ℕ
open_arrays geometry sight task =
    counted task.kind (group_number geometry)
    (filter (is_open geometry sight task) (range_with_len 0 (array_count geometry)))

-- the places on all arrays that are open and roomy
unfoldable pub places_for : Geometry → Sight → Sketch → ℕ → List Place
places_for geometry sight task bits =
    counted task.kind (λ place. group_number geometry place.array)
    (filter_map (place_on geometry sight task bits) (range_with_len 0 (array_count geometry)))

-- the first places, one a row, where its rows have 2 ^ bits cells; or how many rows there are, and how many arrays for them
unfoldable pub placed : Geometry → Sight → Sketch → ℕ → Result (List Place) Refusal
placed geometry sight task bits =
    let have = length (open_arrays geometry sight task) in
    let places = places_for geometry sight task bits in
    if nat_lt have task.rows then Err (NoUnit task.rows have)
    else (if nat_lt (length places) task.rows then Err (NoPartition task.rows (length places)) else Ok (take task.rows places))

-- ---- rows that move to another size

-- what stands where there is no pool
abbrev pub no_pool : PoolState
no_pool = record { number = 0; bits = 0; split = 0; taken = [] }

abbrev pub pool_at : List PoolState → ℕ → PoolState
pool_at pools array = slice_index_or pools array no_pool

-- the array's pool has no free partition of 2 ^ bits registers
abbrev pub is_full : List PoolState → ℕ → ℕ → Bool
is_full pools bits array =
    let pool = pool_at pools array in not (is_some (region_in pool.bits (least_bits pool) pool.taken bits))

-- the first of these arrays that has none
abbrev pub first_full : List PoolState → ℕ → List ℕ → Option ℕ
first_full pools bits arrays = position (is_full pools bits) arrays
