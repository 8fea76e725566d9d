-- What a stage shows of leases that it gave, and of places for rows.
use Rattle.std.specs.Prelude.{◌≡◌, ℕ, ◌<◌, ◌^◌, List, [], ◌∷◌, length, map, Option, None, Some, IfSome, option_map, Result, Ok, Err}
use Rattle.std.specs.List.{All}
use Rattle.addr_translate.specs.Geometry.{Geometry, array_count, bits_of}
use Rattle.partition_pool.specs.Pools.{PoolState}
use Rattle.group_keys.specs.Units.{UsedUnit, unit_at, units_in}
use Rattle.group_keys.specs.declared.uses.KeyUse.{KeyUse}
use Rattle.group_keys.specs.declared.uses.KeyUse.TheVariants as uses
use Rattle.pipe_core.specs.Rules.{Rules, rules_of}
use Rattle.placer.specs.declared.places.Place.{Place}
use Rattle.placer.specs.declared.places.Refusal.{Refusal}
use Rattle.placer.specs.Placement.{pool_at}
use Rattle.switch_model.specs.Records.{Row}
use Rattle.switch_model.specs.Changes.{mask_in}
use Rattle.rule_txn.specs.declared.rows.Served.{Served}
use Rattle.rule_txn.specs.declared.rows.Served.TheVariants.{Single, Pair}
use Rattle.rule_txn.specs.State.{State, Lent, there, units_for}
use Rattle.rule_txn.specs.Rows.{Groups, with_lease}

-- what the pipe has of it
abbrev pub rules_in : State → Rules
rules_in state = rules_of state.geometry state.hash_key state.tables state.groups

-- ---- planned places

-- a refusal, or the places that are there
abbrev pub found_in : Result (List (Option Place)) Refusal → Result (List Place) Refusal
found_in (Ok places) = Ok (there places)
found_in (Err why) = Err why

abbrev pub place_array : Option Place → Option ℕ
place_array place = option_map (λ (p : Place). p.array) place

-- the pools of all arrays, as the geometry has them
pub record ArePools (geometry : Geometry) (pools : List PoolState) : Type 0 where
  pub count : length pools ≡ array_count geometry
  pub bits : (array : ℕ) → array < array_count geometry → (pool_at pools array).bits ≡ bits_of geometry array
  pub split : All (λ (pool : PoolState). pool.split ≡ geometry.split) pools

-- ---- the units of planned rows

-- the units of a use, each with the mask that a row with this key has for it
abbrev pub served_by : List (Option UsedUnit) → List ℕ → KeyUse → Served
served_by units key (uses.Single unit) = Single unit (mask_in key (unit_at units unit))
served_by units key (uses.Pair one two) = Pair one (mask_in key (unit_at units one)) two (mask_in key (unit_at units two))

abbrev pub served_on : Geometry → Groups → List ℕ → Option Place → Option Served
served_on geometry groups key place =
    option_map (λ (p : Place). served_by (units_for geometry groups p.array) key p.keys) place

-- the array of the place is there, and so are its units
pub record IsPlace (geometry : Geometry) (groups : Groups) (place : Place) : Type 0 where
  pub array : place.array < array_count geometry
  pub units : All (λ unit. unit < length (units_for geometry groups place.array)) (units_in place.keys)

abbrev pub ArePlaces : Geometry → Groups → List (Option Place) → Type 0
ArePlaces geometry groups [] = Unit {0}
ArePlaces geometry groups (place ∷ rest) = IfSome place (IsPlace geometry groups) × ArePlaces geometry groups rest

-- ---- rows that are there

abbrev pub arrays_there : List (Option Row) → List ℕ
arrays_there rows = map (λ (row : Row). row.array) (there rows)
