-- What holds of the tasks of a switch at all times.
use Rattle.std.specs.Prelude.{◌≡◌, ◌≢◌, ℕ, ◌<◌, ◌^◌, true, List, [], ◌∷◌, length, map, None, IfSome, IsSome, IsTrue, option_map}
use Rattle.std.specs.List.{All, AllPairs}
use Rattle.addr_translate.specs.Blocks.{Block}
use Rattle.addr_translate.specs.Geometry.{Geometry, array_count, bits_of, least_bits_of, group_in, group_number}
use Rattle.key_mask.specs.Masks.{no_lengths}
use Rattle.partition_pool.specs.Regions.{IsPartition, are_apart}
use Rattle.group_keys.specs.Units.{units_in, masks_xor_to}
use Rattle.task_filters.specs.Filters.{are_disjoint}
use Rattle.sketch_defs.specs.declared.kinds.Kind.{Kind}
use Rattle.sketch_defs.specs.declared.kinds.Kind.TheVariants.{Cms, SumaxSum, SumaxMax, Bloom, Mrac, Hll, FlagOr, FlagAnd}
use Rattle.sketch_defs.specs.Tasks.{first_fault}
use Rattle.placer.specs.Sights.{bits_for}
use Rattle.switch_model.specs.Records.{Row, Outline, UnitMask}
use Rattle.switch_model.specs.Sights.{Holding, Spot, GroupUse, all_held, all_spots, all_uses}

-- ---- a row by itself

-- a partition of the array
abbrev pub IsPartOf : Geometry → ℕ → Block → Type 0
IsPartOf geometry array region = IsPartition (least_bits_of geometry array) (bits_of geometry array) region

abbrev pub size_of : Block → ℕ
size_of region = 2 ^ region.bits

-- these units give the key: one that has its mask, or two whose masks XOR to it
abbrev pub GiveKey : List UnitMask → List ℕ → Type 0
GiveKey [] key = ⊥
GiveKey (one ∷ []) key = one.mask ≡ key
GiveKey (one ∷ (two ∷ [])) key = IsTrue (masks_xor_to key one.mask two.mask)
GiveKey (one ∷ (two ∷ (three ∷ others))) key = ⊥

pub record IsRow (geometry : Geometry) (o : Outline) (row : Row) : Type 0 where
  pub array : row.array < array_count geometry
  pub live : IsPartOf geometry row.array row.region
  pub live_size : size_of row.region ≡ o.task.size
  pub frozen : IfSome row.frozen (IsPartOf geometry row.array)
  pub frozen_size : option_map size_of row.frozen ≡ o.frozen
  pub units : map (λ (u : UnitMask). u.unit) row.masks ≡ units_in row.keys
  pub exist : All (λ (u : UnitMask). u.unit < (group_in geometry (group_number geometry row.array)).units) row.masks
  pub apart : AllPairs (λ (one two : UnitMask). one.unit ≢ two.unit) row.masks
  pub stand : All (λ (u : UnitMask). u.mask ≢ no_lengths) row.masks
  pub key : GiveKey row.masks o.task.key

-- ---- a task by itself

-- its rows stand in rising arrays, and those of SuMax-Sum in rising groups
abbrev pub RisesIn : Geometry → Kind → Row → Row → Type 0
RisesIn geometry Cms one two = one.array < two.array
RisesIn geometry SumaxSum one two = group_number geometry one.array < group_number geometry two.array
RisesIn geometry SumaxMax one two = one.array < two.array
RisesIn geometry Bloom one two = one.array < two.array
RisesIn geometry Mrac one two = one.array < two.array
RisesIn geometry Hll one two = one.array < two.array
RisesIn geometry FlagOr one two = one.array < two.array
RisesIn geometry FlagAnd one two = one.array < two.array

pub record IsTask (geometry : Geometry) (o : Outline) : Type 0 where
  pub allowed : first_fault o.task ≡ None
  pub size : IsSome (bits_for geometry o.task.kind o.task.size)
  pub rows : length o.rows ≡ o.task.rows
  pub each : All (IsRow geometry o) o.rows
  pub rising : AllPairs (RisesIn geometry o.task.kind) o.rows

-- ---- tasks together

abbrev pub HaveOwnNames : Outline → Outline → Type 0
HaveOwnNames one two = one.task.name ≢ two.task.name

-- no register stands in both
abbrev pub ShareNone : Holding → Holding → Type 0
ShareNone one two = one.array ≡ two.array → are_apart one.region two.region ≡ true

-- no vector matches both
abbrev pub MatchNone : Spot → Spot → Type 0
MatchNone one two = one.array ≡ two.array → are_disjoint one.entry.filter two.entry.filter ≡ true

-- one mask for a unit, and different masks for the units of a group
pub record AgreeOnUnits (one two : GroupUse) : Type 0 where
  pub same : one.group ≡ two.group → one.unit ≡ two.unit → one.mask ≡ two.mask
  pub other : one.group ≡ two.group → one.unit ≢ two.unit → one.mask ≢ two.mask

pub record Sound (geometry : Geometry) (outlines : List Outline) : Type 0 where
  pub names : AllPairs HaveOwnNames outlines
  pub tasks : All (IsTask geometry) outlines
  pub regions : AllPairs ShareNone (all_held outlines)
  pub filters : AllPairs MatchNone (all_spots outlines)
  pub units : AllPairs AgreeOnUnits (all_uses geometry outlines)
