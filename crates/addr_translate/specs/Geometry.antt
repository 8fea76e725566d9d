-- What arrays a switch has: a list of groups, and how finely each array is split.
use Rattle.std.specs.Prelude.{◌≡◌, ℕ, suc, ◌-◌, ◌≤◌, ◌++◌, List, [], ◌∷◌, if◌then◌else◌, nat_lt, max, length, map, fold, take, get_or, replicate, sum_by, All}
use Rattle.addr_translate.specs.declared.shapes.GroupShape.{GroupShape}

-- the groups in order; an array has at most 2 ^ split partitions
pub record Geometry : Type 0 where
  pub groups : List GroupShape
  pub split : ℕ

-- the numbers of a group are in the limits
pub record IsGroup (group : GroupShape) : Type 0 where
  pub some_cmus : 1 ≤ group.cmus
  pub few_cmus : group.cmus ≤ 4
  pub some_units : 1 ≤ group.units
  pub few_units : group.units ≤ 4
  pub least_bits : 5 ≤ group.bits
  pub most_bits : group.bits ≤ 20

-- all numbers of a switch are in the limits
pub record IsGeometry (geometry : Geometry) : Type 0 where
  pub some_groups : 1 ≤ length geometry.groups
  pub few_groups : length geometry.groups ≤ 12
  pub each : All IsGroup geometry.groups
  pub least_split : 5 ≤ geometry.split
  pub most_split : geometry.split ≤ 10

-- equal groups
abbrev pub equal_geometry : ℕ → GroupShape → ℕ → Geometry
equal_geometry count group split = record { groups = replicate count group; split = split }

-- what stands where there is no group
abbrev pub no_group : GroupShape
no_group = record { cmus = 0; units = 0; bits = 0 }

-- a group, by its number
abbrev pub group_in : Geometry → ℕ → GroupShape
group_in geometry group = get_or geometry.groups group no_group

-- how many arrays there are
abbrev pub array_count : Geometry → ℕ
array_count geometry = sum_by (λ g. g.cmus) geometry.groups

-- how many arrays stand in the groups before this one
abbrev pub arrays_before : Geometry → ℕ → ℕ
arrays_before geometry group = sum_by (λ g. g.cmus) (take group geometry.groups)

-- how many groups end before the array, where arrays are numbered through the groups in order
unfoldable pub groups_ended : List GroupShape → ℕ → ℕ
groups_ended [] array = 0
groups_ended (g ∷ gs) array = if nat_lt array g.cmus then 0 else suc (groups_ended gs (array - g.cmus))

-- the group in which an array stands
abbrev pub group_number : Geometry → ℕ → ℕ
group_number geometry array = groups_ended geometry.groups array

-- the CMU of that group which has the array
abbrev pub cmu_number : Geometry → ℕ → ℕ
cmu_number geometry array = array - arrays_before geometry (group_number geometry array)

-- the array has 2 to this many registers
abbrev pub bits_of : Geometry → ℕ → ℕ
bits_of geometry array = (group_in geometry (group_number geometry array)).bits

-- the bits of the largest arrays
abbrev pub greatest_bits : Geometry → ℕ
greatest_bits geometry = fold max 0 (map (λ g. g.bits) geometry.groups)

-- the smallest partition of the array has 2 to this many registers
abbrev pub least_bits_of : Geometry → ℕ → ℕ
least_bits_of geometry array = bits_of geometry array - geometry.split

-- ---- how a shape keeps its groups: in the first places of twelve

-- what stands behind the last group
abbrev pub unused_group : GroupShape
unused_group = record { cmus = 1; units = 1; bits = 5 }

abbrev pub padded_groups : List GroupShape → List GroupShape
padded_groups groups = groups ++ replicate (12 - length groups) unused_group

-- the first places have the groups, and the others none
pub record IsPadded (count : ℕ) (groups : List GroupShape) : Type 0 where
  pub counted : count ≡ length (take count groups)
  pub padded : groups ≡ padded_groups (take count groups)
