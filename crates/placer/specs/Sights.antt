-- What a placement looks at of a switch, and the sizes that its arrays have.
use Rattle.std.specs.Prelude.{ℕ, ◌^◌, ◌-◌, ◌==◌, ◌&&◌, Bool, nat_le, min, if◌then◌else◌, List, [], map, slice_index_or, Option, None}
use Rattle.std.specs.List.{find, fold, range_with_len}
use Rattle.addr_translate.specs.Blocks.{Block}
use Rattle.addr_translate.specs.Geometry.{Geometry, bits_of, greatest_bits, least_bits_of, group_number}
use Rattle.partition_pool.specs.Regions.{free_block}
use Rattle.group_keys.specs.Units.{UsedUnit}
use Rattle.match_table.specs.declared.entries.Entry.{Entry}
use Rattle.sketch_defs.specs.declared.kinds.Kind.{Kind}
use Rattle.sketch_defs.specs.declared.kinds.Kind.TheVariants.{Cms, SumaxSum, SumaxMax, Bloom, Mrac, Hll, FlagOr, FlagAnd}

-- the entries and the taken regions of each array, and the units of each group
pub record Sight : Type 0 where
  pub rules : List (List Entry)
  pub units : List (List (Option UsedUnit))
  pub taken : List (List Block)

abbrev pub rules_at : Sight → ℕ → List Entry
rules_at sight array = slice_index_or sight.rules array []

abbrev pub units_at : Geometry → Sight → ℕ → List (Option UsedUnit)
units_at geometry sight array = slice_index_or sight.units (group_number geometry array) []

abbrev pub taken_at : Sight → ℕ → List Block
taken_at sight array = slice_index_or sight.taken array []

-- of an array of 2 ^ array_bits registers, whose smallest partition has 2 ^ least, the free one of 2 ^ bits with the least base;
-- none where the array has no partitions of that size
abbrev pub region_in : ℕ → ℕ → List Block → ℕ → Option Block
region_in array_bits least taken bits =
    if nat_le least bits && nat_le bits array_bits then free_block taken array_bits bits else None

abbrev pub region_for : Geometry → Sight → ℕ → ℕ → Option Block
region_for geometry sight bits array =
    region_in (bits_of geometry array) (least_bits_of geometry array) (taken_at sight array) bits

-- ---- sizes

-- the bits of the smallest partition of all arrays
abbrev pub smallest_bits : Geometry → ℕ
smallest_bits geometry = fold min 20 (map (λ g. g.bits - geometry.split) geometry.groups)

-- a row has 2 to this many cells or more
abbrev pub least_cells : Kind → ℕ
least_cells Cms = 0
least_cells SumaxSum = 0
least_cells SumaxMax = 0
least_cells Bloom = 0
least_cells Mrac = 0
least_cells Hll = 4
least_cells FlagOr = 0
least_cells FlagAnd = 0

-- rows of a kind may have 2 ^ bits cells: no fewer than the smallest partition of all arrays, and no more than the greatest
abbrev pub may_have : Geometry → Kind → ℕ → Bool
may_have geometry kind bits =
    nat_le (smallest_bits geometry) bits && (nat_le bits (greatest_bits geometry) && nat_le (least_cells kind) bits)

-- the bits of a size that a task of this kind may have; none where it may not have it
unfoldable pub bits_for : Geometry → Kind → ℕ → Option ℕ
bits_for geometry kind size = find (λ bits. may_have geometry kind bits && 2 ^ bits == size) (range_with_len 0 21)
