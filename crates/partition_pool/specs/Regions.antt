-- The regions of one array that are taken, and the first that is free.
use Rattle.std.specs.Prelude.{ℕ, ◌+◌, ◌-◌, ◌*◌, ◌^◌, ◌≤◌, ◌==◌, ◌&&◌, ◌||◌, Bool, if◌then◌else◌, nat_le, Option, List, [], ◌∷◌, map, count_by, All}
use Rattle.std.specs.List.{range_with_len, find, list_all}
use Rattle.addr_translate.specs.Blocks.{Block, IsAligned}
use Rattle.lists.specs.Sorting.{put_by, sort_by, cut_by}

-- ---- free regions

-- no register stands in both
abbrev pub are_apart : Block → Block → Bool
are_apart one two = nat_le (one.base + 2 ^ one.bits) two.base || nat_le (two.base + 2 ^ two.bits) one.base

-- it meets no taken region
abbrev pub is_free : List Block → Block → Bool
is_free taken region = list_all (are_apart region) taken

-- the i-th of the aligned regions of 2 ^ bits registers
abbrev pub block_at : ℕ → ℕ → Block
block_at bits i = record { base = i * 2 ^ bits; bits = bits }

-- of the aligned regions of 2 ^ bits registers in an array of 2 ^ array_bits, the free one of the least base
unfoldable pub free_block : List Block → ℕ → ℕ → Option Block
free_block taken array_bits bits =
    find (is_free taken) (map (block_at bits) (range_with_len 0 (2 ^ (array_bits - bits))))

-- how many registers of the array stand in no taken region
abbrev pub free_registers : List Block → ℕ → ℕ
free_registers taken array_bits =
    count_by (λ r. is_free taken (block_at 0 r)) (range_with_len 0 (2 ^ array_bits))

-- a partition of an array of 2 ^ array_bits registers, whose smallest has 2 ^ least: aligned and in the array
pub record IsPartition (least array_bits : ℕ) (region : Block) : Type 0 where
  pub large : least ≤ region.bits
  pub aligned : IsAligned region.base region.bits
  pub inside : region.base + 2 ^ region.bits ≤ 2 ^ array_bits

-- ---- the list of taken regions, by base

-- which of two regions comes first
abbrev pub begins_before : Block → Block → Bool
begins_before one two = nat_le one.base two.base

-- with one region more
abbrev pub put_by_base : Block → List Block → List Block
put_by_base region regions = put_by begins_before region regions

-- any regions, by base
abbrev pub by_base : List Block → List Block
by_base regions = sort_by begins_before regions

abbrev pub is_block : Block → Block → Bool
is_block one two = (one.base == two.base) && (one.bits == two.bits)

-- without this region
abbrev pub without : Block → List Block → List Block
without region regions = cut_by (λ other. is_block other region) regions

-- regions of at least 2 ^ least registers from low up to high, by base, none meeting another
abbrev pub InOrder : ℕ → ℕ → ℕ → List Block → Type 0
InOrder least low high [] = low ≤ high
InOrder least low high (region ∷ regions) =
    (low ≤ region.base) × (least ≤ region.bits) × InOrder least (region.base + 2 ^ region.bits) high regions

-- the taken regions are partitions of the array, by base, none meeting another
pub record ArePartitions (least array_bits : ℕ) (taken : List Block) : Type 0 where
  pub order : InOrder least 0 (2 ^ array_bits) taken
  pub aligned : All (λ b. IsAligned b.base b.bits) taken
