-- How a pool keeps its taken regions: where they begin, and the nodes of its tree.
use Rattle.std.specs.Prelude.{◌≡◌, ℕ, zero, suc, ◌+◌, ◌-◌, ◌*◌, ◌^◌, ◌≤◌, ◌<◌, ◌==◌, ◌&&◌, Bool, true, if◌then◌else◌, max, List, [], ◌∷◌, length, slice_index}
use Rattle.addr_translate.specs.Blocks.{Block}
use Rattle.partition_pool.specs.Regions.{is_free, are_apart, ArePartitions}
use Rattle.partition_pool.specs.Nodes.{node}

-- The regions that begin at the smallest partitions from the k-th on: each of these has a number, which is
-- n + 1 where a region of 2 ^ n registers begins there, and 0 where none does.
abbrev pub blocks_from : ℕ → ℕ → List ℕ → List Block
blocks_from least k [] = []
blocks_from least k (zero ∷ rest) = blocks_from least (suc k) rest
blocks_from least k (suc n ∷ rest) =
    record { base = k * 2 ^ least; bits = n } ∷ blocks_from least (suc k) rest

-- where the node of the i-th region of 2 ^ bits registers stands
abbrev pub place : ℕ → ℕ → ℕ → ℕ
place array_bits bits i = 2 ^ (array_bits - bits) - 1 + i

-- the node of a region from those of its halves, which have 2 ^ bits registers each
abbrev pub join : ℕ → ℕ → ℕ → ℕ
join bits lower upper = if (lower == suc bits) && (upper == suc bits) then suc (suc bits) else max lower upper

-- the levels from low up to but not including high
abbrev pub HasLevels : ℕ → ℕ → List Block → ℕ → ℕ → List ℕ → Type 0
HasLevels array_bits least taken low high nodes =
    (bits i : ℕ) → low ≤ bits → bits < high → bits ≤ array_bits → i < 2 ^ (array_bits - bits)
    → slice_index nodes (place array_bits bits i) ≡ node taken least bits i

-- what is free before and after a region is taken (free is false) or given back
pub record Becomes (free : Bool) (region : Block) (before after : List Block) : Type 0 where
  pub apart : (x : Block) → are_apart x region ≡ true → is_free after x ≡ is_free before x
  pub within : (x : Block) → region.base ≤ x.base → x.base + 2 ^ x.bits ≤ region.base + 2 ^ region.bits
      → is_free after x ≡ free

-- all levels: the nodes are those of this taken list
abbrev pub IsTree : ℕ → ℕ → List Block → List ℕ → Type 0
IsTree array_bits least taken nodes = HasLevels array_bits least taken least (array_bits + 1) nodes

-- from the nodes before a region is taken (free is false) or given back to those after it
abbrev pub Marks : ℕ → ℕ → Block → Bool → List ℕ → List ℕ → Type 0
Marks array_bits least region free old new =
    (before after : List Block) → Becomes free region before after → IsTree array_bits least before old
    → IsTree array_bits least after new

-- the same of the levels up to the region's own; those above it are as before
abbrev pub MarksWithin : ℕ → ℕ → Block → Bool → List ℕ → List ℕ → Type 0
MarksWithin array_bits least region free old new =
    (before after : List Block) → Becomes free region before after → IsTree array_bits least before old
    → HasLevels array_bits least after least (region.bits + 1) new
    × HasLevels array_bits least before (region.bits + 1) (array_bits + 1) new

-- the levels above it follow
abbrev pub MarksAbove : ℕ → ℕ → Block → List ℕ → List ℕ → Type 0
MarksAbove array_bits least region old new =
    (free : Bool) (before after : List Block) → Becomes free region before after
    → HasLevels array_bits least after least (region.bits + 1) old
    → HasLevels array_bits least before (region.bits + 1) (array_bits + 1) old
    → IsTree array_bits least after new

-- the numbers of a pool are in the limits, and starts and nodes are those of one taken list
pub record IsKept (array_bits least split : ℕ) (starts nodes : List ℕ) : Type 0 where
  pub least_array : 5 ≤ array_bits
  pub least_split : 5 ≤ split
  pub most_split : split ≤ 10
  pub least_is : least ≡ array_bits - split
  pub places : length starts ≡ 2 ^ (array_bits - least)
  pub room : length nodes + 1 ≡ 2 ^ (array_bits - least + 1)
  pub taken : ArePartitions least array_bits (blocks_from least 0 starts)
  pub levels : IsTree array_bits least (blocks_from least 0 starts) nodes
