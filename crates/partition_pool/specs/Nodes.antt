-- The nodes of a pool's tree.
use Rattle.std.specs.Prelude.{ℕ, zero, suc, ◌+◌, ◌-◌, ◌*◌, ◌^◌, Bool, if◌then◌else◌, List, map}
use Rattle.std.specs.List.{range_with_len, list_any, flat_map}
use Rattle.addr_translate.specs.Blocks.{Block}
use Rattle.partition_pool.specs.Regions.{is_free, block_at}

-- the aligned regions of 2 ^ n registers that lie in the i-th of 2 ^ bits registers
abbrev pub parts : ℕ → ℕ → ℕ → List Block
parts n bits i = map (block_at n) (range_with_len (i * 2 ^ (bits - n)) (2 ^ (bits - n)))

-- one of them meets no taken region
unfoldable pub has_free : List Block → ℕ → ℕ → ℕ → Bool
has_free taken n bits i = list_any (is_free taken) (parts n bits i)

-- n + 1 for the greatest n, of the count numbers from least on, for which a part of 2 ^ n registers is free;
-- 0 where there is none
abbrev pub node_among : List Block → ℕ → ℕ → ℕ → ℕ → ℕ
node_among taken bits i least zero = 0
node_among taken bits i least (suc count) =
    if has_free taken (least + count) bits i then suc (least + count) else node_among taken bits i least count

-- the node of the i-th aligned region of 2 ^ bits registers, where the smallest partition has 2 ^ least
unfoldable pub node : List Block → ℕ → ℕ → ℕ → ℕ
node taken least bits i = node_among taken bits i least (suc bits - least)

-- all nodes, level by level from the whole array down, the lower half first:
-- the halves of place k are at 2k + 1 and 2k + 2
unfoldable pub tree_of : List Block → ℕ → ℕ → List ℕ
tree_of taken array_bits least =
    flat_map (λ depth. map (node taken least (array_bits - depth)) (range_with_len 0 (2 ^ depth)))
    (range_with_len 0 (suc (array_bits - least)))

-- the size that a node stands for, 0 for none
abbrev pub size_of : ℕ → ℕ
size_of zero = 0
size_of (suc n) = 2 ^ n

-- the size of the greatest free partition of the array, 0 where there is none
abbrev pub largest_free : List Block → ℕ → ℕ → ℕ
largest_free taken array_bits least = size_of (node taken least array_bits 0)
