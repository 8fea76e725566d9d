-- Laws of the taken list.
use Rattle.std.specs.Prelude.{◌≡◌, ℕ, ◌^◌, ◌≤◌, true, is_some, nat_le, List}
use Rattle.addr_translate.specs.Blocks.{Block}
use Rattle.partition_pool.specs.Regions.{is_free, free_block, put_by_base, without}
use Rattle.partition_pool.specs.Nodes.{largest_free}

-- a free region that is taken and given back leaves the list as it was
abbrev pub GiveRestores : Type 0
GiveRestores = (taken : List Block) (region : Block) → is_free taken region ≡ true
    → without region (put_by_base region taken) ≡ taken

-- a partition of a size is found exactly where it is no larger than the largest free one
abbrev pub FindsUpToLargest : Type 0
FindsUpToLargest = (taken : List Block) (array_bits least bits : ℕ) → least ≤ bits → bits ≤ array_bits
    → is_some (free_block taken array_bits bits) ≡ nat_le (2 ^ bits) (largest_free taken array_bits least)
