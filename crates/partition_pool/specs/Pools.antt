-- What callers see of a pool and of a lease.
use Rattle.std.specs.Prelude.{ℕ, ◌-◌, List}
use Rattle.addr_translate.specs.Blocks.{Block}

-- the array of this number has 2 ^ bits registers and at most 2 ^ split partitions; the taken regions stand
-- by base
pub record PoolState : Type 0 where
  pub number : ℕ
  pub bits : ℕ
  pub split : ℕ
  pub taken : List Block

-- a lease holds a region of the pool of this number
pub record Holding : Type 0 where
  pub pool : ℕ
  pub region : Block

-- the smallest partition has 2 to this many registers
abbrev pub least_bits : PoolState → ℕ
least_bits pool = pool.bits - pool.split

-- what a lease of this pool's region holds
abbrev pub holding_of : PoolState → Block → Holding
holding_of pool region = record { pool = pool.number; region = region }
