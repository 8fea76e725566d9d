use Rattle.std.proofs.Common.{subst, ℕ}
use Rattle.partition_pool.specs.Regions.{ArePartitions}
use Rattle.partition_pool.specs.Kept.{blocks_from}
use Rattle.partition_pool.proofs.pool.Pool.bits.Goals as goal

pub returns-clause-partitions : goal.returns-clause-partitions
returns-clause-partitions c =
    let P : ℕ → Type 0 = λ least. ArePartitions least c.self.inside.levels.array_bits
    (blocks_from c.self.inside.levels.least 0 c.self.inside.starts.items) in
    rw (← c.self.view_is) (subst P c.self.invariant.least_is c.self.invariant.taken)
