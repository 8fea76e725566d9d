use Rattle.std.proofs.Common.{◌≡◌, []}
use Rattle.std.specs.List.{All}
use Rattle.partition_pool.specs.Pools.{PoolState}
use Rattle.rule_txn.proofs.making.close_pools.Given as goal

abbrev pub invariant-pools : goal.invariant-pools
invariant-pools l = All (λ (pool : PoolState). pool.taken ≡ []) l.pools.items

abbrev pub decreases-pools : goal.decreases-pools
decreases-pools l = goal.left-pools l
