use Rattle.std.proofs.Common.{arith, ap, length, ◌∙◌, ◌-◌, ◌+◌, ◌^◌, subst, ℕ}
use Rattle.partition_pool.specs.Regions.{ArePartitions}
use Rattle.partition_pool.specs.Nodes.{tree_of}
use Rattle.partition_pool.specs.Kept.{blocks_from}
use Rattle.partition_pool.proofs.Whole.{tree_is}
use Rattle.partition_pool.proofs.pool.Pool.tree.Goals as goal

pub returns-clause-count : goal.returns-clause-count
returns-clause-count c =
    rw (← c.self.view_is)
    (ap (λ n. n + 1) (ap length c.as_slice.ensures.value) ∙ c.self.invariant.room
    ∙ ap (λ least. 2 ^ (c.self.inside.levels.array_bits - least + 1)) c.self.invariant.least_is)

pub returns-clause-nodes : goal.returns-clause-nodes
returns-clause-nodes c =
    rw (← c.self.view_is)
    (c.as_slice.ensures.value
    ∙ tree_is c.self.inside.levels.array_bits c.self.inside.levels.least
    (blocks_from c.self.inside.levels.least 0 c.self.inside.starts.items) c.self.inside.nodes.items
    c.self.invariant.levels
    (omega (arith, c.self.invariant.least_is)) c.self.invariant.room
    ∙ ap (tree_of (blocks_from c.self.inside.levels.least 0 c.self.inside.starts.items)
    c.self.inside.levels.array_bits) c.self.invariant.least_is)

pub returns-clause-partitions : goal.returns-clause-partitions
returns-clause-partitions c =
    let P : ℕ → Type 0 = λ least. ArePartitions least c.self.inside.levels.array_bits
    (blocks_from c.self.inside.levels.least 0 c.self.inside.starts.items) in
    rw (← c.self.view_is) (subst P c.self.invariant.least_is c.self.invariant.taken)
