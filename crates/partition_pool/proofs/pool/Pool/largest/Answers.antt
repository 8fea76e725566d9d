use Rattle.std.proofs.Common.{arith, sym, subst, ℕ, List}
use Rattle.addr_translate.specs.Blocks.{Block}
use Rattle.partition_pool.specs.Kept.{IsTree, blocks_from}
use Rattle.partition_pool.proofs.Halves.{node_le}
use Rattle.partition_pool.proofs.pool.Pool.largest.Goals as goal

pub size_at_node-requires : goal.size_at_node-requires
size_at_node-requires c =
    let taken : List Block = blocks_from c.self.inside.levels.least 0 c.self.inside.starts.items in
    let N : List ℕ → Type 0 =
    λ xs. IsTree c.self.inside.levels.array_bits c.self.inside.levels.least taken xs in
    let e = c.root.ensures taken (subst N (sym c.as_slice.ensures.value) c.self.invariant.levels) in
    let f = node_le taken c.self.inside.levels.least c.self.inside.levels.array_bits 0
    (omega (arith, c.self.invariant.least_is)) in
    omega (arith, e, f, c.self.inside.levels.small)
