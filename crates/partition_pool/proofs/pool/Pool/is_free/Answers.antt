use Rattle.std.proofs.Common.{ap, sym, ◌∙◌, subst, List, ℕ}
use Rattle.addr_translate.specs.Blocks.{Block}
use Rattle.partition_pool.specs.Regions.{is_free}
use Rattle.partition_pool.specs.Kept.{IsTree, blocks_from}
use Rattle.partition_pool.proofs.Pools.{size_spot}
use Rattle.partition_pool.proofs.pool.Pool.is_free.Goals as goal

pub is_whole-requires-clause-most : goal.is_whole-requires-clause-most
is_whole-requires-clause-most c =
    let inside = rw (← c.region.view_is, ← c.self.view_is) at c.requires.inside in
    let large = rw (← c.region.view_is, ← c.self.view_is) at c.requires.least in
    let s = size_spot c.self.inside.levels.array_bits c.self.inside.levels.least c.self.inside.split
    (record { base = c.region.inside.base; bits = c.region.inside.bits }) c.region.invariant
    c.self.invariant.least_is large inside in
    s.most

pub is_whole-requires-clause-inside : goal.is_whole-requires-clause-inside
is_whole-requires-clause-inside c =
    let inside = rw (← c.region.view_is, ← c.self.view_is) at c.requires.inside in
    let large = rw (← c.region.view_is, ← c.self.view_is) at c.requires.least in
    let s = size_spot c.self.inside.levels.array_bits c.self.inside.levels.least c.self.inside.split
    (record { base = c.region.inside.base; bits = c.region.inside.bits }) c.region.invariant
    c.self.invariant.least_is large inside in
    s.at

pub returns : goal.returns
returns c =
    let inside = rw (← c.region.view_is, ← c.self.view_is) at c.requires.inside in
    let large = rw (← c.region.view_is, ← c.self.view_is) at c.requires.least in
    let s = size_spot c.self.inside.levels.array_bits c.self.inside.levels.least c.self.inside.split
    (record { base = c.region.inside.base; bits = c.region.inside.bits }) c.region.invariant
    c.self.invariant.least_is large inside in
    let taken : List Block = blocks_from c.self.inside.levels.least 0 c.self.inside.starts.items in
    let N : List ℕ → Type 0 =
    λ xs. IsTree c.self.inside.levels.array_bits c.self.inside.levels.least taken xs in
    rw (← c.self.view_is, ← c.region.view_is)
    (c.is_whole.ensures taken (subst N (sym c.as_slice.ensures.value) c.self.invariant.levels)
    ∙ ap (is_free taken) s.is_at)
