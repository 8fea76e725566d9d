use Rattle.std.proofs.Common.{rules, ◌≡◌, arith, ap, sym, ◌∙◌, ◌^◌, ◌/◌, subst, ℕ, List, length, true}
use Rattle.std.specs.Prelude.{slice_set}
use Rattle.addr_translate.specs.Blocks.{Block}
use Rattle.partition_pool.specs.Regions.{block_at}
use Rattle.partition_pool.specs.Pools.{PoolState}
use Rattle.partition_pool.specs.Kept.{IsKept, Marks, blocks_from}
use Rattle.partition_pool.proofs.Pools.{taken_spot, drop_pool, drop_blocks, whole_again}
use Rattle.partition_pool.proofs.pool.Pool.give_back.Goals as goal

pub index_mut-requires : goal.index_mut-requires
index_mut-requires c =
    let taken = rw (← c.region.view_is, ← c.self.view_is) at c.requires in
    let s = taken_spot c.self.inside.levels.array_bits c.self.inside.levels.least
    (blocks_from c.self.inside.levels.least 0 c.self.inside.starts.items)
    (record { base = c.region.inside.base; bits = c.region.inside.bits }) c.region.invariant
    c.self.invariant.taken taken in
    let n : c.self.inside.starts.len ≡ length c.self.inside.starts.items = search rules in
    let lt = s.first in
    omega (arith, lt, c.self.invariant.places)

pub mark-requires-clause-least : goal.mark-requires-clause-least
mark-requires-clause-least c =
    let taken = rw (← c.region.view_is, ← c.self.view_is) at c.requires in
    let s = taken_spot c.self.inside.levels.array_bits c.self.inside.levels.least
    (blocks_from c.self.inside.levels.least 0 c.self.inside.starts.items)
    (record { base = c.region.inside.base; bits = c.region.inside.bits }) c.region.invariant
    c.self.invariant.taken taken in
    s.big

pub mark-requires-clause-most : goal.mark-requires-clause-most
mark-requires-clause-most c =
    let taken = rw (← c.region.view_is, ← c.self.view_is) at c.requires in
    let s = taken_spot c.self.inside.levels.array_bits c.self.inside.levels.least
    (blocks_from c.self.inside.levels.least 0 c.self.inside.starts.items)
    (record { base = c.region.inside.base; bits = c.region.inside.bits }) c.region.invariant
    c.self.invariant.taken taken in
    s.most

pub mark-requires-clause-inside : goal.mark-requires-clause-inside
mark-requires-clause-inside c =
    let taken = rw (← c.region.view_is, ← c.self.view_is) at c.requires in
    let s = taken_spot c.self.inside.levels.array_bits c.self.inside.levels.least
    (blocks_from c.self.inside.levels.least 0 c.self.inside.starts.items)
    (record { base = c.region.inside.base; bits = c.region.inside.bits }) c.region.invariant
    c.self.invariant.taken taken in
    s.at

pub invariant_of-self : goal.invariant_of-self
invariant_of-self c =
    let taken = rw (← c.region.view_is, ← c.self.view_is) at c.requires in
    let s = taken_spot c.self.inside.levels.array_bits c.self.inside.levels.least
    (blocks_from c.self.inside.levels.least 0 c.self.inside.starts.items)
    (record { base = c.region.inside.base; bits = c.region.inside.bits }) c.region.invariant
    c.self.invariant.taken taken in
    let M : List ℕ → Type 0 = λ xs.
    Marks c.self.inside.levels.array_bits c.self.inside.levels.least
    (block_at c.region.inside.bits (c.region.inside.base / 2 ^ c.region.inside.bits)) true xs c.mark.new.nodes
    in
    let marks = subst M c.as_mut_slice.ensures.value c.mark.ensures in
    let same : length c.mark.new.nodes ≡ length c.self.inside.nodes.items = c.mark.auto.nodes
    ∙ ap length c.as_mut_slice.ensures.value in
    let made = drop_pool c.self.inside.levels.array_bits c.self.inside.levels.least c.self.inside.split
    c.self.inside.starts.items c.self.inside.nodes.items c.mark.new.nodes
    (record { base = c.region.inside.base; bits = c.region.inside.bits })
    c.self.invariant s taken same marks in
    let X : List ℕ → Type 0 = λ xs.
    IsKept c.self.inside.levels.array_bits c.self.inside.levels.least c.self.inside.split
    (slice_set c.self.inside.starts.items (c.region.inside.base / 2 ^ c.self.inside.levels.least) 0) xs in
    let count : length c.mark.new.nodes ≡ c.self.inside.nodes.len = search rules in
    subst X (sym (whole_again c.self.inside.nodes.len c.mark.new.nodes c.self.inside.nodes.items count)) made

pub returns : goal.returns
returns c =
    let taken = rw (← c.region.view_is, ← c.self.view_is) at c.requires in
    let s = taken_spot c.self.inside.levels.array_bits c.self.inside.levels.least
    (blocks_from c.self.inside.levels.least 0 c.self.inside.starts.items)
    (record { base = c.region.inside.base; bits = c.region.inside.bits }) c.region.invariant
    c.self.invariant.taken taken in
    let made : List Block → PoolState =
    λ bs. record {
      number = c.self.inside.number;
      bits = c.self.inside.levels.array_bits;
      split = c.self.inside.split;
      taken = bs;
    } in
    rw (← c.self.view_is, ← c.region.view_is)
    (ap made (drop_blocks c.self.inside.levels.array_bits c.self.inside.levels.least
    c.self.inside.starts.items
    (record { base = c.region.inside.base; bits = c.region.inside.bits }) s c.self.invariant.places taken))
