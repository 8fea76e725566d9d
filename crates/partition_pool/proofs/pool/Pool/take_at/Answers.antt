use Rattle.std.proofs.Common.{rules, ◌≡◌, arith, ap, sym, ◌∙◌, ◌+◌, ◌^◌, ◌/◌, subst, ℕ, List, length, false, add-one}
use Rattle.std.specs.Prelude.{slice_set}
use Rattle.addr_translate.specs.Blocks.{Block}
use Rattle.partition_pool.specs.Regions.{block_at}
use Rattle.partition_pool.specs.Pools.{PoolState}
use Rattle.partition_pool.specs.Kept.{IsKept, Marks, blocks_from}
use Rattle.partition_pool.proofs.Pools.{size_spot, put_pool, put_blocks, room_for_one, whole_again}
use Rattle.partition_pool.proofs.pool.Pool.take_at.Goals as goal

pub index_mut-requires : goal.index_mut-requires
index_mut-requires c =
    let inside = rw (← c.region.view_is, ← c.self.view_is) at c.requires.inside in
    let large = rw (← c.region.view_is, ← c.self.view_is) at c.requires.least in
    let s = size_spot c.self.inside.levels.array_bits c.self.inside.levels.least c.self.inside.split
    (record { base = c.region.inside.base; bits = c.region.inside.bits }) c.region.invariant
    c.self.invariant.least_is large inside in
    let n : c.self.inside.starts.len ≡ length c.self.inside.starts.items = search rules in
    let lt = s.first in
    omega (arith, lt, c.self.invariant.places)

pub mark-requires-clause-most : goal.mark-requires-clause-most
mark-requires-clause-most c =
    let inside = rw (← c.region.view_is, ← c.self.view_is) at c.requires.inside in
    let large = rw (← c.region.view_is, ← c.self.view_is) at c.requires.least in
    let s = size_spot c.self.inside.levels.array_bits c.self.inside.levels.least c.self.inside.split
    (record { base = c.region.inside.base; bits = c.region.inside.bits }) c.region.invariant
    c.self.invariant.least_is large inside in
    s.most

pub mark-requires-clause-inside : goal.mark-requires-clause-inside
mark-requires-clause-inside c =
    let inside = rw (← c.region.view_is, ← c.self.view_is) at c.requires.inside in
    let large = rw (← c.region.view_is, ← c.self.view_is) at c.requires.least in
    let s = size_spot c.self.inside.levels.array_bits c.self.inside.levels.least c.self.inside.split
    (record { base = c.region.inside.base; bits = c.region.inside.bits }) c.region.invariant
    c.self.invariant.least_is large inside in
    s.at

pub invariant_of-self : goal.invariant_of-self
invariant_of-self c =
    let inside = rw (← c.region.view_is, ← c.self.view_is) at c.requires.inside in
    let large = rw (← c.region.view_is, ← c.self.view_is) at c.requires.least in
    let s = size_spot c.self.inside.levels.array_bits c.self.inside.levels.least c.self.inside.split
    (record { base = c.region.inside.base; bits = c.region.inside.bits }) c.region.invariant
    c.self.invariant.least_is large inside in
    let free = rw (← c.region.view_is, ← c.self.view_is) at c.requires.free in
    let M : List ℕ → Type 0 = λ xs.
    Marks c.self.inside.levels.array_bits c.self.inside.levels.least
    (block_at c.region.inside.bits (c.region.inside.base / 2 ^ c.region.inside.bits)) false xs
    c.mark.new.nodes in
    let marks = subst M c.as_mut_slice.ensures.value c.mark.ensures in
    let same : length c.mark.new.nodes ≡ length c.self.inside.nodes.items = c.mark.auto.nodes
    ∙ ap length c.as_mut_slice.ensures.value in
    let made = put_pool c.self.inside.levels.array_bits c.self.inside.levels.least c.self.inside.split
    c.self.inside.starts.items c.self.inside.nodes.items c.mark.new.nodes
    (record { base = c.region.inside.base; bits = c.region.inside.bits })
    c.self.invariant s c.region.invariant inside free same marks in
    let V : ℕ → Type 0 = λ v.
    IsKept c.self.inside.levels.array_bits c.self.inside.levels.least c.self.inside.split
    (slice_set c.self.inside.starts.items (c.region.inside.base / 2 ^ c.self.inside.levels.least) v)
    c.mark.new.nodes in
    let X : List ℕ → Type 0 = λ xs.
    IsKept c.self.inside.levels.array_bits c.self.inside.levels.least c.self.inside.split
    (slice_set c.self.inside.starts.items (c.region.inside.base / 2 ^ c.self.inside.levels.least)
    (c.region.inside.bits + 1)) xs in
    let count : length c.mark.new.nodes ≡ c.self.inside.nodes.len = search rules in
    subst X (sym (whole_again c.self.inside.nodes.len c.mark.new.nodes c.self.inside.nodes.items count))
    (subst V (sym (add-one c.region.inside.bits)) made)

pub returns-clause-taken : goal.returns-clause-taken
returns-clause-taken c =
    let inside = rw (← c.region.view_is, ← c.self.view_is) at c.requires.inside in
    let large = rw (← c.region.view_is, ← c.self.view_is) at c.requires.least in
    let s = size_spot c.self.inside.levels.array_bits c.self.inside.levels.least c.self.inside.split
    (record { base = c.region.inside.base; bits = c.region.inside.bits }) c.region.invariant
    c.self.invariant.least_is large inside in
    let free = rw (← c.region.view_is, ← c.self.view_is) at c.requires.free in
    let made : List Block → PoolState =
    λ bs. record {
      number = c.self.inside.number;
      bits = c.self.inside.levels.array_bits;
      split = c.self.inside.split;
      taken = bs;
    } in
    rw (← c.self.view_is, ← c.region.view_is)
    (ap made (ap (λ v. blocks_from c.self.inside.levels.least 0
    (slice_set c.self.inside.starts.items (c.region.inside.base / 2 ^ c.self.inside.levels.least) v))
    (add-one c.region.inside.bits)
    ∙ put_blocks c.self.inside.levels.array_bits c.self.inside.levels.least c.self.inside.starts.items
    (record { base = c.region.inside.base; bits = c.region.inside.bits }) s c.self.invariant.places free))

pub returns-clause-few : goal.returns-clause-few
returns-clause-few c =
    let inside = rw (← c.region.view_is, ← c.self.view_is) at c.requires.inside in
    let large = rw (← c.region.view_is, ← c.self.view_is) at c.requires.least in
    let s = size_spot c.self.inside.levels.array_bits c.self.inside.levels.least c.self.inside.split
    (record { base = c.region.inside.base; bits = c.region.inside.bits }) c.region.invariant
    c.self.invariant.least_is large inside in
    let free = rw (← c.region.view_is, ← c.self.view_is) at c.requires.free in
    rw (← c.self.view_is)
    (room_for_one c.self.inside.levels.array_bits c.self.inside.levels.least c.self.inside.split
    c.self.inside.starts.items c.self.inside.nodes.items
    (record { base = c.region.inside.base; bits = c.region.inside.bits }) c.self.invariant s inside free)
