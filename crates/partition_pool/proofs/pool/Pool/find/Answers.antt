use Rattle.std.proofs.Common.{◌≡◌, ◌-◌, arith, sym, ◌∙◌, subst, true, ℕ, List}
use Rattle.addr_translate.specs.Blocks.{Block}
use Rattle.partition_pool.specs.Regions.{IsPartition, is_free}
use Rattle.partition_pool.specs.Kept.{IsTree, blocks_from}
use Rattle.partition_pool.proofs.Pools.{if_found, is_found}
use Rattle.partition_pool.proofs.pool.Pool.find.Goals as goal

pub returns-clause-size : goal.returns-clause-size
returns-clause-size c =
    let taken : List Block = blocks_from c.self.inside.levels.least 0 c.self.inside.starts.items in
    let N : List ℕ → Type 0 =
    λ xs. IsTree c.self.inside.levels.array_bits c.self.inside.levels.least taken xs in
    let is = c.least_free.ensures taken (subst N (sym c.as_slice.ensures.value) c.self.invariant.levels) in
    let large = rw (← c.self.view_is) at c.requires.least in
    let most = rw (← c.self.view_is) at c.requires.most in
    let least = c.self.invariant.least_is in
    if_found (λ (r : Block). r.bits ≡ c.args.bits) c.least_free.result
    (λ r found. (is_found taken c.self.inside.levels.least c.self.inside.levels.array_bits c.args.bits r
    (omega arith) most c.self.inside.levels.small (sym is ∙ found)).size)

pub returns-clause-partition : goal.returns-clause-partition
returns-clause-partition c =
    let taken : List Block = blocks_from c.self.inside.levels.least 0 c.self.inside.starts.items in
    let N : List ℕ → Type 0 =
    λ xs. IsTree c.self.inside.levels.array_bits c.self.inside.levels.least taken xs in
    let is = c.least_free.ensures taken (subst N (sym c.as_slice.ensures.value) c.self.invariant.levels) in
    let large = rw (← c.self.view_is) at c.requires.least in
    let most = rw (← c.self.view_is) at c.requires.most in
    let least = c.self.invariant.least_is in
    rw (← c.self.view_is)
    (if_found (λ (r : Block). IsPartition
    (c.self.inside.levels.array_bits - c.self.inside.split) c.self.inside.levels.array_bits r)
    c.least_free.result
    (λ r found.
    let P : ℕ → Type 0 = λ l. IsPartition l c.self.inside.levels.array_bits r in
    subst P least (is_found taken c.self.inside.levels.least c.self.inside.levels.array_bits c.args.bits r
    (omega arith) most c.self.inside.levels.small (sym is ∙ found)).partition))

pub returns-clause-free : goal.returns-clause-free
returns-clause-free c =
    let taken : List Block = blocks_from c.self.inside.levels.least 0 c.self.inside.starts.items in
    let N : List ℕ → Type 0 =
    λ xs. IsTree c.self.inside.levels.array_bits c.self.inside.levels.least taken xs in
    let is = c.least_free.ensures taken (subst N (sym c.as_slice.ensures.value) c.self.invariant.levels) in
    let large = rw (← c.self.view_is) at c.requires.least in
    let most = rw (← c.self.view_is) at c.requires.most in
    let least = c.self.invariant.least_is in
    rw (← c.self.view_is)
    (if_found (λ (r : Block). is_free (blocks_from c.self.inside.levels.least 0 c.self.inside.starts.items) r
    ≡ true) c.least_free.result
    (λ r found. (is_found taken c.self.inside.levels.least c.self.inside.levels.array_bits c.args.bits r
    (omega arith) most c.self.inside.levels.small (sym is ∙ found)).free))
