use Rattle.std.proofs.Common.{◌≡◌, ℕ, ◌<◌, sym, subst}
use Rattle.addr_translate.specs.Geometry.{Geometry, array_count, bits_of}
use Rattle.placer.specs.Placement.{pool_at}
use Rattle.placer.proofs.LookLemmas.{equal_pools}
use Rattle.placer.proofs.planning.tests.planned.Goals as goal

pub plan-requires-clause-bits : goal.plan-requires-clause-bits
plan-requires-clause-bits c =
    let Fit : Geometry → Type 0 = λ geometry. (array : ℕ) → array < array_count geometry → (pool_at c.args.pools.now array).bits ≡ bits_of geometry array in
    subst Fit (sym c.equal-shape.ensures) (equal_pools c.args.count c.args.group 5 c.args.pools.now c.requires.pools c.requires.bits)
