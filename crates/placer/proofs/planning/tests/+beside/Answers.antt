use Rattle.std.proofs.Common.{◌≡◌, ◌∙◌, ap, sym, subst, List}
use Rattle.std.specs.Prelude.{Contains}
use Rattle.addr_translate.specs.Blocks.{Block}
use Rattle.partition_pool.specs.Regions.{put_by_base}
use Rattle.partition_pool.specs.Pools.{PoolState, Holding, holding_of}
use Rattle.partition_pool.proofs.Orders.{contains_put}
use Rattle.placer.proofs.planning.tests.+beside.Goals as goal

held : (pool : PoolState) (region : Block) (lease : Holding) (after : PoolState) → lease ≡ holding_of pool region
    → after ≡ record pool { taken = put_by_base region pool.taken } → Contains after.taken lease.region
held pool region lease after is taken =
    let P : List Block → Type 0 = λ xs. Contains xs region in
    let Q : Block → Type 0 = λ b. Contains after.taken b in
    subst Q (sym (ap (λ (h : Holding). h.region) is)) (subst P (sym (ap (λ (p : PoolState). p.taken) taken)) (contains_put region pool.taken))

pub give-requires-clause-taken : goal.give-requires-clause-taken
give-requires-clause-taken t c =
    held c.args.pool.now _ c.take_at-lease.result c.beside-refusal.new.pool c.take_at-lease.ensures.lease (c.beside-refusal.ensures ∙ c.take_at-lease.ensures.taken)
