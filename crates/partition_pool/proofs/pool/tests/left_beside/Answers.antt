use Rattle.std.proofs.Common.{◌≡◌, ap, sym, subst, List}
use Rattle.std.specs.Prelude.{Contains}
use Rattle.addr_translate.specs.Blocks.{Block}
use Rattle.partition_pool.specs.Regions.{put_by_base}
use Rattle.partition_pool.specs.Pools.{PoolState, Holding}
use Rattle.partition_pool.proofs.Orders.{contains_put}
use Rattle.partition_pool.proofs.pool.tests.left_beside.Goals as goal

pub give-requires-clause-taken : goal.give-requires-clause-taken
give-requires-clause-taken c =
    let region = ap (λ (h : Holding). h.region) c.take_at-lease.ensures.lease in
    let taken : c.take_at-lease.new.self.taken ≡ put_by_base c.args.region c.args.pool.now.taken =
    ap (λ (p : PoolState). p.taken) (c.take_at-lease.ensures.taken) in
    let P : List Block → Type 0 = λ xs. Contains xs c.args.region in
    let Q : Block → Type 0 = λ b. Contains c.take_at-lease.new.self.taken b in
    subst Q (sym region) (subst P (sym taken) (contains_put c.args.region c.args.pool.now.taken))
