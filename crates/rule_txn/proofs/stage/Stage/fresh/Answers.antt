use Rattle.std.proofs.Common.{◌∙◌, List, sym, ap, subst}
use Rattle.partition_pool.specs.Pools.{PoolState}
use Rattle.rule_txn.specs.State.{State}
use Rattle.rule_txn.specs.Rows.{CanGiveBack, given_back}
use Rattle.rule_txn.proofs.StageLeases.{AllTaken, all_taken}
use Rattle.rule_txn.proofs.stage.Stage.fresh.Goals as goal

pub give_back-requires : goal.give_back-requires
give_back-requires g c =
    let pools = c.args.self.now.pools in
    let leases = c.take_all-leases.result in
    let were : AllTaken pools leases = subst (AllTaken pools) (sym c.take_all-leases.ensures.leases) (all_taken c.args.bits pools c.args.arrays c.requires.can) in
    subst (λ (ps : List PoolState). CanGiveBack ps leases) (sym (ap (λ (s : State). s.pools) c.take_all-leases.ensures.state)) were.can

pub returns-in-Err-clause-refused : goal.returns-in-Err-clause-refused
returns-in-Err-clause-refused g c =
    let old = c.args.self.now in
    let leases = c.take_all-leases.result in
    let were : AllTaken old.pools leases = subst (AllTaken old.pools) (sym c.take_all-leases.ensures.leases) (all_taken c.args.bits old.pools c.args.arrays c.requires.can) in
    c.give_back.ensures
    ∙ ap (λ (s : State). record s { pools = given_back leases s.pools }) c.take_all-leases.ensures.state
    ∙ ap (λ (ps : List PoolState). record old { pools = ps }) were.back
