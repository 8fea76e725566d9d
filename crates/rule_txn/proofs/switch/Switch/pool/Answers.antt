-- The pools are those of the tasks.
use Rattle.std.proofs.Common.{ℕ, ◌<◌, ap, sym, ◌∙◌, subst, length}
use Rattle.std.specs.Prelude.{vec_capacity}
use Rattle.addr_translate.specs.Geometry.{array_count}
use Rattle.switch_model.specs.Sights.{all_held}
use Rattle.rule_txn.specs.Switch.{SwitchState, IsSwitch, pools_for}
use Rattle.rule_txn.proofs.Pools.{length-pools}
use Rattle.rule_txn.proofs.LookViews.{pool_is}
use Rattle.rule_txn.proofs.switch.Switch.pool.Goals as goal

pub bounds-pools-array : goal.bounds-pools-array
bounds-pools-array c =
    let kept : IsSwitch c.self.inside.records.items c.self.inside.stage (vec_capacity c.self.inside.records) = c.self.invariant in
    let st = c.self.inside.stage in
    let long = length-pools st.geometry (all_held c.self.inside.records.items) st.pools kept.stands.pools in
    subst (λ (n : ℕ). c.args.array < n)
    (sym (ap length c.pools.ensures ∙ long ∙ ap (λ (s : SwitchState). array_count s.geometry) c.self.view_is)) c.requires

pub returns : goal.returns
returns c =
    let kept : IsSwitch c.self.inside.records.items c.self.inside.stage (vec_capacity c.self.inside.records) = c.self.invariant in
    let st = c.self.inside.stage in
    let now : SwitchState = c.args.self.now in
    let held = ap (λ (s : SwitchState). pools_for s.geometry (all_held s.outlines)) c.self.view_is in
    pool_is now.geometry (all_held now.outlines) c.pools.result.now c.args.array c.index-pools-array.result c.index-pools-array.is
    (c.pools.ensures ∙ kept.stands.pools ∙ held) c.requires
