-- The view of sound tasks fits together.
use Rattle.std.proofs.Common.{subst}
use Rattle.std.specs.Prelude.{vec_capacity}
use Rattle.switch_model.specs.Soundness.{Sound}
use Rattle.rule_txn.specs.Switch.{SwitchState, IsSwitch}
use Rattle.rule_txn.proofs.ShownLemmas.{view_fits, view_within}
use Rattle.rule_txn.proofs.switch.Switch.shape.Goals as goal

pub returns-clause-fit : goal.returns-clause-fit
returns-clause-fit c =
    let kept : IsSwitch c.self.inside.records.items c.self.inside.stage (vec_capacity c.self.inside.records) = c.self.invariant in
    view_fits c.args.self.now (subst (λ (s : SwitchState). Sound s.geometry s.outlines) c.self.view_is kept.sound)

pub returns-clause-within : goal.returns-clause-within
returns-clause-within c =
    let kept : IsSwitch c.self.inside.records.items c.self.inside.stage (vec_capacity c.self.inside.records) = c.self.invariant in
    view_within c.args.self.now (subst (λ (s : SwitchState). Sound s.geometry s.outlines) c.self.view_is kept.sound)
