-- A row of a sound task lies in its array.
use Rattle.std.proofs.Common.{subst}
use Rattle.std.specs.Prelude.{vec_capacity}
use Rattle.switch_model.specs.Soundness.{Sound}
use Rattle.rule_txn.specs.Switch.{SwitchState, IsSwitch}
use Rattle.rule_txn.proofs.LookViews.{placed_at}
use Rattle.rule_txn.proofs.switch.Switch.placed.Goals as goal

pub returns-clause-stands : goal.returns-clause-stands
returns-clause-stands c =
    let kept : IsSwitch c.self.inside.records.items c.self.inside.stage (vec_capacity c.self.inside.records) = c.self.invariant in
    placed_at c.args.self.now c.args.at c.args.row (subst (λ (s : SwitchState). Sound s.geometry s.outlines) c.self.view_is kept.sound) c.requires.task c.requires.row
