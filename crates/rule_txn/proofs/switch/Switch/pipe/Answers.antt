-- The pipe acts as the rules of the switch's state.
use Rattle.std.proofs.Common.{map, ap, ◌∙◌, subst}
use Rattle.std.specs.Prelude.{vec_capacity}
use Rattle.pipe_core.specs.Rules.{Rules}
use Rattle.switch_model.specs.Sights.{all_spots, all_uses}
use Rattle.switch_model.specs.Soundness.{Sound}
use Rattle.rule_txn.specs.Switch.{SwitchState, IsSwitch, placed_table, tables_for, groups_for}
use Rattle.rule_txn.proofs.SwitchRules.{acts}
use Rattle.rule_txn.proofs.switch.Switch.pipe.Goals as goal

pub returns-clause-acts : goal.returns-clause-acts
returns-clause-acts c =
    let kept : IsSwitch c.self.inside.records.items c.self.inside.stage (vec_capacity c.self.inside.records) = c.self.invariant in
    acts c.pipe-pipe.result.now c.args.self.now (subst (λ (s : SwitchState). Sound s.geometry s.outlines) c.self.view_is kept.sound)
    (ap (λ (r : Rules). r.geometry) c.pipe-pipe.ensures ∙ ap (λ (s : SwitchState). s.geometry) c.self.view_is)
    (ap (λ (r : Rules). r.hash_key) c.pipe-pipe.ensures ∙ ap (λ (s : SwitchState). s.hash_key) c.self.view_is)
    (ap (λ (r : Rules). map placed_table r.tables) c.pipe-pipe.ensures ∙ kept.stands.tables
    ∙ ap (λ (s : SwitchState). tables_for s.geometry (all_spots s.outlines)) c.self.view_is)
    (ap (λ (r : Rules). r.groups) c.pipe-pipe.ensures ∙ kept.stands.groups
    ∙ ap (λ (s : SwitchState). groups_for s.geometry (all_uses s.geometry s.outlines)) c.self.view_is)
