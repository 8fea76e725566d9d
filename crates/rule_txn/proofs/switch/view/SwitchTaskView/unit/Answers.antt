-- The units are those of the tasks.
use Rattle.std.proofs.Common.{ℕ, ◌<◌, List, length, ap, sym, ◌∙◌, subst}
use Rattle.std.specs.Prelude.{Option}
use Rattle.group_keys.specs.Units.{UsedUnit, mask_of, unit_at}
use Rattle.switch_model.specs.Sights.{all_uses}
use Rattle.rule_txn.specs.Switch.{SwitchState}
use Rattle.rule_txn.proofs.LookViews.{units_are, unit_count}
use Rattle.rule_txn.proofs.switch.view.SwitchTaskView.unit.Goals as goal

pub unit-requires : goal.unit-requires
unit-requires c =
    let now : SwitchState = c.args.self.now in
    let uses = all_uses now.geometry now.outlines in
    let same = c.units.ensures ∙ units_are now.geometry uses c.pipe.result.now.groups c.args.group c.pipe.ensures.groups c.requires.group in
    subst (λ (n : ℕ). c.args.unit < n) (sym (ap length same ∙ unit_count now.geometry uses c.args.group)) c.requires.unit

pub returns : goal.returns
returns c =
    let now : SwitchState = c.args.self.now in
    let uses = all_uses now.geometry now.outlines in
    let same = c.units.ensures ∙ units_are now.geometry uses c.pipe.result.now.groups c.args.group c.pipe.ensures.groups c.requires.group in
    c.unit.ensures.mask ∙ ap (λ (us : List (Option UsedUnit)). mask_of (unit_at us c.args.unit)) same
