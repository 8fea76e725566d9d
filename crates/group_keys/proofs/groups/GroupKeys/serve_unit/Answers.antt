use Rattle.std.proofs.Common.{◌<◌, List, Option, length, sym, subst}
use Rattle.group_keys.specs.Units.{UsedUnit, AreSound, served}
use Rattle.group_keys.proofs.SlotLemmas.{slots_set, unit_changed}
use Rattle.group_keys.proofs.groups.GroupKeys.serve_unit.Goals as goal

pub invariant_of-self : goal.invariant_of-self
invariant_of-self c =
    let slots = c.self.inside.units in
    let count = c.self.inside.count in
    slots_set slots count c.args.unit c.with_use.result
    (subst (λ (units : List (Option UsedUnit)). c.args.unit < length units) (sym c.self.view_is) c.requires.exists)
    (subst AreSound (sym (unit_changed (served c.args.mask.now) slots c.args.self.now count c.args.unit _ _ c.self.view_is c.requires.exists
    c.with_use.ensures)) c.requires.sound)
    c.self.invariant

pub returns : goal.returns
returns c = unit_changed (served c.args.mask.now) _ _ _ _ _ _ c.self.view_is c.requires.exists c.with_use.ensures
