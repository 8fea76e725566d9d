use Rattle.std.proofs.Common.{◌<◌, List, Option, length, sym, subst}
use Rattle.group_keys.specs.Units.{UsedUnit, AreSound, freed, freed_at}
use Rattle.group_keys.proofs.SlotLemmas.{slots_set, unit_changed}
use Rattle.group_keys.proofs.SoundLemmas.{less_sound}
use Rattle.group_keys.proofs.groups.GroupKeys.free_unit.Goals as goal

pub invariant_of-self : goal.invariant_of-self
invariant_of-self c =
    let slots = c.self.inside.units in
    let count = c.self.inside.count in
    let sound : AreSound (freed_at c.args.self.now c.args.unit) =
    less_sound c.args.self.now c.args.unit c.requires (subst AreSound c.self.view_is c.self.invariant.sound) in
    slots_set slots count c.args.unit c.without_use.result
    (subst (λ (units : List (Option UsedUnit)). c.args.unit < length units) (sym c.self.view_is) c.requires)
    (subst AreSound (sym (unit_changed freed slots c.args.self.now count c.args.unit _ _ c.self.view_is c.requires c.without_use.ensures)) sound)
    c.self.invariant

pub returns-clause-units : goal.returns-clause-units
returns-clause-units c = unit_changed (freed) _ _ _ _ _ _ c.self.view_is c.requires c.without_use.ensures

pub returns-clause-sound : goal.returns-clause-sound
returns-clause-sound c =
    let sound : AreSound (freed_at c.args.self.now c.args.unit) =
    less_sound c.args.self.now c.args.unit c.requires (subst AreSound c.self.view_is c.self.invariant.sound) in
    subst AreSound (sym (unit_changed freed c.self.inside.units c.args.self.now c.self.inside.count c.args.unit _ _ c.self.view_is c.requires
    c.without_use.ensures)) sound
