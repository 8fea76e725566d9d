use Rattle.std.proofs.Common.{◌<◌, length, subst, ap, arith}
use Rattle.std.proofs.lemmas.List.{length-set}
use Rattle.group_keys.specs.declared.uses.KeyUse.{KeyUse}
use Rattle.group_keys.specs.Units.{AreInUse, unit_at, freed}
use Rattle.group_keys.proofs.UseLemmas.{first_exists, second_exists}
use Rattle.group_keys.proofs.groups.GroupKeys.free.Goals as goal

pub free_unit-requires-in-Pair : goal.free_unit-requires-in-Pair
free_unit-requires-in-Pair c =
    let units = c.args.self.now in
    first_exists units c.in-Pair.one c.in-Pair.two (subst (λ (keys : KeyUse). AreInUse units keys) c.in-Pair.is c.requires)

pub free_unit-requires-in-Pair-2 : goal.free_unit-requires-in-Pair-2
free_unit-requires-in-Pair-2 c =
    let units = c.args.self.now in
    let there : c.in-Pair.two < length units =
    second_exists units c.in-Pair.one c.in-Pair.two (subst (λ (keys : KeyUse). AreInUse units keys) c.in-Pair.is c.requires) in
    omega (arith, there, ap length c.free_unit-in-Pair.ensures.units, length-set units c.in-Pair.one (freed (unit_at units c.in-Pair.one)))
