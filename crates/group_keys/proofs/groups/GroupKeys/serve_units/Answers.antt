use Rattle.std.proofs.Common.{◌<◌, List, Option, length, rules, ap, sym, subst, ◌∙◌}
use Rattle.group_keys.specs.Units.{UsedUnit, AreSound, HasRoom, unit_at, served_at, served_units}
use Rattle.group_keys.proofs.UseLemmas.{alone_serves, pair_serves_both, second_room, served_now}
use Rattle.group_keys.proofs.groups.GroupKeys.serve_units.Goals as goal

pub serve_unit-requires-clause-exists : goal.serve_unit-requires-clause-exists
serve_unit-requires-clause-exists c =
    (alone_serves c.args.self.now c.args.mask.now c.args.keys c.in-Single.unit c.in-Single.is c.requires.sound c.requires.stands c.requires.found).exists

pub serve_unit-requires-clause-sound : goal.serve_unit-requires-clause-sound
serve_unit-requires-clause-sound c =
    (alone_serves c.args.self.now c.args.mask.now c.args.keys c.in-Single.unit c.in-Single.is c.requires.sound c.requires.stands c.requires.found).sound

pub serve_unit-requires-in-Pair-clause-exists : goal.serve_unit-requires-in-Pair-clause-exists
serve_unit-requires-in-Pair-clause-exists c =
    (pair_serves_both c.args.self.now c.args.mask.now c.args.keys c.in-Pair.one c.in-Pair.two c.in-Pair.is c.requires.sound c.requires.stands c.requires.found).one_exists

pub serve_unit-requires-in-Pair-clause-sound : goal.serve_unit-requires-in-Pair-clause-sound
serve_unit-requires-in-Pair-clause-sound c =
    (pair_serves_both c.args.self.now c.args.mask.now c.args.keys c.in-Pair.one c.in-Pair.two c.in-Pair.is c.requires.sound c.requires.stands c.requires.found).one_sound

pub serve_unit-requires-in-Pair-2-clause-exists : goal.serve_unit-requires-in-Pair-2-clause-exists
serve_unit-requires-in-Pair-2-clause-exists c =
    subst (λ (units : List (Option UsedUnit)). c.in-Pair.two < length units) (sym c.serve_unit-in-Pair.ensures)
    (pair_serves_both c.args.self.now c.args.mask.now c.args.keys c.in-Pair.one c.in-Pair.two c.in-Pair.is c.requires.sound c.requires.stands c.requires.found).two_exists

pub serve_unit-requires-in-Pair-2-clause-room : goal.serve_unit-requires-in-Pair-2-clause-room
serve_unit-requires-in-Pair-2-clause-room c =
    subst (λ (units : List (Option UsedUnit)). HasRoom (unit_at units c.in-Pair.two)) (sym c.serve_unit-in-Pair.ensures)
    (second_room c.args.self.now c.args.mask.now c.in-Pair.one c.in-Pair.two
    (pair_serves_both c.args.self.now c.args.mask.now c.args.keys c.in-Pair.one c.in-Pair.two c.in-Pair.is c.requires.sound c.requires.stands c.requires.found) c.requires.room)

pub serve_unit-requires-in-Pair-2-clause-sound : goal.serve_unit-requires-in-Pair-2-clause-sound
serve_unit-requires-in-Pair-2-clause-sound c =
    subst (λ (units : List (Option UsedUnit)). AreSound (served_at c.args.mask.now units c.in-Pair.two)) (sym c.serve_unit-in-Pair.ensures)
    (pair_serves_both c.args.self.now c.args.mask.now c.args.keys c.in-Pair.one c.in-Pair.two c.in-Pair.is c.requires.sound c.requires.stands c.requires.found).two_sound

pub returns-in-Single-clause-in_use : goal.returns-in-Single-clause-in_use
unfolding served_units
returns-in-Single-clause-in_use c =
    served_now _ c.args.self.now c.args.keys c.args.mask.now (search rules) c.requires.found

pub returns-in-Single-clause-sound : goal.returns-in-Single-clause-sound
returns-in-Single-clause-sound c =
    subst AreSound (sym c.serve_unit.ensures)
    (alone_serves c.args.self.now c.args.mask.now c.args.keys c.in-Single.unit c.in-Single.is c.requires.sound c.requires.stands c.requires.found).sound

pub returns-in-Pair-clause-in_use : goal.returns-in-Pair-clause-in_use
unfolding served_units
returns-in-Pair-clause-in_use c =
    served_now _ c.args.self.now c.args.keys c.args.mask.now (search rules) c.requires.found

pub returns-in-Pair-clause-sound : goal.returns-in-Pair-clause-sound
returns-in-Pair-clause-sound c =
    subst AreSound (sym (c.serve_unit-in-Pair-2.ensures ∙ ap (λ (units : List (Option UsedUnit)). served_at c.args.mask.now units c.in-Pair.two) c.serve_unit-in-Pair.ensures))
    (pair_serves_both c.args.self.now c.args.mask.now c.args.keys c.in-Pair.one c.in-Pair.two c.in-Pair.is c.requires.sound c.requires.stands c.requires.found).two_sound
