use Rattle.group_keys.proofs.SlotLemmas.{first_units}
use Rattle.group_keys.proofs.groups.GroupKeys.new.Goals as goal

pub returns-clause-units : goal.returns-clause-units
returns-clause-units c = first_units c.args.units c.requires.few
