use Rattle.flymon_engine.proofs.GoLemmas.{agrees}
use Rattle.flymon_engine.proofs.laws.ends_as_the_script.Goals as goal

pub returns : goal.returns
returns c = agrees
