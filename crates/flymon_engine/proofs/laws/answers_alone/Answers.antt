use Rattle.flymon_engine.proofs.IsolationLemmas.{answers_alone}
use Rattle.flymon_engine.proofs.laws.answers_alone.Goals as goal

pub returns : goal.returns
returns c = answers_alone
