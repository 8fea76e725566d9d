use Rattle.flymon_engine.proofs.IsolationLemmas.{counts_alone}
use Rattle.flymon_engine.proofs.laws.counts_alone.Goals as goal

pub returns : goal.returns
returns c = counts_alone
