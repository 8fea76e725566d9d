use Rattle.task_filters.proofs.AgainLemmas.{filter_again}
use Rattle.task_filters.proofs.laws.filter_again.Goals as goal

pub returns : goal.returns
returns c = filter_again
