use Rattle.task_filters.proofs.OnlyLemmas.{only_filter}
use Rattle.task_filters.proofs.laws.only_filter.Goals as goal

pub returns : goal.returns
returns c = only_filter
