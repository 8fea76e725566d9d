use Rattle.task_filters.proofs.ByteLemmas.{is_vector}
use Rattle.task_filters.proofs.filters.Filter.value.Goals as goal

pub returns-clause-vector : goal.returns-clause-vector
returns-clause-vector c = is_vector (record { value = c.self.inside.value; mask = c.self.inside.mask }) c.self.invariant
