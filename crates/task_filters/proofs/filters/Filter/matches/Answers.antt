use Rattle.std.proofs.Common.{rules}
use Rattle.task_filters.proofs.FilterLemmas.{test_is}
use Rattle.task_filters.proofs.filters.Filter.matches.Goals as goal

pub returns-clause-test : goal.returns-clause-test
returns-clause-test c = test_is c.args.self.now c.args.vec.now c.leaves.result (search rules)
