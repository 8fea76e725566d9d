use Rattle.pipe_flight.proofs.PipeRunLemmas.{pipes_are_runs}
use Rattle.pipe_flight.proofs.laws.pipe_runs.Goals as goal

pub returns : goal.returns
returns c = pipes_are_runs
