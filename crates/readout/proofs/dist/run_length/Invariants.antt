use Rattle.std.proofs.Common.{◌-◌, ◌<◌, ◌≤◌, length}
use Rattle.readout.proofs.DistLemmas.{RunTo}
use Rattle.readout.proofs.dist.run_length.Given as goal

abbrev pub invariant-run : goal.invariant-run
invariant-run l = record {
  above : l.at < l.end;
  within : l.end ≤ length l.cells;
  run : RunTo l.cells l.at l.end;
}

abbrev pub decreases-run : goal.decreases-run
decreases-run l = length l.cells - l.end
