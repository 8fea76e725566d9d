use Rattle.std.proofs.Common.{◌-◌, ◌≤◌, length}
use Rattle.readout.proofs.DistLemmas.{SizesSoFar}
use Rattle.readout.proofs.dist.gather_sizes.Given as goal

abbrev pub invariant-runs : goal.invariant-runs
invariant-runs g l = let s = g.S.Sink in record {
  later : s.faults l.fn.sink ≤ s.faults l.sink;
  within : l.at ≤ length l.cells;
  so_far : SizesSoFar (s.sent l.fn.sink) l.fn.piece.bytes l.cells l.piece.bytes l.at (s.sent l.sink);
}

abbrev pub decreases-runs : goal.decreases-runs
decreases-runs g l = length l.cells - l.at
