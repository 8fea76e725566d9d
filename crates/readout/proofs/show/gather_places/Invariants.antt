use Rattle.std.proofs.Common.{◌≤◌}
use Rattle.readout.specs.PlacedTasks.{task_in}
use Rattle.readout.proofs.PieceLemmas.{FlatSoFar}
use Rattle.readout.proofs.ShowLemmas.{line_at, places_of}
use Rattle.readout.proofs.show.gather_places.Given as goal

abbrev pub invariant-rows : goal.invariant-rows
invariant-rows g l = let s = g.S.Sink in let v = g.V.TaskView in record {
  later : s.faults l.fn.sink ≤ s.faults l.sink;
  so_far : FlatSoFar (s.sent l.fn.sink) l.fn.piece.bytes (line_at (v.seen l.view).geometry) (places_of (task_in (v.seen l.view) l.at)) l.row l.piece.bytes (s.sent l.sink);
}
