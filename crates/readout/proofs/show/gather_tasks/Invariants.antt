use Rattle.std.proofs.Common.{◌≤◌}
use Rattle.readout.specs.Lines.{task_lines}
use Rattle.readout.proofs.PieceLemmas.{FlatSoFar}
use Rattle.readout.proofs.show.gather_tasks.Given as goal

abbrev pub invariant-tasks : goal.invariant-tasks
invariant-tasks g l = let s = g.S.Sink in let v = g.V.TaskView in record {
  later : s.faults l.fn.sink ≤ s.faults l.sink;
  so_far : FlatSoFar (s.sent l.fn.sink) l.fn.piece.bytes (task_lines (v.seen l.view).geometry) (v.seen l.view).tasks l.at l.piece.bytes (s.sent l.sink);
}
