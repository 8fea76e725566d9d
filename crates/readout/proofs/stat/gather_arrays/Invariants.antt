use Rattle.std.proofs.Common.{◌≤◌}
use Rattle.std.specs.List.{range_with_len}
use Rattle.addr_translate.specs.Geometry.{array_count}
use Rattle.readout.specs.Lines.{array_line}
use Rattle.readout.proofs.PieceLemmas.{FlatSoFar}
use Rattle.readout.proofs.stat.gather_arrays.Given as goal

abbrev pub invariant-arrays : goal.invariant-arrays
invariant-arrays g l = let s = g.S.Sink in let v = g.V.TaskView in record {
  later : s.faults l.fn.sink ≤ s.faults l.sink;
  so_far : FlatSoFar (s.sent l.fn.sink) l.fn.piece.bytes (array_line (v.seen l.view)) (range_with_len 0 (array_count (v.seen l.view).geometry)) l.array l.piece.bytes (s.sent l.sink);
}
