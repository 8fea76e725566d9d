use Rattle.std.proofs.Common.{◌≤◌, length}
use Rattle.std.specs.List.{range_with_len}
use Rattle.readout.specs.Lines.{group_line}
use Rattle.readout.proofs.PieceLemmas.{FlatSoFar}
use Rattle.readout.proofs.stat.gather_groups.Given as goal

abbrev pub invariant-groups : goal.invariant-groups
invariant-groups g l = let s = g.S.Sink in let v = g.V.TaskView in record {
  later : s.faults l.fn.sink ≤ s.faults l.sink;
  so_far : FlatSoFar (s.sent l.fn.sink) l.fn.piece.bytes (group_line (v.seen l.view)) (range_with_len 0 (length (v.seen l.view).geometry.groups)) l.group l.piece.bytes (s.sent l.sink);
}
