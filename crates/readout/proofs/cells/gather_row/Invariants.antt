use Rattle.std.proofs.Common.{◌≤◌, IfSome}
use Rattle.reg_file.specs.Reads.{OnlyReads}
use Rattle.readout.specs.PlacedTasks.{place_in}
use Rattle.readout.proofs.CellLemmas.{RowSoFar}
use Rattle.readout.proofs.cells.gather_row.Given as goal

abbrev pub invariant-cells : goal.invariant-cells
invariant-cells g l = let r = g.R.RegFile in let s = g.S.Sink in let v = g.V.TaskView in record {
  reads : OnlyReads r l.fn.regs l.regs;
  later : s.faults l.fn.sink ≤ s.faults l.sink;
  so_far : IfSome (r.contents l.regs) (RowSoFar (s.sent l.fn.sink) l.fn.piece.bytes l.source.start l.row l.source.side
      (place_in (v.seen l.view) l.source.task l.row) l.index l.piece.bytes (s.sent l.sink));
}
