use Rattle.std.proofs.Common.{◌≤◌, IfSome}
use Rattle.reg_file.specs.Reads.{OnlyReads}
use Rattle.readout.specs.PlacedTasks.{task_in}
use Rattle.readout.proofs.CellLemmas.{RowsSoFar}
use Rattle.readout.proofs.cells.gather_rows.Given as goal

abbrev pub invariant-rows : goal.invariant-rows
invariant-rows g l = let r = g.R.RegFile in let s = g.S.Sink in let v = g.V.TaskView in record {
  reads : OnlyReads r l.fn.regs l.regs;
  later : s.faults l.fn.sink ≤ s.faults l.sink;
  so_far : IfSome (r.contents l.regs) (RowsSoFar (s.sent l.fn.sink) l.fn.piece.bytes l.source.start l.source.side
      (task_in (v.seen l.view) l.source.task) l.row l.piece.bytes (s.sent l.sink));
}
