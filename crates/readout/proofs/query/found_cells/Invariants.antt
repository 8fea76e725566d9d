use Rattle.std.proofs.Common.{◌≡◌, IfSome, length}
use Rattle.reg_file.specs.Reads.{OnlyReads}
use Rattle.readout.specs.PlacedTasks.{task_in}
use Rattle.readout.proofs.QueryLemmas.{FoundSoFar}
use Rattle.readout.proofs.query.found_cells.Given as goal

abbrev pub invariant-rows : goal.invariant-rows
invariant-rows g l = let r = g.R.RegFile in let v = g.V.TaskView in record {
  reads : OnlyReads r l.fn.regs l.regs;
  count : length l.found.items ≡ l.row;
  found : IfSome (r.contents l.regs) (FoundSoFar l.h (task_in (v.seen l.view) l.task) l.row l.found.items);
}
