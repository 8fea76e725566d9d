use Rattle.std.proofs.Common.{◌≡◌, ◌≤◌, IfSome}
use Rattle.std.specs.Vec.{vec_len, vec_capacity}
use Rattle.reg_file.specs.Reads.{OnlyReads}
use Rattle.readout.specs.PlacedTasks.{place_in}
use Rattle.readout.proofs.DistLemmas.{ReadSoFar}
use Rattle.readout.proofs.dist.read_row.Given as goal

abbrev pub invariant-cells : goal.invariant-cells
invariant-cells g l = let r = g.R.RegFile in let v = g.V.TaskView in record {
  reads : OnlyReads r l.fn.regs l.regs;
  capacity : vec_capacity l.fn.cells ≤ vec_capacity l.cells;
  count : vec_len l.cells ≡ l.index;
  told : IfSome (r.contents l.regs) (ReadSoFar l.cells.items (place_in (v.seen l.view) l.at 0) l.index);
}
