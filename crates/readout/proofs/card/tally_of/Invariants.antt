use Rattle.std.proofs.Common.{◌≤◌, ◌*◌, ◌^◌, IfSome}
use Rattle.reg_file.specs.Reads.{OnlyReads}
use Rattle.readout.specs.PlacedTasks.{place_in}
use Rattle.readout.proofs.CardLemmas.{ZerosSoFar, ZSoFar}
use Rattle.readout.proofs.card.tally_of.Given as goal

abbrev pub invariant-cells : goal.invariant-cells
invariant-cells g l = let r = g.R.RegFile in let v = g.V.TaskView in record {
  reads : OnlyReads r l.fn.regs l.regs;
  few : l.tally.zeros ≤ l.index;
  low : l.index ≤ l.tally.z;
  high : l.tally.z ≤ l.index * 2 ^ 33;
  zeros : IfSome (r.contents l.regs) (ZerosSoFar l.tally.zeros (place_in (v.seen l.view) l.at 0) l.index);
  z : IfSome (r.contents l.regs) (ZSoFar l.tally.z (place_in (v.seen l.view) l.at 0) l.index);
}
