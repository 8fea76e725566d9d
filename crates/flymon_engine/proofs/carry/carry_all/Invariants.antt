use Rattle.std.proofs.Common.{◌≡◌, ◌≤◌, true, take}
use Rattle.fm_io.specs.Slots.{slot_at, OthersStay}
use Rattle.fm_io.specs.Names.{DirectoryStays}
use Rattle.outside.specs.Told.{Told}
use Rattle.capture_read.specs.Steps.{MovesOn}
use Rattle.flymon_engine.specs.Runs.{Run}
use Rattle.flymon_engine.specs.Worlds.{Before, WhereTold, IsAt, Reaches}
use Rattle.flymon_engine.specs.Moves.{WasTold}
use Rattle.flymon_engine.specs.Arrivals.{Comes}
use Rattle.flymon_engine.specs.Captures.{IsReady}
use Rattle.flymon_engine.specs.Works.{works_of}
use Rattle.flymon_engine.proofs.carry.carry_all.Given as goal

abbrev pub invariant-commands : goal.invariant-commands
invariant-commands g l = let r = g.R.RegFile in let f = g.F.Files in let m = g.M.Machine in let o = g.O.Sink in record {
  attached : (slot_at (f.slots l.files) 2).attached ≡ true;
  ready : IsReady l.capture (slot_at (f.slots l.files) 2);
  fits : m.fits l.machine (r.dims l.regs);
  dims : r.dims l.regs ≡ r.dims l.fn.regs;
  strays : f.strays l.files ≡ f.strays l.fn.files;
  directory : DirectoryStays (f.directory l.fn.files) (f.directory l.files);
  others : OthersStay 2 (f.slots l.fn.files) (f.slots l.files);
  later : f.faults l.fn.files ≤ f.faults l.files;
  regs_later : r.faults l.fn.regs ≤ r.faults l.regs;
  out_later : o.faults l.fn.out ≤ o.faults l.out;
  cursor : Told MovesOn (slot_at (f.slots l.fn.files) 2).cursor (slot_at (f.slots l.files) 2).cursor;
  cells : WasTold (r.contents l.fn.regs) (r.contents l.regs);
  run : (before : Before) (start : Run)
      → WhereTold (slot_at (f.slots l.fn.files) 2).cursor (r.contents l.fn.regs) (λ t c. IsAt (m.stands l.fn.machine) (Comes l.fn.capture) before (r.calls l.fn.regs) (o.sent l.fn.out) t c start)
      → WhereTold (slot_at (f.slots l.files) 2).cursor (r.contents l.regs)
      (Reaches m.rules (m.stands l.machine) (Comes l.capture) before (r.calls l.regs) (o.sent l.out) start (take l.command-index (works_of l.commands)));
}
