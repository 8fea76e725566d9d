use Rattle.std.proofs.Common.{◌≡◌, ◌-◌, ◌≤◌, take, drop, length}
use Rattle.fm_io.specs.Slots.{slot_at, SlotMoves, OthersStay, Yields}
use Rattle.fm_io.specs.Names.{DirectoryStays}
use Rattle.fm_io.proofs.loops.read_full.Given as goal

-- the first `done` bytes of `buf` are the next ones of the slot, and no call failed
abbrev pub invariant-pieces : goal.invariant-pieces
invariant-pieces g l = let f = g.F.Files in record {
  within : l.done ≤ length l.buf;
  later : f.faults l.fn.files ≤ f.faults l.files;
  last : f.last l.files ≡ f.last l.fn.files;
  strays : f.strays l.files ≡ f.strays l.fn.files;
  directory : DirectoryStays (f.directory l.fn.files) (f.directory l.files);
  slot : SlotMoves (Yields (take l.done l.buf)) (slot_at (f.slots l.fn.files) l.slot) (slot_at (f.slots l.files) l.slot);
  others : OthersStay l.slot (f.slots l.fn.files) (f.slots l.files);
  rest : drop l.done l.buf ≡ drop l.done l.fn.buf;
}

abbrev pub decreases-pieces : goal.decreases-pieces
decreases-pieces g l = length l.buf - l.done
