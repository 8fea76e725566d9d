use Rattle.std.proofs.Common.{◌≡◌, ◌≤◌, ◌+◌, ◌*◌, ◌++◌, length, take}
use Rattle.std.specs.List.{flat_map, range_with_len}
use Rattle.readout.specs.Lines.{unit_text}
use Rattle.readout.proofs.stat.put_units.Given as goal

abbrev pub invariant-units : goal.invariant-units
invariant-units g l = let v = g.V.TaskView in record {
  text : l.piece.bytes ≡ l.fn.piece.bytes ++ flat_map (λ unit. unit_text ((v.seen l.view).mask l.group unit)) (take l.unit (range_with_len 0 l.units));
  short : length l.piece.bytes ≤ length l.fn.piece.bytes + 97 * l.unit;
}
