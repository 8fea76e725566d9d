use Rattle.std.proofs.Common.{◌≡◌, drop}
use Rattle.sketch_defs.specs.Answers.{have_bits}
use Rattle.sketch_defs.proofs.answers.have_bits.Given as goal

abbrev pub invariant-rows : goal.invariant-rows
invariant-rows l = have_bits l.h l.row (drop l.row l.cells) ≡ have_bits l.h 0 l.cells
