use Rattle.std.proofs.Common.{◌≡◌, true}
use Rattle.fm_io.specs.Slots.{slot_at}
use Rattle.gen_capture.specs.GenFiles.{slots_of}
use Rattle.gen_capture.proofs.tests.byte_by_byte.Given as goal

abbrev pub invariant-bytes : goal.invariant-bytes
invariant-bytes l = (slot_at (slots_of l.files) 2).attached ≡ true
