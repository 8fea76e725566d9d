use Rattle.std.proofs.Common.{refl}
use Rattle.gen_capture.specs.Frames.{frame_of}
use Rattle.gen_capture.specs.Captures.{record_bytes}
use Rattle.gen_capture.proofs.records.record_of.Goals as goal

pub returns : goal.returns
unfolding record_bytes frame_of
returns c = rw (c.to_le_bytes-len.ensures, c.to_be_bytes-from.ensures, c.to_be_bytes-to.ensures) refl
