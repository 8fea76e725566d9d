use Rattle.readout.proofs.ShowLemmas.{digits_are_text}
use Rattle.readout.proofs.stat.put_bytes.Goals as goal

pub unreachable-requires-in-Err : goal.unreachable-requires-in-Err
unreachable-requires-in-Err c = c.in-Err.ensures.cases.0 (digits_are_text c.args.bytes.now c.encode_to_slice.new.output c.in-Ok.ensures.written)
