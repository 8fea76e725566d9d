use Rattle.gen_capture.proofs.CaptureLemmas.{captures_whole}
use Rattle.gen_capture.proofs.laws.captures_are_whole.Goals as goal

pub returns : goal.returns
returns c = captures_whole c.reads_back_what_is_written.ensures
