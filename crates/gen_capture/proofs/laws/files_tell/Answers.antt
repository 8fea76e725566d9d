use Rattle.gen_capture.proofs.GenFilesLemmas.{slots_tell}
use Rattle.gen_capture.proofs.laws.files_tell.Goals as goal

pub returns : goal.returns
returns c = slots_tell
