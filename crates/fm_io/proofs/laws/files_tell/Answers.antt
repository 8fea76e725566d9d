use Rattle.fm_io.proofs.MemFilesLemmas.{slots_tell}
use Rattle.fm_io.proofs.laws.files_tell.Goals as goal

pub returns : goal.returns
returns c = slots_tell
