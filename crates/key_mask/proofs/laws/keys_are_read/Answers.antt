use Rattle.key_mask.proofs.PartKeyLemmas.{keys_are_read}
use Rattle.key_mask.proofs.laws.keys_are_read.Goals as goal

pub returns : goal.returns
returns c = keys_are_read
