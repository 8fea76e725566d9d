use Rattle.key_mask.proofs.KeyLemmas.{key_again}
use Rattle.key_mask.proofs.laws.key_again.Goals as goal

pub returns : goal.returns
returns c = key_again
