use Rattle.key_mask.proofs.KeyLemmas.{only_key}
use Rattle.key_mask.proofs.laws.only_key.Goals as goal

pub returns : goal.returns
returns c = only_key
