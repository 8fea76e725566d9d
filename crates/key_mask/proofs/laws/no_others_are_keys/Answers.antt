use Rattle.key_mask.proofs.PartKeyLemmas.{no_others_are_keys}
use Rattle.key_mask.proofs.laws.no_others_are_keys.Goals as goal

pub returns : goal.returns
returns c = no_others_are_keys
