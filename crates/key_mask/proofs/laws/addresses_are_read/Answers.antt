use Rattle.key_mask.proofs.Ipv6GrammarLemmas.{addresses_are_read}
use Rattle.key_mask.proofs.laws.addresses_are_read.Goals as goal

pub returns : goal.returns
returns c = addresses_are_read
