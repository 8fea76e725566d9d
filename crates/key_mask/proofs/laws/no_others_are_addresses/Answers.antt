use Rattle.key_mask.proofs.Ipv6GrammarLemmas.{no_others_are_addresses}
use Rattle.key_mask.proofs.laws.no_others_are_addresses.Goals as goal

pub returns : goal.returns
returns c = no_others_are_addresses
