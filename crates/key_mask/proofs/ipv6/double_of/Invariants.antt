use Rattle.std.proofs.Common.{◌≡◌, drop}
use Rattle.key_mask.specs.Ipv6.{double_from}
use Rattle.key_mask.proofs.ipv6.double_of.Given as goal

abbrev pub invariant-bytes : goal.invariant-bytes
invariant-bytes l = double_from l.at (drop l.at l.text) ≡ double_from 0 l.text
