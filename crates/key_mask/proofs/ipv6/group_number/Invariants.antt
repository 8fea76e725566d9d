use Rattle.std.proofs.Common.{◌≡◌, ◌<◌, ◌^◌, drop}
use Rattle.key_mask.specs.Ipv6.{hex_after}
use Rattle.key_mask.proofs.ipv6.group_number.Given as goal

abbrev pub invariant-digits : goal.invariant-digits
invariant-digits l = record {
  same : hex_after l.number (drop l.byte-index l.text) ≡ hex_after 0 l.text;
  small : l.number < 16 ^ l.byte-index;
}
