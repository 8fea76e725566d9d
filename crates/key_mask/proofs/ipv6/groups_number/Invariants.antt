use Rattle.std.proofs.Common.{◌≡◌, ◌<◌, ◌^◌, take}
use Rattle.key_mask.specs.Ipv6.{groups_value}
use Rattle.key_mask.proofs.ipv6.groups_number.Given as goal

abbrev pub invariant-groups : goal.invariant-groups
invariant-groups l = record {
  same : l.number ≡ groups_value (take l.group-index l.groups);
  small : l.number < 65536 ^ l.group-index;
}
