use Rattle.std.proofs.Common.{◌≡◌, ◌-◌, drop, [], length}
use Rattle.key_mask.specs.Ipv6.{groups_before}
use Rattle.key_mask.proofs.spelling.groups_of.Given as goal

abbrev pub invariant-groups : goal.invariant-groups
invariant-groups l = record {
  same : groups_before (8 - l.k) l.rest (drop (8 - l.k) l.groups) ≡ groups_before 8 l.fn.address [];
  long : length l.groups ≡ 8;
}
