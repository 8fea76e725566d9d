use Rattle.std.proofs.Common.{◌≡◌, ◌≤◌, ◌+◌, ◌*◌, ◌++◌, take, map, length}
use Rattle.std.specs.List.{join_with_byte}
use Rattle.key_mask.specs.Ipv6.{group_text}
use Rattle.key_mask.proofs.spelling.put_groups.Given as goal

abbrev pub invariant-groups : goal.invariant-groups
invariant-groups l = record {
  text : l.line.bytes ≡ l.fn.line.bytes ++ join_with_byte 58 (map group_text (take l.k l.groups));
  short : length l.line.bytes + 1 ≤ length l.fn.line.bytes + 5 * l.k;
}
