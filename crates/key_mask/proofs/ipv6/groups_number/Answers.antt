use Rattle.std.proofs.Common.{arith}
use Rattle.key_mask.proofs.Ipv6ReadLemmas.{group_room}
use Rattle.key_mask.proofs.ipv6.groups_number.Goals as goal

pub overflow_mul-number : goal.overflow_mul-number
overflow_mul-number c = omega (arith, group_room c.groups.number c.groups.group-index c.groups.invariant.small (omega arith))

pub overflow_add-number : goal.overflow_add-number
overflow_add-number c = omega (arith, c.from.ensures, group_room c.groups.number c.groups.group-index c.groups.invariant.small (omega arith))
