use Rattle.std.proofs.Common.{arith}
use Rattle.key_mask.proofs.Ipv6ReadLemmas.{digit_room, digits_small}
use Rattle.key_mask.proofs.ipv6.group_number.Goals as goal

pub overflow_mul-number : goal.overflow_mul-number
overflow_mul-number c = omega (arith, digit_room c.digits.number c.digits.byte-index c.digits.invariant.small (omega arith))

pub overflow_add-number : goal.overflow_add-number
overflow_add-number c = omega (arith, c.in_ok-number.ensures.below, digit_room c.digits.number c.digits.byte-index c.digits.invariant.small (omega arith))

pub returns-clause-below : goal.returns-clause-below
returns-clause-below c = digits_small c.digits.number c.digits.byte-index c.digits.invariant.small (omega arith)
