use Rattle.std.proofs.Common.{arith}
use Rattle.key_mask.proofs.VectorLemmas.{byte_room}
use Rattle.key_mask.proofs.vectors.number_in.Goals as goal

pub overflow_mul-number : goal.overflow_mul-number
overflow_mul-number c = omega (arith, byte_room c.bytes.number c.bytes.byte-index c.bytes.invariant.small (omega arith))

pub overflow_add-number : goal.overflow_add-number
overflow_add-number c = omega (arith, c.from.ensures, byte_room c.bytes.number c.bytes.byte-index c.bytes.invariant.small (omega arith))
