-- Worked values of the operations, each as the rule in plain words gives it.
use Rattle.std.proofs.Common.{◌≡◌, refl}
use Rattle.stateful_ops.specs.declared.ops.Op.TheVariants.{CondAdd, Max, And, Or}
use Rattle.stateful_ops.specs.Ops.{new_register, carry_of, register_max}

-- a counter that adds in the open
add_register : new_register (CondAdd 5 4294967295) 100 ≡ 105
add_register = refl

add_carry : carry_of (CondAdd 5 4294967295) 100 ≡ 105
add_carry = refl

-- it stops at the greatest value, and does not wrap
full_register : new_register (CondAdd 5 register_max) 4294967294 ≡ 4294967295
full_register = refl

full_carry : carry_of (CondAdd 5 register_max) 4294967294 ≡ 4294967295
full_carry = refl

-- one below its bound the register still grows, also past the bound
below_register : new_register (CondAdd 20 10) 9 ≡ 29
below_register = refl

below_carry : carry_of (CondAdd 20 10) 9 ≡ 29
below_carry = refl

-- at its bound it stays, and the bound is handed on
bound_register : new_register (CondAdd 20 10) 10 ≡ 10
bound_register = refl

bound_carry : carry_of (CondAdd 20 10) 10 ≡ 10
bound_carry = refl

-- above its bound it stays too, and the carry is the bound and not the register
above_register : new_register (CondAdd 20 10) 11 ≡ 11
above_register = refl

above_carry : carry_of (CondAdd 20 10) 11 ≡ 10
above_carry = refl

-- a bound of 0 lets nothing in
closed_register : new_register (CondAdd 1 0) 0 ≡ 0
closed_register = refl

closed_carry : carry_of (CondAdd 1 0) 0 ≡ 0
closed_carry = refl

-- the greater of the two, on either side
max_register : new_register (Max 7) 3 ≡ 7
max_register = refl

max_stays : new_register (Max 7) 4294967295 ≡ 4294967295
max_stays = refl

max_carry : carry_of (Max 7) 9 ≡ 9
max_carry = refl

-- 0b1100 and 0b1010
and_register : new_register (And 0b1010) 0b1100 ≡ 0b1000
and_register = refl

and_carry : carry_of (And 0b1010) 0b1100 ≡ 0b1000
and_carry = refl

or_register : new_register (Or 0b1010) 0b1100 ≡ 0b1110
or_register = refl

or_carry : carry_of (Or 0b1010) 0b1100 ≡ 0b1110
or_carry = refl
