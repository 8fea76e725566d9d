-- What an operation makes of a register of 32 bits.
use Rattle.std.specs.Prelude.{ℕ, ◌+◌, min, max, nat_lt, if◌then◌else◌, bit_and, bit_or}
use Rattle.stateful_ops.specs.declared.ops.Op.{Op}
use Rattle.stateful_ops.specs.declared.ops.Op.TheVariants.{CondAdd, Max, And, Or}

-- the greatest value of a register
abbrev pub register_max : ℕ
register_max = 4294967295

-- what the register holds after the operation
abbrev pub new_register : Op → ℕ → ℕ
new_register (CondAdd p1 p2) reg = if nat_lt reg p2 then min (reg + p1) register_max else reg
new_register (Max p1) reg = max reg p1
new_register (And p1) reg = bit_and reg p1
new_register (Or p1) reg = bit_or reg p1

-- what the operation hands on: the new register, but the bound of a conditional add that was not made
abbrev pub carry_of : Op → ℕ → ℕ
carry_of (CondAdd p1 p2) reg = if nat_lt reg p2 then min (reg + p1) register_max else p2
carry_of (Max p1) reg = max reg p1
carry_of (And p1) reg = bit_and reg p1
carry_of (Or p1) reg = bit_or reg p1
