-- The operation that an entry makes for a packet.
use Rattle.std.specs.Prelude.{ℕ, ◌^◌}
use Rattle.pkt_headers.specs.declared.packets.Packet.{Packet}
use Rattle.pkt_headers.specs.Packets.{weight_of}
use Rattle.hash_units.specs.Toeplitz.{bit_of, rho_of}
use Rattle.stateful_ops.specs.declared.ops.Op.{Op}
use Rattle.stateful_ops.specs.declared.ops.Op.TheVariants as ops
use Rattle.stateful_ops.specs.Ops.{register_max}
use Rattle.match_table.specs.declared.operations.Code.{Code}
use Rattle.match_table.specs.declared.operations.Code.TheVariants.{CondAdd, Max, And, Or}
use Rattle.match_table.specs.declared.operations.First.{First}
use Rattle.match_table.specs.declared.operations.First.TheVariants.{Weight, Bit, Rho}
use Rattle.match_table.specs.declared.operations.Second.{Second}
use Rattle.match_table.specs.declared.operations.Second.TheVariants.{Top, Carry}
use Rattle.match_table.specs.declared.operations.Micro.{Micro}

-- the first number, where h is the row's hash and the region has 2 ^ bits registers
abbrev pub first_by : First → ℕ → ℕ → Packet → ℕ
first_by (Weight attr) h bits packet = weight_of packet attr
first_by Bit h bits packet = 2 ^ bit_of h
first_by Rho h bits packet = rho_of h bits

-- the second, where `carry` is what the other array handed on
abbrev pub second_by : Second → ℕ → ℕ
second_by Top carry = register_max
second_by (Carry array) carry = carry

abbrev pub coded : Code → ℕ → ℕ → Op
coded CondAdd first second = ops.CondAdd first second
coded Max first second = ops.Max first
coded And first second = ops.And first
coded Or first second = ops.Or first

abbrev pub operation_by : Micro → ℕ → ℕ → Packet → ℕ → Op
operation_by micro h bits packet carry = coded micro.code (first_by micro.first h bits packet) (second_by micro.second carry)
