use Rattle.std.proofs.Common.{arith, ap, ◌^◌, ◌≤◌}
use Rattle.std.specs.Prelude.{sum_by}
use Rattle.std.proofs.Math.Pow.{pow_mono}
use Rattle.std.proofs.lemmas.List.Elements.{All-same}
use Rattle.partition_pool.specs.Nodes.{size_of}
use Rattle.partition_pool.specs.Kept.{blocks_from}
use Rattle.partition_pool.proofs.Counts.{free_count_is, registers_is, starts_small, starts_fit}
use Rattle.partition_pool.proofs.pool.Pool.free_count.Goals as goal

pub taken_size-requires-clause-few : goal.taken_size-requires-clause-few
taken_size-requires-clause-few c =
    let few = starts_fit c.self.inside.levels.least 0
    (2 ^ c.self.inside.levels.array_bits) 0 c.self.inside.starts.items c.self.invariant.taken.order in
    let most = pow_mono {i = c.self.inside.levels.array_bits} {j = 20} c.self.inside.levels.small in
    omega (arith, few, most, ap (sum_by size_of) c.as_slice.ensures.value)

pub taken_size-requires-clause-each : goal.taken_size-requires-clause-each
taken_size-requires-clause-each c =
    All-same (λ s. s ≤ 21) c.as_slice.result.now c.self.inside.starts.items c.as_slice.ensures.value
    (starts_small c.self.inside.levels.least 0 0
    (2 ^ c.self.inside.levels.array_bits) c.self.inside.starts.items c.self.invariant.taken.order
    (pow_mono {i = c.self.inside.levels.array_bits} {j = 20} c.self.inside.levels.small))

pub overflow_sub-result : goal.overflow_sub-result
overflow_sub-result c =
    let few = starts_fit c.self.inside.levels.least 0
    (2 ^ c.self.inside.levels.array_bits) 0 c.self.inside.starts.items c.self.invariant.taken.order in
    omega (arith, few, ap (sum_by size_of) c.as_slice.ensures.value, c.taken_size.ensures, c.power.ensures)

pub returns : goal.returns
returns c =
    let all = free_count_is c.self.inside.levels.least c.self.inside.levels.array_bits
    (blocks_from c.self.inside.levels.least 0 c.self.inside.starts.items) c.self.invariant.taken.order in
    let sum = registers_is c.self.inside.levels.least 0 c.self.inside.starts.items in
    rw (← c.self.view_is)
    (omega (
      arith,
      all,
      sum,
      ap
          (sum_by size_of) c.as_slice.ensures.value,
      c.taken_size.ensures,
      c.power.ensures,
    ))
