use Rattle.std.proofs.Common.{◌≡◌, ◌-◌}
use Rattle.pipe_core.specs.Flow.{flow}
use Rattle.pipe_core.specs.Flow.{stages_in}
use Rattle.pipe_flight.proofs.PassLemmas.{Goes}
use Rattle.pipe_flight.proofs.passing.pass_from.Given as goal
use Rattle.pipe_flight.specs.States.{group_count}

abbrev pub invariant-groups : goal.invariant-groups
invariant-groups g l = let r = g.R.RegFile in let stages = stages_in l.rules in record {
  faults : r.faults l.regs ≡ r.faults l.fn.regs;
  dims : r.dims l.regs ≡ r.dims l.fn.regs;
  goes : Goes stages l.packet (λ contents. flow stages contents l.packet (group_count l.rules - l.group) l.group l.fn.outs.carry) (group_count l.rules - l.at) l.at l.outs.carry (r.contents l.fn.regs) (r.contents l.regs) (r.calls l.fn.regs) (r.calls l.regs);
}
