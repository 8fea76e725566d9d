use Rattle.std.proofs.Common.{◌-◌, ◌+◌, arith, rules, ap, length, ◌∙◌}
use Rattle.pipe_core.specs.Flow.{flow}
use Rattle.pipe_core.specs.Flow.{stages_in}
use Rattle.addr_translate.specs.Geometry.{Geometry, group_number}
use Rattle.pipe_flight.proofs.PassLemmas.{goes_on, goes_last, staged}
use Rattle.pipe_flight.proofs.passing.pass_from.Goals as goal
use Rattle.pipe_flight.specs.States.{group_count}

pub groups-preserved : goal.groups-preserved
groups-preserved g c =
    let r = g.R.RegFile in let now = c.args.rules.now in let stages = stages_in now in
    let count = c.group_count-at-end.ensures.value ∙ ap (λ (s : Geometry). length s.groups) c.shape.ensures.value in
    record {
      faults = search rules;
      dims = search rules;
      goes = goes_on (group_number now.geometry) stages c.args.packet.now (λ contents. flow stages contents c.args.packet.now ((group_count now) - c.args.group) c.args.group c.args.outs.carry)
          ((group_count now) - c.groups.at) ((group_count now) - (c.groups.at + 1)) c.groups.at c.groups.outs.carry c.group_step.new.outs.carry
          (r.contents c.args.regs.now) (r.contents c.groups.regs) (r.contents c.group_step.new.regs) (r.calls c.args.regs.now) (r.calls c.groups.regs) (r.calls c.group_step.new.regs)
          (staged now) (omega (arith, count)) c.groups.invariant.goes c.group_step.ensures.makes;
    }

pub returns-clause-makes : goal.returns-clause-makes
returns-clause-makes g c =
    let r = g.R.RegFile in let now = c.args.rules.now in let stages = stages_in now in
    let count = c.group_count-at-end.ensures.value ∙ ap (λ (s : Geometry). length s.groups) c.shape.ensures.value in
    goes_last stages c.args.packet.now (λ contents. flow stages contents c.args.packet.now (group_count now - c.args.group) c.args.group c.args.outs.carry)
    (group_count now - c.groups.at) c.groups.at c.groups.outs.carry
    (r.contents c.args.regs.now) (r.contents c.groups.regs) (r.calls c.args.regs.now) (r.calls c.groups.regs)
    (omega (arith, count, c.groups-test.false)) c.groups.invariant.goes
