use Rattle.std.proofs.Common.{◌<◌, sym, ◌∙◌, subst, arith}
use Rattle.pipe_flight.specs.Orders.{IsFlight}
use Rattle.pipe_flight.specs.States.{FlightState, group_count}
use Rattle.pipe_flight.proofs.QueueLemmas.{entered, ok_not_err, ok_if_not_err, pushed_is}
use Rattle.pipe_flight.proofs.flights.Flight.enter.Goals as goal

pub unreachable-requires : goal.unreachable-requires
unreachable-requires c =
    let p = c.self.inside in
    let e = entered p.waiting.items p.before c.args.self.now c.args.packet.now c.self.view_is c.self.invariant.in_order (subst (λ (s : FlightState). 0 < group_count s.before) c.self.view_is c.self.invariant.some) c.requires in
    ok_not_err c.push.result (c.push.ensures.succeeds (omega (arith, e.room, c.self.invariant.has_room, p.waiting.ok.0))) (sym c.is_err.ensures.value ∙ c.if-is_err.true)

pub invariant_of-self : goal.invariant_of-self
invariant_of-self c =
    let p = c.self.inside in
    let e = entered p.waiting.items p.before c.args.self.now c.args.packet.now c.self.view_is c.self.invariant.in_order (subst (λ (s : FlightState). 0 < group_count s.before) c.self.view_is c.self.invariant.some) c.requires in
    let ok = ok_if_not_err c.push.result (sym c.is_err.ensures.value ∙ c.if-is_err.false) in
    record {
      in_order = subst (IsFlight (group_count p.before)) (sym (pushed_is p.waiting.items c.push.new.self.items _ _ ok c.push.ensures.items)) e.kept;
      some = c.self.invariant.some;
      has_room = omega (arith, c.self.invariant.has_room, c.push.ensures.capacity);
    }
