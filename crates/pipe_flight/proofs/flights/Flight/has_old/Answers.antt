use Rattle.std.proofs.Common.{List, take, map, ap, ◌∙◌}
use Rattle.std.specs.List.{list_any}
use Rattle.pipe_flight.specs.Orders.{is_old}
use Rattle.pipe_flight.specs.States.{FlightState, flying}
use Rattle.pipe_flight.specs.declared.waiting.Waiting.{Waiting}
use Rattle.pipe_flight.proofs.QueueLemmas.{old_none}
use Rattle.pipe_flight.proofs.flights.Flight.has_old.Goals as goal

pub returns-clause-none : goal.returns-clause-none
returns-clause-none c = λ is.
    let p = c.self.inside in
    old_none p.waiting.items p.before c.args.self.now c.first_old.result c.self.view_is c.self.invariant.in_order
    (c.first_old.ensures ∙ ap (λ (ws : List Waiting). list_any is_old (take 1 (map flying ws))) c.deref.ensures.value ∙ ap (λ (a : FlightState). list_any is_old (take 1 a.flight)) c.self.view_is)
    is
