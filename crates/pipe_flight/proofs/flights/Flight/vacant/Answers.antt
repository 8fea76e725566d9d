use Rattle.std.proofs.Common.{List, not, ap, ◌∙◌, subst}
use Rattle.std.specs.Prelude.{◌==◌}
use Rattle.std.specs.List.{list_any}
use Rattle.pipe_flight.specs.declared.waiting.Waiting.{Waiting}
use Rattle.pipe_flight.proofs.MoveLemmas.{IsInOrder}
use Rattle.pipe_flight.proofs.QueueLemmas.{vacant_is}
use Rattle.pipe_flight.proofs.flights.Flight.vacant.Goals as goal

pub returns-clause-vacant : goal.returns-clause-vacant
returns-clause-vacant c =
    let p = c.self.inside in
    vacant_is c.args.group p.waiting.items p.before c.args.self.now _ c.self.view_is
    (ap not (c.any_at.ensures ∙ ap (λ (ws : List Waiting). list_any (λ (w : Waiting). w.group == c.args.group) ws) c.deref.ensures.value))

pub returns-clause-order : goal.returns-clause-order
returns-clause-order c = subst IsInOrder c.self.view_is c.self.invariant.in_order
