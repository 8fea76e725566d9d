use Rattle.std.proofs.Common.{map, ap, sym, ◌∙◌, subst, arith}
use Rattle.pipe_core.specs.Rules.{Rules}
use Rattle.pipe_flight.specs.Flights.{kept_now}
use Rattle.pipe_flight.specs.Orders.{IsFlight}
use Rattle.pipe_flight.specs.States.{FlightState, flying, group_count, kept_waiting}
use Rattle.pipe_flight.proofs.MoveLemmas.{count_same}
use Rattle.pipe_flight.proofs.QueueLemmas.{kept_is, kept_under, flight_kept}
use Rattle.pipe_flight.proofs.KeepLemmas.{whole_again}
use Rattle.pipe_flight.proofs.flights.Flight.keep.Goals as goal

pub invariant_of-self : goal.invariant_of-self
invariant_of-self c =
    let p = c.self.inside in
    record {
      in_order = kept_under (ap (λ (a : FlightState). (group_count a.before)) c.self.view_is ∙ (count_same c.requires) ∙ ap (λ (r : Rules). (group_count r)) (sym c.copy_from.ensures))
          (subst (IsFlight (group_count p.before))
          (sym (ap (map flying) (whole_again p.waiting.items c.keep_all.new.waiting p.waiting.len p.waiting.ok.0 (c.keep_all.ensures ∙ ap (map kept_waiting) c.deref_mut.ensures.value)) ∙ kept_is p.waiting.items))
          (flight_kept (group_count p.before) (map flying p.waiting.items) c.self.invariant.in_order));
      some = (let same = ap (λ (a : FlightState). (group_count a.before)) c.self.view_is ∙ (count_same c.requires) ∙ ap (λ (r : Rules). (group_count r)) (sym c.copy_from.ensures) in omega (arith, same, c.self.invariant.some));
      has_room = (let same = ap (λ (a : FlightState). (group_count a.before)) c.self.view_is ∙ (count_same c.requires) ∙ ap (λ (r : Rules). (group_count r)) (sym c.copy_from.ensures) in omega (arith, same, c.self.invariant.has_room));
    }

pub returns-clause-flight : goal.returns-clause-flight
returns-clause-flight c =
    let p = c.self.inside in
    ap (map flying) (whole_again p.waiting.items c.keep_all.new.waiting p.waiting.len p.waiting.ok.0 (c.keep_all.ensures ∙ ap (map kept_waiting) c.deref_mut.ensures.value))
    ∙ kept_is p.waiting.items
    ∙ ap (λ (a : FlightState). map kept_now a.flight) c.self.view_is
