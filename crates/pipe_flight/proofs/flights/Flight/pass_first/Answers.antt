use Rattle.std.proofs.Common.{◌<◌, length, ap, arith}
use Rattle.std.proofs.lemmas.List.{length-map}
use Rattle.pipe_flight.specs.States.{FlightState, flying, group_count}
use Rattle.pipe_flight.proofs.QueueLemmas.{first_gone}
use Rattle.pipe_flight.proofs.flights.Flight.pass_first.Goals as goal

pub invariant_of-self : goal.invariant_of-self
invariant_of-self g c =
    let p = c.self.inside in
    let l = ap (λ (a : FlightState). length a.flight) c.self.view_is in
    let lt : 0 < length p.waiting.items = omega (arith, l, length-map p.waiting.items flying, c.requires.some) in
    record {
      in_order = first_gone (group_count p.before) p.waiting.items c.remove-one.new.self.items c.remove-one.result c.self.invariant.in_order lt c.remove-one.ensures.value c.remove-one.ensures.items;
      some = c.self.invariant.some;
      has_room = omega (arith, c.self.invariant.has_room, c.remove-one.ensures.capacity);
    }
