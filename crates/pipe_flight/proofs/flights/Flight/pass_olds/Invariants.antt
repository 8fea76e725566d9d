use Rattle.std.proofs.Common.{◌≡◌, [], length, filter}
use Rattle.outside.specs.Told.{Stays}
use Rattle.pipe_flight.specs.Flights.{drained}
use Rattle.pipe_flight.specs.Orders.{is_old, is_present}
use Rattle.pipe_flight.specs.States.{versions}
use Rattle.pipe_flight.proofs.PassLemmas.{StillTo}
use Rattle.pipe_flight.proofs.flights.Flight.pass_olds.Given as goal

abbrev pub invariant-olds : goal.invariant-olds
invariant-olds g l = let r = g.R.RegFile in record {
  faults : r.faults l.regs ≡ r.faults l.fn.regs;
  dims : r.dims l.regs ≡ r.dims l.fn.regs;
  before : l.self.before ≡ l.fn.self.before;
  presents : filter is_present l.self.flight ≡ filter is_present l.fn.self.flight;
  to_do : StillTo (λ contents. drained (versions l.now l.fn.self.before) contents (filter is_old l.fn.self.flight)) (λ contents. drained (versions l.now l.fn.self.before) contents (filter is_old l.self.flight)) (r.contents l.fn.regs) (r.contents l.regs) (r.calls l.fn.regs) (r.calls l.regs);
  idle : filter is_old l.fn.self.flight ≡ [] → (filter is_old l.self.flight ≡ []) × Stays (r.calls l.fn.regs) (r.calls l.regs);
}

abbrev pub decreases-olds : goal.decreases-olds
decreases-olds g l = length l.self.flight
