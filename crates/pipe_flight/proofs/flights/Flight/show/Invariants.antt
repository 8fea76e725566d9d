use Rattle.std.proofs.Common.{◌≡◌, [], length}
use Rattle.outside.specs.Told.{Stays}
use Rattle.pipe_flight.specs.Flights.{drained}
use Rattle.pipe_flight.specs.States.{versions}
use Rattle.pipe_flight.proofs.PassLemmas.{StillTo}
use Rattle.pipe_flight.proofs.flights.Flight.show.Given as goal

abbrev pub invariant-all : goal.invariant-all
invariant-all g l = let r = g.R.RegFile in record {
  faults : r.faults l.regs ≡ r.faults l.fn.regs;
  dims : r.dims l.regs ≡ r.dims l.fn.regs;
  before : l.self.before ≡ l.fn.self.before;
  to_do : StillTo (λ contents. drained (versions l.now l.fn.self.before) contents l.fn.self.flight) (λ contents. drained (versions l.now l.fn.self.before) contents l.self.flight) (r.contents l.fn.regs) (r.contents l.regs) (r.calls l.fn.regs) (r.calls l.regs);
  idle : l.fn.self.flight ≡ [] → (l.self.flight ≡ []) × Stays (r.calls l.fn.regs) (r.calls l.regs);
}

abbrev pub decreases-all : goal.decreases-all
decreases-all g l = length l.self.flight
