use Rattle.std.proofs.Common.{map, ap, ◌∙◌, subst}
use Rattle.pipe_flight.specs.Flights.{kept_now}
use Rattle.pipe_flight.proofs.MoveLemmas.{IsInOrder}
use Rattle.pipe_flight.proofs.QueueLemmas.{drain_committed}
use Rattle.pipe_flight.proofs.flights.Flight.commit.Goals as goal

pub returns-clause-drain : goal.returns-clause-drain
returns-clause-drain g c =
    let r = g.R.RegFile in
    drain_committed c.args.self.now.before c.args.now.now c.keep.new.self.before c.args.self.now.flight c.keep.new.self.flight (r.contents c.args.regs.now) (r.contents c.pass_olds.new.regs) (r.calls c.args.regs.now) (r.calls c.pass_olds.new.regs)
    c.keep.ensures.before
    (subst IsInOrder c.self.view_is c.self.invariant.in_order).old_first
    (c.keep.ensures.flight ∙ ap (map kept_now) c.pass_olds.ensures.flight)
    c.pass_olds.ensures.makes

pub returns-clause-order : goal.returns-clause-order
returns-clause-order g c = subst IsInOrder c.self.view_is c.self.invariant.in_order
