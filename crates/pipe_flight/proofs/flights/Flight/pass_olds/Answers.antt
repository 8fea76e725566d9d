use Rattle.std.proofs.Common.{List, filter, drop, take, sym, ap, ◌∙◌, subst, rules}
use Rattle.pkt_headers.specs.declared.packets.Packet.{Packet}
use Rattle.pipe_core.specs.Rules.{Rules}
use Rattle.pipe_flight.specs.Flights.{Flying, drained}
use Rattle.pipe_flight.specs.Orders.{is_old, is_present}
use Rattle.pipe_flight.specs.States.{versions}
use Rattle.pipe_flight.proofs.DrainLemmas.{drained_append}
use Rattle.reg_file.specs.Calls.{MakesOver}
use Rattle.pipe_flight.proofs.PassLemmas.{StillTo, still_then, still_last}
use Rattle.pipe_flight.proofs.QueueLemmas.{old_among, old_head}
use Rattle.pipe_flight.proofs.flights.Flight.pass_olds.Goals as goal

pub olds-preserved : goal.olds-preserved
olds-preserved g c =
    let r = g.R.RegFile in let now = c.args.now.now in let before = c.args.self.now.before in
    let flight = c.olds.self.flight in
    let rules_now = versions now before in
    let head = old_head flight (sym c.has_old.ensures.first ∙ c.olds-test.true) in
    let makes : MakesOver (λ contents. drained rules_now contents (take 1 flight)) (r.contents c.olds.regs) (r.contents c.pass_first.new.regs) (r.calls c.olds.regs) (r.calls c.pass_first.new.regs) =
    subst (λ (b : Rules). MakesOver (λ contents. drained (versions now b) contents (take 1 flight)) (r.contents c.olds.regs) (r.contents c.pass_first.new.regs) (r.calls c.olds.regs) (r.calls c.pass_first.new.regs)) c.olds.invariant.before c.pass_first.ensures.makes in
    record {
      faults = search rules;
      dims = search rules;
      before = c.pass_first.ensures.before ∙ c.olds.invariant.before;
      presents = ap (filter is_present) c.pass_first.ensures.flight ∙ head.presents ∙ c.olds.invariant.presents;
      to_do = subst (λ (fs : List (Flying Packet)). StillTo (λ contents. drained rules_now contents (filter is_old c.args.self.now.flight)) (λ contents. drained rules_now contents (filter is_old fs)) (r.contents c.args.regs.now) (r.contents c.pass_first.new.regs) (r.calls c.args.regs.now) (r.calls c.pass_first.new.regs))
          (sym c.pass_first.ensures.flight)
          (still_then (λ contents. drained rules_now contents (filter is_old c.args.self.now.flight)) (λ contents. drained rules_now contents (filter is_old flight)) (λ contents. drained rules_now contents (take 1 flight)) (λ contents. drained rules_now contents (filter is_old (drop 1 flight)))
          (r.contents c.args.regs.now) (r.contents c.olds.regs) (r.contents c.pass_first.new.regs) (r.calls c.args.regs.now) (r.calls c.olds.regs) (r.calls c.pass_first.new.regs)
          (λ contents. ap (drained rules_now contents) head.olds ∙ drained_append rules_now contents (take 1 flight) (filter is_old (drop 1 flight)))
          c.olds.invariant.to_do makes);
      idle = λ nobody. absurd (old_among flight (sym c.has_old.ensures.first ∙ c.olds-test.true) (c.olds.invariant.idle nobody).0);
    }

pub returns-clause-flight : goal.returns-clause-flight
returns-clause-flight g c = sym (c.has_old.ensures.none c.olds-test.false).presents ∙ c.olds.invariant.presents

pub returns-clause-makes : goal.returns-clause-makes
returns-clause-makes g c =
    let r = g.R.RegFile in let rules_now = versions c.args.now.now c.args.self.now.before in
    still_last (λ contents. drained rules_now contents (filter is_old c.args.self.now.flight)) (λ contents. drained rules_now contents (filter is_old c.olds.self.flight))
    (r.contents c.args.regs.now) (r.contents c.olds.regs) (r.calls c.args.regs.now) (r.calls c.olds.regs)
    (λ contents. ap (drained rules_now contents) (c.has_old.ensures.none c.olds-test.false).olds)
    c.olds.invariant.to_do

pub returns-clause-idle : goal.returns-clause-idle
returns-clause-idle g c = λ nobody. (c.olds.invariant.idle nobody).1
