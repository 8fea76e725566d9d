use Rattle.std.proofs.Common.{List, drop, take, sym, ◌∙◌, subst, rules, vec_len, arith}
use Rattle.pkt_headers.specs.declared.packets.Packet.{Packet}
use Rattle.pipe_core.specs.Rules.{Rules}
use Rattle.pipe_flight.specs.Flights.{Flying, drained}
use Rattle.pipe_flight.specs.States.{versions}
use Rattle.reg_file.specs.Calls.{MakesOver}
use Rattle.pipe_flight.proofs.PassLemmas.{StillTo, still_then}
use Rattle.pipe_flight.proofs.QueueLemmas.{first_apart, somebody_waits}
use Rattle.pipe_flight.proofs.flights.Flight.show.Goals as goal

pub all-preserved : goal.all-preserved
all-preserved g c =
    let r = g.R.RegFile in let now = c.args.now.now in let before = c.args.self.now.before in
    let flight = c.all.self.flight in
    let rules_now = versions now before in
    let makes : MakesOver (λ contents. drained rules_now contents (take 1 flight)) (r.contents c.all.regs) (r.contents c.pass_first.new.regs) (r.calls c.all.regs) (r.calls c.pass_first.new.regs) =
    subst (λ (b : Rules). MakesOver (λ contents. drained (versions now b) contents (take 1 flight)) (r.contents c.all.regs) (r.contents c.pass_first.new.regs) (r.calls c.all.regs) (r.calls c.pass_first.new.regs)) c.all.invariant.before c.pass_first.ensures.makes in
    record {
      faults = search rules;
      dims = search rules;
      before = c.pass_first.ensures.before ∙ c.all.invariant.before;
      to_do = subst (λ (fs : List (Flying Packet)). StillTo (λ contents. drained rules_now contents c.args.self.now.flight) (λ contents. drained rules_now contents fs) (r.contents c.args.regs.now) (r.contents c.pass_first.new.regs) (r.calls c.args.regs.now) (r.calls c.pass_first.new.regs))
          (sym c.pass_first.ensures.flight)
          (still_then (λ contents. drained rules_now contents c.args.self.now.flight) (λ contents. drained rules_now contents flight) (λ contents. drained rules_now contents (take 1 flight)) (λ contents. drained rules_now contents (drop 1 flight))
          (r.contents c.args.regs.now) (r.contents c.all.regs) (r.contents c.pass_first.new.regs) (r.calls c.args.regs.now) (r.calls c.all.regs) (r.calls c.pass_first.new.regs)
          (first_apart rules_now flight) c.all.invariant.to_do makes);
      idle = λ nobody. absurd (somebody_waits c.self.inside.waiting.items c.self.inside.before c.all.self (vec_len c.self.inside.waiting) c.self.view_is (omega (arith, c.self.inside.waiting.ok.0)) (sym c.is_empty.ensures ∙ c.all-test.true) (c.all.invariant.idle nobody).0);
    }
