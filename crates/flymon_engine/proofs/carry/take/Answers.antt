use Rattle.std.proofs.Common.{refl, sym, ap, ◌∙◌}
use Rattle.flymon_engine.specs.declared.work.Work.TheVariants.{Take}
use Rattle.flymon_engine.specs.Runs.{packets_line}
use Rattle.flymon_engine.specs.Arrivals.{Comes}
use Rattle.flymon_engine.proofs.WorldLemmas.{where_weaker}
use Rattle.flymon_engine.proofs.StepLemmas.{goes_took}
use Rattle.flymon_engine.proofs.carry.take.Goals as goal

pub returns-in-Ok-clause-run : goal.returns-in-Ok-clause-run
returns-in-Ok-clause-run g c = let r = g.R.RegFile in let f = g.F.Files in let m = g.M.Machine in let o = g.O.Sink in
    λ before run at.
    where_weaker (f.slots c.take_packets.new.files).capture.cursor (r.contents c.take_packets.new.regs)
    (λ t d took. goes_took m.rules (m.stands c.take_packets.new.machine) (Comes c.take_packets.new.capture) before (r.calls c.take_packets.new.regs)
    (o.sent c.args.out.now) (o.sent c.send.new.out) run (Take c.args.asked) c.in-Ok.count c.line_packets.result.bytes c.send.result t d
    refl (ap packets_line (sym took.took) ∙ sym c.line_packets.ensures) c.send.ensures.sent c.send.ensures.part c.send.ensures.output took)
    (c.in-Ok.ensures.run before (o.sent c.args.out.now) run at)

pub returns-in-Err-clause-run : goal.returns-in-Err-clause-run
returns-in-Err-clause-run g c = let o = g.O.Sink in λ before run at. c.in-Err.ensures.run before (o.sent c.args.out.now) run at
