use Rattle.std.proofs.Common.{subst}
use Rattle.flymon_engine.specs.declared.work.Work.{Work}
use Rattle.flymon_engine.specs.declared.work.Work.TheVariants.{Change, Ask}
use Rattle.flymon_engine.specs.Arrivals.{Comes}
use Rattle.flymon_engine.specs.Worlds.{Goes}
use Rattle.flymon_engine.proofs.WorldLemmas.{where_cells, where_weaker}
use Rattle.flymon_engine.proofs.StepLemmas.{goes_at, change_stays, ask_stays}
use Rattle.flymon_engine.proofs.carry.carry_one.Goals as goal

pub returns-in-Change-clause-run : goal.returns-in-Change-clause-run
returns-in-Change-clause-run g c = let r = g.R.RegFile in let f = g.F.Files in let m = g.M.Machine in let o = g.O.Sink in
    λ before run at.
    where_cells (f.slots c.args.files.now).capture.cursor (r.contents c.args.regs.now) (r.contents c.change_tasks.new.regs)
    (λ t d e goes is. subst (λ (x : Work). Goes m.rules (m.stands c.change_tasks.new.machine) (Comes c.args.capture.now) before (r.calls c.change_tasks.new.regs) (o.sent c.change_tasks.new.out) c.change_tasks.result run x t e)
    c.in-Change.ensures
    (goes_at m.rules (m.stands c.args.machine.now) (m.stands c.change_tasks.new.machine) (Comes c.args.capture.now) before (r.calls c.args.regs.now) (r.calls c.change_tasks.new.regs)
    (o.sent c.args.out.now) (o.sent c.change_tasks.new.out) run (Change c.in-Change.change) c.change_tasks.result t d e (change_stays m.rules run c.in-Change.change) goes is))
    (c.change_tasks.ensures.run before run) at

pub returns-in-Ask-clause-run : goal.returns-in-Ask-clause-run
returns-in-Ask-clause-run g c = let r = g.R.RegFile in let f = g.F.Files in let m = g.M.Machine in let o = g.O.Sink in
    λ before run at.
    where_cells (f.slots c.args.files.now).capture.cursor (r.contents c.args.regs.now) (r.contents c.ask.new.regs)
    (λ t d e goes is. subst (λ (x : Work). Goes m.rules (m.stands c.ask.new.machine) (Comes c.args.capture.now) before (r.calls c.ask.new.regs) (o.sent c.ask.new.out) c.ask.result run x t e)
    c.in-Ask.ensures
    (goes_at m.rules (m.stands c.args.machine.now) (m.stands c.ask.new.machine) (Comes c.args.capture.now) before (r.calls c.args.regs.now) (r.calls c.ask.new.regs)
    (o.sent c.args.out.now) (o.sent c.ask.new.out) run (Ask c.in-Ask.request) c.ask.result t d e (ask_stays m.rules run c.in-Ask.request) goes is))
    (c.ask.ensures.run before run) at

pub returns-in-Take-clause-run : goal.returns-in-Take-clause-run
returns-in-Take-clause-run g c = let r = g.R.RegFile in let f = g.F.Files in let m = g.M.Machine in let o = g.O.Sink in
    λ before run at.
    where_weaker (f.slots c.take.new.files).capture.cursor (r.contents c.take.new.regs)
    (λ t d goes. subst (λ (x : Work). Goes m.rules (m.stands c.take.new.machine) (Comes c.take.new.capture) before (r.calls c.take.new.regs) (o.sent c.take.new.out) c.take.result run x t d)
    c.in-Take.ensures goes)
    (c.take.ensures.run before run at)
