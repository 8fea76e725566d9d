use Rattle.std.proofs.Common.{refl}
use Rattle.outside.proofs.ToldLemmas.{told_weaker, stays_same}
use Rattle.outside.proofs.SentLemmas.{none_in_part}
use Rattle.flymon_engine.specs.declared.work.Work.TheVariants.{Change}
use Rattle.flymon_engine.specs.Runs.{moved}
use Rattle.flymon_engine.specs.Boards.{lines_in}
use Rattle.flymon_engine.proofs.StepLemmas.{change_unmet, shows_moved, goes_by_line, refused_by_device}
use Rattle.flymon_engine.proofs.carry.change_tasks.Goals as goal

pub returns-in-Ok-clause-run : goal.returns-in-Ok-clause-run
returns-in-Ok-clause-run g c = let r = g.R.RegFile in let m = g.M.Machine in let o = g.O.Sink in
    λ before run.
    told_weaker (r.contents c.args.regs.now) (r.contents c.change.new.regs)
    (λ d e changed shows.
    let judged = changed shows.board in
    goes_by_line m.rules (m.stands c.change.new.self) before (r.calls c.change.new.regs) (o.sent c.args.out.now) (o.sent c.send.new.out)
    run (Change c.args.change.now) c.in-Ok.line.bytes c.send.result e (change_unmet run c.args.change.now) judged.judged
    c.send.ensures.sent c.send.ensures.part c.send.ensures.output
    (shows_moved (m.stands c.args.machine.now) (m.stands c.change.new.self) before (r.calls c.args.regs.now) (r.calls c.change.new.regs) (o.sent c.args.out.now) d e run
    (m.rules.change run.board c.args.change.now) judged.moves shows))
    (c.in-Ok.ensures.moves run.board)

pub returns-in-Err-clause-run : goal.returns-in-Err-clause-run
returns-in-Err-clause-run g c = let r = g.R.RegFile in let m = g.M.Machine in let o = g.O.Sink in
    λ before run.
    told_weaker (r.contents c.args.regs.now) (r.contents c.change.new.regs)
    (λ d e changed shows.
    let spoiled = changed shows.board in
    let here = moved run (m.rules.spoil run.board c.args.change.now spoiled.part) in
    refused_by_device m.rules (m.stands c.change.new.self) before (r.calls c.change.new.regs) (o.sent c.args.out.now) (o.sent c.args.out.now)
    run here (Change c.args.change.now) (lines_in (m.rules.verdict run.board c.args.change.now)) e (spoiled.filling, spoiled.accepted)
    (record { part = spoiled.part; less = spoiled.less; is = refl }) refl
    (none_in_part (o.sent c.args.out.now) (o.sent c.args.out.now) (lines_in (m.rules.verdict run.board c.args.change.now)) spoiled.said (stays_same (o.sent c.args.out.now)))
    (shows_moved (m.stands c.args.machine.now) (m.stands c.change.new.self) before (r.calls c.args.regs.now) (r.calls c.change.new.regs) (o.sent c.args.out.now) d e run
    (m.rules.spoil run.board c.args.change.now spoiled.part) spoiled.moves shows))
    (c.in-Err.ensures.moves run.board)
