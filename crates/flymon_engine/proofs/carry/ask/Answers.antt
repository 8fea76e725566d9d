use Rattle.std.proofs.Common.{◌≡◌, Option, Some, None, Result, Ok, Err, refl, sym, ap, ◌∙◌, subst}
use Rattle.outside.proofs.ToldLemmas.{told_weaker}
use Rattle.flymon_engine.specs.declared.work.Work.TheVariants.{Ask}
use Rattle.flymon_engine.specs.declared.machine.AskFault.{AskFault}
use Rattle.flymon_engine.specs.declared.machine.AskFault.TheVariants.{Device, Write}
use Rattle.flymon_engine.specs.declared.stop.Halt.{Halt}
use Rattle.flymon_engine.specs.declared.stop.Halt.TheVariants as halts
use Rattle.flymon_engine.specs.Moves.{Answers}
use Rattle.flymon_engine.specs.Runs.{moved}
use Rattle.flymon_engine.specs.Boards.{lines_in, IsAccepted}
use Rattle.arrayvec.specs.ArrayString.{ArrayString}
use Rattle.flymon_engine.proofs.WorldLemmas.{told_both}
use Rattle.flymon_engine.proofs.StepLemmas.{ask_unmet, shows_moved, shows_same, goes_by_line, refused_by_device}
use Rattle.flymon_engine.proofs.carry.ask.Goals as goal

pub returns-in-Ok-None-clause-run : goal.returns-in-Ok-None-clause-run
returns-in-Ok-None-clause-run g c = let r = g.R.RegFile in let m = g.M.Machine in let o = g.O.Sink in
    let found : c.ask.result ≡ Ok None = c.in-Ok-None.is ∙ ap Ok c.in-Ok-None.field-0-is in
    λ before run.
    told_weaker (r.contents c.args.regs.now) (r.contents c.ask.new.regs)
    (λ d e both shows.
    let sent = subst (λ (x : Result (Option ArrayString) AskFault). Answers c.args.request.now (m.rules.answer run.board c.args.request.now) x (o.sent c.args.out.now) (o.sent c.ask.new.out)) found (both.1 shows.board) in
    let done : Result (Unit {0}) Halt = Ok tt in
    goes_by_line m.rules (m.stands c.ask.new.self) before (r.calls c.ask.new.regs) (o.sent c.args.out.now) (o.sent c.ask.new.out)
    run (Ask c.args.request.now) sent.lines done e (ask_unmet run c.args.request.now) (ap lines_in sent.is)
    sent.grows tt tt
    (shows_moved (m.stands c.args.machine.now) (m.stands c.ask.new.self) before (r.calls c.args.regs.now) (r.calls c.ask.new.regs) (o.sent c.args.out.now) d e run
    (m.rules.ask run.board c.args.request.now) (both.0 shows.board) shows))
    (told_both _ _ (r.contents c.args.regs.now) (r.contents c.ask.new.regs) (c.ask.ensures.moves run.board) (c.ask.ensures.sent run.board))

pub returns-in-Ok-Some-clause-run : goal.returns-in-Ok-Some-clause-run
returns-in-Ok-Some-clause-run g c = let r = g.R.RegFile in let m = g.M.Machine in let o = g.O.Sink in
    let found : c.ask.result ≡ Ok (Some c.in-Ok-Some.line) = c.in-Ok-Some.is ∙ ap Ok c.in-Ok-Some.field-0-is in
    λ before run.
    told_weaker (r.contents c.args.regs.now) (r.contents c.ask.new.regs)
    (λ d e both shows.
    let sent = subst (λ (x : Result (Option ArrayString) AskFault). Answers c.args.request.now (m.rules.answer run.board c.args.request.now) x (o.sent c.args.out.now) (o.sent c.ask.new.out)) found (both.1 shows.board) in
    let here = moved run (m.rules.ask run.board c.args.request.now) in
    goes_by_line m.rules (m.stands c.ask.new.self) before (r.calls c.ask.new.regs) (o.sent c.ask.new.out) (o.sent c.send.new.out)
    run (Ask c.args.request.now) c.in-Ok-Some.line.bytes c.send.result e (ask_unmet run c.args.request.now) (ap lines_in sent.is)
    c.send.ensures.sent c.send.ensures.part c.send.ensures.output
    (shows_same (m.stands c.ask.new.self) before (r.calls c.ask.new.regs) (o.sent c.args.out.now) (o.sent c.ask.new.out) e here sent.stays
    (shows_moved (m.stands c.args.machine.now) (m.stands c.ask.new.self) before (r.calls c.args.regs.now) (r.calls c.ask.new.regs) (o.sent c.args.out.now) d e run
    (m.rules.ask run.board c.args.request.now) (both.0 shows.board) shows)))
    (told_both _ _ (r.contents c.args.regs.now) (r.contents c.ask.new.regs) (c.ask.ensures.moves run.board) (c.ask.ensures.sent run.board))

pub returns-in-Err-Device-clause-run : goal.returns-in-Err-Device-clause-run
returns-in-Err-Device-clause-run g c = let r = g.R.RegFile in let m = g.M.Machine in let o = g.O.Sink in
    let found : c.ask.result ≡ Err Device = c.in-Err-Device.is ∙ ap Err c.in-Err-Device.field-0-is in
    λ before run.
    told_weaker (r.contents c.args.regs.now) (r.contents c.ask.new.regs)
    (λ d e both shows.
    let cut = subst (λ (x : Result (Option ArrayString) AskFault). Answers c.args.request.now (m.rules.answer run.board c.args.request.now) x (o.sent c.args.out.now) (o.sent c.ask.new.out)) found (both.1 shows.board) in
    refused_by_device m.rules (m.stands c.ask.new.self) before (r.calls c.ask.new.regs) (o.sent c.args.out.now) (o.sent c.ask.new.out)
    run (moved run (m.rules.ask run.board c.args.request.now)) (Ask c.args.request.now) cut.1.lines e (cut.0, subst IsAccepted (sym cut.1.is) tt) refl (ap lines_in cut.1.is) cut.1.part
    (shows_moved (m.stands c.args.machine.now) (m.stands c.ask.new.self) before (r.calls c.args.regs.now) (r.calls c.ask.new.regs) (o.sent c.args.out.now) d e run
    (m.rules.ask run.board c.args.request.now) (both.0 shows.board) shows))
    (told_both _ _ (r.contents c.args.regs.now) (r.contents c.ask.new.regs) (c.ask.ensures.moves run.board) (c.ask.ensures.sent run.board))

pub returns-in-Err-Write-clause-run : goal.returns-in-Err-Write-clause-run
returns-in-Err-Write-clause-run g c = let r = g.R.RegFile in let m = g.M.Machine in let o = g.O.Sink in
    let found : c.ask.result ≡ Err Write = c.in-Err-Write.is ∙ ap Err c.in-Err-Write.field-0-is in
    λ before run.
    told_weaker (r.contents c.args.regs.now) (r.contents c.ask.new.regs)
    (λ d e both shows.
    let cut = subst (λ (x : Result (Option ArrayString) AskFault). Answers c.args.request.now (m.rules.answer run.board c.args.request.now) x (o.sent c.args.out.now) (o.sent c.ask.new.out)) found (both.1 shows.board) in
    let failed : Result (Unit {0}) Halt = Err halts.Output in
    goes_by_line m.rules (m.stands c.ask.new.self) before (r.calls c.ask.new.regs) (o.sent c.args.out.now) (o.sent c.ask.new.out)
    run (Ask c.args.request.now) cut.lines failed e (ask_unmet run c.args.request.now) (ap lines_in cut.is)
    tt cut.part refl
    (shows_moved (m.stands c.args.machine.now) (m.stands c.ask.new.self) before (r.calls c.args.regs.now) (r.calls c.ask.new.regs) (o.sent c.args.out.now) d e run
    (m.rules.ask run.board c.args.request.now) (both.0 shows.board) shows))
    (told_both _ _ (r.contents c.args.regs.now) (r.contents c.ask.new.regs) (c.ask.ensures.moves run.board) (c.ask.ensures.sent run.board))
