use Rattle.std.proofs.Common.{[]}
use Rattle.readout.specs.declared.requests.Ask.TheVariants.{Dist}
use Rattle.readout.specs.Outcomes.{IsStopOf}
use Rattle.readout.specs.Answers.{answer_by, lines_of_dist}
use Rattle.readout.specs.PlacedTasks.{parts_in}
use Rattle.readout.proofs.AnswerLemmas.{refused_so, served_so, stop_so}
use Rattle.readout.proofs.dist.tell_dist.Goals as goal

pub returns-in-Err-clause-replies : goal.returns-in-Err-clause-replies
returns-in-Err-clause-replies g c =
    let r = g.R.RegFile in let s = g.S.Sink in let v = g.V.TaskView in
    refused_so (λ told. answer_by c.args.name.now lines_of_dist (parts_in told (v.seen c.args.view.now))) (r.contents c.args.regs.now) (s.sent c.args.sink.now)
    c.in-Err.refusal (c.in-Err.ensures.refused [])

pub returns-in-Ok-clause-replies : goal.returns-in-Ok-clause-replies
returns-in-Ok-clause-replies g c =
    let r = g.R.RegFile in let s = g.S.Sink in let v = g.V.TaskView in
    served_so [] c.args.name.now Dist (v.seen c.args.view.now) c.in-Ok.at (r.contents c.send_dist.new.regs) (s.sent c.args.sink.now) (s.sent c.send_dist.new.sink)
    c.send_dist.result c.outcome_of_sent.result c.in-Ok.ensures.serves c.outcome_of_sent.ensures c.send_dist.ensures.sent

pub returns-in-Ok-clause-cause : goal.returns-in-Ok-clause-cause
returns-in-Ok-clause-cause g c =
    stop_so c.send_dist.result c.outcome_of_sent.result (IsStopOf g.R.RegFile g.S.Sink c.args.regs.now c.send_dist.new.regs c.args.sink.now c.send_dist.new.sink)
    c.outcome_of_sent.ensures c.send_dist.ensures.cause
