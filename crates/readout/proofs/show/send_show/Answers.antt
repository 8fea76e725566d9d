use Rattle.std.proofs.Common.{◌≡◌, ◌++◌, ◌∙◌, ap, codes, length}
use Rattle.std.specs.Fmt.{decimal}
use Rattle.readout.proofs.ShowLemmas.{show_sent, show_cut}
use Rattle.readout.proofs.show.send_show.Goals as goal

pub returns-clause-sent : goal.returns-clause-sent
returns-clause-sent g c =
    let s = g.S.Sink in let v = g.V.TaskView in
    let view = v.seen c.args.view.now in
    let head : c.begin_show-piece.result.bytes ≡ codes "tasks " ++ (decimal (length view.tasks) ++ codes "\n") =
    c.begin_show-piece.ensures ∙ ap (λ n. codes "tasks " ++ (decimal n ++ codes "\n")) c.count.ensures in
    show_sent c.end_block.result (s.sent c.args.sink.now) (s.sent c.gather_tasks.new.sink) (s.sent c.end_block.new.sink) view c.begin_show-piece.result.bytes
    c.gather_tasks.new.piece.bytes head c.in_ok-gather_tasks.ensures.sent c.end_block.ensures.sent

pub returns-in_err-gather_tasks-clause-sent : goal.returns-in_err-gather_tasks-clause-sent
returns-in_err-gather_tasks-clause-sent g c =
    let s = g.S.Sink in let v = g.V.TaskView in
    let view = v.seen c.args.view.now in
    let head : c.begin_show-piece.result.bytes ≡ codes "tasks " ++ (decimal (length view.tasks) ++ codes "\n") =
    c.begin_show-piece.ensures ∙ ap (λ n. codes "tasks " ++ (decimal n ++ codes "\n")) c.count.ensures in
    show_cut c.from_residual.result (s.sent c.args.sink.now) (s.sent c.gather_tasks.new.sink) view c.begin_show-piece.result.bytes c.from_residual.ensures.0 head
    c.in_err-gather_tasks.ensures.sent
