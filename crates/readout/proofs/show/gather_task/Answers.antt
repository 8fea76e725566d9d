use Rattle.std.proofs.Common.{[]}
use Rattle.readout.specs.Lines.{task_lines}
use Rattle.readout.specs.PlacedTasks.{task_in}
use Rattle.readout.proofs.PieceLemmas.{gathers_at_err, front_of_more}
use Rattle.readout.proofs.ShowLemmas.{task_gathered}
use Rattle.readout.proofs.show.gather_task.Goals as goal

pub returns-clause-sent : goal.returns-clause-sent
returns-clause-sent g c =
    let s = g.S.Sink in let v = g.V.TaskView in
    let view = v.seen c.args.view.now in
    task_gathered c.gather_places.result (s.sent c.args.sink.now) (s.sent c.make_room.new.sink) (s.sent c.gather_places.new.sink) view.geometry (task_in view c.args.at)
    c.args.piece.now.bytes c.make_room.new.piece.bytes c.put_task_line.new.piece.bytes c.gather_places.new.piece.bytes c.in_ok-make_room.ensures.sent
    (rw c.task.ensures at c.put_task_line.ensures) c.gather_places.ensures.sent

pub returns-in_err-make_room-clause-sent : goal.returns-in_err-make_room-clause-sent
returns-in_err-make_room-clause-sent g c =
    let s = g.S.Sink in let v = g.V.TaskView in
    let view = v.seen c.args.view.now in
    gathers_at_err c.from_residual.result (s.sent c.args.sink.now) (s.sent c.make_room.new.sink) c.args.piece.now.bytes (task_lines view.geometry (task_in view c.args.at))
    c.make_room.new.piece.bytes c.from_residual.ensures.0
    (front_of_more (s.sent c.args.sink.now) (s.sent c.make_room.new.sink) c.args.piece.now.bytes [] (task_lines view.geometry (task_in view c.args.at)) c.in_err-make_room.ensures.sent)
