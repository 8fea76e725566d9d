use Rattle.std.proofs.Common.{◌<◌, ◌≤◌, length, rules}
use Rattle.readout.specs.PlacedTasks.{no_placed_task}
use Rattle.readout.specs.Lines.{task_lines}
use Rattle.readout.proofs.PieceLemmas.{flat_start, flat_more, flat_stop, flat_done, cause_then}
use Rattle.readout.proofs.show.gather_tasks.Goals as goal

pub tasks-init : goal.tasks-init
tasks-init g c =
    let s = g.S.Sink in let v = g.V.TaskView in
    record {
      later = search rules;
      so_far = flat_start (s.sent c.args.sink.now) c.args.piece.now.bytes (task_lines (v.seen c.args.view.now).geometry) (v.seen c.args.view.now).tasks;
    }

pub tasks-preserved : goal.tasks-preserved
tasks-preserved g c =
    let s = g.S.Sink in let v = g.V.TaskView in
    let view = v.seen c.args.view.now in
    let below : c.tasks.at < length view.tasks = search rules in
    record {
      later = search rules;
      so_far = flat_more (s.sent c.args.sink.now) (s.sent c.tasks.sink) (s.sent c.gather_task.new.sink) c.args.piece.now.bytes (task_lines view.geometry) view.tasks
          c.tasks.at no_placed_task c.tasks.piece.bytes c.gather_task.new.piece.bytes below c.tasks.invariant.so_far c.in_ok-gather_task.ensures.sent;
    }

pub returns-in_err-gather_task-clause-cause : goal.returns-in_err-gather_task-clause-cause
returns-in_err-gather_task-clause-cause g c =
    let s = g.S.Sink in
    cause_then c.from_residual.result c.in_err-gather_task.field-0.0 (s.faults c.args.sink.now) (s.faults c.tasks.sink) (s.faults c.gather_task.new.sink)
    c.tasks.invariant.later c.in_err-gather_task.ensures.cause

pub returns-in_err-gather_task-clause-sent : goal.returns-in_err-gather_task-clause-sent
returns-in_err-gather_task-clause-sent g c =
    let s = g.S.Sink in let v = g.V.TaskView in
    let view = v.seen c.args.view.now in
    let below : c.tasks.at < length view.tasks = search rules in
    flat_stop c.from_residual.result (s.sent c.args.sink.now) (s.sent c.tasks.sink) (s.sent c.gather_task.new.sink) c.args.piece.now.bytes (task_lines view.geometry) view.tasks
    c.tasks.at no_placed_task c.tasks.piece.bytes c.gather_task.new.piece.bytes below c.from_residual.ensures.0
    c.tasks.invariant.so_far c.in_err-gather_task.ensures.sent

pub returns-clause-sent : goal.returns-clause-sent
returns-clause-sent g c =
    let s = g.S.Sink in let v = g.V.TaskView in
    let view = v.seen c.args.view.now in
    let all : length view.tasks ≤ c.tasks.at = search rules in
    flat_done (s.sent c.args.sink.now) (s.sent c.tasks.sink) c.args.piece.now.bytes (task_lines view.geometry) view.tasks c.tasks.at c.tasks.piece.bytes all
    c.tasks.invariant.so_far
