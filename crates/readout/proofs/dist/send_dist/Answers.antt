use Rattle.std.proofs.Common.{◌≡◌, Ok, ap, ◌∙◌}
use Rattle.sketch_defs.specs.Answers.{sizes_of}
use Rattle.sketch_defs.specs.Tasks.{Sketch}
use Rattle.readout.specs.declared.refusals.Stop.{Stop}
use Rattle.readout.specs.PlacedTasks.{task_in}
use Rattle.readout.specs.Lines.{dist_lines}
use Rattle.readout.proofs.PieceLemmas.{sends_at_err}
use Rattle.readout.proofs.DistLemmas.{dist_sent, dist_unsent}
use Rattle.readout.proofs.dist.send_dist.Goals as goal

pub returns-clause-sent : goal.returns-clause-sent
returns-clause-sent g c =
    let r = g.R.RegFile in let s = g.S.Sink in let v = g.V.TaskView in
    let placed = task_in (v.seen c.args.view.now) c.args.at in
    let named : c.name.result.now ≡ placed.task.name = c.name.ensures ∙ ap (λ (t : Sketch). t.name) c.task.ensures in
    dist_sent {E = Stop} (Ok c.in_ok-send_sizes.field-0) (r.contents c.read_row.new.regs) (s.sent c.args.sink.now) (s.sent c.send_sizes.new.sink) placed c.read_row.new.cells.items c.sort_cells.new.cells.items
    c.first_place.ensures.exists c.sort_cells.ensures.sizes c.in_ok-read_row.ensures.told (rw (named, c.as_slice.ensures.value) at c.in_ok-send_sizes.ensures.sent)

pub returns-in_err-send_sizes-clause-sent : goal.returns-in_err-send_sizes-clause-sent
returns-in_err-send_sizes-clause-sent g c =
    let r = g.R.RegFile in let s = g.S.Sink in let v = g.V.TaskView in
    let placed = task_in (v.seen c.args.view.now) c.args.at in
    let named : c.name.result.now ≡ placed.task.name = c.name.ensures ∙ ap (λ (t : Sketch). t.name) c.task.ensures in
    let failed = c.from_residual-in_err-send_sizes in
    dist_sent failed.result (r.contents c.read_row.new.regs) (s.sent c.args.sink.now) (s.sent c.send_sizes.new.sink) placed c.read_row.new.cells.items c.sort_cells.new.cells.items
    c.first_place.ensures.exists c.sort_cells.ensures.sizes c.in_ok-read_row.ensures.told
    (sends_at_err failed.result (s.sent c.args.sink.now) (s.sent c.send_sizes.new.sink) (dist_lines placed.task.name (sizes_of c.sort_cells.new.cells.items)) failed.ensures.0
    (rw (named, c.as_slice.ensures.value) at c.in_err-send_sizes.ensures.sent))

pub returns-in_err-read_row-clause-sent : goal.returns-in_err-read_row-clause-sent
returns-in_err-read_row-clause-sent g c =
    let r = g.R.RegFile in let s = g.S.Sink in let v = g.V.TaskView in
    dist_unsent c.from_residual.result (r.contents c.read_row.new.regs) (s.sent c.args.sink.now) (task_in (v.seen c.args.view.now) c.args.at) c.from_residual.ensures.0
