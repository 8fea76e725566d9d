use Rattle.std.proofs.Common.{Ok, IfSome, subst, codes, ◌++◌, ◌≡◌, ◌^◌, ◌∙◌, ap, length}
use Rattle.std.specs.List.{flat_map}
use Rattle.outside.specs.Sent.{CameSoFar, CameInFront}
use Rattle.readout.specs.declared.refusals.Stop.{Stop}
use Rattle.readout.specs.PlacedTasks.{task_in, place_in, block_of}
use Rattle.readout.specs.Lines.{head_line}
use Rattle.readout.proofs.PieceLemmas.{sends_at_err}
use Rattle.readout.proofs.CellLemmas.{head_of_cells, row_of_lines, rows_at, cells_sent, cells_cut}
use Rattle.readout.proofs.cells.send_cells.Goals as goal

pub returns-clause-sent : goal.returns-clause-sent
returns-clause-sent g c =
    let r = g.R.RegFile in let s = g.S.Sink in let v = g.V.TaskView in
    let placed = task_in (v.seen c.args.view.now) c.args.at in
    let head : c.begin_cells-piece.result.bytes ≡ head_of_cells c.args.side placed =
    c.begin_cells-piece.ensures
    ∙ ap (head_line c.args.side placed.task.name (length placed.places) (2 ^ (block_of c.args.side (place_in (v.seen c.args.view.now) c.args.at 0)).bits)) c.start_of.ensures in
    cells_sent {E = Stop} (r.contents c.gather_rows.new.regs) (s.sent c.args.sink.now) (s.sent c.gather_rows.new.sink) (s.sent c.end_block.new.sink) c.args.side placed
    c.begin_cells-piece.result.bytes c.gather_rows.new.piece.bytes (Ok c.in_ok-end_block.field-0) head
    (subst (λ start. IfSome (r.contents c.gather_rows.new.regs) (λ told. CameSoFar (s.sent c.args.sink.now)
    (c.begin_cells-piece.result.bytes ++ flat_map (row_of_lines start) (rows_at c.args.side placed told)) c.gather_rows.new.piece.bytes (s.sent c.gather_rows.new.sink)))
    c.start_of.ensures c.in_ok-gather_rows.ensures.sent)
    c.in_ok-end_block.ensures.sent

pub returns-in_err-gather_rows-clause-sent : goal.returns-in_err-gather_rows-clause-sent
returns-in_err-gather_rows-clause-sent g c =
    let r = g.R.RegFile in let s = g.S.Sink in let v = g.V.TaskView in
    let placed = task_in (v.seen c.args.view.now) c.args.at in
    let head : c.begin_cells-piece.result.bytes ≡ head_of_cells c.args.side placed =
    c.begin_cells-piece.ensures
    ∙ ap (head_line c.args.side placed.task.name (length placed.places) (2 ^ (block_of c.args.side (place_in (v.seen c.args.view.now) c.args.at 0)).bits)) c.start_of.ensures in
    cells_cut (r.contents c.gather_rows.new.regs) (s.sent c.args.sink.now) (s.sent c.gather_rows.new.sink) c.args.side placed c.begin_cells-piece.result.bytes
    c.from_residual.result head c.from_residual.ensures.0
    (subst (λ start. IfSome (r.contents c.gather_rows.new.regs) (λ told. CameInFront (s.sent c.args.sink.now)
    (c.begin_cells-piece.result.bytes ++ flat_map (row_of_lines start) (rows_at c.args.side placed told)) (s.sent c.gather_rows.new.sink)))
    c.start_of.ensures c.in_err-gather_rows.ensures.sent)

pub returns-in_err-end_block-clause-sent : goal.returns-in_err-end_block-clause-sent
returns-in_err-end_block-clause-sent g c =
    let r = g.R.RegFile in let s = g.S.Sink in let v = g.V.TaskView in
    let placed = task_in (v.seen c.args.view.now) c.args.at in
    let failed = c.from_residual-in_err-end_block in
    let head : c.begin_cells-piece.result.bytes ≡ head_of_cells c.args.side placed =
    c.begin_cells-piece.ensures
    ∙ ap (head_line c.args.side placed.task.name (length placed.places) (2 ^ (block_of c.args.side (place_in (v.seen c.args.view.now) c.args.at 0)).bits)) c.start_of.ensures in
    cells_sent (r.contents c.gather_rows.new.regs) (s.sent c.args.sink.now) (s.sent c.gather_rows.new.sink) (s.sent c.end_block.new.sink) c.args.side placed
    c.begin_cells-piece.result.bytes c.gather_rows.new.piece.bytes failed.result head
    (subst (λ start. IfSome (r.contents c.gather_rows.new.regs) (λ told. CameSoFar (s.sent c.args.sink.now)
    (c.begin_cells-piece.result.bytes ++ flat_map (row_of_lines start) (rows_at c.args.side placed told)) c.gather_rows.new.piece.bytes (s.sent c.gather_rows.new.sink)))
    c.start_of.ensures c.in_ok-gather_rows.ensures.sent)
    (sends_at_err failed.result (s.sent c.gather_rows.new.sink) (s.sent c.end_block.new.sink) (c.gather_rows.new.piece.bytes ++ codes "end\n") failed.ensures.0 c.in_err-end_block.ensures.sent)
