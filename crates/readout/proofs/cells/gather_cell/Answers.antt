use Rattle.std.proofs.Common.{ℕ, List, []}
use Rattle.reg_file.specs.Registers.{Contents}
use Rattle.readout.specs.PlacedTasks.{place_in, register_at}
use Rattle.readout.specs.Lines.{cell_line}
use Rattle.readout.specs.Outcomes.{Gathers}
use Rattle.readout.proofs.PieceLemmas.{front_of_more, gathers_at_err}
use Rattle.readout.proofs.ToldLemmas.{told_all}
use Rattle.readout.proofs.CellLemmas.{cell_unsent, cell_as_started}
use Rattle.readout.proofs.cells.gather_cell.Goals as goal

pub returns-in_err-value-clause-sent : goal.returns-in_err-value-clause-sent
returns-in_err-value-clause-sent g c =
    let r = g.R.RegFile in let s = g.S.Sink in let v = g.V.TaskView in
    cell_unsent (r.contents c.cell.new.regs) (s.sent c.args.sink.now) c.args.piece.now.bytes c.args.piece.now.bytes _ _ c.from_residual.result
    (λ told. cell_line c.args.source.start c.args.row c.args.index (register_at told c.args.source.side (place_in (v.seen c.args.view.now) c.args.source.task c.args.row) c.args.index))
    c.from_residual.ensures.0

pub returns-then-value-source-clause-sent : goal.returns-then-value-source-clause-sent
returns-then-value-source-clause-sent g c =
    let r = g.R.RegFile in let s = g.S.Sink in let v = g.V.TaskView in
    cell_as_started (r.contents c.cell.new.regs) (s.sent c.args.sink.now) c.args.piece.now.bytes c.args.source.start c.args.row c.args.source.side
    (place_in (v.seen c.args.view.now) c.args.source.task c.args.row) c.args.index c.in_ok-value.value c.if-value-source.true c.in_ok-value.ensures.value

pub returns-in_err-make_room-clause-sent : goal.returns-in_err-make_room-clause-sent
returns-in_err-make_room-clause-sent g c =
    let r = g.R.RegFile in let s = g.S.Sink in let v = g.V.TaskView in
    let line : Contents → List ℕ = λ told. cell_line c.args.source.start c.args.row c.args.index
    (register_at told c.args.source.side (place_in (v.seen c.args.view.now) c.args.source.task c.args.row) c.args.index) in
    told_all (r.contents c.cell.new.regs)
    (λ told. Gathers (s.sent c.args.sink.now) c.args.piece.now.bytes (line told) c.from_residual-in_err-make_room.result c.make_room.new.piece.bytes (s.sent c.make_room.new.sink))
    (λ told. gathers_at_err c.from_residual-in_err-make_room.result (s.sent c.args.sink.now) (s.sent c.make_room.new.sink) c.args.piece.now.bytes (line told) c.make_room.new.piece.bytes
    c.from_residual-in_err-make_room.ensures.0
    (front_of_more (s.sent c.args.sink.now) (s.sent c.make_room.new.sink) c.args.piece.now.bytes [] (line told) c.in_err-make_room.ensures.sent))
