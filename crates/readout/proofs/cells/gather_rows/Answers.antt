use Rattle.std.proofs.Common.{◌≡◌, ◌<◌, length, rules, arith}
use Rattle.reg_file.proofs.ReadLemmas.{reads_none, reads_then}
use Rattle.readout.specs.PlacedTasks.{task_in}
use Rattle.readout.proofs.CellLemmas.{reads_on, rows_start, rows_more, rows_cut, rows_done}
use Rattle.readout.proofs.cells.gather_rows.Goals as goal

pub rows-init : goal.rows-init
rows-init g c =
    let r = g.R.RegFile in let s = g.S.Sink in let v = g.V.TaskView in
    record {
      reads = reads_none r c.args.regs.now;
      later = search rules;
      so_far = rows_start (r.contents c.args.regs.now) (s.sent c.args.sink.now) c.args.piece.now.bytes c.args.source.start c.args.source.side
          (task_in (v.seen c.args.view.now) c.args.source.task);
    }

pub gather_row-requires-clause-readable : goal.gather_row-requires-clause-readable
gather_row-requires-clause-readable g c =
    let r = g.R.RegFile in let v = g.V.TaskView in
    reads_on (v.seen c.args.view.now) (r.dims c.args.regs.now) (r.dims c.rows.regs) c.args.source.task c.args.source.side c.rows.invariant.reads.dims c.requires.readable

pub returns-in_err-gather_row-clause-sent : goal.returns-in_err-gather_row-clause-sent
returns-in_err-gather_row-clause-sent g c =
    let r = g.R.RegFile in let s = g.S.Sink in let v = g.V.TaskView in
    let placed = task_in (v.seen c.args.view.now) c.args.source.task in
    let inside : c.rows.row < length placed.places = omega arith in
    rows_cut (r.contents c.rows.regs) (r.contents c.gather_row.new.regs) (s.sent c.args.sink.now) (s.sent c.rows.sink) (s.sent c.gather_row.new.sink)
    c.args.piece.now.bytes c.rows.piece.bytes c.gather_row.new.piece.bytes c.args.source.start c.args.source.side placed c.rows.row
    c.from_residual.result c.from_residual.ensures.0 inside
    c.gather_row.ensures.reads.contents c.rows.invariant.so_far c.in_err-gather_row.ensures.sent

pub returns-in_err-gather_row-clause-reads : goal.returns-in_err-gather_row-clause-reads
returns-in_err-gather_row-clause-reads g c =
    reads_then g.R.RegFile c.args.regs.now c.rows.regs c.gather_row.new.regs c.rows.invariant.reads c.gather_row.ensures.reads

pub rows-preserved : goal.rows-preserved
rows-preserved g c =
    let r = g.R.RegFile in let s = g.S.Sink in let v = g.V.TaskView in
    let placed = task_in (v.seen c.args.view.now) c.args.source.task in
    let inside : c.rows.row < length placed.places = omega arith in
    record {
      reads = reads_then g.R.RegFile c.args.regs.now c.rows.regs c.gather_row.new.regs c.rows.invariant.reads c.gather_row.ensures.reads;
      later = search rules;
      so_far = rows_more (r.contents c.rows.regs) (r.contents c.gather_row.new.regs) (s.sent c.args.sink.now) (s.sent c.rows.sink) (s.sent c.gather_row.new.sink)
          c.args.piece.now.bytes c.rows.piece.bytes c.gather_row.new.piece.bytes c.args.source.start c.args.source.side placed c.rows.row inside
          c.gather_row.ensures.reads.contents c.rows.invariant.so_far c.in_ok-gather_row.ensures.sent;
    }

pub returns-clause-sent : goal.returns-clause-sent
returns-clause-sent g c =
    let r = g.R.RegFile in let s = g.S.Sink in let v = g.V.TaskView in
    let placed = task_in (v.seen c.args.view.now) c.args.source.task in
    let all : c.rows.row ≡ length placed.places = omega arith in
    rows_done (r.contents c.rows.regs) (s.sent c.args.sink.now) (s.sent c.rows.sink) c.args.piece.now.bytes c.rows.piece.bytes c.args.source.start c.args.source.side
    placed c.rows.row all c.rows.invariant.so_far
