use Rattle.std.proofs.Common.{◌≡◌, ◌<◌, ◌^◌, rules}
use Rattle.reg_file.proofs.ReadLemmas.{reads_none, reads_then}
use Rattle.readout.specs.PlacedTasks.{place_in, block_of}
use Rattle.readout.proofs.CellLemmas.{reads_on, row_start, row_more, row_cut, row_done}
use Rattle.readout.proofs.cells.gather_row.Goals as goal

pub cells-init : goal.cells-init
cells-init g c =
    let r = g.R.RegFile in let s = g.S.Sink in let v = g.V.TaskView in
    record {
      reads = reads_none r c.args.regs.now;
      later = search rules;
      so_far = row_start (r.contents c.args.regs.now) (s.sent c.args.sink.now) c.args.piece.now.bytes c.args.source.start c.args.row
          c.args.source.side (place_in (v.seen c.args.view.now) c.args.source.task c.args.row);
    }

pub gather_cell-requires-clause-readable : goal.gather_cell-requires-clause-readable
gather_cell-requires-clause-readable g c =
    let r = g.R.RegFile in let v = g.V.TaskView in
    reads_on (v.seen c.args.view.now) (r.dims c.args.regs.now) (r.dims c.cells.regs) c.args.source.task c.args.source.side c.cells.invariant.reads.dims c.requires.readable

pub returns-in_err-gather_cell-clause-sent : goal.returns-in_err-gather_cell-clause-sent
returns-in_err-gather_cell-clause-sent g c =
    let r = g.R.RegFile in let s = g.S.Sink in let v = g.V.TaskView in
    let place = place_in (v.seen c.args.view.now) c.args.source.task c.args.row in
    let inside : c.cells.index < 2 ^ (block_of c.args.source.side place).bits = search rules in
    row_cut (r.contents c.cells.regs) (r.contents c.gather_cell.new.regs) (s.sent c.args.sink.now) (s.sent c.cells.sink) (s.sent c.gather_cell.new.sink)
    c.args.piece.now.bytes c.cells.piece.bytes c.gather_cell.new.piece.bytes c.args.source.start c.args.row c.cells.index c.args.source.side place
    c.from_residual.result c.from_residual.ensures.0 inside
    c.gather_cell.ensures.reads.contents c.cells.invariant.so_far c.in_err-gather_cell.ensures.sent

pub returns-in_err-gather_cell-clause-reads : goal.returns-in_err-gather_cell-clause-reads
returns-in_err-gather_cell-clause-reads g c =
    reads_then g.R.RegFile c.args.regs.now c.cells.regs c.gather_cell.new.regs c.cells.invariant.reads c.gather_cell.ensures.reads

pub cells-preserved : goal.cells-preserved
cells-preserved g c =
    let r = g.R.RegFile in let s = g.S.Sink in let v = g.V.TaskView in
    let place = place_in (v.seen c.args.view.now) c.args.source.task c.args.row in
    let inside : c.cells.index < 2 ^ (block_of c.args.source.side place).bits = search rules in
    record {
      reads = reads_then g.R.RegFile c.args.regs.now c.cells.regs c.gather_cell.new.regs c.cells.invariant.reads c.gather_cell.ensures.reads;
      later = search rules;
      so_far = row_more (r.contents c.cells.regs) (r.contents c.gather_cell.new.regs) (s.sent c.args.sink.now) (s.sent c.cells.sink) (s.sent c.gather_cell.new.sink)
          c.args.piece.now.bytes c.cells.piece.bytes c.gather_cell.new.piece.bytes c.args.source.start c.args.row c.cells.index c.args.source.side place inside
          c.gather_cell.ensures.reads.contents c.cells.invariant.so_far c.in_ok-gather_cell.ensures.sent;
    }

pub returns-clause-sent : goal.returns-clause-sent
returns-clause-sent g c =
    let r = g.R.RegFile in let s = g.S.Sink in let v = g.V.TaskView in
    let place = place_in (v.seen c.args.view.now) c.args.source.task c.args.row in
    let all : c.cells.index ≡ 2 ^ (block_of c.args.source.side place).bits = search rules in
    row_done (r.contents c.cells.regs) (s.sent c.args.sink.now) (s.sent c.cells.sink) c.args.piece.now.bytes c.cells.piece.bytes c.args.source.start c.args.row
    c.cells.index c.args.source.side place all c.cells.invariant.so_far
