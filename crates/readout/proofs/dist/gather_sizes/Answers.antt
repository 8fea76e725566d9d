use Rattle.std.proofs.Common.{slice_index, rules}
use Rattle.sketch_defs.specs.Answers.{Size}
use Rattle.readout.proofs.PieceLemmas.{gathers_at_err, cause_then}
use Rattle.readout.proofs.DistLemmas.{sizes_more, sizes_cut}
use Rattle.readout.proofs.dist.gather_sizes.Goals as goal

pub runs-preserved : goal.runs-preserved
runs-preserved g c =
    let s = g.S.Sink in
    let size : Size = record { value = slice_index c.args.cells.now c.runs.at; cells = c.run_length-count.result } in
    record {
      later = search rules;
      within = c.run_length-count.ensures.within;
      so_far = sizes_more (s.sent c.args.sink.now) (s.sent c.runs.sink) (s.sent c.make_room.new.sink) c.args.piece.now.bytes c.args.cells.now c.runs.piece.bytes
          c.make_room.new.piece.bytes c.put_size.new.piece.bytes c.runs.at c.run_length-count.result size c.run_length-count.ensures.sizes c.runs.invariant.so_far
          c.in_ok-make_room.ensures.sent c.put_size.ensures;
    }

pub returns-in_err-make_room-clause-sent : goal.returns-in_err-make_room-clause-sent
returns-in_err-make_room-clause-sent g c =
    let s = g.S.Sink in
    gathers_at_err c.from_residual.result (s.sent c.args.sink.now) (s.sent c.make_room.new.sink) c.args.piece.now.bytes _ _ c.from_residual.ensures.0
    (sizes_cut (s.sent c.args.sink.now) (s.sent c.runs.sink) (s.sent c.make_room.new.sink) c.args.piece.now.bytes c.args.cells.now c.runs.piece.bytes
    c.runs.at c.runs.invariant.so_far c.in_err-make_room.ensures.sent)

pub returns-in_err-make_room-clause-cause : goal.returns-in_err-make_room-clause-cause
returns-in_err-make_room-clause-cause g c =
    let s = g.S.Sink in
    cause_then c.from_residual.result c.in_err-make_room.field-0.0 (s.faults c.args.sink.now) (s.faults c.runs.sink) (s.faults c.make_room.new.sink)
    c.runs.invariant.later c.in_err-make_room.ensures.cause
