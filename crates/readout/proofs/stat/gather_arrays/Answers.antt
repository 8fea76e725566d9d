use Rattle.std.proofs.Common.{◌≡◌, ◌<◌, rules}
use Rattle.std.specs.List.{range_with_len}
use Rattle.addr_translate.specs.Geometry.{array_count}
use Rattle.readout.specs.Lines.{array_line}
use Rattle.readout.proofs.PieceLemmas.{flat_start, flat_put, flat_unput, flat_done, cause_then}
use Rattle.readout.proofs.ShowLemmas.{number_here, number_inside, numbers_end}
use Rattle.readout.proofs.stat.gather_arrays.Goals as goal

pub arrays-init : goal.arrays-init
arrays-init g c =
    let s = g.S.Sink in let v = g.V.TaskView in
    let view = v.seen c.args.view.now in
    record {
      later = search rules;
      so_far = flat_start (s.sent c.args.sink.now) c.args.piece.now.bytes (array_line view) (range_with_len 0 (array_count view.geometry));
    }

pub arrays-preserved : goal.arrays-preserved
arrays-preserved g c =
    let s = g.S.Sink in let v = g.V.TaskView in
    let view = v.seen c.args.view.now in
    let below : c.arrays.array < array_count view.geometry = search rules in
    record {
      later = search rules;
      so_far = flat_put (s.sent c.args.sink.now) (s.sent c.arrays.sink) (s.sent c.make_room.new.sink) c.args.piece.now.bytes (array_line view) (range_with_len 0 (array_count view.geometry))
          c.arrays.array 0 c.arrays.piece.bytes c.make_room.new.piece.bytes c.put_array.new.piece.bytes (array_line view c.arrays.array)
          (number_inside (array_count view.geometry) c.arrays.array below) (number_here (array_line view) (array_count view.geometry) c.arrays.array below) c.arrays.invariant.so_far c.in_ok-make_room.ensures.sent c.put_array.ensures;
    }

pub returns-in_err-make_room-clause-cause : goal.returns-in_err-make_room-clause-cause
returns-in_err-make_room-clause-cause g c =
    let s = g.S.Sink in
    cause_then c.from_residual.result c.in_err-make_room.field-0.0 (s.faults c.args.sink.now) (s.faults c.arrays.sink) (s.faults c.make_room.new.sink)
    c.arrays.invariant.later c.in_err-make_room.ensures.cause

pub returns-in_err-make_room-clause-sent : goal.returns-in_err-make_room-clause-sent
returns-in_err-make_room-clause-sent g c =
    let s = g.S.Sink in let v = g.V.TaskView in
    let view = v.seen c.args.view.now in
    let below : c.arrays.array < array_count view.geometry = search rules in
    flat_unput c.from_residual.result (s.sent c.args.sink.now) (s.sent c.arrays.sink) (s.sent c.make_room.new.sink) c.args.piece.now.bytes (array_line view) (range_with_len 0 (array_count view.geometry))
    c.arrays.array 0 c.arrays.piece.bytes c.make_room.new.piece.bytes (number_inside (array_count view.geometry) c.arrays.array below) c.from_residual.ensures.0
    c.arrays.invariant.so_far c.in_err-make_room.ensures.sent

pub returns-clause-sent : goal.returns-clause-sent
returns-clause-sent g c =
    let s = g.S.Sink in let v = g.V.TaskView in
    let view = v.seen c.args.view.now in
    let all : c.arrays.array ≡ array_count view.geometry = search rules in
    flat_done (s.sent c.args.sink.now) (s.sent c.arrays.sink) c.args.piece.now.bytes (array_line view) (range_with_len 0 (array_count view.geometry)) c.arrays.array c.arrays.piece.bytes
    (numbers_end (array_count view.geometry) c.arrays.array all) c.arrays.invariant.so_far
