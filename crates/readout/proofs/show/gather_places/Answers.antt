use Rattle.std.proofs.Common.{◌≡◌, ◌<◌, ◌≤◌, ◌++◌, ◌∙◌, ap₂, length, rules, arith}
use Rattle.addr_translate.specs.Geometry.{Geometry}
use Rattle.readout.specs.declared.views.Placed.{Placed}
use Rattle.readout.specs.PlacedTasks.{task_in, place_in, no_place}
use Rattle.readout.specs.Lines.{place_line}
use Rattle.readout.proofs.PlacedTaskLemmas.{rows_placed, array_exists}
use Rattle.readout.proofs.PieceLemmas.{flat_start, flat_put, flat_unput, flat_done, cause_then}
use Rattle.readout.proofs.ShowLemmas.{line_at, places_of, place_count, place_here}
use Rattle.readout.proofs.show.gather_places.Goals as goal

pub rows-init : goal.rows-init
rows-init g c =
    let s = g.S.Sink in let v = g.V.TaskView in
    record {
      later = search rules;
      so_far = flat_start (s.sent c.args.sink.now) c.args.piece.now.bytes (line_at (v.seen c.args.view.now).geometry) (places_of (task_in (v.seen c.args.view.now) c.args.at));
    }

pub rows-preserved : goal.rows-preserved
rows-preserved g c =
    let s = g.S.Sink in let v = g.V.TaskView in
    let view = v.seen c.args.view.now in
    let placed = task_in view c.args.at in
    let count = rows_placed view c.args.at c.requires.fit c.requires.task in
    let rows : c.rows-count.result ≡ length placed.places = cc (c.rows-count.ensures.value, c.task.ensures, count) in
    let below : c.rows.row < length placed.places = omega (arith, rows, c.rows-test.true) in
    let put : c.put_place.new.piece.bytes ≡ c.make_room.new.piece.bytes ++ place_line view.geometry c.rows.row (place_in view c.args.at c.rows.row) =
    c.put_place.ensures
    ∙ ap₂ (λ (geometry : Geometry) (place : Placed). c.make_room.new.piece.bytes ++ place_line geometry c.rows.row place) c.requires.shape c.placed.ensures in
    record {
      later = search rules;
      so_far = flat_put (s.sent c.args.sink.now) (s.sent c.rows.sink) (s.sent c.make_room.new.sink) c.args.piece.now.bytes (line_at view.geometry) (places_of placed)
          c.rows.row (0, no_place) c.rows.piece.bytes c.make_room.new.piece.bytes c.put_place.new.piece.bytes (place_line view.geometry c.rows.row (place_in view c.args.at c.rows.row))
          (omega (arith, below, place_count placed)) (place_here view.geometry placed c.rows.row below) c.rows.invariant.so_far c.in_ok-make_room.ensures.sent put;
    }

pub returns-in_err-make_room-clause-cause : goal.returns-in_err-make_room-clause-cause
returns-in_err-make_room-clause-cause g c =
    let s = g.S.Sink in
    cause_then c.from_residual.result c.in_err-make_room.field-0.0 (s.faults c.args.sink.now) (s.faults c.rows.sink) (s.faults c.make_room.new.sink)
    c.rows.invariant.later c.in_err-make_room.ensures.cause

pub returns-in_err-make_room-clause-sent : goal.returns-in_err-make_room-clause-sent
returns-in_err-make_room-clause-sent g c =
    let s = g.S.Sink in let v = g.V.TaskView in
    let view = v.seen c.args.view.now in
    let placed = task_in view c.args.at in
    let count = rows_placed view c.args.at c.requires.fit c.requires.task in
    let rows : c.rows-count.result ≡ length placed.places = cc (c.rows-count.ensures.value, c.task.ensures, count) in
    let below : c.rows.row < length placed.places = omega (arith, rows, c.rows-test.true) in
    flat_unput c.from_residual.result (s.sent c.args.sink.now) (s.sent c.rows.sink) (s.sent c.make_room.new.sink) c.args.piece.now.bytes (line_at view.geometry) (places_of placed)
    c.rows.row (0, no_place) c.rows.piece.bytes c.make_room.new.piece.bytes (omega (arith, below, place_count placed)) c.from_residual.ensures.0
    c.rows.invariant.so_far c.in_err-make_room.ensures.sent

pub returns-clause-sent : goal.returns-clause-sent
returns-clause-sent g c =
    let s = g.S.Sink in let v = g.V.TaskView in
    let view = v.seen c.args.view.now in
    let placed = task_in view c.args.at in
    let count = rows_placed view c.args.at c.requires.fit c.requires.task in
    let rows : c.rows-count.result ≡ length placed.places = cc (c.rows-count.ensures.value, c.task.ensures, count) in
    let all : length (places_of placed) ≤ c.rows.row = omega (arith, rows, c.rows-test.false, place_count placed) in
    flat_done (s.sent c.args.sink.now) (s.sent c.rows.sink) c.args.piece.now.bytes (line_at view.geometry) (places_of placed) c.rows.row c.rows.piece.bytes all
    c.rows.invariant.so_far

pub put_place-requires-clause-array : goal.put_place-requires-clause-array
put_place-requires-clause-array g c =
    let s = g.S.Sink in let v = g.V.TaskView in
    let view = v.seen c.args.view.now in
    let placed = task_in view c.args.at in
    let count = rows_placed view c.args.at c.requires.fit c.requires.task in
    let rows : c.rows-count.result ≡ length placed.places = cc (c.rows-count.ensures.value, c.task.ensures, count) in
    let below : c.rows.row < length placed.places = omega (arith, rows, c.rows-test.true) in
    rw (c.requires.shape, c.placed.ensures) (array_exists view c.args.at c.rows.row c.requires.fit c.requires.task below)
