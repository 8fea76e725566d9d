use Rattle.std.proofs.Common.{◌≡◌, ◌<◌, length, rules}
use Rattle.std.specs.List.{range_with_len}
use Rattle.readout.specs.Lines.{group_line}
use Rattle.readout.proofs.PieceLemmas.{flat_start, flat_put, flat_unput, flat_done, cause_then}
use Rattle.readout.proofs.ShowLemmas.{number_here, number_inside, numbers_end}
use Rattle.readout.proofs.stat.gather_groups.Goals as goal

pub groups-init : goal.groups-init
groups-init g c =
    let s = g.S.Sink in let v = g.V.TaskView in
    let view = v.seen c.args.view.now in
    record {
      later = search rules;
      so_far = flat_start (s.sent c.args.sink.now) c.args.piece.now.bytes (group_line view) (range_with_len 0 (length view.geometry.groups));
    }

pub groups-preserved : goal.groups-preserved
groups-preserved g c =
    let s = g.S.Sink in let v = g.V.TaskView in
    let view = v.seen c.args.view.now in
    let below : c.groups.group < length view.geometry.groups = search rules in
    record {
      later = search rules;
      so_far = flat_put (s.sent c.args.sink.now) (s.sent c.groups.sink) (s.sent c.make_room.new.sink) c.args.piece.now.bytes (group_line view) (range_with_len 0 (length view.geometry.groups))
          c.groups.group 0 c.groups.piece.bytes c.make_room.new.piece.bytes c.put_group.new.piece.bytes (group_line view c.groups.group)
          (number_inside (length view.geometry.groups) c.groups.group below) (number_here (group_line view) (length view.geometry.groups) c.groups.group below) c.groups.invariant.so_far c.in_ok-make_room.ensures.sent c.put_group.ensures;
    }

pub returns-in_err-make_room-clause-cause : goal.returns-in_err-make_room-clause-cause
returns-in_err-make_room-clause-cause g c =
    let s = g.S.Sink in
    cause_then c.from_residual.result c.in_err-make_room.field-0.0 (s.faults c.args.sink.now) (s.faults c.groups.sink) (s.faults c.make_room.new.sink)
    c.groups.invariant.later c.in_err-make_room.ensures.cause

pub returns-in_err-make_room-clause-sent : goal.returns-in_err-make_room-clause-sent
returns-in_err-make_room-clause-sent g c =
    let s = g.S.Sink in let v = g.V.TaskView in
    let view = v.seen c.args.view.now in
    let below : c.groups.group < length view.geometry.groups = search rules in
    flat_unput c.from_residual.result (s.sent c.args.sink.now) (s.sent c.groups.sink) (s.sent c.make_room.new.sink) c.args.piece.now.bytes (group_line view) (range_with_len 0 (length view.geometry.groups))
    c.groups.group 0 c.groups.piece.bytes c.make_room.new.piece.bytes (number_inside (length view.geometry.groups) c.groups.group below) c.from_residual.ensures.0
    c.groups.invariant.so_far c.in_err-make_room.ensures.sent

pub returns-clause-sent : goal.returns-clause-sent
returns-clause-sent g c =
    let s = g.S.Sink in let v = g.V.TaskView in
    let view = v.seen c.args.view.now in
    let all : c.groups.group ≡ length view.geometry.groups = search rules in
    flat_done (s.sent c.args.sink.now) (s.sent c.groups.sink) c.args.piece.now.bytes (group_line view) (range_with_len 0 (length view.geometry.groups)) c.groups.group c.groups.piece.bytes
    (numbers_end (length view.geometry.groups) c.groups.group all) c.groups.invariant.so_far
