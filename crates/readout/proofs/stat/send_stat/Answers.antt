use Rattle.std.proofs.Common.{◌≡◌, ◌++◌, ◌∙◌, ap, codes, length}
use Rattle.std.specs.Fmt.{decimal}
use Rattle.addr_translate.specs.Geometry.{Geometry, array_count}
use Rattle.readout.proofs.PieceLemmas.{came_front, front_of_more}
use Rattle.readout.proofs.ShowLemmas.{stat_head, groups_of, arrays_of, stat_sent, stat_cut}
use Rattle.readout.proofs.stat.send_stat.Goals as goal

pub returns-clause-sent : goal.returns-clause-sent
returns-clause-sent g c =
    let s = g.S.Sink in let v = g.V.TaskView in
    let view = v.seen c.args.view.now in
    let head : c.begin_stat-piece.result.bytes ≡ stat_head view = c.begin_stat-piece.ensures ∙ ap (λ (geometry : Geometry).
    codes "stat groups " ++ (decimal (length geometry.groups) ++ (codes " arrays " ++ (decimal (array_count geometry) ++ codes "\n")))) c.shape-shape.ensures in
    stat_sent c.end_block.result (s.sent c.args.sink.now) (s.sent c.gather_groups.new.sink) (s.sent c.gather_arrays.new.sink) (s.sent c.end_block.new.sink) view
    c.begin_stat-piece.result.bytes c.gather_groups.new.piece.bytes c.gather_arrays.new.piece.bytes head
    c.in_ok-gather_groups.ensures.sent c.in_ok-gather_arrays.ensures.sent c.end_block.ensures.sent

pub returns-in_err-gather_groups-clause-sent : goal.returns-in_err-gather_groups-clause-sent
returns-in_err-gather_groups-clause-sent g c =
    let s = g.S.Sink in let v = g.V.TaskView in
    let view = v.seen c.args.view.now in
    let head : c.begin_stat-piece.result.bytes ≡ stat_head view = c.begin_stat-piece.ensures ∙ ap (λ (geometry : Geometry).
    codes "stat groups " ++ (decimal (length geometry.groups) ++ (codes " arrays " ++ (decimal (array_count geometry) ++ codes "\n")))) c.shape-shape.ensures in
    stat_cut c.from_residual.result (s.sent c.args.sink.now) (s.sent c.gather_groups.new.sink) view c.begin_stat-piece.result.bytes c.from_residual.ensures.0 head
    (front_of_more (s.sent c.args.sink.now) (s.sent c.gather_groups.new.sink) c.begin_stat-piece.result.bytes (groups_of view) (arrays_of view) c.in_err-gather_groups.ensures.sent)

pub returns-in_err-gather_arrays-clause-sent : goal.returns-in_err-gather_arrays-clause-sent
returns-in_err-gather_arrays-clause-sent g c =
    let s = g.S.Sink in let v = g.V.TaskView in
    let view = v.seen c.args.view.now in
    let head : c.begin_stat-piece.result.bytes ≡ stat_head view = c.begin_stat-piece.ensures ∙ ap (λ (geometry : Geometry).
    codes "stat groups " ++ (decimal (length geometry.groups) ++ (codes " arrays " ++ (decimal (array_count geometry) ++ codes "\n")))) c.shape-shape.ensures in
    let failed = c.from_residual-in_err-gather_arrays in
    stat_cut failed.result (s.sent c.args.sink.now) (s.sent c.gather_arrays.new.sink) view c.begin_stat-piece.result.bytes failed.ensures.0 head
    (came_front (s.sent c.args.sink.now) (s.sent c.gather_groups.new.sink) (s.sent c.gather_arrays.new.sink) c.begin_stat-piece.result.bytes (groups_of view)
    c.gather_groups.new.piece.bytes (arrays_of view) c.in_ok-gather_groups.ensures.sent c.in_err-gather_arrays.ensures.sent)
