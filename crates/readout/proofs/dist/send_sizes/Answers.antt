use Rattle.std.proofs.Common.{◌≡◌, ◌++◌, codes}
use Rattle.sketch_defs.specs.Answers.{sizes_of}
use Rattle.readout.proofs.DistLemmas.{sizes_sent, sizes_unsent}
use Rattle.readout.proofs.dist.send_sizes.Goals as goal

pub returns-clause-sent : goal.returns-clause-sent
returns-clause-sent g c =
    let s = g.S.Sink in
    let head : c.put_dist.new.piece.bytes ≡ codes "dist " ++ (c.args.name.now ++ codes "\n") = rw c.new-piece.ensures at c.put_dist.ensures in
    sizes_sent c.end_block.result (s.sent c.args.sink.now) (s.sent c.gather_sizes.new.sink) (s.sent c.end_block.new.sink) c.args.name.now c.put_dist.new.piece.bytes
    c.gather_sizes.new.piece.bytes (sizes_of c.args.cells.now) head c.in_ok-gather_sizes.ensures.sent c.end_block.ensures.sent

pub returns-in_err-gather_sizes-clause-sent : goal.returns-in_err-gather_sizes-clause-sent
returns-in_err-gather_sizes-clause-sent g c =
    let s = g.S.Sink in
    let head : c.put_dist.new.piece.bytes ≡ codes "dist " ++ (c.args.name.now ++ codes "\n") = rw c.new-piece.ensures at c.put_dist.ensures in
    sizes_unsent c.from_residual.result (s.sent c.args.sink.now) (s.sent c.gather_sizes.new.sink) c.args.name.now c.put_dist.new.piece.bytes
    (sizes_of c.args.cells.now) c.from_residual.ensures.0 head c.in_err-gather_sizes.ensures.sent
