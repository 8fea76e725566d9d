use Rattle.std.proofs.Common.{[], codes, arith}
use Rattle.readout.proofs.PieceLemmas.{room_put, sent_rest, block_cut, sends_at_err}
use Rattle.readout.proofs.pieces.end_block.Goals as goal

pub returns-clause-sent : goal.returns-clause-sent
returns-clause-sent g c =
    let s = g.S.Sink in
    let put = room_put (s.sent c.args.sink.now) (s.sent c.make_room.new.sink) c.args.piece.now.bytes (codes "end\n") c.make_room.new.piece.bytes c.in_ok-make_room.ensures.sent in
    sent_rest c.send_piece.result (s.sent c.args.sink.now) (s.sent c.make_room.new.sink) (s.sent c.send_piece.new.sink) _ _ put
    (rw c.push_str.ensures.bytes at c.send_piece.ensures.sent)

pub returns-in_err-make_room-clause-sent : goal.returns-in_err-make_room-clause-sent
returns-in_err-make_room-clause-sent g c =
    let s = g.S.Sink in
    sends_at_err c.from_residual.result (s.sent c.args.sink.now) (s.sent c.make_room.new.sink) _ c.from_residual.ensures.0
    (block_cut (s.sent c.args.sink.now) (s.sent c.make_room.new.sink) c.args.piece.now.bytes [] (codes "end\n") (omega arith) c.in_err-make_room.ensures.sent)
