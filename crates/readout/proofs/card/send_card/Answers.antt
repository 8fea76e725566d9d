use Rattle.std.proofs.Common.{◌≡◌, ◌^◌, Ok, ap, ◌∙◌}
use Rattle.sketch_defs.specs.Answers.{raw_of}
use Rattle.readout.specs.declared.views.Placed.{Placed}
use Rattle.readout.specs.declared.refusals.Stop.{Stop}
use Rattle.readout.specs.PlacedTasks.{task_in, live_bits}
use Rattle.readout.specs.Lines.{card_line}
use Rattle.readout.proofs.PieceLemmas.{sends_at_err}
use Rattle.readout.proofs.CardLemmas.{card_sent, card_unsent, z_fits}
use Rattle.readout.proofs.card.send_card.Goals as goal

pub raw_estimate-raw-requires-clause-high : goal.raw_estimate-raw-requires-clause-high
raw_estimate-raw-requires-clause-high g c =
    let is : c.cell_count.result ≡ 2 ^ c.bits_of.result = cc (c.cell_count.ensures, c.bits_of.ensures.value) in
    z_fits c.in_ok-tally.tally.z c.cell_count.result c.bits_of.result is c.in_ok-tally.ensures.high

pub returns-in_err-tally-clause-sent : goal.returns-in_err-tally-clause-sent
returns-in_err-tally-clause-sent g c =
    let r = g.R.RegFile in let s = g.S.Sink in let v = g.V.TaskView in
    card_unsent c.from_residual.result (r.contents c.tally_of.new.regs) (s.sent c.args.sink.now) (task_in (v.seen c.args.view.now) c.args.at) c.from_residual.ensures.0

pub returns-clause-sent : goal.returns-clause-sent
returns-clause-sent g c =
    let r = g.R.RegFile in let s = g.S.Sink in let v = g.V.TaskView in
    let placed = task_in (v.seen c.args.view.now) c.args.at in
    let bits : c.bits_of.result ≡ live_bits placed = c.bits_of.ensures.value ∙ ap (λ (p : Placed). p.region.bits) c.first_place-part.ensures.value in
    let put : c.put_card.new.piece.bytes ≡ card_line c.name.result.now c.in_ok-tally.tally.zeros c.in_ok-tally.tally.z c.raw_estimate-raw.result =
    rw c.new-piece.ensures at c.put_card.ensures in
    let line : c.put_card.new.piece.bytes ≡ card_line placed.task.name c.in_ok-tally.tally.zeros c.in_ok-tally.tally.z (raw_of (live_bits placed) c.in_ok-tally.tally.z) =
    cc (put, c.name.ensures, c.task.ensures, c.raw_estimate-raw.ensures, bits) in
    card_sent {E = Stop} (Ok c.in_ok-send_piece.field-0) (r.contents c.tally_of.new.regs) (s.sent c.args.sink.now) (s.sent c.send_piece.new.sink) placed c.put_card.new.piece.bytes
    c.in_ok-tally.tally.zeros c.in_ok-tally.tally.z c.first_place-part.ensures.exists line c.in_ok-tally.ensures.zeros c.in_ok-tally.ensures.z c.in_ok-send_piece.ensures.sent

pub returns-in_err-send_piece-clause-sent : goal.returns-in_err-send_piece-clause-sent
returns-in_err-send_piece-clause-sent g c =
    let r = g.R.RegFile in let s = g.S.Sink in let v = g.V.TaskView in
    let placed = task_in (v.seen c.args.view.now) c.args.at in
    let bits : c.bits_of.result ≡ live_bits placed = c.bits_of.ensures.value ∙ ap (λ (p : Placed). p.region.bits) c.first_place-part.ensures.value in
    let put : c.put_card.new.piece.bytes ≡ card_line c.name.result.now c.in_ok-tally.tally.zeros c.in_ok-tally.tally.z c.raw_estimate-raw.result =
    rw c.new-piece.ensures at c.put_card.ensures in
    let line : c.put_card.new.piece.bytes ≡ card_line placed.task.name c.in_ok-tally.tally.zeros c.in_ok-tally.tally.z (raw_of (live_bits placed) c.in_ok-tally.tally.z) =
    cc (put, c.name.ensures, c.task.ensures, c.raw_estimate-raw.ensures, bits) in
    let failed = c.from_residual-in_err-send_piece in
    card_sent failed.result (r.contents c.tally_of.new.regs) (s.sent c.args.sink.now) (s.sent c.send_piece.new.sink) placed c.put_card.new.piece.bytes
    c.in_ok-tally.tally.zeros c.in_ok-tally.tally.z c.first_place-part.ensures.exists line c.in_ok-tally.ensures.zeros c.in_ok-tally.ensures.z
    (sends_at_err failed.result (s.sent c.args.sink.now) (s.sent c.send_piece.new.sink) c.put_card.new.piece.bytes failed.ensures.0 c.in_err-send_piece.ensures.sent)
