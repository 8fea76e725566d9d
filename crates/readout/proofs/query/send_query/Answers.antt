use Rattle.std.proofs.Common.{◌≡◌, Ok, Some, ap, ◌∙◌}
use Rattle.key_mask.specs.Bytes.{and_bytes}
use Rattle.key_mask.specs.Masks.{mask_bytes_of}
use Rattle.hash_units.specs.Toeplitz.{hash_of}
use Rattle.sketch_defs.specs.Answers.{answer_of}
use Rattle.sketch_defs.specs.Tasks.{Sketch}
use Rattle.readout.specs.Answers.{answers_keys}
use Rattle.readout.proofs.AnswerLemmas.{no_counters, no_ranks}
use Rattle.readout.specs.declared.refusals.Stop.{Stop}
use Rattle.readout.specs.PlacedTasks.{task_in}
use Rattle.readout.specs.Lines.{query_line}
use Rattle.readout.proofs.PieceLemmas.{sends_at_err}
use Rattle.readout.proofs.QueryLemmas.{query_sent, query_unsent}
use Rattle.readout.proofs.query.send_query.Goals as goal

pub returns-clause-sent : goal.returns-clause-sent
returns-clause-sent g c =
    let r = g.R.RegFile in let s = g.S.Sink in let v = g.V.TaskView in
    let placed = task_in (v.seen c.args.view.now) c.args.at in
    let hashed : c.hash-h.result ≡ hash_of c.args.hash_key.now (and_bytes c.args.filter.now.value (mask_bytes_of placed.task.key)) =
    cc (c.hash-h.ensures, c.value.ensures.value, c.key.ensures.value, c.task-task.ensures) in
    let reply : answer_of placed.task.kind c.in_ok-found.found.items c.hash-h.result ≡ Some c.answer-reply.result =
    cc (c.task-task.ensures, c.answer-reply.ensures, c.kind.ensures, c.as_slice.ensures.value) in
    let put : c.put_query.new.piece.bytes ≡ query_line c.name.result.now c.answer-reply.result = rw c.new-piece.ensures at c.put_query.ensures in
    let line : c.put_query.new.piece.bytes ≡ query_line placed.task.name c.answer-reply.result = cc (put, c.name.ensures, c.task-task.ensures) in
    query_sent {E = Stop} (Ok c.in_ok-send_piece.field-0) (r.contents c.found_cells.new.regs) (s.sent c.args.sink.now) (s.sent c.send_piece.new.sink) c.args.hash_key.now c.args.filter.now placed
    c.hash-h.result c.in_ok-found.found.items c.put_query.new.piece.bytes c.answer-reply.result hashed reply line c.in_ok-found.ensures.found
    c.in_ok-send_piece.ensures.sent

pub returns-in_err-send_piece-clause-sent : goal.returns-in_err-send_piece-clause-sent
returns-in_err-send_piece-clause-sent g c =
    let r = g.R.RegFile in let s = g.S.Sink in let v = g.V.TaskView in
    let placed = task_in (v.seen c.args.view.now) c.args.at in
    let hashed : c.hash-h.result ≡ hash_of c.args.hash_key.now (and_bytes c.args.filter.now.value (mask_bytes_of placed.task.key)) =
    cc (c.hash-h.ensures, c.value.ensures.value, c.key.ensures.value, c.task-task.ensures) in
    let reply : answer_of placed.task.kind c.in_ok-found.found.items c.hash-h.result ≡ Some c.answer-reply.result =
    cc (c.task-task.ensures, c.answer-reply.ensures, c.kind.ensures, c.as_slice.ensures.value) in
    let put : c.put_query.new.piece.bytes ≡ query_line c.name.result.now c.answer-reply.result = rw c.new-piece.ensures at c.put_query.ensures in
    let line : c.put_query.new.piece.bytes ≡ query_line placed.task.name c.answer-reply.result = cc (put, c.name.ensures, c.task-task.ensures) in
    let failed = c.from_residual-in_err-send_piece in
    query_sent failed.result (r.contents c.found_cells.new.regs) (s.sent c.args.sink.now) (s.sent c.send_piece.new.sink) c.args.hash_key.now c.args.filter.now placed
    c.hash-h.result c.in_ok-found.found.items c.put_query.new.piece.bytes c.answer-reply.result hashed reply line c.in_ok-found.ensures.found
    (sends_at_err failed.result (s.sent c.args.sink.now) (s.sent c.send_piece.new.sink) c.put_query.new.piece.bytes failed.ensures.0 c.in_err-send_piece.ensures.sent)

pub returns-in_err-found-clause-sent : goal.returns-in_err-found-clause-sent
returns-in_err-found-clause-sent g c =
    let r = g.R.RegFile in let s = g.S.Sink in let v = g.V.TaskView in
    query_unsent c.from_residual.result (r.contents c.found_cells.new.regs) (s.sent c.args.sink.now) c.args.hash_key.now c.args.filter.now
    (task_in (v.seen c.args.view.now) c.args.at) c.from_residual.ensures.0

pub answer-reply-requires-clause-no_counters : goal.answer-reply-requires-clause-no_counters
answer-reply-requires-clause-no_counters g c =
    no_counters c.kind.result (ap answers_keys (c.kind.ensures ∙ ap (λ (t : Sketch). t.kind) c.task-task.ensures) ∙ c.requires.answers)

pub answer-reply-requires-clause-no_ranks : goal.answer-reply-requires-clause-no_ranks
answer-reply-requires-clause-no_ranks g c =
    no_ranks c.kind.result (ap answers_keys (c.kind.ensures ∙ ap (λ (t : Sketch). t.kind) c.task-task.ensures) ∙ c.requires.answers)
