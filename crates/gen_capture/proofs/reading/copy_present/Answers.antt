use Rattle.std.proofs.Common.{ap, ◌∙◌, arith}
use Rattle.gen_capture.specs.Captures.{header_bytes, record_bytes}
use Rattle.gen_capture.proofs.RestLemmas.{header_present, record_present, rest_front}
use Rattle.gen_capture.proofs.reading.copy_present.Goals as goal

pub returns-then-place-eq0-clause-next : goal.returns-then-place-eq0-clause-next
unfolding header_bytes
returns-then-place-eq0-clause-next c = λ count.
    let place = c.args.place in
    c.copy_last.ensures.next
    ∙ rest_front count c.copy_last.result place header_bytes (header_present place c.if-place-eq0.true) (omega arith)

pub returns-else-place-eq0-clause-next : goal.returns-else-place-eq0-clause-next
returns-else-place-eq0-clause-next c = λ count.
    let place = c.args.place in
    let piece = c.record_of.ensures ∙ (ap record_bytes c.packet_of.ensures ∙ record_present place c.if-place-eq0.false) in
    c.copy_last-else-place-eq0.ensures.next
    ∙ rest_front count c.copy_last-else-place-eq0.result place c.record_of.result piece (omega arith)
