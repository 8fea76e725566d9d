use Rattle.std.proofs.Common.{Ok, sym, ap, ◌∙◌}
use Rattle.capture_read.specs.Records.{record_view}
use Rattle.flymon_engine.proofs.ArrivalLemmas.{told_some, told_none, told_fault}
use Rattle.flymon_engine.proofs.captures.next_packet.Goals as goal

pub returns-in-Ok-Some-clause-next : goal.returns-in-Ok-Some-clause-next
returns-in-Ok-Some-clause-next g c =
    let here = c.args.capture.now in let f = g.F.Files in
    told_some here c.next.follows.lender-at-none c.in-Ok-Some.frame c.packet_of.result (record_view here.at c.next.result)
    (f.slots c.args.files.now).capture (f.slots c.next.new.files).capture
    (sym (ap (λ found. record_view here.at (Ok found)) c.in-Ok-Some.field-0-is) ∙ ap (record_view here.at) (sym c.in-Ok-Some.is))
    c.packet_of.ensures c.next.follows.holds-at-none c.next.ensures.slot

pub returns-in-Ok-None-clause-next : goal.returns-in-Ok-None-clause-next
returns-in-Ok-None-clause-next g c =
    let here = c.args.capture.now in let f = g.F.Files in
    told_none here c.next.follows.lender-at-none (record_view here.at c.next.result)
    (f.slots c.args.files.now).capture (f.slots c.next.new.files).capture
    (sym (ap (λ found. record_view here.at (Ok found)) c.in-Ok-None.field-0-is) ∙ ap (record_view here.at) (sym c.in-Ok-None.is))
    c.next.follows.holds-at-none c.next.ensures.slot

pub returns-in-Err-clause-next : goal.returns-in-Err-clause-next
returns-in-Err-clause-next g c =
    let f = g.F.Files in
    told_fault c.args.capture.now c.next.follows.lender-at-none c.in-Err.fault (f.slots c.args.files.now).capture (f.slots c.next.new.files).capture c.in-Err.ensures.slot
