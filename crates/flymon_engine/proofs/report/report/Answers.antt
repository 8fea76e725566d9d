use Rattle.flymon_engine.proofs.EndLemmas.{message_sent}
use Rattle.flymon_engine.proofs.report.report.Goals as goal

pub returns : goal.returns
returns g c =
    let e = g.E.Sink in
    rw (← c.message.ensures, ← c.as_str.ensures.value, ← c.as_bytes.ensures.value)
    (message_sent c.write_whole.result c.as_bytes.result.now (e.faults c.args.err.now) (e.faults c.write_whole.new.sink) (e.sent c.args.err.now) (e.sent c.write_whole.new.sink)
    c.write_whole.ensures.cause c.write_whole.ensures.sent c.write_whole.ensures.part)
