use Rattle.std.proofs.Common.{Ok, Err, Some, None, ap, ◌∙◌}
use Rattle.readout.specs.declared.refusals.Stop.TheVariants as stops
use Rattle.flymon_engine.specs.declared.work.Request.TheVariants.{Show, Stat}
use Rattle.flymon_engine.specs.declared.machine.AskFault.TheVariants.{Device, Write}
use Rattle.flymon_engine.proofs.SerialLemmas.{serial_read, serial_shown, serial_counted, serial_listed}
use Rattle.flymon_engine.proofs.serial.Serial.answer.Goals as goal

pub returns-in-Show-clause-sent : goal.returns-in-Show-clause-sent
returns-in-Show-clause-sent g c = let r = g.R.RegFile in let o = g.O.Sink in
    λ board. serial_listed c.args.request.now Show c.in-Show.is c.told.result c.args.self.now.switch (r.contents c.args.regs.now)
    (o.sent c.args.out.now) (o.sent c.show.new.sink) board
    (serial_shown c.args.self.now.switch (r.contents c.args.regs.now) (o.sent c.args.out.now) (o.sent c.show.new.sink) c.show.result c.told.result
    c.show.ensures.sent c.told.ensures board)

pub returns-in-Stat-clause-sent : goal.returns-in-Stat-clause-sent
returns-in-Stat-clause-sent g c = let r = g.R.RegFile in let o = g.O.Sink in
    λ board. serial_listed c.args.request.now Stat c.in-Stat.is c.told-in-Stat.result c.args.self.now.switch (r.contents c.args.regs.now)
    (o.sent c.args.out.now) (o.sent c.stat.new.sink) board
    (serial_counted c.args.self.now.switch (r.contents c.args.regs.now) (o.sent c.args.out.now) (o.sent c.stat.new.sink) c.stat.result c.told-in-Stat.result
    c.stat.ensures.sent c.told-in-Stat.ensures board)

pub returns-in-Ok-Ok-clause-sent : goal.returns-in-Ok-Ok-clause-sent
returns-in-Ok-Ok-clause-sent g c = let r = g.R.RegFile in let o = g.O.Sink in
    serial_read c.args.request.now c.in-Task.name c.in-Task.ask c.in-Task.is c.args.self.now.key c.args.self.now.switch
    (r.contents c.args.regs.now) (r.contents c.read_out.new.regs) (o.sent c.args.out.now) (o.sent c.read_out.new.sink) c.read_out.result (Ok (Ok c.in-Ok-Ok.field-0-0)) (Ok None)
    c.requires.keyed (c.in-Ok-Ok.is ∙ ap Ok c.in-Ok-Ok.field-0-is) c.read_out.ensures.reads.contents c.read_out.ensures.replies tt

pub returns-in-Ok-Err-clause-sent : goal.returns-in-Ok-Err-clause-sent
returns-in-Ok-Err-clause-sent g c = let r = g.R.RegFile in let o = g.O.Sink in
    serial_read c.args.request.now c.in-Task.name c.in-Task.ask c.in-Task.is c.args.self.now.key c.args.self.now.switch
    (r.contents c.args.regs.now) (r.contents c.read_out.new.regs) (o.sent c.args.out.now) (o.sent c.read_out.new.sink) c.read_out.result (Ok (Err c.in-Ok-Err.refusal)) (Ok (Some c.refused_line.result))
    c.requires.keyed (c.in-Ok-Err.is ∙ ap Ok c.in-Ok-Err.field-0-is) c.read_out.ensures.reads.contents c.read_out.ensures.replies c.refused_line.ensures

pub returns-in-Err-Device-clause-sent : goal.returns-in-Err-Device-clause-sent
returns-in-Err-Device-clause-sent g c = let r = g.R.RegFile in let o = g.O.Sink in
    serial_read c.args.request.now c.in-Task.name c.in-Task.ask c.in-Task.is c.args.self.now.key c.args.self.now.switch
    (r.contents c.args.regs.now) (r.contents c.read_out.new.regs) (o.sent c.args.out.now) (o.sent c.read_out.new.sink) c.read_out.result (Err stops.Device) (Err Device)
    c.requires.keyed (c.in-Err-Device.is ∙ ap Err c.in-Err-Device.field-0-is) c.read_out.ensures.reads.contents c.read_out.ensures.replies tt

pub returns-in-Err-Write-clause-sent : goal.returns-in-Err-Write-clause-sent
returns-in-Err-Write-clause-sent g c = let r = g.R.RegFile in let o = g.O.Sink in
    serial_read c.args.request.now c.in-Task.name c.in-Task.ask c.in-Task.is c.args.self.now.key c.args.self.now.switch
    (r.contents c.args.regs.now) (r.contents c.read_out.new.regs) (o.sent c.args.out.now) (o.sent c.read_out.new.sink) c.read_out.result (Err stops.Write) (Err Write)
    c.requires.keyed (c.in-Err-Write.is ∙ ap Err c.in-Err-Write.field-0-is) c.read_out.ensures.reads.contents c.read_out.ensures.replies tt
