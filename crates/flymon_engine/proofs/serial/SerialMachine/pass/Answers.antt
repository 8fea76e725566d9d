use Rattle.std.proofs.Common.{[]}
use Rattle.outside.proofs.ToldLemmas.{told_weaker}
use Rattle.flymon_engine.proofs.SerialLemmas.{serial_passed}
use Rattle.flymon_engine.proofs.serial.SerialMachine.pass.Goals as goal

pub returns-clause-told : goal.returns-clause-told
returns-clause-told g c = let r = g.R.RegFile in
    told_weaker (r.contents c.args.regs.now) (r.contents c.packet.new.regs) (λ d e passes. tt) (c.packet.ensures.over [])

pub returns-clause-moves : goal.returns-clause-moves
returns-clause-moves g c = let r = g.R.RegFile in
    λ board. told_weaker (r.contents c.args.regs.now) (r.contents c.packet.new.regs)
    (λ d e passes serial. serial_passed board c.args.self.now.switch c.args.packet.now d e (r.calls c.args.regs.now) (r.calls c.packet.new.regs) passes serial)
    (c.packet.ensures.over board.records)
