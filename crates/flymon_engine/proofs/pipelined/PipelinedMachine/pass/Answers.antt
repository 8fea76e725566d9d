use Rattle.std.proofs.Common.{sym, ◌∙◌}
use Rattle.outside.proofs.ToldLemmas.{told_weaker}
use Rattle.flymon_engine.proofs.PipelinedLemmas.{passes}
use Rattle.flymon_engine.proofs.pipelined.PipelinedMachine.pass.Goals as goal

pub returns-clause-moves : goal.returns-clause-moves
returns-clause-moves g c = let r = g.R.RegFile in let m = c.args.self.now in
    λ board. told_weaker (r.contents c.args.regs.now) (r.contents c.advance_all.new.regs)
    (λ old new moves air. passes c.pipe_of.result.now m.flight.before c.enter.new.self.before m.serial.switch c.args.packet.now
    m.flight.flight c.advance_all.new.flight.flight c.enter.new.self.flight board old new (r.calls c.args.regs.now) (r.calls c.advance_all.new.regs)
    c.pipe_of.ensures (c.enter.ensures.before ∙ c.advance_all.ensures.before) c.enter.ensures.flight moves air)
    (c.advance_all.ensures.moves m.serial.switch board (sym c.pipe_of.ensures.geometry))
