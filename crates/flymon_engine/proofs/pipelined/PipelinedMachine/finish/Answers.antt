use Rattle.outside.proofs.ToldLemmas.{told_weaker}
use Rattle.flymon_engine.proofs.PipelinedLemmas.{finishes}
use Rattle.flymon_engine.proofs.pipelined.PipelinedMachine.finish.Goals as goal

pub returns-clause-moves : goal.returns-clause-moves
returns-clause-moves g c = let r = g.R.RegFile in let m = c.args.self in
    λ board. told_weaker (r.contents c.args.regs.now) (r.contents c.show.new.regs)
    (λ old new made air. finishes c.pipe_of.result.now m.flight.before m.serial.switch m.flight.flight board old new c.show.ensures.makes.calls
    (r.calls c.args.regs.now) (r.calls c.show.new.regs) c.pipe_of.ensures c.show.ensures.makes.joined made air)
    c.show.ensures.makes.told
