use Rattle.std.proofs.Common.{◌∙◌}
use Rattle.outside.proofs.ToldLemmas.{told_then}
use Rattle.flymon_engine.proofs.PipelinedLemmas.{lands, asks}
use Rattle.flymon_engine.proofs.pipelined.PipelinedMachine.ask.Goals as goal

pub returns-clause-moves : goal.returns-clause-moves
returns-clause-moves g c = let r = g.R.RegFile in let m = c.args.self.now in
    λ board. told_then (r.contents c.args.regs.now) (r.contents c.show.new.regs) (r.contents c.answer.new.regs)
    (λ old mid new made stays air. asks c.pipe_of.result.now m.flight.before c.show.new.self.before m.serial.switch c.answer.new.self.switch
    m.flight.flight c.show.new.self.flight board old new c.show.ensures.makes.calls (r.calls c.args.regs.now) (r.calls c.show.new.regs) (r.calls c.answer.new.regs)
    c.pipe_of.ensures c.answer.ensures.switch c.show.ensures.flight c.show.ensures.makes.joined (made.0, stays ∙ made.1) c.answer.ensures.calls air)
    c.show.ensures.makes.told c.answer.ensures.contents

pub returns-clause-sent : goal.returns-clause-sent
returns-clause-sent g c = let r = g.R.RegFile in let m = c.args.self.now in
    λ board. told_then (r.contents c.args.regs.now) (r.contents c.show.new.regs) (r.contents c.answer.new.regs)
    (λ old mid new made sent air. sent (lands c.pipe_of.result.now m.flight.before m.serial.switch m.flight.flight board old mid c.show.ensures.makes.calls
    c.pipe_of.ensures made air))
    c.show.ensures.makes.told (c.answer.ensures.sent board)
