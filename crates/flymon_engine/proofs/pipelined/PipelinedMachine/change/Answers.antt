use Rattle.outside.proofs.ToldLemmas.{told_then}
use Rattle.flymon_engine.proofs.ChangeLemmas.{changes}
use Rattle.flymon_engine.proofs.pipelined.PipelinedMachine.change.Goals as goal

pub returns-clause-moves : goal.returns-clause-moves
returns-clause-moves g c = let r = g.R.RegFile in let m = c.args.self.now in
    λ board. told_then (r.contents c.args.regs.now) (r.contents c.commit.new.regs) (r.contents c.edit.new.regs)
    (λ old mid new made fills air. changes c.pipe_of.result.now m.flight.before c.commit.new.self.before m.serial.switch c.edit.new.self.switch c.args.change.now c.edit.result
    m.flight.flight c.commit.new.self.flight board old mid new c.commit.ensures.makes.calls (r.calls c.args.regs.now) (r.calls c.commit.new.regs) (r.calls c.edit.new.regs)
    c.requires.serial.limits c.pipe_of.ensures c.commit.ensures.order c.commit.ensures.before c.commit.ensures.flight
    c.commit.ensures.makes.joined made fills c.edit.ensures.edits air)
    c.commit.ensures.makes.told c.edit.ensures.fills
