use Rattle.outside.proofs.ToldLemmas.{told_weaker}
use Rattle.flymon_engine.proofs.serial.SerialMachine.change.Goals as goal

pub returns-clause-told : goal.returns-clause-told
returns-clause-told g c = let r = g.R.RegFile in
    told_weaker (r.contents c.args.regs.now) (r.contents c.edit.new.regs) (λ d e fills. tt) c.edit.ensures.fills

pub returns-clause-moves : goal.returns-clause-moves
returns-clause-moves g c = let r = g.R.RegFile in
    λ board. told_weaker (r.contents c.args.regs.now) (r.contents c.edit.new.regs)
    (λ d e fills serial. c.edit.ensures.edits.over board d e fills serial) c.edit.ensures.fills
