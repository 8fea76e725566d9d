use Rattle.std.proofs.Common.{◌∙◌, arith}
use Rattle.gen_capture.specs.Scripts.{script_text}
use Rattle.gen_capture.proofs.ScriptLemmas.{script_last, script_end}
use Rattle.gen_capture.proofs.reading.read_script.Goals as goal

pub returns-clause-next : goal.returns-clause-next
unfolding script_text
returns-clause-next c =
    c.copy_last-read.ensures.next
    ∙ script_last c.args.at.now c.saturating_sub-left.result c.copy_last-read.result c.saturating_sub-left.ensures
    (omega (arith, c.copy_last-read.ensures.count))

pub returns-clause-end : goal.returns-clause-end
returns-clause-end c = λ room none.
    script_end c.args.at.now (omega (arith, room, none, c.copy_last-read.ensures.count))
