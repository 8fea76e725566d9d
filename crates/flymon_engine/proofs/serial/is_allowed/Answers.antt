use Rattle.std.proofs.Common.{IsTrue, ◌∙◌, subst}
use Rattle.sketch_defs.specs.Tasks.{allows_rows, allows}
use Rattle.flymon_engine.proofs.SerialLemmas.{no_fault}
use Rattle.flymon_engine.proofs.serial.is_allowed.Goals as goal

pub returns : goal.returns
returns c = no_fault c.args.task.now
    (subst (λ rows. IsTrue (allows_rows c.args.task.now.kind rows)) c.rows.ensures.value c.rows.ensures.allowed)
    (λ none. c.key.ensures.stands (c.key.ensures.value ∙ none))
    (subst (λ attr. IsTrue (allows c.args.task.now.kind attr)) c.attr.ensures.value c.attr.ensures.allowed)
