use Rattle.std.proofs.Common.{sym}
use Rattle.readout.specs.PlacedTasks.{task_in}
use Rattle.readout.proofs.AnswerLemmas.{refused_by}
use Rattle.readout.proofs.judging.judge.Goals as goal

pub returns-in-Some-refusal_by-clause-refused : goal.returns-in-Some-refusal_by-clause-refused
returns-in-Some-refusal_by-clause-refused g c =
    let view = g.V.TaskView.seen c.args.view.now in
    λ hash_key told. refused_by hash_key c.args.name.now c.args.ask.now view told (task_in view c.in-Some.at) c.in-Some-refusal_by.refusal (c.in-Some.ensures.found told)
    (sym c.in-Some-refusal_by.ensures)
