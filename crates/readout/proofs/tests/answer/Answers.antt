use Rattle.readout.specs.PlacedTasks.{View}
use Rattle.readout.proofs.PlacedTaskLemmas.{found_within}
use Rattle.readout.proofs.TwoTasksLemmas.{seen_of}
use Rattle.readout.proofs.tests.answer.Goals as goal

pub dist-requires-clause-room : goal.dist-requires-clause-room
dist-requires-clause-room c =
    let shown = c.args.view.now in
    let view : View = seen_of shown.hot shown.other shown.first shown.second shown.third in
    found_within c.args.name.now view.tasks c.args.readout.now c.requires.room
