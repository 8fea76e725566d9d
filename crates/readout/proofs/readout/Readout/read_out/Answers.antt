use Rattle.std.specs.Vec.{vec_capacity}
use Rattle.readout.specs.PlacedTasks.{task_named}
use Rattle.readout.proofs.DistLemmas.{room_for}
use Rattle.readout.proofs.PlacedTaskLemmas.{found_within}
use Rattle.readout.proofs.readout.Readout.read_out.Goals as goal

pub tell_dist-requires-clause-room : goal.tell_dist-requires-clause-room
tell_dist-requires-clause-room g c =
    let view = g.V.TaskView.seen c.args.view.now in
    room_for (task_named c.args.name.now view) c.self.inside.bits (vec_capacity c.self.inside.cells)
    (rw (← c.self.view_is) at (found_within c.args.name.now view.tasks c.args.self.now c.requires.room)) c.self.invariant.1
