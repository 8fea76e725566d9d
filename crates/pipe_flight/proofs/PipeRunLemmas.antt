-- Schedules over the rules of pipes.
use Rattle.std.proofs.Common.{◌≡◌, ℕ, List, [], ◌∷◌, subst, sym}
use Rattle.pkt_headers.specs.declared.packets.Packet.{Packet}
use Rattle.addr_translate.specs.Geometry.{Geometry, group_number}
use Rattle.pipe_core.specs.Rules.{Rules}
use Rattle.pipe_core.specs.Flow.{Stages, stages_in}
use Rattle.pipe_flight.specs.Schedules.{AreStaged, Avoids, Step, Moment, Meets, MeetAll, moment_after}
use Rattle.pipe_flight.specs.Schedules.Step.{Enter, Advance, Change, Show}
use Rattle.pipe_flight.specs.Pipes.{PipeMeets, PipesMeet, PipesAreRuns, PipesKeepGroupOrder}
use Rattle.pipe_flight.proofs.LawLemmas.{group_order}
use Rattle.pipe_flight.proofs.PipeLemmas.{pipes_staged, unnamed_avoided}

staged_as : (geometry : Geometry) (rules : Rules) (stages : Stages Packet) → rules.geometry ≡ geometry → stages ≡ stages_in rules → AreStaged (group_number geometry) stages
staged_as geometry rules stages shape is =
    subst (AreStaged (group_number geometry)) (sym is)
    (subst (λ (g : Geometry). AreStaged (group_number g) (stages_in rules)) shape (pipes_staged rules))

pipe_meets : (geometry : Geometry) (m : Moment Packet) (step : Step Packet) → PipeMeets geometry m step → Meets (group_number geometry) m step
pipe_meets geometry m (Enter packet) meets = meets
pipe_meets geometry m (Advance group) meets = meets
pipe_meets geometry m (Change next fill) meets = (
  staged_as geometry meets.new_rules next meets.new_shape meets.next_is,
  subst (λ (stages : Stages Packet). Avoids stages fill) (sym meets.now_is) (unnamed_avoided meets.old_rules fill meets.old_pipe meets.unnamed),
)
pipe_meets geometry m Show meets = meets

pipes_meet : (geometry : Geometry) (none : List ℕ) (m : Moment Packet) (steps : List (Step Packet)) → PipesMeet geometry none m steps → MeetAll (group_number geometry) none m steps
pipes_meet geometry none m [] meet = meet
pipes_meet geometry none m (step ∷ steps) meet =
    (pipe_meets geometry m step meet.0, pipes_meet geometry none (moment_after none m step) steps meet.1)

pub pipes_are_runs : PipesAreRuns
pipes_are_runs geometry run is = record {
  some = is.some;
  staged = staged_as geometry is.rules run.now is.shape is.now_is;
  meets = pipes_meet geometry run.none _ run.steps is.meets;
}

pub pipe_group_order : PipesKeepGroupOrder
pipe_group_order geometry run is = group_order (group_number geometry) run (pipes_are_runs geometry run is)
