-- The rules of a pipe in a flight: where their calls are.
use Rattle.std.specs.Prelude.{◌≡◌, ℕ, ◌+◌, ◌^◌, ◌<◌, ◌≤◌, true, List, [], ◌∷◌}
use Rattle.std.specs.List.{Contains}
use Rattle.pkt_headers.specs.declared.packets.Packet.{Packet}
use Rattle.addr_translate.specs.Geometry.{Geometry, group_number}
use Rattle.match_table.specs.declared.entries.Entry.{Entry}
use Rattle.pipe_core.specs.Rules.{Rules, IsPipe, entries_on}
use Rattle.pipe_core.specs.Flow.{Stages, stages_in}
use Rattle.pipe_flight.specs.Schedules.{Fill, AreStaged, Avoids, Step, Moment, Meets, moment_after, first_moment, Run, IsRun, ended}
use Rattle.pipe_flight.specs.Schedules.Step.{Enter, Advance, Change, Show}
use Rattle.pipe_flight.specs.Traces.{GroupsAgree, trace_of}

-- an entry on the array has the register in its region
pub record Names (rules : Rules) (array addr : ℕ) : Type 0 where
  pub entry : Entry
  pub among : Contains (entries_on rules array) entry
  pub low : entry.region.base ≤ addr
  pub high : addr < entry.region.base + 2 ^ entry.region.bits

-- in a group calls are on the group's arrays alone
abbrev pub PipesAreStaged : Type 0
PipesAreStaged = (rules : Rules) → AreStaged (group_number rules.geometry) (stages_in rules)

-- no call is on a register that no entry names
abbrev pub PipesAvoidUnnamed : Type 0
PipesAvoidUnnamed = (rules : Rules) (fill : Fill) → IsPipe rules
    → ((array addr : ℕ) → fill.test array addr ≡ true → Names rules array addr → ⊥) → Avoids (stages_in rules) fill

-- ---- schedules over the rules of pipes

-- the rules of one pipe go and those of another of this shape come; no entry of the old names a register that is filled
pub record IsPipeChange (geometry : Geometry) (now next : Stages Packet) (fill : Fill) : Type 0 where
  pub old_rules : Rules
  pub new_rules : Rules
  pub old_pipe : IsPipe old_rules
  pub new_shape : new_rules.geometry ≡ geometry
  pub now_is : now ≡ stages_in old_rules
  pub next_is : next ≡ stages_in new_rules
  pub unnamed : (array addr : ℕ) → fill.test array addr ≡ true → Names old_rules array addr → ⊥

abbrev pub PipeMeets : Geometry → Moment Packet → Step Packet → Type 0
PipeMeets geometry m (Enter packet) = Meets (group_number geometry) m (Enter packet)
PipeMeets geometry m (Advance group) = Meets (group_number geometry) m (Advance group)
PipeMeets geometry m (Change next fill) = IsPipeChange geometry m.rules.now next fill
PipeMeets geometry m Show = Unit {0}

-- each step meets its condition when its turn comes
abbrev pub PipesMeet : Geometry → List ℕ → Moment Packet → List (Step Packet) → Type 0
PipesMeet geometry none m [] = Unit {0}
PipesMeet geometry none m (step ∷ steps) = PipeMeets geometry m step × PipesMeet geometry none (moment_after none m step) steps

-- a schedule over the rules of pipes of one shape
pub record IsPipeRun (geometry : Geometry) (run : Run Packet) : Type 0 where
  pub some : 0 < run.count
  pub rules : Rules
  pub shape : rules.geometry ≡ geometry
  pub now_is : run.now ≡ stages_in rules
  pub meets : PipesMeet geometry run.none (first_moment run.count run.now run.contents) run.steps

-- it is one of which the laws of schedules speak
abbrev pub PipesAreRuns : Type 0
PipesAreRuns = (geometry : Geometry) (run : Run Packet) → IsPipeRun geometry run → IsRun (group_number geometry) run

-- the registers of each group are those of the serial run without the packets that have not passed it
abbrev pub PipesKeepGroupOrder : Type 0
PipesKeepGroupOrder = (geometry : Geometry) (run : Run Packet) → IsPipeRun geometry run
    → GroupsAgree (group_number geometry) run.count run.contents (trace_of run) (ended run).contents (ended run).flight
