-- A command asks for packets, for a change of the tasks, or for lines.
use Rattle.std.specs.Prelude.{ℕ, List, map}
use Rattle.task_lang.specs.declared.commands.Command.{Command}
use Rattle.task_lang.specs.declared.commands.Command.TheVariants as commands
use Rattle.flymon_engine.specs.declared.work.Work.{Work}
use Rattle.flymon_engine.specs.declared.work.Work.TheVariants as works
use Rattle.flymon_engine.specs.declared.work.Change.{Change}
use Rattle.flymon_engine.specs.declared.work.Change.TheVariants as changes
use Rattle.flymon_engine.specs.declared.work.Request.{Request}
use Rattle.flymon_engine.specs.declared.work.Request.TheVariants as requests
use Rattle.readout.specs.declared.requests.Ask.{Ask}
use Rattle.readout.specs.declared.requests.Ask.TheVariants as asks
use Rattle.readout.specs.declared.views.Side.TheVariants as sides

-- a read-out of one task
abbrev pub about : List ℕ → Ask → Work
about name ask = works.Ask (requests.Task name ask)

-- `run` asks for as many packets as a run looks at
abbrev pub work_of : Command → Work
work_of (commands.Packets count) = works.Take count
work_of commands.Run = works.Take 4294967295
work_of (commands.Add task) = works.Change (changes.Add task)
work_of (commands.Resize name size) = works.Change (changes.Resize name size)
work_of (commands.Remove name) = works.Change (changes.Remove name)
work_of (commands.Release name) = works.Change (changes.Release name)
work_of (commands.Read name) = about name (asks.Cells sides.Live)
work_of (commands.Frozen name) = about name (asks.Cells sides.Frozen)
work_of (commands.Query name at) = about name (asks.Query at)
work_of (commands.Dist name) = about name asks.Dist
work_of (commands.Card name) = about name asks.Card
work_of commands.Show = works.Ask requests.Show
work_of commands.Stat = works.Ask requests.Stat

abbrev pub works_of : List Command → List Work
works_of commands = map work_of commands

-- the registers are filled for it, and the device may refuse that
abbrev pub IsFilling : Change → Type 0
IsFilling (changes.Add task) = Unit {0}
IsFilling (changes.Resize name size) = Unit {0}
IsFilling (changes.Remove name) = ⊥
IsFilling (changes.Release name) = ⊥

-- registers are read for it, and the device may refuse that
abbrev pub IsReading : Request → Type 0
IsReading (requests.Task name ask) = Unit {0}
IsReading requests.Show = ⊥
IsReading requests.Stat = ⊥
