-- What a task is and holds, apart from where it stands.
use Rattle.std.specs.Prelude.{ℕ, List, Option}
use Rattle.sketch_defs.specs.Tasks.{Sketch}

-- rows of cells, 2 to this many in each
pub record Rows : Type 0 where
  pub bits : ℕ
  pub cells : List (List ℕ)

-- the task, the rows that it counts in, and those that a resize froze, where it holds any
pub record SketchPart : Type 0 where
  pub task : Sketch
  pub live : Rows
  pub frozen : Option Rows
