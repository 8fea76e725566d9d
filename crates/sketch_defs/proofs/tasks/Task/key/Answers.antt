use Rattle.sketch_defs.specs.Tasks.{Sketch}
use Rattle.sketch_defs.proofs.TaskLemmas.{key_stands}
use Rattle.sketch_defs.proofs.tasks.Task.key.Goals as goal

pub returns-clause-stands : goal.returns-clause-stands
returns-clause-stands c =
    let t = c.self.inside in
    let task : Sketch = record { name = t.name; kind = t.kind; rows = t.rows; key = t.key; attr = t.attr; filter = t.filter; size = t.size } in
    key_stands task c.self.invariant
