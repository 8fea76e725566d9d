use Rattle.std.proofs.Common.{◌≡◌, IsTrue, None, Some, sym, subst}
use Rattle.sketch_defs.specs.Tasks.{Sketch, allows_rows, allows, first_fault}
use Rattle.rule_txn.proofs.Tasks.{no_fault}
use Rattle.rule_txn.proofs.rows.with_size.Goals as goal

-- src/rows.rt:253:19
pub unreachable-requires : goal.unreachable-requires
unreachable-requires c =
    let asked : Sketch = record {
      name = c.name.result.now;
      kind = c.kind.result;
      rows = c.rows.result;
      key = c.key.result.now;
      attr = c.attr.result;
      filter = c.filter.result.now;
      size = c.args.size;
    } in
    let none : first_fault asked ≡ None = no_fault asked
    (subst (λ kind. IsTrue (allows_rows kind c.rows.result)) (sym c.kind.ensures) c.rows.ensures.allowed)
    c.key.ensures.stands
    (subst (λ kind. IsTrue (allows kind c.attr.result)) (sym c.kind.ensures) c.attr.ensures.allowed) in
    let some : first_fault asked ≡ Some c.in-Err.field-0 = c.in-Err.ensures in
    cc
