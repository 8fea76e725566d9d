-- An array's table has an entry for each live row.
use Rattle.std.proofs.Common.{ℕ, ◌≤◌, ◌<◌, length, ap, sym, ◌∙◌, subst, arith}
use Rattle.addr_translate.specs.Geometry.{array_count}
use Rattle.match_table.specs.Tables.{EntryTable}
use Rattle.pipe_core.specs.Rules.{Rules, table_at}
use Rattle.rule_txn.specs.Switch.{SwitchState}
use Rattle.rule_txn.proofs.LookViews.{entries_are_rows, few_entries}
use Rattle.rule_txn.proofs.switch.view.SwitchTaskView.live_rows.Goals as goal

pub overflow_cast-result : goal.overflow_cast-result
overflow_cast-result c =
    let now : SwitchState = c.args.self.now in
    let rules : Rules = c.pipe.result.now in
    let within : c.args.array < array_count rules.geometry =
    subst (λ g. c.args.array < array_count g) (sym c.pipe.ensures.geometry) c.requires in
    let few : length c.entries.result.now ≤ (table_at rules.tables c.args.array).room =
    subst (λ (t : EntryTable). length c.entries.result.now ≤ t.room) c.table.ensures
    (subst (λ (n : ℕ). n ≤ c.table.result.now.room) (sym (ap length c.entries.ensures.value)) c.entries.ensures.few) in
    let small = few_entries rules c.args.array (length c.entries.result.now) c.pipe.ensures.whole within few in
    omega (arith, small)

pub returns : goal.returns
returns c =
    let now : SwitchState = c.args.self.now in
    ap length c.entries.ensures.value
    ∙ ap (λ (t : EntryTable). length t.entries) c.table.ensures
    ∙ entries_are_rows now.geometry now.outlines c.pipe.result.now.tables c.args.array c.pipe.ensures.tables c.requires
