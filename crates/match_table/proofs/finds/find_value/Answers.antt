use Rattle.std.proofs.Common.{Some, rules, of_calls, ap, ◌∙◌}
use Rattle.std.proofs.lemmas.Fn.{always_returns_same}
use Rattle.match_table.specs.Tables.{value_order}
use Rattle.match_table.proofs.FindLemmas.{value_found, value_absent}
use Rattle.match_table.proofs.finds.find_value.Goals as goal

pub returns-in-Ok : goal.returns-in-Ok
returns-in-Ok c =
    let by_value = c.in-Ok.ensures.position (value_order c.args.value.now) (always_returns_same _ _ _ (λ a r f called. search (rules, of_calls))) in
    ap Some c.index-group-at.is
    ∙ value_found c.args.group.now c.args.value.now c.in-Ok.at c.index-group-at.result c.requires c.in-Ok.ensures.bound by_value

pub returns-in-Err : goal.returns-in-Err
returns-in-Err c =
    let by_value = c.in-Err.ensures.position (value_order c.args.value.now) (always_returns_same _ _ _ (λ a r f called. search (rules, of_calls))) in
    value_absent c.args.group.now c.args.value.now c.in-Err.field-0 c.requires by_value
