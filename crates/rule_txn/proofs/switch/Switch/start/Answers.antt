-- A switch begins with nothing taken, installed or in use.
use Rattle.std.proofs.Common.{◌≡◌, ℕ, ◌≤◌, ap, ◌∙◌, subst}
use Rattle.std.specs.Prelude.{vec_capacity}
use Rattle.addr_translate.specs.Geometry.{IsGeometry}
use Rattle.pipe_core.specs.Rules.{Rules}
use Rattle.rule_txn.specs.State.{State}
use Rattle.rule_txn.specs.Switch.{most_records, first_state}
use Rattle.rule_txn.proofs.StageStarts.{none_taken}
use Rattle.rule_txn.proofs.LookStarts.{begins, stands_none}
use Rattle.rule_txn.proofs.switch.Switch.start.Goals as goal

pub invariant_of-result : goal.invariant_of-result
invariant_of-result g c =
    let first : c.in-Ok.stage ≡ first_state c.args.shape c.args.key = c.in-Ok.ensures in
    let same : c.pipe.result.now.geometry ≡ c.args.shape = ap (λ (r : Rules). r.geometry) c.pipe.ensures ∙ ap (λ (s : State). s.geometry) first in
    let room : c.most_records.result ≡ most_records c.args.shape = c.most_records.ensures ∙ ap most_records (c.shape-2.ensures.value ∙ same) in
    begins c.args.shape c.args.key c.in-Ok-with_capacity.records.items c.in-Ok.stage (vec_capacity c.in-Ok-with_capacity.records)
    c.in-Ok-with_capacity.ensures.items first
    (subst IsGeometry same c.shape-2.ensures.whole.geometry)
    (subst (λ (n : ℕ). n ≤ vec_capacity c.in-Ok-with_capacity.records) room c.in-Ok-with_capacity.ensures.capacity)

pub close-requires : goal.close-requires
close-requires g c = none_taken c.args.shape c.in-Ok.stage.pools (ap (λ (s : State). s.pools) c.in-Ok.ensures)

pub returns-in-Ok-with_capacity-clause-contents : goal.returns-in-Ok-with_capacity-clause-contents
returns-in-Ok-with_capacity-clause-contents g c = stands_none _ _ c.in-Ok-with_capacity.ensures.items
