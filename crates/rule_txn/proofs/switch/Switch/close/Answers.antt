-- The last task goes first, and what it held is given back.
use Rattle.std.proofs.Common.{◌≡◌, ℕ, ◌-◌, take, List, [], ap, sym, ◌∙◌, subst, append-nil}
use Rattle.std.specs.Prelude.{Option}
use Rattle.switch_model.specs.Records.{Outline, Row}
use Rattle.switch_model.specs.Soundness.{Sound}
use Rattle.rule_txn.specs.State.{State, Lent}
use Rattle.rule_txn.specs.Rows.{CanGive, frozens, lives, given, less_rows, less_uses}
use Rattle.rule_txn.specs.Switch.{Stands}
use Rattle.rule_txn.proofs.LookStarts.{Goes, goes, all_given}
use Rattle.rule_txn.proofs.switch.Switch.close.Goals as goal

pub clear_all-frozen-requires-clause-leave : goal.clear_all-frozen-requires-clause-leave
clear_all-frozen-requires-clause-leave c =
    let one : Goes c.pop.new.self.items c.records.stage c.apart-task.result.2 =
    goes c.pop.new.self.items c.in-Some.kept c.records.records.items c.records.stage c.apart-task.result.2 c.in-Some.ensures.items
    c.records.invariant.sound c.records.invariant.stands c.apart-task.ensures.rows in
    one.removes.leave

pub clear_all-frozen-requires-clause-units : goal.clear_all-frozen-requires-clause-units
clear_all-frozen-requires-clause-units c =
    let one : Goes c.pop.new.self.items c.records.stage c.apart-task.result.2 =
    goes c.pop.new.self.items c.in-Some.kept c.records.records.items c.records.stage c.apart-task.result.2 c.in-Some.ensures.items
    c.records.invariant.sound c.records.invariant.stands c.apart-task.ensures.rows in
    one.removes.units

pub clear_all-frozen-requires-clause-leases : goal.clear_all-frozen-requires-clause-leases
clear_all-frozen-requires-clause-leases c =
    let one : Goes c.pop.new.self.items c.records.stage c.apart-task.result.2 =
    goes c.pop.new.self.items c.in-Some.kept c.records.records.items c.records.stage c.apart-task.result.2 c.in-Some.ensures.items
    c.records.invariant.sound c.records.invariant.stands c.apart-task.ensures.rows in
    one.removes.live

pub give_frozen_all-requires : goal.give_frozen_all-requires
give_frozen_all-requires c =
    let one : Goes c.pop.new.self.items c.records.stage c.apart-task.result.2 =
    goes c.pop.new.self.items c.in-Some.kept c.records.records.items c.records.stage c.apart-task.result.2 c.in-Some.ensures.items
    c.records.invariant.sound c.records.invariant.stands c.apart-task.ensures.rows in
    let pools = ap (λ (s : State). s.pools) c.clear_all-frozen.ensures.state in
    subst (CanGive c.clear_all-frozen.new.self.pools) (sym c.clear_all-frozen.ensures.frozen)
    (subst (λ ps. CanGive ps (frozens c.apart-task.result.2)) (sym pools) one.removes.frozen)

pub records-preserved : goal.records-preserved
records-preserved c =
    let slots : List (Option Row) = c.apart-task.result.2 in
    let items : List Outline = c.pop.new.self.items in
    let one : Goes items c.records.stage slots =
    goes items c.in-Some.kept c.records.records.items c.records.stage slots c.in-Some.ensures.items
    c.records.invariant.sound c.records.invariant.stands c.apart-task.ensures.rows in
    let clear : State = c.clear_all-frozen.new.self in
    let end : c.give_frozen_all.new.self ≡ record c.records.stage {
      pools = given (frozens slots) (given (lives slots) c.records.stage.pools);
      tables = less_rows c.records.stage.tables slots;
      groups = less_uses c.records.stage.geometry c.records.stage.groups slots;
    } =
    c.give_frozen_all.ensures
    ∙ ap (λ (fs : List (Option Lent)). (let s : State = record clear { pools = given fs clear.pools } in s)) c.clear_all-frozen.ensures.frozen
    ∙ ap (λ (s : State). (let t : State = record s { pools = given (frozens slots) s.pools } in t)) c.clear_all-frozen.ensures.state in
    record {
      sound = subst (λ (s : State). Sound s.geometry items) (sym end) one.sound;
      stands = subst (λ (s : State). Stands items s) (sym end) one.stands;
    }

pub close-requires : goal.close-requires
close-requires c =
    let none : c.records.records.items ≡ [] =
    c.in_default.ensures.items ∙ append-nil c.pop.new.self.items
    ∙ c.pop.ensures.rest ∙ ap (λ (n : ℕ). take (n - 1) c.records.records.items) c.in_default.ensures.cases.0 in
    all_given c.records.records.items c.records.stage none c.records.invariant.stands
