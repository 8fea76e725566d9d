-- A task that is removed, or was not there.
use Rattle.std.proofs.Common.{◌≡◌, ℕ, List, [], position, remove, refl, ap, sym, ◌∙◌, subst}
use Rattle.std.specs.Prelude.{Option, None, Some, Ok, Err, vec_capacity}
use Rattle.switch_model.specs.Records.{Row, Outline}
use Rattle.switch_model.specs.Changes.{Remove, is_called, judged}
use Rattle.rule_txn.specs.declared.faults.Unknown as unknown
use Rattle.rule_txn.specs.State.{State}
use Rattle.rule_txn.specs.Switch.{SwitchState, IsSwitch}
use Rattle.rule_txn.specs.Changes.{Answers, remove_cause}
use Rattle.rule_txn.proofs.Goes.{unknown_removal, Going, judged_removal, Removed, is_removed, removed_leases, removed_switch}
use Rattle.rule_txn.proofs.switch.Switch.remove.Goals as goal

pub returns-in_default : goal.returns-in_default
returns-in_default c =
    let v : SwitchState = c.args.self.now in
    let n : List ℕ = c.args.name.now in
    let os : List Outline = c.self.inside.records.items in
    let st : State = c.self.inside.stage in
    let cap : ℕ = vec_capacity c.self.inside.records in
    let kept : IsSwitch os st cap = c.self.invariant in
    let none : position (is_called n) v.outlines ≡ None = sym c.find.ensures.place ∙ c.in_default.is in
    subst (λ r. Answers {T = Unit {0}} remove_cause r (Err (let f : unknown.Unknown = record {} in f)) v v) (sym (unknown_removal (let s : State = record { geometry = v.geometry; hash_key = []; pools = []; tables = []; groups = [] } in s) v.outlines n none)) (refl, refl)

pub clear_all-frozen-requires-clause-leave : goal.clear_all-frozen-requires-clause-leave
clear_all-frozen-requires-clause-leave c =
    let v : SwitchState = c.args.self.now in
    let n : List ℕ = c.args.name.now in
    let os : List Outline = c.self.inside.records.items in
    let st : State = c.self.inside.stage in
    let cap : ℕ = vec_capacity c.self.inside.records in
    let kept : IsSwitch os st cap = c.self.invariant in
    let at : ℕ = c.in-Some.at in
    let place : position (is_called n) os ≡ Some at = ap (λ (s : SwitchState). position (is_called n) s.outlines) c.self.view_is ∙ sym c.find.ensures.place ∙ c.in-Some.is in
    let o : Outline = c.remove.result in
    let slots : List (Option Row) = c.apart-rows.result.2 in
    let going : Going os st cap n at o slots = record { kept = kept; place = place; here = c.remove.ensures.value; rows = c.apart-rows.ensures.rows } in
    let one : Removed os st at slots = is_removed os st cap n at o slots going in
    one.all.leave

pub clear_all-frozen-requires-clause-units : goal.clear_all-frozen-requires-clause-units
clear_all-frozen-requires-clause-units c =
    let v : SwitchState = c.args.self.now in
    let n : List ℕ = c.args.name.now in
    let os : List Outline = c.self.inside.records.items in
    let st : State = c.self.inside.stage in
    let cap : ℕ = vec_capacity c.self.inside.records in
    let kept : IsSwitch os st cap = c.self.invariant in
    let at : ℕ = c.in-Some.at in
    let place : position (is_called n) os ≡ Some at = ap (λ (s : SwitchState). position (is_called n) s.outlines) c.self.view_is ∙ sym c.find.ensures.place ∙ c.in-Some.is in
    let o : Outline = c.remove.result in
    let slots : List (Option Row) = c.apart-rows.result.2 in
    let going : Going os st cap n at o slots = record { kept = kept; place = place; here = c.remove.ensures.value; rows = c.apart-rows.ensures.rows } in
    let one : Removed os st at slots = is_removed os st cap n at o slots going in
    one.all.units

pub clear_all-frozen-requires-clause-leases : goal.clear_all-frozen-requires-clause-leases
clear_all-frozen-requires-clause-leases c =
    let v : SwitchState = c.args.self.now in
    let n : List ℕ = c.args.name.now in
    let os : List Outline = c.self.inside.records.items in
    let st : State = c.self.inside.stage in
    let cap : ℕ = vec_capacity c.self.inside.records in
    let kept : IsSwitch os st cap = c.self.invariant in
    let at : ℕ = c.in-Some.at in
    let place : position (is_called n) os ≡ Some at = ap (λ (s : SwitchState). position (is_called n) s.outlines) c.self.view_is ∙ sym c.find.ensures.place ∙ c.in-Some.is in
    let o : Outline = c.remove.result in
    let slots : List (Option Row) = c.apart-rows.result.2 in
    let going : Going os st cap n at o slots = record { kept = kept; place = place; here = c.remove.ensures.value; rows = c.apart-rows.ensures.rows } in
    let one : Removed os st at slots = is_removed os st cap n at o slots going in
    one.all.live

pub give_frozen_all-requires : goal.give_frozen_all-requires
give_frozen_all-requires c =
    let v : SwitchState = c.args.self.now in
    let n : List ℕ = c.args.name.now in
    let os : List Outline = c.self.inside.records.items in
    let st : State = c.self.inside.stage in
    let cap : ℕ = vec_capacity c.self.inside.records in
    let kept : IsSwitch os st cap = c.self.invariant in
    let at : ℕ = c.in-Some.at in
    let place : position (is_called n) os ≡ Some at = ap (λ (s : SwitchState). position (is_called n) s.outlines) c.self.view_is ∙ sym c.find.ensures.place ∙ c.in-Some.is in
    let o : Outline = c.remove.result in
    let slots : List (Option Row) = c.apart-rows.result.2 in
    let going : Going os st cap n at o slots = record { kept = kept; place = place; here = c.remove.ensures.value; rows = c.apart-rows.ensures.rows } in
    let one : Removed os st at slots = is_removed os st cap n at o slots going in
    removed_leases os st at slots c.clear_all-frozen.result c.clear_all-frozen.new.self one c.clear_all-frozen.ensures.frozen c.clear_all-frozen.ensures.state

pub invariant_of-self : goal.invariant_of-self
invariant_of-self c =
    let v : SwitchState = c.args.self.now in
    let n : List ℕ = c.args.name.now in
    let os : List Outline = c.self.inside.records.items in
    let st : State = c.self.inside.stage in
    let cap : ℕ = vec_capacity c.self.inside.records in
    let kept : IsSwitch os st cap = c.self.invariant in
    let at : ℕ = c.in-Some.at in
    let place : position (is_called n) os ≡ Some at = ap (λ (s : SwitchState). position (is_called n) s.outlines) c.self.view_is ∙ sym c.find.ensures.place ∙ c.in-Some.is in
    let o : Outline = c.remove.result in
    let slots : List (Option Row) = c.apart-rows.result.2 in
    let going : Going os st cap n at o slots = record { kept = kept; place = place; here = c.remove.ensures.value; rows = c.apart-rows.ensures.rows } in
    removed_switch os st cap n at o slots c.clear_all-frozen.result c.clear_all-frozen.new.self c.give_frozen_all.new.self c.remove.new.self.items (vec_capacity c.remove.new.self) going
    c.clear_all-frozen.ensures.frozen c.clear_all-frozen.ensures.state c.give_frozen_all.ensures c.remove.ensures.items c.remove.ensures.capacity

pub returns : goal.returns
returns c =
    let v : SwitchState = c.args.self.now in
    let n : List ℕ = c.args.name.now in
    let os : List Outline = c.self.inside.records.items in
    let st : State = c.self.inside.stage in
    let cap : ℕ = vec_capacity c.self.inside.records in
    let kept : IsSwitch os st cap = c.self.invariant in
    let at : ℕ = c.in-Some.at in
    let place : position (is_called n) os ≡ Some at = ap (λ (s : SwitchState). position (is_called n) s.outlines) c.self.view_is ∙ sym c.find.ensures.place ∙ c.in-Some.is in
    let o : Outline = c.remove.result in
    let slots : List (Option Row) = c.apart-rows.result.2 in
    let going : Going os st cap n at o slots = record { kept = kept; place = place; here = c.remove.ensures.value; rows = c.apart-rows.ensures.rows } in
    let shown : judged v.geometry v.outlines (Remove n) ≡ judged st.geometry os (Remove n) = ap (λ (s : SwitchState). judged s.geometry s.outlines (Remove n)) (sym c.self.view_is) in
    let last : State = c.give_frozen_all.new.self in
    let now : State → SwitchState = λ s. record { geometry = s.geometry; hash_key = s.hash_key; outlines = c.remove.new.self.items } in
    let state_is : now last ≡ record { geometry = st.geometry; hash_key = st.hash_key; outlines = remove os at } =
    ap now c.give_frozen_all.ensures ∙ ap now c.clear_all-frozen.ensures.state
    ∙ ap (λ ys. (let s : SwitchState = record { geometry = st.geometry; hash_key = st.hash_key; outlines = ys } in s)) c.remove.ensures.items in
    subst (λ r. Answers {T = Unit {0}} remove_cause r (Ok tt) v (now last)) (sym (shown ∙ judged_removal os st cap n at o slots going))
    (state_is ∙ ap (λ (s : SwitchState). record s { outlines = remove s.outlines at }) c.self.view_is)
