-- Frozen rows that are released, or were not there.
use Rattle.std.proofs.Common.{◌≡◌, ℕ, true, false, not, List, [], position, insert, refl, ap, ap₂, sym, ◌∙◌, subst}
use Rattle.std.specs.Prelude.{Option, None, Some, is_none, Ok, Err, vec_capacity}
use Rattle.switch_model.specs.Records.{Row, Outline}
use Rattle.switch_model.specs.Changes.{Release, is_called, judged, new_outline, thawed_outline, edit_at}
use Rattle.rule_txn.specs.declared.faults.ReleaseFault.TheVariants as releasing
use Rattle.rule_txn.specs.State.{State, there}
use Rattle.rule_txn.specs.Rows.{CanGive}
use Rattle.rule_txn.specs.Switch.{SwitchState, IsSwitch}
use Rattle.rule_txn.specs.Changes.{Answers, release_cause}
use Rattle.rule_txn.proofs.Goes.{same_task, Going, unknown_release, nothing_frozen, judged_release, Released, is_released, released_switch}
use Rattle.rule_txn.proofs.switch.Switch.release.Goals as goal

pub returns-in_default : goal.returns-in_default
returns-in_default c =
    let v : SwitchState = c.args.self.now in
    let n : List ℕ = c.args.name.now in
    let os : List Outline = c.self.inside.records.items in
    let st : State = c.self.inside.stage in
    let cap : ℕ = vec_capacity c.self.inside.records in
    let kept : IsSwitch os st cap = c.self.invariant in
    let none : position (is_called n) v.outlines ≡ None = sym c.find.ensures.place ∙ c.in_default.is in
    subst (λ r. Answers {T = Unit {0}} release_cause r (Err releasing.Unknown) v v) (sym (unknown_release (let s : State = record { geometry = v.geometry; hash_key = []; pools = []; tables = []; groups = [] } in s) v.outlines n none)) (refl, refl)

pub returns-then-is_none : goal.returns-then-is_none
returns-then-is_none c =
    let v : SwitchState = c.args.self.now in
    let n : List ℕ = c.args.name.now in
    let os : List Outline = c.self.inside.records.items in
    let st : State = c.self.inside.stage in
    let cap : ℕ = vec_capacity c.self.inside.records in
    let kept : IsSwitch os st cap = c.self.invariant in
    let at : ℕ = c.in-Some.at in
    let place : position (is_called n) os ≡ Some at = ap (λ (s : SwitchState). position (is_called n) s.outlines) c.self.view_is ∙ sym c.find.ensures.place ∙ c.in-Some.is in
    let first : Outline = c.index.result.now in
    let asked : is_none first.frozen ≡ true = ap is_none (sym c.frozen.ensures) ∙ ap not c.is_none.ensures ∙ ap (λ b. not (not b)) c.if-is_none.true in
    let shown : judged v.geometry v.outlines (Release n) ≡ judged st.geometry os (Release n) = ap (λ (s : SwitchState). judged s.geometry s.outlines (Release n)) (sym c.self.view_is) in
    subst (λ r. Answers {T = Unit {0}} release_cause r (Err releasing.NoFrozen) v v) (sym (shown ∙ nothing_frozen st os n at first place c.index.ensures asked)) (refl, refl)

pub give_frozen_all-requires : goal.give_frozen_all-requires
give_frozen_all-requires c =
    let v : SwitchState = c.args.self.now in
    let n : List ℕ = c.args.name.now in
    let os : List Outline = c.self.inside.records.items in
    let st : State = c.self.inside.stage in
    let cap : ℕ = vec_capacity c.self.inside.records in
    let kept : IsSwitch os st cap = c.self.invariant in
    let at : ℕ = c.in-Some.at in
    let place : position (is_called n) os ≡ Some at = ap (λ (s : SwitchState). position (is_called n) s.outlines) c.self.view_is ∙ sym c.find.ensures.place ∙ c.in-Some.is in
    let first : Outline = c.index.result.now in
    let asked : is_none first.frozen ≡ false = ap is_none (sym c.frozen.ensures) ∙ ap not c.is_none.ensures ∙ ap (λ b. not (not b)) c.if-is_none.false in
    let o : Outline = c.remove.result in
    let slots : List (Option Row) = c.apart-task.result.2 in
    let going : Going os st cap n at o slots = record { kept = kept; place = place; here = c.remove.ensures.value; rows = c.apart-task.ensures.rows } in
    let some : is_none o.frozen ≡ false = subst (λ (x : Outline). is_none x.frozen ≡ false) (same_task n os at first o place c.index.ensures c.remove.ensures.value) asked in
    let one : Released os st at o slots = is_released os st cap n at o slots going some in
    subst (CanGive st.pools) (sym c.thaw_rows-rows.ensures.frozen) one.all.frozen

pub invariant_of-self : goal.invariant_of-self
invariant_of-self c =
    let v : SwitchState = c.args.self.now in
    let n : List ℕ = c.args.name.now in
    let os : List Outline = c.self.inside.records.items in
    let st : State = c.self.inside.stage in
    let cap : ℕ = vec_capacity c.self.inside.records in
    let kept : IsSwitch os st cap = c.self.invariant in
    let at : ℕ = c.in-Some.at in
    let place : position (is_called n) os ≡ Some at = ap (λ (s : SwitchState). position (is_called n) s.outlines) c.self.view_is ∙ sym c.find.ensures.place ∙ c.in-Some.is in
    let first : Outline = c.index.result.now in
    let asked : is_none first.frozen ≡ false = ap is_none (sym c.frozen.ensures) ∙ ap not c.is_none.ensures ∙ ap (λ b. not (not b)) c.if-is_none.false in
    let o : Outline = c.remove.result in
    let slots : List (Option Row) = c.apart-task.result.2 in
    let going : Going os st cap n at o slots = record { kept = kept; place = place; here = c.remove.ensures.value; rows = c.apart-task.ensures.rows } in
    let some : is_none o.frozen ≡ false = subst (λ (x : Outline). is_none x.frozen ≡ false) (same_task n os at first o place c.index.ensures c.remove.ensures.value) asked in
    let new_is : c.new.result ≡ new_outline o.task (there c.thaw_rows-rows.result.0) = c.new.ensures ∙ ap (λ task. new_outline task (there c.thaw_rows-rows.result.0)) c.apart-task.ensures.task in
    let done = released_switch os st cap n at o slots c.thaw_rows-rows.result.0 c.thaw_rows-rows.result.1 c.give_frozen_all.new.self c.put_at.new.records.items (vec_capacity c.put_at.new.records)
    going some c.thaw_rows-rows.ensures.rows c.thaw_rows-rows.ensures.frozen c.give_frozen_all.ensures
    (c.put_at.ensures.items ∙ ap₂ (λ xs y. insert xs at y) c.remove.ensures.items new_is) (c.put_at.ensures.capacity ∙ c.remove.ensures.capacity) in
    done.0

pub returns : goal.returns
returns c =
    let v : SwitchState = c.args.self.now in
    let n : List ℕ = c.args.name.now in
    let os : List Outline = c.self.inside.records.items in
    let st : State = c.self.inside.stage in
    let cap : ℕ = vec_capacity c.self.inside.records in
    let kept : IsSwitch os st cap = c.self.invariant in
    let at : ℕ = c.in-Some.at in
    let place : position (is_called n) os ≡ Some at = ap (λ (s : SwitchState). position (is_called n) s.outlines) c.self.view_is ∙ sym c.find.ensures.place ∙ c.in-Some.is in
    let first : Outline = c.index.result.now in
    let asked : is_none first.frozen ≡ false = ap is_none (sym c.frozen.ensures) ∙ ap not c.is_none.ensures ∙ ap (λ b. not (not b)) c.if-is_none.false in
    let o : Outline = c.remove.result in
    let slots : List (Option Row) = c.apart-task.result.2 in
    let going : Going os st cap n at o slots = record { kept = kept; place = place; here = c.remove.ensures.value; rows = c.apart-task.ensures.rows } in
    let some : is_none o.frozen ≡ false = subst (λ (x : Outline). is_none x.frozen ≡ false) (same_task n os at first o place c.index.ensures c.remove.ensures.value) asked in
    let new_is : c.new.result ≡ new_outline o.task (there c.thaw_rows-rows.result.0) = c.new.ensures ∙ ap (λ task. new_outline task (there c.thaw_rows-rows.result.0)) c.apart-task.ensures.task in
    let done = released_switch os st cap n at o slots c.thaw_rows-rows.result.0 c.thaw_rows-rows.result.1 c.give_frozen_all.new.self c.put_at.new.records.items (vec_capacity c.put_at.new.records)
    going some c.thaw_rows-rows.ensures.rows c.thaw_rows-rows.ensures.frozen c.give_frozen_all.ensures
    (c.put_at.ensures.items ∙ ap₂ (λ xs y. insert xs at y) c.remove.ensures.items new_is) (c.put_at.ensures.capacity ∙ c.remove.ensures.capacity) in
    let shown : judged v.geometry v.outlines (Release n) ≡ judged st.geometry os (Release n) = ap (λ (s : SwitchState). judged s.geometry s.outlines (Release n)) (sym c.self.view_is) in
    let last : State = c.give_frozen_all.new.self in
    let now : State → SwitchState = λ s. record { geometry = s.geometry; hash_key = s.hash_key; outlines = c.put_at.new.records.items } in
    let state_is : now last ≡ record { geometry = st.geometry; hash_key = st.hash_key; outlines = edit_at at thawed_outline os } =
    ap now c.give_frozen_all.ensures
    ∙ ap (λ ys. (let s : SwitchState = record { geometry = st.geometry; hash_key = st.hash_key; outlines = ys } in s)) done.1 in
    subst (λ r. Answers {T = Unit {0}} release_cause r (Ok tt) v (now last)) (sym (shown ∙ judged_release st os n at o place c.remove.ensures.value some))
    (state_is ∙ ap (λ (s : SwitchState). record s { outlines = edit_at at thawed_outline s.outlines }) c.self.view_is)
