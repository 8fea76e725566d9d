-- A task that is resized, or is refused and leaves all as it was.
use Rattle.std.proofs.Common.{◌≡◌, ℕ, true, false, List, map, position, insert, refl, ap, ap₂, sym, ◌∙◌, subst}
use Rattle.std.specs.Prelude.{Option, None, Some, is_some, Ok, Err, vec_capacity}
use Rattle.pipe_core.specs.Rules.{Rules, IsShaped}
use Rattle.placer.specs.Sights.{bits_for}
use Rattle.placer.specs.Placement.{first_full}
use Rattle.sketch_defs.specs.Tasks.{Sketch}
use Rattle.sketch_lower.specs.Operations.{start_of}
use Rattle.switch_model.specs.Records.{Row, Outline}
use Rattle.switch_model.specs.Changes.{Move, Resize, is_called, judged, moved_outline, edit_at}
use Rattle.rule_txn.specs.declared.faults.ResizeFault.{ResizeFault}
use Rattle.rule_txn.specs.declared.faults.ResizeFault.TheVariants as resizing
use Rattle.rule_txn.specs.State.{State, there}
use Rattle.rule_txn.specs.Rows.{fresh_leases, CanTake}
use Rattle.rule_txn.specs.Stages.{arrays_there}
use Rattle.rule_txn.specs.Switch.{SwitchState, IsSwitch}
use Rattle.rule_txn.specs.Changes.{Answers, resize_cause}
use Rattle.rule_txn.specs.Fills.{AreInFile}
use Rattle.rule_txn.proofs.Pools.{held_of}
use Rattle.rule_txn.proofs.Refilled.{told_made, told_refused}
use Rattle.rule_txn.proofs.Resized.{unknown_resize, frozen_resize, bad_resize, full_resize, arrays_exist, Looks, Sizes, Resized, is_resized, sized}
use Rattle.switch_model.specs.Sights.{live_holding}
use Rattle.rule_txn.proofs.Goes.{same_task, kept_as, kept_switch, Moving, moving, resized_switch}
use Rattle.rule_txn.proofs.switch.Switch.resize.Goals as goal

pub returns-in_default-clause-answer : goal.returns-in_default-clause-answer
returns-in_default-clause-answer g c =
    let v : SwitchState = c.args.self.now in
    let n : List ℕ = c.args.name.now in
    let os : List Outline = c.self.inside.records.items in
    let st : State = c.self.inside.stage in
    let cap : ℕ = vec_capacity c.self.inside.records in
    let kept : IsSwitch os st cap = c.self.invariant in
    let none : position (is_called n) v.outlines ≡ None = sym c.find.ensures.place ∙ c.in_default.is in
    subst (λ r. Answers {T = Unit {0}} resize_cause r (Err resizing.Unknown) v v) (sym (unknown_resize v.geometry v.outlines n c.args.size none)) (refl, refl)

pub returns-then-is_some-clause-answer : goal.returns-then-is_some-clause-answer
returns-then-is_some-clause-answer g c =
    let v : SwitchState = c.args.self.now in
    let n : List ℕ = c.args.name.now in
    let os : List Outline = c.self.inside.records.items in
    let st : State = c.self.inside.stage in
    let cap : ℕ = vec_capacity c.self.inside.records in
    let kept : IsSwitch os st cap = c.self.invariant in
    let at : ℕ = c.in-Some.at in
    let place : position (is_called n) os ≡ Some at = ap (λ (s : SwitchState). position (is_called n) s.outlines) c.self.view_is ∙ sym c.find.ensures.place ∙ c.in-Some.is in
    let first : Outline = c.index-kept.result.now in
    let size : ℕ = c.args.size in
    let asked : is_some first.frozen ≡ true = ap is_some (sym c.frozen.ensures) ∙ sym c.is_some.ensures ∙ c.if-is_some.true in
    let shown : judged v.geometry v.outlines (Resize n size) ≡ judged st.geometry os (Resize n size) = ap (λ (s : SwitchState). judged s.geometry s.outlines (Resize n size)) (sym c.self.view_is) in
    subst (λ r. Answers {T = Unit {0}} resize_cause r (Err resizing.FrozenHeld) v v) (sym (shown ∙ frozen_resize st.geometry os n size at first place c.index-kept.ensures asked)) (refl, refl)

pub returns-in_default-size_bits-clause-answer : goal.returns-in_default-size_bits-clause-answer
returns-in_default-size_bits-clause-answer g c =
    let v : SwitchState = c.args.self.now in
    let n : List ℕ = c.args.name.now in
    let os : List Outline = c.self.inside.records.items in
    let st : State = c.self.inside.stage in
    let cap : ℕ = vec_capacity c.self.inside.records in
    let kept : IsSwitch os st cap = c.self.invariant in
    let at : ℕ = c.in-Some.at in
    let place : position (is_called n) os ≡ Some at = ap (λ (s : SwitchState). position (is_called n) s.outlines) c.self.view_is ∙ sym c.find.ensures.place ∙ c.in-Some.is in
    let first : Outline = c.index-kept.result.now in
    let size : ℕ = c.args.size in
    let asked : is_some first.frozen ≡ false = ap is_some (sym c.frozen.ensures) ∙ sym c.is_some.ensures ∙ c.if-is_some.false in
    let looks : Looks os st cap n size at first = record { kept = kept; place = place; here = c.index-kept.ensures; free = asked } in
    let sh : c.shape-shape.result.now ≡ st.geometry = c.shape-shape.ensures.value ∙ ap (λ (r : Rules). r.geometry) c.pipe.ensures in
    let told : bits_for st.geometry first.task.kind size ≡ c.size_bits.result =
    ap (λ g. bits_for g first.task.kind size) (sym sh) ∙ ap (λ k. bits_for c.shape-shape.result.now k size) (sym (c.kind.ensures ∙ ap (λ (t : Sketch). t.kind) c.task.ensures)) ∙ sym c.size_bits.ensures.bits in
    let shown : judged v.geometry v.outlines (Resize n size) ≡ judged st.geometry os (Resize n size) = ap (λ (s : SwitchState). judged s.geometry s.outlines (Resize n size)) (sym c.self.view_is) in
    subst (λ r. Answers {T = Unit {0}} resize_cause r (Err (resizing.BadMemory size)) v v) (sym (shown ∙ bad_resize os st cap n size at first looks (told ∙ c.in_default-size_bits.is))) (refl, refl)

pub room_for-requires-clause-exist : goal.room_for-requires-clause-exist
room_for-requires-clause-exist g c =
    let v : SwitchState = c.args.self.now in
    let n : List ℕ = c.args.name.now in
    let os : List Outline = c.self.inside.records.items in
    let st : State = c.self.inside.stage in
    let cap : ℕ = vec_capacity c.self.inside.records in
    let kept : IsSwitch os st cap = c.self.invariant in
    let at : ℕ = c.in-Some.at in
    let place : position (is_called n) os ≡ Some at = ap (λ (s : SwitchState). position (is_called n) s.outlines) c.self.view_is ∙ sym c.find.ensures.place ∙ c.in-Some.is in
    let first : Outline = c.index-kept.result.now in
    let size : ℕ = c.args.size in
    (arrays_exist os st cap n at first c.rows.result.now kept place c.index-kept.ensures c.rows.ensures).0

pub room_for-requires-clause-differ : goal.room_for-requires-clause-differ
room_for-requires-clause-differ g c =
    let v : SwitchState = c.args.self.now in
    let n : List ℕ = c.args.name.now in
    let os : List Outline = c.self.inside.records.items in
    let st : State = c.self.inside.stage in
    let cap : ℕ = vec_capacity c.self.inside.records in
    let kept : IsSwitch os st cap = c.self.invariant in
    let at : ℕ = c.in-Some.at in
    let place : position (is_called n) os ≡ Some at = ap (λ (s : SwitchState). position (is_called n) s.outlines) c.self.view_is ∙ sym c.find.ensures.place ∙ c.in-Some.is in
    let first : Outline = c.index-kept.result.now in
    let size : ℕ = c.args.size in
    (arrays_exist os st cap n at first c.rows.result.now kept place c.index-kept.ensures c.rows.ensures).1

pub returns-in-Err-clause-answer : goal.returns-in-Err-clause-answer
returns-in-Err-clause-answer g c =
    let v : SwitchState = c.args.self.now in
    let n : List ℕ = c.args.name.now in
    let os : List Outline = c.self.inside.records.items in
    let st : State = c.self.inside.stage in
    let cap : ℕ = vec_capacity c.self.inside.records in
    let kept : IsSwitch os st cap = c.self.invariant in
    let at : ℕ = c.in-Some.at in
    let place : position (is_called n) os ≡ Some at = ap (λ (s : SwitchState). position (is_called n) s.outlines) c.self.view_is ∙ sym c.find.ensures.place ∙ c.in-Some.is in
    let first : Outline = c.index-kept.result.now in
    let size : ℕ = c.args.size in
    let asked : is_some first.frozen ≡ false = ap is_some (sym c.frozen.ensures) ∙ sym c.is_some.ensures ∙ c.if-is_some.false in
    let looks : Looks os st cap n size at first = record { kept = kept; place = place; here = c.index-kept.ensures; free = asked } in
    let sh : c.shape-shape.result.now ≡ st.geometry = c.shape-shape.ensures.value ∙ ap (λ (r : Rules). r.geometry) c.pipe.ensures in
    let told : bits_for st.geometry first.task.kind size ≡ c.size_bits.result =
    ap (λ g. bits_for g first.task.kind size) (sym sh) ∙ ap (λ k. bits_for c.shape-shape.result.now k size) (sym (c.kind.ensures ∙ ap (λ (t : Sketch). t.kind) c.task.ensures)) ∙ sym c.size_bits.ensures.bits in
    let bits : ℕ = c.in-Some-size_bits.bits in
    let bits_are : bits_for st.geometry first.task.kind size ≡ Some bits = told ∙ c.in-Some-size_bits.is in
    let shown : judged v.geometry v.outlines (Resize n size) ≡ judged st.geometry os (Resize n size) = ap (λ (s : SwitchState). judged s.geometry s.outlines (Resize n size)) (sym c.self.view_is) in
    let row : ℕ = c.in-Err.refusal.row in
    subst (λ r. Answers {T = Unit {0}} resize_cause r (Err (resizing.NoRoom row)) v v) (sym (shown ∙ full_resize os st cap n size at first bits row c.rows.result.now looks bits_are c.rows.ensures c.in-Err.ensures)) (refl, refl)

pub fresh-requires-clause-can : goal.fresh-requires-clause-can
fresh-requires-clause-can g c =
    let v : SwitchState = c.args.self.now in
    let n : List ℕ = c.args.name.now in
    let os : List Outline = c.self.inside.records.items in
    let st : State = c.self.inside.stage in
    let cap : ℕ = vec_capacity c.self.inside.records in
    let kept : IsSwitch os st cap = c.self.invariant in
    let at : ℕ = c.in-Some.at in
    let place : position (is_called n) os ≡ Some at = ap (λ (s : SwitchState). position (is_called n) s.outlines) c.self.view_is ∙ sym c.find.ensures.place ∙ c.in-Some.is in
    let first : Outline = c.index-kept.result.now in
    let size : ℕ = c.args.size in
    let asked : is_some first.frozen ≡ false = ap is_some (sym c.frozen.ensures) ∙ sym c.is_some.ensures ∙ c.if-is_some.false in
    let looks : Looks os st cap n size at first = record { kept = kept; place = place; here = c.index-kept.ensures; free = asked } in
    let sh : c.shape-shape.result.now ≡ st.geometry = c.shape-shape.ensures.value ∙ ap (λ (r : Rules). r.geometry) c.pipe.ensures in
    let told : bits_for st.geometry first.task.kind size ≡ c.size_bits.result =
    ap (λ g. bits_for g first.task.kind size) (sym sh) ∙ ap (λ k. bits_for c.shape-shape.result.now k size) (sym (c.kind.ensures ∙ ap (λ (t : Sketch). t.kind) c.task.ensures)) ∙ sym c.size_bits.ensures.bits in
    let bits : ℕ = c.in-Some-size_bits.bits in
    let bits_are : bits_for st.geometry first.task.kind size ≡ Some bits = told ∙ c.in-Some-size_bits.is in
    let o : Outline = c.remove.result in
    let slots : List (Option Row) = c.apart-task.result.2 in
    let same : first ≡ o = same_task n os at first o place c.index-kept.ensures c.remove.ensures.value in
    let rows : there slots ≡ o.rows = c.apart-task.ensures.rows in
    let looks_too : Looks os st cap n size at o = record { kept = kept; place = place; here = c.remove.ensures.value; free = subst (λ (x : Outline). is_some x.frozen ≡ false) same asked } in
    let arrays : arrays_there c.rows.result.now ≡ arrays_there slots = ap (map (λ (r : Row). r.array)) (c.rows.ensures ∙ ap (λ (x : Outline). x.rows) same ∙ sym rows) in
    let sizes : Sizes os st cap n size at o bits slots = record {
      looks = looks_too;
      bits_are = subst (λ (x : Outline). bits_for st.geometry x.task.kind size ≡ Some bits) same bits_are;
      rows = rows;
      room = ap (first_full st.pools bits) (sym arrays) ∙ c.in-Ok.ensures;
    } in
    let one : Resized os st n size at o bits slots = is_resized os st cap n size at o bits slots sizes in
    subst (CanTake bits st.pools) (sym c.arrays_in.ensures) one.all.can

pub fresh-requires-clause-file : goal.fresh-requires-clause-file
fresh-requires-clause-file g c =
    let v : SwitchState = c.args.self.now in
    let n : List ℕ = c.args.name.now in
    let os : List Outline = c.self.inside.records.items in
    let st : State = c.self.inside.stage in
    let cap : ℕ = vec_capacity c.self.inside.records in
    let kept : IsSwitch os st cap = c.self.invariant in
    let at : ℕ = c.in-Some.at in
    let place : position (is_called n) os ≡ Some at = ap (λ (s : SwitchState). position (is_called n) s.outlines) c.self.view_is ∙ sym c.find.ensures.place ∙ c.in-Some.is in
    let first : Outline = c.index-kept.result.now in
    let size : ℕ = c.args.size in
    let asked : is_some first.frozen ≡ false = ap is_some (sym c.frozen.ensures) ∙ sym c.is_some.ensures ∙ c.if-is_some.false in
    let looks : Looks os st cap n size at first = record { kept = kept; place = place; here = c.index-kept.ensures; free = asked } in
    let sh : c.shape-shape.result.now ≡ st.geometry = c.shape-shape.ensures.value ∙ ap (λ (r : Rules). r.geometry) c.pipe.ensures in
    let told : bits_for st.geometry first.task.kind size ≡ c.size_bits.result =
    ap (λ g. bits_for g first.task.kind size) (sym sh) ∙ ap (λ k. bits_for c.shape-shape.result.now k size) (sym (c.kind.ensures ∙ ap (λ (t : Sketch). t.kind) c.task.ensures)) ∙ sym c.size_bits.ensures.bits in
    let bits : ℕ = c.in-Some-size_bits.bits in
    let bits_are : bits_for st.geometry first.task.kind size ≡ Some bits = told ∙ c.in-Some-size_bits.is in
    let o : Outline = c.remove.result in
    let slots : List (Option Row) = c.apart-task.result.2 in
    let same : first ≡ o = same_task n os at first o place c.index-kept.ensures c.remove.ensures.value in
    let rows : there slots ≡ o.rows = c.apart-task.ensures.rows in
    let looks_too : Looks os st cap n size at o = record { kept = kept; place = place; here = c.remove.ensures.value; free = subst (λ (x : Outline). is_some x.frozen ≡ false) same asked } in
    let arrays : arrays_there c.rows.result.now ≡ arrays_there slots = ap (map (λ (r : Row). r.array)) (c.rows.ensures ∙ ap (λ (x : Outline). x.rows) same ∙ sym rows) in
    let sizes : Sizes os st cap n size at o bits slots = record {
      looks = looks_too;
      bits_are = subst (λ (x : Outline). bits_for st.geometry x.task.kind size ≡ Some bits) same bits_are;
      rows = rows;
      room = ap (first_full st.pools bits) (sym arrays) ∙ c.in-Ok.ensures;
    } in
    let one : Resized os st n size at o bits slots = is_resized os st cap n size at o bits slots sizes in
    subst (λ xs. AreInFile (g.R.RegFile.dims c.args.regs.now) (fresh_leases bits st.pools xs)) (sym c.arrays_in.ensures)
    (one.all.file (g.R.RegFile.dims c.args.regs.now) (subst (λ (s : SwitchState). IsShaped s.geometry (g.R.RegFile.dims c.args.regs.now)) (sym c.self.view_is) c.requires))

pub move_all-rows-requires-clause-moves : goal.move_all-rows-requires-clause-moves
move_all-rows-requires-clause-moves g c =
    let v : SwitchState = c.args.self.now in
    let n : List ℕ = c.args.name.now in
    let os : List Outline = c.self.inside.records.items in
    let st : State = c.self.inside.stage in
    let cap : ℕ = vec_capacity c.self.inside.records in
    let kept : IsSwitch os st cap = c.self.invariant in
    let at : ℕ = c.in-Some.at in
    let place : position (is_called n) os ≡ Some at = ap (λ (s : SwitchState). position (is_called n) s.outlines) c.self.view_is ∙ sym c.find.ensures.place ∙ c.in-Some.is in
    let first : Outline = c.index-kept.result.now in
    let size : ℕ = c.args.size in
    let asked : is_some first.frozen ≡ false = ap is_some (sym c.frozen.ensures) ∙ sym c.is_some.ensures ∙ c.if-is_some.false in
    let looks : Looks os st cap n size at first = record { kept = kept; place = place; here = c.index-kept.ensures; free = asked } in
    let sh : c.shape-shape.result.now ≡ st.geometry = c.shape-shape.ensures.value ∙ ap (λ (r : Rules). r.geometry) c.pipe.ensures in
    let told : bits_for st.geometry first.task.kind size ≡ c.size_bits.result =
    ap (λ g. bits_for g first.task.kind size) (sym sh) ∙ ap (λ k. bits_for c.shape-shape.result.now k size) (sym (c.kind.ensures ∙ ap (λ (t : Sketch). t.kind) c.task.ensures)) ∙ sym c.size_bits.ensures.bits in
    let bits : ℕ = c.in-Some-size_bits.bits in
    let bits_are : bits_for st.geometry first.task.kind size ≡ Some bits = told ∙ c.in-Some-size_bits.is in
    let o : Outline = c.remove.result in
    let slots : List (Option Row) = c.apart-task.result.2 in
    let same : first ≡ o = same_task n os at first o place c.index-kept.ensures c.remove.ensures.value in
    let rows : there slots ≡ o.rows = c.apart-task.ensures.rows in
    let looks_too : Looks os st cap n size at o = record { kept = kept; place = place; here = c.remove.ensures.value; free = subst (λ (x : Outline). is_some x.frozen ≡ false) same asked } in
    let arrays : arrays_there c.rows.result.now ≡ arrays_there slots = ap (map (λ (r : Row). r.array)) (c.rows.ensures ∙ ap (λ (x : Outline). x.rows) same ∙ sym rows) in
    let sizes : Sizes os st cap n size at o bits slots = record {
      looks = looks_too;
      bits_are = subst (λ (x : Outline). bits_for st.geometry x.task.kind size ≡ Some bits) same bits_are;
      rows = rows;
      room = ap (first_full st.pools bits) (sym arrays) ∙ c.in-Ok.ensures;
    } in
    let one : Resized os st n size at o bits slots = is_resized os st cap n size at o bits slots sizes in
    let sized_is : c.with_size-sized.result ≡ sized o.task size = c.with_size-sized.ensures.size ∙ ap (λ t. sized t size) c.apart-task.ensures.task in
    let asks : Moving c.fresh.new.self c.with_size-sized.result slots c.in-Ok-fresh.leases =
    moving os st n size at o bits slots c.fresh.new.self c.with_size-sized.result c.arrays_in.result c.in-Ok-fresh.leases one sized_is c.arrays_in.ensures c.in-Ok-fresh.ensures.leases c.in-Ok-fresh.ensures.state in
    asks.moves

pub move_all-rows-requires-clause-leave : goal.move_all-rows-requires-clause-leave
move_all-rows-requires-clause-leave g c =
    let v : SwitchState = c.args.self.now in
    let n : List ℕ = c.args.name.now in
    let os : List Outline = c.self.inside.records.items in
    let st : State = c.self.inside.stage in
    let cap : ℕ = vec_capacity c.self.inside.records in
    let kept : IsSwitch os st cap = c.self.invariant in
    let at : ℕ = c.in-Some.at in
    let place : position (is_called n) os ≡ Some at = ap (λ (s : SwitchState). position (is_called n) s.outlines) c.self.view_is ∙ sym c.find.ensures.place ∙ c.in-Some.is in
    let first : Outline = c.index-kept.result.now in
    let size : ℕ = c.args.size in
    let asked : is_some first.frozen ≡ false = ap is_some (sym c.frozen.ensures) ∙ sym c.is_some.ensures ∙ c.if-is_some.false in
    let looks : Looks os st cap n size at first = record { kept = kept; place = place; here = c.index-kept.ensures; free = asked } in
    let sh : c.shape-shape.result.now ≡ st.geometry = c.shape-shape.ensures.value ∙ ap (λ (r : Rules). r.geometry) c.pipe.ensures in
    let told : bits_for st.geometry first.task.kind size ≡ c.size_bits.result =
    ap (λ g. bits_for g first.task.kind size) (sym sh) ∙ ap (λ k. bits_for c.shape-shape.result.now k size) (sym (c.kind.ensures ∙ ap (λ (t : Sketch). t.kind) c.task.ensures)) ∙ sym c.size_bits.ensures.bits in
    let bits : ℕ = c.in-Some-size_bits.bits in
    let bits_are : bits_for st.geometry first.task.kind size ≡ Some bits = told ∙ c.in-Some-size_bits.is in
    let o : Outline = c.remove.result in
    let slots : List (Option Row) = c.apart-task.result.2 in
    let same : first ≡ o = same_task n os at first o place c.index-kept.ensures c.remove.ensures.value in
    let rows : there slots ≡ o.rows = c.apart-task.ensures.rows in
    let looks_too : Looks os st cap n size at o = record { kept = kept; place = place; here = c.remove.ensures.value; free = subst (λ (x : Outline). is_some x.frozen ≡ false) same asked } in
    let arrays : arrays_there c.rows.result.now ≡ arrays_there slots = ap (map (λ (r : Row). r.array)) (c.rows.ensures ∙ ap (λ (x : Outline). x.rows) same ∙ sym rows) in
    let sizes : Sizes os st cap n size at o bits slots = record {
      looks = looks_too;
      bits_are = subst (λ (x : Outline). bits_for st.geometry x.task.kind size ≡ Some bits) same bits_are;
      rows = rows;
      room = ap (first_full st.pools bits) (sym arrays) ∙ c.in-Ok.ensures;
    } in
    let one : Resized os st n size at o bits slots = is_resized os st cap n size at o bits slots sizes in
    let sized_is : c.with_size-sized.result ≡ sized o.task size = c.with_size-sized.ensures.size ∙ ap (λ t. sized t size) c.apart-task.ensures.task in
    let asks : Moving c.fresh.new.self c.with_size-sized.result slots c.in-Ok-fresh.leases =
    moving os st n size at o bits slots c.fresh.new.self c.with_size-sized.result c.arrays_in.result c.in-Ok-fresh.leases one sized_is c.arrays_in.ensures c.in-Ok-fresh.ensures.leases c.in-Ok-fresh.ensures.state in
    asks.leave

pub move_all-rows-requires-clause-entries : goal.move_all-rows-requires-clause-entries
move_all-rows-requires-clause-entries g c =
    let v : SwitchState = c.args.self.now in
    let n : List ℕ = c.args.name.now in
    let os : List Outline = c.self.inside.records.items in
    let st : State = c.self.inside.stage in
    let cap : ℕ = vec_capacity c.self.inside.records in
    let kept : IsSwitch os st cap = c.self.invariant in
    let at : ℕ = c.in-Some.at in
    let place : position (is_called n) os ≡ Some at = ap (λ (s : SwitchState). position (is_called n) s.outlines) c.self.view_is ∙ sym c.find.ensures.place ∙ c.in-Some.is in
    let first : Outline = c.index-kept.result.now in
    let size : ℕ = c.args.size in
    let asked : is_some first.frozen ≡ false = ap is_some (sym c.frozen.ensures) ∙ sym c.is_some.ensures ∙ c.if-is_some.false in
    let looks : Looks os st cap n size at first = record { kept = kept; place = place; here = c.index-kept.ensures; free = asked } in
    let sh : c.shape-shape.result.now ≡ st.geometry = c.shape-shape.ensures.value ∙ ap (λ (r : Rules). r.geometry) c.pipe.ensures in
    let told : bits_for st.geometry first.task.kind size ≡ c.size_bits.result =
    ap (λ g. bits_for g first.task.kind size) (sym sh) ∙ ap (λ k. bits_for c.shape-shape.result.now k size) (sym (c.kind.ensures ∙ ap (λ (t : Sketch). t.kind) c.task.ensures)) ∙ sym c.size_bits.ensures.bits in
    let bits : ℕ = c.in-Some-size_bits.bits in
    let bits_are : bits_for st.geometry first.task.kind size ≡ Some bits = told ∙ c.in-Some-size_bits.is in
    let o : Outline = c.remove.result in
    let slots : List (Option Row) = c.apart-task.result.2 in
    let same : first ≡ o = same_task n os at first o place c.index-kept.ensures c.remove.ensures.value in
    let rows : there slots ≡ o.rows = c.apart-task.ensures.rows in
    let looks_too : Looks os st cap n size at o = record { kept = kept; place = place; here = c.remove.ensures.value; free = subst (λ (x : Outline). is_some x.frozen ≡ false) same asked } in
    let arrays : arrays_there c.rows.result.now ≡ arrays_there slots = ap (map (λ (r : Row). r.array)) (c.rows.ensures ∙ ap (λ (x : Outline). x.rows) same ∙ sym rows) in
    let sizes : Sizes os st cap n size at o bits slots = record {
      looks = looks_too;
      bits_are = subst (λ (x : Outline). bits_for st.geometry x.task.kind size ≡ Some bits) same bits_are;
      rows = rows;
      room = ap (first_full st.pools bits) (sym arrays) ∙ c.in-Ok.ensures;
    } in
    let one : Resized os st n size at o bits slots = is_resized os st cap n size at o bits slots sizes in
    let sized_is : c.with_size-sized.result ≡ sized o.task size = c.with_size-sized.ensures.size ∙ ap (λ t. sized t size) c.apart-task.ensures.task in
    let asks : Moving c.fresh.new.self c.with_size-sized.result slots c.in-Ok-fresh.leases =
    moving os st n size at o bits slots c.fresh.new.self c.with_size-sized.result c.arrays_in.result c.in-Ok-fresh.leases one sized_is c.arrays_in.ensures c.in-Ok-fresh.ensures.leases c.in-Ok-fresh.ensures.state in
    asks.entries

pub invariant_of-self-in-Ok-fresh : goal.invariant_of-self-in-Ok-fresh
invariant_of-self-in-Ok-fresh g c =
    let v : SwitchState = c.args.self.now in
    let n : List ℕ = c.args.name.now in
    let os : List Outline = c.self.inside.records.items in
    let st : State = c.self.inside.stage in
    let cap : ℕ = vec_capacity c.self.inside.records in
    let kept : IsSwitch os st cap = c.self.invariant in
    let at : ℕ = c.in-Some.at in
    let place : position (is_called n) os ≡ Some at = ap (λ (s : SwitchState). position (is_called n) s.outlines) c.self.view_is ∙ sym c.find.ensures.place ∙ c.in-Some.is in
    let first : Outline = c.index-kept.result.now in
    let size : ℕ = c.args.size in
    let asked : is_some first.frozen ≡ false = ap is_some (sym c.frozen.ensures) ∙ sym c.is_some.ensures ∙ c.if-is_some.false in
    let looks : Looks os st cap n size at first = record { kept = kept; place = place; here = c.index-kept.ensures; free = asked } in
    let sh : c.shape-shape.result.now ≡ st.geometry = c.shape-shape.ensures.value ∙ ap (λ (r : Rules). r.geometry) c.pipe.ensures in
    let told : bits_for st.geometry first.task.kind size ≡ c.size_bits.result =
    ap (λ g. bits_for g first.task.kind size) (sym sh) ∙ ap (λ k. bits_for c.shape-shape.result.now k size) (sym (c.kind.ensures ∙ ap (λ (t : Sketch). t.kind) c.task.ensures)) ∙ sym c.size_bits.ensures.bits in
    let bits : ℕ = c.in-Some-size_bits.bits in
    let bits_are : bits_for st.geometry first.task.kind size ≡ Some bits = told ∙ c.in-Some-size_bits.is in
    let o : Outline = c.remove.result in
    let slots : List (Option Row) = c.apart-task.result.2 in
    let same : first ≡ o = same_task n os at first o place c.index-kept.ensures c.remove.ensures.value in
    let rows : there slots ≡ o.rows = c.apart-task.ensures.rows in
    let looks_too : Looks os st cap n size at o = record { kept = kept; place = place; here = c.remove.ensures.value; free = subst (λ (x : Outline). is_some x.frozen ≡ false) same asked } in
    let arrays : arrays_there c.rows.result.now ≡ arrays_there slots = ap (map (λ (r : Row). r.array)) (c.rows.ensures ∙ ap (λ (x : Outline). x.rows) same ∙ sym rows) in
    let sizes : Sizes os st cap n size at o bits slots = record {
      looks = looks_too;
      bits_are = subst (λ (x : Outline). bits_for st.geometry x.task.kind size ≡ Some bits) same bits_are;
      rows = rows;
      room = ap (first_full st.pools bits) (sym arrays) ∙ c.in-Ok.ensures;
    } in
    let one : Resized os st n size at o bits slots = is_resized os st cap n size at o bits slots sizes in
    let sized_is : c.with_size-sized.result ≡ sized o.task size = c.with_size-sized.ensures.size ∙ ap (λ t. sized t size) c.apart-task.ensures.task in
    let new_is : c.new-in-Ok-fresh.result ≡ kept_as c.with_size-sized.result o.task.size (there c.move_all-rows.result) =
    c.new-in-Ok-fresh.ensures ∙ ap (λ m. kept_as c.with_size-sized.result m (there c.move_all-rows.result)) (c.size.ensures ∙ ap (λ (t : Sketch). t.size) c.apart-task.ensures.task) in
    let done = resized_switch os st cap n size at o bits slots c.move_all-rows.result c.with_size-sized.result c.arrays_in.result c.in-Ok-fresh.leases c.fresh.new.self c.move_all-rows.new.self
    c.put_at-in-Ok-fresh.new.records.items (vec_capacity c.put_at-in-Ok-fresh.new.records) kept one sized_is c.arrays_in.ensures c.in-Ok-fresh.ensures.leases c.in-Ok-fresh.ensures.state
    c.move_all-rows.ensures.rows c.move_all-rows.ensures.state
    (c.put_at-in-Ok-fresh.ensures.items ∙ ap₂ (λ xs y. insert xs at y) c.remove.ensures.items new_is) (c.put_at-in-Ok-fresh.ensures.capacity ∙ c.remove.ensures.capacity) in
    done.0

pub invariant_of-self : goal.invariant_of-self
invariant_of-self g c =
    let v : SwitchState = c.args.self.now in
    let n : List ℕ = c.args.name.now in
    let os : List Outline = c.self.inside.records.items in
    let st : State = c.self.inside.stage in
    let cap : ℕ = vec_capacity c.self.inside.records in
    let kept : IsSwitch os st cap = c.self.invariant in
    let at : ℕ = c.in-Some.at in
    let place : position (is_called n) os ≡ Some at = ap (λ (s : SwitchState). position (is_called n) s.outlines) c.self.view_is ∙ sym c.find.ensures.place ∙ c.in-Some.is in
    let first : Outline = c.index-kept.result.now in
    let size : ℕ = c.args.size in
    let asked : is_some first.frozen ≡ false = ap is_some (sym c.frozen.ensures) ∙ sym c.is_some.ensures ∙ c.if-is_some.false in
    let looks : Looks os st cap n size at first = record { kept = kept; place = place; here = c.index-kept.ensures; free = asked } in
    let sh : c.shape-shape.result.now ≡ st.geometry = c.shape-shape.ensures.value ∙ ap (λ (r : Rules). r.geometry) c.pipe.ensures in
    let told : bits_for st.geometry first.task.kind size ≡ c.size_bits.result =
    ap (λ g. bits_for g first.task.kind size) (sym sh) ∙ ap (λ k. bits_for c.shape-shape.result.now k size) (sym (c.kind.ensures ∙ ap (λ (t : Sketch). t.kind) c.task.ensures)) ∙ sym c.size_bits.ensures.bits in
    let bits : ℕ = c.in-Some-size_bits.bits in
    let bits_are : bits_for st.geometry first.task.kind size ≡ Some bits = told ∙ c.in-Some-size_bits.is in
    let o : Outline = c.remove.result in
    let slots : List (Option Row) = c.apart-task.result.2 in
    let same : first ≡ o = same_task n os at first o place c.index-kept.ensures c.remove.ensures.value in
    let rows : there slots ≡ o.rows = c.apart-task.ensures.rows in
    let looks_too : Looks os st cap n size at o = record { kept = kept; place = place; here = c.remove.ensures.value; free = subst (λ (x : Outline). is_some x.frozen ≡ false) same asked } in
    let arrays : arrays_there c.rows.result.now ≡ arrays_there slots = ap (map (λ (r : Row). r.array)) (c.rows.ensures ∙ ap (λ (x : Outline). x.rows) same ∙ sym rows) in
    let sizes : Sizes os st cap n size at o bits slots = record {
      looks = looks_too;
      bits_are = subst (λ (x : Outline). bits_for st.geometry x.task.kind size ≡ Some bits) same bits_are;
      rows = rows;
      room = ap (first_full st.pools bits) (sym arrays) ∙ c.in-Ok.ensures;
    } in
    let one : Resized os st n size at o bits slots = is_resized os st cap n size at o bits slots sizes in
    let y_is : c.new.result ≡ o =
    c.new.ensures ∙ ap (λ t. (let x : Outline = record { task = t; frozen = c.apart-task.result.1; rows = there slots } in x)) c.apart-task.ensures.task
    ∙ ap (λ f. (let x : Outline = record { task = o.task; frozen = f; rows = there slots } in x)) c.apart-task.ensures.frozen
    ∙ ap (λ rs. (let x : Outline = record { task = o.task; frozen = o.frozen; rows = rs } in x)) rows in
    let done = kept_switch os st cap n at o c.new.result c.fresh.new.self c.put_at.new.records.items (vec_capacity c.put_at.new.records) kept place c.remove.ensures.value y_is c.in-Err-fresh.ensures.refused
    (c.put_at.ensures.items ∙ ap (λ xs. insert xs at c.new.result) c.remove.ensures.items) (c.put_at.ensures.capacity ∙ c.remove.ensures.capacity) in
    done.0

pub returns-in-Err-fresh-clause-answer : goal.returns-in-Err-fresh-clause-answer
returns-in-Err-fresh-clause-answer g c =
    let v : SwitchState = c.args.self.now in
    let n : List ℕ = c.args.name.now in
    let os : List Outline = c.self.inside.records.items in
    let st : State = c.self.inside.stage in
    let cap : ℕ = vec_capacity c.self.inside.records in
    let kept : IsSwitch os st cap = c.self.invariant in
    let at : ℕ = c.in-Some.at in
    let place : position (is_called n) os ≡ Some at = ap (λ (s : SwitchState). position (is_called n) s.outlines) c.self.view_is ∙ sym c.find.ensures.place ∙ c.in-Some.is in
    let first : Outline = c.index-kept.result.now in
    let size : ℕ = c.args.size in
    let asked : is_some first.frozen ≡ false = ap is_some (sym c.frozen.ensures) ∙ sym c.is_some.ensures ∙ c.if-is_some.false in
    let looks : Looks os st cap n size at first = record { kept = kept; place = place; here = c.index-kept.ensures; free = asked } in
    let sh : c.shape-shape.result.now ≡ st.geometry = c.shape-shape.ensures.value ∙ ap (λ (r : Rules). r.geometry) c.pipe.ensures in
    let told : bits_for st.geometry first.task.kind size ≡ c.size_bits.result =
    ap (λ g. bits_for g first.task.kind size) (sym sh) ∙ ap (λ k. bits_for c.shape-shape.result.now k size) (sym (c.kind.ensures ∙ ap (λ (t : Sketch). t.kind) c.task.ensures)) ∙ sym c.size_bits.ensures.bits in
    let bits : ℕ = c.in-Some-size_bits.bits in
    let bits_are : bits_for st.geometry first.task.kind size ≡ Some bits = told ∙ c.in-Some-size_bits.is in
    let o : Outline = c.remove.result in
    let slots : List (Option Row) = c.apart-task.result.2 in
    let same : first ≡ o = same_task n os at first o place c.index-kept.ensures c.remove.ensures.value in
    let rows : there slots ≡ o.rows = c.apart-task.ensures.rows in
    let looks_too : Looks os st cap n size at o = record { kept = kept; place = place; here = c.remove.ensures.value; free = subst (λ (x : Outline). is_some x.frozen ≡ false) same asked } in
    let arrays : arrays_there c.rows.result.now ≡ arrays_there slots = ap (map (λ (r : Row). r.array)) (c.rows.ensures ∙ ap (λ (x : Outline). x.rows) same ∙ sym rows) in
    let sizes : Sizes os st cap n size at o bits slots = record {
      looks = looks_too;
      bits_are = subst (λ (x : Outline). bits_for st.geometry x.task.kind size ≡ Some bits) same bits_are;
      rows = rows;
      room = ap (first_full st.pools bits) (sym arrays) ∙ c.in-Ok.ensures;
    } in
    let one : Resized os st n size at o bits slots = is_resized os st cap n size at o bits slots sizes in
    let y_is : c.new.result ≡ o =
    c.new.ensures ∙ ap (λ t. (let x : Outline = record { task = t; frozen = c.apart-task.result.1; rows = there slots } in x)) c.apart-task.ensures.task
    ∙ ap (λ f. (let x : Outline = record { task = o.task; frozen = f; rows = there slots } in x)) c.apart-task.ensures.frozen
    ∙ ap (λ rs. (let x : Outline = record { task = o.task; frozen = o.frozen; rows = rs } in x)) rows in
    let done = kept_switch os st cap n at o c.new.result c.fresh.new.self c.put_at.new.records.items (vec_capacity c.put_at.new.records) kept place c.remove.ensures.value y_is c.in-Err-fresh.ensures.refused
    (c.put_at.ensures.items ∙ ap (λ xs. insert xs at c.new.result) c.remove.ensures.items) (c.put_at.ensures.capacity ∙ c.remove.ensures.capacity) in
    let shown : judged v.geometry v.outlines (Resize n size) ≡ judged st.geometry os (Resize n size) = ap (λ (s : SwitchState). judged s.geometry s.outlines (Resize n size)) (sym c.self.view_is) in
    let told_is : judged v.geometry v.outlines (Resize n size) ≡ Ok (Move at (sized o.task size) one.news) = shown ∙ one.judged_is in
    let now : State → List Outline → SwitchState = λ s ys. record { geometry = s.geometry; hash_key = s.hash_key; outlines = ys } in
    subst (λ r. Answers {T = Unit {0}} resize_cause r (Err resizing.Device) v (now c.fresh.new.self c.put_at.new.records.items)) (sym told_is)
    (refl, ap₂ now c.in-Err-fresh.ensures.refused done.1 ∙ c.self.view_is)

pub returns-in-Err-fresh-clause-contents : goal.returns-in-Err-fresh-clause-contents
returns-in-Err-fresh-clause-contents g c =
    let v : SwitchState = c.args.self.now in
    let n : List ℕ = c.args.name.now in
    let os : List Outline = c.self.inside.records.items in
    let st : State = c.self.inside.stage in
    let cap : ℕ = vec_capacity c.self.inside.records in
    let kept : IsSwitch os st cap = c.self.invariant in
    let at : ℕ = c.in-Some.at in
    let place : position (is_called n) os ≡ Some at = ap (λ (s : SwitchState). position (is_called n) s.outlines) c.self.view_is ∙ sym c.find.ensures.place ∙ c.in-Some.is in
    let first : Outline = c.index-kept.result.now in
    let size : ℕ = c.args.size in
    let asked : is_some first.frozen ≡ false = ap is_some (sym c.frozen.ensures) ∙ sym c.is_some.ensures ∙ c.if-is_some.false in
    let looks : Looks os st cap n size at first = record { kept = kept; place = place; here = c.index-kept.ensures; free = asked } in
    let sh : c.shape-shape.result.now ≡ st.geometry = c.shape-shape.ensures.value ∙ ap (λ (r : Rules). r.geometry) c.pipe.ensures in
    let told : bits_for st.geometry first.task.kind size ≡ c.size_bits.result =
    ap (λ g. bits_for g first.task.kind size) (sym sh) ∙ ap (λ k. bits_for c.shape-shape.result.now k size) (sym (c.kind.ensures ∙ ap (λ (t : Sketch). t.kind) c.task.ensures)) ∙ sym c.size_bits.ensures.bits in
    let bits : ℕ = c.in-Some-size_bits.bits in
    let bits_are : bits_for st.geometry first.task.kind size ≡ Some bits = told ∙ c.in-Some-size_bits.is in
    let o : Outline = c.remove.result in
    let slots : List (Option Row) = c.apart-task.result.2 in
    let same : first ≡ o = same_task n os at first o place c.index-kept.ensures c.remove.ensures.value in
    let rows : there slots ≡ o.rows = c.apart-task.ensures.rows in
    let looks_too : Looks os st cap n size at o = record { kept = kept; place = place; here = c.remove.ensures.value; free = subst (λ (x : Outline). is_some x.frozen ≡ false) same asked } in
    let arrays : arrays_there c.rows.result.now ≡ arrays_there slots = ap (map (λ (r : Row). r.array)) (c.rows.ensures ∙ ap (λ (x : Outline). x.rows) same ∙ sym rows) in
    let sizes : Sizes os st cap n size at o bits slots = record {
      looks = looks_too;
      bits_are = subst (λ (x : Outline). bits_for st.geometry x.task.kind size ≡ Some bits) same bits_are;
      rows = rows;
      room = ap (first_full st.pools bits) (sym arrays) ∙ c.in-Ok.ensures;
    } in
    let one : Resized os st n size at o bits slots = is_resized os st cap n size at o bits slots sizes in
    let shown : judged v.geometry v.outlines (Resize n size) ≡ judged st.geometry os (Resize n size) = ap (λ (s : SwitchState). judged s.geometry s.outlines (Resize n size)) (sym c.self.view_is) in
    let told_is : judged v.geometry v.outlines (Resize n size) ≡ Ok (Move at (sized o.task size) one.news) = shown ∙ one.judged_is in
    let fresh_is : held_of (fresh_leases bits st.pools c.arrays_in.result) ≡ map live_holding one.news = ap (λ xs. held_of (fresh_leases bits st.pools xs)) c.arrays_in.ensures ∙ one.all.fresh in
    told_refused (Unit {0}) (fresh_leases bits st.pools c.arrays_in.result) (Move at (sized o.task size) one.news) (judged v.geometry v.outlines (Resize n size)) c.start_value-start.result c.fresh.result resizing.Device
    (g.R.RegFile.contents c.args.regs.now) (g.R.RegFile.contents c.fresh.new.regs) told_is fresh_is c.fresh.ensures.contents

pub returns-in-Ok-fresh-clause-answer : goal.returns-in-Ok-fresh-clause-answer
returns-in-Ok-fresh-clause-answer g c =
    let v : SwitchState = c.args.self.now in
    let n : List ℕ = c.args.name.now in
    let os : List Outline = c.self.inside.records.items in
    let st : State = c.self.inside.stage in
    let cap : ℕ = vec_capacity c.self.inside.records in
    let kept : IsSwitch os st cap = c.self.invariant in
    let at : ℕ = c.in-Some.at in
    let place : position (is_called n) os ≡ Some at = ap (λ (s : SwitchState). position (is_called n) s.outlines) c.self.view_is ∙ sym c.find.ensures.place ∙ c.in-Some.is in
    let first : Outline = c.index-kept.result.now in
    let size : ℕ = c.args.size in
    let asked : is_some first.frozen ≡ false = ap is_some (sym c.frozen.ensures) ∙ sym c.is_some.ensures ∙ c.if-is_some.false in
    let looks : Looks os st cap n size at first = record { kept = kept; place = place; here = c.index-kept.ensures; free = asked } in
    let sh : c.shape-shape.result.now ≡ st.geometry = c.shape-shape.ensures.value ∙ ap (λ (r : Rules). r.geometry) c.pipe.ensures in
    let told : bits_for st.geometry first.task.kind size ≡ c.size_bits.result =
    ap (λ g. bits_for g first.task.kind size) (sym sh) ∙ ap (λ k. bits_for c.shape-shape.result.now k size) (sym (c.kind.ensures ∙ ap (λ (t : Sketch). t.kind) c.task.ensures)) ∙ sym c.size_bits.ensures.bits in
    let bits : ℕ = c.in-Some-size_bits.bits in
    let bits_are : bits_for st.geometry first.task.kind size ≡ Some bits = told ∙ c.in-Some-size_bits.is in
    let o : Outline = c.remove.result in
    let slots : List (Option Row) = c.apart-task.result.2 in
    let same : first ≡ o = same_task n os at first o place c.index-kept.ensures c.remove.ensures.value in
    let rows : there slots ≡ o.rows = c.apart-task.ensures.rows in
    let looks_too : Looks os st cap n size at o = record { kept = kept; place = place; here = c.remove.ensures.value; free = subst (λ (x : Outline). is_some x.frozen ≡ false) same asked } in
    let arrays : arrays_there c.rows.result.now ≡ arrays_there slots = ap (map (λ (r : Row). r.array)) (c.rows.ensures ∙ ap (λ (x : Outline). x.rows) same ∙ sym rows) in
    let sizes : Sizes os st cap n size at o bits slots = record {
      looks = looks_too;
      bits_are = subst (λ (x : Outline). bits_for st.geometry x.task.kind size ≡ Some bits) same bits_are;
      rows = rows;
      room = ap (first_full st.pools bits) (sym arrays) ∙ c.in-Ok.ensures;
    } in
    let one : Resized os st n size at o bits slots = is_resized os st cap n size at o bits slots sizes in
    let sized_is : c.with_size-sized.result ≡ sized o.task size = c.with_size-sized.ensures.size ∙ ap (λ t. sized t size) c.apart-task.ensures.task in
    let new_is : c.new-in-Ok-fresh.result ≡ kept_as c.with_size-sized.result o.task.size (there c.move_all-rows.result) =
    c.new-in-Ok-fresh.ensures ∙ ap (λ m. kept_as c.with_size-sized.result m (there c.move_all-rows.result)) (c.size.ensures ∙ ap (λ (t : Sketch). t.size) c.apart-task.ensures.task) in
    let done = resized_switch os st cap n size at o bits slots c.move_all-rows.result c.with_size-sized.result c.arrays_in.result c.in-Ok-fresh.leases c.fresh.new.self c.move_all-rows.new.self
    c.put_at-in-Ok-fresh.new.records.items (vec_capacity c.put_at-in-Ok-fresh.new.records) kept one sized_is c.arrays_in.ensures c.in-Ok-fresh.ensures.leases c.in-Ok-fresh.ensures.state
    c.move_all-rows.ensures.rows c.move_all-rows.ensures.state
    (c.put_at-in-Ok-fresh.ensures.items ∙ ap₂ (λ xs y. insert xs at y) c.remove.ensures.items new_is) (c.put_at-in-Ok-fresh.ensures.capacity ∙ c.remove.ensures.capacity) in
    let shown : judged v.geometry v.outlines (Resize n size) ≡ judged st.geometry os (Resize n size) = ap (λ (s : SwitchState). judged s.geometry s.outlines (Resize n size)) (sym c.self.view_is) in
    let told_is : judged v.geometry v.outlines (Resize n size) ≡ Ok (Move at (sized o.task size) one.news) = shown ∙ one.judged_is in
    let now : State → List Outline → SwitchState = λ s ys. record { geometry = s.geometry; hash_key = s.hash_key; outlines = ys } in
    let state_is : now c.move_all-rows.new.self c.put_at-in-Ok-fresh.new.records.items ≡ now st (edit_at at (moved_outline (sized o.task size) one.news) os) =
    ap (λ s. now s c.put_at-in-Ok-fresh.new.records.items) c.move_all-rows.ensures.state
    ∙ ap (λ s. now s c.put_at-in-Ok-fresh.new.records.items) c.in-Ok-fresh.ensures.state ∙ ap (now st) done.1 in
    subst (λ r. Answers {T = Unit {0}} resize_cause r (Ok tt) v (now c.move_all-rows.new.self c.put_at-in-Ok-fresh.new.records.items)) (sym told_is)
    (state_is ∙ ap (λ (s : SwitchState). record s { outlines = edit_at at (moved_outline (sized o.task size) one.news) s.outlines }) c.self.view_is)

pub returns-in-Ok-fresh-clause-contents : goal.returns-in-Ok-fresh-clause-contents
returns-in-Ok-fresh-clause-contents g c =
    let v : SwitchState = c.args.self.now in
    let n : List ℕ = c.args.name.now in
    let os : List Outline = c.self.inside.records.items in
    let st : State = c.self.inside.stage in
    let cap : ℕ = vec_capacity c.self.inside.records in
    let kept : IsSwitch os st cap = c.self.invariant in
    let at : ℕ = c.in-Some.at in
    let place : position (is_called n) os ≡ Some at = ap (λ (s : SwitchState). position (is_called n) s.outlines) c.self.view_is ∙ sym c.find.ensures.place ∙ c.in-Some.is in
    let first : Outline = c.index-kept.result.now in
    let size : ℕ = c.args.size in
    let asked : is_some first.frozen ≡ false = ap is_some (sym c.frozen.ensures) ∙ sym c.is_some.ensures ∙ c.if-is_some.false in
    let looks : Looks os st cap n size at first = record { kept = kept; place = place; here = c.index-kept.ensures; free = asked } in
    let sh : c.shape-shape.result.now ≡ st.geometry = c.shape-shape.ensures.value ∙ ap (λ (r : Rules). r.geometry) c.pipe.ensures in
    let told : bits_for st.geometry first.task.kind size ≡ c.size_bits.result =
    ap (λ g. bits_for g first.task.kind size) (sym sh) ∙ ap (λ k. bits_for c.shape-shape.result.now k size) (sym (c.kind.ensures ∙ ap (λ (t : Sketch). t.kind) c.task.ensures)) ∙ sym c.size_bits.ensures.bits in
    let bits : ℕ = c.in-Some-size_bits.bits in
    let bits_are : bits_for st.geometry first.task.kind size ≡ Some bits = told ∙ c.in-Some-size_bits.is in
    let o : Outline = c.remove.result in
    let slots : List (Option Row) = c.apart-task.result.2 in
    let same : first ≡ o = same_task n os at first o place c.index-kept.ensures c.remove.ensures.value in
    let rows : there slots ≡ o.rows = c.apart-task.ensures.rows in
    let looks_too : Looks os st cap n size at o = record { kept = kept; place = place; here = c.remove.ensures.value; free = subst (λ (x : Outline). is_some x.frozen ≡ false) same asked } in
    let arrays : arrays_there c.rows.result.now ≡ arrays_there slots = ap (map (λ (r : Row). r.array)) (c.rows.ensures ∙ ap (λ (x : Outline). x.rows) same ∙ sym rows) in
    let sizes : Sizes os st cap n size at o bits slots = record {
      looks = looks_too;
      bits_are = subst (λ (x : Outline). bits_for st.geometry x.task.kind size ≡ Some bits) same bits_are;
      rows = rows;
      room = ap (first_full st.pools bits) (sym arrays) ∙ c.in-Ok.ensures;
    } in
    let one : Resized os st n size at o bits slots = is_resized os st cap n size at o bits slots sizes in
    let shown : judged v.geometry v.outlines (Resize n size) ≡ judged st.geometry os (Resize n size) = ap (λ (s : SwitchState). judged s.geometry s.outlines (Resize n size)) (sym c.self.view_is) in
    let told_is : judged v.geometry v.outlines (Resize n size) ≡ Ok (Move at (sized o.task size) one.news) = shown ∙ one.judged_is in
    let fresh_is : held_of (fresh_leases bits st.pools c.arrays_in.result) ≡ map live_holding one.news = ap (λ xs. held_of (fresh_leases bits st.pools xs)) c.arrays_in.ensures ∙ one.all.fresh in
    told_made ResizeFault (fresh_leases bits st.pools c.arrays_in.result) (Move at (sized o.task size) one.news) (judged v.geometry v.outlines (Resize n size)) c.start_value-start.result c.fresh.result c.in-Ok-fresh.leases tt
    (g.R.RegFile.contents c.args.regs.now) (g.R.RegFile.contents c.fresh.new.regs) told_is fresh_is (c.start_value-start.ensures ∙ ap start_of (c.kind-2.ensures ∙ ap (λ (t : Sketch). t.kind) c.apart-task.ensures.task)) c.in-Ok-fresh.is c.fresh.ensures.contents
