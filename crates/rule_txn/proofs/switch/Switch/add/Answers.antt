-- A task that is added, or is refused and leaves all as it was.
use Rattle.std.proofs.Common.{◌≡◌, ℕ, ◌<◌, true, false, List, [], ◌∷◌, ◌++◌, length, map, position, refl, ap, sym, ◌∙◌, subst, arith}
use Rattle.std.specs.Prelude.{Option, None, Some, IfSome, is_some, Ok, Err, vec_capacity}
use Rattle.pipe_core.specs.Rules.{Rules, IsShaped}
use Rattle.placer.specs.declared.places.Place.{Place}
use Rattle.placer.specs.declared.places as refusals
use Rattle.placer.specs.declared.places.Refusal.TheVariants as places
use Rattle.placer.specs.Sights.{bits_for}
use Rattle.placer.specs.Placement.{placed, sight_in}
use Rattle.sketch_defs.specs.Tasks.{Sketch, first_fault}
use Rattle.switch_model.specs.Records.{Outline}
use Rattle.switch_model.specs.Changes.{Push, Add, BadMemory, Misplaced, is_called, judged, new_outline}
use Rattle.rule_txn.specs.declared.faults.AddFault.{AddFault}
use Rattle.rule_txn.specs.declared.faults.AddFault.TheVariants as faults
use Rattle.rule_txn.specs.State.{State, there}
use Rattle.rule_txn.specs.Rows.{fresh_leases, CanTake}
use Rattle.rule_txn.specs.Stages as stages
use Rattle.rule_txn.specs.Switch.{SwitchState, IsSwitch}
use Rattle.rule_txn.specs.Changes.{Answers, add_cause}
use Rattle.rule_txn.specs.Fills.{AreInFile}
use Rattle.sketch_lower.specs.Operations.{start_of}
use Rattle.rule_txn.proofs.Pools.{held_of}
use Rattle.rule_txn.proofs.Giving.{are_pools}
use Rattle.rule_txn.proofs.Refilled.{told_made, told_refused}
use Rattle.rule_txn.proofs.Added.{judged_exists, judged_size, judged_plan, Plans, Added, new_rows, is_added, Settling, settling, added_switch}
use Rattle.rule_txn.proofs.switch.Switch.add.Goals as goal

pub returns-then-is_some-clause-answer : goal.returns-then-is_some-clause-answer
returns-then-is_some-clause-answer g c =
    let v : SwitchState = c.args.self.now in
    let t : Sketch = c.args.task.now in
    let known : is_some (position (is_called t.name) v.outlines) ≡ true =
    ap (λ name. is_some (position (is_called name) v.outlines)) (sym c.name.ensures) ∙ ap is_some (sym c.find.ensures.place) ∙ sym c.is_some.ensures ∙ c.if-is_some.true in
    subst (λ r. Answers {T = Unit {0}} add_cause r (Err faults.Exists) v v) (sym (judged_exists v.geometry v.outlines t known)) (refl, refl)

pub returns-in_default-clause-answer : goal.returns-in_default-clause-answer
returns-in_default-clause-answer g c =
    let v : SwitchState = c.args.self.now in
    let t : Sketch = c.args.task.now in
    let known : is_some (position (is_called t.name) v.outlines) ≡ false =
    ap (λ name. is_some (position (is_called name) v.outlines)) (sym c.name.ensures) ∙ ap is_some (sym c.find.ensures.place) ∙ sym c.is_some.ensures ∙ c.if-is_some.false in
    let os : List Outline = c.self.inside.records.items in
    let st : State = c.self.inside.stage in
    let kept : IsSwitch os st (vec_capacity c.self.inside.records) = c.self.invariant in
    let sh : c.shape-shape.result.now ≡ st.geometry = c.shape-shape.ensures.value ∙ ap (λ (r : Rules). r.geometry) c.pipe.ensures in
    let asked : bits_for st.geometry t.kind t.size ≡ c.size_bits.result =
    ap (λ g. bits_for g t.kind t.size) (sym sh) ∙ ap (λ k. bits_for c.shape-shape.result.now k t.size) (sym c.kind.ensures)
    ∙ ap (bits_for c.shape-shape.result.now c.kind.result) (sym c.size.ensures) ∙ sym c.size_bits.ensures.bits in
    let new : is_some (position (is_called t.name) os) ≡ false = ap (λ (s : SwitchState). is_some (position (is_called t.name) s.outlines)) c.self.view_is ∙ known in
    let none : bits_for st.geometry t.kind t.size ≡ None = asked ∙ c.in_default.is in
    let e : judged v.geometry v.outlines (Add t) ≡ Err (BadMemory t.size) =
    ap (λ (s : SwitchState). judged s.geometry s.outlines (Add t)) (sym c.self.view_is) ∙ judged_size st.geometry os t new none in
    subst (λ r. Answers {T = Unit {0}} add_cause r (Err (faults.BadMemory c.size-in_default.result)) v v) (sym e) (ap (λ n. Some (BadMemory n)) c.size-in_default.ensures, refl)

pub plan-requires-clause-pools : goal.plan-requires-clause-pools
plan-requires-clause-pools g c =
    let kept : IsSwitch c.self.inside.records.items c.self.inside.stage (vec_capacity c.self.inside.records) = c.self.invariant in
    are_pools c.self.inside.stage.geometry _ c.self.inside.stage.pools kept.stands.pools

pub returns-in-Err-NoUnit-clause-answer : goal.returns-in-Err-NoUnit-clause-answer
returns-in-Err-NoUnit-clause-answer g c =
    let v : SwitchState = c.args.self.now in
    let t : Sketch = c.args.task.now in
    let known : is_some (position (is_called t.name) v.outlines) ≡ false =
    ap (λ name. is_some (position (is_called name) v.outlines)) (sym c.name.ensures) ∙ ap is_some (sym c.find.ensures.place) ∙ sym c.is_some.ensures ∙ c.if-is_some.false in
    let os : List Outline = c.self.inside.records.items in
    let st : State = c.self.inside.stage in
    let kept : IsSwitch os st (vec_capacity c.self.inside.records) = c.self.invariant in
    let sh : c.shape-shape.result.now ≡ st.geometry = c.shape-shape.ensures.value ∙ ap (λ (r : Rules). r.geometry) c.pipe.ensures in
    let asked : bits_for st.geometry t.kind t.size ≡ c.size_bits.result =
    ap (λ g. bits_for g t.kind t.size) (sym sh) ∙ ap (λ k. bits_for c.shape-shape.result.now k t.size) (sym c.kind.ensures)
    ∙ ap (bits_for c.shape-shape.result.now c.kind.result) (sym c.size.ensures) ∙ sym c.size_bits.ensures.bits in
    let new : is_some (position (is_called t.name) os) ≡ false = ap (λ (s : SwitchState). is_some (position (is_called t.name) s.outlines)) c.self.view_is ∙ known in
    let bits : ℕ = c.in-Some.bits in
    let size : bits_for st.geometry t.kind t.size ≡ Some bits = asked ∙ c.in-Some.is in
    let why : refusals.Refusal.Refusal = c.in-Err-NoUnit.field-0 in
    let same : why ≡ places.NoUnit c.in-Err-NoUnit.need c.in-Err-NoUnit.have = cc in
    let plan : Err why ≡ placed st.geometry (sight_in st.tables st.groups st.pools) t bits =
    subst (λ (o : Option ℕ). IfSome o (λ b. Err why ≡ placed st.geometry (sight_in st.tables st.groups st.pools) t b)) size c.in-Err-NoUnit.ensures in
    let e : judged v.geometry v.outlines (Add t) ≡ Err (Misplaced (places.NoUnit c.in-Err-NoUnit.need c.in-Err-NoUnit.have)) =
    ap (λ (s : SwitchState). judged s.geometry s.outlines (Add t)) (sym c.self.view_is) ∙ judged_plan os st t bits (Err why) kept.stands new size plan ∙ ap (λ w. Err (Misplaced w)) same in
    subst (λ r. Answers {T = Unit {0}} add_cause r (Err (faults.NoUnit c.in-Err-NoUnit.need c.in-Err-NoUnit.have)) v v) (sym e) (refl, refl)

pub returns-in-Err-NoPartition-clause-answer : goal.returns-in-Err-NoPartition-clause-answer
returns-in-Err-NoPartition-clause-answer g c =
    let v : SwitchState = c.args.self.now in
    let t : Sketch = c.args.task.now in
    let known : is_some (position (is_called t.name) v.outlines) ≡ false =
    ap (λ name. is_some (position (is_called name) v.outlines)) (sym c.name.ensures) ∙ ap is_some (sym c.find.ensures.place) ∙ sym c.is_some.ensures ∙ c.if-is_some.false in
    let os : List Outline = c.self.inside.records.items in
    let st : State = c.self.inside.stage in
    let kept : IsSwitch os st (vec_capacity c.self.inside.records) = c.self.invariant in
    let sh : c.shape-shape.result.now ≡ st.geometry = c.shape-shape.ensures.value ∙ ap (λ (r : Rules). r.geometry) c.pipe.ensures in
    let asked : bits_for st.geometry t.kind t.size ≡ c.size_bits.result =
    ap (λ g. bits_for g t.kind t.size) (sym sh) ∙ ap (λ k. bits_for c.shape-shape.result.now k t.size) (sym c.kind.ensures)
    ∙ ap (bits_for c.shape-shape.result.now c.kind.result) (sym c.size.ensures) ∙ sym c.size_bits.ensures.bits in
    let new : is_some (position (is_called t.name) os) ≡ false = ap (λ (s : SwitchState). is_some (position (is_called t.name) s.outlines)) c.self.view_is ∙ known in
    let bits : ℕ = c.in-Some.bits in
    let size : bits_for st.geometry t.kind t.size ≡ Some bits = asked ∙ c.in-Some.is in
    let why : refusals.Refusal.Refusal = c.in-Err-NoPartition.field-0 in
    let same : why ≡ places.NoPartition c.in-Err-NoPartition.need c.in-Err-NoPartition.have = cc in
    let plan : Err why ≡ placed st.geometry (sight_in st.tables st.groups st.pools) t bits =
    subst (λ (o : Option ℕ). IfSome o (λ b. Err why ≡ placed st.geometry (sight_in st.tables st.groups st.pools) t b)) size c.in-Err-NoPartition.ensures in
    let e : judged v.geometry v.outlines (Add t) ≡ Err (Misplaced (places.NoPartition c.in-Err-NoPartition.need c.in-Err-NoPartition.have)) =
    ap (λ (s : SwitchState). judged s.geometry s.outlines (Add t)) (sym c.self.view_is) ∙ judged_plan os st t bits (Err why) kept.stands new size plan ∙ ap (λ w. Err (Misplaced w)) same in
    subst (λ r. Answers {T = Unit {0}} add_cause r (Err (faults.NoPartition c.in-Err-NoPartition.need c.in-Err-NoPartition.have)) v v) (sym e) (refl, refl)

pub served_all-served-requires : goal.served_all-served-requires
served_all-served-requires g c =
    let v : SwitchState = c.args.self.now in
    let t : Sketch = c.args.task.now in
    let known : is_some (position (is_called t.name) v.outlines) ≡ false =
    ap (λ name. is_some (position (is_called name) v.outlines)) (sym c.name.ensures) ∙ ap is_some (sym c.find.ensures.place) ∙ sym c.is_some.ensures ∙ c.if-is_some.false in
    let os : List Outline = c.self.inside.records.items in
    let st : State = c.self.inside.stage in
    let kept : IsSwitch os st (vec_capacity c.self.inside.records) = c.self.invariant in
    let sh : c.shape-shape.result.now ≡ st.geometry = c.shape-shape.ensures.value ∙ ap (λ (r : Rules). r.geometry) c.pipe.ensures in
    let asked : bits_for st.geometry t.kind t.size ≡ c.size_bits.result =
    ap (λ g. bits_for g t.kind t.size) (sym sh) ∙ ap (λ k. bits_for c.shape-shape.result.now k t.size) (sym c.kind.ensures)
    ∙ ap (bits_for c.shape-shape.result.now c.kind.result) (sym c.size.ensures) ∙ sym c.size_bits.ensures.bits in
    let new : is_some (position (is_called t.name) os) ≡ false = ap (λ (s : SwitchState). is_some (position (is_called t.name) s.outlines)) c.self.view_is ∙ known in
    let bits : ℕ = c.in-Some.bits in
    let size : bits_for st.geometry t.kind t.size ≡ Some bits = asked ∙ c.in-Some.is in
    let slots : List (Option Place) = c.in-Ok.places in
    let plans : Plans os st (vec_capacity c.self.inside.records) t bits slots = record {
      kept = kept;
      allowed = subst (λ s. first_fault s ≡ None) c.copy_of-copy.ensures.same c.copy_of-copy.ensures.allowed;
      new = new;
      size = size;
      plan = subst (λ (o : Option ℕ). IfSome o (λ b. Ok (there slots) ≡ placed st.geometry (sight_in st.tables st.groups st.pools) t b)) size c.in-Ok.ensures;
    } in
    let one : Added os st (vec_capacity c.self.inside.records) t bits slots = is_added os st (vec_capacity c.self.inside.records) t bits slots plans in
    one.all.places

pub fresh-requires-clause-can : goal.fresh-requires-clause-can
fresh-requires-clause-can g c =
    let v : SwitchState = c.args.self.now in
    let t : Sketch = c.args.task.now in
    let known : is_some (position (is_called t.name) v.outlines) ≡ false =
    ap (λ name. is_some (position (is_called name) v.outlines)) (sym c.name.ensures) ∙ ap is_some (sym c.find.ensures.place) ∙ sym c.is_some.ensures ∙ c.if-is_some.false in
    let os : List Outline = c.self.inside.records.items in
    let st : State = c.self.inside.stage in
    let kept : IsSwitch os st (vec_capacity c.self.inside.records) = c.self.invariant in
    let sh : c.shape-shape.result.now ≡ st.geometry = c.shape-shape.ensures.value ∙ ap (λ (r : Rules). r.geometry) c.pipe.ensures in
    let asked : bits_for st.geometry t.kind t.size ≡ c.size_bits.result =
    ap (λ g. bits_for g t.kind t.size) (sym sh) ∙ ap (λ k. bits_for c.shape-shape.result.now k t.size) (sym c.kind.ensures)
    ∙ ap (bits_for c.shape-shape.result.now c.kind.result) (sym c.size.ensures) ∙ sym c.size_bits.ensures.bits in
    let new : is_some (position (is_called t.name) os) ≡ false = ap (λ (s : SwitchState). is_some (position (is_called t.name) s.outlines)) c.self.view_is ∙ known in
    let bits : ℕ = c.in-Some.bits in
    let size : bits_for st.geometry t.kind t.size ≡ Some bits = asked ∙ c.in-Some.is in
    let slots : List (Option Place) = c.in-Ok.places in
    let plans : Plans os st (vec_capacity c.self.inside.records) t bits slots = record {
      kept = kept;
      allowed = subst (λ s. first_fault s ≡ None) c.copy_of-copy.ensures.same c.copy_of-copy.ensures.allowed;
      new = new;
      size = size;
      plan = subst (λ (o : Option ℕ). IfSome o (λ b. Ok (there slots) ≡ placed st.geometry (sight_in st.tables st.groups st.pools) t b)) size c.in-Ok.ensures;
    } in
    let one : Added os st (vec_capacity c.self.inside.records) t bits slots = is_added os st (vec_capacity c.self.inside.records) t bits slots plans in
    subst (CanTake bits st.pools) (sym c.arrays_of.ensures) one.all.can

pub fresh-requires-clause-file : goal.fresh-requires-clause-file
fresh-requires-clause-file g c =
    let v : SwitchState = c.args.self.now in
    let t : Sketch = c.args.task.now in
    let known : is_some (position (is_called t.name) v.outlines) ≡ false =
    ap (λ name. is_some (position (is_called name) v.outlines)) (sym c.name.ensures) ∙ ap is_some (sym c.find.ensures.place) ∙ sym c.is_some.ensures ∙ c.if-is_some.false in
    let os : List Outline = c.self.inside.records.items in
    let st : State = c.self.inside.stage in
    let kept : IsSwitch os st (vec_capacity c.self.inside.records) = c.self.invariant in
    let sh : c.shape-shape.result.now ≡ st.geometry = c.shape-shape.ensures.value ∙ ap (λ (r : Rules). r.geometry) c.pipe.ensures in
    let asked : bits_for st.geometry t.kind t.size ≡ c.size_bits.result =
    ap (λ g. bits_for g t.kind t.size) (sym sh) ∙ ap (λ k. bits_for c.shape-shape.result.now k t.size) (sym c.kind.ensures)
    ∙ ap (bits_for c.shape-shape.result.now c.kind.result) (sym c.size.ensures) ∙ sym c.size_bits.ensures.bits in
    let new : is_some (position (is_called t.name) os) ≡ false = ap (λ (s : SwitchState). is_some (position (is_called t.name) s.outlines)) c.self.view_is ∙ known in
    let bits : ℕ = c.in-Some.bits in
    let size : bits_for st.geometry t.kind t.size ≡ Some bits = asked ∙ c.in-Some.is in
    let slots : List (Option Place) = c.in-Ok.places in
    let plans : Plans os st (vec_capacity c.self.inside.records) t bits slots = record {
      kept = kept;
      allowed = subst (λ s. first_fault s ≡ None) c.copy_of-copy.ensures.same c.copy_of-copy.ensures.allowed;
      new = new;
      size = size;
      plan = subst (λ (o : Option ℕ). IfSome o (λ b. Ok (there slots) ≡ placed st.geometry (sight_in st.tables st.groups st.pools) t b)) size c.in-Ok.ensures;
    } in
    let one : Added os st (vec_capacity c.self.inside.records) t bits slots = is_added os st (vec_capacity c.self.inside.records) t bits slots plans in
    subst (λ xs. AreInFile (g.R.RegFile.dims c.args.regs.now) (fresh_leases bits st.pools xs)) (sym c.arrays_of.ensures)
    (one.all.file (g.R.RegFile.dims c.args.regs.now) (subst (λ (s : SwitchState). IsShaped s.geometry (g.R.RegFile.dims c.args.regs.now)) (sym c.self.view_is) c.requires))

pub settle_all-rows-requires-clause-served : goal.settle_all-rows-requires-clause-served
settle_all-rows-requires-clause-served g c =
    let v : SwitchState = c.args.self.now in
    let t : Sketch = c.args.task.now in
    let known : is_some (position (is_called t.name) v.outlines) ≡ false =
    ap (λ name. is_some (position (is_called name) v.outlines)) (sym c.name.ensures) ∙ ap is_some (sym c.find.ensures.place) ∙ sym c.is_some.ensures ∙ c.if-is_some.false in
    let os : List Outline = c.self.inside.records.items in
    let st : State = c.self.inside.stage in
    let kept : IsSwitch os st (vec_capacity c.self.inside.records) = c.self.invariant in
    let sh : c.shape-shape.result.now ≡ st.geometry = c.shape-shape.ensures.value ∙ ap (λ (r : Rules). r.geometry) c.pipe.ensures in
    let asked : bits_for st.geometry t.kind t.size ≡ c.size_bits.result =
    ap (λ g. bits_for g t.kind t.size) (sym sh) ∙ ap (λ k. bits_for c.shape-shape.result.now k t.size) (sym c.kind.ensures)
    ∙ ap (bits_for c.shape-shape.result.now c.kind.result) (sym c.size.ensures) ∙ sym c.size_bits.ensures.bits in
    let new : is_some (position (is_called t.name) os) ≡ false = ap (λ (s : SwitchState). is_some (position (is_called t.name) s.outlines)) c.self.view_is ∙ known in
    let bits : ℕ = c.in-Some.bits in
    let size : bits_for st.geometry t.kind t.size ≡ Some bits = asked ∙ c.in-Some.is in
    let slots : List (Option Place) = c.in-Ok.places in
    let plans : Plans os st (vec_capacity c.self.inside.records) t bits slots = record {
      kept = kept;
      allowed = subst (λ s. first_fault s ≡ None) c.copy_of-copy.ensures.same c.copy_of-copy.ensures.allowed;
      new = new;
      size = size;
      plan = subst (λ (o : Option ℕ). IfSome o (λ b. Ok (there slots) ≡ placed st.geometry (sight_in st.tables st.groups st.pools) t b)) size c.in-Ok.ensures;
    } in
    let one : Added os st (vec_capacity c.self.inside.records) t bits slots = is_added os st (vec_capacity c.self.inside.records) t bits slots plans in
    let asks : Settling c.fresh.new.self t c.served_all-served.result c.in-Ok-fresh.leases =
    settling os st t bits slots (new_rows os st t slots) c.fresh.new.self c.served_all-served.result c.arrays_of.result c.in-Ok-fresh.leases one.all
    c.served_all-served.ensures c.arrays_of.ensures c.in-Ok-fresh.ensures.leases c.in-Ok-fresh.ensures.state in
    asks.served_

pub settle_all-rows-requires-clause-units : goal.settle_all-rows-requires-clause-units
settle_all-rows-requires-clause-units g c =
    let v : SwitchState = c.args.self.now in
    let t : Sketch = c.args.task.now in
    let known : is_some (position (is_called t.name) v.outlines) ≡ false =
    ap (λ name. is_some (position (is_called name) v.outlines)) (sym c.name.ensures) ∙ ap is_some (sym c.find.ensures.place) ∙ sym c.is_some.ensures ∙ c.if-is_some.false in
    let os : List Outline = c.self.inside.records.items in
    let st : State = c.self.inside.stage in
    let kept : IsSwitch os st (vec_capacity c.self.inside.records) = c.self.invariant in
    let sh : c.shape-shape.result.now ≡ st.geometry = c.shape-shape.ensures.value ∙ ap (λ (r : Rules). r.geometry) c.pipe.ensures in
    let asked : bits_for st.geometry t.kind t.size ≡ c.size_bits.result =
    ap (λ g. bits_for g t.kind t.size) (sym sh) ∙ ap (λ k. bits_for c.shape-shape.result.now k t.size) (sym c.kind.ensures)
    ∙ ap (bits_for c.shape-shape.result.now c.kind.result) (sym c.size.ensures) ∙ sym c.size_bits.ensures.bits in
    let new : is_some (position (is_called t.name) os) ≡ false = ap (λ (s : SwitchState). is_some (position (is_called t.name) s.outlines)) c.self.view_is ∙ known in
    let bits : ℕ = c.in-Some.bits in
    let size : bits_for st.geometry t.kind t.size ≡ Some bits = asked ∙ c.in-Some.is in
    let slots : List (Option Place) = c.in-Ok.places in
    let plans : Plans os st (vec_capacity c.self.inside.records) t bits slots = record {
      kept = kept;
      allowed = subst (λ s. first_fault s ≡ None) c.copy_of-copy.ensures.same c.copy_of-copy.ensures.allowed;
      new = new;
      size = size;
      plan = subst (λ (o : Option ℕ). IfSome o (λ b. Ok (there slots) ≡ placed st.geometry (sight_in st.tables st.groups st.pools) t b)) size c.in-Ok.ensures;
    } in
    let one : Added os st (vec_capacity c.self.inside.records) t bits slots = is_added os st (vec_capacity c.self.inside.records) t bits slots plans in
    let asks : Settling c.fresh.new.self t c.served_all-served.result c.in-Ok-fresh.leases =
    settling os st t bits slots (new_rows os st t slots) c.fresh.new.self c.served_all-served.result c.arrays_of.result c.in-Ok-fresh.leases one.all
    c.served_all-served.ensures c.arrays_of.ensures c.in-Ok-fresh.ensures.leases c.in-Ok-fresh.ensures.state in
    asks.units

pub settle_all-rows-requires-clause-entries : goal.settle_all-rows-requires-clause-entries
settle_all-rows-requires-clause-entries g c =
    let v : SwitchState = c.args.self.now in
    let t : Sketch = c.args.task.now in
    let known : is_some (position (is_called t.name) v.outlines) ≡ false =
    ap (λ name. is_some (position (is_called name) v.outlines)) (sym c.name.ensures) ∙ ap is_some (sym c.find.ensures.place) ∙ sym c.is_some.ensures ∙ c.if-is_some.false in
    let os : List Outline = c.self.inside.records.items in
    let st : State = c.self.inside.stage in
    let kept : IsSwitch os st (vec_capacity c.self.inside.records) = c.self.invariant in
    let sh : c.shape-shape.result.now ≡ st.geometry = c.shape-shape.ensures.value ∙ ap (λ (r : Rules). r.geometry) c.pipe.ensures in
    let asked : bits_for st.geometry t.kind t.size ≡ c.size_bits.result =
    ap (λ g. bits_for g t.kind t.size) (sym sh) ∙ ap (λ k. bits_for c.shape-shape.result.now k t.size) (sym c.kind.ensures)
    ∙ ap (bits_for c.shape-shape.result.now c.kind.result) (sym c.size.ensures) ∙ sym c.size_bits.ensures.bits in
    let new : is_some (position (is_called t.name) os) ≡ false = ap (λ (s : SwitchState). is_some (position (is_called t.name) s.outlines)) c.self.view_is ∙ known in
    let bits : ℕ = c.in-Some.bits in
    let size : bits_for st.geometry t.kind t.size ≡ Some bits = asked ∙ c.in-Some.is in
    let slots : List (Option Place) = c.in-Ok.places in
    let plans : Plans os st (vec_capacity c.self.inside.records) t bits slots = record {
      kept = kept;
      allowed = subst (λ s. first_fault s ≡ None) c.copy_of-copy.ensures.same c.copy_of-copy.ensures.allowed;
      new = new;
      size = size;
      plan = subst (λ (o : Option ℕ). IfSome o (λ b. Ok (there slots) ≡ placed st.geometry (sight_in st.tables st.groups st.pools) t b)) size c.in-Ok.ensures;
    } in
    let one : Added os st (vec_capacity c.self.inside.records) t bits slots = is_added os st (vec_capacity c.self.inside.records) t bits slots plans in
    let asks : Settling c.fresh.new.self t c.served_all-served.result c.in-Ok-fresh.leases =
    settling os st t bits slots (new_rows os st t slots) c.fresh.new.self c.served_all-served.result c.arrays_of.result c.in-Ok-fresh.leases one.all
    c.served_all-served.ensures c.arrays_of.ensures c.in-Ok-fresh.ensures.leases c.in-Ok-fresh.ensures.state in
    asks.entries

pub push_reserved-requires : goal.push_reserved-requires
push_reserved-requires g c =
    let v : SwitchState = c.args.self.now in
    let t : Sketch = c.args.task.now in
    let known : is_some (position (is_called t.name) v.outlines) ≡ false =
    ap (λ name. is_some (position (is_called name) v.outlines)) (sym c.name.ensures) ∙ ap is_some (sym c.find.ensures.place) ∙ sym c.is_some.ensures ∙ c.if-is_some.false in
    let os : List Outline = c.self.inside.records.items in
    let st : State = c.self.inside.stage in
    let kept : IsSwitch os st (vec_capacity c.self.inside.records) = c.self.invariant in
    let sh : c.shape-shape.result.now ≡ st.geometry = c.shape-shape.ensures.value ∙ ap (λ (r : Rules). r.geometry) c.pipe.ensures in
    let asked : bits_for st.geometry t.kind t.size ≡ c.size_bits.result =
    ap (λ g. bits_for g t.kind t.size) (sym sh) ∙ ap (λ k. bits_for c.shape-shape.result.now k t.size) (sym c.kind.ensures)
    ∙ ap (bits_for c.shape-shape.result.now c.kind.result) (sym c.size.ensures) ∙ sym c.size_bits.ensures.bits in
    let new : is_some (position (is_called t.name) os) ≡ false = ap (λ (s : SwitchState). is_some (position (is_called t.name) s.outlines)) c.self.view_is ∙ known in
    let bits : ℕ = c.in-Some.bits in
    let size : bits_for st.geometry t.kind t.size ≡ Some bits = asked ∙ c.in-Some.is in
    let slots : List (Option Place) = c.in-Ok.places in
    let plans : Plans os st (vec_capacity c.self.inside.records) t bits slots = record {
      kept = kept;
      allowed = subst (λ s. first_fault s ≡ None) c.copy_of-copy.ensures.same c.copy_of-copy.ensures.allowed;
      new = new;
      size = size;
      plan = subst (λ (o : Option ℕ). IfSome o (λ b. Ok (there slots) ≡ placed st.geometry (sight_in st.tables st.groups st.pools) t b)) size c.in-Ok.ensures;
    } in
    let one : Added os st (vec_capacity c.self.inside.records) t bits slots = is_added os st (vec_capacity c.self.inside.records) t bits slots plans in
    let room : length os < vec_capacity c.self.inside.records = one.room in
    omega (arith, room)

pub invariant_of-self-in-Ok-fresh : goal.invariant_of-self-in-Ok-fresh
invariant_of-self-in-Ok-fresh g c =
    let v : SwitchState = c.args.self.now in
    let t : Sketch = c.args.task.now in
    let known : is_some (position (is_called t.name) v.outlines) ≡ false =
    ap (λ name. is_some (position (is_called name) v.outlines)) (sym c.name.ensures) ∙ ap is_some (sym c.find.ensures.place) ∙ sym c.is_some.ensures ∙ c.if-is_some.false in
    let os : List Outline = c.self.inside.records.items in
    let st : State = c.self.inside.stage in
    let kept : IsSwitch os st (vec_capacity c.self.inside.records) = c.self.invariant in
    let sh : c.shape-shape.result.now ≡ st.geometry = c.shape-shape.ensures.value ∙ ap (λ (r : Rules). r.geometry) c.pipe.ensures in
    let asked : bits_for st.geometry t.kind t.size ≡ c.size_bits.result =
    ap (λ g. bits_for g t.kind t.size) (sym sh) ∙ ap (λ k. bits_for c.shape-shape.result.now k t.size) (sym c.kind.ensures)
    ∙ ap (bits_for c.shape-shape.result.now c.kind.result) (sym c.size.ensures) ∙ sym c.size_bits.ensures.bits in
    let new : is_some (position (is_called t.name) os) ≡ false = ap (λ (s : SwitchState). is_some (position (is_called t.name) s.outlines)) c.self.view_is ∙ known in
    let bits : ℕ = c.in-Some.bits in
    let size : bits_for st.geometry t.kind t.size ≡ Some bits = asked ∙ c.in-Some.is in
    let slots : List (Option Place) = c.in-Ok.places in
    let plans : Plans os st (vec_capacity c.self.inside.records) t bits slots = record {
      kept = kept;
      allowed = subst (λ s. first_fault s ≡ None) c.copy_of-copy.ensures.same c.copy_of-copy.ensures.allowed;
      new = new;
      size = size;
      plan = subst (λ (o : Option ℕ). IfSome o (λ b. Ok (there slots) ≡ placed st.geometry (sight_in st.tables st.groups st.pools) t b)) size c.in-Ok.ensures;
    } in
    let one : Added os st (vec_capacity c.self.inside.records) t bits slots = is_added os st (vec_capacity c.self.inside.records) t bits slots plans in
    let kept_is : c.new.result ≡ new_outline t (there c.settle_all-rows.result) =
    c.new.ensures ∙ ap (λ task. new_outline task (there c.settle_all-rows.result)) c.copy_of-copy.ensures.same in
    let done = added_switch os st (vec_capacity c.self.inside.records) t bits slots c.served_all-served.result c.arrays_of.result c.in-Ok-fresh.leases c.settle_all-rows.result
    c.fresh.new.self c.settle_all-rows.new.self c.push_reserved.new.self.items (vec_capacity c.push_reserved.new.self) plans
    c.served_all-served.ensures c.arrays_of.ensures c.in-Ok-fresh.ensures.leases c.in-Ok-fresh.ensures.state c.settle_all-rows.ensures.rows c.settle_all-rows.ensures.state
    (c.push_reserved.ensures.items ∙ ap (λ o. os ++ o ∷ []) kept_is) c.push_reserved.ensures.capacity in
    done.0

pub returns-in-Err-clause-answer : goal.returns-in-Err-clause-answer
returns-in-Err-clause-answer g c =
    let v : SwitchState = c.args.self.now in
    let t : Sketch = c.args.task.now in
    let known : is_some (position (is_called t.name) v.outlines) ≡ false =
    ap (λ name. is_some (position (is_called name) v.outlines)) (sym c.name.ensures) ∙ ap is_some (sym c.find.ensures.place) ∙ sym c.is_some.ensures ∙ c.if-is_some.false in
    let os : List Outline = c.self.inside.records.items in
    let st : State = c.self.inside.stage in
    let kept : IsSwitch os st (vec_capacity c.self.inside.records) = c.self.invariant in
    let sh : c.shape-shape.result.now ≡ st.geometry = c.shape-shape.ensures.value ∙ ap (λ (r : Rules). r.geometry) c.pipe.ensures in
    let asked : bits_for st.geometry t.kind t.size ≡ c.size_bits.result =
    ap (λ g. bits_for g t.kind t.size) (sym sh) ∙ ap (λ k. bits_for c.shape-shape.result.now k t.size) (sym c.kind.ensures)
    ∙ ap (bits_for c.shape-shape.result.now c.kind.result) (sym c.size.ensures) ∙ sym c.size_bits.ensures.bits in
    let new : is_some (position (is_called t.name) os) ≡ false = ap (λ (s : SwitchState). is_some (position (is_called t.name) s.outlines)) c.self.view_is ∙ known in
    let bits : ℕ = c.in-Some.bits in
    let size : bits_for st.geometry t.kind t.size ≡ Some bits = asked ∙ c.in-Some.is in
    let slots : List (Option Place) = c.in-Ok.places in
    let plans : Plans os st (vec_capacity c.self.inside.records) t bits slots = record {
      kept = kept;
      allowed = subst (λ s. first_fault s ≡ None) c.copy_of-copy.ensures.same c.copy_of-copy.ensures.allowed;
      new = new;
      size = size;
      plan = subst (λ (o : Option ℕ). IfSome o (λ b. Ok (there slots) ≡ placed st.geometry (sight_in st.tables st.groups st.pools) t b)) size c.in-Ok.ensures;
    } in
    let one : Added os st (vec_capacity c.self.inside.records) t bits slots = is_added os st (vec_capacity c.self.inside.records) t bits slots plans in
    let verdict : judged v.geometry v.outlines (Add t) ≡ Ok (Push t (new_rows os st t slots)) =
    ap (λ (s : SwitchState). judged s.geometry s.outlines (Add t)) (sym c.self.view_is) ∙ one.judged_is in
    subst (λ r. Answers {T = Unit {0}} add_cause r (Err faults.Device) v (record { geometry = c.fresh.new.self.geometry; hash_key = c.fresh.new.self.hash_key; outlines = os })) (sym verdict)
    (refl, ap (λ (s : State). (let now : SwitchState = record { geometry = s.geometry; hash_key = s.hash_key; outlines = os } in now)) c.in-Err.ensures.refused ∙ c.self.view_is)

pub returns-in-Err-clause-contents : goal.returns-in-Err-clause-contents
returns-in-Err-clause-contents g c =
    let v : SwitchState = c.args.self.now in
    let t : Sketch = c.args.task.now in
    let known : is_some (position (is_called t.name) v.outlines) ≡ false =
    ap (λ name. is_some (position (is_called name) v.outlines)) (sym c.name.ensures) ∙ ap is_some (sym c.find.ensures.place) ∙ sym c.is_some.ensures ∙ c.if-is_some.false in
    let os : List Outline = c.self.inside.records.items in
    let st : State = c.self.inside.stage in
    let kept : IsSwitch os st (vec_capacity c.self.inside.records) = c.self.invariant in
    let sh : c.shape-shape.result.now ≡ st.geometry = c.shape-shape.ensures.value ∙ ap (λ (r : Rules). r.geometry) c.pipe.ensures in
    let asked : bits_for st.geometry t.kind t.size ≡ c.size_bits.result =
    ap (λ g. bits_for g t.kind t.size) (sym sh) ∙ ap (λ k. bits_for c.shape-shape.result.now k t.size) (sym c.kind.ensures)
    ∙ ap (bits_for c.shape-shape.result.now c.kind.result) (sym c.size.ensures) ∙ sym c.size_bits.ensures.bits in
    let new : is_some (position (is_called t.name) os) ≡ false = ap (λ (s : SwitchState). is_some (position (is_called t.name) s.outlines)) c.self.view_is ∙ known in
    let bits : ℕ = c.in-Some.bits in
    let size : bits_for st.geometry t.kind t.size ≡ Some bits = asked ∙ c.in-Some.is in
    let slots : List (Option Place) = c.in-Ok.places in
    let plans : Plans os st (vec_capacity c.self.inside.records) t bits slots = record {
      kept = kept;
      allowed = subst (λ s. first_fault s ≡ None) c.copy_of-copy.ensures.same c.copy_of-copy.ensures.allowed;
      new = new;
      size = size;
      plan = subst (λ (o : Option ℕ). IfSome o (λ b. Ok (there slots) ≡ placed st.geometry (sight_in st.tables st.groups st.pools) t b)) size c.in-Ok.ensures;
    } in
    let one : Added os st (vec_capacity c.self.inside.records) t bits slots = is_added os st (vec_capacity c.self.inside.records) t bits slots plans in
    let verdict : judged v.geometry v.outlines (Add t) ≡ Ok (Push t (new_rows os st t slots)) =
    ap (λ (s : SwitchState). judged s.geometry s.outlines (Add t)) (sym c.self.view_is) ∙ one.judged_is in
    let arrays : fresh_leases bits st.pools c.arrays_of.result ≡ fresh_leases bits st.pools (map stages.place_array slots) = ap (fresh_leases bits st.pools) c.arrays_of.ensures in
    told_refused (Unit {0}) (fresh_leases bits st.pools c.arrays_of.result) (Push t (new_rows os st t slots)) (judged v.geometry v.outlines (Add t)) c.start_value-start.result c.fresh.result faults.Device
    (g.R.RegFile.contents c.args.regs.now) (g.R.RegFile.contents c.fresh.new.regs) verdict (ap held_of arrays ∙ one.all.fresh) c.fresh.ensures.contents

pub returns-in-Ok-fresh-clause-answer : goal.returns-in-Ok-fresh-clause-answer
returns-in-Ok-fresh-clause-answer g c =
    let v : SwitchState = c.args.self.now in
    let t : Sketch = c.args.task.now in
    let known : is_some (position (is_called t.name) v.outlines) ≡ false =
    ap (λ name. is_some (position (is_called name) v.outlines)) (sym c.name.ensures) ∙ ap is_some (sym c.find.ensures.place) ∙ sym c.is_some.ensures ∙ c.if-is_some.false in
    let os : List Outline = c.self.inside.records.items in
    let st : State = c.self.inside.stage in
    let kept : IsSwitch os st (vec_capacity c.self.inside.records) = c.self.invariant in
    let sh : c.shape-shape.result.now ≡ st.geometry = c.shape-shape.ensures.value ∙ ap (λ (r : Rules). r.geometry) c.pipe.ensures in
    let asked : bits_for st.geometry t.kind t.size ≡ c.size_bits.result =
    ap (λ g. bits_for g t.kind t.size) (sym sh) ∙ ap (λ k. bits_for c.shape-shape.result.now k t.size) (sym c.kind.ensures)
    ∙ ap (bits_for c.shape-shape.result.now c.kind.result) (sym c.size.ensures) ∙ sym c.size_bits.ensures.bits in
    let new : is_some (position (is_called t.name) os) ≡ false = ap (λ (s : SwitchState). is_some (position (is_called t.name) s.outlines)) c.self.view_is ∙ known in
    let bits : ℕ = c.in-Some.bits in
    let size : bits_for st.geometry t.kind t.size ≡ Some bits = asked ∙ c.in-Some.is in
    let slots : List (Option Place) = c.in-Ok.places in
    let plans : Plans os st (vec_capacity c.self.inside.records) t bits slots = record {
      kept = kept;
      allowed = subst (λ s. first_fault s ≡ None) c.copy_of-copy.ensures.same c.copy_of-copy.ensures.allowed;
      new = new;
      size = size;
      plan = subst (λ (o : Option ℕ). IfSome o (λ b. Ok (there slots) ≡ placed st.geometry (sight_in st.tables st.groups st.pools) t b)) size c.in-Ok.ensures;
    } in
    let one : Added os st (vec_capacity c.self.inside.records) t bits slots = is_added os st (vec_capacity c.self.inside.records) t bits slots plans in
    let kept_is : c.new.result ≡ new_outline t (there c.settle_all-rows.result) =
    c.new.ensures ∙ ap (λ task. new_outline task (there c.settle_all-rows.result)) c.copy_of-copy.ensures.same in
    let done = added_switch os st (vec_capacity c.self.inside.records) t bits slots c.served_all-served.result c.arrays_of.result c.in-Ok-fresh.leases c.settle_all-rows.result
    c.fresh.new.self c.settle_all-rows.new.self c.push_reserved.new.self.items (vec_capacity c.push_reserved.new.self) plans
    c.served_all-served.ensures c.arrays_of.ensures c.in-Ok-fresh.ensures.leases c.in-Ok-fresh.ensures.state c.settle_all-rows.ensures.rows c.settle_all-rows.ensures.state
    (c.push_reserved.ensures.items ∙ ap (λ o. os ++ o ∷ []) kept_is) c.push_reserved.ensures.capacity in
    let verdict : judged v.geometry v.outlines (Add t) ≡ Ok (Push t (new_rows os st t slots)) =
    ap (λ (s : SwitchState). judged s.geometry s.outlines (Add t)) (sym c.self.view_is) ∙ one.judged_is in
    let last : State = c.settle_all-rows.new.self in
    let state_is : (let now : SwitchState = record { geometry = last.geometry; hash_key = last.hash_key; outlines = c.push_reserved.new.self.items } in now)
    ≡ record { geometry = st.geometry; hash_key = st.hash_key; outlines = os ++ new_outline t (new_rows os st t slots) ∷ [] } =
    ap (λ (s : State). (let now : SwitchState = record { geometry = s.geometry; hash_key = s.hash_key; outlines = c.push_reserved.new.self.items } in now)) c.settle_all-rows.ensures.state
    ∙ ap (λ (s : State). (let now : SwitchState = record { geometry = s.geometry; hash_key = s.hash_key; outlines = c.push_reserved.new.self.items } in now)) c.in-Ok-fresh.ensures.state
    ∙ ap (λ ys. (let now : SwitchState = record { geometry = st.geometry; hash_key = st.hash_key; outlines = ys } in now)) done.1 in
    subst (λ r. Answers {T = Unit {0}} add_cause r (Ok tt) v (record { geometry = last.geometry; hash_key = last.hash_key; outlines = c.push_reserved.new.self.items })) (sym verdict)
    (state_is ∙ ap (λ (s : SwitchState). record s { outlines = s.outlines ++ new_outline t (new_rows os st t slots) ∷ [] }) c.self.view_is)

pub returns-in-Ok-fresh-clause-contents : goal.returns-in-Ok-fresh-clause-contents
returns-in-Ok-fresh-clause-contents g c =
    let v : SwitchState = c.args.self.now in
    let t : Sketch = c.args.task.now in
    let known : is_some (position (is_called t.name) v.outlines) ≡ false =
    ap (λ name. is_some (position (is_called name) v.outlines)) (sym c.name.ensures) ∙ ap is_some (sym c.find.ensures.place) ∙ sym c.is_some.ensures ∙ c.if-is_some.false in
    let os : List Outline = c.self.inside.records.items in
    let st : State = c.self.inside.stage in
    let kept : IsSwitch os st (vec_capacity c.self.inside.records) = c.self.invariant in
    let sh : c.shape-shape.result.now ≡ st.geometry = c.shape-shape.ensures.value ∙ ap (λ (r : Rules). r.geometry) c.pipe.ensures in
    let asked : bits_for st.geometry t.kind t.size ≡ c.size_bits.result =
    ap (λ g. bits_for g t.kind t.size) (sym sh) ∙ ap (λ k. bits_for c.shape-shape.result.now k t.size) (sym c.kind.ensures)
    ∙ ap (bits_for c.shape-shape.result.now c.kind.result) (sym c.size.ensures) ∙ sym c.size_bits.ensures.bits in
    let new : is_some (position (is_called t.name) os) ≡ false = ap (λ (s : SwitchState). is_some (position (is_called t.name) s.outlines)) c.self.view_is ∙ known in
    let bits : ℕ = c.in-Some.bits in
    let size : bits_for st.geometry t.kind t.size ≡ Some bits = asked ∙ c.in-Some.is in
    let slots : List (Option Place) = c.in-Ok.places in
    let plans : Plans os st (vec_capacity c.self.inside.records) t bits slots = record {
      kept = kept;
      allowed = subst (λ s. first_fault s ≡ None) c.copy_of-copy.ensures.same c.copy_of-copy.ensures.allowed;
      new = new;
      size = size;
      plan = subst (λ (o : Option ℕ). IfSome o (λ b. Ok (there slots) ≡ placed st.geometry (sight_in st.tables st.groups st.pools) t b)) size c.in-Ok.ensures;
    } in
    let one : Added os st (vec_capacity c.self.inside.records) t bits slots = is_added os st (vec_capacity c.self.inside.records) t bits slots plans in
    let verdict : judged v.geometry v.outlines (Add t) ≡ Ok (Push t (new_rows os st t slots)) =
    ap (λ (s : SwitchState). judged s.geometry s.outlines (Add t)) (sym c.self.view_is) ∙ one.judged_is in
    let arrays : fresh_leases bits st.pools c.arrays_of.result ≡ fresh_leases bits st.pools (map stages.place_array slots) = ap (fresh_leases bits st.pools) c.arrays_of.ensures in
    told_made AddFault (fresh_leases bits st.pools c.arrays_of.result) (Push t (new_rows os st t slots)) (judged v.geometry v.outlines (Add t)) c.start_value-start.result c.fresh.result c.in-Ok-fresh.leases tt
    (g.R.RegFile.contents c.args.regs.now) (g.R.RegFile.contents c.fresh.new.regs) verdict (ap held_of arrays ∙ one.all.fresh) (c.start_value-start.ensures ∙ ap start_of c.kind-2.ensures) c.in-Ok-fresh.is c.fresh.ensures.contents
