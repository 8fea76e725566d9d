-- What the switch knows where it adds a task.
use Rattle.std.proofs.Common.{◌≡◌, ℕ, ◌<◌, true, false, cond, List, [], ◌∷◌, ◌++◌, length, map, position, ap, ap₂, sym, ◌∙◌, subst, arith, length-append}
use Rattle.std.specs.Prelude.{Option, None, Some, is_some, Result, Ok, Err}
use Rattle.addr_translate.specs.Geometry.{Geometry}
use Rattle.placer.specs.declared.places.Place.{Place}
use Rattle.placer.specs.declared.places as places
use Rattle.placer.specs.Sights.{bits_for}
use Rattle.placer.specs.Placement.{placed, sight_in}
use Rattle.placer.proofs.PlacementLemmas.{placed_accepted}
use Rattle.sketch_defs.specs.Tasks.{Sketch, first_fault}
use Rattle.switch_model.specs.Records.{Row, Outline}
use Rattle.switch_model.specs.Sights.{sight_of}
use Rattle.switch_model.specs.Soundness.{Sound}
use Rattle.switch_model.specs.Changes.{Exists, BadMemory, Push, Add, is_called, row_at, new_outline, pushed, added, judged}
use Rattle.switch_model.proofs.SoundLemmas.{sound_changed}
use Rattle.rule_txn.specs.declared.rows.Served.{Served}
use Rattle.rule_txn.specs.State.{State, there, Lent}
use Rattle.rule_txn.specs.Rows.{fresh_leases, taken, leased_rows, AreServed, first_turn, with_rows, with_uses, CanServeAll, CanSettleAll}
use Rattle.rule_txn.specs.Stages.{place_array, served_on}
use Rattle.rule_txn.specs.Switch.{Stands, IsSwitch}
use Rattle.rule_txn.proofs.Giving.{plan_same}
use Rattle.rule_txn.proofs.Bounds.{few_records}
use Rattle.rule_txn.proofs.Adds.{Adds, adds}

-- ---- refusals

pub judged_exists : (geometry : Geometry) (os : List Outline) (task : Sketch) → is_some (position (is_called task.name) os) ≡ true → judged geometry os (Add task) ≡ Err Exists
unfolding judged
judged_exists geometry os task e = ap (λ b. cond b (Err Exists) (added geometry (sight_of geometry os) task (bits_for geometry task.kind task.size))) e

judged_new : (geometry : Geometry) (os : List Outline) (task : Sketch) (size : Option ℕ) → is_some (position (is_called task.name) os) ≡ false
    → bits_for geometry task.kind task.size ≡ size → judged geometry os (Add task) ≡ added geometry (sight_of geometry os) task size
unfolding judged
judged_new geometry os task size e f =
    ap (λ b. cond b (Err Exists) (added geometry (sight_of geometry os) task (bits_for geometry task.kind task.size))) e ∙ ap (added geometry (sight_of geometry os) task) f

pub judged_size : (geometry : Geometry) (os : List Outline) (task : Sketch) → is_some (position (is_called task.name) os) ≡ false
    → bits_for geometry task.kind task.size ≡ None → judged geometry os (Add task) ≡ Err (BadMemory task.size)
judged_size geometry os task e f = judged_new geometry os task None e f

pub judged_placed : (geometry : Geometry) (os : List Outline) (task : Sketch) (bits : ℕ) (r : Result (List Place) places.Refusal.Refusal) → is_some (position (is_called task.name) os) ≡ false
    → bits_for geometry task.kind task.size ≡ Some bits → placed geometry (sight_of geometry os) task bits ≡ r
    → judged geometry os (Add task) ≡ pushed geometry (sight_of geometry os) task r
judged_placed geometry os task bits r e f p = judged_new geometry os task (Some bits) e f ∙ ap (pushed geometry (sight_of geometry os) task) p

-- a plan of the stage is one of the model
pub judged_plan : (os : List Outline) (state : State) (task : Sketch) (bits : ℕ) (r : Result (List Place) places.Refusal.Refusal) → Stands os state
    → is_some (position (is_called task.name) os) ≡ false → bits_for state.geometry task.kind task.size ≡ Some bits
    → r ≡ placed state.geometry (sight_in state.tables state.groups state.pools) task bits
    → judged state.geometry os (Add task) ≡ pushed state.geometry (sight_of state.geometry os) task r
judged_plan os state task bits r stands e f p =
    judged_placed state.geometry os task bits r e f (sym (plan_same os state task bits stands) ∙ sym p)

-- ---- what is known once there is a plan

pub record Plans (os : List Outline) (state : State) (capacity : ℕ) (task : Sketch) (bits : ℕ) (slots : List (Option Place)) : Type 0 where
  pub kept : IsSwitch os state capacity
  pub allowed : first_fault task ≡ None
  pub new : is_some (position (is_called task.name) os) ≡ false
  pub size : bits_for state.geometry task.kind task.size ≡ Some bits
  pub plan : Ok (there slots) ≡ placed state.geometry (sight_in state.tables state.groups state.pools) task bits

abbrev pub new_rows : List Outline → State → Sketch → List (Option Place) → List Row
new_rows os state task slots = map (row_at state.geometry (sight_of state.geometry os) task) (there slots)

pub record Added (os : List Outline) (state : State) (capacity : ℕ) (task : Sketch) (bits : ℕ) (slots : List (Option Place)) : Type 0 where
  pub judged_is : judged state.geometry os (Add task) ≡ Ok (Push task (new_rows os state task slots))
  pub all : Adds os state task bits slots (new_rows os state task slots)
  pub later : Sound state.geometry (os ++ new_outline task (new_rows os state task slots) ∷ [])
  pub room : length os < capacity

pub is_added : (os : List Outline) (state : State) (capacity : ℕ) (task : Sketch) (bits : ℕ) (slots : List (Option Place)) → Plans os state capacity task bits slots
    → Added os state capacity task bits slots
is_added os state capacity task bits slots plans =
    let geometry = state.geometry in
    let kept : IsSwitch os state capacity = plans.kept in
    let verdict = judged_plan os state task bits (Ok (there slots)) kept.stands plans.new plans.size plans.plan in
    let later : Sound geometry (os ++ new_outline task (new_rows os state task slots) ∷ []) =
    sound_changed geometry os (Add task) (Push task (new_rows os state task slots)) kept.limits plans.allowed kept.sound verdict in
    let found = placed_accepted geometry (sight_of geometry os) task bits (there slots) (sym (plan_same os state task bits kept.stands) ∙ sym plans.plan) in
    let few = few_records geometry (os ++ new_outline task (new_rows os state task slots) ∷ []) later in
    let long = length-append os (new_outline task (new_rows os state task slots) ∷ []) in
    let most = kept.room in
    record {
      judged_is = verdict;
      all = adds os state task bits slots kept.limits kept.stands found later;
      later = later;
      room = omega (arith, few, long, most);
    }

-- ---- what the stage is asked, by what its calls gave

pub record Settling (stage : State) (task : Sketch) (served : List (Option Served)) (leases : List (Option Lent)) : Type 0 where
  pub served_ : AreServed served 0 leases
  pub units : CanServeAll stage.geometry task.key stage.groups (leased_rows served 0 leases)
  pub entries : CanSettleAll stage.geometry task first_turn stage.tables (leased_rows served 0 leases)

pub settling : (os : List Outline) (state : State) (task : Sketch) (bits : ℕ) (slots : List (Option Place)) (rows : List Row)
    (stage : State) (served : List (Option Served)) (arrays : List (Option ℕ)) (leases : List (Option Lent)) → Adds os state task bits slots rows
    → served ≡ map (served_on state.geometry state.groups task.key) slots → arrays ≡ map place_array slots → leases ≡ fresh_leases bits state.pools arrays
    → stage ≡ record state { pools = taken leases state.pools } → Settling stage task served leases
settling os state task bits slots rows stage served arrays leases all_ s a l st =
    let is = l ∙ ap (fresh_leases bits state.pools) a in
    subst (λ (x : State). Settling x task served leases) (sym st)
    (subst (λ ys. Settling (record state { pools = taken leases state.pools }) task ys leases) (sym s)
    (subst (λ xs. Settling (record state { pools = taken xs state.pools }) task (map (served_on state.geometry state.groups task.key) slots) xs) (sym is)
    (record { served_ = all_.served; units = all_.serve; entries = all_.settle })))

abbrev pub settled_state : State → Sketch → List (Option Lent) → List (Option Row) → State
settled_state state task leases rows = record state {
  pools = taken leases state.pools;
  tables = with_rows task first_turn state.tables rows;
  groups = with_uses state.geometry task.key state.groups rows;
}

abbrev pub settled_on : Sketch → List (Option Row) → State → State
settled_on task rows stage = record stage {
  tables = with_rows task first_turn stage.tables rows;
  groups = with_uses stage.geometry task.key stage.groups rows;
}

pub added_switch : (os : List Outline) (state : State) (capacity : ℕ) (task : Sketch) (bits : ℕ) (slots : List (Option Place))
    (served : List (Option Served)) (arrays : List (Option ℕ)) (leases : List (Option Lent)) (rows : List (Option Row)) (stage last : State) (items : List Outline) (room : ℕ)
    → Plans os state capacity task bits slots
    → served ≡ map (served_on state.geometry state.groups task.key) slots → arrays ≡ map place_array slots → leases ≡ fresh_leases bits state.pools arrays
    → stage ≡ record state { pools = taken leases state.pools } → rows ≡ leased_rows served 0 leases → last ≡ settled_on task rows stage
    → items ≡ os ++ new_outline task (there rows) ∷ [] → room ≡ capacity
    → IsSwitch items last room × (items ≡ os ++ new_outline task (new_rows os state task slots) ∷ [])
added_switch os state capacity task bits slots served arrays leases rows stage last items room plans s a l st r la it ro =
    let one : Added os state capacity task bits slots = is_added os state capacity task bits slots plans in
    let kept : IsSwitch os state capacity = plans.kept in
    let geometry = state.geometry in
    let xs = fresh_leases bits state.pools (map place_array slots) in
    let leases_are : leases ≡ xs = l ∙ ap (fresh_leases bits state.pools) a in
    let rows_are : rows ≡ leased_rows (map (served_on geometry state.groups task.key) slots) 0 xs = r ∙ ap₂ (λ ys zs. leased_rows ys 0 zs) s leases_are in
    let now : last ≡ settled_state state task xs (leased_rows (map (served_on geometry state.groups task.key) slots) 0 xs) =
    la ∙ ap (settled_on task rows) st ∙ ap₂ (settled_state state task) leases_are rows_are in
    let list : items ≡ os ++ new_outline task (new_rows os state task slots) ∷ [] =
    it ∙ ap (λ rs. os ++ new_outline task rs ∷ []) (ap there rows_are ∙ one.all.leased) in
    let new : IsSwitch (os ++ new_outline task (new_rows os state task slots) ∷ []) (settled_state state task xs (leased_rows (map (served_on geometry state.groups task.key) slots) 0 xs)) capacity =
    record { limits = kept.limits; sound = one.later; stands = one.all.stands; room = kept.room } in (
      subst (λ n. IsSwitch items last n) (sym ro)
          (subst (λ (x : State). IsSwitch items x capacity) (sym now)
          (subst (λ ys. IsSwitch ys (settled_state state task xs (leased_rows (map (served_on geometry state.groups task.key) slots) 0 xs)) capacity) (sym list) new)),
      list,
    )
