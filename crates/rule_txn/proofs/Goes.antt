-- The switch after a resize, a removal or a release, by what its calls gave.
use Rattle.std.proofs.Common.{◌≡◌, ℕ, true, false, cond, List, ◌∷◌, ◌++◌, length, map, position, insert, remove, refl, ap, ap₂, sym, ◌∙◌, subst}
use Rattle.std.specs.Prelude.{Option, None, Some, is_some, is_none, Ok, Err, slice_index_or}
use Rattle.sketch_defs.specs.Tasks.{Sketch}
use Rattle.switch_model.specs.Records.{Row, Outline}
use Rattle.switch_model.specs.Soundness.{Sound}
use Rattle.switch_model.specs.Changes.{Unknown, NoFrozen, Drop, Thaw, Remove, Release, is_called, at_place, at_found, thawed_row, moved_outline, thawed_outline, new_outline, judged, edit_at}
use Rattle.switch_model.proofs.SoundLemmas.{moved_list, dropped_list, sound_changed}
use Rattle.rule_txn.specs.State.{State, there, Lent}
use Rattle.rule_txn.specs.Rows.{row_array, fresh_leases, taken, given, lives, frozens, moved_all, thawed, first_turn, with_rows, less_rows, less_uses, CanGive, CanMoveAll, CanLeaveAll, CanSettleAll}
use Rattle.rule_txn.specs.Switch.{Stands, IsSwitch}
use Rattle.rule_txn.proofs.Adds.{there_map}
use Rattle.rule_txn.proofs.Removed.{Removes, removes, Releases, releases}
use Rattle.rule_txn.proofs.Resized.{FoundAt, found_at, put_back, Resized, sized}

edited_list : (os front back : List Outline) (at : ℕ) (o : Outline) (f : Outline → Outline) → os ≡ front ++ o ∷ back → length front ≡ at → edit_at at f os ≡ front ++ f o ∷ back
edited_list os front back at o f whole long = ap (λ n. edit_at n f os) (sym long) ∙ moved_list os front back o f whole

pub same_task : (name : List ℕ) (os : List Outline) (at : ℕ) (one two : Outline) → position (is_called name) os ≡ Some at → one ≡ slice_index_or os at one → two ≡ slice_index_or os at two → one ≡ two
same_task name os at one two found here there_ =
    let f : FoundAt os at one = found_at name os at one found here in
    let g : FoundAt os at two = found_at name os at two found there_ in
    let both : Some one ≡ Some two = sym f.get ∙ g.get in
    cc

-- ---- a removal

pub unknown_removal : (geometry_ : State) (os : List Outline) (name : List ℕ) → position (is_called name) os ≡ None → judged geometry_.geometry os (Remove name) ≡ Err Unknown
unfolding judged
unknown_removal geometry_ os name none = ap (λ p. at_place p os (λ at o. Ok (Drop at))) none

pub record Going (os : List Outline) (state : State) (capacity : ℕ) (name : List ℕ) (at : ℕ) (o : Outline) (slots : List (Option Row)) : Type 0 where
  pub kept : IsSwitch os state capacity
  pub place : position (is_called name) os ≡ Some at
  pub here : o ≡ slice_index_or os at o
  pub rows : there slots ≡ o.rows

pub judged_removal : (os : List Outline) (state : State) (capacity : ℕ) (name : List ℕ) (at : ℕ) (o : Outline) (slots : List (Option Row)) → Going os state capacity name at o slots
    → judged state.geometry os (Remove name) ≡ Ok (Drop at)
unfolding judged
judged_removal os state capacity name at o slots going =
    let f : FoundAt os at o = found_at name os at o going.place going.here in
    ap (λ p. at_place p os (λ at o. Ok (Drop at))) going.place ∙ ap (λ x. at_found at x (λ at o. Ok (Drop at))) f.get

pub record Removed (os : List Outline) (state : State) (at : ℕ) (slots : List (Option Row)) : Type 0 where
  pub front : List Outline
  pub back : List Outline
  pub list : remove os at ≡ front ++ back
  pub all : Removes front back state slots
  pub later : Sound state.geometry (front ++ back)

pub is_removed : (os : List Outline) (state : State) (capacity : ℕ) (name : List ℕ) (at : ℕ) (o : Outline) (slots : List (Option Row)) → Going os state capacity name at o slots
    → Removed os state at slots
is_removed os state capacity name at o slots going =
    let kept : IsSwitch os state capacity = going.kept in
    let f : FoundAt os at o = found_at name os at o going.place going.here in
    let list : remove os at ≡ f.front ++ f.back = ap (remove os) (sym f.long) ∙ dropped_list os f.front f.back o f.whole in
    let sound = sound_changed state.geometry os (Remove name) (Drop at) kept.limits tt kept.sound (judged_removal os state capacity name at o slots going) in
    record {
      front = f.front;
      back = f.back;
      list = list;
      all = removes f.front f.back o state slots (subst (Sound state.geometry) f.whole kept.sound) (subst (λ ys. Stands ys state) f.whole kept.stands) going.rows;
      later = subst (Sound state.geometry) list sound;
    }

abbrev pub cleared_state : State → List (Option Row) → State
cleared_state state slots = record state {
  pools = given (lives slots) state.pools;
  tables = less_rows state.tables slots;
  groups = less_uses state.geometry state.groups slots;
}

pub removed_leases : (os : List Outline) (state : State) (at : ℕ) (slots : List (Option Row)) (leases : List (Option Lent)) (mid : State) → Removed os state at slots
    → leases ≡ frozens slots → mid ≡ cleared_state state slots → CanGive mid.pools leases
removed_leases os state at slots leases mid one l m =
    subst (λ (s : State). CanGive s.pools leases) (sym m) (subst (CanGive (given (lives slots) state.pools)) (sym l) one.all.frozen)

pub removed_switch : (os : List Outline) (state : State) (capacity : ℕ) (name : List ℕ) (at : ℕ) (o : Outline) (slots : List (Option Row)) (leases : List (Option Lent)) (mid last : State)
    (items : List Outline) (room : ℕ) → Going os state capacity name at o slots → leases ≡ frozens slots → mid ≡ cleared_state state slots
    → last ≡ record mid { pools = given leases mid.pools } → items ≡ remove os at → room ≡ capacity → IsSwitch items last room
removed_switch os state capacity name at o slots leases mid last items room going l m la it ro =
    let kept : IsSwitch os state capacity = going.kept in
    let one : Removed os state at slots = is_removed os state capacity name at o slots going in
    let now : last ≡ record (cleared_state state slots) { pools = given (frozens slots) (given (lives slots) state.pools) } =
    la ∙ ap (λ (s : State). record s { pools = given leases s.pools }) m ∙ ap (λ xs. record (cleared_state state slots) { pools = given xs (given (lives slots) state.pools) }) l in
    let new : IsSwitch (one.front ++ one.back) (record (cleared_state state slots) { pools = given (frozens slots) (given (lives slots) state.pools) }) capacity =
    record { limits = kept.limits; sound = one.later; stands = one.all.stands; room = kept.room } in
    subst (λ n. IsSwitch items last n) (sym ro)
    (subst (λ (s : State). IsSwitch items s capacity) (sym now)
    (subst (λ ys. IsSwitch ys (record (cleared_state state slots) { pools = given (frozens slots) (given (lives slots) state.pools) }) capacity) (sym (it ∙ one.list)) new))

-- ---- a release

pub unknown_release : (geometry_ : State) (os : List Outline) (name : List ℕ) → position (is_called name) os ≡ None → judged geometry_.geometry os (Release name) ≡ Err Unknown
unfolding judged
unknown_release geometry_ os name none = ap (λ p. at_place p os (λ at (o : Outline). cond (is_some o.frozen) (Ok (Thaw at)) (Err NoFrozen))) none

release_at : (state : State) (os : List Outline) (name : List ℕ) (at : ℕ) (o : Outline) → position (is_called name) os ≡ Some at → o ≡ slice_index_or os at o
    → judged state.geometry os (Release name) ≡ cond (is_some o.frozen) (Ok (Thaw at)) (Err NoFrozen)
unfolding judged
release_at state os name at o place here =
    let f : FoundAt os at o = found_at name os at o place here in
    ap (λ p. at_place p os (λ at (o : Outline). cond (is_some o.frozen) (Ok (Thaw at)) (Err NoFrozen))) place
    ∙ ap (λ x. at_found at x (λ at (o : Outline). cond (is_some o.frozen) (Ok (Thaw at)) (Err NoFrozen))) f.get

none_is : (o : Option ℕ) → is_none o ≡ true → is_some o ≡ false
none_is None e = refl
none_is (Some x) e = absurd (cc)

some_is : (o : Option ℕ) → is_none o ≡ false → is_some o ≡ true
some_is None e = absurd (cc)
some_is (Some x) e = refl

pub nothing_frozen : (state : State) (os : List Outline) (name : List ℕ) (at : ℕ) (o : Outline) → position (is_called name) os ≡ Some at → o ≡ slice_index_or os at o
    → is_none o.frozen ≡ true → judged state.geometry os (Release name) ≡ Err NoFrozen
nothing_frozen state os name at o place here none = release_at state os name at o place here ∙ ap (λ b. cond b (Ok (Thaw at)) (Err NoFrozen)) (none_is o.frozen none)

pub judged_release : (state : State) (os : List Outline) (name : List ℕ) (at : ℕ) (o : Outline) → position (is_called name) os ≡ Some at → o ≡ slice_index_or os at o
    → is_none o.frozen ≡ false → judged state.geometry os (Release name) ≡ Ok (Thaw at)
judged_release state os name at o place here some = release_at state os name at o place here ∙ ap (λ b. cond b (Ok (Thaw at)) (Err NoFrozen)) (some_is o.frozen some)

pub record Released (os : List Outline) (state : State) (at : ℕ) (o : Outline) (slots : List (Option Row)) : Type 0 where
  pub front : List Outline
  pub back : List Outline
  pub whole : os ≡ front ++ o ∷ back
  pub long : length front ≡ at
  pub all : Releases front back o state slots
  pub later : Sound state.geometry (front ++ thawed_outline o ∷ back)

pub is_released : (os : List Outline) (state : State) (capacity : ℕ) (name : List ℕ) (at : ℕ) (o : Outline) (slots : List (Option Row)) → Going os state capacity name at o slots
    → is_none o.frozen ≡ false → Released os state at o slots
is_released os state capacity name at o slots going some =
    let kept : IsSwitch os state capacity = going.kept in
    let f : FoundAt os at o = found_at name os at o going.place going.here in
    let sound = sound_changed state.geometry os (Release name) (Thaw at) kept.limits tt kept.sound (judged_release state os name at o going.place going.here some) in
    record {
      front = f.front;
      back = f.back;
      whole = f.whole;
      long = f.long;
      all = releases f.front f.back o state slots (subst (Sound state.geometry) f.whole kept.sound) (subst (λ ys. Stands ys state) f.whole kept.stands) going.rows;
      later = subst (Sound state.geometry) (edited_list os f.front f.back at o thawed_outline f.whole f.long) sound;
    }

pub released_switch : (os : List Outline) (state : State) (capacity : ℕ) (name : List ℕ) (at : ℕ) (o : Outline) (slots rows : List (Option Row)) (leases : List (Option Lent)) (last : State)
    (items : List Outline) (room : ℕ) → Going os state capacity name at o slots → is_none o.frozen ≡ false → rows ≡ thawed slots → leases ≡ frozens slots
    → last ≡ record state { pools = given leases state.pools } → items ≡ insert (remove os at) at (new_outline o.task (there rows)) → room ≡ capacity
    → IsSwitch items last room × (items ≡ edit_at at thawed_outline os)
released_switch os state capacity name at o slots rows leases last items room going some r l la it ro =
    let kept : IsSwitch os state capacity = going.kept in
    let one : Released os state at o slots = is_released os state capacity name at o slots going some in
    let new_is : new_outline o.task (there rows) ≡ thawed_outline o =
    ap (new_outline o.task) (ap there r ∙ there_map thawed_row slots ∙ ap (map thawed_row) going.rows) in
    let list : items ≡ one.front ++ thawed_outline o ∷ one.back =
    it ∙ ap (insert (remove os at) at) new_is ∙ put_back os one.front one.back at o (thawed_outline o) one.whole one.long in
    let now : last ≡ record state { pools = given (frozens slots) state.pools } = la ∙ ap (λ xs. record state { pools = given xs state.pools }) l in
    let new : IsSwitch (one.front ++ thawed_outline o ∷ one.back) (record state { pools = given (frozens slots) state.pools }) capacity =
    record { limits = kept.limits; sound = one.later; stands = one.all.stands; room = kept.room } in (
      subst (λ n. IsSwitch items last n) (sym ro)
          (subst (λ (s : State). IsSwitch items s capacity) (sym now)
          (subst (λ ys. IsSwitch ys (record state { pools = given (frozens slots) state.pools }) capacity) (sym list) new)),
      list ∙ sym (edited_list os one.front one.back at o thawed_outline one.whole one.long),
    )

-- ---- a resize

-- the task is put back, with nothing done
pub kept_switch : (os : List Outline) (state : State) (capacity : ℕ) (name : List ℕ) (at : ℕ) (o y : Outline) (last : State) (items : List Outline) (room : ℕ)
    → IsSwitch os state capacity → position (is_called name) os ≡ Some at → o ≡ slice_index_or os at o → y ≡ o → last ≡ state
    → items ≡ insert (remove os at) at y → room ≡ capacity → IsSwitch items last room × (items ≡ os)
kept_switch os state capacity name at o y last items room kept place here yo la it ro =
    let f : FoundAt os at o = found_at name os at o place here in
    let list : items ≡ os = it ∙ ap (insert (remove os at) at) yo ∙ put_back os f.front f.back at o o f.whole f.long ∙ sym f.whole in
    (subst (λ n. IsSwitch items last n) (sym ro) (subst (λ (s : State). IsSwitch items s capacity) (sym la) (subst (λ ys. IsSwitch ys state capacity) (sym list) kept)), list)

pub record Moving (stage : State) (task : Sketch) (slots : List (Option Row)) (leases : List (Option Lent)) : Type 0 where
  pub moves : CanMoveAll slots leases
  pub leave : CanLeaveAll stage.geometry stage.tables slots
  pub entries : CanSettleAll stage.geometry task first_turn (less_rows stage.tables slots) (moved_all slots leases)

pub moving : (os : List Outline) (state : State) (name : List ℕ) (size at : ℕ) (o : Outline) (bits : ℕ) (slots : List (Option Row)) (stage : State) (task : Sketch)
    (arrays : List (Option ℕ)) (leases : List (Option Lent)) → Resized os state name size at o bits slots → task ≡ sized o.task size → arrays ≡ map row_array slots
    → leases ≡ fresh_leases bits state.pools arrays → stage ≡ record state { pools = taken leases state.pools } → Moving stage task slots leases
moving os state name size at o bits slots stage task arrays leases one t a l st =
    let is = l ∙ ap (fresh_leases bits state.pools) a in
    subst (λ (x : State). Moving x task slots leases) (sym st)
    (subst (λ x. Moving (record state { pools = taken leases state.pools }) x slots leases) (sym t)
    (subst (λ xs. Moving (record state { pools = taken xs state.pools }) (sized o.task size) slots xs) (sym is)
    (record { moves = one.all.moves; leave = one.all.leave; entries = one.all.settle })))

abbrev pub moved_state : State → Sketch → List (Option Row) → List (Option Lent) → List (Option Row) → State
moved_state state task slots leases rows = record state {
  pools = taken leases state.pools;
  tables = with_rows task first_turn (less_rows state.tables slots) rows;
}

abbrev pub moved_on : Sketch → List (Option Row) → List (Option Row) → State → State
moved_on task slots rows stage = record stage { tables = with_rows task first_turn (less_rows stage.tables slots) rows }

abbrev pub kept_as : Sketch → ℕ → List Row → Outline
kept_as task frozen rows = record { task = task; frozen = Some frozen; rows = rows }

pub resized_switch : (os : List Outline) (state : State) (capacity : ℕ) (name : List ℕ) (size at : ℕ) (o : Outline) (bits : ℕ) (slots rows : List (Option Row)) (task : Sketch)
    (arrays : List (Option ℕ)) (leases : List (Option Lent)) (stage last : State) (items : List Outline) (room : ℕ)
    → IsSwitch os state capacity → (one : Resized os state name size at o bits slots) → task ≡ sized o.task size → arrays ≡ map row_array slots
    → leases ≡ fresh_leases bits state.pools arrays → stage ≡ record state { pools = taken leases state.pools } → rows ≡ moved_all slots leases → last ≡ moved_on task slots rows stage
    → items ≡ insert (remove os at) at (kept_as task o.task.size (there rows)) → room ≡ capacity
    → IsSwitch items last room × (items ≡ edit_at at (moved_outline (sized o.task size) one.news) os)
resized_switch os state capacity name size at o bits slots rows task arrays leases stage last items room kept one t a l st r la it ro =
    let xs = fresh_leases bits state.pools (map row_array slots) in
    let new_task = sized o.task size in
    let leases_are : leases ≡ xs = l ∙ ap (fresh_leases bits state.pools) a in
    let rows_are : rows ≡ moved_all slots xs = r ∙ ap (moved_all slots) leases_are in
    let now : last ≡ moved_state state new_task slots xs (moved_all slots xs) =
    la ∙ ap (moved_on task slots rows) st ∙ ap (λ y. moved_state state y slots leases rows) t ∙ ap₂ (moved_state state new_task slots) leases_are rows_are in
    let new_is : kept_as task o.task.size (there rows) ≡ moved_outline new_task one.news o =
    ap₂ (λ y rs. kept_as y o.task.size rs) t (ap there rows_are ∙ one.all.moved) in
    let list : items ≡ one.front ++ moved_outline new_task one.news o ∷ one.back =
    it ∙ ap (insert (remove os at) at) new_is ∙ put_back os one.front one.back at o (moved_outline new_task one.news o) one.whole one.long in
    let new : IsSwitch (one.front ++ moved_outline new_task one.news o ∷ one.back) (moved_state state new_task slots xs (moved_all slots xs)) capacity =
    record { limits = kept.limits; sound = one.later; stands = one.all.stands; room = kept.room } in (
      subst (λ n. IsSwitch items last n) (sym ro)
          (subst (λ (s : State). IsSwitch items s capacity) (sym now)
          (subst (λ ys. IsSwitch ys (moved_state state new_task slots xs (moved_all slots xs)) capacity) (sym list) new)),
      list ∙ sym (edited_list os one.front one.back at o (moved_outline new_task one.news) one.whole one.long),
    )
