-- What the switch knows where it resizes a task, removes one, or releases its frozen rows.
use Rattle.std.proofs.Common.{◌≡◌, ◌≢◌, ℕ, ◌<◌, true, false, cond, List, [], ◌∷◌, ◌++◌, length, map, position, insert, remove, refl, ap, ap₂, sym, ◌∙◌, subst}
use Rattle.std.specs.Prelude.{Option, None, Some, is_some, Result, Ok, Err, slice_index_or}
use Rattle.std.specs.List.{All, AllPairs, slice_get}
use Rattle.std.proofs.lemmas.List.Elements.{All-weaker, All-map}
use Rattle.addr_translate.specs.Geometry.{Geometry, array_count}
use Rattle.placer.specs.Sights.{bits_for}
use Rattle.placer.specs.Placement.{first_full}
use Rattle.sketch_defs.specs.Tasks.{Sketch}
use Rattle.switch_model.specs.Records.{Row, Outline}
use Rattle.switch_model.specs.Sights.{all_held, sight_of}
use Rattle.switch_model.specs.Soundness.{IsRow, IsTask, RisesIn, Sound}
use Rattle.switch_model.specs.Changes.{Refusal, Unknown, FrozenHeld, BadMemory, NoRoom, Edit, Move, Resize, is_called, moved_rows, moved, resized, at_found, at_place, at_name, moved_outline, judged, edit_at}
use Rattle.switch_model.proofs.ListLemmas.{Parted, parted, get_here, removed_here, all_here, pairs_map, pairs_weaker}
use Rattle.switch_model.proofs.AddLemmas.{rises_differ}
use Rattle.switch_model.proofs.SoundLemmas.{moved_list, sound_changed}
use Rattle.rule_txn.specs.State.{State, there}
use Rattle.rule_txn.specs.Stages.{arrays_there}
use Rattle.rule_txn.specs.Switch.{Stands, IsSwitch}
use Rattle.rule_txn.proofs.Pools.{length-pools}
use Rattle.rule_txn.proofs.Resizes.{Resizes, resizes, room_some, room_none}

-- ---- the task of a name

pub record FoundAt (os : List Outline) (at : ℕ) (o : Outline) : Type 0 where
  pub front : List Outline
  pub back : List Outline
  pub whole : os ≡ front ++ o ∷ back
  pub long : length front ≡ at
  pub get : slice_get os at ≡ Some o

here_is : {X : Type 0} (front back : List X) (x d : X) → slice_index_or (front ++ x ∷ back) (length front) d ≡ x
here_is [] back x d = refl
here_is (y ∷ front) back x d = here_is front back x d

pub found_at : (name : List ℕ) (os : List Outline) (at : ℕ) (o : Outline) → position (is_called name) os ≡ Some at → o ≡ slice_index_or os at o → FoundAt os at o
found_at name os at o found here =
    let parts : Parted (is_called name) at os = parted (is_called name) os at found in
    let same : o ≡ parts.here =
    here ∙ ap (λ ys. slice_index_or ys at o) parts.is ∙ ap (λ n. slice_index_or (parts.front ++ parts.here ∷ parts.back) n o) (sym parts.long)
    ∙ here_is parts.front parts.back parts.here o in
    let whole : os ≡ parts.front ++ o ∷ parts.back = parts.is ∙ ap (λ y. parts.front ++ y ∷ parts.back) (sym same) in
    record {
      front = parts.front;
      back = parts.back;
      whole = whole;
      long = parts.long;
      get = ap (λ ys. slice_get ys at) whole ∙ ap (slice_get (parts.front ++ o ∷ parts.back)) (sym parts.long) ∙ get_here parts.front parts.back o;
    }

judged_at : (name : List ℕ) (os : List Outline) (at : ℕ) (o : Outline) (change : ℕ → Outline → Result Edit Refusal) → position (is_called name) os ≡ Some at → slice_get os at ≡ Some o
    → at_name name os change ≡ change at o
judged_at name os at o change found get =
    ap (λ p. at_place p os change) found ∙ ap (λ x. at_found at x change) get

insert_here : {X : Type 0} (front back : List X) (x : X) → insert (front ++ back) (length front) x ≡ front ++ x ∷ back
insert_here [] back x = refl
insert_here (y ∷ front) back x = ap (λ ys. y ∷ ys) (insert_here front back x)

-- the task at its place, with another in its stead
pub put_back : (os front back : List Outline) (at : ℕ) (o y : Outline) → os ≡ front ++ o ∷ back → length front ≡ at → insert (remove os at) at y ≡ front ++ y ∷ back
put_back os front back at o y whole long =
    ap₂ (λ xs n. insert (remove xs n) n y) whole (sym long) ∙ ap (λ xs. insert xs (length front) y) (removed_here front back o) ∙ insert_here front back y

-- ---- a resize that is refused

pub unknown_resize : (geometry : Geometry) (os : List Outline) (name : List ℕ) (size : ℕ) → position (is_called name) os ≡ None → judged geometry os (Resize name size) ≡ Err Unknown
unfolding judged
unknown_resize geometry os name size none =
    ap (λ p. at_place p os (λ at (o : Outline). cond (is_some o.frozen) (Err FrozenHeld) (resized geometry (sight_of geometry os) at size o (bits_for geometry o.task.kind size)))) none

resize_at : (geometry : Geometry) (os : List Outline) (name : List ℕ) (size at : ℕ) (o : Outline) → position (is_called name) os ≡ Some at → slice_get os at ≡ Some o
    → judged geometry os (Resize name size) ≡ cond (is_some o.frozen) (Err FrozenHeld) (resized geometry (sight_of geometry os) at size o (bits_for geometry o.task.kind size))
unfolding judged
resize_at geometry os name size at o found get =
    judged_at name os at o (λ at (o : Outline). cond (is_some o.frozen) (Err FrozenHeld) (resized geometry (sight_of geometry os) at size o (bits_for geometry o.task.kind size))) found get

pub frozen_resize : (geometry : Geometry) (os : List Outline) (name : List ℕ) (size at : ℕ) (o : Outline) → position (is_called name) os ≡ Some at → o ≡ slice_index_or os at o
    → is_some o.frozen ≡ true → judged geometry os (Resize name size) ≡ Err FrozenHeld
frozen_resize geometry os name size at o found here frozen =
    let f : FoundAt os at o = found_at name os at o found here in
    resize_at geometry os name size at o found f.get
    ∙ ap (λ b. cond b (Err FrozenHeld) (resized geometry (sight_of geometry os) at size o (bits_for geometry o.task.kind size))) frozen

-- what the switch looks at before it resizes
pub record Looks (os : List Outline) (state : State) (capacity : ℕ) (name : List ℕ) (size at : ℕ) (o : Outline) : Type 0 where
  pub kept : IsSwitch os state capacity
  pub place : position (is_called name) os ≡ Some at
  pub here : o ≡ slice_index_or os at o
  pub free : is_some o.frozen ≡ false

sized_resize : (os : List Outline) (state : State) (capacity : ℕ) (name : List ℕ) (size at : ℕ) (o : Outline) (bits : Option ℕ) → Looks os state capacity name size at o
    → bits_for state.geometry o.task.kind size ≡ bits
    → judged state.geometry os (Resize name size) ≡ resized state.geometry (sight_of state.geometry os) at size o bits
sized_resize os state capacity name size at o bits looks is =
    let f : FoundAt os at o = found_at name os at o looks.place looks.here in
    resize_at state.geometry os name size at o looks.place f.get
    ∙ ap (λ b. cond b (Err FrozenHeld) (resized state.geometry (sight_of state.geometry os) at size o (bits_for state.geometry o.task.kind size))) looks.free
    ∙ ap (resized state.geometry (sight_of state.geometry os) at size o) is

pub bad_resize : (os : List Outline) (state : State) (capacity : ℕ) (name : List ℕ) (size at : ℕ) (o : Outline) → Looks os state capacity name size at o
    → bits_for state.geometry o.task.kind size ≡ None → judged state.geometry os (Resize name size) ≡ Err (BadMemory size)
bad_resize os state capacity name size at o looks none = sized_resize os state capacity name size at o None looks none

pub task_is : (os : List Outline) (state : State) (capacity : ℕ) (name : List ℕ) (at : ℕ) (o : Outline) → IsSwitch os state capacity → position (is_called name) os ≡ Some at
    → o ≡ slice_index_or os at o → IsTask state.geometry o
task_is os state capacity name at o kept place here =
    let f : FoundAt os at o = found_at name os at o place here in
    all_here (IsTask state.geometry) f.front f.back o (subst (All (IsTask state.geometry)) f.whole kept.sound.tasks)

rows_exist : (geometry : Geometry) (o : Outline) → IsTask geometry o → All (λ (row : Row). row.array < array_count geometry) o.rows
rows_exist geometry o is = All-weaker (IsRow geometry o) (λ (row : Row). row.array < array_count geometry) (λ row r. r.array) o.rows is.each

-- the arrays of a task's rows exist and differ
pub arrays_exist : (os : List Outline) (state : State) (capacity : ℕ) (name : List ℕ) (at : ℕ) (o : Outline) (slots : List (Option Row)) → IsSwitch os state capacity
    → position (is_called name) os ≡ Some at → o ≡ slice_index_or os at o → there slots ≡ o.rows
    → All (λ array. array < length state.pools) (arrays_there slots) × AllPairs (λ (one two : ℕ). one ≢ two) (arrays_there slots)
arrays_exist os state capacity name at o slots kept place here rows =
    let is : IsTask state.geometry o = task_is os state capacity name at o kept place here in
    let count : length state.pools ≡ array_count state.geometry = length-pools state.geometry (all_held os) state.pools kept.stands.pools in (
      subst (λ rs. All (λ array. array < length state.pools) (map (λ (row : Row). row.array) rs)) (sym rows)
          (All-map (λ array. array < length state.pools) (λ (row : Row). row.array) o.rows
          (subst (λ n. All (λ (row : Row). row.array < n) o.rows) (sym count) (rows_exist state.geometry o is))),
      subst (λ rs. AllPairs (λ (one two : ℕ). one ≢ two) (map (λ (row : Row). row.array) rs)) (sym rows)
          (pairs_map (λ (one two : ℕ). one ≢ two) (λ (row : Row). row.array) o.rows
          (pairs_weaker (RisesIn state.geometry o.task.kind) (λ (one two : Row). one.array ≢ two.array) (λ one two r. rises_differ state.geometry o.task.kind one two r) o.rows is.rising)),
    )

pub full_resize : (os : List Outline) (state : State) (capacity : ℕ) (name : List ℕ) (size at : ℕ) (o : Outline) (bits row : ℕ) (slots : List (Option Row)) → Looks os state capacity name size at o
    → bits_for state.geometry o.task.kind size ≡ Some bits → there slots ≡ o.rows → first_full state.pools bits (arrays_there slots) ≡ Some row
    → judged state.geometry os (Resize name size) ≡ Err (NoRoom row)
full_resize os state capacity name size at o bits row slots looks is rows full =
    let kept : IsSwitch os state capacity = looks.kept in
    let task : IsTask state.geometry o = task_is os state capacity name at o kept looks.place looks.here in
    sized_resize os state capacity name size at o (Some bits) looks is
    ∙ ap (moved at (record o.task { size = size }))
    (room_some state.geometry os state.pools bits row o.rows kept.stands.pools (rows_exist state.geometry o task)
    (ap (λ rs. first_full state.pools bits (map (λ (r : Row). r.array) rs)) (sym rows) ∙ full))

-- ---- one that is made

abbrev pub sized : Sketch → ℕ → Sketch
sized task size = record task { size = size }

pub record Sizes (os : List Outline) (state : State) (capacity : ℕ) (name : List ℕ) (size at : ℕ) (o : Outline) (bits : ℕ) (slots : List (Option Row)) : Type 0 where
  pub looks : Looks os state capacity name size at o
  pub bits_are : bits_for state.geometry o.task.kind size ≡ Some bits
  pub rows : there slots ≡ o.rows
  pub room : first_full state.pools bits (arrays_there slots) ≡ None

pub record Resized (os : List Outline) (state : State) (name : List ℕ) (size at : ℕ) (o : Outline) (bits : ℕ) (slots : List (Option Row)) : Type 0 where
  pub news : List Row
  pub front : List Outline
  pub back : List Outline
  pub whole : os ≡ front ++ o ∷ back
  pub long : length front ≡ at
  pub judged_is : judged state.geometry os (Resize name size) ≡ Ok (Move at (sized o.task size) news)
  pub all : Resizes front back o state bits size slots news
  pub later : Sound state.geometry (front ++ moved_outline (sized o.task size) news o ∷ back)

pub is_resized : (os : List Outline) (state : State) (capacity : ℕ) (name : List ℕ) (size at : ℕ) (o : Outline) (bits : ℕ) (slots : List (Option Row))
    → Sizes os state capacity name size at o bits slots → Resized os state name size at o bits slots
is_resized os state capacity name size at o bits slots sizes =
    let geometry = state.geometry in
    let looks : Looks os state capacity name size at o = sizes.looks in
    let kept : IsSwitch os state capacity = looks.kept in
    let f : FoundAt os at o = found_at name os at o looks.place looks.here in
    let is : IsTask geometry o = task_is os state capacity name at o kept looks.place looks.here in
    let moves = room_none geometry os state.pools bits o.rows kept.stands.pools (rows_exist geometry o is)
    (ap (λ rs. first_full state.pools bits (map (λ (r : Row). r.array) rs)) (sym sizes.rows) ∙ sizes.room) in
    let news : List Row = moves.0 in
    let verdict : judged geometry os (Resize name size) ≡ Ok (Move at (sized o.task size) news) =
    sized_resize os state capacity name size at o (Some bits) looks sizes.bits_are ∙ ap (moved at (sized o.task size)) moves.1 in
    let sound = sound_changed geometry os (Resize name size) (Move at (sized o.task size) news) kept.limits tt kept.sound verdict in
    let list : edit_at at (moved_outline (sized o.task size) news) os ≡ f.front ++ moved_outline (sized o.task size) news o ∷ f.back =
    ap (λ n. edit_at n (moved_outline (sized o.task size) news) os) (sym f.long) ∙ moved_list os f.front f.back o (moved_outline (sized o.task size) news) f.whole in
    let later : Sound geometry (f.front ++ moved_outline (sized o.task size) news o ∷ f.back) = subst (Sound geometry) list sound in
    record {
      news = news;
      front = f.front;
      back = f.back;
      whole = f.whole;
      long = f.long;
      judged_is = verdict;
      all = resizes f.front f.back o state bits size slots news (subst (Sound geometry) f.whole kept.sound) (subst (λ ys. Stands ys state) f.whole kept.stands) sizes.rows looks.free
          (ap (λ ys. moved_rows geometry (sight_of geometry ys) bits 0 o.rows) (sym f.whole) ∙ moves.1) later;
      later = later;
    }
