-- What an accepted change is.
use Rattle.std.proofs.Common.{◌≡◌, ℕ, Bool, true, false, cond, List, ◌∷◌, ◌++◌, length, map, position, refl, ap, sym, ◌∙◌}
use Rattle.std.specs.Prelude.{Option, None, Some, Result, Ok, Err, is_some}
use Rattle.std.specs.List.{All, slice_get}
use Rattle.addr_translate.specs.Geometry.{Geometry}
use Rattle.sketch_defs.specs.Tasks.{Sketch}
use Rattle.placer.specs.Sights.{bits_for}
use Rattle.placer.specs.Placement.{placed}
use Rattle.placer.specs.declared.places.Place.{Place}
use Rattle.placer.specs.declared.places as places
use Rattle.switch_model.specs.Records.{Row, Outline}
use Rattle.switch_model.specs.Sights.{sight_of}
use Rattle.switch_model.specs.Changes.{Add, Resize, Remove, Release, Edit, Push, Move, Drop, Thaw, Refusal, Exists, FrozenHeld, NoFrozen, is_called, row_at, pushed, added, moved_rows, moved, resized, at_found, at_place, at_name, judged}
use Rattle.switch_model.proofs.ListLemmas.{Parted, parted, get_here, none_passes}

pub if_ok : {T E : Type 0} (b : Bool) (e : E) (r : Result T E) (x : T) → cond b (Err e) r ≡ Ok x → (b ≡ false) × (r ≡ Ok x)
if_ok true e r x is = absurd (cc)
if_ok false e r x is = (refl, is)

pub then_ok : {T E : Type 0} (b : Bool) (e : E) (r : Result T E) (x : T) → cond b r (Err e) ≡ Ok x → (b ≡ true) × (r ≡ Ok x)
then_ok true e r x is = (refl, is)
then_ok false e r x is = absurd (cc)

-- ---- the task of a name

pub record FoundAt (name : List ℕ) (all : List Outline) (change : ℕ → Outline → Result Edit Refusal) (edit : Edit) : Type 0 where
  pub front : List Outline
  pub here : Outline
  pub back : List Outline
  pub is : all ≡ front ++ here ∷ back
  pub called : is_called name here ≡ true
  pub none : All (λ o. is_called name o ≡ false) front
  pub gives : change (length front) here ≡ Ok edit

pub found_at : (name : List ℕ) (all : List Outline) (change : ℕ → Outline → Result Edit Refusal) (edit : Edit) → at_name name all change ≡ Ok edit
    → FoundAt name all change edit
found_at name all change edit is = by (position (is_called name) all) refl is where
  by : (at : Option ℕ) → position (is_called name) all ≡ at → at_place at all change ≡ Ok edit → FoundAt name all change edit
  by None e f = absurd (cc)
  by (Some at) e f =
      let parts : Parted (is_called name) at all = parted (is_called name) all at e in
      let there : slice_get all at ≡ Some parts.here =
      ap (λ xs. slice_get xs at) parts.is ∙ ap (slice_get (parts.front ++ parts.here ∷ parts.back)) (sym parts.long)
      ∙ get_here parts.front parts.back parts.here in
      record {
        front = parts.front;
        here = parts.here;
        back = parts.back;
        is = parts.is;
        called = parts.passes;
        none = parts.none;
        gives = ap (λ n. change n parts.here) parts.long ∙ sym (ap (λ o. at_found at o change) there) ∙ f;
      }

-- ---- the four changes

pub record AddIs (geometry : Geometry) (all : List Outline) (task : Sketch) (edit : Edit) : Type 0 where
  pub bits : ℕ
  pub found : List Place
  pub new : All (λ o. is_called task.name o ≡ false) all
  pub size : bits_for geometry task.kind task.size ≡ Some bits
  pub places : placed geometry (sight_of geometry all) task bits ≡ Ok found
  pub is : edit ≡ Push task (map (row_at geometry (sight_of geometry all) task) found)

pub record ResizeIs (geometry : Geometry) (all : List Outline) (name : List ℕ) (size : ℕ) (edit : Edit) : Type 0 where
  pub front : List Outline
  pub here : Outline
  pub back : List Outline
  pub rows : List Row
  pub bits : ℕ
  pub whole : all ≡ front ++ here ∷ back
  pub called : is_called name here ≡ true
  pub none : All (λ o. is_called name o ≡ false) front
  pub free : is_some here.frozen ≡ false
  pub fits : bits_for geometry here.task.kind size ≡ Some bits
  pub moves : moved_rows geometry (sight_of geometry all) bits 0 here.rows ≡ Ok rows
  pub is : edit ≡ Move (length front) (record here.task { size = size }) rows

pub record EditsAt (name : List ℕ) (all : List Outline) (of : ℕ → Edit) (edit : Edit) : Type 0 where
  pub front : List Outline
  pub here : Outline
  pub back : List Outline
  pub whole : all ≡ front ++ here ∷ back
  pub called : is_called name here ≡ true
  pub none : All (λ o. is_called name o ≡ false) front
  pub is : edit ≡ of (length front)

pub add_is : (geometry : Geometry) (all : List Outline) (task : Sketch) (edit : Edit) → judged geometry all (Add task) ≡ Ok edit → AddIs geometry all task edit
unfolding judged
add_is geometry all task edit h =
    let sight = sight_of geometry all in
    let first = if_ok (is_some (position (is_called task.name) all)) Exists (added geometry sight task (bits_for geometry task.kind task.size)) edit h in
    by first.0 (bits_for geometry task.kind task.size) refl first.1 where
      placed_by : is_some (position (is_called task.name) all) ≡ false → (bits : ℕ) → bits_for geometry task.kind task.size ≡ Some bits
          → (r : Result (List Place) places.Refusal.Refusal) → placed geometry (sight_of geometry all) task bits ≡ r
          → pushed geometry (sight_of geometry all) task r ≡ Ok edit → AddIs geometry all task edit
      placed_by new bits e (Err why) f is = absurd (cc)
      placed_by new bits e (Ok found) f is =
          let same : Push task (map (row_at geometry (sight_of geometry all) task) found) ≡ edit = cc in
          record { bits = bits; found = found; new = none_passes (is_called task.name) all new; size = e; places = f; is = sym same }

      by : is_some (position (is_called task.name) all) ≡ false → (bits : Option ℕ) → bits_for geometry task.kind task.size ≡ bits
          → added geometry (sight_of geometry all) task bits ≡ Ok edit → AddIs geometry all task edit
      by new None e is = absurd (cc)
      by new (Some bits) e is = placed_by new bits e (placed geometry (sight_of geometry all) task bits) refl is

pub resize_is : (geometry : Geometry) (all : List Outline) (name : List ℕ) (size : ℕ) (edit : Edit) → judged geometry all (Resize name size) ≡ Ok edit
    → ResizeIs geometry all name size edit
unfolding judged
resize_is geometry all name size edit h =
    let change : ℕ → Outline → Result Edit Refusal = λ at o.
    cond (is_some o.frozen) (Err FrozenHeld) (resized geometry (sight_of geometry all) at size o (bits_for geometry o.task.kind size)) in
    let at : FoundAt name all change edit = found_at name all change edit h in
    let held = if_ok (is_some at.here.frozen) FrozenHeld
    (resized geometry (sight_of geometry all) (length at.front) size at.here (bits_for geometry at.here.task.kind size)) edit at.gives in
    by at.front at.here at.back at.is at.called at.none held.0 (bits_for geometry at.here.task.kind size) refl held.1 where
      rows_by : (front : List Outline) (here : Outline) (back : List Outline) → all ≡ front ++ here ∷ back → is_called name here ≡ true
          → All (λ o. is_called name o ≡ false) front → is_some here.frozen ≡ false → (bits : ℕ) → bits_for geometry here.task.kind size ≡ Some bits
          → (rows : Result (List Row) ℕ) → moved_rows geometry (sight_of geometry all) bits 0 here.rows ≡ rows
          → moved (length front) (record here.task { size = size }) rows ≡ Ok edit → ResizeIs geometry all name size edit
      rows_by front here back whole called none free bits e (Err row) f is = absurd (cc)
      rows_by front here back whole called none free bits e (Ok rows) f is =
          let same : Move (length front) (record here.task { size = size }) rows ≡ edit = cc in
          record {
            front = front;
            here = here;
            back = back;
            rows = rows;
            bits = bits;
            whole = whole;
            called = called;
            none = none;
            free = free;
            fits = e;
            moves = f;
            is = sym same;
          }

      by : (front : List Outline) (here : Outline) (back : List Outline) → all ≡ front ++ here ∷ back → is_called name here ≡ true
          → All (λ o. is_called name o ≡ false) front → is_some here.frozen ≡ false → (bits : Option ℕ) → bits_for geometry here.task.kind size ≡ bits
          → resized geometry (sight_of geometry all) (length front) size here bits ≡ Ok edit → ResizeIs geometry all name size edit
      by front here back whole called none free None e is = absurd (cc)
      by front here back whole called none free (Some bits) e is =
          rows_by front here back whole called none free bits e (moved_rows geometry (sight_of geometry all) bits 0 here.rows) refl is

pub remove_is : (geometry : Geometry) (all : List Outline) (name : List ℕ) (edit : Edit) → judged geometry all (Remove name) ≡ Ok edit
    → EditsAt name all Drop edit
unfolding judged
remove_is geometry all name edit h =
    let change : ℕ → Outline → Result Edit Refusal = λ at o. Ok (Drop at) in
    let at : FoundAt name all change edit = found_at name all change edit h in
    let ok : change (length at.front) at.here ≡ Ok edit = at.gives in
    let same : Drop (length at.front) ≡ edit = cc in
    record { front = at.front; here = at.here; back = at.back; whole = at.is; called = at.called; none = at.none; is = sym same }

pub release_is : (geometry : Geometry) (all : List Outline) (name : List ℕ) (edit : Edit) → judged geometry all (Release name) ≡ Ok edit
    → EditsAt name all Thaw edit
unfolding judged
release_is geometry all name edit h =
    let change : ℕ → Outline → Result Edit Refusal = λ at o. cond (is_some o.frozen) (Ok (Thaw at)) (Err NoFrozen) in
    let at : FoundAt name all change edit = found_at name all change edit h in
    let ok = (then_ok (is_some at.here.frozen) NoFrozen (Ok (Thaw (length at.front))) edit at.gives).1 in
    let same : Thaw (length at.front) ≡ edit = cc in
    record { front = at.front; here = at.here; back = at.back; whole = at.is; called = at.called; none = at.none; is = sym same }
