-- A task knows of no other: its sketch part after a history is the one that it has alone.
use Rattle.std.proofs.Common.{ap₂, ◌≡◌, ◌≢◌, ℕ, Bool, true, false, cond, List, [], ◌∷◌, ◌++◌, length, map, remove, refl, ap, sym, ◌∙◌, subst}
use Rattle.std.specs.Prelude.{None, Some, Result, Ok, Err, option_map}
use Rattle.std.specs.List.{All, AllPairs, find, fold}
use Rattle.std.specs.Str.{bytes_eq}
use Rattle.std.proofs.lemmas.Bool.{false≢true}
use Rattle.std.proofs.lemmas.List.{append-nil}
use Rattle.std.proofs.lemmas.List.Sums.{fold-append}
use Rattle.std.proofs.lemmas.List.Elements.{All-nil, All-cons, All-weaker, All-head, All-tail}
use Rattle.std.proofs.lemmas.Slice.Eq.{bytes_eq-Decides}
use Rattle.addr_translate.specs.Geometry.{Geometry}
use Rattle.pkt_headers.specs.declared.packets.Packet.{Packet}
use Rattle.task_filters.specs.Filters.{passes}
use Rattle.sketch_defs.specs.Tasks.{Sketch}
use Rattle.switch_model.specs.Records.{Part, Row, Record, Outline, outline, outlines}
use Rattle.switch_model.specs.Sights.{sight_of}
use Rattle.switch_model.specs.Soundness.{HaveOwnNames}
use Rattle.switch_model.specs.Changes.{Change, Add, Resize, Remove, Release, Edit, Push, Move, Drop, Thaw, Refusal, judged, is_called, edit_at, started, resized_part, released_part, thawed_row, row_at, new_outline, moved_outline, thawed_outline, edited_outlines, edited_records, after_verdict, changed}
use Rattle.switch_model.specs.Packets.{joined_part, joined, join}
use Rattle.switch_model.specs.Histories.{Event, Passes, Changes, stepped, after, is_accepted, kept, accepted, has_name, part_of, own_change, name_in, alone_after, alone}
use Rattle.switch_model.specs.Laws.{IsAlone}
use Rattle.switch_model.proofs.ListLemmas.{Around, Split, split_map, map_append, map_remove, length_map, mapped_edit, around, pairs_between, pairs_append, pairs_mapped, one_pair, no_pairs, all_mapped, edited_here, removed_here}
use Rattle.switch_model.proofs.JudgedLemmas.{AddIs, ResizeIs, EditsAt, add_is, resize_is, remove_is, release_is}

pub same_bytes : (xs ys : List ℕ) → bytes_eq xs ys ≡ true → xs ≡ ys
same_bytes xs ys e = (bytes_eq-Decides xs ys).0 e

pub bytes_same : (xs ys : List ℕ) → xs ≡ ys → bytes_eq xs ys ≡ true
bytes_same xs ys e = (bytes_eq-Decides xs ys).1 e

pub not_same : (xs ys : List ℕ) → xs ≢ ys → bytes_eq xs ys ≡ false
not_same xs ys ne = by (bytes_eq xs ys) refl where
  by : (b : Bool) → bytes_eq xs ys ≡ b → b ≡ false
  by true e = absurd (ne (same_bytes xs ys e))
  by false e = refl

-- ---- the part of a name

-- an edit of each record that keeps its name
pub part_mapped : (name : List ℕ) (f : Record → Record) (g : Part → Part) → ((r : Record) → (f r).part ≡ g r.part)
    → ((r : Record) → (f r).part.task.name ≡ r.part.task.name) → (rs : List Record) → part_of name (map f rs) ≡ option_map g (part_of name rs)
part_mapped name f g parts names [] = refl
part_mapped name f g parts names (r ∷ rs) = by (part_mapped name f g parts names rs) (has_name name r) (ap (λ n. bytes_eq n name) (names r)) where
  by : part_of name (map f rs) ≡ option_map g (part_of name rs) → (b : Bool) → has_name name (f r) ≡ b
      → option_map (λ (r : Record). r.part) (cond (has_name name (f r)) (Some (f r)) (find (has_name name) (map f rs)))
      ≡ option_map g (option_map (λ (r : Record). r.part) (cond b (Some r) (find (has_name name) rs)))
  by rest true e = ap (λ b. option_map (λ (r : Record). r.part) (cond b (Some (f r)) (find (has_name name) (map f rs)))) e ∙ ap Some (parts r)
  by rest false e = ap (λ b. option_map (λ (r : Record). r.part) (cond b (Some (f r)) (find (has_name name) (map f rs)))) e ∙ rest

-- records in front that have other names are passed over
past_others : (name : List ℕ) (front back : List Record) → All (λ r. has_name name r ≡ false) front → part_of name (front ++ back) ≡ part_of name back
past_others name [] back none = refl
past_others name (r ∷ front) back none =
    ap (λ b. option_map (λ (r : Record). r.part) (cond b (Some r) (find (has_name name) (front ++ back)))) (All-head (λ r. has_name name r ≡ false) r front none)
    ∙ past_others name front back (All-tail (λ r. has_name name r ≡ false) r front none)

pub first_is : (name : List ℕ) (r : Record) (rs : List Record) → has_name name r ≡ true → part_of name (r ∷ rs) ≡ Some r.part
first_is name r rs e = ap (λ b. option_map (λ (r : Record). r.part) (cond b (Some r) (find (has_name name) rs))) e

pub first_other : (name : List ℕ) (r : Record) (rs : List Record) → has_name name r ≡ false → part_of name (r ∷ rs) ≡ part_of name rs
first_other name r rs e = ap (λ b. option_map (λ (r : Record). r.part) (cond b (Some r) (find (has_name name) rs))) e

-- the same front, and behind it lists in which the name has the same part
same_front : (name : List ℕ) (front xs ys : List Record) → part_of name xs ≡ part_of name ys → part_of name (front ++ xs) ≡ part_of name (front ++ ys)
same_front name [] xs ys e = e
same_front name (r ∷ front) xs ys e = by (same_front name front xs ys e) (has_name name r) where
  by : part_of name (front ++ xs) ≡ part_of name (front ++ ys) → (b : Bool)
      → option_map (λ (r : Record). r.part) (cond b (Some r) (find (has_name name) (front ++ xs)))
      ≡ option_map (λ (r : Record). r.part) (cond b (Some r) (find (has_name name) (front ++ ys)))
  by rest true = refl
  by rest false = rest

pub not_there : (name : List ℕ) (rs : List Record) → All (λ r. has_name name r ≡ false) rs → part_of name rs ≡ None
not_there name rs none = ap (part_of name) (sym (append-nil rs)) ∙ past_others name rs [] none

-- ---- the record at a place

pub record RecordAt (name : List ℕ) (rs : List Record) (front : List Outline) (here : Outline) (back : List Outline) : Type 0 where
  pub before : List Record
  pub one : Record
  pub after : List Record
  pub is : rs ≡ before ++ one ∷ after
  pub fronts : map outline before ≡ front
  pub heres : outline one ≡ here
  pub backs : map outline after ≡ back
  pub called : has_name name one ≡ true
  pub none : All (λ r. has_name name r ≡ false) before

pub record_at : (name : List ℕ) (rs : List Record) (front : List Outline) (here : Outline) (back : List Outline) → outlines rs ≡ front ++ here ∷ back
    → is_called name here ≡ true → All (λ o. is_called name o ≡ false) front → RecordAt name rs front here back
record_at name rs front here back whole called none =
    let split : Split outline rs front here back = split_map outline rs front here back whole in
    record {
      before = split.front;
      one = split.one;
      after = split.back;
      is = split.is;
      fronts = split.fronts;
      heres = split.heres;
      backs = split.backs;
      called = ap (is_called name) split.heres ∙ called;
      none = all_mapped (λ o. is_called name o ≡ false) outline split.front (subst (All (λ o. is_called name o ≡ false)) (sym split.fronts) none);
    }

-- ---- names

-- an edit of the outlines is that of the records
pub edited_same : (edit : Edit) (rs : List Record) → outlines (edited_records edit rs) ≡ edited_outlines edit (outlines rs)
edited_same (Push task rows) rs = map_append outline rs (record { part = started task; rows = rows } ∷ [])
edited_same (Move at task rows) rs =
    mapped_edit outline (λ (r : Record). record { part = resized_part task r.part; rows = rows }) (moved_outline task rows) (λ r. refl) at rs
edited_same (Drop at) rs = map_remove outline rs at
edited_same (Thaw at) rs =
    mapped_edit outline (λ (r : Record). record { part = released_part r.part; rows = map thawed_row r.rows }) thawed_outline (λ r. refl) at rs

-- a packet is nothing to the outlines
joined_outline : (packet : Packet) (r : Record) → outline (joined packet r) ≡ outline r
joined_outline packet r = by (passes r.part.task.filter packet.vec) where
  by : (b : Bool) → outline (let new : Record = record { part = cond b (record r.part { packets = r.part.packets ++ packet ∷ [] }) r.part; rows = r.rows } in new) ≡ outline r
  by true = refl
  by false = refl

pub join_same : (packet : Packet) (rs : List Record) → outlines (join packet rs) ≡ outlines rs
unfolding join
join_same packet [] = refl
join_same packet (r ∷ rs) = ap₂ (λ o os. o ∷ os) (joined_outline packet r) (join_same packet rs)

abbrev pub HaveNames : List Outline → Type 0
HaveNames all = AllPairs HaveOwnNames all

pub not_called : (name : List ℕ) (o : Outline) → is_called name o ≡ false → o.task.name ≢ name
not_called name o e same = false≢true (sym e ∙ bytes_same o.task.name name same)

pub renamed : (front back : List Outline) (o p : Outline) → p.task.name ≡ o.task.name → HaveNames (front ++ o ∷ back) → HaveNames (front ++ p ∷ back)
renamed front back o p same names =
    let a : Around HaveOwnNames front back o = around HaveOwnNames front back o names in
    pairs_between HaveOwnNames front back p a.others
    (All-weaker (λ y. HaveOwnNames y o) (λ y. HaveOwnNames y p) (λ y ne e. ne (e ∙ same)) front a.before)
    (All-weaker (HaveOwnNames o) (HaveOwnNames p) (λ y ne e. ne (sym same ∙ e)) back a.after)

-- an accepted change leaves different names
pub names_stay : (geometry : Geometry) (all : List Outline) (change : Change) (edit : Edit) → judged geometry all change ≡ Ok edit
    → HaveNames all → HaveNames (edited_outlines edit all)
names_stay geometry all (Add task) edit h names =
    let is : AddIs geometry all task edit = add_is geometry all task edit h in
    let rows : List Row = map (row_at geometry (sight_of geometry all) task) is.found in
    subst (λ (e : Edit). HaveNames (edited_outlines e all)) (sym is.is)
    (pairs_append HaveOwnNames all (new_outline task rows ∷ []) names (one_pair HaveOwnNames (new_outline task rows))
    (All-weaker (λ o. is_called task.name o ≡ false) (λ o. All (HaveOwnNames o) (new_outline task rows ∷ []))
    (λ o e. All-cons (HaveOwnNames o) (new_outline task rows) [] (not_called task.name o e) (All-nil (HaveOwnNames o))) all is.new))
names_stay geometry all (Resize name size) edit h names =
    let is : ResizeIs geometry all name size edit = resize_is geometry all name size edit h in
    let task : Sketch = record is.here.task { size = size } in
    subst (λ (e : Edit). HaveNames (edited_outlines e all)) (sym is.is)
    (subst HaveNames (sym (ap (edit_at (length is.front) (moved_outline task is.rows)) is.whole ∙ edited_here (moved_outline task is.rows) is.front is.back is.here))
    (renamed is.front is.back is.here (moved_outline task is.rows is.here) refl (subst HaveNames is.whole names)))
names_stay geometry all (Remove name) edit h names =
    let is : EditsAt name all Drop edit = remove_is geometry all name edit h in
    subst (λ (e : Edit). HaveNames (edited_outlines e all)) (sym is.is)
    (subst HaveNames (sym (ap (λ (os : List Outline). remove os (length is.front)) is.whole ∙ removed_here is.front is.back is.here))
    (let a : Around HaveOwnNames is.front is.back is.here = around HaveOwnNames is.front is.back is.here (subst HaveNames is.whole names) in a.others))
names_stay geometry all (Release name) edit h names =
    let is : EditsAt name all Thaw edit = release_is geometry all name edit h in
    subst (λ (e : Edit). HaveNames (edited_outlines e all)) (sym is.is)
    (subst HaveNames (sym (ap (edit_at (length is.front) thawed_outline) is.whole ∙ edited_here thawed_outline is.front is.back is.here))
    (renamed is.front is.back is.here (thawed_outline is.here) refl (subst HaveNames is.whole names)))

-- ---- one event

-- the task of another name at a place, or the task itself
edited_part : (name other : List ℕ) (rs : List Record) (front : List Outline) (here : Outline) (back : List Outline) (f : Record → Record) (g : Part → Part)
    → (at : RecordAt other rs front here back) → (f at.one).part ≡ g at.one.part → (f at.one).part.task.name ≡ at.one.part.task.name
    → part_of name (edit_at (length front) f rs) ≡ cond (bytes_eq other name) (option_map g (part_of name rs)) (part_of name rs)
edited_part name other rs front here back f g at parts names =
    ap (λ n. part_of name (edit_at n f rs)) (sym (ap length at.fronts) ∙ length_map outline at.before)
    ∙ ap (λ xs. part_of name (edit_at (length at.before) f xs)) at.is
    ∙ ap (part_of name) (edited_here f at.before at.after at.one)
    ∙ by (bytes_eq other name) refl
    ∙ ap (λ xs. cond (bytes_eq other name) (option_map g (part_of name xs)) (part_of name xs)) (sym at.is) where
      before : List Record
      before = at.before

      one : Record
      one = at.one

      after : List Record
      after = at.after

      its_name : one.part.task.name ≡ other
      its_name = same_bytes one.part.task.name other at.called

      by : (b : Bool) → bytes_eq other name ≡ b
          → part_of name (before ++ f one ∷ after) ≡ cond b (option_map g (part_of name (before ++ one ∷ after))) (part_of name (before ++ one ∷ after))
      by true e =
          let same : other ≡ name = same_bytes other name e in
          let none : All (λ r. has_name name r ≡ false) before = subst (λ (n : List ℕ). All (λ r. has_name n r ≡ false) before) same at.none in
          past_others name before (f one ∷ after) none
          ∙ first_is name (f one) after (bytes_same (f one).part.task.name name (names ∙ its_name ∙ same))
          ∙ ap Some parts
          ∙ sym (ap (option_map g) (past_others name before (one ∷ after) none ∙ first_is name one after (bytes_same one.part.task.name name (its_name ∙ same))))
      by false e =
          let here_not : has_name name one ≡ false = ap (λ n. bytes_eq n name) its_name ∙ e in
          let there_not : has_name name (f one) ≡ false = ap (λ n. bytes_eq n name) (names ∙ its_name) ∙ e in
          same_front name before (f one ∷ after) (one ∷ after)
          (first_other name (f one) after there_not ∙ sym (first_other name one after here_not))

-- where names differ a task that goes is gone
dropped_part : (name other : List ℕ) (rs : List Record) (front : List Outline) (here : Outline) (back : List Outline) → HaveNames (outlines rs)
    → (at : RecordAt other rs front here back)
    → part_of name (remove rs (length front)) ≡ cond (bytes_eq other name) None (part_of name rs)
dropped_part name other rs front here back names at =
    ap (λ n. part_of name (remove rs n)) (sym (ap length at.fronts) ∙ length_map outline at.before)
    ∙ ap (λ xs. part_of name (remove xs (length at.before))) at.is
    ∙ ap (part_of name) (removed_here at.before at.after at.one)
    ∙ by (bytes_eq other name) refl
    ∙ ap (λ xs. cond (bytes_eq other name) None (part_of name xs)) (sym at.is) where
      before : List Record
      before = at.before

      one : Record
      one = at.one

      after : List Record
      after = at.after

      its_name : one.part.task.name ≡ other
      its_name = same_bytes one.part.task.name other at.called

      apart : AllPairs (λ (x y : Record). x.part.task.name ≢ y.part.task.name) (before ++ one ∷ after)
      apart = subst (AllPairs (λ (x y : Record). x.part.task.name ≢ y.part.task.name)) at.is (pairs_mapped HaveOwnNames outline rs names)

      later : All (λ (y : Record). one.part.task.name ≢ y.part.task.name) after
      later = let a : Around (λ (x y : Record). x.part.task.name ≢ y.part.task.name) before after one = around (λ (x y : Record). x.part.task.name ≢ y.part.task.name) before after one apart in a.after

      by : (b : Bool) → bytes_eq other name ≡ b
          → part_of name (before ++ after) ≡ cond b None (part_of name (before ++ one ∷ after))
      by true e =
          let same : other ≡ name = same_bytes other name e in
          let none : All (λ r. has_name name r ≡ false) before = subst (λ (n : List ℕ). All (λ r. has_name n r ≡ false) before) same at.none in
          past_others name before after none
          ∙ not_there name after (All-weaker (λ (y : Record). one.part.task.name ≢ y.part.task.name) (λ r. has_name name r ≡ false)
          (λ r ne. not_same r.part.task.name name (λ is. ne (its_name ∙ same ∙ sym is))) after later)
      by false e =
          same_front name before after (one ∷ after) (sym (first_other name one after (ap (λ n. bytes_eq n name) its_name ∙ e)))

-- what an accepted change makes of a task
pub changed_part : (geometry : Geometry) (name : List ℕ) (rs : List Record) (change : Change) (edit : Edit)
    → judged geometry (outlines rs) change ≡ Ok edit → HaveNames (outlines rs)
    → part_of name (edited_records edit rs) ≡ cond (bytes_eq (name_in change) name) (own_change change (part_of name rs)) (part_of name rs)
changed_part geometry name rs (Add task) edit h names =
    let is : AddIs geometry (outlines rs) task edit = add_is geometry (outlines rs) task edit h in
    let rows : List Row = map (row_at geometry (sight_of geometry (outlines rs)) task) is.found in
    let new : All (λ r. has_name task.name r ≡ false) rs = all_mapped (λ o. is_called task.name o ≡ false) outline rs is.new in
    ap (λ (e : Edit). part_of name (edited_records e rs)) is.is ∙ by rows new (bytes_eq task.name name) refl where
      by : (rows : List Row) → All (λ r. has_name task.name r ≡ false) rs → (b : Bool) → bytes_eq task.name name ≡ b
          → part_of name (rs ++ (let r : Record = record { part = started task; rows = rows } in r) ∷ [])
          ≡ cond b (Some (started task)) (part_of name rs)
      by rows new true e =
          let same : task.name ≡ name = same_bytes task.name name e in
          let r : Record = record { part = started task; rows = rows } in
          past_others name rs (r ∷ []) (subst (λ (n : List ℕ). All (λ r. has_name n r ≡ false) rs) same new)
          ∙ first_is name r [] e
      by rows new false e =
          let r : Record = record { part = started task; rows = rows } in
          same_front name rs (r ∷ []) [] (first_other name r [] e) ∙ ap (part_of name) (append-nil rs)
changed_part geometry name rs (Resize other size) edit h names =
    let is : ResizeIs geometry (outlines rs) other size edit = resize_is geometry (outlines rs) other size edit h in
    let at : RecordAt other rs is.front is.here is.back = record_at other rs is.front is.here is.back is.whole is.called is.none in
    let task : Sketch = record is.here.task { size = size } in
    ap (λ (e : Edit). part_of name (edited_records e rs)) is.is
    ∙ edited_part name other rs is.front is.here is.back (λ (r : Record). record { part = resized_part task r.part; rows = is.rows })
    (λ (p : Part). resized_part (record p.task { size = size }) p) at
    (ap (λ (o : Outline). resized_part (record o.task { size = size }) at.one.part) (sym at.heres))
    (ap (λ (o : Outline). o.task.name) (sym at.heres))
changed_part geometry name rs (Remove other) edit h names =
    let is : EditsAt other (outlines rs) Drop edit = remove_is geometry (outlines rs) other edit h in
    let at : RecordAt other rs is.front is.here is.back = record_at other rs is.front is.here is.back is.whole is.called is.none in
    ap (λ (e : Edit). part_of name (edited_records e rs)) is.is ∙ dropped_part name other rs is.front is.here is.back names at
changed_part geometry name rs (Release other) edit h names =
    let is : EditsAt other (outlines rs) Thaw edit = release_is geometry (outlines rs) other edit h in
    let at : RecordAt other rs is.front is.here is.back = record_at other rs is.front is.here is.back is.whole is.called is.none in
    ap (λ (e : Edit). part_of name (edited_records e rs)) is.is
    ∙ edited_part name other rs is.front is.here is.back (λ (r : Record). record { part = released_part r.part; rows = map thawed_row r.rows }) released_part at refl refl

joined_name : (packet : Packet) (part : Part) → (joined_part packet part).task.name ≡ part.task.name
joined_name packet part = by (passes part.task.filter packet.vec) where
  by : (b : Bool) → (let new : Part = cond b (record part { packets = part.packets ++ packet ∷ [] }) part in new).task.name ≡ part.task.name
  by true = refl
  by false = refl

pub event_part : (geometry : Geometry) (name : List ℕ) (rs : List Record) (event : Event) → HaveNames (outlines rs)
    → part_of name (stepped geometry rs event) ≡ fold (alone_after name) (part_of name rs) (kept geometry rs event)
unfolding join changed
event_part geometry name rs (Passes packet) names =
    part_mapped name (joined packet) (joined_part packet) (λ r. refl) (λ r. joined_name packet r.part) rs
event_part geometry name rs (Changes change) names = by (judged geometry (outlines rs) change) refl where
  by : (r : Result Edit Refusal) → judged geometry (outlines rs) change ≡ r
      → part_of name (after_verdict r rs) ≡ fold (alone_after name) (part_of name rs) (cond (is_accepted r) (Changes change ∷ []) [])
  by (Ok edit) e = changed_part geometry name rs change edit e names
  by (Err why) e = refl

pub event_names : (geometry : Geometry) (rs : List Record) (event : Event) → HaveNames (outlines rs) → HaveNames (outlines (stepped geometry rs event))
unfolding changed
event_names geometry rs (Passes packet) names = subst HaveNames (sym (join_same packet rs)) names
event_names geometry rs (Changes change) names = by (judged geometry (outlines rs) change) refl where
  by : (r : Result Edit Refusal) → judged geometry (outlines rs) change ≡ r → HaveNames (outlines (after_verdict r rs))
  by (Ok edit) e = subst HaveNames (sym (edited_same edit rs)) (names_stay geometry (outlines rs) change edit e names)
  by (Err why) e = names

-- ---- all events

pub events_part : (geometry : Geometry) (name : List ℕ) (events : List Event) (rs : List Record) → HaveNames (outlines rs)
    → part_of name (after geometry rs events) ≡ fold (alone_after name) (part_of name rs) (accepted geometry rs events)
unfolding after
events_part geometry name [] rs names = refl
events_part geometry name (event ∷ events) rs names =
    events_part geometry name events (stepped geometry rs event) (event_names geometry rs event names)
    ∙ ap (λ part. fold (alone_after name) part (accepted geometry (stepped geometry rs event) events)) (event_part geometry name rs event names)
    ∙ sym (fold-append (alone_after name) (part_of name rs) (kept geometry rs event) (accepted geometry (stepped geometry rs event) events))

pub is_alone : IsAlone
unfolding alone
is_alone geometry name events = events_part geometry name events [] (no_pairs HaveOwnNames)
