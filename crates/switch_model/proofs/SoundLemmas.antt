-- Packets and changes keep the tasks sound.
use Rattle.std.proofs.Common.{◌≡◌, List, [], ◌∷◌, ◌++◌, length, remove, refl, ap, sym, ◌∙◌, subst}
use Rattle.std.specs.Prelude.{Result, Ok, Err}
use Rattle.std.specs.List.{AllPairs}
use Rattle.std.proofs.lemmas.List.Elements.{All-nil}
use Rattle.addr_translate.specs.Geometry.{Geometry, IsGeometry}
use Rattle.sketch_defs.specs.Tasks.{Sketch}
use Rattle.placer.proofs.PlacementLemmas.{placed_accepted}
use Rattle.switch_model.specs.Records.{Outline, outlines}
use Rattle.switch_model.specs.Sights.{all_held, all_spots, all_uses, sight_of}
use Rattle.switch_model.specs.Soundness.{IsTask, HaveOwnNames, ShareNone, MatchNone, AgreeOnUnits, Sound}
use Rattle.switch_model.specs.Changes.{Change, Add, Resize, Remove, Release, Edit, Drop, Thaw, Refusal, judged, edit_at, moved_rows, moved_outline, thawed_outline, edited_outlines, after_verdict, changed}
use Rattle.switch_model.specs.Histories.{Passes, Changes}
use Rattle.switch_model.specs.Laws.{IsProper, StaysSound}
use Rattle.switch_model.proofs.ListLemmas.{no_pairs, edited_here, removed_here}
use Rattle.switch_model.proofs.JudgedLemmas.{AddIs, ResizeIs, EditsAt, add_is, resize_is, remove_is, release_is}
use Rattle.switch_model.proofs.IsolationLemmas.{join_same, edited_same, names_stay}
use Rattle.switch_model.proofs.AddLemmas.{sound_pushed}
use Rattle.switch_model.proofs.EditLemmas.{sound_dropped, sound_moved, sound_thawed}

-- what an accepted edit makes of the list round its task
pub moved_list : (all front back : List Outline) (here : Outline) (f : Outline → Outline) → all ≡ front ++ here ∷ back
    → edit_at (length front) f all ≡ front ++ f here ∷ back
moved_list all front back here f whole = ap (edit_at (length front) f) whole ∙ edited_here f front back here

pub dropped_list : (all front back : List Outline) (here : Outline) → all ≡ front ++ here ∷ back → remove all (length front) ≡ front ++ back
dropped_list all front back here whole = ap (λ (os : List Outline). remove os (length front)) whole ∙ removed_here front back here

pub sound_changed : (geometry : Geometry) (all : List Outline) (change : Change) (edit : Edit) → IsGeometry geometry → IsProper change → Sound geometry all
    → judged geometry all change ≡ Ok edit → Sound geometry (edited_outlines edit all)
sound_changed geometry all (Add task) edit good proper sound h =
    let is : AddIs geometry all task edit = add_is geometry all task edit h in
    subst (λ (e : Edit). Sound geometry (edited_outlines e all)) (sym is.is)
    (sound_pushed geometry all task is.bits is.found good sound proper is.size (placed_accepted geometry (sight_of geometry all) task is.bits is.found is.places)
    (subst (λ (e : Edit). AllPairs HaveOwnNames (edited_outlines e all)) is.is (names_stay geometry all (Add task) edit h sound.names)))
sound_changed geometry all (Resize name size) edit good proper sound h =
    let is : ResizeIs geometry all name size edit = resize_is geometry all name size edit h in
    let task : Sketch = record is.here.task { size = size } in
    subst (λ (e : Edit). Sound geometry (edited_outlines e all)) (sym is.is)
    (subst (Sound geometry) (sym (moved_list all is.front is.back is.here (moved_outline task is.rows) is.whole))
    (sound_moved geometry is.front is.back is.here is.bits size is.rows good (subst (Sound geometry) is.whole sound) is.free is.fits
    (ap (λ os. moved_rows geometry (sight_of geometry os) is.bits 0 is.here.rows) (sym is.whole) ∙ is.moves)))
sound_changed geometry all (Remove name) edit good proper sound h =
    let is : EditsAt name all Drop edit = remove_is geometry all name edit h in
    subst (λ (e : Edit). Sound geometry (edited_outlines e all)) (sym is.is)
    (subst (Sound geometry) (sym (dropped_list all is.front is.back is.here is.whole))
    (sound_dropped geometry is.front is.back is.here (subst (Sound geometry) is.whole sound)))
sound_changed geometry all (Release name) edit good proper sound h =
    let is : EditsAt name all Thaw edit = release_is geometry all name edit h in
    subst (λ (e : Edit). Sound geometry (edited_outlines e all)) (sym is.is)
    (subst (Sound geometry) (sym (moved_list all is.front is.back is.here thawed_outline is.whole))
    (sound_thawed geometry is.front is.back is.here (subst (Sound geometry) is.whole sound)))

pub stays_sound : StaysSound
unfolding changed
stays_sound geometry rs (Passes packet) good possible sound = subst (Sound geometry) (sym (join_same packet rs)) sound
stays_sound geometry rs (Changes change) good possible sound = by (judged geometry (outlines rs) change) refl where
  by : (r : Result Edit Refusal) → judged geometry (outlines rs) change ≡ r → Sound geometry (outlines (after_verdict r rs))
  by (Ok edit) e = subst (Sound geometry) (sym (edited_same edit rs)) (sound_changed geometry (outlines rs) change edit good possible sound e)
  by (Err why) e = sound

-- none are sound
pub none_sound : (geometry : Geometry) → Sound geometry []
unfolding all_held all_spots all_uses
none_sound geometry = record {
  names = no_pairs HaveOwnNames;
  tasks = All-nil (IsTask geometry);
  regions = no_pairs ShareNone;
  filters = no_pairs MatchNone;
  units = no_pairs AgreeOnUnits;
}
