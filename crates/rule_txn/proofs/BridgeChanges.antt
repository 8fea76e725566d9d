-- After a change the registers stand for the tasks that it leaves.
use Rattle.std.proofs.Common.{◌≡◌, ℕ, ◌+◌, ◌^◌, ◌<◌, false, List, [], ◌∷◌, get_or, map, refl, ap, ap₂, sym, ◌∙◌, subst}
use Rattle.std.specs.Prelude.{◌||◌, Option, Result, Ok, Err}
use Rattle.std.specs.List.{All, list_any}
use Rattle.std.proofs.lemmas.List.Elements.{All-nil, All-head, All-tail}
use Rattle.addr_translate.specs.Geometry.{Geometry, IsGeometry}
use Rattle.reg_file.specs.Registers.{Contents}
use Rattle.placer.specs.Laws.{ArePlaces}
use Rattle.placer.proofs.PlacementLemmas.{placed_accepted}
use Rattle.switch_model.specs.Records.{Record, Outline, outlines}
use Rattle.switch_model.specs.Sights.{Holding, live_holding, all_held, sight_of}
use Rattle.switch_model.specs.Soundness.{ShareNone, IsTask, Sound}
use Rattle.switch_model.specs.Changes.{Change, Add, Resize, Remove, Release, Edit, Drop, Thaw, Refusal, judged, after_verdict, changed, edited_outlines}
use Rattle.switch_model.specs.Packets.{Stand, all_stands, HoldsCells}
use Rattle.switch_model.specs.Laws.{is_in, fresh_of, start_in, Refilled, IsProper}
use Rattle.switch_model.proofs.ListLemmas.{Across, all_here, all_mapped}
use Rattle.switch_model.proofs.JudgedLemmas.{AddIs, ResizeIs, EditsAt, add_is, resize_is, remove_is, release_is}
use Rattle.switch_model.proofs.AddLemmas.{news_apart, all_placed}
use Rattle.switch_model.proofs.EditLemmas.{AreMoved, are_moved, all_moving, moved_apart}
use Rattle.switch_model.proofs.IsolationLemmas.{edited_same}
use Rattle.switch_model.proofs.SoundLemmas.{sound_changed, none_sound}
use Rattle.switch_model.proofs.LayoutLemmas.{not_in, change_keeps_layout}
use Rattle.switch_model.proofs.StandLemmas.{holding_of, stands_hold}
use Rattle.rule_txn.specs.Switch.{SwitchState}
use Rattle.rule_txn.specs.Changes.{Answers}
use Rattle.rule_txn.specs.Fills.{StayOutside, Refills}
use Rattle.rule_txn.specs.Seen.{StandsFor, records_after}

-- ---- before any task

-- ---- what stays outside the regions of a change

none_in : (fresh : List Holding) (s : Stand) (j : ℕ) → All (λ h. ShareNone h (holding_of s)) fresh → j < 2 ^ s.region.bits
    → list_any (is_in s.array (s.region.base + j)) fresh ≡ false
none_in [] s j apart within = refl
none_in (h ∷ fresh) s j apart within =
    ap₂ (λ a b. a || b) (not_in h s.array s.region j (All-head (λ h. ShareNone h (holding_of s)) h fresh apart) within)
    (none_in fresh s j (All-tail (λ h. ShareNone h (holding_of s)) h fresh apart) within)

outside_stay : (hash_key : List ℕ) (fresh : List Holding) (old new : Contents) (stands : List Stand) → StayOutside fresh old new
    → Across ShareNone fresh (map holding_of stands) → All (HoldsCells hash_key old) stands → All (HoldsCells hash_key new) stands
outside_stay hash_key fresh old new stands stay apart holds k d within j inside =
    let s : Stand = get_or stands k d in
    stay s.array (s.region.base + j)
    (none_in fresh s j (λ i e there. all_mapped (ShareNone (get_or fresh i e)) holding_of stands (apart i e there) k d within) inside)
    ∙ holds k d within j inside

-- the regions that a change takes share no register with what tasks hold
pub fresh_apart : (geometry : Geometry) (all : List Outline) (change : Change) (edit : Edit) → IsGeometry geometry → Sound geometry all
    → judged geometry all change ≡ Ok edit → Across ShareNone (fresh_of edit) (all_held all)
fresh_apart geometry all (Add task) edit good sound h =
    let is : AddIs geometry all task edit = add_is geometry all task edit h in
    let places : ArePlaces geometry (sight_of geometry all) task is.bits is.found = placed_accepted geometry (sight_of geometry all) task is.bits is.found is.places in
    subst (λ (e : Edit). Across ShareNone (fresh_of e) (all_held all)) (sym is.is)
    (news_apart geometry all task is.bits is.found (all_placed geometry all task is.bits is.found good places))
fresh_apart geometry all (Resize name size) edit good sound h =
    let is : ResizeIs geometry all name size edit = resize_is geometry all name size edit h in
    let are : AreMoved geometry (sight_of geometry all) is.bits is.here.rows is.rows =
    are_moved geometry (sight_of geometry all) is.bits 0 is.here.rows is.rows is.moves in
    let its : IsTask geometry is.here = all_here (IsTask geometry) is.front is.back is.here (subst (All (IsTask geometry)) is.whole sound.tasks) in
    subst (λ (e : Edit). Across ShareNone (fresh_of e) (all_held all)) (sym is.is)
    (subst (λ rows. Across ShareNone (map live_holding rows) (all_held all)) (sym are.are)
    (moved_apart geometry all is.bits is.here.rows (all_moving geometry all is.bits is.here is.here.rows good its.each are.each)))
fresh_apart geometry all (Remove name) edit good sound h =
    let is : EditsAt name all Drop edit = remove_is geometry all name edit h in
    subst (λ (e : Edit). Across ShareNone (fresh_of e) (all_held all)) (sym is.is) (All-nil (λ h. All (ShareNone h) (all_held all)))
fresh_apart geometry all (Release name) edit good sound h =
    let is : EditsAt name all Thaw edit = release_is geometry all name edit h in
    subst (λ (e : Edit). Across ShareNone (fresh_of e) (all_held all)) (sym is.is) (All-nil (λ h. All (ShareNone h) (all_held all)))

-- registers that changed in such regions alone stand for what they stood for
pub still_stands : (state : SwitchState) (records : List Record) (fresh : List Holding) (old new : Contents) → StayOutside fresh old new
    → Across ShareNone fresh (all_held (outlines records)) → StandsFor state records old → StandsFor state records new
still_stands state records fresh old new stay apart for = record {
  sound = for.sound;
  same = for.same;
  laid = outside_stay state.hash_key fresh old new (all_stands records) stay
      (subst (Across ShareNone fresh) (sym (stands_hold state.geometry records for.sound.tasks)) apart) for.laid;
}

-- ---- a change

made_stands : (change : Change) (edit : Edit) (state : SwitchState) (records : List Record) (old new : Contents)
    → IsGeometry state.geometry → IsProper change → judged state.geometry (outlines records) change ≡ Ok edit
    → Refilled (fresh_of edit) (start_in edit) old new → StandsFor state records old
    → StandsFor (record state { outlines = edited_outlines edit state.outlines }) (changed state.geometry records change) new
unfolding changed
made_stands change edit state records old new good proper is filled for =
    let now : SwitchState = record state { outlines = edited_outlines edit state.outlines } in
    subst (λ v. StandsFor now (after_verdict v records) new) (sym is)
    (record {
      sound = subst (Sound state.geometry) (sym (edited_same edit records)) (sound_changed state.geometry (outlines records) change edit good proper for.sound is);
      same = ap (edited_outlines edit) for.same ∙ sym (edited_same edit records);
      laid = change_keeps_layout state.geometry state.hash_key records change edit old new good for.sound for.laid is filled;
    })

-- a change that was answered, and filled registers so, leaves registers that stand for the tasks after it
pub change_stands : {T F : Type 0} (cause : F → Option Refusal) (change : Change) (result : Result T F) (state now : SwitchState) (records : List Record)
    (old new : Contents) → IsGeometry state.geometry → IsProper change
    → Answers cause (judged state.geometry state.outlines change) result state now
    → Refills (judged state.geometry state.outlines change) result old new
    → StandsFor state records old → StandsFor now (records_after result state.geometry change records) new
change_stands {T} {F} cause change result state now records old new good proper answers refills for =
    by (judged state.geometry state.outlines change) (ap (λ os. judged state.geometry os change) (sym for.same)) result answers refills where
      by : (v : Result Edit Refusal) → judged state.geometry (outlines records) change ≡ v → (result : Result T F) → Answers cause v result state now
          → Refills v result old new → StandsFor now (records_after result state.geometry change records) new
      by (Ok edit) e (Ok t) is filled =
          subst (λ (s : SwitchState). StandsFor s (changed state.geometry records change) new) (sym is)
          (made_stands change edit state records old new good proper e filled for)
      by (Ok edit) e (Err fault) is stay =
          subst (λ (s : SwitchState). StandsFor s records new) (sym is.1)
          (still_stands state records (fresh_of edit) old new stay (fresh_apart state.geometry (outlines records) change edit good for.sound e) for)
      by (Err why) e (Ok t) is stay = absurd is
      by (Err why) e (Err fault) is stay =
          subst (λ (s : SwitchState). StandsFor s records new) (sym is.1)
          (still_stands state records [] old new stay (All-nil (λ h. All (ShareNone h) (all_held (outlines records)))) for)
