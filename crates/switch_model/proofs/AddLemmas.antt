-- A task that is added leaves the tasks sound.
use Rattle.std.proofs.Common.{◌≡◌, ◌≢◌, ℕ, ◌<◌, List, [], ◌∷◌, ◌++◌, get_or, map, refl, ap, sym, ◌∙◌, subst, arith, append-nil}
use Rattle.std.specs.Prelude.{Option, None, Some, is_some}
use Rattle.std.specs.List.{All, AllPairs, flat_map}
use Rattle.std.proofs.lemmas.List.Elements.{All-nil, All-cons, All-append, All-map}
use Rattle.addr_translate.specs.Geometry.{Geometry, IsGeometry, group_number}
use Rattle.partition_pool.specs.Regions.{is_free}
use Rattle.match_table.specs.Tables.{admits}
use Rattle.sketch_defs.specs.Tasks.{Sketch, first_fault}
use Rattle.placer.specs.declared.places.Place.{Place}
use Rattle.placer.specs.Sights.{Sight, bits_for}
use Rattle.placer.specs.Laws.{ArePlaces}
use Rattle.placer.proofs.SightLemmas.{IsSize, size_is}
use Rattle.switch_model.specs.Records.{Row, Outline}
use Rattle.switch_model.specs.Sights.{GroupUse, live_holding, held_by, all_held, spots_by, all_spots, row_uses, uses_by, all_uses, sight_of}
use Rattle.switch_model.specs.Soundness.{IsRow, IsTask, RisesIn, HaveOwnNames, ShareNone, MatchNone, AgreeOnUnits, Sound}
use Rattle.switch_model.specs.Changes.{row_at, new_outline}
use Rattle.switch_model.proofs.ListLemmas.{Across, all_flat, all_mapped, pairs_append, pairs_map, pairs_weaker, length_map, across_turned}
use Rattle.switch_model.proofs.CallLemmas.{share_turned}
use Rattle.switch_model.proofs.StandLemmas.{none_frozen}
use Rattle.switch_model.proofs.SightLemmas.{rules_seen, taken_seen, free_of_all, admitted, across_pairs, agree_turned}
use Rattle.switch_model.proofs.UnitLemmas.{AreUses}
pub use Rattle.switch_model.proofs.PieceLemmas.{held_pushed, spots_pushed, uses_pushed, rises_in, rises_differ, Key, key_of, KeysMatchNone, row_key, spot_keys, OnDifferent, different_spots, different_regions}
use Rattle.switch_model.proofs.RowLemmas.{sound_uses, Placing, placing, new_row, uses_for, row_uses_are, uses_agree, rows_agree}

new_rows : (geometry : Geometry) (sight : Sight) (task : Sketch) (found : List Place) → All (λ (row : Row). row.frozen ≡ None) (map (row_at geometry sight task) found)
new_rows geometry sight task found = All-map (λ (row : Row). row.frozen ≡ None) (row_at geometry sight task) found (λ k d within. refl)

-- what its rows hold
pub held_new : (geometry : Geometry) (sight : Sight) (task : Sketch) (found : List Place)
    → held_by (new_outline task (map (row_at geometry sight task) found)) ≡ map live_holding (map (row_at geometry sight task) found)
held_new geometry sight task found =
    let rows : List Row = map (row_at geometry sight task) found in
    ap (λ hs. map live_holding rows ++ hs) (none_frozen rows (new_rows geometry sight task found)) ∙ append-nil (map live_holding rows)

-- the uses of two of its rows agree
two_rows : (geometry : Geometry) (all : List Outline) (task : Sketch) (bits : ℕ) (p q : Place) → AreUses geometry (all_uses geometry all)
    → Placing geometry all task bits p → Placing geometry all task bits q
    → Across AgreeOnUnits (row_uses geometry (row_at geometry (sight_of geometry all) task p)) (row_uses geometry (row_at geometry (sight_of geometry all) task q))
two_rows geometry all task bits p q are one two =
    let uses : List GroupUse = all_uses geometry all in
    subst (λ (us : List GroupUse). Across AgreeOnUnits us (row_uses geometry (row_at geometry (sight_of geometry all) task q))) (sym (row_uses_are geometry all task p one.exists))
    (subst (λ (us : List GroupUse). Across AgreeOnUnits (uses_for geometry uses task.key (group_number geometry p.array) p.keys) us) (sym (row_uses_are geometry all task q two.exists))
    (rows_agree geometry uses task.key (group_number geometry p.array) (group_number geometry q.array) p.keys q.keys are one.keys two.keys))

news_agree : (geometry : Geometry) (all : List Outline) (task : Sketch) (bits : ℕ) (found : List Place) → AreUses geometry (all_uses geometry all)
    → All (Placing geometry all task bits) found
    → (let rows : List Row = map (row_at geometry (sight_of geometry all) task) found in
    Across AgreeOnUnits (flat_map (row_uses geometry) rows) (flat_map (row_uses geometry) rows))
news_agree geometry all task bits found are each =
    let row : Place → Row = row_at geometry (sight_of geometry all) task in
    let rows : List Row = map row found in
    let news : List GroupUse = flat_map (row_uses geometry) rows in
    all_flat (λ u. All (AgreeOnUnits u) news) (row_uses geometry) rows
    (All-map (λ r. All (λ u. All (AgreeOnUnits u) news) (row_uses geometry r)) row found
    (λ k d within i e inside.
    let p : Place = get_or found k d in
    let u : GroupUse = get_or (row_uses geometry (row p)) i e in
    all_flat (AgreeOnUnits u) (row_uses geometry) rows
    (All-map (λ r. All (AgreeOnUnits u) (row_uses geometry r)) row found
    (λ j f there. two_rows geometry all task bits p (get_or found j f) are (each k d within) (each j f there) i e inside))))

news_agree_with : (geometry : Geometry) (all : List Outline) (task : Sketch) (bits : ℕ) (found : List Place) → AreUses geometry (all_uses geometry all)
    → All (Placing geometry all task bits) found
    → Across AgreeOnUnits (flat_map (row_uses geometry) (map (row_at geometry (sight_of geometry all) task) found)) (all_uses geometry all)
news_agree_with geometry all task bits found are each =
    let uses : List GroupUse = all_uses geometry all in
    let row : Place → Row = row_at geometry (sight_of geometry all) task in
    all_flat (λ u. All (AgreeOnUnits u) uses) (row_uses geometry) (map row found)
    (All-map (λ r. All (λ u. All (AgreeOnUnits u) uses) (row_uses geometry r)) row found
    (λ k d within.
    let p : Place = get_or found k d in
    let h : Placing geometry all task bits p = each k d within in
    subst (λ (us : List GroupUse). Across AgreeOnUnits us uses) (sym (row_uses_are geometry all task p h.exists))
    (uses_agree geometry uses task.key (group_number geometry p.array) p.keys are h.keys)))

-- its regions share no register with what is held
pub news_apart : (geometry : Geometry) (all : List Outline) (task : Sketch) (bits : ℕ) (found : List Place) → All (Placing geometry all task bits) found
    → Across ShareNone (map live_holding (map (row_at geometry (sight_of geometry all) task) found)) (all_held all)
news_apart geometry all task bits found each =
    let row : Place → Row = row_at geometry (sight_of geometry all) task in
    All-map (λ h. All (ShareNone h) (all_held all)) live_holding (map row found)
    (All-map (λ r. All (ShareNone (live_holding r)) (all_held all)) row found
    (λ k d within.
    let place : Place = get_or found k d in
    let p : Placing geometry all task bits place = each k d within in
    free_of_all (all_held all) place.array place.region (sym (ap (λ ts. is_free ts place.region) (taken_seen geometry all place.array p.exists)) ∙ p.free)))

pub all_placed : (geometry : Geometry) (all : List Outline) (task : Sketch) (bits : ℕ) (found : List Place) → IsGeometry geometry
    → ArePlaces geometry (sight_of geometry all) task bits found → All (Placing geometry all task bits) found
all_placed geometry all task bits found good places k d within =
    placing geometry all task bits (get_or found k d) good (places.exist k d within) (places.stand k d within)

pub sound_pushed : (geometry : Geometry) (all : List Outline) (task : Sketch) (bits : ℕ) (found : List Place) → IsGeometry geometry → Sound geometry all
    → first_fault task ≡ None → bits_for geometry task.kind task.size ≡ Some bits → ArePlaces geometry (sight_of geometry all) task bits found
    → AllPairs HaveOwnNames (all ++ new_outline task (map (row_at geometry (sight_of geometry all) task) found) ∷ [])
    → Sound geometry (all ++ new_outline task (map (row_at geometry (sight_of geometry all) task) found) ∷ [])
sound_pushed geometry all task bits found good sound possible size_ places names =
    let sight : Sight = sight_of geometry all in
    let rows : List Row = map (row_at geometry sight task) found in
    let o : Outline = new_outline task rows in
    let uses : List GroupUse = all_uses geometry all in
    let are : AreUses geometry uses = sound_uses geometry all sound in
    let size : IsSize geometry task.kind task.size bits = size_is geometry task.kind task.size bits size_ in
    let each : All (Placing geometry all task bits) found =
    all_placed geometry all task bits found good places in
    let different : AllPairs OnDifferent rows =
    pairs_map OnDifferent (row_at geometry sight task) found
    (pairs_weaker (λ (one two : Place). one.array < two.array) (λ (one two : Place). one.array ≢ two.array) (λ one two less same. omega arith) found places.rise) in
    record {
      names = names;
      tasks = All-append (IsTask geometry) all (o ∷ []) sound.tasks
          (All-cons (IsTask geometry) o [] (record {
            allowed = possible;
            size = ap (λ (b : Option ℕ). is_some b) size_;
            rows = length_map (row_at geometry sight task) found ∙ places.counted_is;
            each = All-map (IsRow geometry o) (row_at geometry sight task) found
                (λ k d within. new_row geometry all task bits o (get_or found k d) are possible size refl refl (each k d within));
            rising = pairs_map (RisesIn geometry task.kind) (row_at geometry sight task) found
                (λ i j d before within. rises_in geometry task.kind (row_at geometry sight task (get_or found i d)) (row_at geometry sight task (get_or found j d))
                (places.rise i j d before within) (λ chained. places.groups chained i j d before within));
          }) (All-nil (IsTask geometry)));
      regions = subst (AllPairs ShareNone) (sym (held_pushed all o ∙ ap (λ hs. all_held all ++ hs) (held_new geometry sight task found)))
          (pairs_append ShareNone (all_held all) (map live_holding rows) sound.regions (different_regions rows different)
          (across_turned ShareNone ShareNone share_turned (map live_holding rows) (all_held all)
          (news_apart geometry all task bits found each)));
      filters = subst (AllPairs MatchNone) (sym (spots_pushed all o))
          (pairs_append MatchNone (all_spots all) (spots_by o) sound.filters (different_spots task rows different)
          (across_turned (λ s t. MatchNone t s) MatchNone (λ s t m. m) (spots_by o) (all_spots all)
          (all_mapped (λ (k : Key). All (λ t. KeysMatchNone (key_of t) k) (all_spots all)) key_of (spots_by o)
          (subst (All (λ (k : Key). All (λ t. KeysMatchNone (key_of t) k) (all_spots all))) (sym (spot_keys task 0 None rows))
          (All-map (λ (k : Key). All (λ t. KeysMatchNone (key_of t) k) (all_spots all)) (row_key task) rows
          (All-map (λ row. All (λ t. KeysMatchNone (key_of t) (row_key task row)) (all_spots all)) (row_at geometry sight task) found
          (λ k d within.
          let place : Place = get_or found k d in
          let p : Placing geometry all task bits place = each k d within in
          admitted (all_spots all) place.array task.filter (sym (ap (λ rs. admits rs task.filter) (rules_seen geometry all place.array p.exists)) ∙ p.admits))))))));
      units = subst (AllPairs AgreeOnUnits) (sym (uses_pushed geometry all o))
          (pairs_append AgreeOnUnits uses (uses_by geometry o) sound.units
          (across_pairs AgreeOnUnits (uses_by geometry o) (news_agree geometry all task bits found are each))
          (across_turned AgreeOnUnits AgreeOnUnits agree_turned (uses_by geometry o) uses (news_agree_with geometry all task bits found are each)));
    }
