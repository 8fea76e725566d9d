-- A resize, a removal and a release leave the tasks sound.
use Rattle.std.proofs.Common.{◌≡◌, ℕ, ◌+◌, ◌^◌, ◌<◌, false, List, [], ◌∷◌, ◌++◌, get_or, map, refl, ap, ap₂, sym, ◌∙◌, subst, arith, append-nil, append_assoc}
use Rattle.std.specs.Prelude.{Option, None, Some, is_some, Result, Ok, Err}
use Rattle.std.specs.List.{All, AllPairs, filter_map}
use Rattle.std.proofs.lemmas.List.Elements.{All-nil, All-cons, All-map, All-weaker}
use Rattle.addr_translate.specs.Geometry.{Geometry, IsGeometry, array_count}
use Rattle.addr_translate.proofs.GeometryLemmas.{bits_within, greatest_at_most}
use Rattle.partition_pool.specs.Regions.{is_free}
use Rattle.sketch_defs.specs.Tasks.{Sketch}
use Rattle.placer.specs.Sights.{Sight, bits_for, region_for}
use Rattle.placer.proofs.SightLemmas.{IsSize, size_is, region_for_found}
use Rattle.switch_model.specs.Records.{Row, Outline}
use Rattle.switch_model.specs.Sights.{live_holding, held_by, all_held, spots_by, all_spots, uses_by, all_uses, sight_of, Holding, frozen_holding}
use Rattle.switch_model.specs.Soundness.{IsRow, IsTask, IsPartOf, RisesIn, GiveKey, HaveOwnNames, ShareNone, MatchNone, AgreeOnUnits, Sound}
use Rattle.switch_model.specs.Changes.{moved_row, moved_first, moved_rows, moved_outline, thawed_row, thawed_outline}
use Rattle.switch_model.proofs.ListLemmas.{Across, pairs_map, pairs_mapped, pairs_weaker, length_map, Around, around, all_here, all_between, all_without, map_append}
use Rattle.switch_model.proofs.IsolationLemmas.{renamed}
use Rattle.switch_model.proofs.CallLemmas.{share_turned}
use Rattle.switch_model.proofs.StandLemmas.{none_frozen, no_size}
use Rattle.switch_model.proofs.SightLemmas.{taken_seen, free_of_all}
use Rattle.addr_translate.specs.Blocks.{Block}
pub use Rattle.switch_model.proofs.PieceLemmas.{held_between, spots_between, uses_between, held_both, spots_both, uses_both, pairs_cut, pairs_inserted, rises_differ, rises_same, key_of, KeysMatchNone, spot_keys, OnDifferent, different_regions, keep_keys, keep_uses}

-- ---- a removal

pub sound_dropped : (geometry : Geometry) (front back : List Outline) (o : Outline) → Sound geometry (front ++ o ∷ back) → Sound geometry (front ++ back)
sound_dropped geometry front back o sound = record {
  names = (let a : Around HaveOwnNames front back o = around HaveOwnNames front back o sound.names in a.others);
  tasks = all_without (IsTask geometry) front back o sound.tasks;
  regions = subst (AllPairs ShareNone) (sym (held_both front back))
      (pairs_cut ShareNone (all_held front) (held_by o) (all_held back) (subst (AllPairs ShareNone) (held_between front back o) sound.regions));
  filters = subst (AllPairs MatchNone) (sym (spots_both front back))
      (pairs_cut MatchNone (all_spots front) (spots_by o) (all_spots back) (subst (AllPairs MatchNone) (spots_between front back o) sound.filters));
  units = subst (AllPairs AgreeOnUnits) (sym (uses_both geometry front back))
      (pairs_cut AgreeOnUnits (all_uses geometry front) (uses_by geometry o) (all_uses geometry back)
      (subst (AllPairs AgreeOnUnits) (uses_between geometry front back o) sound.units));
}

-- ---- a task with other regions

-- the same entries but for their regions
same_keys : (front back : List Outline) (o p : Outline) → map key_of (spots_by p) ≡ map key_of (spots_by o)
    → map key_of (all_spots (front ++ p ∷ back)) ≡ map key_of (all_spots (front ++ o ∷ back))
same_keys front back o p same =
    ap (map key_of) (spots_between front back p)
    ∙ map_append key_of (all_spots front) (spots_by p ++ all_spots back)
    ∙ ap (λ ks. map key_of (all_spots front) ++ ks)
    (map_append key_of (spots_by p) (all_spots back) ∙ ap (λ ks. ks ++ map key_of (all_spots back)) same ∙ sym (map_append key_of (spots_by o) (all_spots back)))
    ∙ sym (map_append key_of (all_spots front) (spots_by o ++ all_spots back))
    ∙ ap (map key_of) (sym (spots_between front back o))

pub sound_edited : (geometry : Geometry) (front back : List Outline) (o p : Outline) → Sound geometry (front ++ o ∷ back) → p.task.name ≡ o.task.name
    → IsTask geometry p → AllPairs ShareNone (all_held front ++ (held_by p ++ all_held back)) → map key_of (spots_by p) ≡ map key_of (spots_by o)
    → uses_by geometry p ≡ uses_by geometry o → Sound geometry (front ++ p ∷ back)
sound_edited geometry front back o p sound name is regions spots uses = record {
  names = renamed front back o p name sound.names;
  tasks = all_between (IsTask geometry) front back p (all_without (IsTask geometry) front back o sound.tasks) is;
  regions = subst (AllPairs ShareNone) (sym (held_between front back p)) regions;
  filters = pairs_mapped KeysMatchNone key_of (all_spots (front ++ p ∷ back))
      (subst (AllPairs KeysMatchNone) (sym (same_keys front back o p spots)) (pairs_map KeysMatchNone key_of (all_spots (front ++ o ∷ back)) sound.filters));
  units = subst (AllPairs AgreeOnUnits)
      (uses_between geometry front back o ∙ ap (λ us. all_uses geometry front ++ (us ++ all_uses geometry back)) (sym uses) ∙ sym (uses_between geometry front back p)) sound.units;
}

-- ---- a release

thawed_live : (rows : List Row) → map live_holding (map thawed_row rows) ≡ map live_holding rows
thawed_live [] = refl
thawed_live (row ∷ rows) = ap (λ hs. live_holding row ∷ hs) (thawed_live rows)

pub held_thawed : (o : Outline) → held_by (thawed_outline o) ≡ map live_holding o.rows
held_thawed o =
    ap₂ (λ xs ys. xs ++ ys) (thawed_live o.rows)
    (none_frozen (map thawed_row o.rows) (All-map (λ (row : Row). row.frozen ≡ None) thawed_row o.rows (λ k d within. refl)))
    ∙ append-nil (map live_holding o.rows)

thawed_is : (geometry : Geometry) (o : Outline) (row : Row) → IsRow geometry o row → IsRow geometry (thawed_outline o) (thawed_row row)
thawed_is geometry o row is = record {
  array = is.array;
  live = is.live;
  live_size = is.live_size;
  frozen = tt;
  frozen_size = refl;
  units = is.units;
  exist = is.exist;
  apart = is.apart;
  stand = is.stand;
  key = is.key;
}

pub task_thawed : (geometry : Geometry) (o : Outline) → IsTask geometry o → IsTask geometry (thawed_outline o)
task_thawed geometry o is = record {
  allowed = is.allowed;
  size = is.size;
  rows = length_map thawed_row o.rows ∙ is.rows;
  each = All-map (IsRow geometry (thawed_outline o)) thawed_row o.rows
      (All-weaker (IsRow geometry o) (λ row. IsRow geometry (thawed_outline o) (thawed_row row)) (λ row h. thawed_is geometry o row h) o.rows is.each);
  rising = pairs_map (RisesIn geometry o.task.kind) thawed_row o.rows
      (pairs_weaker (RisesIn geometry o.task.kind) (λ one two. RisesIn geometry o.task.kind (thawed_row one) (thawed_row two))
      (λ one two r. rises_same geometry o.task.kind one two (thawed_row one) (thawed_row two) refl refl r) o.rows is.rising);
}

pub sound_thawed : (geometry : Geometry) (front back : List Outline) (o : Outline) → Sound geometry (front ++ o ∷ back)
    → Sound geometry (front ++ thawed_outline o ∷ back)
sound_thawed geometry front back o sound =
    let live : List Holding = map live_holding o.rows in
    let frozen : List Holding = filter_map frozen_holding o.rows in
    let before : AllPairs ShareNone (all_held front ++ ((live ++ frozen) ++ all_held back)) = subst (AllPairs ShareNone) (held_between front back o) sound.regions in
    let turned : all_held front ++ ((live ++ frozen) ++ all_held back) ≡ (all_held front ++ live) ++ (frozen ++ all_held back) =
    ap (λ hs. all_held front ++ hs) (append_assoc live frozen (all_held back)) ∙ sym (append_assoc (all_held front) live (frozen ++ all_held back)) in
    sound_edited geometry front back o (thawed_outline o) sound refl (task_thawed geometry o (all_here (IsTask geometry) front back o sound.tasks))
    (subst (AllPairs ShareNone) (append_assoc (all_held front) live (all_held back) ∙ ap (λ hs. all_held front ++ (hs ++ all_held back)) (sym (held_thawed o)))
    (pairs_cut ShareNone (all_held front ++ live) frozen (all_held back) (subst (AllPairs ShareNone) turned before)))
    (spot_keys o.task 0 None (map thawed_row o.rows) ∙ keep_keys o.task thawed_row (λ row. refl) o.rows ∙ sym (spot_keys o.task 0 None o.rows))
    (keep_uses geometry thawed_row (λ row. refl) o.rows)

-- ---- a resize

abbrev pub region_of : Option Block → Block
region_of None = record { base = 0; bits = 0 }
region_of (Some region) = region

abbrev pub moved_by : Geometry → Sight → ℕ → Row → Row
moved_by geometry sight bits row = moved_row row (region_of (region_for geometry sight bits row.array))

abbrev pub HasRegion : Geometry → Sight → ℕ → Row → Type 0
HasRegion geometry sight bits row = region_for geometry sight bits row.array ≡ Some (region_of (region_for geometry sight bits row.array))

pub record AreMoved (geometry : Geometry) (sight : Sight) (bits : ℕ) (rows news : List Row) : Type 0 where
  pub are : news ≡ map (moved_by geometry sight bits) rows
  pub each : All (HasRegion geometry sight bits) rows

pub are_moved : (geometry : Geometry) (sight : Sight) (bits i : ℕ) (rows news : List Row) → moved_rows geometry sight bits i rows ≡ Ok news
    → AreMoved geometry sight bits rows news
are_moved geometry sight bits i [] news h =
    let same : [] ≡ news = cc in
    record { are = sym same; each = All-nil (HasRegion geometry sight bits) }
are_moved geometry sight bits i (row ∷ rows) news h =
    by (λ others e. are_moved geometry sight bits (i + 1) rows others e) (region_for geometry sight bits row.array) (moved_rows geometry sight bits (i + 1) rows) refl refl h where
      by : ((others : List Row) → moved_rows geometry sight bits (i + 1) rows ≡ Ok others → AreMoved geometry sight bits rows others)
          → (region : Option Block) (rest : Result (List Row) ℕ) → region_for geometry sight bits row.array ≡ region
          → moved_rows geometry sight bits (i + 1) rows ≡ rest → moved_first i row region rest ≡ Ok news → AreMoved geometry sight bits (row ∷ rows) news
      by more None rest e f is = absurd (cc)
      by more (Some region) (Err later) e f is = absurd (cc)
      by more (Some region) (Ok others) e f is =
          let m : AreMoved geometry sight bits rows others = more others f in
          let same : moved_row row region ∷ others ≡ news = cc in
          record {
            are = sym same ∙ ap₂ (λ r rs. r ∷ rs) (ap (λ o. moved_row row (region_of o)) (sym e)) m.are;
            each = All-cons (HasRegion geometry sight bits) row rows (e ∙ ap (λ o. Some (region_of o)) (sym e)) m.each;
          }

moved_frozen : (geometry : Geometry) (sight : Sight) (bits : ℕ) (rows : List Row)
    → filter_map frozen_holding (map (moved_by geometry sight bits) rows) ≡ map live_holding rows
moved_frozen geometry sight bits [] = refl
moved_frozen geometry sight bits (row ∷ rows) = ap (λ hs. live_holding row ∷ hs) (moved_frozen geometry sight bits rows)

is_none : (o : Option ℕ) → is_some o ≡ false → o ≡ None
is_none None e = refl
is_none (Some x) e = absurd (cc)

-- a row's new region
pub record Moving (geometry : Geometry) (all : List Outline) (bits : ℕ) (row : Row) : Type 0 where
  pub region : Block
  pub is : moved_by geometry (sight_of geometry all) bits row ≡ moved_row row region
  pub partition : IsPartOf geometry row.array region
  pub size : region.bits ≡ bits
  pub apart : All (λ h. ShareNone (let new : Holding = record { array = row.array; region = region } in new) h) (all_held all)

pub moving : (geometry : Geometry) (all : List Outline) (bits : ℕ) (row : Row) → IsGeometry geometry → row.array < array_count geometry
    → HasRegion geometry (sight_of geometry all) bits row → Moving geometry all bits row
moving geometry all bits row good exists has =
    let region : Block = region_of (region_for geometry (sight_of geometry all) bits row.array) in
    let found = region_for_found geometry (sight_of geometry all) bits row.array region
    (omega (arith, bits_within geometry row.array, greatest_at_most geometry good)) has in
    record {
      region = region;
      is = refl;
      partition = found.0;
      size = found.1;
      apart = free_of_all (all_held all) row.array region (sym (ap (λ ts. is_free ts region) (taken_seen geometry all row.array exists)) ∙ found.2);
    }

moved_is : (geometry : Geometry) (all : List Outline) (bits : ℕ) (o p : Outline) (row : Row) → IsRow geometry o row → Moving geometry all bits row
    → 2 ^ bits ≡ p.task.size → p.task.key ≡ o.task.key → p.frozen ≡ Some o.task.size → IsRow geometry p (moved_by geometry (sight_of geometry all) bits row)
moved_is geometry all bits o p row is m size key frozen = subst (IsRow geometry p) (sym m.is) (record {
  array = is.array;
  live = m.partition;
  live_size = ap (λ b. 2 ^ b) m.size ∙ size;
  frozen = is.live;
  frozen_size = ap Some is.live_size ∙ sym frozen;
  units = is.units;
  exist = is.exist;
  apart = is.apart;
  stand = is.stand;
  key = subst (GiveKey row.masks) (sym key) is.key;
})

pub all_moving : (geometry : Geometry) (all : List Outline) (bits : ℕ) (o : Outline) (rows : List Row) → IsGeometry geometry → All (IsRow geometry o) rows
    → All (HasRegion geometry (sight_of geometry all) bits) rows → All (Moving geometry all bits) rows
all_moving geometry all bits o rows good each has k d within =
    moving geometry all bits (get_or rows k d) good (let h : IsRow geometry o (get_or rows k d) = each k d within in h.array) (has k d within)

-- the new regions share no register with what is held
pub moved_apart : (geometry : Geometry) (all : List Outline) (bits : ℕ) (rows : List Row) → All (Moving geometry all bits) rows
    → Across ShareNone (map live_holding (map (moved_by geometry (sight_of geometry all) bits) rows)) (all_held all)
moved_apart geometry all bits rows each =
    let f : Row → Row = moved_by geometry (sight_of geometry all) bits in
    All-map (λ h. All (ShareNone h) (all_held all)) live_holding (map f rows)
    (All-map (λ row. All (ShareNone (live_holding row)) (all_held all)) f rows
    (All-weaker (Moving geometry all bits) (λ row. All (ShareNone (live_holding (f row))) (all_held all))
    (λ row m. subst (λ (r : Row). All (ShareNone (live_holding r)) (all_held all)) (sym m.is) m.apart) rows each))

pub sound_moved : (geometry : Geometry) (front back : List Outline) (o : Outline) (bits size : ℕ) (news : List Row) → IsGeometry geometry
    → Sound geometry (front ++ o ∷ back) → is_some o.frozen ≡ false → bits_for geometry o.task.kind size ≡ Some bits
    → moved_rows geometry (sight_of geometry (front ++ o ∷ back)) bits 0 o.rows ≡ Ok news
    → Sound geometry (front ++ moved_outline (record o.task { size = size }) news o ∷ back)
sound_moved geometry front back o bits size news good sound free fits moves =
    let all : List Outline = front ++ o ∷ back in
    let sight : Sight = sight_of geometry all in
    let f : Row → Row = moved_by geometry sight bits in
    let are : AreMoved geometry sight bits o.rows news = are_moved geometry sight bits 0 o.rows news moves in
    let task : Sketch = record o.task { size = size } in
    let p : Outline = moved_outline task (map f o.rows) o in
    let is : IsTask geometry o = all_here (IsTask geometry) front back o sound.tasks in
    let size_ : IsSize geometry o.task.kind size bits = size_is geometry o.task.kind size bits fits in
    let each : All (Moving geometry all bits) o.rows =
    all_moving geometry all bits o o.rows good is.each are.each in
    let live : List Holding = map live_holding o.rows in
    let fresh : List Holding = map live_holding (map f o.rows) in
    let none : filter_map frozen_holding o.rows ≡ [] =
    none_frozen o.rows (All-weaker (IsRow geometry o) (λ (row : Row). row.frozen ≡ None) (λ row h. no_size row.frozen (h.frozen_size ∙ is_none o.frozen free)) o.rows is.each) in
    let before : AllPairs ShareNone (all_held front ++ (live ++ all_held back)) =
    subst (AllPairs ShareNone) (held_between front back o ∙ ap (λ hs. all_held front ++ ((live ++ hs) ++ all_held back)) none ∙ ap (λ hs. all_held front ++ (hs ++ all_held back)) (append-nil live)) sound.regions in
    let held_is : all_held all ≡ all_held front ++ (live ++ all_held back) =
    held_between front back o ∙ ap (λ hs. all_held front ++ ((live ++ hs) ++ all_held back)) none ∙ ap (λ hs. all_held front ++ (hs ++ all_held back)) (append-nil live) in
    let different : AllPairs OnDifferent (map f o.rows) =
    pairs_map OnDifferent f o.rows (pairs_weaker (RisesIn geometry o.task.kind) (λ one two. OnDifferent (f one) (f two)) (λ one two r. rises_differ geometry o.task.kind one two r) o.rows is.rising) in
    let apart : Across ShareNone fresh (all_held front ++ (live ++ all_held back)) =
    subst (Across ShareNone fresh) held_is (moved_apart geometry all bits o.rows each) in
    subst (λ (rows : List Row). Sound geometry (front ++ moved_outline task rows o ∷ back)) (sym are.are)
    (sound_edited geometry front back o p sound refl
    (record {
      allowed = is.allowed;
      size = ap (λ (b : Option ℕ). is_some b) fits;
      rows = length_map f o.rows ∙ is.rows;
      each = All-map (IsRow geometry p) f o.rows
          (λ k d within. moved_is geometry all bits o p (get_or o.rows k d) (is.each k d within) (each k d within) size_.power refl refl);
      rising = pairs_map (RisesIn geometry o.task.kind) f o.rows
          (pairs_weaker (RisesIn geometry o.task.kind) (λ one two. RisesIn geometry o.task.kind (f one) (f two))
          (λ one two r. rises_same geometry o.task.kind one two (f one) (f two) refl refl r) o.rows is.rising);
    })
    (subst (AllPairs ShareNone)
    (ap (λ hs. all_held front ++ hs) (sym (append_assoc fresh live (all_held back))) ∙ ap (λ hs. all_held front ++ ((fresh ++ hs) ++ all_held back)) (sym (moved_frozen geometry sight bits o.rows)))
    (pairs_inserted ShareNone share_turned (all_held front) fresh (live ++ all_held back) before (different_regions (map f o.rows) different) apart))
    (spot_keys task 0 None (map f o.rows) ∙ keep_keys o.task f (λ row. refl) o.rows ∙ sym (spot_keys o.task 0 None o.rows))
    (keep_uses geometry f (λ row. refl) o.rows))
