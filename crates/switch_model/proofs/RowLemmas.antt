-- The rows of a task that is added: where they stand, and their uses of units.
use Rattle.std.proofs.Common.{cond, not, ◌≡◌, ◌≢◌, ℕ, ◌^◌, ◌<◌, Bool, true, false, List, get_or, map, refl, ap, ap₂, sym, ◌∙◌, subst, arith, ⊎_elim}
use Rattle.std.specs.Prelude.{Option, None, Some, IfSome, is_some}
use Rattle.std.specs.List.{All, AllPairs, flat_map}
use Rattle.std.proofs.lemmas.Bool.{cases_eq, false≢true}
use Rattle.std.proofs.lemmas.List.Elements.{All-map, All-weaker}
use Rattle.addr_translate.specs.Geometry.{Geometry, IsGeometry, array_count, group_in, group_number}
use Rattle.addr_translate.proofs.GeometryLemmas.{bits_within, greatest_at_most}
use Rattle.key_mask.specs.Masks.{no_lengths}
use Rattle.partition_pool.specs.Regions.{is_free}
use Rattle.group_keys.specs.declared.uses.KeyUse.{KeyUse}
use Rattle.group_keys.specs.declared.uses.KeyUse.TheVariants.{Single, Pair}
use Rattle.group_keys.specs.Units.{UsedUnit, unit_at, units_in, keys_for, AreUnits}
use Rattle.group_keys.proofs.UseLemmas.{keys_stand}
use Rattle.match_table.specs.Tables.{admits}
use Rattle.sketch_defs.specs.Tasks.{Sketch, first_fault, is_no_key, allows_rows, allows}
use Rattle.std.specs.Str.{bytes_eq}
use Rattle.placer.specs.declared.places.Place.{Place}
use Rattle.placer.specs.Sights.{units_at, taken_at, rules_at}
use Rattle.placer.specs.Laws.{IsPlaceOn}
use Rattle.placer.proofs.SightLemmas.{IsSize, region_for_found}
use Rattle.switch_model.specs.Records.{Row, UnitMask, Outline}
use Rattle.switch_model.specs.Sights.{GroupUse, group_uses, row_uses, uses_by, all_uses, units_on, sight_of}
use Rattle.switch_model.specs.Soundness.{IsRow, IsTask, IsPartOf, GiveKey, AgreeOnUnits, Sound}
use Rattle.switch_model.specs.Changes.{mask_in, masks_for, row_at}
use Rattle.switch_model.proofs.ListLemmas.{Across, all_flat, pairs_map}
use Rattle.switch_model.proofs.IsolationLemmas.{bytes_same}
use Rattle.switch_model.proofs.CallLemmas.{and_parts}
use Rattle.switch_model.proofs.SightLemmas.{units_seen, all_agree, length_units, agree_turned}
use Rattle.switch_model.proofs.UnitLemmas.{AreUses, GiveIt, keys_give, new_use, new_agrees, both_agree, masks_stand}
use Rattle.sketch_defs.specs.declared.tasks.TaskFault.TheVariants as faults

-- ---- the uses of sound tasks

row_use_exists : (geometry : Geometry) (o : Outline) (row : Row) → IsRow geometry o row
    → All (λ (u : GroupUse). (u.unit < (group_in geometry u.group).units) × (u.mask ≢ no_lengths)) (row_uses geometry row)
row_use_exists geometry o row is =
    All-map (λ (u : GroupUse). (u.unit < (group_in geometry u.group).units) × (u.mask ≢ no_lengths))
    (λ (u : UnitMask). record { group = group_number geometry row.array; unit = u.unit; mask = u.mask }) row.masks
    (λ k d within. (is.exist k d within, is.stand k d within))

pub sound_uses : (geometry : Geometry) (all : List Outline) → Sound geometry all → AreUses geometry (all_uses geometry all)
unfolding all_uses
sound_uses geometry all sound =
    let P : GroupUse → Type 0 = λ u. (u.unit < (group_in geometry u.group).units) × (u.mask ≢ no_lengths) in
    let each : All P (flat_map (uses_by geometry) all) =
    all_flat P (uses_by geometry) all
    (All-weaker (IsTask geometry) (λ o. All P (uses_by geometry o))
    (λ o is. all_flat P (row_uses geometry) o.rows (All-weaker (IsRow geometry o) (λ row. All P (row_uses geometry row)) (λ row h. row_use_exists geometry o row h) o.rows is.each))
    all sound.tasks) in
    record {
      agree = all_agree (flat_map (uses_by geometry) all) sound.units;
      exist = λ k d within. (each k d within).0;
      stand = λ k d within. (each k d within).1;
    }

-- ---- a new row

-- the masks of a new row, for the units that its group has
pub record AreMasks (geometry : Geometry) (group : ℕ) (key : List ℕ) (keys : KeyUse) (masks : List UnitMask) : Type 0 where
  pub units : map (λ (u : UnitMask). u.unit) masks ≡ units_in keys
  pub exist : All (λ (u : UnitMask). u.unit < (group_in geometry group).units) masks
  pub apart : AllPairs (λ (one two : UnitMask). one.unit ≢ two.unit) masks
  pub stand : All (λ (u : UnitMask). u.mask ≢ no_lengths) masks
  pub gives : GiveKey masks key

abbrev unit_mask : List (Option UsedUnit) → List ℕ → ℕ → UnitMask
unit_mask units key unit = record { unit = unit; mask = mask_in key (unit_at units unit) }

its_units : (units : List (Option UsedUnit)) (key : List ℕ) (keys : KeyUse) → map (λ (u : UnitMask). u.unit) (masks_for units key keys) ≡ units_in keys
its_units units key (Single unit) = refl
its_units units key (Pair one two) = refl

pub are_masks : (geometry : Geometry) (uses : List GroupUse) (group : ℕ) (key : List ℕ) (keys : KeyUse) → AreUses geometry uses → key ≢ no_lengths
    → keys_for (units_on geometry uses group) key ≡ Some keys → AreMasks geometry group key keys (masks_for (units_on geometry uses group) key keys)
are_masks geometry uses group key keys are some found =
    let units : List (Option UsedUnit) = units_on geometry uses group in
    let gives : GiveIt units key keys = keys_give units key keys found in
    let stand : AreUnits units keys = subst (λ (o : Option KeyUse). IfSome o (AreUnits units)) found (keys_stand units key) in
    record {
      units = its_units units key keys;
      exist = All-map (λ (u : UnitMask). u.unit < (group_in geometry group).units) (unit_mask units key) (units_in keys)
          (λ k d within. let h = gives.fit k d within in omega (arith, h.exists, length_units (group_in geometry group).units (group_uses uses group)));
      apart = pairs_map (λ (one two : UnitMask). one.unit ≢ two.unit) (unit_mask units key) (units_in keys) stand.apart;
      stand = All-map (λ (u : UnitMask). u.mask ≢ no_lengths) (unit_mask units key) (units_in keys)
          (λ k d within. masks_stand geometry uses group (get_or (units_in keys) k d) key are some);
      gives = gives.gives;
    }

no_fault : {X : Type 0} (a b c : Bool) (x y z : X) → cond a (Some x) (cond b (Some y) (cond c (Some z) None)) ≡ None → b ≡ false
no_fault true b c x y z e = absurd (cc)
no_fault false true c x y z e = absurd (cc)
no_fault false false c x y z e = refl

pub has_key : (task : Sketch) → first_fault task ≡ None → task.key ≢ no_lengths
unfolding is_no_key
has_key task possible none =
    false≢true
    (sym (no_fault (not (allows_rows task.kind task.rows)) (bytes_eq task.key no_lengths) (not (allows task.kind task.attr)) faults.Rows faults.EmptyKey faults.Attr possible)
    ∙ bytes_same task.key no_lengths none)

-- a place of the task
pub record Placing (geometry : Geometry) (all : List Outline) (task : Sketch) (bits : ℕ) (place : Place) : Type 0 where
  pub exists : place.array < array_count geometry
  pub region : IsPartOf geometry place.array place.region
  pub size : place.region.bits ≡ bits
  pub free : is_free (taken_at (sight_of geometry all) place.array) place.region ≡ true
  pub keys : keys_for (units_on geometry (all_uses geometry all) (group_number geometry place.array)) task.key ≡ Some place.keys
  pub admits : admits (rules_at (sight_of geometry all) place.array) task.filter ≡ true

pub placing : (geometry : Geometry) (all : List Outline) (task : Sketch) (bits : ℕ) (place : Place) → IsGeometry geometry → place.array < array_count geometry
    → IsPlaceOn geometry (sight_of geometry all) task bits place.array place → Placing geometry all task bits place
placing geometry all task bits place good exists on =
    let found = region_for_found geometry (sight_of geometry all) bits place.array place.region
    (omega (arith, bits_within geometry place.array, greatest_at_most geometry good)) on.region_is in
    record {
      exists = exists;
      region = found.0;
      size = found.1;
      free = found.2;
      keys = ap (λ us. keys_for us task.key) (sym (units_seen geometry all place.array exists)) ∙ on.keys_are;
      admits = (and_parts (admits (rules_at (sight_of geometry all) place.array) task.filter)
          (is_some (keys_for (units_at geometry (sight_of geometry all) place.array) task.key)) on.open_to).0;
    }

pub new_row : (geometry : Geometry) (all : List Outline) (task : Sketch) (bits : ℕ) (o : Outline) (place : Place) → AreUses geometry (all_uses geometry all)
    → first_fault task ≡ None → IsSize geometry task.kind task.size bits → o.task ≡ task → o.frozen ≡ None → Placing geometry all task bits place
    → IsRow geometry o (row_at geometry (sight_of geometry all) task place)
new_row geometry all task bits o place are possible size same none p =
    let group : ℕ = group_number geometry place.array in
    let masks : AreMasks geometry group task.key place.keys (masks_for (units_at geometry (sight_of geometry all) place.array) task.key place.keys) =
    subst (λ (us : List (Option UsedUnit)). AreMasks geometry group task.key place.keys (masks_for us task.key place.keys))
    (sym (units_seen geometry all place.array p.exists))
    (are_masks geometry (all_uses geometry all) group task.key place.keys are (has_key task possible) p.keys) in
    record {
      array = p.exists;
      live = p.region;
      live_size = ap (λ b. 2 ^ b) p.size ∙ size.power ∙ ap (λ (t : Sketch). t.size) (sym same);
      frozen = tt;
      frozen_size = sym none;
      units = masks.units;
      exist = masks.exist;
      apart = masks.apart;
      stand = masks.stand;
      key = subst (λ (t : Sketch). GiveKey (masks_for (units_at geometry (sight_of geometry all) place.array) task.key place.keys) t.key) (sym same) masks.gives;
    }

-- ---- the uses of new rows

abbrev pub uses_for : Geometry → List GroupUse → List ℕ → ℕ → KeyUse → List GroupUse
uses_for geometry uses key group keys = map (new_use (units_on geometry uses group) key group) (units_in keys)

masks_used : (units : List (Option UsedUnit)) (key : List ℕ) (group : ℕ) (keys : KeyUse)
    → map (λ (u : UnitMask). (let g : GroupUse = record { group = group; unit = u.unit; mask = u.mask } in g)) (masks_for units key keys)
    ≡ map (new_use units key group) (units_in keys)
masks_used units key group (Single unit) = refl
masks_used units key group (Pair one two) = refl

pub row_uses_are : (geometry : Geometry) (all : List Outline) (task : Sketch) (place : Place) → place.array < array_count geometry
    → row_uses geometry (row_at geometry (sight_of geometry all) task place)
    ≡ uses_for geometry (all_uses geometry all) task.key (group_number geometry place.array) place.keys
row_uses_are geometry all task place exists =
    masks_used (units_at geometry (sight_of geometry all) place.array) task.key (group_number geometry place.array) place.keys
    ∙ ap (λ us. map (new_use us task.key (group_number geometry place.array)) (units_in place.keys)) (units_seen geometry all place.array exists)

pub uses_agree : (geometry : Geometry) (uses : List GroupUse) (key : List ℕ) (group : ℕ) (keys : KeyUse) → AreUses geometry uses
    → keys_for (units_on geometry uses group) key ≡ Some keys → Across AgreeOnUnits (uses_for geometry uses key group keys) uses
uses_agree geometry uses key group keys are found =
    let gives : GiveIt (units_on geometry uses group) key keys = keys_give (units_on geometry uses group) key keys found in
    All-map (λ u. All (AgreeOnUnits u) uses) (new_use (units_on geometry uses group) key group) (units_in keys)
    (λ k d within.
    let unit : ℕ = get_or (units_in keys) k d in
    let new : GroupUse = new_use (units_on geometry uses group) key group unit in
    All-weaker (λ v. AgreeOnUnits v new) (AgreeOnUnits new) (λ v a. agree_turned v new a) uses
    (new_agrees geometry uses group unit key are (gives.fit k d within)))

row_agrees : (geometry : Geometry) (uses : List GroupUse) (key : List ℕ) (group : ℕ) (keys : KeyUse) → AreUses geometry uses
    → keys_for (units_on geometry uses group) key ≡ Some keys
    → Across AgreeOnUnits (uses_for geometry uses key group keys) (uses_for geometry uses key group keys)
row_agrees geometry uses key group keys are found =
    let gives : GiveIt (units_on geometry uses group) key keys = keys_give (units_on geometry uses group) key keys found in
    let news : List GroupUse = uses_for geometry uses key group keys in
    let f : ℕ → GroupUse = new_use (units_on geometry uses group) key group in
    All-map (λ u. All (AgreeOnUnits u) news) f (units_in keys)
    (λ k d within. All-map (AgreeOnUnits (f (get_or (units_in keys) k d))) f (units_in keys)
    (λ i e inside. both_agree geometry uses group (get_or (units_in keys) k d) (get_or (units_in keys) i e) key are (gives.used k d within i e inside)))

-- uses in different groups have nothing to agree on
in_groups : (geometry : Geometry) (uses : List GroupUse) (key : List ℕ) (one two : ℕ) (keys others : KeyUse) → one ≢ two
    → Across AgreeOnUnits (uses_for geometry uses key one keys) (uses_for geometry uses key two others)
in_groups geometry uses key one two keys others ne =
    All-map (λ u. All (AgreeOnUnits u) (uses_for geometry uses key two others)) (new_use (units_on geometry uses one) key one) (units_in keys)
    (λ k d within. All-map (AgreeOnUnits (new_use (units_on geometry uses one) key one (get_or (units_in keys) k d))) (new_use (units_on geometry uses two) key two) (units_in others)
    (λ i e inside. record { same = λ on. absurd (ne on); other = λ on. absurd (ne on) }))

pub rows_agree : (geometry : Geometry) (uses : List GroupUse) (key : List ℕ) (one two : ℕ) (keys others : KeyUse) → AreUses geometry uses
    → keys_for (units_on geometry uses one) key ≡ Some keys → keys_for (units_on geometry uses two) key ≡ Some others
    → Across AgreeOnUnits (uses_for geometry uses key one keys) (uses_for geometry uses key two others)
rows_agree geometry uses key one two keys others are found found_too = ⊎_elim here there (cases_eq one two) where
  there : one ≢ two → Across AgreeOnUnits (uses_for geometry uses key one keys) (uses_for geometry uses key two others)
  there ne = in_groups geometry uses key one two keys others ne

  here : one ≡ two → Across AgreeOnUnits (uses_for geometry uses key one keys) (uses_for geometry uses key two others)
  here same =
      let both : Some keys ≡ Some others = sym found ∙ ap (λ g. keys_for (units_on geometry uses g) key) same ∙ found_too in
      let keys_same : keys ≡ others = cc in
      subst (λ (us : List GroupUse). Across AgreeOnUnits (uses_for geometry uses key one keys) us)
      (ap₂ (λ g ks. uses_for geometry uses key g ks) same keys_same) (row_agrees geometry uses key one keys are found)
