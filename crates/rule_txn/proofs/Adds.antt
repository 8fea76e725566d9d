-- A task that is added.
use Rattle.std.proofs.Common.{◌≡◌, ◌≢◌, ℕ, ◌+◌, ◌<◌, List, [], ◌∷◌, ◌++◌, length, get_or, map, refl, ap, ap₂, sym, ◌∙◌, subst, arith, append_assoc, append-nil}
use Rattle.std.specs.Prelude.{Option, None, Some, IfSome, option_map, slice_index_or}
use Rattle.std.specs.List.{All, AllPairs}
use Rattle.std.proofs.lemmas.List.Elements.{All-head, All-tail, All-nil, All-cons, All-map, All-weaker}
use Rattle.addr_translate.specs.Blocks.{Block}
use Rattle.addr_translate.specs.Geometry.{Geometry, IsGeometry, array_count, group_number}
use Rattle.partition_pool.specs.Pools.{PoolState}
use Rattle.group_keys.specs.declared.uses.KeyUse.{KeyUse}
use Rattle.group_keys.specs.declared.uses.KeyUse.TheVariants as uses
use Rattle.group_keys.specs.Units.{UsedUnit, AreUnits, keys_for, unit_at, units_in}
use Rattle.group_keys.proofs.UseLemmas.{keys_stand}
use Rattle.reg_file.specs.Registers.{Dims}
use Rattle.pipe_core.specs.Rules.{IsShaped}
use Rattle.placer.specs.declared.places.Place.{Place}
use Rattle.placer.specs.Sights.{Sight, units_at}
use Rattle.placer.specs.Laws.{IsPlaceOn, ArePlaces}
use Rattle.sketch_defs.specs.Tasks.{Sketch}
use Rattle.switch_model.specs.Records.{Row, Outline, UnitMask}
use Rattle.switch_model.specs.Sights.{Holding, live_holding, held_by, all_held, all_spots, all_uses, used_from, group_uses, units_on, sight_of}
use Rattle.switch_model.specs.Soundness.{IsTask, ShareNone, Sound}
use Rattle.switch_model.specs.Changes.{mask_in, masks_for, row_at, new_outline}
use Rattle.switch_model.proofs.ListLemmas.{pairs_weaker, pairs_map, all_here}
use Rattle.switch_model.proofs.AddLemmas.{held_pushed, held_new}
use Rattle.switch_model.proofs.SightLemmas.{units_seen, length_units, unit_seen}
use Rattle.rule_txn.specs.declared.rows.Served.{Served}
use Rattle.rule_txn.specs.State.{State, there, Lent, Gives, units_for}
use Rattle.rule_txn.specs.Rows.{Groups, next_lease, fresh_leases, taken, CanTake, keys_in, masks_in, leased_row, leased_rows, IsServed, AreServed, first_turn, with_rows, with_uses, CanServeAll, CanSettleAll}
use Rattle.rule_txn.specs.Stages as stages
use Rattle.rule_txn.specs.Stages.{place_array, served_by, served_on, IsPlace}
use Rattle.rule_txn.specs.Switch.{Stands, pools_for, tables_for, groups_for}
use Rattle.rule_txn.specs.Fills.{holding_of, AreInFile}
use Rattle.rule_txn.proofs.Pools.{Differ, share_differ, held_of, takes, can_take}
use Rattle.rule_txn.proofs.Uses.{TakesKey}
use Rattle.rule_txn.proofs.Served.{HasUnits, IsNew, Finds, units_count, group_is, group_exists}
use Rattle.rule_txn.proofs.Counts.{IsHeld}
use Rattle.rule_txn.proofs.Enters.{enters, uses_enter}
use Rattle.rule_txn.proofs.Giving.{gives_region, lent, all_in_file, live_held}

-- ---- lists of four places

pub there_map : {X Y : Type 0} (f : X → Y) (slots : List (Option X)) → there (map (option_map f) slots) ≡ map f (there slots)
there_map f [] = refl
there_map f (None ∷ slots) = there_map f slots
there_map f (Some x ∷ slots) = ap (λ ys. f x ∷ ys) (there_map f slots)

here_at : {X : Type 0} (pre rest : List X) (x d : X) → slice_index_or (pre ++ x ∷ rest) (length pre) d ≡ x
here_at [] rest x d = refl
here_at (y ∷ pre) rest x d = here_at pre rest x d

length_more : {X : Type 0} (pre : List X) (x : X) → length pre + 1 ≡ length (pre ++ x ∷ [])
length_more [] x = refl
length_more (y ∷ pre) x = let rest = length_more pre x in omega (arith, rest)

-- units and leases side by side
leased_beside : {X : Type 0} (f : X → Option Served) (g : X → Option Lent) (pre : List (Option Served)) (xs : List X)
    → leased_rows (pre ++ map f xs) (length pre) (map g xs) ≡ map (λ x. leased_row (f x) (g x)) xs
leased_beside f g pre [] = refl
leased_beside f g pre (x ∷ xs) =
    ap₂ (λ served rest. leased_row served (g x) ∷ rest) (here_at pre (map f xs) (f x) None)
    (ap₂ (λ ss k. leased_rows ss k (map g xs)) (sym (append_assoc pre (f x ∷ []) (map f xs))) (length_more pre (f x))
    ∙ leased_beside f g (pre ++ f x ∷ []) xs)

served_beside : {X : Type 0} (f : X → Option Served) (g : X → Option Lent) (pre : List (Option Served)) (xs : List X) → All (λ x. IsServed (f x) (g x)) xs
    → AreServed (pre ++ map f xs) (length pre) (map g xs)
served_beside f g pre [] each = tt
served_beside f g pre (x ∷ xs) each = (
  subst (λ served. IsServed served (g x)) (sym (here_at pre (map f xs) (f x) None)) (All-head (λ y. IsServed (f y) (g y)) x xs each),
  subst (λ ss. AreServed ss (length pre + 1) (map g xs)) (append_assoc pre (f x ∷ []) (map f xs))
      (subst (λ k. AreServed ((pre ++ f x ∷ []) ++ map f xs) k (map g xs)) (sym (length_more pre (f x)))
      (served_beside f g (pre ++ f x ∷ []) xs (All-tail (λ y. IsServed (f y) (g y)) x xs each))),
)

-- ---- one place

keys_of_served : (units : List (Option UsedUnit)) (key : List ℕ) (keys : KeyUse) → keys_in (served_by units key keys) ≡ keys
keys_of_served units key (uses.Single unit) = refl
keys_of_served units key (uses.Pair one two) = refl

masks_of_served : (units : List (Option UsedUnit)) (key : List ℕ) (keys : KeyUse) → masks_in (served_by units key keys) ≡ masks_for units key keys
masks_of_served units key (uses.Single unit) = refl
masks_of_served units key (uses.Pair one two) = refl

-- what a stage shows of the group of an array
pub units_shown : (geometry : Geometry) (os : List Outline) (groups : Groups) (array : ℕ) → groups ≡ groups_for geometry (all_uses geometry os) → array < array_count geometry
    → units_for geometry groups array ≡ units_at geometry (sight_of geometry os) array
units_shown geometry os groups array e lt =
    group_is geometry (all_uses geometry os) groups (group_number geometry array) e (group_exists geometry array lt) ∙ sym (units_seen geometry os array lt)

abbrev pub row_on : ℕ → Block → KeyUse → List UnitMask → Row
row_on array region keys masks = record { array = array; region = region; keys = keys; masks = masks; frozen = None }

row_is : (geometry : Geometry) (os : List Outline) (groups : Groups) (task : Sketch) (place : Place) → groups ≡ groups_for geometry (all_uses geometry os)
    → place.array < array_count geometry
    → leased_row (served_on geometry groups task.key (Some place)) (Some (lent place.array place.region)) ≡ Some (row_at geometry (sight_of geometry os) task place)
row_is geometry os groups task place e lt =
    let units = units_for geometry groups place.array in
    ap₂ (λ keys masks. Some (row_on place.array place.region keys masks)) (keys_of_served units task.key place.keys) (masks_of_served units task.key place.keys)
    ∙ ap (λ us. Some (row_on place.array place.region place.keys (masks_for us task.key place.keys))) (units_shown geometry os groups place.array e lt)

-- the masks of a new row: the unit was in use, or has the key
takes_keys : (geometry : Geometry) (os : List Outline) (key : List ℕ) (array : ℕ) (keys : KeyUse) → array < array_count geometry
    → All (λ unit. unit < units_count geometry (group_number geometry array)) (units_in keys)
    → All (TakesKey key (group_uses (all_uses geometry os) (group_number geometry array))) (masks_for (units_at geometry (sight_of geometry os) array) key keys)
takes_keys geometry os key array keys lt exist =
    let g = group_number geometry array in
    let units = units_at geometry (sight_of geometry os) array in
    let us = group_uses (all_uses geometry os) g in
    let f : ℕ → UnitMask = λ unit. record { unit = unit; mask = mask_in key (unit_at units unit) } in
    let seen : units ≡ units_on geometry (all_uses geometry os) g = units_seen geometry os array lt in
    All-map (TakesKey key us) f (units_in keys)
    (All-weaker (λ unit. unit < units_count geometry g) (λ unit. TakesKey key us (f unit))
    (λ unit within none. ap (mask_in key) (ap (λ u. unit_at u unit) seen ∙ unit_seen (units_count geometry g) us unit within ∙ ap used_from none)) (units_in keys) exist)

-- ---- the whole

-- a place that the placement found
pub record Planned (geometry : Geometry) (os : List Outline) (task : Sketch) (bits : ℕ) (place : Place) : Type 0 where
  pub exists : place.array < array_count geometry
  pub on : IsPlaceOn geometry (sight_of geometry os) task bits place.array place

planned_is_place : (geometry : Geometry) (os : List Outline) (groups : Groups) (task : Sketch) (bits : ℕ) (place : Place) → groups ≡ groups_for geometry (all_uses geometry os)
    → Planned geometry os task bits place → IsPlace geometry groups place
planned_is_place geometry os groups task bits place e is =
    let units = units_at geometry (sight_of geometry os) place.array in
    let stand : AreUnits units place.keys = subst (λ (o : Option KeyUse). IfSome o (AreUnits units)) is.on.keys_are (keys_stand units task.key) in
    record { array = is.exists; units = subst (λ us. All (λ unit. unit < length us) (units_in place.keys)) (sym (units_shown geometry os groups place.array e is.exists)) stand.exist }

planned_units : (geometry : Geometry) (os : List Outline) (task : Sketch) (bits : ℕ) (place : Place) → Planned geometry os task bits place
    → All (λ unit. unit < units_count geometry (group_number geometry place.array)) (units_in place.keys)
planned_units geometry os task bits place is =
    let units = units_at geometry (sight_of geometry os) place.array in
    let g = group_number geometry place.array in
    let stand : AreUnits units place.keys = subst (λ (o : Option KeyUse). IfSome o (AreUnits units)) is.on.keys_are (keys_stand units task.key) in
    let long : length units ≡ units_count geometry g = ap length (units_seen geometry os place.array is.exists) ∙ length_units (units_count geometry g) (group_uses (all_uses geometry os) g) in
    subst (λ n. All (λ unit. unit < n) (units_in place.keys)) long stand.exist

are_places : (geometry : Geometry) (groups : Groups) (slots : List (Option Place)) → All (IsPlace geometry groups) (there slots) → stages.ArePlaces geometry groups slots
are_places geometry groups [] each = tt
are_places geometry groups (None ∷ slots) each = (tt, are_places geometry groups slots each)
are_places geometry groups (Some place ∷ slots) each =
    (All-head (IsPlace geometry groups) place (there slots) each, are_places geometry groups slots (All-tail (IsPlace geometry groups) place (there slots) each))

-- the leases and the rows of the places
leases_are : (geometry : Geometry) (os : List Outline) (pools : List PoolState) (task : Sketch) (bits : ℕ) (slots : List (Option Place)) → pools ≡ pools_for geometry (all_held os)
    → All (Planned geometry os task bits) (there slots)
    → map (next_lease bits pools) (map place_array slots) ≡ map (option_map (λ (p : Place). lent p.array p.region)) slots
leases_are geometry os pools task bits [] e each = refl
leases_are geometry os pools task bits (None ∷ slots) e each = ap (λ xs. None ∷ xs) (leases_are geometry os pools task bits slots e each)
leases_are geometry os pools task bits (Some place ∷ slots) e each =
    let is = All-head (Planned geometry os task bits) place (there slots) each in
    ap₂ (λ x xs. x ∷ xs) (gives_region geometry os pools bits place.array place.region e is.exists is.on.region_is).1
    (leases_are geometry os pools task bits slots e (All-tail (Planned geometry os task bits) place (there slots) each))

give_all : (geometry : Geometry) (os : List Outline) (pools : List PoolState) (task : Sketch) (bits : ℕ) (slots : List (Option Place)) → pools ≡ pools_for geometry (all_held os)
    → All (Planned geometry os task bits) (there slots) → All (Gives bits pools) (there (map place_array slots))
give_all geometry os pools task bits slots e each =
    subst (All (Gives bits pools)) (sym (there_map (λ (p : Place). p.array) slots))
    (All-map (Gives bits pools) (λ (p : Place). p.array) (there slots)
    (All-weaker (Planned geometry os task bits) (λ (p : Place). Gives bits pools p.array)
    (λ p is. (gives_region geometry os pools bits p.array p.region e is.exists is.on.region_is).0) (there slots) each))

rows_are : (geometry : Geometry) (os : List Outline) (groups : Groups) (task : Sketch) (bits : ℕ) (slots : List (Option Place)) → groups ≡ groups_for geometry (all_uses geometry os)
    → All (Planned geometry os task bits) (there slots)
    → there (map (λ (s : Option Place). leased_row (served_on geometry groups task.key s) (option_map (λ (p : Place). lent p.array p.region) s)) slots)
    ≡ map (row_at geometry (sight_of geometry os) task) (there slots)
rows_are geometry os groups task bits [] e each = refl
rows_are geometry os groups task bits (None ∷ slots) e each = rows_are geometry os groups task bits slots e each
rows_are geometry os groups task bits (Some place ∷ slots) e each =
    let is = All-head (Planned geometry os task bits) place (there slots) each in
    ap (λ x. there (x ∷ map (λ (s : Option Place). leased_row (served_on geometry groups task.key s) (option_map (λ (p : Place). lent p.array p.region) s)) slots))
    (row_is geometry os groups task place e is.exists)
    ∙ ap (λ rs. row_at geometry (sight_of geometry os) task place ∷ rs) (rows_are geometry os groups task bits slots e (All-tail (Planned geometry os task bits) place (there slots) each))

all_served : (geometry : Geometry) (groups : Groups) (key : List ℕ) (slots : List (Option Place))
    → All (λ (s : Option Place). IsServed (served_on geometry groups key s) (option_map (λ (p : Place). lent p.array p.region) s)) slots
all_served geometry groups key [] = All-nil (λ (s : Option Place). IsServed (served_on geometry groups key s) (option_map (λ (p : Place). lent p.array p.region) s))
all_served geometry groups key (s ∷ slots) =
    All-cons (λ (s : Option Place). IsServed (served_on geometry groups key s) (option_map (λ (p : Place). lent p.array p.region) s)) s slots (by s) (all_served geometry groups key slots)
  where
    by : (s : Option Place) → IsServed (served_on geometry groups key s) (option_map (λ (p : Place). lent p.array p.region) s)
    by None = tt
    by (Some place) = refl

no_spots : (os : List Outline) → all_spots os ++ all_spots [] ≡ all_spots os
unfolding all_spots
no_spots os = append-nil (all_spots os)

no_uses_behind : (geometry : Geometry) (os : List Outline) → all_uses geometry os ++ all_uses geometry [] ≡ all_uses geometry os
unfolding all_uses
no_uses_behind geometry os = append-nil (all_uses geometry os)

-- what a stage is asked where a task is added, and that it stands for the tasks then
pub record Adds (os : List Outline) (state : State) (task : Sketch) (bits : ℕ) (slots : List (Option Place)) (rows : List Row) : Type 0 where
  pub places : stages.ArePlaces state.geometry state.groups slots
  pub can : CanTake bits state.pools (map place_array slots)
  pub file : (dims : Dims) → IsShaped state.geometry dims → AreInFile dims (fresh_leases bits state.pools (map place_array slots))
  pub fresh : held_of (fresh_leases bits state.pools (map place_array slots)) ≡ map live_holding rows
  pub served : AreServed (map (served_on state.geometry state.groups task.key) slots) 0 (fresh_leases bits state.pools (map place_array slots))
  pub leased : there (leased_rows (map (served_on state.geometry state.groups task.key) slots) 0 (fresh_leases bits state.pools (map place_array slots))) ≡ rows
  pub serve : CanServeAll state.geometry task.key state.groups (leased_rows (map (served_on state.geometry state.groups task.key) slots) 0 (fresh_leases bits state.pools (map place_array slots)))
  pub settle : CanSettleAll state.geometry task first_turn state.tables (leased_rows (map (served_on state.geometry state.groups task.key) slots) 0 (fresh_leases bits state.pools (map place_array slots)))
  pub stands : Stands (os ++ new_outline task rows ∷ []) (record state {
    pools = taken (fresh_leases bits state.pools (map place_array slots)) state.pools;
    tables = with_rows task first_turn state.tables (leased_rows (map (served_on state.geometry state.groups task.key) slots) 0 (fresh_leases bits state.pools (map place_array slots)));
    groups = with_uses state.geometry task.key state.groups (leased_rows (map (served_on state.geometry state.groups task.key) slots) 0 (fresh_leases bits state.pools (map place_array slots)));
  })

pub adds : (os : List Outline) (state : State) (task : Sketch) (bits : ℕ) (slots : List (Option Place)) → IsGeometry state.geometry → Stands os state
    → ArePlaces state.geometry (sight_of state.geometry os) task bits (there slots)
    → Sound state.geometry (os ++ new_outline task (map (row_at state.geometry (sight_of state.geometry os) task) (there slots)) ∷ [])
    → Adds os state task bits slots (map (row_at state.geometry (sight_of state.geometry os) task) (there slots))
adds os state task bits slots good stands found later =
    let geometry = state.geometry in
    let sight : Sight = sight_of geometry os in
    let rows : List Row = map (row_at geometry sight task) (there slots) in
    let o : Outline = new_outline task rows in
    let is : IsTask geometry o = all_here (IsTask geometry) os [] o later.tasks in
    let each : All (Planned geometry os task bits) (there slots) = (λ k d lt. record { exists = found.exist k d lt; on = found.stand k d lt }) in
    let f : Option Place → Option Served = served_on geometry state.groups task.key in
    let g : Option Place → Option Lent = option_map (λ (p : Place). lent p.array p.region) in
    let different : AllPairs (λ (a b : ℕ). a ≢ b) (there (map place_array slots)) =
    subst (AllPairs (λ (a b : ℕ). a ≢ b)) (sym (there_map (λ (p : Place). p.array) slots))
    (pairs_map (λ (a b : ℕ). a ≢ b) (λ (p : Place). p.array) (there slots)
    (pairs_weaker (λ (one two : Place). one.array < two.array) (λ (one two : Place). one.array ≢ two.array) (λ one two less same. omega (arith, less, same)) (there slots) found.rise)) in
    let can = can_take bits state.pools (map place_array slots) (give_all geometry os state.pools task bits slots stands.pools each) different in
    let xs : List (Option Lent) = fresh_leases bits state.pools (map place_array slots) in
    let xs_are : xs ≡ map g slots = can.1 ∙ leases_are geometry os state.pools task bits slots stands.pools each in
    let ss : List (Option Row) = leased_rows (map f slots) 0 xs in
    let ss_are : ss ≡ map (λ (s : Option Place). leased_row (f s) (g s)) slots = ap (leased_rows (map f slots) 0) xs_are ∙ leased_beside f g [] slots in
    let rows_there : there ss ≡ rows = ap there ss_are ∙ rows_are geometry os state.groups task bits slots stands.groups each in
    let fresh : held_of xs ≡ map live_holding rows =
    ap held_of xs_are ∙ ap (map holding_of) (there_map (λ (p : Place). lent p.array p.region) slots) ∙ places_held geometry sight task (there slots) in
    let held : held_of xs ++ [] ≡ held_by o = append-nil (held_of xs) ∙ fresh ∙ sym (held_new geometry sight task (there slots)) in
    let whole : all_held (os ++ o ∷ []) ≡ all_held os ++ (held_of xs ++ []) = held_pushed os o ∙ ap (λ hs. all_held os ++ hs) (sym held) in
    let pools : taken xs state.pools ≡ pools_for geometry (all_held (os ++ o ∷ [])) =
    takes geometry (all_held os) [] xs state.pools (stands.pools ∙ ap (pools_for geometry) (sym (append-nil (all_held os))))
    (subst (All (λ (h : Holding). h.array < array_count geometry)) (sym fresh)
    (All-weaker (IsHeld geometry) (λ (h : Holding). h.array < array_count geometry) (λ h k. k.array) (map live_holding rows) (live_held geometry o rows is.each)))
    (subst (AllPairs Differ) whole (pairs_weaker ShareNone Differ (λ x y s. share_differ x y s) (all_held (os ++ o ∷ [])) later.regions))
    ∙ ap (pools_for geometry) (sym whole) in
    let entries = enters geometry os [] o ss state.tables later rows_there (stands.tables ∙ ap (tables_for geometry) (sym (no_spots os))) in
    let new : All (IsNew geometry task.key (all_uses geometry os)) rows =
    All-map (IsNew geometry task.key (all_uses geometry os)) (row_at geometry sight task) (there slots)
    (λ k d lt.
    let p : Place = get_or (there slots) k d in
    let planned : Planned geometry os task bits p = each k d lt in
    let row = row_at geometry sight task p in
    record {
      has = row_has geometry sight task p planned.exists (planned_units geometry os task bits p planned);
      new = takes_keys geometry os task.key p.array p.keys planned.exists (planned_units geometry os task bits p planned);
    }) in
    let finds : All (Finds geometry task.key state.groups) rows =
    All-map (Finds geometry task.key state.groups) (row_at geometry sight task) (there slots)
    (λ k d lt.
    let p : Place = get_or (there slots) k d in
    let planned : Planned geometry os task bits p = each k d lt in
    ap (λ us. keys_for us task.key) (units_shown geometry os state.groups p.array stands.groups planned.exists) ∙ planned.on.keys_are) in
    let units = uses_enter geometry os [] o ss state.groups good later rows_there (stands.groups ∙ ap (groups_for geometry) (sym (no_uses_behind geometry os))) new finds in
    record {
      places = are_places geometry state.groups slots (All-weaker (Planned geometry os task bits) (IsPlace geometry state.groups) (λ p h. planned_is_place geometry os state.groups task bits p stands.groups h) (there slots) each);
      can = can.0;
      file = λ dims shaped. all_in_file geometry dims xs shaped (subst (All (IsHeld geometry)) (sym fresh) (live_held geometry o rows is.each));
      fresh = fresh;
      served = subst (AreServed (map f slots) 0) (sym xs_are) (served_beside f g [] slots (all_served geometry state.groups task.key slots));
      leased = rows_there;
      serve = units.0;
      settle = entries.0;
      stands = record { pools = pools; tables = entries.1; groups = units.1 };
    }
  where
    places_held : (geometry : Geometry) (sight : Sight) (task : Sketch) (places : List Place)
        → map holding_of (map (λ (p : Place). lent p.array p.region) places) ≡ map live_holding (map (row_at geometry sight task) places)
    places_held geometry sight task [] = refl
    places_held geometry sight task (p ∷ places) = ap (λ hs. live_holding (row_at geometry sight task p) ∷ hs) (places_held geometry sight task places)

    units_named : (units : List (Option UsedUnit)) (key : List ℕ) (keys : KeyUse) → map (λ (u : UnitMask). u.unit) (masks_for units key keys) ≡ units_in keys
    units_named units key (uses.Single unit) = refl
    units_named units key (uses.Pair one two) = refl

    row_has : (geometry : Geometry) (sight : Sight) (task : Sketch) (p : Place) → p.array < array_count geometry
        → All (λ unit. unit < units_count geometry (group_number geometry p.array)) (units_in p.keys) → HasUnits geometry (row_at geometry sight task p)
    row_has geometry sight task p lt exist =
        let units = units_at geometry sight p.array in
        record {
          array = lt;
          units = units_named units task.key p.keys;
          exist = All-map (λ (u : UnitMask). u.unit < units_count geometry (group_number geometry p.array))
              (λ unit. (let m : UnitMask = record { unit = unit; mask = mask_in task.key (unit_at units unit) } in m)) (units_in p.keys) exist;
        }
