-- Units of groups, where the rows of a task serve their keys or go.
use Rattle.std.proofs.Common.{◌≡◌, ◌≢◌, ℕ, suc, ◌+◌, ◌<◌, ◌≤◌, Bool, true, false, cond, List, [], ◌∷◌, ◌++◌, length, get_or, set, map, refl, ap, sym, ◌∙◌, subst, arith, length-append, append_assoc, ⊎_elim, get_or-set_same, get_or-set_other}
use Rattle.std.specs.Prelude.{◌==◌, Option, None, Some, fold}
use Rattle.std.specs.List.{All, AllPairs, filter, flat_map, range_with_len, count_by}
use Rattle.std.proofs.lemmas.Bool.{cases_eq}
use Rattle.std.proofs.lemmas.List.Elements.{All-head, All-tail, All-weaker, All-map, filter-append}
use Rattle.std.proofs.lemmas.List.Sums.{length-filter}
use Rattle.std.proofs.lemmas.List.FromFn.{length-map-range_with_len}
use Rattle.addr_translate.specs.Geometry.{Geometry, array_count, group_in, group_number}
use Rattle.addr_translate.proofs.GeometryLemmas.{ended_below}
use Rattle.group_keys.specs.declared.uses.KeyUse.{KeyUse}
use Rattle.group_keys.specs.Units.{HasRoom, AreInUse, times_in, uses_of, unit_at, units_in, keys_for, served_at, freed_at, served_units, freed_units}
use Rattle.pipe_core.specs.Rules.{units_of, served_in}
use Rattle.switch_model.specs.Records.{Row, UnitMask}
use Rattle.switch_model.specs.Sights.{GroupUse, row_uses, used_from, unit_uses, group_uses, units_from, units_on}
use Rattle.switch_model.specs.Soundness.{AgreeOnUnits}
use Rattle.switch_model.proofs.ListLemmas.{Parts, pairs_parts, pairs_append, all_back}
use Rattle.rule_txn.specs.State.{there}
use Rattle.rule_txn.specs.Rows.{Groups, with_use, with_uses, less_use, less_uses, CanServeAll, CanFreeAll}
use Rattle.rule_txn.specs.Switch.{groups_for}
use Rattle.rule_txn.proofs.Places.{map_set, at_range}
use Rattle.rule_txn.proofs.Again.{keys_again}
use Rattle.rule_txn.proofs.Uses.{Agree, use_in, unit_of, TakesKey, masks_more, masks_less, between, beside, uses_append, agree_in, still_empty}

pub pairs_cut : {X : Type 0} (R : X → X → Type 0) (front middle back : List X) → AllPairs R (front ++ (middle ++ back)) → AllPairs R (front ++ back)
pairs_cut R front middle back pairs =
    let outer : Parts R front (middle ++ back) = pairs_parts R front (middle ++ back) pairs in
    let inner : Parts R middle back = pairs_parts R middle back outer.back in
    pairs_append R front back outer.front inner.back
    (All-weaker (λ x. All (R x) (middle ++ back)) (λ x. All (R x) back) (λ x all. all_back (R x) middle back all) front outer.across)

abbrev pub group_of : Geometry → Row → ℕ
group_of geometry row = group_number geometry row.array

abbrev pub units_count : Geometry → ℕ → ℕ
units_count geometry group = (group_in geometry group).units

pub group_exists : (geometry : Geometry) (array : ℕ) → array < array_count geometry → group_number geometry array < length geometry.groups
group_exists geometry array lt = ended_below geometry.groups array lt

pub length-groups : (geometry : Geometry) (uses : List GroupUse) (groups : Groups) → groups ≡ groups_for geometry uses → length groups ≡ length geometry.groups
unfolding groups_for
length-groups geometry uses groups e = ap length e ∙ length-map-range_with_len (units_on geometry uses) 0 (length geometry.groups)

pub group_is : (geometry : Geometry) (uses : List GroupUse) (groups : Groups) (g : ℕ) → groups ≡ groups_for geometry uses → g < length geometry.groups
    → units_of groups g ≡ units_on geometry uses g
unfolding groups_for
group_is geometry uses groups g e lt = ap (λ gs. get_or gs g []) e ∙ at_range [] (units_on geometry uses) (length geometry.groups) g lt

-- what is to be known of a row, and of a row that serves its key behind these uses
pub record HasUnits (geometry : Geometry) (row : Row) : Type 0 where
  pub array : row.array < array_count geometry
  pub units : map unit_of row.masks ≡ units_in row.keys
  pub exist : All (λ (u : UnitMask). u.unit < units_count geometry (group_of geometry row)) row.masks

pub record IsNew (geometry : Geometry) (key : List ℕ) (before : List GroupUse) (row : Row) : Type 0 where
  pub has : HasUnits geometry row
  pub new : All (TakesKey key (group_uses before (group_of geometry row))) row.masks

pub row_more : (geometry : Geometry) (key : List ℕ) (front back : List GroupUse) (row : Row) (groups : Groups) → groups ≡ groups_for geometry (front ++ back)
    → IsNew geometry key front row → AllPairs AgreeOnUnits (front ++ (row_uses geometry row ++ back))
    → with_use geometry key groups (Some row) ≡ groups_for geometry (front ++ (row_uses geometry row ++ back))
unfolding groups_for served_units
row_more geometry key front back row groups e is pairs =
    let g = group_of geometry row in
    let c = units_count geometry g in
    let lt = group_exists geometry row.array is.has.array in
    let old = units_on geometry (front ++ back) in
    let new = units_on geometry (front ++ (row_uses geometry row ++ back)) in
    let apart : AllPairs Agree (group_uses front g ++ (map (use_in g) row.masks ++ group_uses back g)) =
    subst (AllPairs Agree) (between front back g row.masks) (agree_in (front ++ (row_uses geometry row ++ back)) g pairs) in
    ap (λ units. set groups g (served_units units row.keys key)) (group_is geometry (front ++ back) groups g e lt)
    ∙ ap (set groups g)
    (ap (λ ns. fold (served_at key) (old g) ns) (sym is.has.units)
    ∙ ap (λ us. fold (served_at key) (units_from c us) (map unit_of row.masks)) (uses_append front back g)
    ∙ masks_more c g key (group_uses front g) (group_uses back g) row.masks is.has.exist apart is.new
    ∙ ap (units_from c) (sym (between front back g row.masks)))
    ∙ ap (λ gs. set gs g (new g)) e
    ∙ map_set [] old new (length geometry.groups) g lt (λ j ne. ap (units_from (units_count geometry j)) (sym (beside front back g j (λ same. ne (sym same)) row.masks)))

pub row_less : (geometry : Geometry) (front back : List GroupUse) (row : Row) (groups : Groups) → groups ≡ groups_for geometry (front ++ (row_uses geometry row ++ back))
    → HasUnits geometry row → AllPairs AgreeOnUnits (front ++ (row_uses geometry row ++ back))
    → less_use geometry groups (Some row) ≡ groups_for geometry (front ++ back)
unfolding groups_for freed_units
row_less geometry front back row groups e has pairs =
    let g = group_of geometry row in
    let c = units_count geometry g in
    let lt = group_exists geometry row.array has.array in
    let old = units_on geometry (front ++ (row_uses geometry row ++ back)) in
    let new = units_on geometry (front ++ back) in
    let apart : AllPairs Agree (group_uses front g ++ (map (use_in g) row.masks ++ group_uses back g)) =
    subst (AllPairs Agree) (between front back g row.masks) (agree_in (front ++ (row_uses geometry row ++ back)) g pairs) in
    ap (λ units. set groups g (freed_units units row.keys)) (group_is geometry (front ++ (row_uses geometry row ++ back)) groups g e lt)
    ∙ ap (set groups g)
    (ap (λ ns. fold freed_at (old g) ns) (sym has.units)
    ∙ ap (λ us. fold freed_at (units_from c us) (map unit_of row.masks)) (between front back g row.masks)
    ∙ masks_less c g (group_uses front g) (group_uses back g) row.masks has.exist apart
    ∙ ap (units_from c) (sym (uses_append front back g)))
    ∙ ap (λ gs. set gs g (new g)) e
    ∙ map_set [] old new (length geometry.groups) g lt (λ j ne. ap (units_from (units_count geometry j)) (beside front back g j (λ same. ne (sym same)) row.masks))

-- ---- how many uses a unit has

abbrev pub count_of : List GroupUse → ℕ → ℕ → ℕ
count_of uses group unit = length (unit_uses (group_uses uses group) unit)

pub uses_are : (us : List GroupUse) → uses_of (used_from us) ≡ length us
uses_are [] = refl
uses_are (u ∷ us) = omega arith

pub count_both : (xs ys : List GroupUse) (group unit : ℕ) → count_of (xs ++ ys) group unit ≡ count_of xs group unit + count_of ys group unit
count_both xs ys group unit =
    ap (λ us. length (unit_uses us unit)) (uses_append xs ys group)
    ∙ ap length (filter-append (λ (u : GroupUse). u.unit == unit) (group_uses xs group) (group_uses ys group))
    ∙ length-append (unit_uses (group_uses xs group) unit) (unit_uses (group_uses ys group) unit)

abbrev pub HaveRoom : List GroupUse → Type 0
HaveRoom uses = (group unit : ℕ) → count_of uses group unit < 10000

fewer : (front middle back : List GroupUse) → HaveRoom (front ++ (middle ++ back)) → HaveRoom (front ++ back)
fewer front middle back room group unit =
    let most = room group unit in
    let one = count_both front (middle ++ back) group unit in
    let two = count_both middle back group unit in
    let three = count_both front back group unit in
    omega (arith, most, one, two, three)

units_have_room : (geometry : Geometry) (uses : List GroupUse) (group : ℕ) → HaveRoom uses → All HasRoom (units_on geometry uses group)
units_have_room geometry uses group room =
    All-map HasRoom (λ unit. used_from (unit_uses (group_uses uses group) unit)) (range_with_len 0 (units_count geometry group))
    (λ i d lt. let unit = get_or (range_with_len 0 (units_count geometry group)) i d in
    subst (λ n. n < 10000) (sym (uses_are (unit_uses (group_uses uses group) unit))) (room group unit))

-- ---- rows that serve, one after another

still_found : (groups : Groups) (g : ℕ) (keys : KeyUse) (key : List ℕ) → g < length groups → keys_for (units_of groups g) key ≡ Some keys
    → (h : ℕ) (others : KeyUse) → keys_for (units_of groups h) key ≡ Some others → keys_for (units_of (served_in groups g keys key) h) key ≡ Some others
still_found groups g keys key lt found h others is = ⊎_elim
    (λ (e : g ≡ h).
    let new = served_units (units_of groups g) keys key in
    ap (λ k. keys_for (units_of (set groups g new) k) key) (sym e)
    ∙ ap (λ us. keys_for us key) (get_or-set_same groups g new [] lt)
    ∙ keys_again (units_of groups g) key keys found
    ∙ sym found ∙ ap (λ k. keys_for (units_of groups k) key) e ∙ is)
    (λ (ne : g ≢ h). ap (λ us. keys_for us key) (get_or-set_other groups g h (served_units (units_of groups g) keys key) [] (λ same. ne (sym same))) ∙ is)
    (cases_eq g h)

still_new : (geometry : Geometry) (key : List ℕ) (front more : List GroupUse) (row : Row) → IsNew geometry key front row → IsNew geometry key (front ++ more) row
still_new geometry key front more row is =
    let g = group_of geometry row in
    record {
      has = is.has;
      new = All-weaker (TakesKey key (group_uses front g)) (TakesKey key (group_uses (front ++ more) g))
          (λ u takes none. takes (still_empty (group_uses front g) (group_uses more g) u.unit (ap (λ us. unit_uses us u.unit) (sym (uses_append front more g)) ∙ none))) row.masks is.new;
    }

abbrev pub uses_of_rows : Geometry → List Row → List GroupUse
uses_of_rows geometry rows = flat_map (row_uses geometry) rows

abbrev pub Finds : Geometry → List ℕ → Groups → Row → Type 0
Finds geometry key groups row = keys_for (units_of groups (group_of geometry row)) key ≡ Some row.keys

pub serves : (geometry : Geometry) (key : List ℕ) (front back : List GroupUse) (slots : List (Option Row)) (groups : Groups)
    → groups ≡ groups_for geometry (front ++ back) → All (IsNew geometry key front) (there slots) → All (Finds geometry key groups) (there slots)
    → AllPairs AgreeOnUnits (front ++ (uses_of_rows geometry (there slots) ++ back)) → HaveRoom (front ++ (uses_of_rows geometry (there slots) ++ back))
    → CanServeAll geometry key groups slots × (with_uses geometry key groups slots ≡ groups_for geometry (front ++ (uses_of_rows geometry (there slots) ++ back)))
serves geometry key front back [] groups e new found pairs room = (tt, e)
serves geometry key front back (None ∷ slots) groups e new found pairs room =
    let more = serves geometry key front back slots groups e new found pairs room in ((tt, more.0), more.1)
serves geometry key front back (Some row ∷ slots) groups e new found pairs room =
    let a = row_uses geometry row in
    let b = uses_of_rows geometry (there slots) in
    let g = group_of geometry row in
    let whole : (front ++ a) ++ (b ++ back) ≡ front ++ ((a ++ b) ++ back) = append_assoc front a (b ++ back) ∙ ap (λ us. front ++ us) (sym (append_assoc a b back)) in
    let is = All-head (IsNew geometry key front) row (there slots) new in
    let finds = All-head (Finds geometry key groups) row (there slots) found in
    let lt = group_exists geometry row.array is.has.array in
    let long = length-groups geometry (front ++ back) groups e in
    let inside : g < length groups = omega (arith, lt, long) in
    let later = subst (AllPairs AgreeOnUnits) (sym whole) pairs in
    let now = row_more geometry key front back row groups e is (subst (AllPairs AgreeOnUnits) (append_assoc front a back) (pairs_cut AgreeOnUnits (front ++ a) b back later)) in
    let next = with_use geometry key groups (Some row) in
    let more = serves geometry key (front ++ a) back slots next
    (now ∙ ap (groups_for geometry) (sym (append_assoc front a back)))
    (All-weaker (IsNew geometry key front) (IsNew geometry key (front ++ a)) (λ r n. still_new geometry key front a r n) (there slots) (All-tail (IsNew geometry key front) row (there slots) new))
    (All-weaker (Finds geometry key groups) (Finds geometry key next) (λ r f. still_found groups g row.keys key inside finds (group_of geometry r) r.keys f) (there slots)
    (All-tail (Finds geometry key groups) row (there slots) found))
    later (subst HaveRoom (sym whole) room) in (
      (
        record {
          array = is.has.array;
          group = inside;
          room = subst (All HasRoom) (sym (group_is geometry (front ++ back) groups g e lt)) (units_have_room geometry (front ++ back) g (fewer front (a ++ b) back room));
          keys = finds;
        },
        more.0,
      ),
      more.1 ∙ ap (groups_for geometry) whole,
    )

-- ---- rows that go

unit_filter : (g : ℕ) (ms : List UnitMask) (unit : ℕ) → length (unit_uses (map (use_in g) ms) unit) ≡ length (filter (λ other. other == unit) (map unit_of ms))
unit_filter g [] unit = refl
unit_filter g (u ∷ ms) unit = by (unit_filter g ms unit) (u.unit == unit)
  where
    by : length (unit_uses (map (use_in g) ms) unit) ≡ length (filter (λ other. other == unit) (map unit_of ms)) → (b : Bool)
        → length (cond b (use_in g u ∷ unit_uses (map (use_in g) ms) unit) (unit_uses (map (use_in g) ms) unit))
        ≡ length (cond b (u.unit ∷ filter (λ other. other == unit) (map unit_of ms)) (filter (λ other. other == unit) (map unit_of ms)))
    by rest true = ap suc rest
    by rest false = rest

own_count : (g : ℕ) (ms : List UnitMask) (unit : ℕ) → length (unit_uses (map (use_in g) ms) unit) ≡ count_by (λ other. other == unit) (map unit_of ms)
own_count g ms unit = unit_filter g ms unit ∙ length-filter (λ other. other == unit) (map unit_of ms)

row_in_use : (geometry : Geometry) (front back : List GroupUse) (row : Row) → HasUnits geometry row
    → AreInUse (units_on geometry (front ++ (row_uses geometry row ++ back)) (group_of geometry row)) row.keys
row_in_use geometry front back row has =
    let g = group_of geometry row in
    let c = units_count geometry g in
    let us = front ++ (row_uses geometry row ++ back) in
    let units = units_on geometry us g in
    let here : (unit : ℕ) → unit < c → times_in row.keys unit ≤ uses_of (unit_at units unit) =
    λ unit lt.
    let is : uses_of (unit_at units unit) ≡ count_of us g unit =
    ap uses_of (at_range None (λ k. used_from (unit_uses (group_uses us g) k)) c unit lt) ∙ uses_are (unit_uses (group_uses us g) unit) in
    let split : count_of us g unit ≡ length (unit_uses (group_uses front g ++ (map (use_in g) row.masks ++ group_uses back g)) unit) =
    ap (λ xs. length (unit_uses xs unit)) (between front back g row.masks) in
    let test = (λ (u : GroupUse). u.unit == unit) in
    let one = ap length (filter-append test (group_uses front g) (map (use_in g) row.masks ++ group_uses back g))
    ∙ length-append (unit_uses (group_uses front g) unit) (unit_uses (map (use_in g) row.masks ++ group_uses back g) unit) in
    let two = ap length (filter-append test (map (use_in g) row.masks) (group_uses back g))
    ∙ length-append (unit_uses (map (use_in g) row.masks) unit) (unit_uses (group_uses back g) unit) in
    let three = own_count g row.masks unit ∙ ap (count_by (λ other. other == unit)) has.units in
    omega (arith, is, split, one, two, three) in
    subst (All (λ unit. times_in row.keys unit ≤ uses_of (unit_at units unit))) has.units
    (All-map (λ unit. times_in row.keys unit ≤ uses_of (unit_at units unit)) unit_of row.masks
    (All-weaker (λ (u : UnitMask). u.unit < c) (λ (u : UnitMask). times_in row.keys u.unit ≤ uses_of (unit_at units u.unit)) (λ u lt. here u.unit lt) row.masks has.exist))

pub frees : (geometry : Geometry) (front back : List GroupUse) (slots : List (Option Row)) (groups : Groups)
    → groups ≡ groups_for geometry (front ++ (uses_of_rows geometry (there slots) ++ back)) → All (HasUnits geometry) (there slots)
    → AllPairs AgreeOnUnits (front ++ (uses_of_rows geometry (there slots) ++ back))
    → CanFreeAll geometry groups slots × (less_uses geometry groups slots ≡ groups_for geometry (front ++ back))
frees geometry front back [] groups e has pairs = (tt, e)
frees geometry front back (None ∷ slots) groups e has pairs = let more = frees geometry front back slots groups e has pairs in ((tt, more.0), more.1)
frees geometry front back (Some row ∷ slots) groups e has pairs =
    let a = row_uses geometry row in
    let b = uses_of_rows geometry (there slots) in
    let g = group_of geometry row in
    let whole : front ++ ((a ++ b) ++ back) ≡ front ++ (a ++ (b ++ back)) = ap (λ us. front ++ us) (append_assoc a b back) in
    let first = All-head (HasUnits geometry) row (there slots) has in
    let lt = group_exists geometry row.array first.array in
    let was = e ∙ ap (groups_for geometry) whole in
    let long = length-groups geometry (front ++ (a ++ (b ++ back))) groups was in
    let apart = subst (AllPairs AgreeOnUnits) whole pairs in
    let now = row_less geometry front (b ++ back) row groups was first apart in
    let more = frees geometry front back slots (less_use geometry groups (Some row)) now (All-tail (HasUnits geometry) row (there slots) has) (pairs_cut AgreeOnUnits front a (b ++ back) apart) in (
      (
        record {
          array = first.array;
          group = omega (arith, lt, long);
          in_use = subst (λ units. AreInUse units row.keys) (sym (group_is geometry (front ++ (a ++ (b ++ back))) groups g was lt)) (row_in_use geometry front (b ++ back) row first);
        },
        more.0,
      ),
      more.1,
    )
