-- A task between others: its entries and its uses, coming and going.
use Rattle.std.proofs.Common.{◌≡◌, ℕ, zero, suc, ◌+◌, ◌<◌, ◌≤◌, ◌^◌, List, [], ◌∷◌, ◌++◌, length, get_or, map, take, refl, ap, ap₂, sym, ◌∙◌, subst, arith}
use Rattle.std.specs.Prelude.{Option, None, Some, IfSome, sum_by}
use Rattle.std.specs.List.{All, AllPairs, filter_map, flat_map}
use Rattle.std.proofs.lemmas.List.Elements.{All-head, All-tail, All-nil, All-cons, All-append, All-map, All-weaker}
use Rattle.std.proofs.lemmas.List.Sums.{sum_by-cons}
use Rattle.addr_translate.specs.declared.shapes.GroupShape.{GroupShape}
use Rattle.addr_translate.specs.Geometry.{Geometry, IsGeometry, array_count, arrays_before, group_in, group_number}
use Rattle.group_keys.specs.Units.{units_in}
use Rattle.pkt_headers.specs.declared.packets.Attr.{Attr}
use Rattle.match_table.specs.Tables.{EntryTable}
use Rattle.cmu_stage.specs.Passing.{IsFrom}
use Rattle.sketch_defs.specs.declared.kinds.Kind.{Kind}
use Rattle.sketch_defs.specs.declared.kinds.Kind.TheVariants.{Cms, SumaxSum, SumaxMax, Bloom, Mrac, Hll, FlagOr, FlagAnd}
use Rattle.sketch_defs.proofs.TaskLemmas.{few_rows}
use Rattle.sketch_lower.specs.Lowering.{micro_of}
use Rattle.switch_model.specs.Records.{Row, Outline}
use Rattle.switch_model.specs.Sights.{Holding, Spot, GroupUse, live_holding, frozen_holding, held_by, all_held, before_of, spot_of, spots_from, spots_by, all_spots, all_uses, rules_on}
use Rattle.switch_model.specs.Soundness.{IsRow, IsTask, RisesIn, ShareNone, MatchNone, AgreeOnUnits, Sound}
use Rattle.switch_model.proofs.ListLemmas.{Parts, pairs_parts, pairs_append, pairs_head, pairs_tail, pairs_mapped, pairs_weaker, all_front, all_back, all_here, map_append}
use Rattle.switch_model.proofs.EditLemmas.{spots_between, uses_between}
use Rattle.rule_txn.specs.State.{there}
use Rattle.rule_txn.specs.Rows.{Groups, first_turn, with_rows, less_rows, with_uses, less_uses, CanSettleAll, CanLeaveAll, CanServeAll, CanFreeAll}
use Rattle.rule_txn.specs.Switch.{placed_table, tables_for, groups_for}
use Rattle.rule_txn.proofs.Pools.{Differ, share_differ}
use Rattle.rule_txn.proofs.Tables.{SpotsDiffer}
use Rattle.rule_txn.proofs.Settled.{MayStand, MaySettle, settles, leaves}
use Rattle.rule_txn.proofs.Uses.{unit_of}
use Rattle.rule_txn.proofs.Served.{HasUnits, IsNew, Finds, HaveRoom, uses_of_rows, serves, frees}
use Rattle.rule_txn.proofs.Bounds.{cmus, spot_holding, spots_live, group_range, few_entries, have_room}

-- ---- bases of entries differ, since regions share no register

pub all_lives : (os : List Outline) → List Holding
all_lives os = flat_map (λ (o : Outline). map live_holding o.rows) os

pub live_all : (P : Holding → Type 0) (os : List Outline) → All P (flat_map held_by os) → All P (all_lives os)
unfolding all_lives
live_all P [] each = each
live_all P (o ∷ os) each =
    All-append P (map live_holding o.rows) (all_lives os)
    (all_front P (map live_holding o.rows) (filter_map frozen_holding o.rows) (all_front P (held_by o) (flat_map held_by os) each))
    (live_all P os (all_back P (held_by o) (flat_map held_by os) each))

live_pairs : (os : List Outline) → AllPairs ShareNone (flat_map held_by os) → AllPairs ShareNone (all_lives os)
unfolding all_lives
live_pairs [] pairs = pairs
live_pairs (o ∷ os) pairs =
    let outer : Parts ShareNone (held_by o) (flat_map held_by os) = pairs_parts ShareNone (held_by o) (flat_map held_by os) pairs in
    let inner : Parts ShareNone (map live_holding o.rows) (filter_map frozen_holding o.rows) = pairs_parts ShareNone (map live_holding o.rows) (filter_map frozen_holding o.rows) outer.front in
    pairs_append ShareNone (map live_holding o.rows) (all_lives os) inner.front (live_pairs os outer.back)
    (All-weaker (λ x. All (ShareNone x) (flat_map held_by os)) (λ x. All (ShareNone x) (all_lives os)) (λ x each. live_all (ShareNone x) os each) (map live_holding o.rows)
    (all_front (λ x. All (ShareNone x) (flat_map held_by os)) (map live_holding o.rows) (filter_map frozen_holding o.rows) outer.across))

pub spots_are_live : (os : List Outline) → map spot_holding (flat_map spots_by os) ≡ all_lives os
unfolding all_lives
spots_are_live [] = refl
spots_are_live (o ∷ os) =
    map_append spot_holding (spots_by o) (flat_map spots_by os) ∙ ap₂ (λ xs ys. xs ++ ys) (spots_live o.task 0 None o.rows) (spots_are_live os)

pub spots_differ : (geometry : Geometry) (os : List Outline) → Sound geometry os → AllPairs SpotsDiffer (all_spots os)
unfolding all_spots all_held
spots_differ geometry os sound =
    pairs_mapped Differ spot_holding (all_spots os)
    (subst (AllPairs Differ) (sym (spots_are_live os)) (pairs_weaker ShareNone Differ (λ x y s. share_differ x y s) (all_lives os) (live_pairs os sound.regions)))

-- ---- an entry may stand on its row's array

sum_more : (gs : List GroupShape) (m n : ℕ) → m < n → sum_by cmus (take m gs) + (get_or gs m (let none : GroupShape = record { cmus = 0; units = 0; bits = 0 } in none)).cmus ≤ sum_by cmus (take n gs)
sum_more [] zero zero lt = omega arith
sum_more [] zero (suc n) lt = omega arith
sum_more [] (suc m) zero lt = omega arith
sum_more [] (suc m) (suc n) lt = omega arith
sum_more (g ∷ gs) zero zero lt = absurd (omega (arith, lt))
sum_more (g ∷ gs) zero (suc n) lt = omega (arith, sum_by-cons cmus g (take n gs))
sum_more (g ∷ gs) (suc m) zero lt = absurd (omega (arith, lt))
sum_more (g ∷ gs) (suc m) (suc n) lt =
    let rest = sum_more gs m n (omega (arith, lt)) in
    omega (arith, rest, sum_by-cons cmus g (take m gs), sum_by-cons cmus g (take n gs))

earlier_group : (geometry : Geometry) (a g : ℕ) → a < array_count geometry → group_number geometry a < g → a < arrays_before geometry g
earlier_group geometry a g lt less =
    let range = group_range geometry.groups a lt in
    let more = sum_more geometry.groups (group_number geometry a) g less in
    omega (arith, range.1, more)

-- what is known of the row before
abbrev pub Follows : Geometry → Kind → Option ℕ → Row → Type 0
Follows geometry kind before row = IfSome before (λ a. (a < array_count geometry) × (kind ≡ SumaxSum → group_number geometry a < group_number geometry row.array))

from_before : (geometry : Geometry) (kind : Kind) (attr : Attr) (before : Option ℕ) (row : Row) → Follows geometry kind before row
    → IsFrom (arrays_before geometry (group_number geometry row.array)) (micro_of kind attr (before_of kind before)).second
from_before geometry Cms attr before row follows = tt
from_before geometry SumaxSum attr None row follows = tt
from_before geometry SumaxSum attr (Some a) row follows = earlier_group geometry a (group_number geometry row.array) follows.0 (follows.1 refl)
from_before geometry SumaxMax attr before row follows = tt
from_before geometry Bloom attr before row follows = tt
from_before geometry Mrac attr before row follows = tt
from_before geometry Hll attr before row follows = tt
from_before geometry FlagOr attr before row follows = tt
from_before geometry FlagAnd attr before row follows = tt

rises_groups : (geometry : Geometry) (kind : Kind) (one two : Row) → RisesIn geometry kind one two → kind ≡ SumaxSum → group_number geometry one.array < group_number geometry two.array
rises_groups geometry kind one two rises same = subst (λ k. RisesIn geometry k one two) same rises

unit_exists : (geometry : Geometry) (o : Outline) (row : Row) → IsRow geometry o row
    → All (λ unit. unit < (group_in geometry (group_number geometry row.array)).units) (units_in row.keys)
unit_exists geometry o row is =
    subst (All (λ unit. unit < (group_in geometry (group_number geometry row.array)).units)) is.units
    (All-map (λ unit. unit < (group_in geometry (group_number geometry row.array)).units) unit_of row.masks is.exist)

may_stand : (geometry : Geometry) (o : Outline) (i : ℕ) (before : Option ℕ) (row : Row) → i < 4 → IsRow geometry o row → Follows geometry o.task.kind before row
    → MayStand geometry (spot_of o.task i before row)
may_stand geometry o i before row few is follows = record {
  array = is.array;
  fits = record {
    row = few;
    inside = (let part = is.live in part.inside);
    exist = unit_exists geometry o row is;
    carry = from_before geometry o.task.kind o.task.attr before row follows;
  };
}

stand_from : (geometry : Geometry) (o : Outline) (i : ℕ) (before : Option ℕ) (rows : List Row) → i + length rows ≤ 4 → All (IsRow geometry o) rows
    → AllPairs (RisesIn geometry o.task.kind) rows → All (Follows geometry o.task.kind before) rows → All (MayStand geometry) (spots_from o.task i before rows)
stand_from geometry o i before [] few are rise follow = All-nil (MayStand geometry)
stand_from geometry o i before (row ∷ rows) few are rise follow =
    let is = All-head (IsRow geometry o) row rows are in
    All-cons (MayStand geometry) (spot_of o.task i before row) (spots_from o.task (i + 1) (Some row.array) rows)
    (may_stand geometry o i before row (omega (arith, few)) is (All-head (Follows geometry o.task.kind before) row rows follow))
    (stand_from geometry o (i + 1) (Some row.array) rows (omega (arith, few)) (All-tail (IsRow geometry o) row rows are)
    (pairs_tail (RisesIn geometry o.task.kind) row rows rise)
    (All-weaker (RisesIn geometry o.task.kind row) (Follows geometry o.task.kind (Some row.array)) (λ r rises. (is.array, rises_groups geometry o.task.kind row r rises)) rows
    (pairs_head (RisesIn geometry o.task.kind) row rows rise)))

pub task_stands : (geometry : Geometry) (o : Outline) → IsTask geometry o → All (MayStand geometry) (spots_by o)
task_stands geometry o is =
    stand_from geometry o 0 None o.rows (let few = few_rows o.task is.allowed in let long = is.rows in omega (arith, few, long)) is.each is.rising
    (All-weaker (IsRow geometry o) (Follows geometry o.task.kind None) (λ row h. tt) o.rows is.each)

-- ---- entries

pub enters : (geometry : Geometry) (front back : List Outline) (o : Outline) (slots : List (Option Row)) (tables : List EntryTable)
    → Sound geometry (front ++ o ∷ back) → there slots ≡ o.rows → map placed_table tables ≡ tables_for geometry (all_spots front ++ all_spots back)
    → CanSettleAll geometry o.task first_turn tables slots × (map placed_table (with_rows o.task first_turn tables slots) ≡ tables_for geometry (all_spots (front ++ o ∷ back)))
enters geometry front back o slots tables sound rows e =
    let is : IsTask geometry o = all_here (IsTask geometry) front back o sound.tasks in
    let between = spots_between front back o in
    let may : MaySettle geometry (all_spots front) (spots_by o) (all_spots back) = record {
      stand = task_stands geometry o is;
      differ = subst (AllPairs SpotsDiffer) between (spots_differ geometry (front ++ o ∷ back) sound);
      apart = subst (AllPairs MatchNone) between sound.filters;
      few = λ a lt. subst (λ spots. length (rules_on spots a) ≤ 2 ^ geometry.split) between (few_entries geometry (front ++ o ∷ back) sound a);
    } in
    let there_ : spots_from o.task 0 None o.rows ≡ spots_from o.task 0 None (there slots) = ap (spots_from o.task 0 None) (sym rows) in
    let long : length (there slots) ≡ o.task.rows = ap length rows ∙ is.rows in
    let all_ = settles geometry o.task first_turn (all_spots front) (all_spots back) slots tables e (omega (arith, long)) ((λ _. refl), (λ _. refl))
    (subst (λ ss. MaySettle geometry (all_spots front) ss (all_spots back)) there_ may) in
    (all_.0, all_.1 ∙ ap (λ ss. tables_for geometry (all_spots front ++ (ss ++ all_spots back))) (sym there_) ∙ ap (tables_for geometry) (sym between))

pub exits : (geometry : Geometry) (front back : List Outline) (o : Outline) (slots : List (Option Row)) (tables : List EntryTable)
    → Sound geometry (front ++ o ∷ back) → there slots ≡ o.rows → map placed_table tables ≡ tables_for geometry (all_spots (front ++ o ∷ back))
    → CanLeaveAll geometry tables slots × (map placed_table (less_rows tables slots) ≡ tables_for geometry (all_spots front ++ all_spots back))
exits geometry front back o slots tables sound rows e =
    let is : IsTask geometry o = all_here (IsTask geometry) front back o sound.tasks in
    let between = spots_between front back o in
    let there_ : spots_from o.task 0 None o.rows ≡ spots_from o.task 0 None (there slots) = ap (spots_from o.task 0 None) (sym rows) in
    leaves geometry o.task 0 None (all_spots front) (all_spots back) slots tables
    (e ∙ ap (tables_for geometry) between ∙ ap (λ ss. tables_for geometry (all_spots front ++ (ss ++ all_spots back))) there_)
    (subst (All (λ (s : Spot). s.array < array_count geometry)) there_
    (All-weaker (MayStand geometry) (λ (s : Spot). s.array < array_count geometry) (λ s m. m.array) (spots_by o) (task_stands geometry o is)))
    (subst (λ ss. AllPairs SpotsDiffer (all_spots front ++ (ss ++ all_spots back))) there_ (subst (AllPairs SpotsDiffer) between (spots_differ geometry (front ++ o ∷ back) sound)))

-- ---- uses

has_units : (geometry : Geometry) (o : Outline) (row : Row) → IsRow geometry o row → HasUnits geometry row
has_units geometry o row is = record { array = is.array; units = is.units; exist = is.exist }

pub task_units : (geometry : Geometry) (o : Outline) → IsTask geometry o → All (HasUnits geometry) o.rows
task_units geometry o is = All-weaker (IsRow geometry o) (HasUnits geometry) (λ row r. has_units geometry o row r) o.rows is.each

pub uses_enter : (geometry : Geometry) (front back : List Outline) (o : Outline) (slots : List (Option Row)) (groups : Groups) → IsGeometry geometry
    → Sound geometry (front ++ o ∷ back) → there slots ≡ o.rows → groups ≡ groups_for geometry (all_uses geometry front ++ all_uses geometry back)
    → All (IsNew geometry o.task.key (all_uses geometry front)) o.rows → All (Finds geometry o.task.key groups) o.rows
    → CanServeAll geometry o.task.key groups slots × (with_uses geometry o.task.key groups slots ≡ groups_for geometry (all_uses geometry (front ++ o ∷ back)))
uses_enter geometry front back o slots groups good sound rows e new found =
    let between = uses_between geometry front back o in
    let there_ : o.rows ≡ there slots = sym rows in
    let L : List Row → List GroupUse = λ rs. all_uses geometry front ++ (uses_of_rows geometry rs ++ all_uses geometry back) in
    let all_ = serves geometry o.task.key (all_uses geometry front) (all_uses geometry back) slots groups e
    (subst (All (IsNew geometry o.task.key (all_uses geometry front))) there_ new)
    (subst (All (Finds geometry o.task.key groups)) there_ found)
    (subst (λ rs. AllPairs AgreeOnUnits (L rs)) there_ (subst (AllPairs AgreeOnUnits) between sound.units))
    (subst (λ rs. HaveRoom (L rs)) there_ (subst HaveRoom between (have_room geometry (front ++ o ∷ back) good sound))) in
    (all_.0, all_.1 ∙ ap (λ rs. groups_for geometry (L rs)) (sym there_) ∙ ap (groups_for geometry) (sym between))

pub uses_exit : (geometry : Geometry) (front back : List Outline) (o : Outline) (slots : List (Option Row)) (groups : Groups)
    → Sound geometry (front ++ o ∷ back) → there slots ≡ o.rows → groups ≡ groups_for geometry (all_uses geometry (front ++ o ∷ back))
    → CanFreeAll geometry groups slots × (less_uses geometry groups slots ≡ groups_for geometry (all_uses geometry front ++ all_uses geometry back))
uses_exit geometry front back o slots groups sound rows e =
    let is : IsTask geometry o = all_here (IsTask geometry) front back o sound.tasks in
    let between = uses_between geometry front back o in
    let there_ : o.rows ≡ there slots = sym rows in
    let L : List Row → List GroupUse = λ rs. all_uses geometry front ++ (uses_of_rows geometry rs ++ all_uses geometry back) in
    frees geometry (all_uses geometry front) (all_uses geometry back) slots groups
    (e ∙ ap (groups_for geometry) between ∙ ap (λ rs. groups_for geometry (L rs)) there_)
    (subst (All (HasUnits geometry)) there_ (task_units geometry o is))
    (subst (λ rs. AllPairs AgreeOnUnits (L rs)) there_ (subst (AllPairs AgreeOnUnits) between sound.units))
