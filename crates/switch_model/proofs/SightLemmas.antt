-- What a placement sees of tasks, array by array and unit by unit.
use Rattle.std.proofs.Common.{◌≡◌, ℕ, suc, ◌<◌, ◌≤◌, ◌==◌, ◌&&◌, Bool, true, false, cond, List, [], ◌∷◌, length, get_or, map, filter, refl, ap, sym, ◌∙◌, arith}
use Rattle.std.specs.Prelude.{Option, None, Some, IfSome}
use Rattle.std.specs.List.{All, AllPairs, list_all}
use Rattle.std.proofs.lemmas.Bool.{false≢true, eqb-true, eqb-false}
use Rattle.std.proofs.lemmas.List.Elements.{All-nil, All-cons, All-head, All-tail, All-weaker, All-filter, filter_passes}
use Rattle.std.proofs.lemmas.List.FromFn.{get_or-map-range_with_len, length-map-range_with_len}
use Rattle.addr_translate.specs.Blocks.{Block}
use Rattle.addr_translate.specs.Geometry.{Geometry, array_count, group_number}
use Rattle.addr_translate.proofs.GeometryLemmas.{ended_below}
use Rattle.partition_pool.specs.Regions.{are_apart, is_free, begins_before}
use Rattle.task_filters.specs.Filters.{Pattern, are_disjoint}
use Rattle.match_table.specs.Tables.{admits, is_apart}
use Rattle.group_keys.specs.Units.{UsedUnit, unit_at}
use Rattle.placer.specs.Sights.{rules_at, taken_at, units_at}
use Rattle.placer.proofs.SightLemmas.{all_sorted}
use Rattle.switch_model.specs.Records.{Outline}
use Rattle.switch_model.specs.Sights.{Holding, Spot, GroupUse, all_held, all_spots, all_uses, taken_on, rules_on, group_uses, unit_uses, used_from, units_from, units_on, sight_of}
use Rattle.switch_model.specs.Soundness.{ShareNone, AgreeOnUnits}
use Rattle.switch_model.proofs.ListLemmas.{Across, all_and, pairs_head, pairs_tail}

-- ---- array by array

pub rules_seen : (geometry : Geometry) (all : List Outline) (array : ℕ) → array < array_count geometry
    → rules_at (sight_of geometry all) array ≡ rules_on (all_spots all) array
unfolding sight_of
rules_seen geometry all array within =
    get_or-map-range_with_len (rules_on (all_spots all)) 0 (array_count geometry) array array [] within (omega arith)

pub taken_seen : (geometry : Geometry) (all : List Outline) (array : ℕ) → array < array_count geometry
    → taken_at (sight_of geometry all) array ≡ taken_on (all_held all) array
unfolding sight_of
taken_seen geometry all array within =
    get_or-map-range_with_len (taken_on (all_held all)) 0 (array_count geometry) array array [] within (omega arith)

pub units_seen : (geometry : Geometry) (all : List Outline) (array : ℕ) → array < array_count geometry
    → units_at geometry (sight_of geometry all) array ≡ units_on geometry (all_uses geometry all) (group_number geometry array)
unfolding sight_of
units_seen geometry all array within =
    get_or-map-range_with_len (units_on geometry (all_uses geometry all)) 0 (length geometry.groups) (group_number geometry array) (group_number geometry array) []
    (ended_below geometry.groups array within) (omega arith)

-- what passes on an array passes at each element of the array
on_array : {H X : Type 0} (place : H → ℕ) (it : H → X) (p : X → Bool) (array : ℕ) (hs : List H)
    → list_all p (map it (filter (λ h. place h == array) hs)) ≡ true → All (λ h. place h ≡ array → p (it h) ≡ true) hs
on_array place it p array [] passes = All-nil (λ h. place h ≡ array → p (it h) ≡ true)
on_array {H} {X} place it p array (h ∷ hs) passes = by (on_array place it p array hs) (place h == array) (p (it h)) refl refl passes where
  rest : List X
  rest = map it (filter (λ h. place h == array) hs)

  by : (list_all p rest ≡ true → All (λ h. place h ≡ array → p (it h) ≡ true) hs) → (a b : Bool) → (place h == array) ≡ a → p (it h) ≡ b
      → list_all p (map it (cond a (h ∷ filter (λ h. place h == array) hs) (filter (λ h. place h == array) hs))) ≡ true
      → All (λ h. place h ≡ array → p (it h) ≡ true) (h ∷ hs)
  by more true true e f all =
      All-cons (λ h. place h ≡ array → p (it h) ≡ true) h hs (λ on. f) (more (sym (ap (λ t. t && list_all p rest) f) ∙ all))
  by more true false e f all = absurd (false≢true (sym (ap (λ t. t && list_all p rest) f) ∙ all))
  by more false b e f all =
      All-cons (λ h. place h ≡ array → p (it h) ≡ true) h hs (λ on. absurd (eqb-false (place h) array e on)) (more all)

-- a free region of an array shares no register with what is held
pub free_of_all : (held : List Holding) (array : ℕ) (region : Block) → is_free (taken_on held array) region ≡ true
    → All (λ h. ShareNone (let new : Holding = record { array = array; region = region } in new) h) held
free_of_all held array region free =
    All-weaker (λ (h : Holding). h.array ≡ array → are_apart region h.region ≡ true)
    (λ h. ShareNone (let new : Holding = record { array = array; region = region } in new) h) (λ h apart same. apart (sym same)) held
    (on_array (λ (h : Holding). h.array) (λ (h : Holding). h.region) (are_apart region) array held
    (sym (all_sorted (are_apart region) begins_before (map (λ (h : Holding). h.region) (filter (λ (h : Holding). h.array == array) held))) ∙ free))

-- a filter that the entries of an array admit matches no vector that one of them matches
pub admitted : (spots : List Spot) (array : ℕ) (filter_ : Pattern) → admits (rules_on spots array) filter_ ≡ true
    → All (λ (s : Spot). s.array ≡ array → are_disjoint s.entry.filter filter_ ≡ true) spots
admitted spots array filter_ admits_ =
    on_array (λ (s : Spot). s.array) (λ (s : Spot). s.entry) (is_apart filter_) array spots admits_

-- ---- unit by unit

pub length_units : (count : ℕ) (uses : List GroupUse) → length (units_from count uses) ≡ count
length_units count uses = length-map-range_with_len (λ unit. used_from (unit_uses uses unit)) 0 count

pub unit_seen : (count : ℕ) (uses : List GroupUse) (unit : ℕ) → unit < count → unit_at (units_from count uses) unit ≡ used_from (unit_uses uses unit)
unit_seen count uses unit within =
    get_or-map-range_with_len (λ unit. used_from (unit_uses uses unit)) 0 count unit unit None within (omega arith)

-- the unit is in use with this mask
abbrev pub HasMask : Option UsedUnit → List ℕ → Type 0
HasMask None mask = ⊥
HasMask (Some used) mask = used.mask ≡ mask

-- where uses of a unit have one mask, it has that of each
pub masks_known : (uses : List GroupUse) (group unit : ℕ) → Across AgreeOnUnits uses uses
    → All (λ (v : GroupUse). v.group ≡ group → v.unit ≡ unit → HasMask (used_from (unit_uses (group_uses uses group) unit)) v.mask) uses
masks_known uses group unit agree = first uses (λ i d within j e inside. (agree i d within j e inside).same) where
  Same : GroupUse → GroupUse → Type 0
  Same one two = one.group ≡ two.group → one.unit ≡ two.unit → one.mask ≡ two.mask

  first : (uses : List GroupUse) → Across Same uses uses
      → All (λ (v : GroupUse). v.group ≡ group → v.unit ≡ unit → HasMask (used_from (unit_uses (group_uses uses group) unit)) v.mask) uses
  first [] agree = All-nil (λ (v : GroupUse). v.group ≡ group → v.unit ≡ unit → HasMask (used_from (unit_uses (group_uses [] group) unit)) v.mask)
  first (x ∷ us) agree = by (first us rest) (x.group == group) refl where
    heads : All (Same x) (x ∷ us)
    heads = All-head (λ u. All (Same u) (x ∷ us)) x us agree

    rest : Across Same us us
    rest i d within j e inside = agree (suc i) d (omega arith) (suc j) e (omega arith)

    others : List GroupUse
    others = unit_uses (group_uses us group) unit

    Known : List GroupUse → GroupUse → Type 0
    Known of v = v.group ≡ group → v.unit ≡ unit → HasMask (used_from of) v.mask

    here : All (Known others) us → x.group ≡ group → (b : Bool) → (x.unit == unit) ≡ b → All (Known (cond b (x ∷ others) others)) (x ∷ us)
    here more on true e =
        let same : x.unit ≡ unit = eqb-true x.unit unit e in
        All-cons (Known (x ∷ others)) x us (λ at is. refl)
        (All-weaker (Same x) (Known (x ∷ others)) (λ v mask at is. mask (on ∙ sym at) (same ∙ sym is)) us (All-tail (Same x) x us heads))
    here more on false e = All-cons (Known others) x us (λ at is. absurd (eqb-false x.unit unit e is)) more

    by : All (Known others) us → (b : Bool) → (x.group == group) ≡ b
        → All (Known (unit_uses (cond b (x ∷ group_uses us group) (group_uses us group)) unit)) (x ∷ us)
    by more true e = here more (eqb-true x.group group e) (x.unit == unit) refl
    by more false e = All-cons (Known others) x us (λ on. absurd (eqb-false x.group group e on)) more

-- a unit in use has a use with its mask, of which holds what holds of all
pub record UseOf (P : GroupUse → Type 0) (group unit : ℕ) (used : UsedUnit) : Type 0 where
  pub one : GroupUse
  pub holds : P one
  pub in_group : one.group ≡ group
  pub is : one.unit ≡ unit
  pub mask : one.mask ≡ used.mask
  pub some : 1 ≤ used.uses

pub use_of : (P : GroupUse → Type 0) (uses : List GroupUse) (group unit : ℕ) → All P uses
    → IfSome (used_from (unit_uses (group_uses uses group) unit)) (UseOf P group unit)
use_of P uses group unit all =
    by (unit_uses (group_uses uses group) unit)
    (All-filter (λ (u : GroupUse). u.unit == unit) Q (group_uses uses group)
    (all_and P (λ (u : GroupUse). (u.group == group) ≡ true) (group_uses uses group)
    (All-filter (λ (u : GroupUse). u.group == group) P uses all) (filter_passes (λ (u : GroupUse). u.group == group) uses)))
    (filter_passes (λ (u : GroupUse). u.unit == unit) (group_uses uses group)) where
      Q : GroupUse → Type 0
      Q u = P u × ((u.group == group) ≡ true)

      by : (us : List GroupUse) → All Q us → All (λ (u : GroupUse). (u.unit == unit) ≡ true) us → IfSome (used_from us) (UseOf P group unit)
      by [] one two = tt
      by (first ∷ others) one two =
          let h : Q first = All-head Q first others one in
          record {
            one = first;
            holds = h.0;
            in_group = eqb-true first.group group h.1;
            is = eqb-true first.unit unit (All-head (λ (u : GroupUse). (u.unit == unit) ≡ true) first others two);
            mask = refl;
            some = omega arith;
          }

-- ---- uses that agree

pub agree_itself : (u : GroupUse) → AgreeOnUnits u u
agree_itself u = record { same = λ on is. refl; other = λ on ne. absurd (ne refl) }

pub agree_turned : (one two : GroupUse) → AgreeOnUnits one two → AgreeOnUnits two one
agree_turned one two agree = record {
  same = λ on is. sym (agree.same (sym on) (sym is));
  other = λ on ne same. agree.other (sym on) (λ is. ne (sym is)) (sym same);
}

-- each with each, itself as well
pub all_agree : (uses : List GroupUse) → AllPairs AgreeOnUnits uses → Across AgreeOnUnits uses uses
all_agree [] pairs = All-nil (λ x. All (AgreeOnUnits x) [])
all_agree (u ∷ us) pairs =
    let heads : All (AgreeOnUnits u) us = pairs_head AgreeOnUnits u us pairs in
    let rest : Across AgreeOnUnits us us = all_agree us (pairs_tail AgreeOnUnits u us pairs) in
    All-cons (λ x. All (AgreeOnUnits x) (u ∷ us)) u us
    (All-cons (AgreeOnUnits u) u us (agree_itself u) heads)
    (λ k d within. All-cons (AgreeOnUnits (get_or us k d)) u us (agree_turned u (get_or us k d) (heads k d within)) (rest k d within))

pub across_pairs : {X : Type 0} (R : X → X → Type 0) (xs : List X) → Across R xs xs → AllPairs R xs
across_pairs R xs across i j d before within = across i d (omega arith) j d within
