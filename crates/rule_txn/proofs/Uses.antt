-- Uses of the units of a group that come and go.
use Rattle.std.proofs.Common.{◌≡◌, ◌≢◌, ℕ, ◌+◌, ◌-◌, ◌<◌, Bool, true, false, cond, List, [], ◌∷◌, ◌++◌, length, set, map, refl, ap, sym, ◌∙◌, subst, arith, length-append, eq-eqb, append_assoc}
use Rattle.std.specs.Prelude.{◌==◌, nat_le, Option, None, Some, fold}
use Rattle.std.specs.List.{All, AllPairs, range_with_len}
use Rattle.std.proofs.lemmas.Bool.Decides.{nat_tests}
use Rattle.std.proofs.lemmas.List.Elements.{All-head, All-tail, All-nil, All-cons, All-append, All-weaker, filter-append}
use Rattle.std.proofs.lemmas.List.Kept.{AllPairs-filter}
use Rattle.group_keys.specs.Units.{UsedUnit, served, freed, served_at, freed_at}
use Rattle.switch_model.specs.Records.{UnitMask}
use Rattle.switch_model.specs.Sights.{GroupUse, used_from, unit_uses, group_uses, units_from}
use Rattle.switch_model.specs.Soundness.{AgreeOnUnits}
use Rattle.switch_model.proofs.ListLemmas.{Around, around, all_front, all_back, pairs_known}
use Rattle.rule_txn.proofs.Places.{map_set, at_range}

abbrev pub used : List ℕ → ℕ → Option UsedUnit
used mask uses = Some (record { mask = mask; uses = uses })

-- uses of one unit have one mask
abbrev pub Agree : GroupUse → GroupUse → Type 0
Agree u v = u.unit ≡ v.unit → u.mask ≡ v.mask

-- one use more anywhere, where all have one mask; a free unit takes the key
busy_more : (front back : List GroupUse) (u : GroupUse) (key : List ℕ) → All (λ (v : GroupUse). v.mask ≡ u.mask) (front ++ back) → (front ++ back ≡ [] → u.mask ≡ key)
    → used_from (front ++ u ∷ back) ≡ served key (used_from (front ++ back))
busy_more [] [] u key same new = ap (λ m. used m 1) (new refl)
busy_more [] (b ∷ bs) u key same new =
    let e = All-head (λ (v : GroupUse). v.mask ≡ u.mask) b bs same in
    ap (λ m. used m (1 + length (b ∷ bs))) (sym e)
    ∙ (let n : 1 + length (b ∷ bs) ≡ 1 + length bs + 1 = omega arith in ap (used b.mask) n)
busy_more (f ∷ front) back u key same new =
    let one = length-append front (u ∷ back) in
    let two = length-append front back in
    let n : 1 + length (front ++ u ∷ back) ≡ 1 + length (front ++ back) + 1 = omega (arith, one, two) in
    ap (used f.mask) n

busy_less : (m : List ℕ) (us : List GroupUse) → freed (served m (used_from us)) ≡ used_from us
busy_less m [] = refl
busy_less m (u ∷ us) =
    let some : nat_le (1 + length us + 1) 1 ≡ false = grind (arith, nat_tests) in
    let n : 1 + length us + 1 - 1 ≡ 1 + length us = omega arith in
    ap (λ b. cond b None (used u.mask (1 + length us + 1 - 1))) some ∙ ap (used u.mask) n

uses_on : (front back : List GroupUse) (u : GroupUse) → unit_uses (front ++ u ∷ back) u.unit ≡ unit_uses front u.unit ++ u ∷ unit_uses back u.unit
uses_on front back u =
    filter-append (λ (v : GroupUse). v.unit == u.unit) front (u ∷ back)
    ∙ ap (λ b. unit_uses front u.unit ++ cond b (u ∷ unit_uses back u.unit) (unit_uses back u.unit)) (eq-eqb u.unit u.unit refl)

uses_off : (front back : List GroupUse) (u : GroupUse) (unit : ℕ) → u.unit ≢ unit → unit_uses (front ++ u ∷ back) unit ≡ unit_uses (front ++ back) unit
uses_off front back u unit ne =
    let other : (u.unit == unit) ≡ false = grind (arith, nat_tests) in
    filter-append (λ (v : GroupUse). v.unit == unit) front (u ∷ back)
    ∙ ap (λ b. unit_uses front unit ++ cond b (u ∷ unit_uses back unit) (unit_uses back unit)) other
    ∙ sym (filter-append (λ (v : GroupUse). v.unit == unit) front back)

same_masks : (us : List GroupUse) (u : GroupUse) → All (λ v. Agree v u) us → All (λ (v : GroupUse). v.mask ≡ u.mask) (unit_uses us u.unit)
same_masks [] u agree = All-nil (λ (v : GroupUse). v.mask ≡ u.mask)
same_masks (x ∷ us) u agree = by (same_masks us u (All-tail (λ v. Agree v u) x us agree)) (x.unit == u.unit) refl
  where
    by : All (λ (v : GroupUse). v.mask ≡ u.mask) (unit_uses us u.unit) → (b : Bool) → (x.unit == u.unit) ≡ b
        → All (λ (v : GroupUse). v.mask ≡ u.mask) (cond b (x ∷ unit_uses us u.unit) (unit_uses us u.unit))
    by rest true e =
        let same : x.unit ≡ u.unit = grind (arith, nat_tests) in
        All-cons (λ (v : GroupUse). v.mask ≡ u.mask) x (unit_uses us u.unit) (All-head (λ v. Agree v u) x us agree same) rest
    by rest false e = rest

unit_served : (front back : List GroupUse) (u : GroupUse) (key : List ℕ) → All (λ v. Agree v u) (front ++ back) → (unit_uses (front ++ back) u.unit ≡ [] → u.mask ≡ key)
    → used_from (unit_uses (front ++ u ∷ back) u.unit) ≡ served key (used_from (unit_uses (front ++ back) u.unit))
unit_served front back u key agree new =
    let split = filter-append (λ (v : GroupUse). v.unit == u.unit) front back in
    ap used_from (uses_on front back u)
    ∙ busy_more (unit_uses front u.unit) (unit_uses back u.unit) u key (subst (All (λ (v : GroupUse). v.mask ≡ u.mask)) split (same_masks (front ++ back) u agree))
    (λ none. new (split ∙ none))
    ∙ ap (λ us. served key (used_from us)) (sym split)

-- serving is one use more, anywhere in the list
units_more : (count : ℕ) (front back : List GroupUse) (u : GroupUse) (key : List ℕ) → u.unit < count → All (λ v. Agree v u) (front ++ back)
    → (unit_uses (front ++ back) u.unit ≡ [] → u.mask ≡ key) → served_at key (units_from count (front ++ back)) u.unit ≡ units_from count (front ++ u ∷ back)
units_more count front back u key lt agree new =
    let f : ℕ → Option UsedUnit = λ unit. used_from (unit_uses (front ++ back) unit) in
    let h : ℕ → Option UsedUnit = λ unit. used_from (unit_uses (front ++ u ∷ back) unit) in
    ap (λ b. set (map f (range_with_len 0 count)) u.unit (served key b)) (at_range None f count u.unit lt)
    ∙ ap (set (map f (range_with_len 0 count)) u.unit) (sym (unit_served front back u key agree new))
    ∙ map_set None f h count u.unit lt (λ j ne. ap used_from (sym (uses_off front back u j (λ same. ne (sym same)))))

-- freeing is one use less
units_less : (count : ℕ) (front back : List GroupUse) (u : GroupUse) → u.unit < count → All (λ v. Agree v u) (front ++ back)
    → freed_at (units_from count (front ++ u ∷ back)) u.unit ≡ units_from count (front ++ back)
units_less count front back u lt agree =
    let f : ℕ → Option UsedUnit = λ unit. used_from (unit_uses (front ++ u ∷ back) unit) in
    let h : ℕ → Option UsedUnit = λ unit. used_from (unit_uses (front ++ back) unit) in
    ap (λ b. set (map f (range_with_len 0 count)) u.unit (freed b)) (at_range None f count u.unit lt)
    ∙ ap (λ b. set (map f (range_with_len 0 count)) u.unit (freed b)) (unit_served front back u u.mask agree (λ _. refl))
    ∙ ap (set (map f (range_with_len 0 count)) u.unit) (busy_less u.mask (unit_uses (front ++ back) u.unit))
    ∙ map_set None f h count u.unit lt (λ j ne. ap used_from (uses_off front back u j (λ same. ne (sym same))))

-- ---- the uses of a row

abbrev pub use_in : ℕ → UnitMask → GroupUse
use_in group u = record { group = group; unit = u.unit; mask = u.mask }

abbrev pub unit_of : UnitMask → ℕ
unit_of u = u.unit

-- the unit was in use before, or has the key as its mask
abbrev pub TakesKey : List ℕ → List GroupUse → UnitMask → Type 0
TakesKey key before u = unit_uses before u.unit ≡ [] → u.mask ≡ key

front_empty : {X : Type 0} (xs ys : List X) → xs ++ ys ≡ [] → xs ≡ []
front_empty [] ys e = refl
front_empty (x ∷ xs) ys e = absurd (cc)

pub still_empty : (front back : List GroupUse) (unit : ℕ) → unit_uses (front ++ back) unit ≡ [] → unit_uses front unit ≡ []
still_empty front back unit e = front_empty (unit_uses front unit) (unit_uses back unit) (sym (filter-append (λ (v : GroupUse). v.unit == unit) front back) ∙ e)

turned : (u v : GroupUse) → Agree u v → Agree v u
turned u v agree same = sym (agree (sym same))

-- all others agree with the one between
agree_around : (front middle back : List GroupUse) (u : GroupUse) → AllPairs Agree (front ++ u ∷ (middle ++ back)) → All (λ v. Agree v u) (front ++ (middle ++ back))
agree_around front middle back u pairs =
    let near : Around Agree front (middle ++ back) u = around Agree front (middle ++ back) u pairs in
    All-append (λ v. Agree v u) front (middle ++ back) near.before (All-weaker (Agree u) (λ v. Agree v u) (λ v a. turned u v a) (middle ++ back) near.after)

all_cut : {X : Type 0} (P : X → Type 0) (front middle back : List X) → All P (front ++ (middle ++ back)) → All P (front ++ back)
all_cut P front middle back each =
    All-append P front back (all_front P front (middle ++ back) each) (all_back P middle back (all_back P front (middle ++ back) each))

pub masks_more : (count group : ℕ) (key : List ℕ) (front back : List GroupUse) (ms : List UnitMask)
    → All (λ (u : UnitMask). u.unit < count) ms → AllPairs Agree (front ++ (map (use_in group) ms ++ back)) → All (TakesKey key front) ms
    → fold (served_at key) (units_from count (front ++ back)) (map unit_of ms) ≡ units_from count (front ++ (map (use_in group) ms ++ back))
masks_more count group key front back [] within pairs new = refl
masks_more count group key front back (u ∷ ms) within pairs new =
    let v = use_in group u in
    let later = map (use_in group) ms in
    let agree = all_cut (λ w. Agree w v) front later back (agree_around front later back v pairs) in
    let whole = append_assoc front (v ∷ []) (later ++ back) in
    ap (λ units. fold (served_at key) units (map unit_of ms))
    (units_more count front back v key (All-head (λ (w : UnitMask). w.unit < count) u ms within) agree
    (λ none. All-head (TakesKey key front) u ms new (still_empty front back u.unit none))
    ∙ ap (units_from count) (sym (append_assoc front (v ∷ []) back)))
    ∙ masks_more count group key (front ++ v ∷ []) back ms (All-tail (λ (w : UnitMask). w.unit < count) u ms within)
    (subst (AllPairs Agree) (sym whole) pairs)
    (All-weaker (TakesKey key front) (TakesKey key (front ++ v ∷ [])) (λ w t none. t (still_empty front (v ∷ []) w.unit none)) ms (All-tail (TakesKey key front) u ms new))
    ∙ ap (units_from count) whole

pub masks_less : (count group : ℕ) (front back : List GroupUse) (ms : List UnitMask)
    → All (λ (u : UnitMask). u.unit < count) ms → AllPairs Agree (front ++ (map (use_in group) ms ++ back))
    → fold freed_at (units_from count (front ++ (map (use_in group) ms ++ back))) (map unit_of ms) ≡ units_from count (front ++ back)
masks_less count group front back [] within pairs = refl
masks_less count group front back (u ∷ ms) within pairs =
    let v = use_in group u in
    let later = map (use_in group) ms in
    let near : Around Agree front (later ++ back) v = around Agree front (later ++ back) v pairs in
    ap (λ units. fold freed_at units (map unit_of ms))
    (units_less count front (later ++ back) v (All-head (λ (w : UnitMask). w.unit < count) u ms within) (agree_around front later back v pairs))
    ∙ masks_less count group front back ms (All-tail (λ (w : UnitMask). w.unit < count) u ms within) near.others

-- ---- the uses of a group

pub own_uses : (group : ℕ) (ms : List UnitMask) → group_uses (map (use_in group) ms) group ≡ map (use_in group) ms
own_uses group [] = refl
own_uses group (u ∷ ms) =
    ap (λ b. cond b (use_in group u ∷ group_uses (map (use_in group) ms) group) (group_uses (map (use_in group) ms) group)) (eq-eqb group group refl)
    ∙ ap (λ us. use_in group u ∷ us) (own_uses group ms)

pub no_uses : (group other : ℕ) → group ≢ other → (ms : List UnitMask) → group_uses (map (use_in group) ms) other ≡ []
no_uses group other ne [] = refl
no_uses group other ne (u ∷ ms) =
    let differs : (group == other) ≡ false = grind (arith, nat_tests) in
    ap (λ b. cond b (use_in group u ∷ group_uses (map (use_in group) ms) other) (group_uses (map (use_in group) ms) other)) differs
    ∙ no_uses group other ne ms

pub uses_append : (xs ys : List GroupUse) (group : ℕ) → group_uses (xs ++ ys) group ≡ group_uses xs group ++ group_uses ys group
uses_append xs ys group = filter-append (λ (u : GroupUse). u.group == group) xs ys

pub between : (front back : List GroupUse) (group : ℕ) (ms : List UnitMask)
    → group_uses (front ++ (map (use_in group) ms ++ back)) group ≡ group_uses front group ++ (map (use_in group) ms ++ group_uses back group)
between front back group ms =
    uses_append front (map (use_in group) ms ++ back) group
    ∙ ap (λ us. group_uses front group ++ us) (uses_append (map (use_in group) ms) back group ∙ ap (λ us. us ++ group_uses back group) (own_uses group ms))

pub beside : (front back : List GroupUse) (group other : ℕ) → group ≢ other → (ms : List UnitMask)
    → group_uses (front ++ (map (use_in group) ms ++ back)) other ≡ group_uses (front ++ back) other
beside front back group other ne ms =
    uses_append front (map (use_in group) ms ++ back) other
    ∙ ap (λ us. group_uses front other ++ us) (uses_append (map (use_in group) ms) back other ∙ ap (λ us. us ++ group_uses back other) (no_uses group other ne ms))
    ∙ sym (uses_append front back other)

all_of_group : (us : List GroupUse) (group : ℕ) → All (λ (u : GroupUse). u.group ≡ group) (group_uses us group)
all_of_group [] group = All-nil (λ (u : GroupUse). u.group ≡ group)
all_of_group (x ∷ us) group = by (all_of_group us group) (x.group == group) refl
  where
    by : All (λ (u : GroupUse). u.group ≡ group) (group_uses us group) → (b : Bool) → (x.group == group) ≡ b
        → All (λ (u : GroupUse). u.group ≡ group) (cond b (x ∷ group_uses us group) (group_uses us group))
    by rest true e = (let same : x.group ≡ group = grind (arith, nat_tests) in All-cons (λ (u : GroupUse). u.group ≡ group) x (group_uses us group) same rest)
    by rest false e = rest

-- uses of one group agree
pub agree_in : (us : List GroupUse) (group : ℕ) → AllPairs AgreeOnUnits us → AllPairs Agree (group_uses us group)
agree_in us group pairs =
    pairs_known (λ (u : GroupUse). u.group ≡ group) AgreeOnUnits Agree (λ one two first second agree same. agree.same (first ∙ sym second) same)
    (group_uses us group) (all_of_group us group) (AllPairs-filter AgreeOnUnits (λ (u : GroupUse). u.group == group) us pairs)
