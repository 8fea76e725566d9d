-- What follows of that: each table has room, no unit has 10,000 uses, and there is memory for all records.
use Rattle.std.proofs.Common.{◌≡◌, ◌≢◌, ℕ, zero, suc, ◌+◌, ◌-◌, ◌*◌, ◌<◌, ◌≤◌, ◌^◌, Bool, true, false, cond, List, [], ◌∷◌, ◌++◌, length, get_or, map, take, refl, ap, sym, ◌∙◌, subst, arith, length-append, eq-eqb, inl, inr}
use Rattle.std.specs.Prelude.{◌==◌, ◌&&◌, nat_lt, nat_le, Option, None, Some, sum_by, ◌⊎◌}
use Rattle.std.specs.List.{All, filter, filter_map, flat_map}
use Rattle.std.proofs.lemmas.Bool.{ltb-true, ltb-false}
use Rattle.std.proofs.lemmas.Bool.Decides.{nat_tests}
use Rattle.std.proofs.lemmas.List.Elements.{All-head, All-tail, All-weaker}
use Rattle.std.proofs.lemmas.List.Sums.{sum_by-cons}
use Rattle.std.proofs.Math.Pow.{pow_mono}
use Rattle.std.proofs.Math.Nat.{mul_comm, mul-le-mul_left}
use Rattle.addr_translate.specs.declared.shapes.GroupShape.{GroupShape}
use Rattle.addr_translate.specs.Geometry.{Geometry, IsGeometry, IsGroup, array_count, arrays_before, group_in, no_group, group_number, groups_ended}
use Rattle.group_keys.specs.declared.uses.KeyUse.{KeyUse}
use Rattle.group_keys.specs.declared.uses.KeyUse.TheVariants.{Single, Pair}
use Rattle.group_keys.specs.Units.{units_in}
use Rattle.sketch_defs.specs.Tasks.{Sketch}
use Rattle.sketch_defs.proofs.TaskLemmas.{some_rows}
use Rattle.switch_model.specs.Records.{Row, Outline}
use Rattle.switch_model.specs.Sights.{Holding, Spot, GroupUse, live_holding, frozen_holding, held_by, all_held, spots_from, spots_by, all_spots, rules_on, row_uses, uses_by, all_uses, group_uses, unit_uses}
use Rattle.switch_model.specs.Soundness.{IsRow, IsTask, Sound}
use Rattle.switch_model.proofs.ListLemmas.{length_map}
use Rattle.rule_txn.specs.Switch.{most_records}
use Rattle.rule_txn.proofs.Uses.{use_in, unit_of, own_uses, no_uses}
use Rattle.rule_txn.proofs.Served.{count_of, count_both, HaveRoom, group_of}
use Rattle.rule_txn.proofs.Counts.{on, count, count_append, count_map, count_either, IsHeld, all_are_held, few_held}

count_all : {X : Type 0} (p q : X → Bool) (xs : List X) → All (λ x. p x ≡ true → q x ≡ true) xs → count p xs ≤ count q xs
count_all p q [] each = omega arith
count_all p q (x ∷ xs) each = by (count_all p q xs (All-tail (λ x. p x ≡ true → q x ≡ true) x xs each)) (p x) (q x) refl refl (All-head (λ x. p x ≡ true → q x ≡ true) x xs each)
  where
    by : count p xs ≤ count q xs → (a b : Bool) → p x ≡ a → q x ≡ b → (p x ≡ true → q x ≡ true) → length (cond a (x ∷ filter p xs) (filter p xs)) ≤ length (cond b (x ∷ filter q xs) (filter q xs))
    by rest true true e f h = omega (arith, rest)
    by rest true false e f h = absurd (let bad : false ≡ true = sym f ∙ h e in (cc))
    by rest false true e f h = omega (arith, rest)
    by rest false false e f h = rest

count_within : {X : Type 0} (p : X → Bool) (xs : List X) → count p xs ≤ length xs
count_within p [] = omega arith
count_within p (x ∷ xs) = by (count_within p xs) (p x)
  where
    by : count p xs ≤ length xs → (b : Bool) → length (cond b (x ∷ filter p xs) (filter p xs)) ≤ suc (length xs)
    by rest true = omega (arith, rest)
    by rest false = omega (arith, rest)

count_true : {X : Type 0} (p : X → Bool) (xs : List X) → All (λ x. p x ≡ true) xs → count p xs ≡ length xs
count_true p [] each = refl
count_true p (x ∷ xs) each =
    ap (λ b. length (cond b (x ∷ filter p xs) (filter p xs))) (All-head (λ x. p x ≡ true) x xs each)
    ∙ ap suc (count_true p xs (All-tail (λ x. p x ≡ true) x xs each))

abbrev pub in_range : {X : Type 0} → (X → ℕ) → ℕ → ℕ → X → Bool
in_range place first n x = nat_le first (place x) && nat_lt (place x) (first + n)

none_before : {X : Type 0} (place : X → ℕ) (first : ℕ) (xs : List X) → count (in_range place first 0) xs ≡ 0
none_before place first [] = refl
none_before place first (x ∷ xs) =
    let out : in_range place first 0 x ≡ false = grind (arith, nat_tests) in
    ap (λ b. length (cond b (x ∷ filter (in_range place first 0) xs) (filter (in_range place first 0) xs))) out ∙ none_before place first xs

one_more : {X : Type 0} (place : X → ℕ) (first n : ℕ) (x : X) → in_range place first (suc n) x ≡ true → (in_range place first n x ≡ true) ⊎ ((place x == first + n) ≡ true)
one_more place first n x e = by (place x == first + n) refl
  where
    by : (b : Bool) → (place x == first + n) ≡ b → (in_range place first n x ≡ true) ⊎ ((place x == first + n) ≡ true)
    by true h = inr h
    by false h = inl (grind (arith, nat_tests))

-- elements at n places, of which each has at most so many
pub in_places : {X : Type 0} (place : X → ℕ) (first n most : ℕ) (xs : List X) → ((a : ℕ) → count (λ x. place x == a) xs ≤ most) → count (in_range place first n) xs ≤ n * most
in_places place first zero most xs few = let none = none_before place first xs in omega (arith, none)
in_places place first (suc n) most xs few =
    let rest = in_places place first n most xs few in
    let last = few (first + n) in
    let both = count_either (in_range place first (suc n)) (in_range place first n) (λ x. place x == first + n) (λ x e. one_more place first n x e) xs in
    omega (arith, rest, last, both)

-- ---- entries of a table

abbrev pub spot_holding : Spot → Holding
spot_holding s = record { array = s.array; region = s.entry.region }

pub spots_live : (task : Sketch) (i : ℕ) (before : Option ℕ) (rows : List Row) → map spot_holding (spots_from task i before rows) ≡ map live_holding rows
spots_live task i before [] = refl
spots_live task i before (row ∷ rows) = ap (λ hs. live_holding row ∷ hs) (spots_live task (i + 1) (Some row.array) rows)

rules_are : (spots : List Spot) (a : ℕ) → length (rules_on spots a) ≡ on (map spot_holding spots) a
rules_are spots a =
    length_map (λ (s : Spot). s.entry) (filter (λ (s : Spot). s.array == a) spots)
    ∙ sym (count_map (λ (h : Holding). h.array == a) spot_holding spots)

own_entries : (o : Outline) (a : ℕ) → length (rules_on (spots_by o) a) ≤ on (held_by o) a
own_entries o a =
    let live = rules_are (spots_by o) a ∙ ap (λ hs. on hs a) (spots_live o.task 0 None o.rows) in
    let both = count_append (λ (h : Holding). h.array == a) (map live_holding o.rows) (filter_map frozen_holding o.rows) in
    omega (arith, live, both)

entries_within : (os : List Outline) (a : ℕ) → length (rules_on (flat_map spots_by os) a) ≤ on (flat_map held_by os) a
entries_within [] a = omega arith
entries_within (o ∷ os) a =
    let rest = entries_within os a in
    let own = own_entries o a in
    let one = rules_are (spots_by o ++ flat_map spots_by os) a ∙ count_map (λ (h : Holding). h.array == a) spot_holding (spots_by o ++ flat_map spots_by os)
    ∙ count_append (λ (s : Spot). s.array == a) (spots_by o) (flat_map spots_by os) in
    let two = rules_are (spots_by o) a ∙ count_map (λ (h : Holding). h.array == a) spot_holding (spots_by o) in
    let three = rules_are (flat_map spots_by os) a ∙ count_map (λ (h : Holding). h.array == a) spot_holding (flat_map spots_by os) in
    let four = count_append (λ (h : Holding). h.array == a) (held_by o) (flat_map held_by os) in
    omega (arith, rest, own, one, two, three, four)

pub few_entries : (geometry : Geometry) (os : List Outline) → Sound geometry os → (a : ℕ) → length (rules_on (all_spots os) a) ≤ 2 ^ geometry.split
unfolding all_spots all_held
few_entries geometry os sound a = let most = few_held geometry os sound a in omega (arith, entries_within os a, most)

-- ---- records

some_held : (geometry : Geometry) (o : Outline) → IsTask geometry o → 1 ≤ length (held_by o)
some_held geometry o is =
    let rows = is.rows in
    let some : 1 ≤ o.task.rows = some_rows o.task is.allowed in
    let long = length-append (map live_holding o.rows) (filter_map frozen_holding o.rows) in
    let live = length_map live_holding o.rows in
    omega (arith, rows, some, long, live)

records_within : (geometry : Geometry) (os : List Outline) → All (IsTask geometry) os → length os ≤ length (flat_map held_by os)
records_within geometry [] each = omega arith
records_within geometry (o ∷ os) each =
    let rest = records_within geometry os (All-tail (IsTask geometry) o os each) in
    let some = some_held geometry o (All-head (IsTask geometry) o os each) in
    let long = length-append (held_by o) (flat_map held_by os) in
    omega (arith, rest, some, long)

pub few_records : (geometry : Geometry) (os : List Outline) → Sound geometry os → length os ≤ most_records geometry
unfolding all_held
few_records geometry os sound =
    let held = all_held os in
    let place : Holding → ℕ = λ h. h.array in
    let inside : All (λ h. in_range place 0 (array_count geometry) h ≡ true) held =
    All-weaker (IsHeld geometry) (λ h. in_range place 0 (array_count geometry) h ≡ true) (λ h is. (let lt = is.array in grind (arith, nat_tests))) held (all_are_held geometry os sound) in
    let whole = count_true (in_range place 0 (array_count geometry)) held inside in
    let most = in_places place 0 (array_count geometry) (2 ^ geometry.split) held (few_held geometry os sound) in
    let records = records_within geometry os sound.tasks in
    let product : array_count geometry * 2 ^ geometry.split ≡ 2 ^ geometry.split * array_count geometry = mul_comm (array_count geometry) (2 ^ geometry.split) in
    omega (arith, whole, most, records, product)

-- ---- uses of a unit

two_units : (keys : KeyUse) → length (units_in keys) ≤ 2
two_units (Single unit) = omega arith
two_units (Pair one two) = omega arith

own_uses_few : (geometry : Geometry) (row : Row) (g unit : ℕ) → map unit_of row.masks ≡ units_in row.keys
    → (b : Bool) → (group_of geometry row == g) ≡ b → count_of (row_uses geometry row) g unit ≤ 2 * cond b 1 0
own_uses_few geometry row g unit are true e =
    let same : group_of geometry row ≡ g = grind (arith, nat_tests) in
    let own : group_uses (row_uses geometry row) g ≡ map (use_in (group_of geometry row)) row.masks =
    ap (group_uses (row_uses geometry row)) (sym same) ∙ own_uses (group_of geometry row) row.masks in
    let few = count_within (λ (u : GroupUse). u.unit == unit) (map (use_in (group_of geometry row)) row.masks) in
    let is = ap (λ us. length (unit_uses us unit)) own in
    let long = length_map (use_in (group_of geometry row)) row.masks in
    let units = sym (length_map unit_of row.masks) ∙ ap length are in
    let two = two_units row.keys in
    omega (arith, few, is, long, units, two)
own_uses_few geometry row g unit are false e =
    let ne : group_of geometry row ≢ g = λ same. absurd (let bad : false ≡ true = sym e ∙ eq-eqb (group_of geometry row) g same in (cc)) in
    let none = ap (λ us. length (unit_uses us unit)) (no_uses (group_of geometry row) g ne row.masks) in
    omega (arith, none)

abbrev pub in_group : Geometry → ℕ → Holding → Bool
in_group geometry g h = group_number geometry h.array == g

rows_uses_few : (geometry : Geometry) (rows : List Row) (g unit : ℕ) → All (λ (row : Row). map unit_of row.masks ≡ units_in row.keys) rows
    → count_of (flat_map (row_uses geometry) rows) g unit ≤ 2 * count (in_group geometry g) (map live_holding rows)
rows_uses_few geometry [] g unit are = omega arith
rows_uses_few geometry (row ∷ rows) g unit are =
    by (rows_uses_few geometry rows g unit (All-tail (λ (r : Row). map unit_of r.masks ≡ units_in r.keys) row rows are)) (group_of geometry row == g)
    (own_uses_few geometry row g unit (All-head (λ (r : Row). map unit_of r.masks ≡ units_in r.keys) row rows are) (group_of geometry row == g) refl)
  where
    by : count_of (flat_map (row_uses geometry) rows) g unit ≤ 2 * count (in_group geometry g) (map live_holding rows) → (b : Bool)
        → count_of (row_uses geometry row) g unit ≤ 2 * cond b 1 0
        → count_of (row_uses geometry row ++ flat_map (row_uses geometry) rows) g unit
        ≤ 2 * length (cond b (live_holding row ∷ filter (in_group geometry g) (map live_holding rows)) (filter (in_group geometry g) (map live_holding rows)))
    by rest true own = let both = count_both (row_uses geometry row) (flat_map (row_uses geometry) rows) g unit in omega (arith, rest, own, both)
    by rest false own = let both = count_both (row_uses geometry row) (flat_map (row_uses geometry) rows) g unit in omega (arith, rest, own, both)

uses_within : (geometry : Geometry) (os : List Outline) (g unit : ℕ) → All (IsTask geometry) os
    → count_of (flat_map (uses_by geometry) os) g unit ≤ 2 * count (in_group geometry g) (flat_map held_by os)
uses_within geometry [] g unit each = omega arith
uses_within geometry (o ∷ os) g unit each =
    let is = All-head (IsTask geometry) o os each in
    let rest = uses_within geometry os g unit (All-tail (IsTask geometry) o os each) in
    let own = rows_uses_few geometry o.rows g unit (All-weaker (IsRow geometry o) (λ (row : Row). map unit_of row.masks ≡ units_in row.keys) (λ row r. r.units) o.rows is.each) in
    let one = count_both (uses_by geometry o) (flat_map (uses_by geometry) os) g unit in
    let two = count_append (in_group geometry g) (held_by o) (flat_map held_by os) in
    let three = count_append (in_group geometry g) (map live_holding o.rows) (filter_map frozen_holding o.rows) in
    omega (arith, rest, own, one, two, three)

abbrev pub cmus : GroupShape → ℕ
cmus g = g.cmus

-- where the arrays of a group stand
pub group_range : (groups : List GroupShape) (array : ℕ) → array < sum_by cmus groups
    → (sum_by cmus (take (groups_ended groups array) groups) ≤ array) × (array < sum_by cmus (take (groups_ended groups array) groups) + (get_or groups (groups_ended groups array) no_group).cmus)
unfolding groups_ended
group_range [] array lt = absurd (omega (arith, lt))
group_range (g ∷ gs) array lt =
    by (λ large. group_range gs (array - g.cmus) (omega (arith, lt, sum_by-cons cmus g gs, large))) (nat_lt array g.cmus) refl
  where
    by : (g.cmus ≤ array → (sum_by cmus (take (groups_ended gs (array - g.cmus)) gs) ≤ array - g.cmus)
        × (array - g.cmus < sum_by cmus (take (groups_ended gs (array - g.cmus)) gs) + (get_or gs (groups_ended gs (array - g.cmus)) no_group).cmus))
        → (b : Bool) → nat_lt array g.cmus ≡ b
        → (sum_by cmus (take (cond b 0 (suc (groups_ended gs (array - g.cmus)))) (g ∷ gs)) ≤ array)
        × (array < sum_by cmus (take (cond b 0 (suc (groups_ended gs (array - g.cmus)))) (g ∷ gs)) + (get_or (g ∷ gs) (cond b 0 (suc (groups_ended gs (array - g.cmus)))) no_group).cmus)
    by rest true e = (omega arith, omega (arith, ltb-true array g.cmus e))
    by rest false e =
        let large = ltb-false array g.cmus e in
        let more = rest large in
        let m = groups_ended gs (array - g.cmus) in
        (omega (arith, more.0, sum_by-cons cmus g (take m gs), large), omega (arith, more.1, sum_by-cons cmus g (take m gs), large))

group_places : (geometry : Geometry) (g : ℕ) (h : Holding) → h.array < array_count geometry → in_group geometry g h ≡ true
    → in_range (λ (x : Holding). x.array) (arrays_before geometry g) (group_in geometry g).cmus h ≡ true
group_places geometry g h lt e =
    let same : group_number geometry h.array ≡ g = grind (arith, nat_tests) in
    let range = group_range geometry.groups h.array lt in
    let low : arrays_before geometry g ≤ h.array = subst (λ k. arrays_before geometry k ≤ h.array) same range.0 in
    let high : h.array < arrays_before geometry g + (group_in geometry g).cmus = subst (λ k. h.array < arrays_before geometry k + (group_in geometry k).cmus) same range.1 in
    grind (arith, nat_tests)

few_cmus_of : (geometry : Geometry) (g : ℕ) → IsGeometry geometry → (group_in geometry g).cmus ≤ 4
few_cmus_of geometry g good = by (nat_lt g (length geometry.groups)) refl
  where
    out : (gs : List GroupShape) (k : ℕ) → length gs ≤ k → (get_or gs k no_group).cmus ≡ 0
    out [] k le = refl
    out (x ∷ gs) zero le = absurd (omega (arith, le))
    out (x ∷ gs) (suc k) le = out gs k (omega (arith, le))

    by : (b : Bool) → nat_lt g (length geometry.groups) ≡ b → (group_in geometry g).cmus ≤ 4
    by true e = let is : IsGroup (group_in geometry g) = good.each g no_group (ltb-true g (length geometry.groups) e) in is.few_cmus
    by false e = let none = out geometry.groups g (ltb-false g (length geometry.groups) e) in omega (arith, none)

pub have_room : (geometry : Geometry) (os : List Outline) → IsGeometry geometry → Sound geometry os → HaveRoom (all_uses geometry os)
unfolding all_uses all_held
have_room geometry os good sound g unit =
    let held = all_held os in
    let uses = uses_within geometry os g unit sound.tasks in
    let n = (group_in geometry g).cmus in
    let inside = count_all (in_group geometry g) (in_range (λ (x : Holding). x.array) (arrays_before geometry g) n) held
    (All-weaker (IsHeld geometry) (λ h. in_group geometry g h ≡ true → in_range (λ (x : Holding). x.array) (arrays_before geometry g) n h ≡ true) (λ h is. group_places geometry g h is.array) held (all_are_held geometry os sound)) in
    let most = in_places (λ (x : Holding). x.array) (arrays_before geometry g) n (2 ^ geometry.split) held (few_held geometry os sound) in
    let four = few_cmus_of geometry g good in
    let split : 2 ^ geometry.split ≤ 2 ^ 10 = pow_mono {i = geometry.split} {j = 10} good.most_split in
    let product : n * 2 ^ geometry.split ≤ n * 2 ^ 10 = mul-le-mul_left {m = 2 ^ geometry.split} {n = 2 ^ 10} n split in
    let least : n * 2 ^ 10 ≤ 4096 = omega (arith, four) in
    omega (arith, uses, inside, most, product, least)
