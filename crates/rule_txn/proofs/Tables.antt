-- Entries that come and go, in the order of bases.
use Rattle.std.proofs.Common.{◌≡◌, ◌≢◌, ℕ, suc, ◌+◌, ◌<◌, ◌≤◌, ◌^◌, Bool, true, false, cond, List, [], ◌∷◌, ◌++◌, length, get_or, set, refl, ap, sym, ◌∙◌, arith, filter, map, eq-eqb, ap₂}
use Rattle.std.specs.Prelude.{◌==◌, ◌&&◌, ◌||◌, IsTrue}
use Rattle.std.specs.List.{All, list_all, list_any}
use Rattle.std.proofs.lemmas.Bool.{false≢true}
use Rattle.std.proofs.lemmas.Bool.Decides.{nat_tests}
use Rattle.std.proofs.lemmas.List.Elements.{All-head, All-tail, All-nil, All-cons, All-weaker}
use Rattle.std.proofs.lemmas.List.FromFn.{length-map-range_with_len}
use Rattle.addr_translate.specs.Geometry.{Geometry, array_count}
use Rattle.lists.specs.Sorting.{put_by, sort_by}
use Rattle.match_table.specs.declared.entries.Entry.{Entry}
use Rattle.match_table.specs.Tables.{EntryTable, has_base, admits, is_apart}
use Rattle.match_table.proofs.ChangeLemmas.{any_sorted, length_sorted}
use Rattle.pipe_core.specs.Rules.{no_table, table_at, with_entry, without_entry, installed, uninstalled}
use Rattle.switch_model.specs.Sights.{Spot, rules_on}
use Rattle.switch_model.specs.Soundness.{MatchNone}
use Rattle.rule_txn.specs.State.{HasEntry}
use Rattle.rule_txn.specs.Switch.{placed_table, table_for, tables_for}
use Rattle.rule_txn.proofs.Keys.{by_key, has_key, put_key, sort_key, sort_last, sorted_cut}
use Rattle.rule_txn.proofs.Places.{kept_at, off_place, on_place, map_set, at_range, map-set, get_or-map}

abbrev pub base_at : Entry → ℕ
base_at e = e.region.base

abbrev pub array_in : Spot → ℕ
array_in s = s.array

abbrev pub entry_in : Spot → Entry
entry_in s = s.entry

abbrev pub SpotsDiffer : Spot → Spot → Type 0
SpotsDiffer one two = one.array ≡ two.array → one.entry.region.base ≢ two.entry.region.base

abbrev pub sorted_on : List Spot → ℕ → List Entry
sorted_on spots a = kept_at array_in entry_in base_at spots a

-- ---- tests of the entries of an array

pub all_put : {X : Type 0} (p : X → Bool) (first : X → X → Bool) (x : X) (xs : List X) → list_all p (put_by first x xs) ≡ (p x && list_all p xs)
all_put p first x [] = refl
all_put p first x (y ∷ ys) = by (all_put p first x ys) (first x y)
  where
    swap : (a b c : Bool) → (b && (a && c)) ≡ (a && (b && c))
    swap true b c = refl
    swap false true c = refl
    swap false false c = refl

    by : list_all p (put_by first x ys) ≡ (p x && list_all p ys) → (b : Bool) → list_all p (cond b (x ∷ y ∷ ys) (y ∷ put_by first x ys)) ≡ (p x && (p y && list_all p ys))
    by rest true = refl
    by rest false = ap (λ b. p y && b) rest ∙ swap (p x) (p y) (list_all p ys)

pub all_sorted : {X : Type 0} (p : X → Bool) (first : X → X → Bool) (xs : List X) → list_all p (sort_by first xs) ≡ list_all p xs
all_sorted p first [] = refl
all_sorted p first (x ∷ xs) = all_put p first x (sort_by first xs) ∙ ap (λ b. p x && b) (all_sorted p first xs)

any_put : {X : Type 0} (p : X → Bool) (first : X → X → Bool) (x : X) (xs : List X) → list_any p (put_by first x xs) ≡ (p x || list_any p xs)
any_put p first x [] = refl
any_put p first x (y ∷ ys) = by (any_put p first x ys) (first x y)
  where
    swap : (a b c : Bool) → (b || (a || c)) ≡ (a || (b || c))
    swap true true c = refl
    swap true false c = refl
    swap false b c = refl

    by : list_any p (put_by first x ys) ≡ (p x || list_any p ys) → (b : Bool) → list_any p (cond b (x ∷ y ∷ ys) (y ∷ put_by first x ys)) ≡ (p x || (p y || list_any p ys))
    by rest true = refl
    by rest false = ap (λ b. p y || b) rest ∙ swap (p x) (p y) (list_any p ys)

-- a test that all entries of an array pass
pub all_on : (p : Entry → Bool) (a : ℕ) (spots : List Spot) → All (λ (s : Spot). s.array ≡ a → p s.entry ≡ true) spots → list_all p (rules_on spots a) ≡ true
all_on p a [] each = refl
all_on p a (s ∷ spots) each = by (all_on p a spots (All-tail (λ (t : Spot). t.array ≡ a → p t.entry ≡ true) s spots each)) (s.array == a) refl
  where
    by : list_all p (rules_on spots a) ≡ true → (b : Bool) → (s.array == a) ≡ b
        → list_all p (map entry_in (cond b (s ∷ filter (λ (t : Spot). t.array == a) spots) (filter (λ (t : Spot). t.array == a) spots))) ≡ true
    by rest true e =
        let same : s.array ≡ a = grind (arith, nat_tests) in
        ap (λ b. b && list_all p (rules_on spots a)) (All-head (λ (t : Spot). t.array ≡ a → p t.entry ≡ true) s spots each same) ∙ rest
    by rest false e = rest

-- and one that none passes
pub none_on : (p : Entry → Bool) (a : ℕ) (spots : List Spot) → All (λ (s : Spot). s.array ≡ a → p s.entry ≡ false) spots → list_any p (rules_on spots a) ≡ false
none_on p a [] each = refl
none_on p a (s ∷ spots) each = by (none_on p a spots (All-tail (λ (t : Spot). t.array ≡ a → p t.entry ≡ false) s spots each)) (s.array == a) refl
  where
    by : list_any p (rules_on spots a) ≡ false → (b : Bool) → (s.array == a) ≡ b
        → list_any p (map entry_in (cond b (s ∷ filter (λ (t : Spot). t.array == a) spots) (filter (λ (t : Spot). t.array == a) spots))) ≡ false
    by rest true e =
        let same : s.array ≡ a = grind (arith, nat_tests) in
        ap (λ b. b || list_any p (rules_on spots a)) (All-head (λ (t : Spot). t.array ≡ a → p t.entry ≡ false) s spots each same) ∙ rest
    by rest false e = rest

pub count_append : (xs ys : List Spot) (a : ℕ) → length (rules_on (xs ++ ys) a) ≡ length (rules_on xs a) + length (rules_on ys a)
count_append [] ys a = omega arith
count_append (x ∷ xs) ys a = by (count_append xs ys a) (x.array == a)
  where
    by : length (rules_on (xs ++ ys) a) ≡ length (rules_on xs a) + length (rules_on ys a) → (b : Bool)
        → length (map entry_in (cond b (x ∷ filter (λ (t : Spot). t.array == a) (xs ++ ys)) (filter (λ (t : Spot). t.array == a) (xs ++ ys))))
        ≡ length (map entry_in (cond b (x ∷ filter (λ (t : Spot). t.array == a) xs) (filter (λ (t : Spot). t.array == a) xs))) + length (rules_on ys a)
    by rest true = omega (arith, rest)
    by rest false = rest

count_here : (s : Spot) (ys : List Spot) → length (rules_on (s ∷ ys) s.array) ≡ suc (length (rules_on ys s.array))
count_here s ys = ap (λ b. length (map entry_in (cond b (s ∷ filter (λ (t : Spot). t.array == s.array) ys) (filter (λ (t : Spot). t.array == s.array) ys)))) (eq-eqb s.array s.array refl)

-- with one more of its array there, an entry more has room
pub has_room : (front middle back : List Spot) (s : Spot) (most : ℕ) → length (rules_on (front ++ s ∷ (middle ++ back)) s.array) ≤ most
    → length (rules_on (front ++ back) s.array) < most
has_room front middle back s most le =
    let one = count_append front (s ∷ (middle ++ back)) s.array in
    let two = count_here s (middle ++ back) in
    let three = count_append middle back s.array in
    let four = count_append front back s.array in
    omega (arith, le, one, two, three, four)

-- ---- the tables of entries

pub length-tables : (geometry : Geometry) (spots : List Spot) (tables : List EntryTable) → map placed_table tables ≡ tables_for geometry spots → length tables ≡ array_count geometry
unfolding tables_for
length-tables geometry spots tables e = sym (by tables) ∙ ap length e ∙ length-map-range_with_len (table_for geometry spots) 0 (array_count geometry)
  where
    by : (ts : List EntryTable) → length (map placed_table ts) ≡ length ts
    by [] = refl
    by (t ∷ ts) = ap suc (by ts)

pub table_is : (geometry : Geometry) (spots : List Spot) (tables : List EntryTable) (a : ℕ) → map placed_table tables ≡ tables_for geometry spots → a < array_count geometry
    → placed_table (table_at tables a) ≡ table_for geometry spots a
unfolding tables_for
table_is geometry spots tables a e lt =
    sym (get_or-map placed_table tables a no_table) ∙ ap (λ ts. get_or ts a no_table) e ∙ at_range no_table (table_for geometry spots) (array_count geometry) a lt

abbrev pub table_with : ℕ → List Entry → EntryTable
table_with room entries = record { room = room; entries = entries }

more_rules : (geometry : Geometry) (front back : List Spot) (s : Spot) → s.array < array_count geometry
    → set (tables_for geometry (front ++ back)) s.array (table_for geometry (front ++ s ∷ back) s.array) ≡ tables_for geometry (front ++ s ∷ back)
unfolding tables_for
more_rules geometry front back s lt =
    map_set no_table (table_for geometry (front ++ back)) (table_for geometry (front ++ s ∷ back)) (array_count geometry) s.array lt
    (λ j ne. ap (table_with (2 ^ geometry.split)) (sym (off_place array_in entry_in base_at front back s j (λ same. ne (sym same)))))

less_rules : (geometry : Geometry) (front back : List Spot) (s : Spot) → s.array < array_count geometry
    → set (tables_for geometry (front ++ s ∷ back)) s.array (table_for geometry (front ++ back) s.array) ≡ tables_for geometry (front ++ back)
unfolding tables_for
less_rules geometry front back s lt =
    map_set no_table (table_for geometry (front ++ s ∷ back)) (table_for geometry (front ++ back)) (array_count geometry) s.array lt
    (λ j ne. ap (table_with (2 ^ geometry.split)) (off_place array_in entry_in base_at front back s j (λ same. ne (sym same))))

-- what is to be known of an entry and those that stand
pub record Joins (front back : List Spot) (s : Spot) : Type 0 where
  pub bases : All (λ x. SpotsDiffer x s) (front ++ back)
  pub filters : All (λ x. MatchNone x s) (front ++ back)

bases_apart : (s x : Spot) → SpotsDiffer x s → x.array ≡ s.array → has_base s.entry.region.base x.entry ≡ false
bases_apart s x differ same = let ne = differ same in by (has_base s.entry.region.base x.entry) refl
  where
    by : (b : Bool) → has_base s.entry.region.base x.entry ≡ b → b ≡ false
    by true e = absurd (differ same (grind (arith, nat_tests)))
    by false e = refl

differ_all : (k : ℕ) (xs : List Entry) → list_any (has_key base_at k) xs ≡ false → All (λ x. base_at x ≢ k) xs
differ_all k [] h = All-nil (λ x. base_at x ≢ k)
differ_all k (x ∷ xs) h = by (differ_all k xs) (base_at x == k) refl h
  where
    by : (list_any (has_key base_at k) xs ≡ false → All (λ y. base_at y ≢ k) xs) → (b : Bool) → (base_at x == k) ≡ b → (b || list_any (has_key base_at k) xs) ≡ false
        → All (λ y. base_at y ≢ k) (x ∷ xs)
    by rest true e g = absurd (false≢true (sym g))
    by rest false e g = All-cons (λ y. base_at y ≢ k) x xs (λ same. absurd (false≢true (sym e ∙ eq-eqb (base_at x) k same))) (rest g)

pub record Installs (geometry : Geometry) (front back : List Spot) (s : Spot) (tables : List EntryTable) : Type 0 where
  pub apart : IsTrue (admits (table_at tables s.array).entries s.entry.filter)
  pub base : list_any (has_base s.entry.region.base) (table_at tables s.array).entries ≡ false
  pub long : length (table_at tables s.array).entries ≡ length (rules_on (front ++ back) s.array)
  pub now : map placed_table (installed tables s.array s.entry) ≡ tables_for geometry (front ++ s ∷ back)

pub install_one : (geometry : Geometry) (front back : List Spot) (s : Spot) (tables : List EntryTable) → map placed_table tables ≡ tables_for geometry (front ++ back)
    → s.array < array_count geometry → Joins front back s → All (λ x. SpotsDiffer x s) front → Installs geometry front back s tables
install_one geometry front back s tables e lt joins before =
    let table = table_at tables s.array in
    let old = table.entries in
    let k = s.entry.region.base in
    let was : placed_table table ≡ table_for geometry (front ++ back) s.array = table_is geometry (front ++ back) tables s.array e lt in
    let sorted : sort_key base_at old ≡ sorted_on (front ++ back) s.array = ap (λ (t : EntryTable). t.entries) was in
    let rules = rules_on (front ++ back) s.array in
    let none : list_any (has_base k) old ≡ false =
    sym (any_sorted (has_base k) (by_key base_at) old) ∙ ap (list_any (has_base k)) sorted ∙ any_sorted (has_base k) (by_key base_at) rules
    ∙ none_on (has_base k) s.array (front ++ back) (All-weaker (λ x. SpotsDiffer x s) (λ (x : Spot). x.array ≡ s.array → has_base k x.entry ≡ false) (λ x differ. bases_apart s x differ) (front ++ back) joins.bases) in
    let p : Entry → Bool = is_apart s.entry.filter in
    record {
      apart = sym (all_sorted p (by_key base_at) old) ∙ ap (list_all p) sorted ∙ all_sorted p (by_key base_at) rules
          ∙ all_on p s.array (front ++ back) joins.filters;
      base = none;
      long = sym (length_sorted (by_key base_at) old) ∙ ap length sorted ∙ length_sorted (by_key base_at) rules;
      now = map-set placed_table tables s.array (with_entry table s.entry)
          ∙ ap (set (map placed_table tables) s.array)
          (ap₂ table_with (ap (λ (t : EntryTable). t.room) was)
          (sort_last base_at old s.entry (differ_all k old none) ∙ ap (put_key base_at s.entry) sorted ∙ sym (on_place array_in entry_in base_at front back s before)))
          ∙ ap (λ ts. set ts s.array (table_for geometry (front ++ s ∷ back) s.array)) e
          ∙ more_rules geometry front back s lt;
    }

pub uninstall_one : (geometry : Geometry) (front back : List Spot) (s : Spot) (tables : List EntryTable) → map placed_table tables ≡ tables_for geometry (front ++ s ∷ back)
    → s.array < array_count geometry → All (λ x. SpotsDiffer x s) front
    → HasEntry tables s.array s.entry.region.base × (map placed_table (uninstalled tables s.array s.entry.region.base) ≡ tables_for geometry (front ++ back))
uninstall_one geometry front back s tables e lt before =
    let table = table_at tables s.array in
    let old = table.entries in
    let k = s.entry.region.base in
    let was : placed_table table ≡ table_for geometry (front ++ s ∷ back) s.array = table_is geometry (front ++ s ∷ back) tables s.array e lt in
    let sorted : sort_key base_at old ≡ put_key base_at s.entry (sorted_on (front ++ back) s.array) = ap (λ (t : EntryTable). t.entries) was ∙ on_place array_in entry_in base_at front back s before in
    let found : list_any (has_base k) old ≡ true =
    sym (any_sorted (has_base k) (by_key base_at) old) ∙ ap (list_any (has_base k)) sorted ∙ any_put (has_base k) (by_key base_at) s.entry (sorted_on (front ++ back) s.array)
    ∙ ap (λ t. t || list_any (has_base k) (sorted_on (front ++ back) s.array)) (eq-eqb k k refl) in (
      found,
      map-set placed_table tables s.array (without_entry table k)
          ∙ ap (set (map placed_table tables) s.array) (ap₂ table_with (ap (λ (t : EntryTable). t.room) was) (sorted_cut base_at s.entry old (sorted_on (front ++ back) s.array) found sorted))
          ∙ ap (λ ts. set ts s.array (table_for geometry (front ++ back) s.array)) e
          ∙ less_rules geometry front back s lt,
    )
