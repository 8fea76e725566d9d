-- What holds of rules, and what changes keep of it.
use Rattle.std.proofs.Common.{◌≡◌, ℕ, ◌+◌, ◌<◌, ◌≤◌, ◌^◌, ◌*◌, ◌%◌, List, [], ◌∷◌, length, get_or, set, map, replicate, ap, sym, ◌∙◌, subst, arith, ⊎_elim, pow_mono}
use Rattle.std.proofs.lemmas.Nat.{pow_pos}
use Rattle.std.specs.Prelude.{Option, None, Some, Bool, true, false, if◌then◌else◌, MatchOption}
use Rattle.std.specs.List.{All}
use Rattle.std.proofs.lemmas.Bool.{cases_eq}
use Rattle.std.proofs.lemmas.List.{get_or-set_same, get_or-set_other, get_or-replicate, get_or-map, get_or_read, length-set, length-map, length-replicate}
use Rattle.std.proofs.lemmas.List.Elements.{All-nil, All-cons, All-head, All-tail, All-append, All-weaker, All-get_or}
use Rattle.addr_translate.specs.declared.shapes.GroupShape.{GroupShape}
use Rattle.addr_translate.specs.Geometry.{Geometry, IsGeometry, IsGroup, group_in, no_group, array_count, arrays_before, group_number, bits_of, greatest_bits}
use Rattle.addr_translate.proofs.GeometryLemmas.{bits_within, few_arrays}
use Rattle.lists.specs.Sorting.{cut_by}
use Rattle.group_keys.specs.declared.uses.KeyUse.{KeyUse}
use Rattle.group_keys.specs.declared.uses.KeyUse.TheVariants.{Single, Pair}
use Rattle.group_keys.specs.Units.{UsedUnit, units_in, served_at, served_units, freed_at, freed_units}
use Rattle.match_table.specs.declared.entries.Entry.{Entry}
use Rattle.match_table.specs.declared.operations.Second.{Second}
use Rattle.match_table.specs.declared.operations.Second.TheVariants.{Top, Carry}
use Rattle.match_table.specs.Tables.{EntryTable, has_base}
use Rattle.cmu_stage.specs.Passing.{IsEntry, IsFrom}
use Rattle.pipe_core.specs.Rules.{Rules, rules_of, no_table, table_at, units_of, empty_table, first_rules, IsPipe, Fits, entries_on, first_in, cmus_in, with_entry, without_entry}
use Rattle.pipe_core.proofs.FirstLemmas.{in_group, array_exists, first_more, first_last}

-- ---- entries

-- an entry of a group's arrays
abbrev pub FitsGroup : Geometry → ℕ → Entry → Type 0
FitsGroup geometry group entry = IsEntry (group_in geometry group).bits (group_in geometry group).units (arrays_before geometry group) entry

pub group_entries : (rules : Rules) (group k : ℕ) → IsPipe rules → group < length rules.geometry.groups → k < cmus_in rules group
    → All (FitsGroup rules.geometry group) (entries_on rules (first_in rules group + k))
group_entries rules group k pipe exists less =
    let array = first_in rules group + k in
    let is : group_number rules.geometry array ≡ group = in_group rules group array exists (omega arith) (omega arith) in
    subst (λ g. All (FitsGroup rules.geometry g) (entries_on rules array)) is
    (pipe.entries array (omega (arith, pipe.tables, array_exists rules group array exists (omega arith))))

from_wider : (first wider : ℕ) (second : Second) → first ≤ wider → IsFrom first second → IsFrom wider second
from_wider first wider Top le h = tt
from_wider first wider (Carry array) le h = omega arith

-- it may stand on a wider array
pub entry_wider : (bits units first wide many last : ℕ) (entry : Entry) → bits ≤ wide → units ≤ many → first ≤ last
    → IsEntry bits units first entry → IsEntry wide many last entry
entry_wider bits units first wide many last entry wider more later is = record {
  row = is.row;
  inside = (let p = pow_mono {i = bits} {j = wide} wider in omega (arith, is.inside));
  exist = All-weaker (λ unit. unit < units) (λ unit. unit < many) (λ unit less. omega arith) (units_in entry.keys) is.exist;
  carry = from_wider first last entry.micro.second later is.carry;
}

few_units : (geometry : Geometry) (group : ℕ) → IsGeometry geometry → group < length geometry.groups → (group_in geometry group).units ≤ 4
few_units geometry group good exists = (All-get_or IsGroup geometry.groups group no_group exists good.each).few_units

-- the entries of a group's array may stand in a register file of the shape
pub entries_stand : (rules : Rules) (group array : ℕ) → IsPipe rules → group < length rules.geometry.groups → first_in rules group ≤ array
    → array < first_in rules group + cmus_in rules group → All (IsEntry (greatest_bits rules.geometry) 4 48) (entries_on rules array)
entries_stand rules group array pipe exists low high =
    let geometry = rules.geometry in
    let among : array < length rules.tables = omega (arith, pipe.tables, array_exists rules group array exists high) in
    let few : first_in rules group ≤ 48 = omega (arith, few_arrays geometry pipe.geometry, first_more rules group (length geometry.groups) exists, first_last rules) in
    let is : group_number geometry array ≡ group = in_group rules group array exists low high in
    All-weaker (Fits geometry array) (IsEntry (greatest_bits geometry) 4 48)
    (λ entry fits. entry_wider (bits_of geometry array) (group_in geometry (group_number geometry array)).units (arrays_before geometry (group_number geometry array))
    (greatest_bits geometry) 4 48 entry (bits_within geometry array)
    (subst (λ g. (group_in geometry g).units ≤ 4) (sym is) (few_units geometry group pipe.geometry exists))
    (subst (λ g. arrays_before geometry g ≤ 48) (sym is) few) fits)
    (entries_on rules array) (pipe.entries array among)

-- ---- changes

-- another table for an array, with the same room and entries that fit
pub pipe_with_table : (rules : Rules) (array : ℕ) (table : EntryTable) → array < array_count rules.geometry → IsPipe rules
    → table.room ≡ (table_at rules.tables array).room → All (Fits rules.geometry array) table.entries
    → IsPipe (rules_of rules.geometry rules.hash_key (set rules.tables array table) rules.groups)
pipe_with_table rules array table exists pipe room fit =
    let tables = rules.tables in
    let among : array < length tables = omega (arith, pipe.tables) in
    let long : length (set tables array table) ≡ length tables = length-set tables array table in
    let same : table_at (set tables array table) array ≡ table = get_or-set_same tables array table no_table among in
    record {
      geometry = pipe.geometry;
      tables = long ∙ pipe.tables;
      groups = pipe.groups;
      rooms = λ a less. ⊎_elim
          (λ (e : a ≡ array). ap (λ b. (table_at (set tables array table) b).room) e ∙ ap (λ (t : EntryTable). t.room) same ∙ room ∙ pipe.rooms array among)
          (λ other. ap (λ (t : EntryTable). t.room) (get_or-set_other tables array a table no_table other) ∙ pipe.rooms a (omega (arith, less, long)))
          (cases_eq a array);
      units = pipe.units;
      entries = λ a less. ⊎_elim
          (λ (e : a ≡ array). subst (λ b. All (Fits rules.geometry b) (table_at (set tables array table) b).entries) (sym e)
          (subst (λ (t : EntryTable). All (Fits rules.geometry array) t.entries) (sym same) fit))
          (λ other. subst (λ (t : EntryTable). All (Fits rules.geometry a) t.entries) (sym (get_or-set_other tables array a table no_table other)) (pipe.entries a (omega (arith, less, long))))
          (cases_eq a array);
    }

-- one entry more, which fits
pub installs : {rules outer : Rules} (array : ℕ) (entry : Entry) (old new : EntryTable) → rules ≡ outer → array < array_count outer.geometry → IsPipe rules
    → old ≡ get_or rules.tables array old → new ≡ with_entry old entry → Fits outer.geometry array entry
    → IsPipe (rules_of rules.geometry rules.hash_key (set rules.tables array new) rules.groups)
installs {rules} array entry old new same exists pipe is made fits =
    let here : array < array_count rules.geometry = subst (λ (r : Rules). array < array_count r.geometry) (sym same) exists in
    let fit : Fits rules.geometry array entry = subst (λ (r : Rules). Fits r.geometry array entry) (sym same) fits in
    let among : array < length rules.tables = omega (arith, here, pipe.tables) in
    let read : old ≡ table_at rules.tables array = get_or_read rules.tables array old among is no_table in
    let stood : All (Fits rules.geometry array) old.entries = subst (λ (t : EntryTable). All (Fits rules.geometry array) t.entries) (sym read) (pipe.entries array among) in
    pipe_with_table rules array new here pipe (ap (λ (t : EntryTable). t.room) (made ∙ ap (λ t. with_entry t entry) read))
    (subst (λ (t : EntryTable). All (Fits rules.geometry array) t.entries) (sym made)
    (All-append (Fits rules.geometry array) old.entries (entry ∷ []) stood (All-cons (Fits rules.geometry array) entry [] fit (All-nil (Fits rules.geometry array)))))

all_cut : {X : Type 0} (P : X → Type 0) (p : X → Bool) (xs : List X) → All P xs → All P (cut_by p xs)
all_cut P p [] h = h
all_cut {X} P p (x ∷ xs) h = by (all_cut P p xs (All-tail P x xs h)) (p x) where
  by : All P (cut_by p xs) → (b : Bool) → All P (if b then xs else (x ∷ cut_by p xs))
  by rest true = All-tail P x xs h
  by rest false = All-cons P x (cut_by p xs) (All-head P x xs h) rest

-- one entry less
pub uninstalls : {rules outer : Rules} (array base : ℕ) (old new : EntryTable) → rules ≡ outer → array < array_count outer.geometry → IsPipe rules
    → old ≡ get_or rules.tables array old → new ≡ without_entry old base
    → IsPipe (rules_of rules.geometry rules.hash_key (set rules.tables array new) rules.groups)
uninstalls {rules} array base old new same exists pipe is made =
    let here : array < array_count rules.geometry = subst (λ (r : Rules). array < array_count r.geometry) (sym same) exists in
    let among : array < length rules.tables = omega (arith, here, pipe.tables) in
    let read : old ≡ table_at rules.tables array = get_or_read rules.tables array old among is no_table in
    let stood : All (Fits rules.geometry array) old.entries = subst (λ (t : EntryTable). All (Fits rules.geometry array) t.entries) (sym read) (pipe.entries array among) in
    pipe_with_table rules array new here pipe (ap (λ (t : EntryTable). t.room) (made ∙ ap (λ t. without_entry t base) read))
    (subst (λ (t : EntryTable). All (Fits rules.geometry array) t.entries) (sym made) (all_cut (Fits rules.geometry array) (has_base base) old.entries stood))

-- other units for a group, as many as before
pub pipe_with_units : (rules : Rules) (group : ℕ) (units : List (Option UsedUnit)) → group < length rules.geometry.groups → IsPipe rules
    → length units ≡ length (units_of rules.groups group)
    → IsPipe (rules_of rules.geometry rules.hash_key rules.tables (set rules.groups group units))
pipe_with_units rules group units exists pipe many =
    let groups = rules.groups in
    let among : group < length groups = omega (arith, pipe.groups) in
    let long : length (set groups group units) ≡ length groups = length-set groups group units in
    record {
      geometry = pipe.geometry;
      tables = pipe.tables;
      groups = long ∙ pipe.groups;
      rooms = pipe.rooms;
      units = λ g less. ⊎_elim
          (λ (e : g ≡ group). ap (λ h. length (units_of (set groups group units) h)) e
          ∙ ap length (get_or-set_same groups group units [] among) ∙ many ∙ pipe.units group among
          ∙ ap (λ h. (group_in rules.geometry h).units) (sym e))
          (λ other. ap length (get_or-set_other groups group g units [] other) ∙ pipe.units g (omega (arith, less, long)))
          (cases_eq g group);
      entries = pipe.entries;
    }

served_long : (mask : List ℕ) (units : List (Option UsedUnit)) (keys : KeyUse) → length (served_units units keys mask) ≡ length units
unfolding served_units
served_long mask units (Single unit) = length-set units unit _
served_long mask units (Pair one two) = length-set (served_at mask units one) two _ ∙ length-set units one _

freed_long : (units : List (Option UsedUnit)) (keys : KeyUse) → length (freed_units units keys) ≡ length units
unfolding freed_units
freed_long units (Single unit) = length-set units unit _
freed_long units (Pair one two) = length-set (freed_at units one) two _ ∙ length-set units one _

changes_units : {rules outer : Rules} (group : ℕ) (old new : List (Option UsedUnit)) → rules ≡ outer → group < length outer.geometry.groups → IsPipe rules
    → old ≡ get_or rules.groups group old → length new ≡ length old
    → IsPipe (rules_of rules.geometry rules.hash_key rules.tables (set rules.groups group new))
changes_units {rules} group old new same exists pipe is long =
    let here : group < length rules.geometry.groups = subst (λ (r : Rules). group < length r.geometry.groups) (sym same) exists in
    let among : group < length rules.groups = omega (arith, here, pipe.groups) in
    pipe_with_units rules group new here pipe (long ∙ ap length (get_or_read rules.groups group old among is []))

-- one use more, or none where no units give the key
pub serves : {rules outer : Rules} (group : ℕ) (mask : List ℕ) (keys : Option KeyUse) (old new : List (Option UsedUnit)) → rules ≡ outer → group < length outer.geometry.groups
    → IsPipe rules → old ≡ get_or rules.groups group old → MatchOption keys (new ≡ old) (λ keys. new ≡ served_units old keys mask)
    → IsPipe (rules_of rules.geometry rules.hash_key rules.tables (set rules.groups group new))
serves {rules} group mask None old new same exists pipe is made = changes_units {rules = rules} group old new same exists pipe is (ap length made)
serves {rules} group mask (Some keys) old new same exists pipe is made =
    changes_units {rules = rules} group old new same exists pipe is (ap length made ∙ served_long mask old keys)

-- one use less
pub frees : {rules outer : Rules} (group : ℕ) (keys : KeyUse) (old new : List (Option UsedUnit)) → rules ≡ outer → group < length outer.geometry.groups
    → IsPipe rules → old ≡ get_or rules.groups group old → new ≡ freed_units old keys
    → IsPipe (rules_of rules.geometry rules.hash_key rules.tables (set rules.groups group new))
frees {rules} group keys old new same exists pipe is made = changes_units {rules = rules} group old new same exists pipe is (ap length made ∙ freed_long old keys)

-- no entries, and all units free
pub first_pipe : (geometry : Geometry) (hash_key : List ℕ) → IsGeometry geometry → IsPipe (first_rules geometry hash_key)
first_pipe geometry hash_key good =
    let count = array_count geometry in
    let empty = empty_table (2 ^ geometry.split) in
    let free : GroupShape → List (Option UsedUnit) = λ (g : GroupShape). replicate g.units (let none : Option UsedUnit = None in none) in
    let long : length (replicate count empty) ≡ count = length-replicate count empty in
    let many : length (map free geometry.groups) ≡ length geometry.groups = length-map geometry.groups free in
    record {
      geometry = good;
      tables = long;
      groups = many;
      rooms = λ a less. ap (λ (t : EntryTable). t.room) (get_or-replicate count a empty no_table (omega (arith, less, long)));
      units = λ g less.
          ap length (get_or-map free geometry.groups g no_group [] (omega (arith, less, many)))
          ∙ length-replicate (group_in geometry g).units (let none : Option UsedUnit = None in none);
      entries = λ a less. subst (λ (t : EntryTable). All (Fits geometry a) t.entries) (sym (get_or-replicate count a empty no_table (omega (arith, less, long)))) (All-nil (Fits geometry a));
    }

-- ---- room

pub room_most : (split : ℕ) → split ≤ 10 → 2 ^ split ≤ 1024
room_most split few = let p = pow_mono {i = split} {j = 10} few in omega arith

pub room_some : (split : ℕ) → 1 ≤ 2 ^ split
room_some split = pow_pos split

pub room_is : (split : ℕ) → split ≤ 10 → 1 * 2 ^ split % 4294967296 ≡ 2 ^ split
room_is split few = let p = room_most split few in omega arith
