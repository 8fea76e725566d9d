-- What the pipe of a switch makes of packets is told by the switch's state alone: of the order of an array's entries no search tells.
use Rattle.std.proofs.Common.{◌≡◌, ℕ, ◌+◌, ◌<◌, ◌≤◌, Bool, true, false, cond, List, [], ◌∷◌, length, map, filter, refl, ap, ap₂, sym, ◌∙◌, subst, arith, inl, inr}
use Rattle.std.specs.Prelude.{◌⊎◌, ◌==◌}
use Rattle.std.specs.List.{All, AllPairs, Contains, find, flat_map}
use Rattle.std.proofs.Math.Path.{fun_ext}
use Rattle.std.proofs.lemmas.Bool.{cases_lt, false≢true, eqb-true}
use Rattle.std.proofs.lemmas.List.{get_or_past}
use Rattle.std.proofs.lemmas.List.Elements.{All-nil, All-cons, All-head, All-tail, All-contains, All-contains_itself, filter_passes}
use Rattle.std.proofs.lemmas.List.FromFn.{length-map-range_with_len}
use Rattle.std.proofs.lemmas.List.Kept.{AllPairs-filter}
use Rattle.addr_translate.specs.Blocks.{Block}
use Rattle.addr_translate.specs.Geometry.{Geometry, array_count}
use Rattle.lists.proofs.SortLemmas.{All-sorted, find_sorted}
use Rattle.task_filters.specs.Filters.{are_disjoint}
use Rattle.pkt_headers.specs.declared.packets.Packet.{Packet}
use Rattle.reg_file.specs.Registers.{Contents}
use Rattle.match_table.specs.declared.entries.Entry.{Entry}
use Rattle.match_table.specs.Tables.{EntryTable, takes}
use Rattle.match_table.proofs.OrderLemmas.{passes_one}
use Rattle.cmu_stage.specs.Passing.{calls_at, calls_by}
use Rattle.pipe_core.specs.Rules.{Rules, IsPipe, rules_of, no_table, table_at, entries_on, first_in, cmus_in}
use Rattle.pipe_core.specs.Groups.{keys_in, array_calls, group_calls, no_carries}
use Rattle.pipe_core.specs.Flow.{flow, stages_in}
use Rattle.pipe_core.proofs.RangeLemmas.{flat_same}
use Rattle.switch_model.specs.Records.{Record, Outline}
use Rattle.switch_model.specs.Sights.{Holding, Spot, held_by, all_held, spots_by, all_spots, all_uses, rules_on, starts_before}
use Rattle.switch_model.specs.Soundness.{Sound}
use Rattle.switch_model.specs.Packets.{calls_of}
use Rattle.switch_model.proofs.ListLemmas.{pairs_known, all_mapped}
use Rattle.switch_model.proofs.BridgeLemmas.{rules_disjoint}
use Rattle.rule_txn.specs.Rows.{Groups}
use Rattle.rule_txn.specs.Switch.{SwitchState, placed_table, table_for, tables_for, groups_for, rules_for}
use Rattle.rule_txn.specs.Seen.{StandsFor}
use Rattle.rule_txn.proofs.Places.{at_range}
use Rattle.rule_txn.proofs.Tables.{length-tables, table_is}
use Rattle.rule_txn.proofs.Bounds.{spot_holding}
use Rattle.rule_txn.proofs.Enters.{live_all, spots_are_live}
use Rattle.rule_txn.proofs.BridgeFinds.{only_one, same_found}
use Rattle.rule_txn.proofs.BridgeCalls.{packet_calls}
use Rattle.rule_txn.proofs.BridgePipe.{all_sorted_back}

-- ---- at most one entry of an array takes a packet

short : {X : Type 0} (xs : List X) → AllPairs (λ (x y : X). ⊥) xs → length xs ≤ 1
short [] never = omega arith
short (x ∷ []) never = omega arith
short (x ∷ y ∷ xs) never = absurd (never 0 1 x (omega arith) (omega arith))

few_take : (geometry : Geometry) (all : List Outline) (packet : Packet) (array : ℕ) → Sound geometry all
    → length (filter (takes packet.vec) (rules_on (all_spots all) array)) ≤ 1
few_take geometry all packet array sound =
    let rules : List Entry = rules_on (all_spots all) array in
    let Apart : Entry → Entry → Type 0 = λ one two. are_disjoint one.filter two.filter ≡ true in
    short (filter (takes packet.vec) rules)
    (pairs_known (λ (e : Entry). takes packet.vec e ≡ true) Apart (λ (one two : Entry). ⊥)
    (λ one two first second apart. false≢true (sym (passes_one one.filter two.filter packet.vec apart first) ∙ second))
    (filter (takes packet.vec) rules) (filter_passes (takes packet.vec) rules)
    (AllPairs-filter Apart (takes packet.vec) rules (rules_disjoint geometry all array sound)))

-- ---- the entry that is found

table_there : (geometry : Geometry) (spots : List Spot) (array : ℕ) → array < array_count geometry
    → table_at (tables_for geometry spots) array ≡ table_for geometry spots array
unfolding tables_for
table_there geometry spots array within = at_range no_table (table_for geometry spots) (array_count geometry) array within

length_for : (geometry : Geometry) (spots : List Spot) → length (tables_for geometry spots) ≡ array_count geometry
unfolding tables_for
length_for geometry spots = length-map-range_with_len (table_for geometry spots) 0 (array_count geometry)

none_past : (tables : List EntryTable) (array count : ℕ) → length tables ≡ count → count ≤ array → table_at tables array ≡ no_table
none_past tables array count long past = get_or_past tables array no_table (omega (arith, long, past))

-- is the same in tables that differ in the order of their entries alone
found_placed : (geometry : Geometry) (all : List Outline) (tables : List EntryTable) (packet : Packet) (array : ℕ) → Sound geometry all
    → map placed_table tables ≡ tables_for geometry (all_spots all)
    → find (takes packet.vec) (table_at tables array).entries ≡ find (takes packet.vec) (table_at (tables_for geometry (all_spots all)) array).entries
found_placed geometry all tables packet array sound e = by (cases_lt array (array_count geometry)) where
  spots : List Spot
  spots = all_spots all

  rules : List Entry
  rules = rules_on spots array

  few : length (filter (takes packet.vec) rules) ≤ 1
  few = few_take geometry all packet array sound

  by : (array < array_count geometry) ⊎ (array_count geometry ≤ array)
      → find (takes packet.vec) (table_at tables array).entries ≡ find (takes packet.vec) (table_at (tables_for geometry spots) array).entries
  by (inl within) =
      same_found (takes packet.vec) starts_before (table_at tables array).entries rules
      (ap (λ (t : EntryTable). t.entries) (table_is geometry spots tables array e within)) few
      ∙ sym (find_sorted (takes packet.vec) starts_before rules (only_one (takes packet.vec) rules few))
      ∙ ap (λ (t : EntryTable). find (takes packet.vec) t.entries) (sym (table_there geometry spots array within))
  by (inr past) =
      ap (λ (t : EntryTable). find (takes packet.vec) t.entries)
      (none_past tables array (array_count geometry) (length-tables geometry spots tables e) past
      ∙ sym (none_past (tables_for geometry spots) array (array_count geometry) (length_for geometry spots) past))

-- ---- what a pipe makes of packets

same_stages : (geometry : Geometry) (hash_key : List ℕ) (one two : List EntryTable) (groups : Groups)
    → ((packet : Packet) (array : ℕ) → find (takes packet.vec) (table_at one array).entries ≡ find (takes packet.vec) (table_at two array).entries)
    → stages_in (rules_of geometry hash_key one groups) ≡ stages_in (rules_of geometry hash_key two groups)
unfolding group_calls calls_at
same_stages geometry hash_key one two groups same = fun_ext (λ group. fun_ext (λ packet. fun_ext (λ outs.
    let rules : Rules = rules_of geometry hash_key one groups in
    let others : Rules = rules_of geometry hash_key two groups in
    flat_same (array_calls rules group packet outs) (array_calls others group packet outs) (first_in rules group) (cmus_in rules group)
    (λ k less. ap (calls_by (keys_in rules group packet.vec) packet outs (first_in rules group + k)) (same packet (first_in rules group + k))))))

same_rules : (rules : Rules) (state : SwitchState) → rules.geometry ≡ state.geometry → rules.hash_key ≡ state.hash_key
    → rules ≡ rules_of state.geometry state.hash_key rules.tables rules.groups
same_rules rules state e f = ap₂ (λ g k. rules_of g k rules.tables rules.groups) e f

-- the pipe of a switch makes of each packet what the rules of the switch's state make of it
pub acts : (rules : Rules) (state : SwitchState) → Sound state.geometry state.outlines
    → rules.geometry ≡ state.geometry → rules.hash_key ≡ state.hash_key
    → map placed_table rules.tables ≡ tables_for state.geometry (all_spots state.outlines)
    → rules.groups ≡ groups_for state.geometry (all_uses state.geometry state.outlines)
    → stages_in rules ≡ stages_in (rules_for state)
acts rules state sound e f tables groups =
    ap stages_in (same_rules rules state e f ∙ ap (rules_of state.geometry state.hash_key rules.tables) groups)
    ∙ same_stages state.geometry state.hash_key rules.tables (tables_for state.geometry (all_spots state.outlines))
    (groups_for state.geometry (all_uses state.geometry state.outlines))
    (λ packet array. found_placed state.geometry state.outlines rules.tables packet array sound tables)

-- and over registers that stand for tasks with their packets, those are the calls of the tasks
pub calls_for : (rules : Rules) (state : SwitchState) (records : List Record) (packet : Packet) (contents : Contents) → IsPipe rules
    → rules.geometry ≡ state.geometry → rules.hash_key ≡ state.hash_key
    → map placed_table rules.tables ≡ tables_for state.geometry (all_spots state.outlines)
    → rules.groups ≡ groups_for state.geometry (all_uses state.geometry state.outlines)
    → StandsFor state records contents
    → flow (stages_in rules) contents packet (length state.geometry.groups) 0 no_carries ≡ calls_of state.geometry state.hash_key packet records
calls_for rules state records packet contents pipe e f tables groups for =
    let same = same_rules rules state e f in
    ap (λ (r : Rules). flow (stages_in r) contents packet (length state.geometry.groups) 0 no_carries) same
    ∙ packet_calls (rules_of state.geometry state.hash_key rules.tables rules.groups) records packet contents (subst IsPipe same pipe)
    (record {
      sound = for.sound;
      tables = subst (λ os. map placed_table rules.tables ≡ tables_for state.geometry (all_spots os)) for.same tables;
      groups = subst (λ os. rules.groups ≡ groups_for state.geometry (all_uses state.geometry os)) for.same groups;
    })
    for.laid

-- ---- the regions of entries

abbrev pub holding_on : ℕ → Block → Holding
holding_on array region = record { array = array; region = region }

-- each entry stands in a region that is held
spots_held : (os : List Outline) → All (λ (s : Spot). Contains (all_held os) (spot_holding s)) (all_spots os)
unfolding all_spots all_held
spots_held os =
    let held : List Holding = flat_map held_by os in
    all_mapped (Contains held) spot_holding (flat_map spots_by os)
    (subst (All (Contains held)) (sym (spots_are_live os)) (live_all (Contains held) os (All-contains_itself held)))

rules_held : (held : List Holding) (array : ℕ) (spots : List Spot) → All (λ (s : Spot). Contains held (spot_holding s)) spots
    → All (λ (e : Entry). Contains held (holding_on array e.region)) (rules_on spots array)
rules_held held array [] each = All-nil (λ (e : Entry). Contains held (holding_on array e.region))
rules_held held array (s ∷ spots) each = by (rules_held held array spots (All-tail (λ (t : Spot). Contains held (spot_holding t)) s spots each)) (s.array == array) refl where
  Held : Entry → Type 0
  Held e = Contains held (holding_on array e.region)

  rest : List Spot
  rest = filter (λ (t : Spot). t.array == array) spots

  by : All Held (rules_on spots array) → (b : Bool) → (s.array == array) ≡ b → All Held (map (λ (t : Spot). t.entry) (cond b (s ∷ rest) rest))
  by more true e =
      All-cons Held s.entry (rules_on spots array)
      (subst (λ (a : ℕ). Contains held (holding_on a s.entry.region)) (eqb-true s.array array e)
      (All-head (λ (t : Spot). Contains held (spot_holding t)) s spots each)) more
  by more false e = more

entries_held : (geometry : Geometry) (all : List Outline) (tables : List EntryTable) (array : ℕ) → map placed_table tables ≡ tables_for geometry (all_spots all)
    → All (λ (e : Entry). Contains (all_held all) (holding_on array e.region)) (table_at tables array).entries
entries_held geometry all tables array e = by (cases_lt array (array_count geometry)) where
  Held : Entry → Type 0
  Held entry = Contains (all_held all) (holding_on array entry.region)

  by : (array < array_count geometry) ⊎ (array_count geometry ≤ array) → All Held (table_at tables array).entries
  by (inl within) =
      all_sorted_back Held starts_before (table_at tables array).entries
      (subst (All Held) (sym (ap (λ (t : EntryTable). t.entries) (table_is geometry (all_spots all) tables array e within)))
      (All-sorted Held starts_before (rules_on (all_spots all) array) (rules_held (all_held all) array (all_spots all) (spots_held all))))
  by (inr past) =
      subst (All Held)
      (sym (ap (λ (t : EntryTable). t.entries) (none_past tables array (array_count geometry) (length-tables geometry (all_spots all) tables e) past)))
      (All-nil Held)

pub entry_held : (rules : Rules) (state : SwitchState) (array : ℕ) (entry : Entry)
    → map placed_table rules.tables ≡ tables_for state.geometry (all_spots state.outlines)
    → Contains (entries_on rules array) entry → Contains (all_held state.outlines) (holding_on array entry.region)
entry_held rules state array entry tables among =
    All-contains (λ (e : Entry). Contains (all_held state.outlines) (holding_on array e.region)) (entries_on rules array) entry
    (entries_held state.geometry state.outlines rules.tables array tables) among
