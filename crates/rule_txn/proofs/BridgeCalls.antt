-- The calls of a pipe whose tables and units are those of tasks are the calls of the tasks' rows.
use Rattle.std.proofs.Common.{◌≡◌, ℕ, ◌+◌, ◌<◌, ◌≤◌, ◌==◌, ◌&&◌, Bool, true, false, List, [], ◌∷◌, length, get_or, refl, ap, ap₂, sym, ◌∙◌, subst, arith, map, filter, bit_xor, inl, inr}
use Rattle.std.specs.Prelude.{◌⊎◌, slice_index, Option, None, Some}
use Rattle.std.specs.List.{All, Contains, find}
use Rattle.std.proofs.lemmas.Bool.{cases_lt}
use Rattle.std.proofs.lemmas.Bool.Decides.{nat_tests}
use Rattle.std.proofs.lemmas.List.{get_or_past}
use Rattle.std.proofs.lemmas.List.Elements.{All-head, All-tail, All-weaker, All-get_or, All-contains}
use Rattle.addr_translate.specs.Blocks.{index_of}
use Rattle.addr_translate.specs.Geometry.{Geometry, IsGroup, array_count, group_in, group_number, no_group}
use Rattle.hash_units.specs.Toeplitz.{row_hash_of}
use Rattle.pkt_headers.specs.declared.packets.Packet.{Packet}
use Rattle.stateful_ops.specs.declared.ops.Op.{Op}
use Rattle.reg_file.specs.declared.traits.Call.{Call}
use Rattle.reg_file.specs.Registers.{Contents}
use Rattle.group_keys.specs.declared.uses.KeyUse.{KeyUse}
use Rattle.group_keys.specs.declared.uses.KeyUse.TheVariants.{Single, Pair}
use Rattle.group_keys.specs.Units.{UsedUnit, unit_at}
use Rattle.group_keys.specs.Units as units
use Rattle.match_table.specs.declared.operations.Second.{Second}
use Rattle.match_table.specs.declared.operations.Second.TheVariants.{Top, Carry}
use Rattle.match_table.specs.Tables.{EntryTable, takes}
use Rattle.match_table.specs.Operations.{operation_by}
use Rattle.cmu_stage.specs.Keys.{unit_key, keys_of, key_in}
use Rattle.cmu_stage.specs.Passing.{carry_for, entry_hash, call_at, call_by}
use Rattle.pipe_core.specs.Rules.{Rules, IsPipe, entries_on, units_in, first_in, cmus_in}
use Rattle.pipe_core.specs.Groups.{keys_in}
use Rattle.pipe_core.specs.Flow.{calls_over}
use Rattle.pipe_core.specs.Bridge.{Blocks, AreBlocks, IsBound, HasBefore, block_calls}
use Rattle.pipe_core.specs.Bridge as bridge
use Rattle.pipe_core.proofs.FirstLemmas.{in_group}
use Rattle.pipe_core.proofs.RangeLemmas.{flat_same}
use Rattle.pipe_core.proofs.ModelLemmas.{calls_are_model}
use Rattle.pipe_core.proofs.BlockLemmas.{is_model}
use Rattle.sketch_defs.specs.Cells.{row_hash_at}
use Rattle.task_filters.specs.Filters.{passes}
use Rattle.switch_model.specs.Records.{Record, outlines}
use Rattle.switch_model.specs.Sights.{all_spots, all_uses, by_place, starts_before, units_on}
use Rattle.switch_model.specs.Soundness.{Sound}
use Rattle.switch_model.specs.Packets.{Stand, all_stands, Layout, takes_on, call_of, calls_on, calls_of}
use Rattle.switch_model.proofs.StandLemmas.{IsStand, is_live, stands_are}
use Rattle.switch_model.proofs.CallLemmas.{Takes}
use Rattle.switch_model.proofs.CallLemmas as calls_in
use Rattle.switch_model.proofs.BridgeLemmas.{entry_by, stands_on, rules_stand, one_takes, bound_of, HandsOn, IsBoundBy, bound_stands, operation_stands, addr_stands, KeyStands, KeyWhereLive, keys_stand, use_hash, unit_hash, hash_given, task_hash}
use Rattle.rule_txn.specs.Switch.{placed_table, tables_for, groups_for}
use Rattle.rule_txn.proofs.Places.{at_range}
use Rattle.rule_txn.proofs.Tables.{table_is}
use Rattle.rule_txn.proofs.BridgeFinds.{filter_alike, filter_none, filter_mapped, same_found}

-- tables and units of a pipe are those of these tasks, with their packets
pub record RulesStand (rules : Rules) (records : List Record) : Type 0 where
  pub sound : Sound rules.geometry (outlines records)
  pub tables : map placed_table rules.tables ≡ tables_for rules.geometry (all_spots (outlines records))
  pub groups : rules.groups ≡ groups_for rules.geometry (all_uses rules.geometry (outlines records))

-- the rows of tasks as blocks of registers
abbrev pub blocks_of : List ℕ → Packet → List Record → Blocks Stand
blocks_of hash_key packet records = record {
  all = all_stands records;
  array = λ s. s.array;
  rule = entry_by;
  live = is_live;
  call = call_of hash_key packet;
  bound = bound_of hash_key packet;
}

-- ---- which rows take a packet

takes_alike : (hash_key : List ℕ) (packet : Packet) (records : List Record) (array : ℕ) (s : Stand)
    → bridge.takes_on (blocks_of hash_key packet records) packet array s ≡ takes_on packet array s
takes_alike hash_key packet records array s = by s.live (s.array == array) where
  by : (a b : Bool) → ((a && b) && passes s.task.filter packet.vec) ≡ (a && (b && passes s.task.filter packet.vec))
  by true b = refl
  by false b = refl

takers : (hash_key : List ℕ) (packet : Packet) (records : List Record) (array : ℕ)
    → filter (bridge.takes_on (blocks_of hash_key packet records) packet array) (all_stands records) ≡ filter (takes_on packet array) (all_stands records)
takers hash_key packet records array =
    filter_alike (bridge.takes_on (blocks_of hash_key packet records) packet array) (takes_on packet array)
    (takes_alike hash_key packet records array) (all_stands records)

single : (rules : Rules) (records : List Record) (packet : Packet) (array : ℕ) → Sound rules.geometry (outlines records)
    → length (filter (bridge.takes_on (blocks_of rules.hash_key packet records) packet array) (all_stands records)) ≤ 1
single rules records packet array sound =
    subst (λ n. n ≤ 1) (ap length (sym (takers rules.hash_key packet records array))) (one_takes rules.geometry records packet array sound)

-- ---- the entry that is found

-- no row stands behind the last array
none_past : (geometry : Geometry) (array : ℕ) (s : Stand) → array_count geometry ≤ array → IsStand geometry s → stands_on array s ≡ false
none_past geometry array s past is = by s.live (s.array == array) refl where
  by : (a b : Bool) → (s.array == array) ≡ b → (a && b) ≡ false
  by true true e = absurd (let h = is.array in let same : s.array ≡ array = grind (arith, nat_tests) in omega arith)
  by true false e = refl
  by false b e = refl

none_there : (rules : Rules) (records : List Record) (array : ℕ) → array_count rules.geometry ≤ array → IsPipe rules → entries_on rules array ≡ []
none_there rules records array past pipe =
    ap (λ (t : EntryTable). t.entries) (get_or_past rules.tables array (record { room = 0; entries = [] }) (omega (arith, pipe.tables)))

found : (rules : Rules) (records : List Record) (packet : Packet) (array : ℕ) → IsPipe rules → RulesStand rules records
    → find (takes packet.vec) (entries_on rules array) ≡ find (takes packet.vec) (map entry_by (filter (stands_on array) (all_stands records)))
found rules records packet array pipe stand = by (cases_lt array (array_count rules.geometry)) where
  stands : List Stand
  stands = all_stands records

  few : length (filter (takes packet.vec) (map entry_by (filter (stands_on array) stands))) ≤ 1
  few =
      subst (λ n. n ≤ 1)
      (sym (filter_mapped (takes packet.vec) entry_by (stands_on array) stands))
      (single rules records packet array stand.sound)

  by : (array < array_count rules.geometry) ⊎ (array_count rules.geometry ≤ array)
      → find (takes packet.vec) (entries_on rules array) ≡ find (takes packet.vec) (map entry_by (filter (stands_on array) stands))
  by (inl within) =
      same_found (takes packet.vec) starts_before (entries_on rules array) (map entry_by (filter (stands_on array) stands))
      (ap (λ (t : EntryTable). t.entries) (table_is rules.geometry (all_spots (outlines records)) rules.tables array stand.tables within)
      ∙ ap by_place (rules_stand records array))
      few
  by (inr past) =
      ap (find (takes packet.vec)) (none_there rules records array past pipe)
      ∙ ap (λ ss. find (takes packet.vec) (map entry_by ss))
      (sym (filter_none (stands_on array) stands
      (All-weaker (IsStand rules.geometry) (λ s. stands_on array s ≡ false) (λ s is. none_past rules.geometry array s past is) stands
      (stands_are rules.geometry records stand.sound.tasks))))

-- ---- bounds

bound_by : (hash_key : List ℕ) (records : List Record) (packet : Packet) (contents : Contents) (s : Stand) (second : Second)
    → takes_on packet s.array s ≡ true
    → IsBoundBy hash_key (all_stands records) packet contents s second → IsBound (blocks_of hash_key packet records) packet contents s second
bound_by hash_key records packet contents s Top taken is = is
bound_by hash_key records packet contents s (Carry array) taken is =
    let on : HandsOn hash_key (all_stands records) packet contents s array = is in
    record {
      one = on.one;
      among = on.among;
      takes = takes_alike hash_key packet records array on.one ∙ on.takes taken;
      hands = on.hands;
    }

bounds : (rules : Rules) (records : List Record) (packet : Packet) (contents : Contents) (array : ℕ) (s : Stand) → Sound rules.geometry (outlines records)
    → Layout rules.hash_key records contents → Contains (all_stands records) s
    → takes_on packet array s ≡ true
    → IsBound (blocks_of rules.hash_key packet records) packet contents s (entry_by s).micro.second
bounds rules records packet contents array s sound laid among taken =
    let t : Takes packet array s = calls_in.takes packet array s taken in
    bound_by rules.hash_key records packet contents s (entry_by s).micro.second
    (subst (λ (a : ℕ). takes_on packet a s ≡ true) (sym t.on) taken)
    (bound_stands rules.geometry rules.hash_key records packet contents s sound laid among t.live)

-- ---- keys

place_key : (hash_key vector : List ℕ) (us : List (Option UsedUnit)) (unit : ℕ) → unit < 4
    → slice_index (keys_of hash_key us vector) unit ≡ unit_hash hash_key vector (unit_at us unit)
place_key hash_key vector us unit within =
    at_range 0 (λ unit. unit_key hash_key vector (unit_at us unit)) 4 unit within ∙ by (unit_at us unit) where
      by : (u : Option UsedUnit) → unit_key hash_key vector u ≡ unit_hash hash_key vector u
      by None = refl
      by (Some used) = refl

use_key : (hash_key vector : List ℕ) (us : List (Option UsedUnit)) (count : ℕ) (keys : KeyUse) → count ≤ 4 → All (λ unit. unit < count) (units.units_in keys)
    → key_in (keys_of hash_key us vector) keys ≡ use_hash hash_key vector us keys
use_key hash_key vector us count (Single unit) few exist =
    let within = All-head (λ unit. unit < count) unit [] exist in
    place_key hash_key vector us unit (omega arith)
use_key hash_key vector us count (Pair one two) few exist =
    let first = All-head (λ unit. unit < count) one (two ∷ []) exist in
    let second = All-head (λ unit. unit < count) two [] (All-tail (λ unit. unit < count) one (two ∷ []) exist) in
    ap₂ bit_xor (place_key hash_key vector us one (omega arith)) (place_key hash_key vector us two (omega arith))

units_are : (rules : Rules) (records : List Record) (group : ℕ) → RulesStand rules records → group < length rules.geometry.groups
    → units_in rules group ≡ units_on rules.geometry (all_uses rules.geometry (outlines records)) group
unfolding groups_for
units_are rules records group stand exists =
    ap (λ gs. get_or gs group []) stand.groups
    ∙ at_range [] (units_on rules.geometry (all_uses rules.geometry (outlines records))) (length rules.geometry.groups) group exists

-- the hash of a row's entry is that of its task
hash_is : (rules : Rules) (records : List Record) (packet : Packet) (group : ℕ) (s : Stand) → IsPipe rules → RulesStand rules records
    → group < length rules.geometry.groups → group_number rules.geometry s.array ≡ group → Contains (all_stands records) s → s.live ≡ true
    → entry_hash (keys_in rules group packet.vec) (entry_by s) ≡ row_hash_at rules.hash_key s.task s.row packet
unfolding row_hash_at
hash_is rules records packet group s pipe stand exists on among live =
    let geometry = rules.geometry in
    let uses = all_uses geometry (outlines records) in
    let key : KeyStands geometry uses s = All-contains (KeyWhereLive geometry uses) (all_stands records) s (keys_stand geometry records stand.sound) among live in
    let good : IsGroup (group_in geometry (group_number geometry s.array)) =
    All-get_or IsGroup geometry.groups (group_number geometry s.array) no_group (omega (arith, on, exists)) pipe.geometry.each in
    let us : units_in rules group ≡ units_on geometry uses (group_number geometry s.array) =
    units_are rules records group stand exists ∙ ap (units_on geometry uses) (sym on) in
    ap (λ h. row_hash_of h s.row)
    (ap (λ u. key_in (keys_of rules.hash_key u packet.vec) s.keys) us
    ∙ use_key rules.hash_key packet.vec (units_on geometry uses (group_number geometry s.array)) (group_in geometry (group_number geometry s.array)).units s.keys good.few_units key.exist
    ∙ hash_given rules.hash_key packet.vec s.task.key (units_on geometry uses (group_number geometry s.array)) s.keys key.gives
    ∙ task_hash rules.hash_key packet.vec s.task)

-- ---- calls

abbrev a_call : ℕ → ℕ → Op → Call
a_call array addr op = record { array = array; addr = addr; op = op }

call_is : (rules : Rules) (records : List Record) (packet : Packet) (group k : ℕ) (outs : List ℕ) (s : Stand) → IsPipe rules → RulesStand rules records
    → group < length rules.geometry.groups → k < cmus_in rules group → Contains (all_stands records) s
    → takes_on packet (first_in rules group + k) s ≡ true
    → carry_for (entry_by s).micro.second outs ≡ bound_of rules.hash_key packet s
    → call_by (keys_in rules group packet.vec) packet outs (first_in rules group + k) (entry_by s) ≡ call_of rules.hash_key packet s
call_is rules records packet group k outs s pipe stand exists less among taken bound =
    let array = first_in rules group + k in
    let t : Takes packet array s = calls_in.takes packet array s taken in
    let in_ : group_number rules.geometry s.array ≡ group =
    ap (group_number rules.geometry) t.on ∙ in_group rules group array exists (omega arith) (omega arith) in
    let h = row_hash_at rules.hash_key s.task s.row packet in
    ap (λ g. call_at g packet outs array (entry_by s)) (hash_is rules records packet group s pipe stand exists in_ among t.live)
    ∙ ap (λ a. a_call a (s.region.base + index_of h s.region.bits) (operation_by (entry_by s).micro h s.region.bits packet (carry_for (entry_by s).micro.second outs))) (sym t.on)
    ∙ ap₂ (a_call s.array) (addr_stands rules.hash_key packet s)
    (ap (operation_by (entry_by s).micro h s.region.bits packet) bound
    ∙ operation_stands rules.geometry rules.hash_key records packet s stand.sound among t.live)

-- ---- the bridge

pub are_blocks : (rules : Rules) (records : List Record) (packet : Packet) (contents : Contents) → IsPipe rules → RulesStand rules records
    → Layout rules.hash_key records contents → AreBlocks rules packet contents (blocks_of rules.hash_key packet records)
are_blocks rules records packet contents pipe stand laid = record {
  found = λ array. found rules records packet array pipe stand;
  single = λ array. single rules records packet array stand.sound;
  arrays = λ s. refl;
  bounds = λ array s among taken.
      bounds rules records packet contents array s stand.sound laid among (sym (takes_alike rules.hash_key packet records array s) ∙ taken);
  calls = λ group k outs s exists less among taken bound.
      call_is rules records packet group k outs s pipe stand exists less among
      (sym (takes_alike rules.hash_key packet records (first_in rules group + k) s) ∙ taken) bound;
}

-- the calls of the pipe are those of the tasks
pub packet_calls : (rules : Rules) (records : List Record) (packet : Packet) (contents : Contents) → IsPipe rules → RulesStand rules records
    → Layout rules.hash_key records contents
    → calls_over rules contents packet ≡ calls_of rules.geometry rules.hash_key packet records
unfolding calls_of
packet_calls rules records packet contents pipe stand laid =
    let blocks = blocks_of rules.hash_key packet records in
    calls_are_model rules packet contents (block_calls blocks packet) pipe
    (is_model rules packet contents blocks pipe (are_blocks rules records packet contents pipe stand laid))
    ∙ flat_same (block_calls blocks packet) (calls_on rules.hash_key packet (all_stands records)) 0 (array_count rules.geometry)
    (λ k less. ap (map (call_of rules.hash_key packet)) (takers rules.hash_key packet records (0 + k)))
