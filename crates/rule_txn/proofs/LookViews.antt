-- What the view of a switch shows, by its pools, tables and units.
use Rattle.std.proofs.Common.{◌≡◌, ℕ, ◌+◌, ◌<◌, ◌≤◌, ◌^◌, ◌==◌, Bool, true, false, List, [], ◌∷◌, length, get_or, map, filter, refl, ap, ap₂, sym, ◌∙◌, subst, arith, length-append}
use Rattle.std.specs.Prelude.{Option, None, Some, IfSome, unwrap_or, position}
use Rattle.std.specs.List.{flat_map}
use Rattle.std.proofs.lemmas.List.Elements.{filter-append}
use Rattle.std.proofs.lemmas.List.Sums.{length-filter}
use Rattle.std.proofs.lemmas.List.FromFn.{length-map-range_with_len}
use Rattle.std.proofs.Math.Pow.{pow_mono}
use Rattle.addr_translate.specs.Blocks.{Block}
use Rattle.addr_translate.specs.Geometry.{Geometry, IsGeometry, array_count, bits_of, greatest_bits, group_in}
use Rattle.addr_translate.proofs.GeometryLemmas.{bits_within, greatest_at_most}
use Rattle.partition_pool.specs.Pools.{PoolState}
use Rattle.match_table.specs.Tables.{EntryTable}
use Rattle.match_table.proofs.ChangeLemmas.{length_sorted}
use Rattle.pkt_headers.specs.declared.packets.Packet.{Packet}
use Rattle.reg_file.specs.declared.traits.Call.{Call}
use Rattle.reg_file.specs.Registers.{Contents, Dims, InFile}
use Rattle.reg_file.specs.Calls.{MakesOver}
use Rattle.pipe_core.specs.Rules.{Rules, IsPipe, IsShaped, rules_of, table_at, units_of}
use Rattle.pipe_core.specs.Flow.{calls_over}
use Rattle.sketch_defs.specs.Tasks.{Sketch}
use Rattle.switch_model.specs.Records.{Row, Outline}
use Rattle.switch_model.specs.Sights.{Holding, GroupUse, spots_from, spots_by, all_held, all_spots, all_uses, rules_on, units_on, starts_before, used_from, unit_uses, group_uses}
use Rattle.switch_model.specs.Soundness.{Sound}
use Rattle.switch_model.specs.Changes.{is_called}
use Rattle.switch_model.proofs.ListLemmas.{length_map, mapped_position}
use Rattle.readout.specs.declared.views.Placed.{Placed}
use Rattle.readout.specs.declared.views.Side.{Side}
use Rattle.readout.specs.declared.views.Side.TheVariants.{Live, Frozen}
use Rattle.readout.specs.PlacedTasks.{IsPlaced, IsPlacedTask, LiesIn, no_place, no_task, no_placed_task, task_in, place_in, block_of, live_bits, frozen_bits, is_named}
use Rattle.rule_txn.specs.State.{State}
use Rattle.rule_txn.specs.Rows.{Groups}
use Rattle.rule_txn.specs.Switch.{SwitchState, pool_for, pools_for, placed_table, tables_for, groups_for}
use Rattle.rule_txn.specs.Seen.{PassesOver, placed_task, rows_on, view_of}
use Rattle.rule_txn.proofs.Places.{at_range, get_or-map}
use Rattle.rule_txn.proofs.Tables.{table_is, count_append}
use Rattle.rule_txn.proofs.ShownLemmas.{view_fits}
use Rattle.rule_txn.proofs.BridgeLemmas.{rules_in, packet_stands}

-- ---- tasks and rows

pub named_at : (name : List ℕ) (os : List Outline) → position (is_called name) os ≡ position (is_named name) (map placed_task os)
named_at name os = sym (mapped_position (is_named name) placed_task os)

-- ---- pools

pub pool_is : (geometry : Geometry) (held : List Holding) (pools : List PoolState) (array : ℕ) (pool : PoolState) → pool ≡ get_or pools array pool
    → pools ≡ pools_for geometry held → array < array_count geometry → pool ≡ pool_for geometry held array
unfolding pools_for
pool_is geometry held pools array pool is e within =
    is ∙ ap (λ ps. get_or ps array pool) e ∙ at_range pool (pool_for geometry held) (array_count geometry) array within

-- ---- live rows

own_rows : (task : Sketch) (i : ℕ) (before : Option ℕ) (rows : List Row) (array : ℕ)
    → length (rules_on (spots_from task i before rows) array) ≡ length (filter (λ (row : Row). row.array == array) rows)
own_rows task i before [] array = refl
own_rows task i before (row ∷ rows) array = by (own_rows task (i + 1) (Some row.array) rows array) (row.array == array) refl where
  by : length (rules_on (spots_from task (i + 1) (Some row.array) rows) array) ≡ length (filter (λ (row : Row). row.array == array) rows)
      → (b : Bool) → (row.array == array) ≡ b
      → length (rules_on (spots_from task i before (row ∷ rows)) array) ≡ length (filter (λ (row : Row). row.array == array) (row ∷ rows))
  by rest true e = grind (arith, rest, e)
  by rest false e = grind (arith, rest, e)

all_rows : (os : List Outline) (array : ℕ)
    → length (rules_on (flat_map spots_by os) array) ≡ length (filter (λ (row : Row). row.array == array) (flat_map (λ (o : Outline). o.rows) os))
all_rows [] array = refl
all_rows (o ∷ os) array =
    count_append (spots_by o) (flat_map spots_by os) array
    ∙ ap₂ (λ m n. m + n) (own_rows o.task 0 None o.rows array) (all_rows os array)
    ∙ sym (ap length (filter-append (λ (row : Row). row.array == array) o.rows (flat_map (λ (o : Outline). o.rows) os))
    ∙ length-append (filter (λ (row : Row). row.array == array) o.rows) (filter (λ (row : Row). row.array == array) (flat_map (λ (o : Outline). o.rows) os)))

-- an array's table has an entry for each live row on the array
pub entries_are_rows : (geometry : Geometry) (os : List Outline) (tables : List EntryTable) (array : ℕ)
    → map placed_table tables ≡ tables_for geometry (all_spots os) → array < array_count geometry
    → length (table_at tables array).entries ≡ rows_on os array
unfolding all_spots
entries_are_rows geometry os tables array e within =
    sym (length_sorted starts_before (table_at tables array).entries)
    ∙ ap (λ (t : EntryTable). length t.entries) (table_is geometry (all_spots os) tables array e within)
    ∙ length_sorted starts_before (rules_on (all_spots os) array)
    ∙ all_rows os array
    ∙ length-filter (λ (row : Row). row.array == array) (flat_map (λ (o : Outline). o.rows) os)

-- and few
pub few_entries : (rules : Rules) (array n : ℕ) → IsPipe rules → array < array_count rules.geometry
    → n ≤ (table_at rules.tables array).room → n ≤ 1024
few_entries rules array n pipe within few =
    let room = pipe.rooms array (omega (arith, pipe.tables, within)) in
    let most : 2 ^ rules.geometry.split ≤ 2 ^ 10 = pow_mono pipe.geometry.most_split in
    omega (arith, room, most, few)

-- ---- units

pub units_are : (geometry : Geometry) (uses : List GroupUse) (groups : Groups) (group : ℕ) → groups ≡ groups_for geometry uses
    → group < length geometry.groups → units_of groups group ≡ units_on geometry uses group
unfolding groups_for
units_are geometry uses groups group e exists =
    ap (λ gs. get_or gs group []) e ∙ at_range [] (units_on geometry uses) (length geometry.groups) group exists

pub unit_count : (geometry : Geometry) (uses : List GroupUse) (group : ℕ) → length (units_on geometry uses group) ≡ (group_in geometry group).units
unit_count geometry uses group =
    length-map-range_with_len (λ unit. used_from (unit_uses (group_uses uses group) unit)) 0 (group_in geometry group).units

-- ---- cells

lies : (geometry : Geometry) (bits : ℕ) (frozen : Option ℕ) (place : Placed) (side : Side) → IsPlaced geometry bits frozen place
    → LiesIn geometry place.array (block_of side place)
lies geometry bits frozen place Live is = is.region
lies geometry bits frozen place Frozen is = by place.frozen is.frozen_region where
  by : (f : Option Block) → IfSome f (LiesIn geometry place.array) → LiesIn geometry place.array (unwrap_or f place.region)
  by None none = is.region
  by (Some region) lies = lies

pub placed_at : (state : SwitchState) (at row : ℕ) → Sound state.geometry state.outlines → at < length state.outlines
    → row < length (task_in (view_of state) at).places
    → IsPlaced state.geometry (live_bits (task_in (view_of state) at)) (frozen_bits (task_in (view_of state) at)) (place_in (view_of state) at row)
placed_at state at row sound exists within =
    let is : IsPlacedTask state.geometry (task_in (view_of state) at) =
    view_fits state sound at no_placed_task (subst (λ n. at < n) (sym (length_map placed_task state.outlines)) exists) in
    is.places row no_place within

-- the register of a row's partition is there
pub cell_in : (geometry : Geometry) (dims : Dims) (bits : ℕ) (frozen : Option ℕ) (place : Placed) (side : Side) (index : ℕ) → IsPlaced geometry bits frozen place
    → IsShaped geometry dims → index < 2 ^ (block_of side place).bits → InFile dims place.array ((block_of side place).base + index)
cell_in geometry dims bits frozen place side index one shaped inside =
    let in_array : LiesIn geometry place.array (block_of side place) = lies geometry bits frozen place side one in
    let most : 2 ^ bits_of geometry place.array ≤ 2 ^ greatest_bits geometry = pow_mono (bits_within geometry place.array) in
    let same : 2 ^ dims.bits ≡ 2 ^ greatest_bits geometry = ap (λ b. 2 ^ b) shaped.bits in
    record { in_arrays = omega (arith, one.array, shaped.arrays); in_array = omega (arith, in_array, most, same, inside) }

pub cell_small : (geometry : Geometry) (dims : Dims) (array addr : ℕ) → IsGeometry geometry → IsShaped geometry dims → InFile dims array addr → addr < 2 ^ 20
cell_small geometry dims array addr good shaped is =
    let most : 2 ^ greatest_bits geometry ≤ 2 ^ 20 = pow_mono (greatest_at_most geometry good) in
    let same : 2 ^ dims.bits ≡ 2 ^ greatest_bits geometry = ap (λ b. 2 ^ b) shaped.bits in
    omega (arith, is.in_array, most, same)

-- ---- a packet

pub packet_over : (now : SwitchState) (rules : Rules) (packet : Packet) (contents new_contents : Option Contents) (list new_list : Option (List Call))
    → rules.geometry ≡ now.geometry → rules.hash_key ≡ now.hash_key
    → map placed_table rules.tables ≡ tables_for now.geometry (all_spots now.outlines)
    → rules.groups ≡ groups_for now.geometry (all_uses now.geometry now.outlines)
    → IsPipe rules → MakesOver (λ c. calls_over rules c packet) contents new_contents list new_list
    → PassesOver now packet contents new_contents list new_list
packet_over now rules packet contents new_contents list new_list e f tables groups pipe over =
    let st : State = record {
      geometry = now.geometry;
      hash_key = now.hash_key;
      pools = pools_for now.geometry (all_held now.outlines);
      tables = rules.tables;
      groups = rules.groups;
    } in
    let same : rules ≡ rules_in st = ap₂ (λ g k. rules_of g k rules.tables rules.groups) e f in
    packet_stands now.outlines st packet contents new_contents list new_list
    (subst IsPipe same pipe)
    (record { pools = refl; tables = tables; groups = groups })
    (subst (λ (r : Rules). MakesOver (λ c. calls_over r c packet) contents new_contents list new_list) same over)
