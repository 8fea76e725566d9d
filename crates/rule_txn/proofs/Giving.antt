-- Leases where the placement found regions.
use Rattle.std.proofs.Common.{◌≡◌, ℕ, ◌+◌, ◌<◌, ◌≤◌, ◌^◌, Bool, true, false, cond, List, [], ◌∷◌, map, refl, ap, sym, ◌∙◌, subst, arith}
use Rattle.std.specs.Prelude.{◌&&◌, nat_le, Option, None, Some, IsSome, option_map}
use Rattle.std.specs.List.{All, range_with_len}
use Rattle.std.proofs.lemmas.Bool.Decides.{nat_tests}
use Rattle.std.proofs.lemmas.List.Elements.{All-head, All-tail, All-map, All-weaker}
use Rattle.std.proofs.Math.Pow.{pow_mono}
use Rattle.addr_translate.specs.Blocks.{Block}
use Rattle.addr_translate.specs.Geometry.{Geometry, array_count, bits_of, least_bits_of, greatest_bits}
use Rattle.addr_translate.proofs.GeometryLemmas.{bits_within}
use Rattle.partition_pool.specs.Pools.{PoolState, least_bits}
use Rattle.partition_pool.specs.Regions.{free_block}
use Rattle.reg_file.specs.Registers.{Dims, InRange}
use Rattle.match_table.specs.Tables.{EntryTable}
use Rattle.pipe_core.specs.Rules.{IsShaped, no_table}
use Rattle.placer.specs.Sights.{region_in, region_for}
use Rattle.placer.specs.Placement.{pool_at, placed, sight_in}
use Rattle.placer.proofs.SightLemmas.{placed_same}
use Rattle.sketch_defs.specs.Tasks.{Sketch}
use Rattle.switch_model.specs.Records.{Row, Outline}
use Rattle.switch_model.specs.Sights.{Holding, all_held, all_spots, live_holding, taken_on, starts_before, by_place, sight_of}
use Rattle.switch_model.specs.Soundness.{IsRow}
use Rattle.switch_model.proofs.SightLemmas.{taken_seen, rules_seen}
use Rattle.rule_txn.specs.State.{State, Lent, Gives, free_in}
use Rattle.rule_txn.specs.Rows.{next_lease}
use Rattle.rule_txn.specs.Switch.{Stands, pool_for, pools_for, groups_for}
use Rattle.rule_txn.specs.Stages.{ArePools}
use Rattle.rule_txn.specs.Fills.{holding_of, AreInFile}
use Rattle.rule_txn.proofs.Places.{get_or-map}
use Rattle.rule_txn.proofs.Pools.{pools_at, length-pools, held_of}
use Rattle.rule_txn.proofs.Tables.{table_is}
use Rattle.rule_txn.proofs.Counts.{IsHeld}

region_parts : (array_bits least : ℕ) (taken : List Block) (bits : ℕ) (region : Block) → region_in array_bits least taken bits ≡ Some region
    → (least ≤ bits) × (bits ≤ array_bits) × (free_block taken array_bits bits ≡ Some region)
region_parts array_bits least taken bits region found = by (nat_le least bits) (nat_le bits array_bits) refl refl found
  where
    by : (a b : Bool) → nat_le least bits ≡ a → nat_le bits array_bits ≡ b → (cond (a && b) (free_block taken array_bits bits) None) ≡ Some region
        → (least ≤ bits) × (bits ≤ array_bits) × (free_block taken array_bits bits ≡ Some region)
    by true true e f is = (grind (arith, nat_tests), grind (arith, nat_tests), is)
    by true false e f is = absurd (cc)
    by false b e f is = absurd (cc)

abbrev pub lent : ℕ → Block → Lent
lent array region = record { pool = array; region = region }

-- an array of which the placement found a region gives it
pub gives_region : (geometry : Geometry) (os : List Outline) (pools : List PoolState) (bits a : ℕ) (region : Block) → pools ≡ pools_for geometry (all_held os)
    → a < array_count geometry → region_for geometry (sight_of geometry os) bits a ≡ Some region
    → Gives bits pools a × (next_lease bits pools (Some a) ≡ Some (lent a region))
gives_region geometry os pools bits a region e lt found =
    let was : pool_at pools a ≡ pool_for geometry (all_held os) a = pools_at geometry (all_held os) pools a e lt in
    let seen = taken_seen geometry os a lt in
    let parts = region_parts (bits_of geometry a) (least_bits_of geometry a) (taken_on (all_held os) a) bits region
    (ap (λ taken. region_in (bits_of geometry a) (least_bits_of geometry a) taken bits) (sym seen) ∙ found) in
    let free : free_in (pool_at pools a) bits ≡ Some region = ap (λ (p : PoolState). free_in p bits) was ∙ parts.2 in
    let long = length-pools geometry (all_held os) pools e in (
      record {
        exists = omega (arith, lt, long);
        number = ap (λ (p : PoolState). p.number) was;
        least = subst (λ (p : PoolState). least_bits p ≤ bits) (sym was) parts.0;
        most = subst (λ (p : PoolState). bits ≤ p.bits) (sym was) parts.1;
        free = subst (λ (o : Option Block). IsSome o) (sym free) refl;
      },
      ap (option_map (λ (r : Block). lent a r)) free,
    )

-- ---- what a stage is asked before a plan

pub are_pools : (geometry : Geometry) (held : List Holding) (pools : List PoolState) → pools ≡ pools_for geometry held → ArePools geometry pools
unfolding pools_for
are_pools geometry held pools e = record {
  count = length-pools geometry held pools e;
  bits = λ a lt. ap (λ (p : PoolState). p.bits) (pools_at geometry held pools a e lt);
  split = subst (All (λ (p : PoolState). p.split ≡ geometry.split)) (sym e)
      (All-map (λ (p : PoolState). p.split ≡ geometry.split) (pool_for geometry held) (range_with_len 0 (array_count geometry)) (λ k d lt. refl));
}

-- a stage sees what the tasks show, but for the order of entries
taken_same : (geometry : Geometry) (held : List Holding) (xs : List ℕ) → map (λ (p : PoolState). p.taken) (map (pool_for geometry held) xs) ≡ map (taken_on held) xs
taken_same geometry held [] = refl
taken_same geometry held (x ∷ xs) = ap (λ ts. taken_on held x ∷ ts) (taken_same geometry held xs)

pub plan_same : (os : List Outline) (state : State) (task : Sketch) (bits : ℕ) → Stands os state
    → placed state.geometry (sight_in state.tables state.groups state.pools) task bits ≡ placed state.geometry (sight_of state.geometry os) task bits
unfolding sight_of pools_for groups_for
plan_same os state task bits stands =
    let geometry = state.geometry in
    placed_same geometry task bits (sight_in state.tables state.groups state.pools) (sight_of geometry os) starts_before
    (λ array within.
    ap by_place (get_or-map (λ (t : EntryTable). t.entries) state.tables array no_table)
    ∙ ap (λ (t : EntryTable). t.entries) (table_is geometry (all_spots os) state.tables array stands.tables within)
    ∙ ap by_place (sym (rules_seen geometry os array within)))
    stands.groups
    (ap (map (λ (p : PoolState). p.taken)) stands.pools ∙ taken_same geometry (all_held os) (range_with_len 0 (array_count geometry)))

-- ---- regions lie in the file

in_file : (geometry : Geometry) (dims : Dims) (h : Holding) → IsShaped geometry dims → IsHeld geometry h → InRange dims h.array h.region.base (2 ^ h.region.bits)
in_file geometry dims h shaped is =
    let part = is.part in
    let inside = part.inside in
    let more : 2 ^ bits_of geometry h.array ≤ 2 ^ greatest_bits geometry = pow_mono {i = bits_of geometry h.array} {j = greatest_bits geometry} (bits_within geometry h.array) in
    record {
      in_arrays = subst (λ n. h.array < n) (sym shaped.arrays) is.array;
      in_array = subst (λ n. h.region.base + 2 ^ h.region.bits ≤ 2 ^ n) (sym shaped.bits) (omega (arith, inside, more));
    }

pub all_in_file : (geometry : Geometry) (dims : Dims) (leases : List (Option Lent)) → IsShaped geometry dims → All (IsHeld geometry) (held_of leases) → AreInFile dims leases
all_in_file geometry dims [] shaped are = tt
all_in_file geometry dims (None ∷ rest) shaped are = (tt, all_in_file geometry dims rest shaped are)
all_in_file geometry dims (Some lease ∷ rest) shaped are = (
  in_file geometry dims (holding_of lease) shaped (All-head (IsHeld geometry) (holding_of lease) (held_of rest) are),
  all_in_file geometry dims rest shaped (All-tail (IsHeld geometry) (holding_of lease) (held_of rest) are),
)

pub live_held : (geometry : Geometry) (o : Outline) (rows : List Row) → All (IsRow geometry o) rows → All (IsHeld geometry) (map live_holding rows)
live_held geometry o rows are =
    All-map (IsHeld geometry) live_holding rows
    (All-weaker (IsRow geometry o) (λ (row : Row). IsHeld geometry (live_holding row)) (λ row is. record { array = is.array; part = is.live }) rows are)
