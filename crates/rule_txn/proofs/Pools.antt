-- Regions that are taken of pools and given back.
use Rattle.std.proofs.Common.{◌≡◌, ◌≢◌, ℕ, ◌<◌, ◌≤◌, true, List, [], ◌∷◌, ◌++◌, length, get_or, set, refl, ap, sym, ◌∙◌, subst, arith, map, append_assoc, length-set, get_or-set_other}
use Rattle.std.specs.Prelude.{Option, None, Some, IsSome, option_map, Contains}
use Rattle.std.specs.List.{All, AllPairs}
use Rattle.std.proofs.lemmas.Bool.Decides.{nat_tests}
use Rattle.std.proofs.lemmas.List.Elements.{All-head, All-tail}
use Rattle.std.proofs.lemmas.List.FromFn.{length-map-range_with_len}
use Rattle.std.proofs.Math.Pow.{pow_mono}
use Rattle.addr_translate.specs.Blocks.{Block}
use Rattle.addr_translate.specs.Geometry.{Geometry, array_count, bits_of}
use Rattle.partition_pool.specs.Pools.{PoolState, least_bits}
use Rattle.partition_pool.specs.Regions.{put_by_base, without, are_apart}
use Rattle.partition_pool.proofs.Orders.{contains_put}
use Rattle.placer.specs.Placement.{no_pool, pool_at}
use Rattle.switch_model.specs.Sights.{Holding}
use Rattle.switch_model.specs.Soundness.{ShareNone}
use Rattle.switch_model.proofs.ListLemmas.{Around, around, pairs_head, pairs_tail}
use Rattle.rule_txn.specs.State.{there, Lent, Gives, HasGiven, free_in, with_region, less_region}
use Rattle.rule_txn.specs.Rows.{next_lease, with_lease, fresh_leases, taken, given, CanTake, CanGive}
use Rattle.rule_txn.specs.Switch.{pool_for, pools_for}
use Rattle.rule_txn.specs.Fills.{holding_of}
use Rattle.rule_txn.proofs.Keys.{without_put}
use Rattle.rule_txn.proofs.Places.{off_place, on_place, map_set, at_range}

abbrev pub array_of : Holding → ℕ
array_of h = h.array

abbrev pub region_of : Holding → Block
region_of h = h.region

abbrev pub base_of : Block → ℕ
base_of b = b.base

abbrev pub Differ : Holding → Holding → Type 0
Differ one two = one.array ≡ two.array → one.region.base ≢ two.region.base

pub apart_differ : (one two : Block) → are_apart one two ≡ true → one.base ≢ two.base
apart_differ one two h e =
    let some = pow_mono {i = 0} {j = one.bits} (omega arith) in
    let more = pow_mono {i = 0} {j = two.bits} (omega arith) in
    absurd (grind (arith, nat_tests))

pub share_differ : (one two : Holding) → ShareNone one two → Differ one two
share_differ one two share same = apart_differ one.region two.region (share same)

-- ---- the pools of regions

pub pools_at : (geometry : Geometry) (held : List Holding) (pools : List PoolState) (a : ℕ) → pools ≡ pools_for geometry held → a < array_count geometry
    → pool_at pools a ≡ pool_for geometry held a
unfolding pools_for
pools_at geometry held pools a e lt = ap (λ ps. pool_at ps a) e ∙ at_range no_pool (pool_for geometry held) (array_count geometry) a lt

pub length-pools : (geometry : Geometry) (held : List Holding) (pools : List PoolState) → pools ≡ pools_for geometry held → length pools ≡ array_count geometry
unfolding pools_for
length-pools geometry held pools e = ap length e ∙ length-map-range_with_len (pool_for geometry held) 0 (array_count geometry)

with_taken : Geometry → ℕ → List Block → PoolState
unfolding pools_for
with_taken geometry a taken_ = record { number = a; bits = bits_of geometry a; split = geometry.split; taken = taken_ }

-- one region more
pub taken_one : (geometry : Geometry) (front back : List Holding) (h : Holding) (pools : List PoolState) → pools ≡ pools_for geometry (front ++ back)
    → h.array < array_count geometry → All (λ x. Differ x h) front → with_region pools h.array h.region ≡ pools_for geometry (front ++ h ∷ back)
unfolding pools_for with_taken
taken_one geometry front back h pools e lt differ =
    let old = pool_for geometry (front ++ back) in
    let new = pool_for geometry (front ++ h ∷ back) in
    let was : pool_at pools h.array ≡ old h.array = pools_at geometry (front ++ back) pools h.array e lt in
    let here : record (old h.array) { taken = put_by_base h.region (old h.array).taken } ≡ new h.array =
    ap (with_taken geometry h.array) (sym (on_place array_of region_of base_of front back h differ)) in
    ap (λ (p : PoolState). set pools h.array (record p { taken = put_by_base h.region p.taken })) was
    ∙ ap (set pools h.array) here
    ∙ ap (λ ps. set ps h.array (new h.array)) e
    ∙ map_set no_pool old new (array_count geometry) h.array lt (λ j ne. ap (with_taken geometry j) (sym (off_place array_of region_of base_of front back h j (λ same. ne (sym same)))))

-- one region less
pub given_one : (geometry : Geometry) (front back : List Holding) (h : Holding) (pools : List PoolState) → pools ≡ pools_for geometry (front ++ h ∷ back)
    → h.array < array_count geometry → All (λ x. Differ x h) front
    → HasGiven pools h.array h.region × (less_region pools h.array h.region ≡ pools_for geometry (front ++ back))
unfolding pools_for with_taken
given_one geometry front back h pools e lt differ =
    let old = pool_for geometry (front ++ h ∷ back) in
    let new = pool_for geometry (front ++ back) in
    let was : pool_at pools h.array ≡ old h.array = pools_at geometry (front ++ h ∷ back) pools h.array e lt in
    let more : (old h.array).taken ≡ put_by_base h.region (new h.array).taken = on_place array_of region_of base_of front back h differ in
    let here : record (old h.array) { taken = without h.region (old h.array).taken } ≡ new h.array =
    ap (with_taken geometry h.array) (ap (without h.region) more ∙ without_put h.region (new h.array).taken) in
    let long = length-pools geometry (front ++ h ∷ back) pools e in (
      record {
        exists = omega (arith, lt, long);
        number = ap (λ (p : PoolState). p.number) was;
        taken = subst (λ bs. Contains bs h.region) (sym (ap (λ (p : PoolState). p.taken) was ∙ more)) (contains_put h.region (new h.array).taken);
      },
      ap (λ (p : PoolState). set pools h.array (record p { taken = without h.region p.taken })) was
          ∙ ap (set pools h.array) here
          ∙ ap (λ ps. set ps h.array (new h.array)) e
          ∙ map_set no_pool old new (array_count geometry) h.array lt (λ j ne. ap (with_taken geometry j) (off_place array_of region_of base_of front back h j (λ same. ne (sym same)))),
    )

-- ---- leases that are taken and given back, one after another

abbrev pub held_of : List (Option Lent) → List Holding
held_of leases = map holding_of (there leases)

abbrev pub Exists : Geometry → Holding → Type 0
Exists geometry h = h.array < array_count geometry

pub takes : (geometry : Geometry) (front back : List Holding) (leases : List (Option Lent)) (pools : List PoolState) → pools ≡ pools_for geometry (front ++ back)
    → All (Exists geometry) (held_of leases) → AllPairs Differ (front ++ (held_of leases ++ back))
    → taken leases pools ≡ pools_for geometry (front ++ (held_of leases ++ back))
takes geometry front back [] pools e within differ = e
takes geometry front back (None ∷ rest) pools e within differ = takes geometry front back rest pools e within differ
takes geometry front back (Some lease ∷ rest) pools e within differ =
    let h = holding_of lease in
    let near : Around Differ front (held_of rest ++ back) h = around Differ front (held_of rest ++ back) h differ in
    let now = taken_one geometry front back h pools e (All-head (Exists geometry) h (held_of rest) within) near.before in
    takes geometry (front ++ h ∷ []) back rest (with_region pools lease.pool lease.region)
    (now ∙ ap (pools_for geometry) (sym (append_assoc front (h ∷ []) back)))
    (All-tail (Exists geometry) h (held_of rest) within)
    (subst (AllPairs Differ) (sym (append_assoc front (h ∷ []) (held_of rest ++ back))) differ)
    ∙ ap (pools_for geometry) (append_assoc front (h ∷ []) (held_of rest ++ back))

pub gives : (geometry : Geometry) (front back : List Holding) (leases : List (Option Lent)) (pools : List PoolState)
    → pools ≡ pools_for geometry (front ++ (held_of leases ++ back)) → All (Exists geometry) (held_of leases) → AllPairs Differ (front ++ (held_of leases ++ back))
    → CanGive pools leases × (given leases pools ≡ pools_for geometry (front ++ back))
gives geometry front back [] pools e within differ = (tt, e)
gives geometry front back (None ∷ rest) pools e within differ = let more = gives geometry front back rest pools e within differ in ((tt, more.0), more.1)
gives geometry front back (Some lease ∷ rest) pools e within differ =
    let h = holding_of lease in
    let near : Around Differ front (held_of rest ++ back) h = around Differ front (held_of rest ++ back) h differ in
    let now = given_one geometry front (held_of rest ++ back) h pools e (All-head (Exists geometry) h (held_of rest) within) near.before in
    let more = gives geometry front back rest (less_region pools lease.pool lease.region) now.1 (All-tail (Exists geometry) h (held_of rest) within) near.others in
    ((now.0, more.0), more.1)

-- ---- leases of different arrays

abbrev pub IsOn : ℕ → Option Lent → Type 0
IsOn a None = Unit {0}
IsOn a (Some lease) = lease.pool ≡ a

pub next_on : (bits : ℕ) (pools : List PoolState) (a : ℕ) → IsOn a (next_lease bits pools (Some a))
next_on bits pools a = by (free_in (pool_at pools a) bits)
  where
    by : (o : Option Block) → IsOn a (option_map (λ (region : Block). (let l : Lent = record { pool = a; region = region } in l)) o)
    by None = tt
    by (Some region) = refl

other_pool : (pools : List PoolState) (a : ℕ) (x : Option Lent) → IsOn a x → (b : ℕ) → a ≢ b → pool_at (with_lease pools x) b ≡ pool_at pools b
other_pool pools a None on b ne = refl
other_pool pools a (Some lease) on b ne =
    get_or-set_other pools lease.pool b (record (pool_at pools lease.pool) { taken = put_by_base lease.region (pool_at pools lease.pool).taken }) no_pool
    (λ same. ne (sym on ∙ sym same))

length-with : (pools : List PoolState) (x : Option Lent) → length (with_lease pools x) ≡ length pools
length-with pools None = refl
length-with pools (Some lease) = length-set pools lease.pool (record (pool_at pools lease.pool) { taken = put_by_base lease.region (pool_at pools lease.pool).taken })

gives_still : (bits : ℕ) (pools : List PoolState) (a : ℕ) (x : Option Lent) → IsOn a x → (b : ℕ) → a ≢ b → Gives bits pools b → Gives bits (with_lease pools x) b
gives_still bits pools a x on b ne g =
    let same : pool_at (with_lease pools x) b ≡ pool_at pools b = other_pool pools a x on b ne in
    record {
      exists = subst (λ n. b < n) (sym (length-with pools x)) g.exists;
      number = subst (λ (p : PoolState). p.number ≡ b) (sym same) g.number;
      least = subst (λ (p : PoolState). least_bits p ≤ bits) (sym same) g.least;
      most = subst (λ (p : PoolState). bits ≤ p.bits) (sym same) g.most;
      free = subst (λ (p : PoolState). IsSome (free_in p bits)) (sym same) g.free;
    }

next_still : (bits : ℕ) (pools : List PoolState) (a : ℕ) (x : Option Lent) → IsOn a x → (rest : List (Option ℕ)) → All (λ b. a ≢ b) (there rest)
    → map (next_lease bits (with_lease pools x)) rest ≡ map (next_lease bits pools) rest
next_still bits pools a x on [] ne = refl
next_still bits pools a x on (None ∷ rest) ne = ap (λ xs. None ∷ xs) (next_still bits pools a x on rest ne)
next_still bits pools a x on (Some b ∷ rest) ne =
    ap (λ y. y ∷ map (next_lease bits (with_lease pools x)) rest)
    (ap (λ p. option_map (λ (region : Block). (let l : Lent = record { pool = b; region = region } in l)) (free_in p bits))
    (other_pool pools a x on b (All-head (λ c. a ≢ c) b (there rest) ne)))
    ∙ ap (λ xs. next_lease bits pools (Some b) ∷ xs) (next_still bits pools a x on rest (All-tail (λ c. a ≢ c) b (there rest) ne))

-- arrays that differ give in turn what they give at once
pub can_take : (bits : ℕ) (pools : List PoolState) (arrays : List (Option ℕ)) → All (Gives bits pools) (there arrays) → AllPairs (λ a b. a ≢ b) (there arrays)
    → CanTake bits pools arrays × (fresh_leases bits pools arrays ≡ map (next_lease bits pools) arrays)
can_take bits pools [] give apart = (tt, refl)
can_take bits pools (None ∷ rest) give apart = let more = can_take bits pools rest give apart in ((tt, more.0), ap (λ xs. None ∷ xs) more.1)
can_take bits pools (Some a ∷ rest) give apart =
    let x = next_lease bits pools (Some a) in
    let on : IsOn a x = next_on bits pools a in
    let heads : All (λ b. a ≢ b) (there rest) = pairs_head (λ a b. a ≢ b) a (there rest) apart in
    let later : All (Gives bits pools) (there rest) = All-tail (Gives bits pools) a (there rest) give in
    let more = can_take bits (with_lease pools x) rest
    (λ k d lt. gives_still bits pools a x on (get_or (there rest) k d) (heads k d lt) (later k d lt))
    (pairs_tail (λ a b. a ≢ b) a (there rest) apart) in
    ((All-head (Gives bits pools) a (there rest) give, more.0), ap (λ xs. x ∷ xs) (more.1 ∙ next_still bits pools a x on rest heads))
