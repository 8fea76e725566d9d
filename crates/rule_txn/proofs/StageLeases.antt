-- Leases that were taken one after another can be given back, the last first.
use Rattle.std.proofs.Common.{◌≡◌, ℕ, ◌<◌, Bool, true, false, cond, List, [], ◌∷◌, length, set, zero, suc, length-set, refl, ap, sym, ◌∙◌, subst, arith}
use Rattle.std.specs.Prelude.{nat_le, Contains, Option, None, Some, option_map}
use Rattle.std.proofs.lemmas.Bool.{false≢true}
use Rattle.std.proofs.lemmas.Bool.Decides.{nat_tests}
use Rattle.std.proofs.lemmas.List.{get_or-set_same, set-get_or}
use Rattle.addr_translate.specs.Blocks.{Block}
use Rattle.partition_pool.specs.Pools.{PoolState}
use Rattle.partition_pool.specs.Regions.{is_block, put_by_base, without}
use Rattle.partition_pool.proofs.Orders.{is_block_true, is_block_same, contains_put}
use Rattle.placer.specs.Placement.{pool_at, no_pool}
use Rattle.rule_txn.specs.State.{Lent, HasGiven, free_in, with_region, less_region}
use Rattle.rule_txn.specs.Rows.{next_lease, with_lease, less_lease, fresh_leases, taken, given_back, GivesAt, CanTake, IsLent, CanGiveBack}

-- ---- one region

first_gone : (region : Block) (others : List Block) → without region (region ∷ others) ≡ others
first_gone region others =
    ap (λ (b : Bool). cond b others (region ∷ without region others)) (is_block_same region region refl)

other_block : (region other : Block) → nat_le region.base other.base ≡ false → is_block other region ≡ false
other_block region other later = by (is_block other region) refl
  where
    by : (b : Bool) → is_block other region ≡ b → b ≡ false
    by true e =
        let base = ap (λ (x : Block). x.base) (is_block_true other region e) in
        absurd (false≢true (grind (arith, nat_tests)))
    by false e = refl

pub without_put : (regions : List Block) (region : Block) → without region (put_by_base region regions) ≡ regions
without_put [] region = first_gone region []
without_put (other ∷ others) region = by (without_put others region) (nat_le region.base other.base) refl
  where
    by : without region (put_by_base region others) ≡ others
        → (b : Bool) → nat_le region.base other.base ≡ b
        → without region (cond b (region ∷ other ∷ others) (other ∷ put_by_base region others)) ≡ other ∷ others
    by rest true e = first_gone region (other ∷ others)
    by rest false e =
        ap (λ (b : Bool). cond b (put_by_base region others) (other ∷ without region (put_by_base region others)))
        (other_block region other e)
        ∙ ap (λ (xs : List Block). other ∷ xs) rest

set_twice : {X : Type 0} (xs : List X) (i : ℕ) (a b : X) → set (set xs i a) i b ≡ set xs i b
set_twice [] i a b = refl
set_twice (x ∷ xs) zero a b = refl
set_twice (x ∷ xs) (suc i) a b = ap (λ ys. x ∷ ys) (set_twice xs i a b)

-- ---- one pool

-- the pool after a region was taken
pub pool_after : (pools : List PoolState) (array : ℕ) (region : Block) → array < length pools
    → pool_at (with_region pools array region) array ≡ record (pool_at pools array) { taken = put_by_base region (pool_at pools array).taken }
pool_after pools array region lt =
    get_or-set_same pools array (record (pool_at pools array) { taken = put_by_base region (pool_at pools array).taken }) no_pool lt

pub less_with : (pools : List PoolState) (array : ℕ) (region : Block) → array < length pools
    → less_region (with_region pools array region) array region ≡ pools
less_with pools array region lt =
    let pool = pool_at pools array in
    let mid : PoolState = record pool { taken = put_by_base region pool.taken } in
    ap (λ (p : PoolState). set (set pools array mid) array (record p { taken = without region p.taken })) (pool_after pools array region lt)
    ∙ set_twice pools array mid (record pool { taken = without region (put_by_base region pool.taken) })
    ∙ ap (λ (bs : List Block). set pools array (record pool { taken = bs })) (without_put pool.taken region)
    ∙ set-get_or pools array no_pool

pub has_given : (pools : List PoolState) (array : ℕ) (region : Block) → array < length pools → (pool_at pools array).number ≡ array
    → HasGiven (with_region pools array region) array region
has_given pools array region lt number =
    let pool = pool_at pools array in
    let after = pool_after pools array region lt in
    record {
      exists = subst (λ (n : ℕ). array < n) (sym (length-set pools array (record pool { taken = put_by_base region pool.taken }))) lt;
      number = ap (λ (p : PoolState). p.number) after ∙ number;
      taken = subst (λ (p : PoolState). Contains p.taken region) (sym after) (contains_put region pool.taken);
    }

-- ---- a lease that was taken

record WasTaken (pools : List PoolState) (lease : Option Lent) : Type 0 where
  lent : IsLent (with_lease pools lease) lease
  back : less_lease (with_lease pools lease) lease ≡ pools

from_region : (pools : List PoolState) (array : ℕ) (region : Option Block) → array < length pools → (pool_at pools array).number ≡ array
    → WasTaken pools (option_map (λ (b : Block). (let lease : Lent = record { pool = array; region = b } in lease)) region)
from_region pools array None lt number = record { lent = tt; back = refl }
from_region pools array (Some region) lt number = record { lent = has_given pools array region lt number; back = less_with pools array region lt }

was_taken : (bits : ℕ) (pools : List PoolState) (array : Option ℕ) → GivesAt bits pools array → WasTaken pools (next_lease bits pools array)
was_taken bits pools None gives = record { lent = tt; back = refl }
was_taken bits pools (Some array) gives = from_region pools array (free_in (pool_at pools array) bits) gives.exists gives.number

-- ---- all four

pub record AllTaken (pools : List PoolState) (leases : List (Option Lent)) : Type 0 where
  pub can : CanGiveBack (taken leases pools) leases
  pub back : given_back leases (taken leases pools) ≡ pools

pub all_taken : (bits : ℕ) (pools : List PoolState) (arrays : List (Option ℕ)) → CanTake bits pools arrays
    → AllTaken pools (fresh_leases bits pools arrays)
all_taken bits pools [] can = record { can = tt; back = refl }
all_taken bits pools (array ∷ rest) can =
    let lease = next_lease bits pools array in
    let after = with_lease pools lease in
    let leases = fresh_leases bits after rest in
    let others = all_taken bits after rest can.1 in
    let one = was_taken bits pools array can.0 in
    record {
      can = (others.can, subst (λ (ps : List PoolState). IsLent ps lease) (sym others.back) one.lent);
      back = ap (λ (ps : List PoolState). less_lease ps lease) others.back ∙ one.back;
    }
