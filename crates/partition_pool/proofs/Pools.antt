-- A pool before and after a block is taken or given back.
use Rattle.std.proofs.Common.{◌≡◌, ℕ, zero, suc, ◌+◌, ◌-◌, ◌*◌, ◌/◌, ◌<◌, ◌≤◌, ◌^◌, Bool, true, false, cond, List, [], ◌∷◌, ◌++◌, length, replicate, take, drop, refl, ap, sym, ◌∙◌, subst, arith, map, ⊎_elim}
use Rattle.std.specs.Prelude.{◌&&◌, Contains, slice_index, slice_set, Option, None, Some, IfSome}
use Rattle.std.specs.List.{find, range_with_len}
use Rattle.std.proofs.Math.Nat.{mul-le-mul_right, mul-mod_left}
use Rattle.std.proofs.Math.Pow.{pow_mono}
use Rattle.std.proofs.lemmas.List.{get_or-replicate}
use Rattle.std.proofs.lemmas.Bool.{cases_lt}
use Rattle.std.proofs.lemmas.Nat.{pow_pos, pow_below, shr_split, shr_below, shl-shr}
use Rattle.std.proofs.Math.Seq.{take-append_seam}
use Rattle.std.proofs.lemmas.List.Elements.{All-nil}
use Rattle.addr_translate.specs.Blocks.{Block, IsAligned}
use Rattle.partition_pool.specs.Regions.{IsPartition, is_free, block_at, put_by_base, free_block, ArePartitions, without}
use Rattle.partition_pool.specs.Kept.{blocks_from, HasLevels, Becomes, IsKept, place, Marks}
use Rattle.partition_pool.proofs.Changes.{whole_pow, lies_in_range, node_within}
use Rattle.partition_pool.proofs.Levels.{place_inside}
use Rattle.partition_pool.proofs.Orders.{is_inside, aligned_is, put_in_order, without_in_order, few_in_order, length-put_by_base, take_becomes, give_becomes, all_put, all_without}
use Rattle.partition_pool.proofs.Starts.{start, put_start, free_start, is_start, drop_start, blocks_none}

pub whole_again : (n : ℕ) (new old : List ℕ) → length new ≡ n → take n (new ++ drop (length new) old) ≡ new
whole_again n new old e = ap (λ k. take k (new ++ drop (length new) old)) (sym e)
    ∙ take-append_seam new (drop (length new) old)

-- where a partition lies
pub record IsSpot (array_bits least : ℕ) (region : Block) : Type 0 where
  pub big : least ≤ region.bits
  pub most : region.bits ≤ array_bits
  pub at : region.base / 2 ^ region.bits < 2 ^ (array_bits - region.bits)
  pub first : region.base / 2 ^ least < 2 ^ (array_bits - least)
  pub is_first : start least (0 + region.base / 2 ^ least) region.bits ≡ region
  pub is_at : block_at region.bits (region.base / 2 ^ region.bits) ≡ region

below_at : (array_bits bits base : ℕ) → bits ≤ array_bits → base < 2 ^ array_bits
    → base / 2 ^ bits < 2 ^ (array_bits - bits)
below_at array_bits bits base le lt =
    let e : array_bits ≡ array_bits - bits + bits = omega arith in
    let P : ℕ → Type 0 = λ n. base < 2 ^ n in
    shr_below base (array_bits - bits) bits (subst P e lt)

base_by_least : (least : ℕ) (region : Block) → IsAligned region.base region.bits → least ≤ region.bits
    → region.base / 2 ^ least * 2 ^ least ≡ region.base
base_by_least least region is le =
    let e : region.base / 2 ^ region.bits * 2 ^ region.bits ≡ region.base =
    omega (arith, shr_split region.base region.bits, is.multiple) in
    let w = whole_pow least region.bits le in
    let m : ℕ = region.base / 2 ^ region.bits in
    let f : region.base ≡ region.base / 2 ^ region.bits * 2 ^ (region.bits - least) * 2 ^ least = sym e
    ∙ ap (λ n. region.base / 2 ^ region.bits * n) w ∙ omega arith in
    let g : region.base / 2 ^ least ≡ region.base / 2 ^ region.bits * 2 ^ (region.bits - least) =
    ap (λ n. n / 2 ^ least) f ∙ shl-shr (region.base / 2 ^ region.bits * 2 ^ (region.bits - least)) least in
    ap (λ n. n * 2 ^ least) g ∙ sym f

pub spot : (array_bits least : ℕ) (region : Block) → IsAligned region.base region.bits → least ≤ region.bits
    → region.base + 2 ^ region.bits ≤ 2 ^ array_bits → IsSpot array_bits least region
spot array_bits least region is big inside =
    let some = pow_pos region.bits in
    let most : region.bits ≤ array_bits =
    ⊎_elim (λ (h : array_bits < region.bits). let p = pow_below array_bits region.bits h in
    absurd (omega arith)) (λ (h : region.bits ≤ array_bits). h) (cases_lt array_bits region.bits) in
    let z : 0 + region.base / 2 ^ least ≡ region.base / 2 ^ least = omega arith in
    let made : ℕ → Block = λ m. record { base = m; bits = region.bits } in
    record {
      big = big;
      most = most;
      at = below_at array_bits region.bits region.base most (omega arith);
      first = below_at array_bits least region.base (omega arith) (omega arith);
      is_first = ap made (ap (λ n. n * 2 ^ least) z ∙ base_by_least least region is big);
      is_at = aligned_is region is;
    }

-- where a partition of the pool's sizes lies
pub size_spot : (array_bits least split : ℕ) (region : Block) → IsAligned region.base region.bits
    → least ≡ array_bits - split → array_bits - split ≤ region.bits
    → region.base + 2 ^ region.bits ≤ 2 ^ array_bits → IsSpot array_bits least region
size_spot array_bits least split region is least_is large inside =
    spot array_bits least region is (omega arith) inside

-- where a taken region lies
pub taken_spot : (array_bits least : ℕ) (taken : List Block) (region : Block)
    → IsAligned region.base region.bits
    → ArePartitions least array_bits taken → Contains taken region → IsSpot array_bits least region
taken_spot array_bits least taken region is partitions held =
    let lies = is_inside least 0 (2 ^ array_bits) region taken partitions.order held in
    spot array_bits least region is lies.big lies.below

pub put_blocks : (array_bits least : ℕ) (starts : List ℕ) (region : Block) → IsSpot array_bits least region
    → length starts ≡ 2 ^ (array_bits - least) → is_free (blocks_from least 0 starts) region ≡ true
    → blocks_from least 0 (slice_set starts (region.base / 2 ^ least) (suc region.bits))
    ≡ put_by_base region (blocks_from least 0 starts)
put_blocks array_bits least starts region is places free =
    let lt : region.base / 2 ^ least < length starts = (let f = is.first in omega arith) in
    put_start least 0 region.bits starts (region.base / 2 ^ least) lt
    (free_start least 0 (region.base / 2 ^ least) region.bits starts lt
    (ap (is_free (blocks_from least 0 starts)) is.is_first ∙ free))
    ∙ ap (λ (b : Block). put_by_base b (blocks_from least 0 starts)) is.is_first

pub drop_blocks : (array_bits least : ℕ) (starts : List ℕ) (region : Block) → IsSpot array_bits least region
    → length starts ≡ 2 ^ (array_bits - least) → Contains (blocks_from least 0 starts) region
    → blocks_from least 0 (slice_set starts (region.base / 2 ^ least) 0)
    ≡ without region (blocks_from least 0 starts)
drop_blocks array_bits least starts region is places h =
    let lt : region.base / 2 ^ least < length starts = (let f = is.first in omega arith) in
    let at = is_start least 0 starts region h in
    let z : 0 + at.i ≡ at.i = omega arith in
    let e : region.base / 2 ^ least ≡ at.i = ap (λ n. n / 2 ^ least) (at.base ∙ ap (λ n. n * 2 ^ least) z)
    ∙ shl-shr at.i least in
    drop_start least 0 region.bits starts (region.base / 2 ^ least) lt (ap (slice_index starts) e ∙ at.bits)
    ∙ ap (λ (b : Block). without b (blocks_from least 0 starts)) is.is_first

length_set : (xs : List ℕ) (i v : ℕ) → length (slice_set xs i v) ≡ length xs
length_set [] i v = refl
length_set (x ∷ xs) zero v = refl
length_set (x ∷ xs) (suc i) v = ap suc (length_set xs i v)

pub put_pool : (bits least split : ℕ) (starts nodes new : List ℕ) (region : Block)
    → IsKept bits least split starts nodes → IsSpot bits least region → IsAligned region.base region.bits
    → region.base + 2 ^ region.bits ≤ 2 ^ bits
    → is_free (blocks_from least 0 starts) region ≡ true → length new ≡ length nodes
    → Marks bits least (block_at region.bits (region.base / 2 ^ region.bits)) false nodes new
    → IsKept bits least split (slice_set starts (region.base / 2 ^ least) (suc region.bits)) new
put_pool bits least split starts nodes new region pool is aligned inside free same marks =
    let e = put_blocks bits least starts region is pool.places free in
    let B : List Block → Type 0 = λ blocks. HasLevels bits least blocks least (bits + 1) new in
    let O : List Block → Type 0 = λ blocks. ArePartitions least bits blocks in
    let M : Block → Type 0 = λ block. Marks bits least block false nodes new in
    record {
      least_array = pool.least_array;
      least_split = pool.least_split;
      most_split = pool.most_split;
      least_is = pool.least_is;
      places = length_set starts (region.base / 2 ^ least) (suc region.bits) ∙ pool.places;
      room = ap (λ n. n + 1) same ∙ pool.room;
      taken = subst O (sym e) (record {
        order = put_in_order least 0 (2 ^ bits) region
            (blocks_from least 0 starts) pool.taken.order free is.big (omega arith) inside;
        aligned = all_put (λ b. IsAligned b.base b.bits) region
            (blocks_from least 0 starts) aligned pool.taken.aligned;
      });
      levels = subst B (sym e)
          (subst M is.is_at marks (blocks_from least 0 starts)
          (put_by_base region (blocks_from least 0 starts))
          (take_becomes region (blocks_from least 0 starts)) pool.levels);
    }

pub drop_pool : (bits least split : ℕ) (starts nodes new : List ℕ) (region : Block)
    → IsKept bits least split starts nodes → IsSpot bits least region
    → Contains (blocks_from least 0 starts) region → length new ≡ length nodes
    → Marks bits least (block_at region.bits (region.base / 2 ^ region.bits)) true nodes new
    → IsKept bits least split (slice_set starts (region.base / 2 ^ least) 0) new
drop_pool bits least split starts nodes new region pool is taken same marks =
    let e = drop_blocks bits least starts region is pool.places taken in
    let B : List Block → Type 0 = λ blocks. HasLevels bits least blocks least (bits + 1) new in
    let O : List Block → Type 0 = λ blocks. ArePartitions least bits blocks in
    let M : Block → Type 0 = λ block. Marks bits least block true nodes new in
    record {
      least_array = pool.least_array;
      least_split = pool.least_split;
      most_split = pool.most_split;
      least_is = pool.least_is;
      places = length_set starts (region.base / 2 ^ least) 0 ∙ pool.places;
      room = ap (λ n. n + 1) same ∙ pool.room;
      taken = subst O (sym e) (record {
        order = without_in_order least 0 (2 ^ bits) region (blocks_from least 0 starts) pool.taken.order;
        aligned = all_without (λ b. IsAligned b.base b.bits) region
            (blocks_from least 0 starts) pool.taken.aligned;
      });
      levels = subst B (sym e)
          (subst M is.is_at marks (blocks_from least 0 starts) (without region (blocks_from least 0 starts))
          (give_becomes least 0 (2 ^ bits) region (blocks_from least 0 starts) pool.taken.order taken)
          pool.levels);
    }

-- a region that is free has room: no more than 2 ^ split are taken in all
pub room_for_one : (bits least split : ℕ) (starts nodes : List ℕ) (region : Block)
    → IsKept bits least split starts nodes
    → IsSpot bits least region → region.base + 2 ^ region.bits ≤ 2 ^ bits
    → is_free (blocks_from least 0 starts) region ≡ true
    → length (blocks_from least 0 starts) < 2 ^ split
room_for_one bits least split starts nodes region pool is inside free =
    let order = put_in_order least 0 (2 ^ bits) region
    (blocks_from least 0 starts) pool.taken.order free is.big (omega arith) inside in
    let few = few_in_order least 0 (2 ^ bits) (put_by_base region (blocks_from least 0 starts)) order in
    let more = ap (λ n. n * 2 ^ least) (length-put_by_base region (blocks_from least 0 starts)) in
    let whole = whole_pow least bits (omega (arith, is.big, is.most)) in
    let some = pow_pos least in
    let fits : length (blocks_from least 0 starts) < 2 ^ (bits - least) =
    fits_in (length (blocks_from least 0 starts)) (2 ^ (bits - least)) (2 ^ least) some
    (omega (arith, few, more, whole)) in
    let most = pow_mono {i = bits - least} {j = split} (omega (arith, pool.least_is)) in
    omega (arith, fits, most)
  where
    fits_in : (n m p : ℕ) → 0 < p → suc n * p ≤ m * p → n < m
    fits_in n m p some le =
        ⊎_elim (λ (h : n < m). h)
        (λ (h : m ≤ n). let f = mul-le-mul_right {m = m + 1} {n = suc n} p (omega arith) in
        absurd (omega arith))
        (cases_lt n m)

-- ---- a new pool: the whole array is taken, and then given back

empty_becomes : (block : Block) → Becomes true block (block ∷ []) []
empty_becomes block = record { apart = λ x h. sym (ap (λ c. c && true) h); within = λ x from to. refl }

none_levels : (array_bits least n : ℕ) → n + 1 ≡ 2 ^ (array_bits - least + 1)
    → HasLevels array_bits least (block_at array_bits 0 ∷ []) least (array_bits + 1) (replicate n 0)
none_levels array_bits least n room = λ b i from to whole lt.
    let last = place_inside array_bits least b i from whole lt in
    let s : array_bits - least + 1 ≡ suc (array_bits - least) = omega arith in
    let t = ap (λ k. 2 ^ k) s in
    get_or-replicate n (place array_bits b i) 0 0 (omega arith)
    ∙ sym (node_within array_bits 0 [] (block_at array_bits 0 ∷ []) false least b i
    (take_becomes (block_at array_bits 0) []) from
    (lies_in_range b i array_bits 0 whole (omega arith) (omega arith)))

pub new_pool : (bits least split : ℕ) (starts nodes new : List ℕ) → 5 ≤ bits → 5 ≤ split → split ≤ 10
    → least ≡ bits - split
    → starts ≡ replicate (2 ^ (bits - least)) 0 → nodes ≡ replicate (2 * 2 ^ (bits - least) - 1) 0
    → length new ≡ length nodes
    → length nodes + 1 ≡ 2 ^ (bits - least + 1)
    → Marks bits least (block_at bits 0) true nodes new
    → IsKept bits least split starts new
new_pool bits least split starts nodes new a c d is s n same room marks =
    let none : blocks_from least 0 starts ≡ [] = ap (blocks_from least 0) s
    ∙ blocks_none least 0 (2 ^ (bits - least)) in
    let B : List Block → Type 0 = λ blocks. HasLevels bits least blocks least (bits + 1) new in
    let O : List Block → Type 0 = λ blocks. ArePartitions least bits blocks in
    let N : List ℕ → Type 0 = λ xs. HasLevels bits least (block_at bits 0 ∷ []) least (bits + 1) xs in
    let count : length nodes ≡ 2 * 2 ^ (bits - least) - 1 = ap length n
    ∙ length_same (2 * 2 ^ (bits - least) - 1) in
    record {
      least_array = a;
      least_split = c;
      most_split = d;
      least_is = is;
      places = ap length s ∙ length_same (2 ^ (bits - least));
      room = ap (λ k. k + 1) same ∙ room;
      taken = subst O (sym none)
          (record {
            order = (let some = pow_pos bits in omega arith);
            aligned = All-nil
                (λ (b : Block). IsAligned b.base b.bits);
          });
      levels = subst B (sym none)
          (marks (block_at bits 0 ∷ []) [] (empty_becomes (block_at bits 0))
          (subst N (sym n) (none_levels bits least (2 * 2 ^ (bits - least) - 1)
          (ap (λ k. k + 1) (sym count) ∙ room))));
    }
  where
    length_same : (k : ℕ) → length {A = ℕ} (replicate k 0) ≡ k
    length_same zero = refl
    length_same (suc k) = ap suc (length_same k)

-- ---- what a search finds

found_in : (taken : List Block) (bits k n : ℕ) (region : Block)
    → find (is_free taken) (map (block_at bits) (range_with_len k n)) ≡ Some region
    → (is_free taken region ≡ true) × ((i : ℕ) × (i < k + n) × (region ≡ block_at bits i))
found_in taken bits k zero region h = absurd (cc)
found_in taken bits k (suc n) region h =
    by (λ e. found_in taken bits (k + 1) n region e) (is_free taken (block_at bits k)) refl h
  where
    by : (find (is_free taken) (map (block_at bits) (range_with_len (k + 1) n)) ≡ Some region
        → (is_free taken region ≡ true) × ((i : ℕ) × (i < k + 1 + n) × (region ≡ block_at bits i)))
        → (b : Bool) → is_free taken (block_at bits k) ≡ b
        → cond b (Some (block_at bits k))
        (find (is_free taken) (map (block_at bits) (range_with_len (k + 1) n))) ≡ Some region
        → (is_free taken region ≡ true) × ((i : ℕ) × (i < k + suc n) × (region ≡ block_at bits i))
    by rest true e q =
        let same : region ≡ block_at bits k = (cc) in
        (ap (is_free taken) same ∙ e, (k, omega arith, same))
    by rest false e q =
        let is = rest q in
        (is.0, (is.1.0, omega arith, is.1.2))

pub record IsFound (taken : List Block) (least array_bits bits : ℕ) (region : Block) : Type 0 where
  pub free : is_free taken region ≡ true
  pub size : region.bits ≡ bits
  pub partition : IsPartition least array_bits region

block_inside : (k bits array_bits : ℕ) → bits ≤ array_bits → k < 2 ^ (array_bits - bits)
    → k * 2 ^ bits + 2 ^ bits ≤ 2 ^ array_bits
block_inside k bits array_bits le lt =
    let same = whole_pow bits array_bits le in
    grind arith

aligned_at : (bits i : ℕ) → bits ≤ 20 → IsAligned (i * 2 ^ bits) bits
aligned_at bits i small = record { small = small; multiple = mul-mod_left i (2 ^ bits) }

pub is_found : (taken : List Block) (least array_bits bits : ℕ) (region : Block) → least ≤ bits
    → bits ≤ array_bits → array_bits ≤ 20
    → free_block taken array_bits bits ≡ Some region → IsFound taken least array_bits bits region
unfolding free_block
is_found taken least array_bits bits region big le small h =
    let is = found_in taken bits 0 (2 ^ (array_bits - bits)) region h in
    let i : ℕ = is.1.0 in
    let less : i < 2 ^ (array_bits - bits) = omega (arith, is.1.1) in
    let size : region.bits ≡ bits = ap (λ (b : Block). b.bits) is.1.2 in
    record {
      free = is.0;
      size = size;
      partition = record {
        large = omega (arith, size);
        aligned = rw is.1.2 (aligned_at bits i (omega arith));
        inside = rw is.1.2 (block_inside i bits array_bits le less);
      };
    }

-- what holds of each answer of a search
pub if_found : (P : Block → Type 0) (found : Option Block)
    → ((region : Block) → found ≡ Some region → P region) → IfSome found P
if_found P None each = tt
if_found P (Some region) each = each region refl
