-- PoolState blocks in order, and what a put and a removal change.
use Rattle.std.proofs.Common.{◌≡◌, ℕ, zero, suc, ◌+◌, ◌*◌, ◌/◌, ◌<◌, ◌≤◌, ◌^◌, Bool, true, false, cond, List, [], ◌∷◌, length, refl, ap, sym, ◌∙◌, arith, inl, inr, ⊎_elim, subst}
use Rattle.std.specs.Prelude.{◌&&◌, ◌||◌, ◌⊎◌, ◌==◌, nat_le, Contains, slice_index_or}
use Rattle.std.specs.List.{list_all, All}
use Rattle.std.proofs.Math.Path.{ap₂}
use Rattle.std.proofs.Math.Pow.{pow_mono}
use Rattle.std.proofs.lemmas.Bool.Decides.{nat_tests}
use Rattle.std.proofs.lemmas.Bool.{false≢true}
use Rattle.std.proofs.lemmas.Nat.{pow_pos, shr_split}
use Rattle.std.proofs.lemmas.List.Elements.{All-cons, All-head, All-tail}
use Rattle.addr_translate.specs.Blocks.{Block, IsAligned}
use Rattle.partition_pool.specs.Regions.{are_apart, is_free, block_at, put_by_base, by_base, InOrder, is_block, without}
use Rattle.partition_pool.specs.Kept.{Becomes}

pub and_true : (a b : Bool) → (a && b) ≡ true → (a ≡ true) × (b ≡ true)
and_true true b h = (refl, h)
and_true false b h = absurd (false≢true h)

and_swap : (a b c : Bool) → (a && (b && c)) ≡ (b && (a && c))
and_swap true b c = refl
and_swap false true c = refl
and_swap false false c = refl

pub contains_cons : (x y : Block) (xs : List Block) → Contains (x ∷ xs) y → (x ≡ y) ⊎ Contains xs y
contains_cons x y xs h = by h.0 h.1 h.2
  where
    by : (k : ℕ) → k < length (x ∷ xs) → slice_index_or (x ∷ xs) k y ≡ y → (x ≡ y) ⊎ Contains xs y
    by zero lt e = inl e
    by (suc k) lt e = let less : k < length xs = omega arith in inr (k, less, e)

pub contains_none : (y : Block) → Contains [] y → ⊥
contains_none y h = let less : h.0 < 0 = h.1 in omega arith

pub is_block_true : (one two : Block) → is_block one two ≡ true → one ≡ two
is_block_true one two h =
    let t = and_true (one.base == two.base) (one.bits == two.bits) h in
    let e : one.base ≡ two.base = (let f = t.0 in grind (arith, nat_tests)) in
    let g : one.bits ≡ two.bits = (let f = t.1 in grind (arith, nat_tests)) in
    let made : ℕ → ℕ → Block = λ m n. record { base = m; bits = n } in
    ap₂ made e g

pub is_block_same : (one two : Block) → one ≡ two → is_block one two ≡ true
is_block_same one two e =
    let f : one.base ≡ two.base = ap (λ (b : Block). b.base) e in
    let g : one.bits ≡ two.bits = ap (λ (b : Block). b.bits) e in
    let p : (one.base == two.base) ≡ true = grind (arith, nat_tests) in
    let q : (one.bits == two.bits) ≡ true = grind (arith, nat_tests) in
    ap₂ (λ (a b : Bool). a && b) p q

-- ---- order

pub put_in_order : (least low high : ℕ) (block : Block) (blocks : List Block) → InOrder least low high blocks
    → is_free blocks block ≡ true → least ≤ block.bits → low ≤ block.base → block.base + 2 ^ block.bits ≤ high
    → InOrder least low high (put_by_base block blocks)
put_in_order least low high block [] order free big above inside = (above, big, inside)
put_in_order least low high block (other ∷ others) order free big above inside =
    by (put_in_order least (other.base + 2 ^ other.bits) high block others order.2
    (and_true (are_apart block other) (list_all (are_apart block) others) free).1 big)
    (nat_le block.base other.base) refl
  where
    by : (other.base + 2 ^ other.bits ≤ block.base → block.base + 2 ^ block.bits ≤ high
        → InOrder least (other.base + 2 ^ other.bits) high (put_by_base block others)) → (b : Bool)
        → nat_le block.base other.base ≡ b
        → InOrder least low high (cond b (block ∷ other ∷ others) (other ∷ put_by_base block others))
    by more true e =
        let apart = (and_true (are_apart block other) (list_all (are_apart block) others) free).0 in
        let some = pow_pos other.bits in
        let next : block.base + 2 ^ block.bits ≤ other.base = grind (arith, nat_tests) in
        (above, big, (next, order.1, order.2))
    by more false e =
        let apart = (and_true (are_apart block other) (list_all (are_apart block) others) free).0 in
        let some = pow_pos block.bits in
        let next : other.base + 2 ^ other.bits ≤ block.base = grind (arith, nat_tests) in
        (order.0, order.1, more next inside)

lower_in_order : (least low less high : ℕ) (blocks : List Block) → less ≤ low → InOrder least low high blocks
    → InOrder least less high blocks
lower_in_order least low less high [] le order = omega arith
lower_in_order least low less high (block ∷ blocks) le order = (omega arith, order.1, order.2)

pub without_in_order : (least low high : ℕ) (block : Block) (blocks : List Block)
    → InOrder least low high blocks → InOrder least low high (without block blocks)
without_in_order least low high block [] order = order
without_in_order least low high block (other ∷ others) order =
    by (without_in_order least (other.base + 2 ^ other.bits) high block others order.2) (is_block other block)
  where
    by : InOrder least (other.base + 2 ^ other.bits) high (without block others) → (b : Bool)
        → InOrder least low high (cond b others (other ∷ without block others))
    by rest true = lower_in_order least (other.base + 2 ^ other.bits) low high others (omega arith) order.2
    by rest false = (order.0, order.1, rest)

pub record IsInside (least low high : ℕ) (block : Block) : Type 0 where
  pub above : low ≤ block.base
  pub big : least ≤ block.bits
  pub below : block.base + 2 ^ block.bits ≤ high

ends_below : (least low high : ℕ) (blocks : List Block) → InOrder least low high blocks → low ≤ high
ends_below least low high [] order = order
ends_below least low high (block ∷ blocks) order =
    let rest = ends_below least (block.base + 2 ^ block.bits) high blocks order.2 in
    let from = order.0 in
    omega arith

pub is_inside : (least low high : ℕ) (block : Block) (blocks : List Block) → InOrder least low high blocks
    → Contains blocks block → IsInside least low high block
is_inside least low high block [] order h = absurd (contains_none block h)
is_inside least low high block (other ∷ others) order h =
    ⊎_elim
    (λ (e : other ≡ block).
    let end = ends_below least (other.base + 2 ^ other.bits) high others order.2 in
    let f : other.base ≡ block.base = ap (λ (b : Block). b.base) e in
    let g : other.bits ≡ block.bits = ap (λ (b : Block). b.bits) e in
    let p = ap (λ n. 2 ^ n) g in
    let from = order.0 in
    let big = order.1 in
    record { above = omega arith; big = omega arith; below = omega arith })
    (λ (k : Contains others block).
    let rest = is_inside least (other.base + 2 ^ other.bits) high block others order.2 k in
    let from = order.0 in
    record { above = omega arith; big = rest.big; below = rest.below })
    (contains_cons other block others h)

-- each has at least the least size
pub few_in_order : (least low high : ℕ) (blocks : List Block) → InOrder least low high blocks
    → low + length blocks * 2 ^ least ≤ high
few_in_order least low high [] order = omega arith
few_in_order least low high (block ∷ blocks) order =
    let rest = few_in_order least (block.base + 2 ^ block.bits) high blocks order.2 in
    let big = pow_mono {i = least} {j = block.bits} order.1 in
    grind arith

pub length-put_by_base : (block : Block) (blocks : List Block)
    → length (put_by_base block blocks) ≡ suc (length blocks)
length-put_by_base block [] = refl
length-put_by_base block (other ∷ others) =
    by (length-put_by_base block others) (nat_le block.base other.base)
  where
    by : length (put_by_base block others) ≡ suc (length others)
        → (b : Bool) → length (cond b (block ∷ other ∷ others) (other ∷ put_by_base block others))
        ≡ suc (suc (length others))
    by rest true = refl
    by rest false = ap suc rest

-- ---- what is free

free_put : (block x : Block) (blocks : List Block)
    → is_free (put_by_base block blocks) x ≡ (are_apart x block && is_free blocks x)
free_put block x [] = refl
free_put block x (other ∷ others) = by (free_put block x others) (nat_le block.base other.base)
  where
    by : is_free (put_by_base block others) x ≡ (are_apart x block && is_free others x) → (b : Bool)
        → is_free (cond b (block ∷ other ∷ others) (other ∷ put_by_base block others)) x
        ≡ (are_apart x block && (are_apart x other && is_free others x))
    by rest true = refl
    by rest false = ap (λ c. are_apart x other && c) rest
        ∙ and_swap (are_apart x other) (are_apart x block) (is_free others x)

free_without : (block x : Block) (blocks : List Block) → Contains blocks block
    → is_free blocks x ≡ (are_apart x block && is_free (without block blocks) x)
free_without block x [] h = absurd (contains_none block h)
free_without block x (other ∷ others) h = by (λ k. free_without block x others k) (is_block other block) refl
  where
    by : (Contains others block → is_free others x ≡ (are_apart x block && is_free (without block others) x))
        → (b : Bool) → is_block other block ≡ b
        → (are_apart x other && is_free others x)
        ≡ (are_apart x block && is_free (cond b others (other ∷ without block others)) x)
    by rest true e = ap (λ (o : Block). are_apart x o && is_free others x) (is_block_true other block e)
    by rest false e =
        ⊎_elim
        (λ (s : other ≡ block). absurd (false≢true (sym e ∙ is_block_same other block s)))
        (λ (k : Contains others block). ap (λ c. are_apart x other && c) (rest k)
        ∙ and_swap (are_apart x other) (are_apart x block) (is_free (without block others) x))
        (contains_cons other block others h)

before_all : (least low high : ℕ) (block : Block) (blocks : List Block) → InOrder least low high blocks
    → block.base + 2 ^ block.bits ≤ low → is_free blocks block ≡ true
before_all least low high block [] order le = refl
before_all least low high block (other ∷ others) order le =
    let from = order.0 in
    let some = pow_pos other.bits in
    let apart : are_apart block other ≡ true = grind (arith, nat_tests) in
    ap₂ (λ (a b : Bool). a && b) apart
    (before_all least (other.base + 2 ^ other.bits) high block others order.2 (omega arith))

free_gone : (least low high : ℕ) (block : Block) (blocks : List Block) → InOrder least low high blocks
    → Contains blocks block → is_free (without block blocks) block ≡ true
free_gone least low high block [] order h = absurd (contains_none block h)
free_gone least low high block (other ∷ others) order h =
    by (λ k. free_gone least (other.base + 2 ^ other.bits) high block others order.2 k)
    (is_block other block) refl
  where
    by : (Contains others block → is_free (without block others) block ≡ true) → (b : Bool)
        → is_block other block ≡ b → is_free (cond b others (other ∷ without block others)) block ≡ true
    by rest true e =
        let same = is_block_true other block e in
        let f : other.base ≡ block.base = ap (λ (b : Block). b.base) same in
        let g : 2 ^ other.bits ≡ 2 ^ block.bits = ap (λ (b : Block). 2 ^ b.bits) same in
        before_all least (other.base + 2 ^ other.bits) high block others order.2 (omega arith)
    by rest false e =
        ⊎_elim
        (λ (s : other ≡ block). absurd (false≢true (sym e ∙ is_block_same other block s)))
        (λ (k : Contains others block).
        let inside = is_inside least (other.base + 2 ^ other.bits) high block others order.2 k in
        let apart : are_apart block other ≡ true = grind (arith, nat_tests) in
        ap₂ (λ (a b : Bool). a && b) apart (rest k))
        (contains_cons other block others h)

apart_part : (a m b n x p : ℕ) → b ≤ a → a + m ≤ b + n → (nat_le (b + n) x || nat_le (x + p) b) ≡ true
    → (nat_le (a + m) x || nat_le (x + p) a) ≡ true
apart_part a m b n x p f g h = grind (arith, nat_tests)

free_part : (block x : Block) (blocks : List Block) → is_free blocks block ≡ true → block.base ≤ x.base
    → x.base + 2 ^ x.bits ≤ block.base + 2 ^ block.bits → is_free blocks x ≡ true
free_part block x [] h from to = refl
free_part block x (other ∷ others) h from to =
    let both = and_true (are_apart block other) (is_free others block) h in
    ap₂ (λ (a b : Bool). a && b)
    (apart_part x.base (2 ^ x.bits) block.base (2 ^ block.bits) other.base (2 ^ other.bits) from to both.0)
    (free_part block x others both.1 from to)

part_meets : (block x : Block) → block.base ≤ x.base → x.base + 2 ^ x.bits ≤ block.base + 2 ^ block.bits
    → are_apart x block ≡ false
part_meets block x from to =
    let some = pow_pos x.bits in
    let more = pow_pos block.bits in
    grind (arith, nat_tests)

pub take_becomes : (block : Block) (blocks : List Block)
    → Becomes false block blocks (put_by_base block blocks)
take_becomes block blocks = record {
  apart = λ x h. free_put block x blocks ∙ ap (λ c. c && is_free blocks x) h;
  within = λ x from to. free_put block x blocks
      ∙ ap (λ c. c && is_free blocks x) (part_meets block x from to);
}

pub give_becomes : (least low high : ℕ) (block : Block) (blocks : List Block) → InOrder least low high blocks
    → Contains blocks block → Becomes true block blocks (without block blocks)
give_becomes least low high block blocks order h = record {
  apart = λ x e. sym (free_without block x blocks h ∙ ap (λ c. c && is_free (without block blocks) x) e);
  within = λ x from to. free_part block x (without block blocks)
      (free_gone least low high block blocks order h) from to;
}

-- an aligned block, by its place among those of its size
pub aligned_is : (block : Block) → IsAligned block.base block.bits
    → block_at block.bits (block.base / 2 ^ block.bits) ≡ block
aligned_is block is =
    let e : block.base / 2 ^ block.bits * 2 ^ block.bits ≡ block.base =
    omega (arith, shr_split block.base block.bits, is.multiple) in
    let made : ℕ → Block = λ m. record { base = m; bits = block.bits } in
    ap made e

-- ---- what holds of each, and what a list has

pub all_put : (P : Block → Type 0) (block : Block) (blocks : List Block) → P block → All P blocks
    → All P (put_by_base block blocks)
all_put P block [] p all = All-cons P block [] p all
all_put P block (other ∷ others) p all =
    by (all_put P block others p (All-tail P other others all)) (nat_le block.base other.base)
  where
    by : All P (put_by_base block others) → (b : Bool)
        → All P (cond b (block ∷ other ∷ others) (other ∷ put_by_base block others))
    by rest true = All-cons P block (other ∷ others) p all
    by rest false = All-cons P other (put_by_base block others) (All-head P other others all) rest

pub all_without : (P : Block → Type 0) (block : Block) (blocks : List Block) → All P blocks
    → All P (without block blocks)
all_without P block [] all = all
all_without P block (other ∷ others) all =
    by (all_without P block others (All-tail P other others all)) (is_block other block)
  where
    by : All P (without block others) → (b : Bool) → All P (cond b others (other ∷ without block others))
    by rest true = All-tail P other others all
    by rest false = All-cons P other (without block others) (All-head P other others all) rest

pub cons_contains : (x y : Block) (xs : List Block) → Contains xs y → Contains (x ∷ xs) y
cons_contains x y xs h = let less : h.0 < length xs = h.1 in (suc h.0, omega arith, h.2)

pub contains_first : (x : Block) (xs : List Block) → Contains (x ∷ xs) x
contains_first x xs = (0, omega arith, refl)

-- what is put in is there, and so is what was
pub contains_put : (block : Block) (blocks : List Block) → Contains (put_by_base block blocks) block
contains_put block [] = contains_first block []
contains_put block (other ∷ others) = by (contains_put block others) (nat_le block.base other.base)
  where
    by : Contains (put_by_base block others) block → (b : Bool)
        → Contains (cond b (block ∷ other ∷ others) (other ∷ put_by_base block others)) block
    by rest true = contains_first block (other ∷ others)
    by rest false = cons_contains other block (put_by_base block others) rest
