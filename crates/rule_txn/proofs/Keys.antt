-- Lists in the order of a key: one put in and one cut out.
use Rattle.std.proofs.Common.{◌≡◌, ◌≢◌, ℕ, Bool, true, false, cond, List, [], ◌∷◌, ◌++◌, refl, ap, sym, ◌∙◌, arith, eq-eqb}
use Rattle.std.specs.Prelude.{◌==◌, ◌||◌, nat_le}
use Rattle.std.specs.List.{All, list_any}
use Rattle.std.proofs.lemmas.Bool.Decides.{nat_tests}
use Rattle.std.proofs.lemmas.List.Elements.{All-head, All-tail}
use Rattle.addr_translate.specs.Blocks.{Block}
use Rattle.lists.specs.Sorting.{put_by, sort_by, cut_by}
use Rattle.partition_pool.specs.Regions.{put_by_base, without, is_block}

abbrev pub by_key : {X : Type 0} → (X → ℕ) → X → X → Bool
by_key key one two = nat_le (key one) (key two)

abbrev pub has_key : {X : Type 0} → (X → ℕ) → ℕ → X → Bool
has_key key k x = key x == k

abbrev pub put_key : {X : Type 0} → (X → ℕ) → X → List X → List X
put_key key x xs = put_by (by_key key) x xs

abbrev pub sort_key : {X : Type 0} → (X → ℕ) → List X → List X
sort_key key xs = sort_by (by_key key) xs

abbrev pub cut_key : {X : Type 0} → (X → ℕ) → ℕ → List X → List X
cut_key key k xs = cut_by (has_key key k) xs

pub put_commutes : {X : Type 0} (key : X → ℕ) (one two : X) (xs : List X) → key one ≢ key two → put_key key one (put_key key two xs) ≡ put_key key two (put_key key one xs)
put_commutes key one two [] ne = by (nat_le (key one) (key two)) (nat_le (key two) (key one)) refl refl
  where
    by : (b c : Bool) → nat_le (key one) (key two) ≡ b → nat_le (key two) (key one) ≡ c → cond b (one ∷ two ∷ []) (two ∷ one ∷ []) ≡ cond c (two ∷ one ∷ []) (one ∷ two ∷ [])
    by true true p q = absurd (grind (arith, nat_tests))
    by true false p q = refl
    by false true p q = refl
    by false false p q = absurd (grind (arith, nat_tests))
put_commutes key one two (x ∷ xs) ne = by (put_commutes key one two xs ne) (nat_le (key one) (key x)) (nat_le (key two) (key x)) (nat_le (key one) (key two)) (nat_le (key two) (key one)) refl refl refl refl
  where
    by : put_key key one (put_key key two xs) ≡ put_key key two (put_key key one xs) → (a b c d : Bool) → nat_le (key one) (key x) ≡ a → nat_le (key two) (key x) ≡ b → nat_le (key one) (key two) ≡ c → nat_le (key two) (key one) ≡ d → put_key key one (cond b (two ∷ x ∷ xs) (x ∷ put_key key two xs)) ≡ put_key key two (cond a (one ∷ x ∷ xs) (x ∷ put_key key one xs))
    by rest true true true true p q r s = absurd (grind (arith, nat_tests))
    by rest true true true false p q r s = ap (λ b. cond b (one ∷ two ∷ x ∷ xs) (two ∷ cond (nat_le (key one) (key x)) (one ∷ x ∷ xs) (x ∷ put_key key one xs))) r ∙ sym (ap (λ b. cond b (two ∷ one ∷ x ∷ xs) (one ∷ cond (nat_le (key two) (key x)) (two ∷ x ∷ xs) (x ∷ put_key key two xs))) s ∙ ap (λ b. one ∷ cond b (two ∷ x ∷ xs) (x ∷ put_key key two xs)) q)
    by rest true true false true p q r s = ap (λ b. cond b (one ∷ two ∷ x ∷ xs) (two ∷ cond (nat_le (key one) (key x)) (one ∷ x ∷ xs) (x ∷ put_key key one xs))) r ∙ ap (λ b. two ∷ cond b (one ∷ x ∷ xs) (x ∷ put_key key one xs)) p ∙ sym (ap (λ b. cond b (two ∷ one ∷ x ∷ xs) (one ∷ cond (nat_le (key two) (key x)) (two ∷ x ∷ xs) (x ∷ put_key key two xs))) s)
    by rest true true false false p q r s = absurd (grind (arith, nat_tests))
    by rest true false c d p q r s =
        let first : nat_le (key two) (key one) ≡ false = grind (arith, nat_tests) in
        ap (λ b. cond b (one ∷ x ∷ put_key key two xs) (x ∷ put_key key one (put_key key two xs))) p ∙ sym (ap (λ b. cond b (two ∷ one ∷ x ∷ xs) (one ∷ cond (nat_le (key two) (key x)) (two ∷ x ∷ xs) (x ∷ put_key key two xs))) first ∙ ap (λ b. one ∷ cond b (two ∷ x ∷ xs) (x ∷ put_key key two xs)) q)
    by rest false true c d p q r s =
        let first : nat_le (key one) (key two) ≡ false = grind (arith, nat_tests) in
        ap (λ b. cond b (one ∷ two ∷ x ∷ xs) (two ∷ cond (nat_le (key one) (key x)) (one ∷ x ∷ xs) (x ∷ put_key key one xs))) first ∙ ap (λ b. two ∷ cond b (one ∷ x ∷ xs) (x ∷ put_key key one xs)) p ∙ sym (ap (λ b. cond b (two ∷ x ∷ put_key key one xs) (x ∷ put_key key two (put_key key one xs))) q)
    by rest false false c d p q r s = ap (λ b. cond b (one ∷ x ∷ put_key key two xs) (x ∷ put_key key one (put_key key two xs))) p ∙ ap (λ ys. x ∷ ys) rest ∙ sym (ap (λ b. cond b (two ∷ x ∷ put_key key one xs) (x ∷ put_key key two (put_key key one xs))) q)

is_itself : (block : Block) → is_block block block ≡ true
is_itself block = grind (arith, nat_tests)

pub without_put : (block : Block) (blocks : List Block) → without block (put_by_base block blocks) ≡ blocks
without_put block [] = ap (λ b. cond b [] (block ∷ [])) (is_itself block)
without_put block (x ∷ xs) = by (without_put block xs) (nat_le block.base x.base) refl
  where
    by : without block (put_by_base block xs) ≡ xs → (b : Bool) → nat_le block.base x.base ≡ b → without block (cond b (block ∷ x ∷ xs) (x ∷ put_by_base block xs)) ≡ x ∷ xs
    by rest true e = ap (λ b. cond b (x ∷ xs) (block ∷ without block (x ∷ xs))) (is_itself block)
    by rest false e =
        let other : is_block x block ≡ false = grind (arith, nat_tests) in
        ap (λ b. cond b (put_by_base block xs) (x ∷ without block (put_by_base block xs))) other ∙ ap (λ ys. x ∷ ys) rest

-- one put in by a key, and the first with the key cut out
pub cut_put : {X : Type 0} (key : X → ℕ) (y : X) (xs : List X) → cut_key key (key y) (put_key key y xs) ≡ xs
cut_put key y [] = ap (λ b. cond b [] (y ∷ [])) (eq-eqb (key y) (key y) refl)
cut_put key y (x ∷ xs) = by (cut_put key y xs) (nat_le (key y) (key x)) refl
  where
    by : cut_key key (key y) (put_key key y xs) ≡ xs → (b : Bool) → nat_le (key y) (key x) ≡ b → cut_key key (key y) (cond b (y ∷ x ∷ xs) (x ∷ put_key key y xs)) ≡ x ∷ xs
    by rest true e = ap (λ b. cond b (x ∷ xs) (y ∷ cut_key key (key y) (x ∷ xs))) (eq-eqb (key y) (key y) refl)
    by rest false e =
        let other : (key x == key y) ≡ false = grind (arith, nat_tests) in
        ap (λ b. cond b (put_key key y xs) (x ∷ cut_key key (key y) (put_key key y xs))) other ∙ ap (λ ys. x ∷ ys) rest

-- one more at the end
pub sort_last : {X : Type 0} (key : X → ℕ) (xs : List X) (y : X) → All (λ x. key x ≢ key y) xs → sort_key key (xs ++ y ∷ []) ≡ put_key key y (sort_key key xs)
sort_last key [] y differ = refl
sort_last key (x ∷ xs) y differ =
    ap (put_key key x) (sort_last key xs y (All-tail (λ z. key z ≢ key y) x xs differ))
    ∙ put_commutes key x y (sort_key key xs) (All-head (λ z. key z ≢ key y) x xs differ)

-- the first with a key stands somewhere in the order
sort_cut : {X : Type 0} (key : X → ℕ) (k : ℕ) (xs : List X) → list_any (λ x. key x == k) xs ≡ true
    → (x : X) × (key x ≡ k) × (sort_key key xs ≡ put_key key x (sort_key key (cut_key key k xs)))
sort_cut key k [] any = absurd (cc)
sort_cut {X} key k (x ∷ xs) any = by (sort_cut key k xs) (key x == k) refl any
  where
    by : (list_any (λ y. key y == k) xs ≡ true → (y : X) × (key y ≡ k) × (sort_key key xs ≡ put_key key y (sort_key key (cut_key key k xs))))
        → (b : Bool) → (key x == k) ≡ b → (b || list_any (λ y. key y == k) xs) ≡ true
        → (y : X) × (key y ≡ k) × (put_key key x (sort_key key xs) ≡ put_key key y (sort_key key (cond b xs (x ∷ cut_key key k xs))))
    by rest true e h = (x, (let same : key x ≡ k = grind (arith, nat_tests) in same), refl)
    by rest false e h =
        let found = rest h in
        let other : key x ≢ key found.0 = (let p = found.1 in λ same. (let bad : key x ≡ k = same ∙ p in absurd (grind (arith, nat_tests)))) in
        (found.0, found.1, ap (put_key key x) found.2 ∙ put_commutes key x found.0 (sort_key key (cut_key key k xs)) other)

-- cut out of a list is cut out of its order
pub sorted_cut : {X : Type 0} (key : X → ℕ) (y : X) (xs rest : List X) → list_any (λ x. key x == key y) xs ≡ true → sort_key key xs ≡ put_key key y rest → sort_key key (cut_key key (key y) xs) ≡ rest
sorted_cut key y xs rest any e =
    let found = sort_cut key (key y) xs any in
    sym (cut_put key found.0 (sort_key key (cut_key key (key y) xs)))
    ∙ ap (λ k. cut_key key k (put_key key found.0 (sort_key key (cut_key key (key y) xs)))) found.1
    ∙ ap (cut_key key (key y)) (sym found.2 ∙ e)
    ∙ cut_put key y rest
