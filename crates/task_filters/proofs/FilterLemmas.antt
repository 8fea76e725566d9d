-- Two filters share a vector where no bit of both masks tells their values apart.
use Rattle.std.proofs.Common.{◌<◌, ◌≡◌, ℕ, suc, ◌+◌, ◌%◌, min, Bool, true, false, List, [], ◌∷◌, length, drop, get_or, bit_and, bit_or, bit_xor, refl, ap, ap₂, sym, ◌∙◌, arith, ⊎_elim, IsTrue, ◌↔◌}
use Rattle.std.specs.Int.{bit_at}
use Rattle.std.specs.List.{All, list_any}
use Rattle.std.proofs.lemmas.Bool.{cases_Bool, false≢true, or_parts}
use Rattle.std.proofs.lemmas.Bool.Decides.{nat_tests, same_from_decides}
use Rattle.std.proofs.lemmas.Slice.Eq.{bytes_eq-Decides}
use Rattle.std.specs.Str.{bytes_eq}
use Rattle.std.proofs.lemmas.List.{get_or_default}
use Rattle.std.proofs.lemmas.Nat.{or_lt}
use Rattle.std.proofs.lemmas.Nat.Bits.{same_from_bits, bit_at_and, bit_at_xor, bit_at_or, bit_at-lt, bit_at-zero}
use Rattle.key_mask.specs.Bytes.{bytewise, and_bytes, xor_bytes}
use Rattle.key_mask.specs.Masks.{mask_bytes_of}
use Rattle.key_mask.proofs.BytesLemmas.{length-bytewise, get_or-bytewise}
use Rattle.task_filters.specs.Filters.{Pattern, IsFilter, IsVector, Matches, AreDisjoint, are_disjoint, difference, passes, some_bit}
use Rattle.task_filters.proofs.ByteLemmas.{is_vector}

-- ---- one byte

-- what two masks leave of one byte is the same under both
same_in_both : (v a b : ℕ) → bit_and (bit_and (bit_xor (bit_and v a) (bit_and v b)) a) b ≡ 0
same_in_both v a b =
    same_from_bits (bit_and (bit_and (bit_xor (bit_and v a) (bit_and v b)) a) b) 0
    (λ i. rw (
      bit_at_and (bit_and (bit_xor (bit_and v a) (bit_and v b)) a) b i,
      bit_at_and (bit_xor (bit_and v a) (bit_and v b)) a i,
      bit_at_xor (bit_and v a) (bit_and v b) i,
      bit_at_and v a i,
      bit_at_and v b i,
      bit_at-zero i,
    )
    (omega (arith, bit_at-lt v i, bit_at-lt a i, bit_at-lt b i)))

-- where values agree in each bit of both masks, their bits together have either value under its mask
together : (x y a b : ℕ) → bit_and x a ≡ x → bit_and y b ≡ y → bit_and (bit_and (bit_xor x y) a) b ≡ 0
    → (bit_and (bit_or x y) a ≡ x) × (bit_and (bit_or x y) b ≡ y)
together x y a b p q same = (same_from_bits (bit_and (bit_or x y) a) x one, same_from_bits (bit_and (bit_or x y) b) y two) where
  first : (i : ℕ) → min (bit_at x i) (bit_at a i) ≡ bit_at x i
  first i = sym (bit_at_and x a i) ∙ ap (λ n. bit_at n i) p

  second : (i : ℕ) → min (bit_at y i) (bit_at b i) ≡ bit_at y i
  second i = sym (bit_at_and y b i) ∙ ap (λ n. bit_at n i) q

  none : (i : ℕ) → min (min ((bit_at x i + bit_at y i) % 2) (bit_at a i)) (bit_at b i) ≡ 0
  none i =
      rw (bit_at_and (bit_and (bit_xor x y) a) b i, bit_at_and (bit_xor x y) a i, bit_at_xor x y i, bit_at-zero i) at (ap (λ n. bit_at n i) same)

  one : (i : ℕ) → bit_at (bit_and (bit_or x y) a) i ≡ bit_at x i
  one i =
      rw (bit_at_and (bit_or x y) a i, bit_at_or x y i)
      (omega (arith, first i, second i, none i, bit_at-lt x i, bit_at-lt y i, bit_at-lt a i, bit_at-lt b i))

  two : (i : ℕ) → bit_at (bit_and (bit_or x y) b) i ≡ bit_at y i
  two i =
      rw (bit_at_and (bit_or x y) b i, bit_at_or x y i)
      (omega (arith, first i, second i, none i, bit_at-lt x i, bit_at-lt y i, bit_at-lt a i, bit_at-lt b i))

-- ---- lists of bytes

abbrev or_bytes : List ℕ → List ℕ → List ℕ
or_bytes = bytewise bit_or

zero_suc : (n : ℕ) → 0 ≡ suc n → ⊥
zero_suc n e = omega (arith, e)

no_bit : (n : ℕ) → some_bit n ≡ false → n ≡ 0
no_bit n e = grind (arith, nat_tests)

-- what two masks leave of one vector differs in no bit of both
pub none_apart : (vector one two : List ℕ)
    → list_any some_bit (and_bytes (and_bytes (xor_bytes (and_bytes vector one) (and_bytes vector two)) one) two) ≡ false
none_apart [] one two = refl
none_apart (v ∷ vector) [] two = refl
none_apart (v ∷ vector) (a ∷ one) [] = refl
none_apart (v ∷ vector) (a ∷ one) (b ∷ two) = rw (same_in_both v a b) (none_apart vector one two)

-- values that differ in no bit of both masks are those of one vector
shared : (xs ys one two : List ℕ) → length xs ≡ length ys → and_bytes xs one ≡ xs → and_bytes ys two ≡ ys
    → list_any some_bit (and_bytes (and_bytes (xor_bytes xs ys) one) two) ≡ false
    → (and_bytes (or_bytes xs ys) one ≡ xs) × (and_bytes (or_bytes xs ys) two ≡ ys)
shared [] [] one two long p q none = (refl, refl)
shared [] (y ∷ ys) one two long p q none = absurd (omega arith)
shared (x ∷ xs) [] one two long p q none = absurd (omega arith)
shared (x ∷ xs) (y ∷ ys) [] two long p q none = absurd (zero_suc (length xs) (ap length p))
shared (x ∷ xs) (y ∷ ys) (a ∷ one) [] long p q none = absurd (zero_suc (length ys) (ap length q))
shared (x ∷ xs) (y ∷ ys) (a ∷ one) (b ∷ two) long p q none =
    let parts = or_parts (some_bit (bit_and (bit_and (bit_xor x y) a) b)) (list_any some_bit (and_bytes (and_bytes (xor_bytes xs ys) one) two)) none in
    let here = together x y a b (ap (λ l. get_or l 0 0) p) (ap (λ l. get_or l 0 0) q) (no_bit (bit_and (bit_and (bit_xor x y) a) b) parts.0) in
    let rest = shared xs ys one two (omega arith) (ap (drop 1) p) (ap (drop 1) q) parts.1 in
    (ap₂ (λ z zs. z ∷ zs) here.0 rest.0, ap₂ (λ z zs. z ∷ zs) here.1 rest.1)

-- ---- filters

-- filters with a bit that tells them apart share no vector
pub none_in_both : (one two : Pattern) → are_disjoint one two ≡ true → AreDisjoint one two
unfolding are_disjoint
none_in_both one two apart vector whole first second =
    let same : list_any some_bit (difference one two) ≡ false = rw (← first, ← second) (none_apart vector (mask_bytes_of one.mask) (mask_bytes_of two.mask)) in
    false≢true (sym same ∙ apart)

-- bits of bytes together are a byte
bytes_together : (xs ys : List ℕ) → All (λ byte. byte < 256) xs → All (λ byte. byte < 256) ys → All (λ byte. byte < 256) (or_bytes xs ys)
bytes_together xs ys p q k d h =
    let long : length (or_bytes xs ys) ≡ min (length xs) (length ys) = length-bytewise bit_or xs ys in
    rw (get_or_default (or_bytes xs ys) k d 0 h, get_or-bytewise bit_or xs ys k (omega (arith, long)) (omega (arith, long)))
    (or_lt 8 (get_or xs k 0) (get_or ys k 0) (p k 0 (omega (arith, long))) (q k 0 (omega (arith, long))))

-- and others share one
pub told_apart : (one two : Pattern) → IsFilter one → IsFilter two → AreDisjoint one two → are_disjoint one two ≡ true
unfolding are_disjoint
told_apart one two p q apart =
    let first = is_vector one p in
    let second = is_vector two q in
    ⊎_elim
    (λ (e : list_any some_bit (difference one two) ≡ true). e)
    (λ (e : list_any some_bit (difference one two) ≡ false).
    let both = shared one.value two.value (mask_bytes_of one.mask) (mask_bytes_of two.mask) (first.long ∙ sym second.long) p.kept q.kept e in
    let vector : IsVector (or_bytes one.value two.value) = record {
      long = omega (arith, length-bytewise bit_or one.value two.value, first.long, second.long);
      bytes = bytes_together one.value two.value first.bytes second.bytes;
    } in
    absurd (apart (or_bytes one.value two.value) vector both.0 both.1))
    (cases_Bool (list_any some_bit (difference one two)))

-- ---- the test of a vector

pub test_is : (pattern : Pattern) (vector : List ℕ) (matched : Bool) → (IsTrue matched ↔ Matches pattern vector) → matched ≡ passes pattern vector
unfolding passes
test_is pattern vector matched exact =
    same_from_decides matched (bytes_eq (and_bytes vector (mask_bytes_of pattern.mask)) pattern.value)
    exact (bytes_eq-Decides (and_bytes vector (mask_bytes_of pattern.mask)) pattern.value)
