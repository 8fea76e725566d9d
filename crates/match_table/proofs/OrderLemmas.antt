-- The order of entries, and what their filters keep apart.
use Rattle.std.proofs.Common.{◌≡◌, ◌⊎◌, ℕ, suc, Bool, true, false, not, List, [], ◌∷◌, bit_and, bit_xor, Ordering, refl, sym, ap, ◌∙◌, subst, inl, inr, arith}
use Rattle.std.specs.declared.cmp.Ordering.TheVariants.{Less, Equal, Greater}
use Rattle.std.specs.Cmp.{IsTotalOrder}
use Rattle.std.specs.Cmp.Lexicographic.{slice_cmp}
use Rattle.std.specs.List.{All, AllPairs, find, list_any}
use Rattle.std.specs.Ordering.{nat_cmp, is_lt, is_eq, ordering_then, ordering_reverse}
use Rattle.std.specs.Str.{bytes_eq}
use Rattle.std.proofs.lemmas.Bool.{false≢true}
use Rattle.std.proofs.lemmas.Cmp.{nat_list_cmp_total, then_total, on_total, tied_itself}
use Rattle.std.proofs.lemmas.Map.Text.{is_eq-slice_cmp}
use Rattle.std.proofs.lemmas.Slice.Eq.{bytes_eq-Decides}
use Rattle.std.proofs.lemmas.List.Elements.{All-weaker}
use Rattle.std.proofs.lemmas.Nat.Bits.{same_from_bits, bit_at_and, bit_at_xor, bit_at-lt, bit_at-zero}
use Rattle.key_mask.specs.Bytes.{and_bytes, xor_bytes}
use Rattle.key_mask.specs.Masks.{mask_bytes_of}
use Rattle.match_table.specs.declared.entries.Entry.{Entry}
use Rattle.task_filters.specs.Filters.{Pattern, passes, are_disjoint, difference, some_bit}
use Rattle.lists.specs.Sorting.{Rising}
use Rattle.match_table.specs.Tables.{takes, has_mask, order, comes_first, by_rank, mask_of, StandApart}
use Rattle.lists.proofs.SortLemmas.{Differ, Transitive, Differing, OnlyOne, sorted_rises, find_sorted}
use Rattle.task_filters.proofs.FilterLemmas.{none_apart}
use Rattle.match_table.proofs.RunLemmas.{IsByKey, KeyRises}

-- ---- bytes

pub same_bytes : (xs ys : List ℕ) → bytes_eq xs ys ≡ true → xs ≡ ys
same_bytes xs ys e = (bytes_eq-Decides xs ys).0 e

pub bytes_same : (xs ys : List ℕ) → xs ≡ ys → bytes_eq xs ys ≡ true
bytes_same xs ys e = (bytes_eq-Decides xs ys).1 e

pub cmp_equal : (xs ys : List ℕ) → slice_cmp nat_cmp xs ys ≡ Equal → xs ≡ ys
cmp_equal xs ys e = same_bytes xs ys (sym (is_eq-slice_cmp xs ys) ∙ ap is_eq e)

pub cmp_same : (xs ys : List ℕ) → xs ≡ ys → slice_cmp nat_cmp xs ys ≡ Equal
cmp_same xs ys e = subst (λ (zs : List ℕ). slice_cmp nat_cmp xs zs ≡ Equal) e (tied_itself nat_list_cmp_total xs)

-- ---- the order

pub order_total : IsTotalOrder order
order_total = then_total (on_total (λ (e : Entry). (mask_of e)) nat_list_cmp_total) (on_total (λ (e : Entry). e.filter.value) nat_list_cmp_total)

pub is_less : (o : Ordering) → is_lt o ≡ true → o ≡ Less
is_less Less e = refl
is_less Equal e = absurd (false≢true e)
is_less Greater e = absurd (false≢true e)

pub first_transitive : Transitive comes_first
unfolding comes_first
first_transitive x y z e f = ap is_lt (order_total.trans x y z (is_less (order x y) e) (is_less (order y z) f))

turned : (o p : Ordering) → o ≡ ordering_reverse p → (p ≡ Equal → ⊥) → is_lt o ≡ not (is_lt p)
turned o Less e ne = ap is_lt e
turned o Equal e ne = absurd (ne refl)
turned o Greater e ne = ap is_lt e

then_equal : (o p : Ordering) → ordering_then o p ≡ Equal → (o ≡ Equal) × (p ≡ Equal)
then_equal Less p e = cc
then_equal Equal p e = (refl, e)
then_equal Greater p e = cc

-- ---- filters

zero_xor : (v : ℕ) → bit_xor v v ≡ 0
zero_xor v = same_from_bits (bit_xor v v) 0 (λ i. rw (bit_at_xor v v i, bit_at-zero i) (omega (arith, bit_at-lt v i)))

zero_and : (a : ℕ) → bit_and 0 a ≡ 0
zero_and a = same_from_bits (bit_and 0 a) 0 (λ i. rw (bit_at_and 0 a i, bit_at-zero i) (omega (arith, bit_at-lt a i)))

none_differ : (v a b : ℕ) → bit_and (bit_and (bit_xor v v) a) b ≡ 0
none_differ v a b = rw (zero_xor v, zero_and a, zero_and b) refl

no_difference : (value one two : List ℕ) → list_any some_bit (and_bytes (and_bytes (xor_bytes value value) one) two) ≡ false
no_difference [] one two = refl
no_difference (v ∷ value) [] two = refl
no_difference (v ∷ value) (a ∷ one) [] = refl
no_difference (v ∷ value) (a ∷ one) (b ∷ two) = rw (none_differ v a b) (no_difference value one two)

-- disjoint filters differ in their mask or their value
pub differ : (one two : Entry) → are_disjoint one.filter two.filter ≡ true → Differ comes_first one two
unfolding comes_first are_disjoint
differ one two apart =
    turned (order one two) (order two one) (order_total.antisymm one two)
    (λ e. let both = then_equal (slice_cmp nat_cmp (mask_of two) (mask_of one)) (slice_cmp nat_cmp two.filter.value one.filter.value) e in
    let value : two.filter.value ≡ one.filter.value = cmp_equal two.filter.value one.filter.value both.1 in
    let none : list_any some_bit (difference one.filter two.filter) ≡ false =
    subst (λ (v : List ℕ). list_any some_bit (and_bytes (and_bytes (xor_bytes one.filter.value v) (mask_of one)) (mask_of two)) ≡ false) (sym value)
    (no_difference one.filter.value (mask_of one) (mask_of two)) in
    false≢true (sym none ∙ apart))

-- no vector passes two disjoint filters
pub passes_one : (one two : Pattern) (vector : List ℕ) → are_disjoint one two ≡ true → passes one vector ≡ true → passes two vector ≡ false
unfolding passes are_disjoint
passes_one one two vector apart first = no (bytes_eq (and_bytes vector (mask_bytes_of two.mask)) two.value) refl where
  no : (b : Bool) → bytes_eq (and_bytes vector (mask_bytes_of two.mask)) two.value ≡ b → bytes_eq (and_bytes vector (mask_bytes_of two.mask)) two.value ≡ false
  no true e =
      let p = same_bytes (and_bytes vector (mask_bytes_of one.mask)) one.value first in
      let q = same_bytes (and_bytes vector (mask_bytes_of two.mask)) two.value e in
      let none : list_any some_bit (difference one two) ≡ false = rw (← p, ← q) (none_apart vector (mask_bytes_of one.mask) (mask_bytes_of two.mask)) in
      absurd (false≢true (sym none ∙ apart))
  no false e = e

-- ---- masks

pub by_mask : IsByKey mask_of has_mask
by_mask = record {
  same = λ m x e. same_bytes m (mask_of x) e;
  back = λ x. bytes_same (mask_of x) (mask_of x) refl;
}

pub masks_upto : (one two : Entry) → comes_first one two ≡ true → (slice_cmp nat_cmp (mask_of one) (mask_of two) ≡ Less) ⊎ (mask_of one ≡ mask_of two)
unfolding comes_first
masks_upto one two first = by_cases (slice_cmp nat_cmp (mask_of one) (mask_of two)) refl where
  by_cases : (o : Ordering) → slice_cmp nat_cmp (mask_of one) (mask_of two) ≡ o
      → (slice_cmp nat_cmp (mask_of one) (mask_of two) ≡ Less) ⊎ (mask_of one ≡ mask_of two)
  by_cases Less e = inl e
  by_cases Equal e = inr (cmp_equal (mask_of one) (mask_of two) e)
  by_cases Greater e = absurd (false≢true (rw e at first))

less_itself : (xs : List ℕ) → slice_cmp nat_cmp xs xs ≡ Less → ⊥
less_itself xs e = let same = tied_itself nat_list_cmp_total xs in let no : Less ≡ Equal = sym e ∙ same in cc

pub mask_rises : KeyRises comes_first mask_of
mask_rises x y z first second same = pick (masks_upto x y first) (masks_upto y z second) where
  pick : (slice_cmp nat_cmp (mask_of x) (mask_of y) ≡ Less) ⊎ (mask_of x ≡ mask_of y)
      → (slice_cmp nat_cmp (mask_of y) (mask_of z) ≡ Less) ⊎ (mask_of y ≡ mask_of z) → mask_of x ≡ mask_of y
  pick (inr e) other = e
  pick (inl e) (inr f) = same ∙ sym f
  pick (inl e) (inl f) =
      let up : slice_cmp nat_cmp (mask_of x) (mask_of z) ≡ Less = nat_list_cmp_total.trans (mask_of x) (mask_of y) (mask_of z) e f in
      absurd (less_itself (mask_of z) (subst (λ (m : List ℕ). slice_cmp nat_cmp m (mask_of z) ≡ Less) same up))

-- ---- entries that stand apart

pub pairs_first : {X : Type 0} (R : X → X → Type 0) (x : X) (xs : List X) → AllPairs R (x ∷ xs) → All (R x) xs
pairs_first R x xs pairs k d h = pairs 0 (suc k) d (omega arith) (omega arith)

pub pairs_rest : {X : Type 0} (R : X → X → Type 0) (x : X) (xs : List X) → AllPairs R (x ∷ xs) → AllPairs R xs
pairs_rest R x xs pairs i j d h l = pairs (suc i) (suc j) d (omega arith) (omega arith)

pub apart_differ : (entries : List Entry) → AllPairs StandApart entries → Differing comes_first entries
apart_differ [] pairs = tt
apart_differ (x ∷ xs) pairs =
    (All-weaker (StandApart x) (Differ comes_first x) (λ y s. differ x y s.filters) xs (pairs_first StandApart x xs pairs), apart_differ xs (pairs_rest StandApart x xs pairs))

pub apart_one : (vector : List ℕ) (entries : List Entry) → AllPairs StandApart entries → OnlyOne (takes vector) entries
apart_one vector [] pairs = tt
apart_one vector (x ∷ xs) pairs = (
  λ e. All-weaker (StandApart x) (λ y. takes vector y ≡ false) (λ y s. passes_one x.filter y.filter vector s.filters e) xs (pairs_first StandApart x xs pairs),
  apart_one vector xs (pairs_rest StandApart x xs pairs),
)

pub rank_rises : (entries : List Entry) → AllPairs StandApart entries → Rising comes_first (by_rank entries)
rank_rises entries apart = sorted_rises comes_first first_transitive entries (apart_differ entries apart)

pub rank_find : (vector : List ℕ) (entries : List Entry) → AllPairs StandApart entries → find (takes vector) (by_rank entries) ≡ find (takes vector) entries
rank_find vector entries apart = find_sorted (takes vector) comes_first entries (apart_one vector entries apart)
