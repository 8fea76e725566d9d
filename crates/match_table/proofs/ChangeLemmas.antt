-- An entry more or less, in the list and in order.
use Rattle.std.proofs.Common.{◌≡◌, ◌≢◌, ℕ, ◌+◌, Bool, true, false, cond, ◌||◌, List, [], ◌∷◌, ◌++◌, length, get_or, refl, sym, ap, ◌∙◌, subst, arith}
use Rattle.std.specs.List.{All, AllPairs, list_any, list_all, position_or_len}
use Rattle.std.proofs.lemmas.Bool.{false≢true}
use Rattle.std.proofs.lemmas.Bool.Decides.{nat_tests}
use Rattle.std.proofs.lemmas.List.Elements.{All-nil, All-cons, All-weaker, All-append, All-contains, Contains-append_right}
use Rattle.std.proofs.lemmas.List.{append-nil}
use Rattle.std.proofs.lemmas.List.Quantifiers.{all_pairs_push, all_pairs_remove}
use Rattle.match_table.specs.declared.entries.Entry.{Entry}
use Rattle.lists.specs.Sorting.{sort_by, put_by, cut_by}
use Rattle.match_table.specs.Tables.{has_base, is_apart, admits, comes_first, by_rank, StandApart}
use Rattle.lists.proofs.SortLemmas.{Differ, sort_middle, cut_put, All-sorted}
use Rattle.lists.proofs.PlaceLemmas.{cut_at, any_within}
use Rattle.match_table.proofs.OrderLemmas.{differ, first_transitive, pairs_first, pairs_rest}

-- ---- install

all_more : {X : Type 0} (p : X → Bool) (x : X) (xs : List X) → (list_all p xs ≡ true → All (λ x. p x ≡ true) xs)
    → (b : Bool) → p x ≡ b → list_all p (x ∷ xs) ≡ true → All (λ x. p x ≡ true) (x ∷ xs)
all_more p x xs rest true e all = All-cons (λ x. p x ≡ true) x xs e (rest (rw e at all))
all_more p x xs rest false e all = absurd (false≢true (rw e at all))

pub all_pass : {X : Type 0} (p : X → Bool) (xs : List X) → list_all p xs ≡ true → All (λ x. p x ≡ true) xs
all_pass p [] all = All-nil (λ x. p x ≡ true)
all_pass p (x ∷ xs) all = all_more p x xs (all_pass p xs) (p x) refl all

any_more : {X : Type 0} (p : X → Bool) (x : X) (xs : List X) → (list_any p xs ≡ false → All (λ x. p x ≡ false) xs)
    → (b : Bool) → p x ≡ b → list_any p (x ∷ xs) ≡ false → All (λ x. p x ≡ false) (x ∷ xs)
any_more p x xs rest true e none = absurd (false≢true (sym (rw e at none)))
any_more p x xs rest false e none = All-cons (λ x. p x ≡ false) x xs e (rest (rw e at none))

pub none_pass : {X : Type 0} (p : X → Bool) (xs : List X) → list_any p xs ≡ false → All (λ x. p x ≡ false) xs
none_pass p [] none = All-nil (λ x. p x ≡ false)
none_pass p (x ∷ xs) none = any_more p x xs (none_pass p xs) (p x) refl none

other_base : (one : Entry) (base : ℕ) → has_base base one ≡ false → one.region.base ≢ base
other_base one base e f = grind (arith, nat_tests)

length_put_more : {X : Type 0} (first : X → X → Bool) (x y : X) (ys : List X) → length (put_by first x ys) ≡ length ys + 1
    → (b : Bool) → length (cond b (x ∷ y ∷ ys) (y ∷ put_by first x ys)) ≡ length (y ∷ ys) + 1
length_put_more first x y ys rest true = omega arith
length_put_more first x y ys rest false = omega arith

pub length_put : {X : Type 0} (first : X → X → Bool) (x : X) (ys : List X) → length (put_by first x ys) ≡ length ys + 1
length_put first x [] = omega arith
length_put first x (y ∷ ys) = length_put_more first x y ys (length_put first x ys) (first x y)

pub length_sorted : {X : Type 0} (first : X → X → Bool) (xs : List X) → length (sort_by first xs) ≡ length xs
length_sorted first [] = refl
length_sorted first (x ∷ xs) = omega (arith, length_put first x (sort_by first xs), length_sorted first xs)

-- a new entry put in order
pub rank_push : (entries : List Entry) (entry : Entry) → admits entries entry.filter ≡ true
    → put_by comes_first entry (by_rank entries) ≡ by_rank (entries ++ entry ∷ [])
rank_push entries entry apart =
    ap (λ l. put_by comes_first entry (by_rank l)) (sym (append-nil entries))
    ∙ sym (sort_middle comes_first first_transitive entries entry []
    (All-weaker (λ e. is_apart entry.filter e ≡ true) (λ e. Differ comes_first e entry) (λ e p. differ e entry p) entries (all_pass (is_apart entry.filter) entries apart)))

pub apart_push : (entries : List Entry) (entry : Entry) → AllPairs StandApart entries → admits entries entry.filter ≡ true
    → list_any (has_base entry.region.base) entries ≡ false → AllPairs StandApart (entries ++ entry ∷ [])
apart_push entries entry apart filters bases =
    all_pairs_push StandApart entries entry apart
    (λ k d h. record {
      filters = all_pass (is_apart entry.filter) entries filters k d h;
      bases = other_base (get_or entries k d) entry.region.base (none_pass (has_base entry.region.base) entries bases k d h);
    })

-- ---- uninstall

-- the first that passes, and what stands before and after it
record Split (p : Entry → Bool) (xs : List Entry) : Type 0 where
  front : List Entry
  one : Entry
  back : List Entry
  is : xs ≡ front ++ one ∷ back
  passes : p one ≡ true
  left : cut_by p xs ≡ front ++ back

split_more : (p : Entry → Bool) (x : Entry) (xs : List Entry) → (list_any p xs ≡ true → Split p xs) → (b : Bool) → p x ≡ b
    → list_any p (x ∷ xs) ≡ true → Split p (x ∷ xs)
split_more p x xs rest true e some = record { front = []; one = x; back = xs; is = refl; passes = e; left = simp e }
split_more p x xs rest false e some =
    let part = rest (rw e at some) in
    record {
      front = x ∷ part.front;
      one = part.one;
      back = part.back;
      is = ap (λ l. x ∷ l) part.is;
      passes = part.passes;
      left = simp e (ap (λ l. x ∷ l) part.left);
    }

split : (p : Entry → Bool) (xs : List Entry) → list_any p xs ≡ true → Split p xs
split p [] some = absurd (false≢true some)
split p (x ∷ xs) some = split_more p x xs (split p xs) (p x) refl some

pairs_before : {X : Type 0} (R : X → X → Type 0) (front : List X) (x : X) (back : List X) → AllPairs R (front ++ x ∷ back) → All (λ y. R y x) front
pairs_before R [] x back pairs = All-nil (λ y. R y x)
pairs_before R (y ∷ front) x back pairs =
    let later = pairs_first R y (front ++ x ∷ back) pairs in
    All-cons (λ y. R y x) y front (All-contains (R y) (front ++ x ∷ back) x later (Contains-append_right front (x ∷ back) x (0, omega arith, refl)))
    (pairs_before R front x back (pairs_rest R y (front ++ x ∷ back) pairs))

pairs_after : {X : Type 0} (R : X → X → Type 0) (front : List X) (x : X) (back : List X) → AllPairs R (front ++ x ∷ back) → All (R x) back
pairs_after R [] x back pairs = pairs_first R x back pairs
pairs_after R (y ∷ front) x back pairs = pairs_after R front x back (pairs_rest R y (front ++ x ∷ back) pairs)

base_not : (one two : Entry) (base : ℕ) → has_base base one ≡ true → one.region.base ≢ two.region.base → has_base base two ≡ false
base_not one two base e other = grind (arith, nat_tests)

-- one entry out of the list, and out of the list in order
pub rank_cut : (base : ℕ) (entries : List Entry) → AllPairs StandApart entries → list_any (has_base base) entries ≡ true
    → cut_by (has_base base) (by_rank entries) ≡ by_rank (cut_by (has_base base) entries)
rank_cut base entries apart some =
    let part = split (has_base base) entries some in
    let one = part.one in
    let pairs : AllPairs StandApart (part.front ++ one ∷ part.back) = subst (λ (l : List Entry). AllPairs StandApart l) part.is apart in
    let before = pairs_before StandApart part.front one part.back pairs in
    let after = pairs_after StandApart part.front one part.back pairs in
    let others : All (λ e. has_base base e ≡ false) (part.front ++ part.back) =
    All-append (λ e. has_base base e ≡ false) part.front part.back
    (All-weaker (λ e. StandApart e one) (λ e. has_base base e ≡ false) (λ e s. base_not one e base part.passes (λ f. s.bases (sym f))) part.front before)
    (All-weaker (StandApart one) (λ e. has_base base e ≡ false) (λ e s. base_not one e base part.passes s.bases) part.back after) in
    ap (λ l. cut_by (has_base base) (by_rank l)) part.is
    ∙ ap (cut_by (has_base base)) (sort_middle comes_first first_transitive part.front one part.back
    (All-weaker (λ e. StandApart e one) (λ e. Differ comes_first e one) (λ e s. differ e one s.filters) part.front before))
    ∙ cut_put (has_base base) comes_first one (by_rank (part.front ++ part.back)) part.passes
    (All-sorted (λ e. has_base base e ≡ false) comes_first (part.front ++ part.back) others)
    ∙ ap by_rank (sym part.left)

pub apart_cut : (base : ℕ) (entries : List Entry) → AllPairs StandApart entries → list_any (has_base base) entries ≡ true
    → AllPairs StandApart (cut_by (has_base base) entries)
apart_cut base entries apart some =
    rw (cut_at (has_base base) entries)
    (all_pairs_remove StandApart entries (position_or_len (has_base base) entries) (any_within (has_base base) entries some) apart)

any_put_more : {X : Type 0} (p : X → Bool) (first : X → X → Bool) (x y : X) (ys : List X) → list_any p (put_by first x ys) ≡ list_any p (x ∷ ys)
    → (a b c : Bool) → p x ≡ a → p y ≡ b → list_any p (cond c (x ∷ y ∷ ys) (y ∷ put_by first x ys)) ≡ list_any p (x ∷ y ∷ ys)
any_put_more p first x y ys rest a b true e f = refl
any_put_more p first x y ys rest true true false e f = simp (e, f)
any_put_more p first x y ys rest true false false e f = rw f (rest ∙ simp e)
any_put_more p first x y ys rest false true false e f = simp (e, f)
any_put_more p first x y ys rest false false false e f = rw f (rest ∙ simp e)

any_put : {X : Type 0} (p : X → Bool) (first : X → X → Bool) (x : X) (ys : List X) → list_any p (put_by first x ys) ≡ list_any p (x ∷ ys)
any_put p first x [] = refl
any_put p first x (y ∷ ys) = any_put_more p first x y ys (any_put p first x ys) (p x) (p y) (first x y) refl refl

pub any_sorted : {X : Type 0} (p : X → Bool) (first : X → X → Bool) (xs : List X) → list_any p (sort_by first xs) ≡ list_any p xs
any_sorted p first [] = refl
any_sorted p first (x ∷ xs) = any_put p first x (sort_by first xs) ∙ ap (λ b. p x || b) (any_sorted p first xs)
