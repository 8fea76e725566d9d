-- The entry that is found: a search is blind to the order of entries of which at most one takes a packet.
use Rattle.std.proofs.Common.{◌≡◌, suc, ◌≤◌, Bool, true, false, cond, List, [], ◌∷◌, length, refl, ap, sym, ◌∙◌, arith, map, filter}
use Rattle.std.specs.Prelude.{◌&&◌}
use Rattle.std.specs.List.{All, find}
use Rattle.std.proofs.lemmas.Bool.{false≢true}
use Rattle.std.proofs.lemmas.List.Elements.{All-nil, All-cons, All-head, All-tail}
use Rattle.lists.specs.Sorting.{put_by, sort_by}
use Rattle.lists.proofs.SortLemmas.{OnlyOne, find_sorted}

-- ---- tests that agree

pub filter_alike : {X : Type 0} (p q : X → Bool) → ((x : X) → p x ≡ q x) → (xs : List X) → filter p xs ≡ filter q xs
filter_alike p q same [] = refl
filter_alike {X} p q same (x ∷ xs) =
    ap (λ b. cond b (x ∷ filter p xs) (filter p xs)) (same x) ∙ ap (λ ys. cond (q x) (x ∷ ys) ys) (filter_alike p q same xs)

pub filter_none : {X : Type 0} (p : X → Bool) (xs : List X) → All (λ x. p x ≡ false) xs → filter p xs ≡ []
filter_none p [] none = refl
filter_none p (x ∷ xs) none =
    ap (λ b. cond b (x ∷ filter p xs) (filter p xs)) (All-head (λ x. p x ≡ false) x xs none) ∙ filter_none p xs (All-tail (λ x. p x ≡ false) x xs none)

pub filter_mapped : {X Y : Type 0} (p : Y → Bool) (f : X → Y) (r : X → Bool) (xs : List X)
    → length (filter p (map f (filter r xs))) ≡ length (filter (λ x. r x && p (f x)) xs)
filter_mapped p f r [] = refl
filter_mapped {X} {Y} p f r (x ∷ xs) = by (filter_mapped p f r xs) (r x) (p (f x)) refl where
  rest : List X
  rest = filter (λ y. r y && p (f y)) xs

  by : length (filter p (map f (filter r xs))) ≡ length rest → (b c : Bool) → p (f x) ≡ c
      → length (filter p (map f (cond b (x ∷ filter r xs) (filter r xs)))) ≡ length (cond (b && c) (x ∷ rest) rest)
  by more true true e = ap (λ t. length (cond t (f x ∷ filter p (map f (filter r xs))) (filter p (map f (filter r xs))))) e ∙ ap suc more
  by more true false e = ap (λ t. length (cond t (f x ∷ filter p (map f (filter r xs))) (filter p (map f (filter r xs))))) e ∙ more
  by more false c e = more

-- ---- how many pass

count_put : {X : Type 0} (p : X → Bool) (first : X → X → Bool) (x : X) (ys : List X)
    → length (filter p (put_by first x ys)) ≡ length (filter p (x ∷ ys))
count_put p first x [] = refl
count_put {X} p first x (y ∷ ys) = by (count_put p first x ys) (first x y) where
  by : length (filter p (put_by first x ys)) ≡ length (filter p (x ∷ ys)) → (b : Bool)
      → length (filter p (cond b (x ∷ y ∷ ys) (y ∷ put_by first x ys))) ≡ length (filter p (x ∷ y ∷ ys))
  by more true = refl
  by more false = both (p x) (p y) more where
    both : (a b : Bool) → length (filter p (put_by first x ys)) ≡ length (cond a (x ∷ filter p ys) (filter p ys))
        → length (cond b (y ∷ filter p (put_by first x ys)) (filter p (put_by first x ys)))
        ≡ length (cond a (x ∷ cond b (y ∷ filter p ys) (filter p ys)) (cond b (y ∷ filter p ys) (filter p ys)))
    both true true e = ap suc e
    both true false e = e
    both false true e = ap suc e
    both false false e = e

pub count_sorted : {X : Type 0} (p : X → Bool) (first : X → X → Bool) (xs : List X) → length (filter p (sort_by first xs)) ≡ length (filter p xs)
count_sorted p first [] = refl
count_sorted p first (x ∷ xs) = count_put p first x (sort_by first xs) ∙ by (p x) (count_sorted p first xs) where
  by : (b : Bool) → length (filter p (sort_by first xs)) ≡ length (filter p xs)
      → length (cond b (x ∷ filter p (sort_by first xs)) (filter p (sort_by first xs))) ≡ length (cond b (x ∷ filter p xs) (filter p xs))
  by true e = ap suc e
  by false e = e

-- ---- at most one

none_passing : {X : Type 0} (p : X → Bool) (xs : List X) → length (filter p xs) ≤ 0 → All (λ x. p x ≡ false) xs
none_passing p [] few = All-nil (λ x. p x ≡ false)
none_passing {X} p (x ∷ xs) few = by (none_passing p xs) (p x) refl few where
  by : (length (filter p xs) ≤ 0 → All (λ x. p x ≡ false) xs) → (b : Bool) → p x ≡ b → length (cond b (x ∷ filter p xs) (filter p xs)) ≤ 0
      → All (λ x. p x ≡ false) (x ∷ xs)
  by more true e none = absurd (omega arith)
  by more false e none = All-cons (λ x. p x ≡ false) x xs e (more none)

pub only_one : {X : Type 0} (p : X → Bool) (xs : List X) → length (filter p xs) ≤ 1 → OnlyOne p xs
only_one p [] few = tt
only_one {X} p (x ∷ xs) few = by (only_one p xs) (p x) refl few where
  by : (length (filter p xs) ≤ 1 → OnlyOne p xs) → (b : Bool) → p x ≡ b → length (cond b (x ∷ filter p xs) (filter p xs)) ≤ 1
      → (p x ≡ true → All (λ y. p y ≡ false) xs) × OnlyOne p xs
  by more true e one = (λ t. none_passing p xs (omega arith), more (omega arith))
  by more false e one = (λ t. absurd (false≢true (sym e ∙ t)), more one)

-- of two lists that are one in order the same is found, where at most one of its elements passes
pub same_found : {X : Type 0} (p : X → Bool) (first : X → X → Bool) (xs ys : List X) → sort_by first xs ≡ sort_by first ys
    → length (filter p ys) ≤ 1 → find p xs ≡ find p ys
same_found p first xs ys same few =
    let count : length (filter p xs) ≡ length (filter p ys) =
    sym (count_sorted p first xs) ∙ ap (λ zs. length (filter p zs)) same ∙ count_sorted p first ys in
    sym (find_sorted p first xs (only_one p xs (omega arith))) ∙ ap (find p) same ∙ find_sorted p first ys (only_one p ys few)
