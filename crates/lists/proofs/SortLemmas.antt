-- Lists put in order.
use Rattle.std.proofs.Common.{◌≡◌, ℕ, zero, suc, ◌+◌, ◌<◌, ◌≤◌, Bool, true, false, not, cond, List, [], ◌∷◌, ◌++◌, length, get_or, take, drop, Option, Some, None, refl, sym, ap, ◌∙◌, subst, arith}
use Rattle.std.specs.List.{All, AllPairs, find, position_or_len, list_any}
use Rattle.std.proofs.lemmas.Bool.{false≢true}
use Rattle.std.proofs.lemmas.List.Elements.{All-nil, All-cons, All-head, All-tail, All-weaker}
use Rattle.lists.specs.Sorting.{put_by, sort_by, Rising, cut_by}

-- of two elements exactly one comes before the other
abbrev pub Differ : {X : Type 0} → (X → X → Bool) → X → X → Type 0
Differ first x y = first x y ≡ not (first y x)

abbrev pub Transitive : {X : Type 0} → (X → X → Bool) → Type 0
Transitive {X} first = (x y z : X) → first x y ≡ true → first y z ≡ true → first x z ≡ true

flip : {X : Type 0} (a b : Bool) (u v : X) → a ≡ not b → cond a u v ≡ cond b v u
flip a true u v e = ap (λ c. cond c u v) e
flip a false u v e = ap (λ c. cond c u v) e

-- a test that cannot pass
not_first : {X : Type 0} (first : X → X → Bool) → Transitive first → (x y z : X) (b : Bool) → first x y ≡ b → first y z ≡ true → first x z ≡ false → first x y ≡ false
not_first first trans x y z true e f g = absurd (false≢true (sym g ∙ trans x y z e f))
not_first first trans x y z false e f g = e

commute_more : {X : Type 0} (first : X → X → Bool) → Transitive first → (x y : X) → Differ first x y → (z : X) (zs : List X)
    → put_by first x (put_by first y zs) ≡ put_by first y (put_by first x zs)
    → (a b : Bool) → first x z ≡ a → first y z ≡ b
    → put_by first x (put_by first y (z ∷ zs)) ≡ put_by first y (put_by first x (z ∷ zs))
commute_more first trans x y differ z zs rest true true p q = simp (p, q) (flip (first x y) (first y x) (x ∷ y ∷ z ∷ zs) (y ∷ x ∷ z ∷ zs) differ)
commute_more first trans x y differ z zs rest true false p q =
    let no_yx : first y x ≡ false = not_first first trans y x z (first y x) refl p q in
    simp (p, q, no_yx)
commute_more first trans x y differ z zs rest false true p q =
    let no_xy : first x y ≡ false = not_first first trans x y z (first x y) refl q p in
    simp (p, q, no_xy)
commute_more first trans x y differ z zs rest false false p q = simp (p, q) (ap (λ l. z ∷ l) rest)

pub put_commutes : {X : Type 0} (first : X → X → Bool) → Transitive first → (x y : X) → Differ first x y → (zs : List X)
    → put_by first x (put_by first y zs) ≡ put_by first y (put_by first x zs)
put_commutes first trans x y differ [] = flip (first x y) (first y x) (x ∷ y ∷ []) (y ∷ x ∷ []) differ
put_commutes first trans x y differ (z ∷ zs) =
    commute_more first trans x y differ z zs (put_commutes first trans x y differ zs) (first x z) (first y z) refl refl

-- an element in the middle is put last
pub sort_middle : {X : Type 0} (first : X → X → Bool) → Transitive first → (front : List X) (x : X) (back : List X)
    → All (λ y. Differ first y x) front → sort_by first (front ++ x ∷ back) ≡ put_by first x (sort_by first (front ++ back))
sort_middle first trans [] x back differ = refl
sort_middle first trans (y ∷ front) x back differ =
    ap (put_by first y) (sort_middle first trans front x back (All-tail (λ y. Differ first y x) y front differ))
    ∙ put_commutes first trans y x (All-head (λ y. Differ first y x) y front differ) (sort_by first (front ++ back))

-- ---- what holds of each

put_all_more : {X : Type 0} (P : X → Type 0) (first : X → X → Bool) (x y : X) (ys : List X) → P x → All P (y ∷ ys) → All P (put_by first x ys)
    → (b : Bool) → All P (cond b (x ∷ y ∷ ys) (y ∷ put_by first x ys))
put_all_more P first x y ys p all rest true = All-cons P x (y ∷ ys) p all
put_all_more P first x y ys p all rest false = All-cons P y (put_by first x ys) (All-head P y ys all) rest

pub All-put : {X : Type 0} (P : X → Type 0) (first : X → X → Bool) (x : X) (ys : List X) → P x → All P ys → All P (put_by first x ys)
All-put P first x [] p all = All-cons P x [] p all
All-put P first x (y ∷ ys) p all = put_all_more P first x y ys p all (All-put P first x ys p (All-tail P y ys all)) (first x y)

pub All-sorted : {X : Type 0} (P : X → Type 0) (first : X → X → Bool) (xs : List X) → All P xs → All P (sort_by first xs)
All-sorted P first [] all = All-nil P
All-sorted P first (x ∷ xs) all = All-put P first x (sort_by first xs) (All-head P x xs all) (All-sorted P first xs (All-tail P x xs all))

-- ---- order

put_rises_more : {X : Type 0} (first : X → X → Bool) → Transitive first → (x y : X) (ys : List X) → Differ first x y
    → Rising first (y ∷ ys) → Rising first (put_by first x ys)
    → (b : Bool) → first x y ≡ b → Rising first (cond b (x ∷ y ∷ ys) (y ∷ put_by first x ys))
put_rises_more first trans x y ys differ rises rest true e =
    (All-cons (λ z. first x z ≡ true) y ys e (All-weaker (λ z. first y z ≡ true) (λ z. first x z ≡ true) (λ z f. trans x y z e f) ys rises.0), rises)
put_rises_more first trans x y ys differ rises rest false e =
    let back : first y x ≡ true = turned (first y x) (sym e ∙ differ) in
    (All-put (λ z. first y z ≡ true) first x ys back rises.0, rest) where
      turned : (b : Bool) → false ≡ not b → b ≡ true
      turned true f = refl
      turned false f = absurd (false≢true f)

pub put_rises : {X : Type 0} (first : X → X → Bool) → Transitive first → (x : X) (ys : List X) → All (λ y. Differ first x y) ys
    → Rising first ys → Rising first (put_by first x ys)
put_rises first trans x [] differ rises = (All-nil (λ z. first x z ≡ true), tt)
put_rises first trans x (y ∷ ys) differ rises =
    put_rises_more first trans x y ys (All-head (λ y. Differ first x y) y ys differ) rises
    (put_rises first trans x ys (All-tail (λ y. Differ first x y) y ys differ) rises.1) (first x y) refl

-- the same pair by pair, by recursion
abbrev pub Differing : {X : Type 0} → (X → X → Bool) → List X → Type 0
Differing first [] = Unit {0}
Differing first (x ∷ xs) = All (λ y. Differ first x y) xs × Differing first xs

pub sorted_rises : {X : Type 0} (first : X → X → Bool) → Transitive first → (xs : List X) → Differing first xs → Rising first (sort_by first xs)
sorted_rises first trans [] differ = tt
sorted_rises first trans (x ∷ xs) differ =
    put_rises first trans x (sort_by first xs) (All-sorted (λ y. Differ first x y) first xs differ.0) (sorted_rises first trans xs differ.1)

-- ---- a search that has one answer at most

find_put_more : {X : Type 0} (p : X → Bool) (first : X → X → Bool) (x y : X) (ys : List X)
    → find p (put_by first x ys) ≡ find p (x ∷ ys) → (a b : Bool) → p x ≡ a → p y ≡ b → (a ≡ true → b ≡ false)
    → (c : Bool) → find p (cond c (x ∷ y ∷ ys) (y ∷ put_by first x ys)) ≡ find p (x ∷ y ∷ ys)
find_put_more p first x y ys rest a b e f one true = refl
find_put_more p first x y ys rest true true e f one false = absurd (false≢true (sym (one refl)))
find_put_more p first x y ys rest true false e f one false = rw (f) (rest ∙ simp e)
find_put_more p first x y ys rest false b e f one false = simp (e, rest)

pub find_put : {X : Type 0} (p : X → Bool) (first : X → X → Bool) (x : X) (ys : List X) → (p x ≡ true → All (λ y. p y ≡ false) ys)
    → find p (put_by first x ys) ≡ find p (x ∷ ys)
find_put p first x [] one = refl
find_put p first x (y ∷ ys) one =
    find_put_more p first x y ys (find_put p first x ys (λ e. All-tail (λ y. p y ≡ false) y ys (one e)))
    (p x) (p y) refl refl (λ e. All-head (λ y. p y ≡ false) y ys (one e)) (first x y)

-- each element that passes is the only one
abbrev pub OnlyOne : {X : Type 0} → (X → Bool) → List X → Type 0
OnlyOne p [] = Unit {0}
OnlyOne p (x ∷ xs) = (p x ≡ true → All (λ y. p y ≡ false) xs) × OnlyOne p xs

find_cons : {X : Type 0} (p : X → Bool) (x : X) (xs ys : List X) → find p xs ≡ find p ys → find p (x ∷ xs) ≡ find p (x ∷ ys)
find_cons p x xs ys e = ap (λ o. cond (p x) (Some x) o) e

pub find_sorted : {X : Type 0} (p : X → Bool) (first : X → X → Bool) (xs : List X) → OnlyOne p xs → find p (sort_by first xs) ≡ find p xs
find_sorted p first [] one = refl
find_sorted p first (x ∷ xs) one =
    find_put p first x (sort_by first xs) (λ e. All-sorted (λ y. p y ≡ false) first xs (one.0 e))
    ∙ find_cons p x (sort_by first xs) xs (find_sorted p first xs one.1)

-- ---- one element out again

cut_put_more : {X : Type 0} (p : X → Bool) (first : X → X → Bool) (x y : X) (ys : List X) → p x ≡ true → p y ≡ false
    → cut_by p (put_by first x ys) ≡ ys → (b : Bool) → cut_by p (cond b (x ∷ y ∷ ys) (y ∷ put_by first x ys)) ≡ y ∷ ys
cut_put_more p first x y ys e f rest true = simp e
cut_put_more p first x y ys e f rest false = simp (f, rest)

pub cut_put : {X : Type 0} (p : X → Bool) (first : X → X → Bool) (x : X) (ys : List X) → p x ≡ true → All (λ y. p y ≡ false) ys
    → cut_by p (put_by first x ys) ≡ ys
cut_put p first x [] e none = simp e
cut_put p first x (y ∷ ys) e none =
    cut_put_more p first x y ys e (All-head (λ y. p y ≡ false) y ys none)
    (cut_put p first x ys e (All-tail (λ y. p y ≡ false) y ys none)) (first x y)
