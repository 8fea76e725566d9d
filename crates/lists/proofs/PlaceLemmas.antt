-- The first place at which a test passes.
use Rattle.std.proofs.Common.{◌≡◌, ℕ, zero, suc, ◌+◌, ◌<◌, ◌≤◌, Bool, true, false, not, cond, ltb, List, [], ◌∷◌, ◌++◌, length, get_or, take, drop, Option, Some, None, refl, sym, ap, ◌∙◌, arith}
use Rattle.std.specs.List.{All, find, position, position_or_len, list_any, insert, remove}
use Rattle.std.proofs.lemmas.Bool.{false≢true}
use Rattle.std.proofs.lemmas.Bool.Decides.{nat_tests}
use Rattle.std.proofs.lemmas.List.Elements.{All-head, All-tail}
use Rattle.std.proofs.lemmas.List.Folds.{find_at}
use Rattle.std.proofs.lemmas.List.Sums.{prefix_len-le-length}
use Rattle.std.proofs.lemmas.Option.{slice_get-get_or}
use Rattle.lists.specs.Sorting.{put_by, cut_by}

place_some : (n len i : ℕ) (b : Bool) → ltb n len ≡ b → cond b (Some n) None ≡ Some i → (i ≡ n) × (i < len)
place_some n len i true e h = let same : n ≡ i = cc in (sym same, grind (arith, nat_tests))
place_some n len i false e h = cc

place_none : (n len : ℕ) (b : Bool) → ltb n len ≡ b → cond b (Some n) None ≡ None → len ≤ n
place_none n len true e h = cc
place_none n len false e h = grind (arith, nat_tests)

pub position_some : {X : Type 0} (p : X → Bool) (xs : List X) (i : ℕ) → Some i ≡ position p xs → (i ≡ position_or_len p xs) × (i < length xs)
position_some p xs i e = place_some (position_or_len p xs) (length xs) i (ltb (position_or_len p xs) (length xs)) refl (sym e)

pub position_none : {X : Type 0} (p : X → Bool) (xs : List X) → None ≡ position p xs → length xs ≡ position_or_len p xs
position_none p xs e =
    let past : length xs ≤ position_or_len p xs = place_none (position_or_len p xs) (length xs) (ltb (position_or_len p xs) (length xs)) refl (sym e) in
    omega (arith, prefix_len-le-length (λ x. not (p x)) xs)

pub position_within : {X : Type 0} (p : X → Bool) (xs : List X) → position_or_len p xs ≤ length xs
position_within p xs = prefix_len-le-length (λ x. not (p x)) xs

any_more : {X : Type 0} (p : X → Bool) (x : X) (xs : List X) → (list_any p xs ≡ true → position_or_len p xs < length xs)
    → (b : Bool) → p x ≡ b → list_any p (x ∷ xs) ≡ true → position_or_len p (x ∷ xs) < length (x ∷ xs)
any_more p x xs rest true e any = rw e (omega arith)
any_more p x xs rest false e any = let more : position_or_len p xs < length xs = rest (rw e at any) in rw e (omega arith)

pub any_within : {X : Type 0} (p : X → Bool) (xs : List X) → list_any p xs ≡ true → position_or_len p xs < length xs
any_within p [] any = absurd (false≢true any)
any_within p (x ∷ xs) any = any_more p x xs (any_within p xs) (p x) refl any

put_at_more : {X : Type 0} (first : X → X → Bool) (x y : X) (ys : List X) → put_by first x ys ≡ insert ys (position_or_len (first x) ys) x
    → (b : Bool) → first x y ≡ b → put_by first x (y ∷ ys) ≡ insert (y ∷ ys) (position_or_len (first x) (y ∷ ys)) x
put_at_more first x y ys rest true e = simp e
put_at_more first x y ys rest false e =
    let one : 1 + position_or_len (first x) ys ≡ suc (position_or_len (first x) ys) = omega arith in
    simp (e, one) (ap (λ l. y ∷ l) rest)

pub put_at : {X : Type 0} (first : X → X → Bool) (x : X) (ys : List X) → put_by first x ys ≡ insert ys (position_or_len (first x) ys) x
put_at first x [] = refl
put_at first x (y ∷ ys) = put_at_more first x y ys (put_at first x ys) (first x y) refl

cut_at_more : {X : Type 0} (p : X → Bool) (x : X) (xs : List X) → cut_by p xs ≡ remove xs (position_or_len p xs)
    → (b : Bool) → p x ≡ b → cut_by p (x ∷ xs) ≡ remove (x ∷ xs) (position_or_len p (x ∷ xs))
cut_at_more p x xs rest true e = simp e
cut_at_more p x xs rest false e =
    let one : 1 + position_or_len p xs ≡ suc (position_or_len p xs) = omega arith in
    simp (e, one) (ap (λ l. x ∷ l) rest)

pub cut_at : {X : Type 0} (p : X → Bool) (xs : List X) → cut_by p xs ≡ remove xs (position_or_len p xs)
cut_at p [] = refl
cut_at p (x ∷ xs) = cut_at_more p x xs (cut_at p xs) (p x) refl

-- the element at the first place is what a search finds
pub found_at : {X : Type 0} (p : X → Bool) (xs : List X) (x : X) → position_or_len p xs < length xs → x ≡ get_or xs (position_or_len p xs) x
    → find p xs ≡ Some x
found_at p xs x within read = find_at p xs ∙ slice_get-get_or xs (position_or_len p xs) x within ∙ ap Some (sym read)

-- ---- searches in parts

find_none_more : {X : Type 0} (p : X → Bool) (x : X) (xs ys : List X) → (find p xs ≡ None → find p (xs ++ ys) ≡ find p ys)
    → (b : Bool) → p x ≡ b → find p (x ∷ xs) ≡ None → find p (x ∷ (xs ++ ys)) ≡ find p ys
find_none_more p x xs ys rest true e none = let some : Some x ≡ None = rw e at none in cc
find_none_more p x xs ys rest false e none = rw e (rest (rw e at none))

pub find_none : {X : Type 0} (p : X → Bool) (xs ys : List X) → find p xs ≡ None → find p (xs ++ ys) ≡ find p ys
find_none p [] ys none = refl
find_none p (x ∷ xs) ys none = find_none_more p x xs ys (find_none p xs ys) (p x) refl none

find_some_more : {X : Type 0} (p : X → Bool) (x y : X) (xs ys : List X) → (find p xs ≡ Some y → find p (xs ++ ys) ≡ Some y)
    → (b : Bool) → p x ≡ b → find p (x ∷ xs) ≡ Some y → find p (x ∷ (xs ++ ys)) ≡ Some y
find_some_more p x y xs ys rest true e some = rw e (rw e at some)
find_some_more p x y xs ys rest false e some = rw e (rest (rw e at some))

pub find_some : {X : Type 0} (p : X → Bool) (xs ys : List X) (y : X) → find p xs ≡ Some y → find p (xs ++ ys) ≡ Some y
find_some p [] ys y some = cc
find_some p (x ∷ xs) ys y some = find_some_more p x y xs ys (find_some p xs ys y) (p x) refl some

-- the one element that passes, at its place
pub find_there : {X : Type 0} (p : X → Bool) (xs : List X) (d : X) (i : ℕ) → i < length xs → p (get_or xs i d) ≡ true
    → ((k : ℕ) → k < i → p (get_or xs k d) ≡ false) → find p xs ≡ Some (get_or xs i d)
find_there p [] d i within here before = absurd (omega arith)
find_there p (x ∷ xs) d zero within here before = simp here
find_there p (x ∷ xs) d (suc i) within here before =
    let no : p x ≡ false = before 0 (omega arith) in
    rw no (find_there p xs d i (omega arith) here (λ k h. before (suc k) (omega arith)))

pub find_nowhere : {X : Type 0} (p : X → Bool) (xs : List X) → All (λ x. p x ≡ false) xs → find p xs ≡ None
find_nowhere p [] none = refl
find_nowhere p (x ∷ xs) none = rw (All-head (λ x. p x ≡ false) x xs none) (find_nowhere p xs (All-tail (λ x. p x ≡ false) x xs none))

-- two tests that agree on each element
pub find_agree : {X : Type 0} (p q : X → Bool) (xs : List X) → All (λ x. p x ≡ q x) xs → find p xs ≡ find q xs
find_agree p q [] same = refl
find_agree p q (x ∷ xs) same =
    rw (All-head (λ x. p x ≡ q x) x xs same) (ap (λ o. cond (q x) (Some x) o) (find_agree p q xs (All-tail (λ x. p x ≡ q x) x xs same)))
