-- Where `position` finds the separator, the text is cut.
use Rattle.std.proofs.Common.{◌≡◌, ℕ, ◌+◌, ◌≤◌, ◌==◌, suc, Bool, true, false, not, cond, ltb, List, [], ◌∷◌, length, take, drop, Option, None, Some, position, ◌++◌, ◌&&◌, refl, ap, ◌∙◌, arith, eqb-true}
use Rattle.std.specs.List.{position_or_len, slice_split, onto_first, list_all}
use Rattle.std.proofs.lemmas.Bool.{false≢true}
use Rattle.std.proofs.lemmas.Bool.Decides.{nat_tests}
use Rattle.std.proofs.lemmas.List.{take_all}
use Rattle.texts.specs.Cuts.{front, back, parts, tail_of}

front_is : (p : ℕ → Bool) (xs : List ℕ) → front p xs ≡ take (position_or_len p xs) xs
front_is p [] = refl
front_is p (x ∷ xs) =
    elim (p x) as (λ b. cond b [] (x ∷ front p xs) ≡ take (cond (not b) (1 + position_or_len p xs) 0) (x ∷ xs)) [
      | true ↦ refl
      | false ↦ let e : 1 + position_or_len p xs ≡ suc (position_or_len p xs) = omega arith in rw e (ap (λ t. x ∷ t) (front_is p xs))
    ]

lt_suc : (n m : ℕ) → ltb (1 + n) (suc m) ≡ ltb n m
lt_suc n m = grind (arith, nat_tests)

zero_lt_suc : (m : ℕ) → ltb 0 (suc m) ≡ true
zero_lt_suc m = grind (arith, nat_tests)

drop_suc : (n x : ℕ) (xs : List ℕ) → drop (1 + n + 1) (x ∷ xs) ≡ drop (n + 1) xs
drop_suc n x xs = let e : 1 + n + 1 ≡ suc (n + 1) = omega arith in rw e refl

back_is : (p : ℕ → Bool) (xs : List ℕ)
    → back p xs ≡ cond (ltb (position_or_len p xs) (length xs)) (Some (drop (position_or_len p xs + 1) xs)) None
back_is p [] = refl
back_is p (x ∷ xs) =
    elim (p x) as (λ b. cond b (Some xs) (back p xs)
    ≡ cond (ltb (cond (not b) (1 + position_or_len p xs) 0) (length (x ∷ xs))) (Some (drop (cond (not b) (1 + position_or_len p xs) 0 + 1) (x ∷ xs))) None) [
      | true ↦ rw (zero_lt_suc (length xs)) refl
      | false ↦ rw (lt_suc (position_or_len p xs) (length xs), drop_suc (position_or_len p xs) x xs) (back_is p xs)
    ]

pub front_found : (p : ℕ → Bool) (xs : List ℕ) (i : ℕ) → position p xs ≡ Some i → front p xs ≡ take i xs
front_found p xs i h =
    elim (ltb (position_or_len p xs) (length xs)) as (λ b. cond b (Some (position_or_len p xs)) None ≡ Some i → front p xs ≡ take i xs) [
      | true ↦ λ e. let same : position_or_len p xs ≡ i = cc in rw (front_is p xs, same) refl
      | false ↦ λ e. cc
    ] h

pub front_none : (p : ℕ → Bool) (xs : List ℕ) → position p xs ≡ None → front p xs ≡ xs
front_none p xs h =
    elim (ltb (position_or_len p xs) (length xs)) as (λ b. ltb (position_or_len p xs) (length xs) ≡ b → cond b (Some (position_or_len p xs)) None ≡ None → front p xs ≡ xs) [
      | true ↦ λ t e. cc
      | false ↦ λ t e. let le : length xs ≤ position_or_len p xs = grind (arith, nat_tests, t) in front_is p xs ∙ take_all (position_or_len p xs) xs le
    ] refl h

pub back_found : (p : ℕ → Bool) (xs : List ℕ) (i : ℕ) → position p xs ≡ Some i → back p xs ≡ Some (drop (i + 1) xs)
back_found p xs i h =
    elim (ltb (position_or_len p xs) (length xs)) as (λ b. ltb (position_or_len p xs) (length xs) ≡ b → cond b (Some (position_or_len p xs)) None ≡ Some i → back p xs ≡ Some (drop (i + 1) xs)) [
      | true ↦ λ t e. let same : position_or_len p xs ≡ i = cc in rw (back_is p xs, t, same) refl
      | false ↦ λ t e. cc
    ] refl h

pub back_none : (p : ℕ → Bool) (xs : List ℕ) → position p xs ≡ None → back p xs ≡ None
back_none p xs h =
    elim (ltb (position_or_len p xs) (length xs)) as (λ b. ltb (position_or_len p xs) (length xs) ≡ b → cond b (Some (position_or_len p xs)) None ≡ None → back p xs ≡ None) [
      | true ↦ λ t e. cc
      | false ↦ λ t e. rw (back_is p xs, t) refl
    ] refl h

pub ruleset cuts = (front_found, front_none, back_found, back_none)

-- a text is what stands before the first separator, and the separator with what stands behind it
pub joined : (c : ℕ) (xs : List ℕ) → xs ≡ front (λ b. b == c) xs ++ tail_of c (back (λ b. b == c) xs)
joined c [] = refl
joined c (x ∷ xs) =
    elim (x == c) as (λ b. (x == c) ≡ b → x ∷ xs ≡ cond b [] (x ∷ front (λ y. y == c) xs) ++ tail_of c (cond b (Some xs) (back (λ y. y == c) xs))) [
      | true ↦ λ t. ap (λ y. y ∷ xs) (eqb-true x c t)
      | false ↦ λ t. ap (λ ys. x ∷ ys) (joined c xs)
    ] refl

-- the parts of what is left, if anything is left
abbrev pub parts_behind : ℕ → Option (List ℕ) → List (List ℕ)
parts_behind separator None = []
parts_behind separator (Some text) = parts separator text

-- the parts of a text are what stands before the first separator, and the parts behind it
pub parts_first : (c : ℕ) (xs : List ℕ) → parts c xs ≡ front (λ b. b == c) xs ∷ parts_behind c (back (λ b. b == c) xs)
parts_first c [] = refl
parts_first c (x ∷ xs) =
    elim (x == c) as (λ b. cond b ([] ∷ slice_split (λ y. y == c) xs) (onto_first x (slice_split (λ y. y == c) xs))
    ≡ cond b [] (x ∷ front (λ y. y == c) xs) ∷ parts_behind c (cond b (Some xs) (back (λ y. y == c) xs))) [
      | true ↦ refl
      | false ↦ rw (parts_first c xs) refl
    ]

-- ---- where no byte passes the test

abbrev pub free_of : (ℕ → Bool) → List ℕ → Bool
free_of p xs = list_all (λ x. not (p x)) xs

pub front_free : (p : ℕ → Bool) (xs : List ℕ) → free_of p xs ≡ true → front p xs ≡ xs
front_free p [] e = refl
front_free p (x ∷ xs) e =
    elim (p x) as (λ t. (not t && free_of p xs) ≡ true → cond t [] (x ∷ front p xs) ≡ x ∷ xs) [
      | true ↦ λ e. absurd (false≢true e)
      | false ↦ λ e. ap (λ ys. x ∷ ys) (front_free p xs e)
    ] e

pub back_free : (p : ℕ → Bool) (xs : List ℕ) → free_of p xs ≡ true → back p xs ≡ None
back_free p [] e = refl
back_free p (x ∷ xs) e =
    elim (p x) as (λ t. (not t && free_of p xs) ≡ true → cond t (Some xs) (back p xs) ≡ None) [
      | true ↦ λ e. absurd (false≢true e)
      | false ↦ λ e. back_free p xs e
    ] e

-- in front of the first that passes, and behind it
pub cut : (p : ℕ → Bool) (xs : List ℕ) (y : ℕ) (ys : List ℕ) → free_of p xs ≡ true → p y ≡ true
    → (front p (xs ++ y ∷ ys) ≡ xs) × (back p (xs ++ y ∷ ys) ≡ Some ys)
cut p [] y ys e t = (rw t refl, rw t refl)
cut p (x ∷ xs) y ys e t =
    elim (p x) as (λ b. (not b && free_of p xs) ≡ true
    → (cond b [] (x ∷ front p (xs ++ y ∷ ys)) ≡ x ∷ xs) × (cond b (Some (xs ++ y ∷ ys)) (back p (xs ++ y ∷ ys)) ≡ Some ys)) [
      | true ↦ λ e. absurd (false≢true e)
      | false ↦ λ e. let rest = cut p xs y ys e t in (ap (λ zs. x ∷ zs) rest.0, rest.1)
    ] e

pub split_last : (p : ℕ → Bool) (xs : List ℕ) → free_of p xs ≡ true → slice_split p xs ≡ xs ∷ []
split_last p [] e = refl
split_last p (x ∷ xs) e =
    elim (p x) as (λ t. (not t && free_of p xs) ≡ true → cond t ([] ∷ slice_split p xs) (onto_first x (slice_split p xs)) ≡ (x ∷ xs) ∷ []) [
      | true ↦ λ e. absurd (false≢true e)
      | false ↦ λ e. rw (split_last p xs e) refl
    ] e

pub split_more : (p : ℕ → Bool) (xs : List ℕ) (y : ℕ) (ys : List ℕ) → free_of p xs ≡ true → p y ≡ true
    → slice_split p (xs ++ y ∷ ys) ≡ xs ∷ slice_split p ys
split_more p [] y ys e t = rw t refl
split_more p (x ∷ xs) y ys e t =
    elim (p x) as (λ b. (not b && free_of p xs) ≡ true
    → cond b ([] ∷ slice_split p (xs ++ y ∷ ys)) (onto_first x (slice_split p (xs ++ y ∷ ys))) ≡ (x ∷ xs) ∷ slice_split p ys) [
      | true ↦ λ e. absurd (false≢true e)
      | false ↦ λ e. rw (split_more p xs y ys e t) refl
    ] e
