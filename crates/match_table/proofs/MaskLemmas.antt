-- Every entry's mask is among the masks of a table.
use Rattle.std.proofs.Common.{◌≡◌, Bool, true, false, cond, List, [], ◌∷◌, map, refl, sym, subst, arith}
use Rattle.std.specs.List.{All, Contains}
use Rattle.std.proofs.lemmas.Bool.{false≢true}
use Rattle.std.proofs.lemmas.List.Elements.{All-nil, All-cons, All-head, All-tail, All-weaker, Contains-append_right}
use Rattle.lists.specs.Sorting.{put_by, sort_by}
use Rattle.match_table.specs.declared.entries.Entry.{Entry}
use Rattle.match_table.specs.Runs.{goes_on, lasts}
use Rattle.match_table.specs.Tables.{comes_first, by_rank, has_mask, mask_of, masks_of}
use Rattle.match_table.proofs.OrderLemmas.{by_mask}
use Rattle.match_table.proofs.RunLemmas.{IsByKey, alike}

-- what holds of a list in order holds of the list
all_put : {X : Type 0} (P : X → Type 0) (first : X → X → Bool) (x : X) (ys : List X) → All P (put_by first x ys) → P x × All P ys
all_put P first x [] all = (All-head P x [] all, All-nil P)
all_put {X} P first x (y ∷ ys) all = by (all_put P first x ys) (first x y) all
  where
    by : (All P (put_by first x ys) → P x × All P ys) → (b : Bool) → All P (cond b (x ∷ y ∷ ys) (y ∷ put_by first x ys)) → P x × All P (y ∷ ys)
    by rest true h = (All-head P x (y ∷ ys) h, All-tail P x (y ∷ ys) h)
    by rest false h =
        let both = rest (All-tail P y (put_by first x ys) h) in
        (both.0, All-cons P y ys (All-head P y (put_by first x ys) h) both.1)

all_in_order : {X : Type 0} (P : X → Type 0) (first : X → X → Bool) (xs : List X) → All P (sort_by first xs) → All P xs
all_in_order P first [] all = All-nil P
all_in_order P first (x ∷ xs) all =
    let both = all_put P first x (sort_by first xs) all in
    All-cons P x xs both.0 (all_in_order P first xs both.1)

-- the last of a run has the run's key
key_more : {X K : Type 0} (key : X → K) (test : K → X → Bool) → IsByKey key test → (x : X) (xs : List X)
    → All (λ y. Contains (map key (lasts (alike key test) xs)) (key y)) xs → (b : Bool) → goes_on (alike key test) x xs ≡ b
    → All (λ y. Contains (map key (cond b (lasts (alike key test) xs) (x ∷ lasts (alike key test) xs))) (key y)) (x ∷ xs)
key_more key test by x [] rest true e = absurd (false≢true e)
key_more key test by x (y ∷ ys) rest true e =
    let keys = map key (lasts (alike key test) (y ∷ ys)) in
    All-cons (λ z. Contains keys (key z)) x (y ∷ ys)
    (subst (Contains keys) (sym (by.same (key x) y e)) (All-head (λ z. Contains keys (key z)) y ys rest)) rest
key_more key test by x xs rest false e =
    let keys = map key (lasts (alike key test) xs) in
    All-cons (λ z. Contains (key x ∷ keys) (key z)) x xs (0, omega arith, refl)
    (All-weaker (λ z. Contains keys (key z)) (λ z. Contains (key x ∷ keys) (key z))
    (λ z among. Contains-append_right (key x ∷ []) keys (key z) among) xs rest)

keys_among : {X K : Type 0} (key : X → K) (test : K → X → Bool) → IsByKey key test → (xs : List X)
    → All (λ x. Contains (map key (lasts (alike key test) xs)) (key x)) xs
keys_among key test by [] = All-nil (λ x. Contains [] (key x))
keys_among key test by (x ∷ xs) = key_more key test by x xs (keys_among key test by xs) (goes_on (alike key test) x xs) refl

pub masks_whole : (entries : List Entry) → All (λ entry. Contains (masks_of entries) (mask_of entry)) entries
masks_whole entries =
    all_in_order (λ entry. Contains (masks_of entries) (mask_of entry)) comes_first entries
    (keys_among mask_of has_mask by_mask (by_rank entries))
