-- The runs of a list whose elements stand in order, by a key that rises with the order.
use Rattle.std.proofs.Common.{◌≡◌, ◌≢◌, ℕ, zero, suc, ◌+◌, ◌-◌, ◌<◌, ◌≤◌, Bool, true, false, cond, List, [], ◌∷◌, ◌++◌, map, length, get_or, take, drop, length-drop, drop-cons, append_assoc, refl, sym, ap, ◌∙◌, subst, arith}
use Rattle.std.specs.List.{All, filter}
use Rattle.std.proofs.lemmas.Bool.{false≢true}
use Rattle.std.proofs.lemmas.List.Elements.{All-nil, All-cons, All-head, All-tail, All-weaker, All-map, All-get_or, All-take, filter-append}
use Rattle.std.proofs.lemmas.List.{take-append-drop, append-nil, drop-drop, length-map}
use Rattle.std.proofs.Math.ListN.{drop_of_length-le}
use Rattle.lists.specs.Sorting.{Rising}
use Rattle.match_table.specs.Runs.{goes_on, ends_from, lasts, start_of}

-- a test by a key
pub record IsByKey {X K : Type 0} (key : X → K) (test : K → X → Bool) : Type 0 where
  pub same : (m : K) (x : X) → test m x ≡ true → m ≡ key x
  pub back : (x : X) → test (key x) x ≡ true

-- between two of one key all have that key
abbrev pub KeyRises : {X K : Type 0} → (X → X → Bool) → (X → K) → Type 0
KeyRises {X} first key = (x y z : X) → first x y ≡ true → first y z ≡ true → key x ≡ key z → key x ≡ key y

abbrev pub alike : {X K : Type 0} → (X → K) → (K → X → Bool) → X → X → Bool
alike key test x = test (key x)

-- how many elements the first run has
abbrev pub run : {X : Type 0} → (X → X → Bool) → List X → ℕ
run same [] = 0
run same (x ∷ xs) = cond (goes_on same x xs) (suc (run same xs)) 1

-- the last of the first run
abbrev pub run_last : {X : Type 0} → (X → X → Bool) → X → List X → X
run_last same x [] = x
run_last same x (y ∷ ys) = cond (same x y) (run_last same y ys) x

-- ---- the first run

first_end_more : {X : Type 0} (same : X → X → Bool) (at : ℕ) (x y : X) (ys : List X)
    → (let n = run same (y ∷ ys) in ends_from same (at + 1) (y ∷ ys) ≡ ((at + 1) + n) ∷ ends_from same ((at + 1) + n) (drop n (y ∷ ys)))
    → (b : Bool)
    → (let n = cond b (suc (run same (y ∷ ys))) 1 in
    cond b (ends_from same (at + 1) (y ∷ ys)) ((at + 1) ∷ ends_from same (at + 1) (y ∷ ys)) ≡ (at + n) ∷ ends_from same (at + n) (drop n (x ∷ y ∷ ys)))
first_end_more same at x y ys rest true =
    let e : (at + 1) + run same (y ∷ ys) ≡ at + suc (run same (y ∷ ys)) = omega arith in
    rest ∙ ap (λ n. n ∷ ends_from same n (drop (run same (y ∷ ys)) (y ∷ ys))) e
first_end_more same at x y ys rest false = refl

pub first_end : {X : Type 0} (same : X → X → Bool) (at : ℕ) (x : X) (xs : List X)
    → (let n = run same (x ∷ xs) in ends_from same at (x ∷ xs) ≡ (at + n) ∷ ends_from same (at + n) (drop n (x ∷ xs)))
first_end same at x [] = refl
first_end same at x (y ∷ ys) = first_end_more same at x y ys (first_end same (at + 1) y ys) (same x y)

first_last_more : {X : Type 0} (same : X → X → Bool) (x y : X) (ys : List X)
    → lasts same (y ∷ ys) ≡ run_last same y ys ∷ lasts same (drop (run same (y ∷ ys)) (y ∷ ys))
    → (b : Bool)
    → cond b (lasts same (y ∷ ys)) (x ∷ lasts same (y ∷ ys)) ≡ cond b (run_last same y ys) x ∷ lasts same (drop (cond b (suc (run same (y ∷ ys))) 1) (x ∷ y ∷ ys))
first_last_more same x y ys rest true = rest
first_last_more same x y ys rest false = refl

pub first_last : {X : Type 0} (same : X → X → Bool) (x : X) (xs : List X)
    → lasts same (x ∷ xs) ≡ run_last same x xs ∷ lasts same (drop (run same (x ∷ xs)) (x ∷ xs))
first_last same x [] = refl
first_last same x (y ∷ ys) = first_last_more same x y ys (first_last same y ys) (same x y)

pub run_some : {X : Type 0} (same : X → X → Bool) (x : X) (xs : List X) → 0 < run same (x ∷ xs)
run_some same x xs = some (goes_on same x xs) where
  some : (b : Bool) → 0 < cond b (suc (run same xs)) 1
  some true = omega arith
  some false = omega arith

run_within_more : {X : Type 0} (same : X → X → Bool) (x : X) (xs : List X) → run same xs ≤ length xs → (b : Bool) → cond b (suc (run same xs)) 1 ≤ length (x ∷ xs)
run_within_more same x xs rest true = omega arith
run_within_more same x xs rest false = omega arith

pub run_within : {X : Type 0} (same : X → X → Bool) (xs : List X) → run same xs ≤ length xs
run_within same [] = omega arith
run_within same (x ∷ xs) = run_within_more same x xs (run_within same xs) (goes_on same x xs)

-- ---- its key

last_key_more : {X K : Type 0} (key : X → K) (test : K → X → Bool) → IsByKey key test → (x y : X) (ys : List X)
    → key (run_last (alike key test) y ys) ≡ key y → (b : Bool) → test (key x) y ≡ b → key (cond b (run_last (alike key test) y ys) x) ≡ key x
last_key_more key test by x y ys rest true e = rest ∙ sym (by.same (key x) y e)
last_key_more key test by x y ys rest false e = refl

pub last_key : {X K : Type 0} (key : X → K) (test : K → X → Bool) → IsByKey key test → (x : X) (xs : List X)
    → key (run_last (alike key test) x xs) ≡ key x
last_key key test by x [] = refl
last_key key test by x (y ∷ ys) = last_key_more key test by x y ys (last_key key test by y ys) (test (key x) y) refl

run_key_more : {X K : Type 0} (key : X → K) (test : K → X → Bool) → IsByKey key test → (x y : X) (ys : List X)
    → All (λ z. key z ≡ key y) (take (run (alike key test) (y ∷ ys)) (y ∷ ys)) → (b : Bool) → test (key x) y ≡ b
    → All (λ z. key z ≡ key x) (take (cond b (suc (run (alike key test) (y ∷ ys))) 1) (x ∷ y ∷ ys))
run_key_more key test by x y ys rest true e =
    All-cons (λ z. key z ≡ key x) x (take (run (alike key test) (y ∷ ys)) (y ∷ ys)) refl
    (All-weaker (λ z. key z ≡ key y) (λ z. key z ≡ key x) (λ z f. f ∙ sym (by.same (key x) y e)) (take (run (alike key test) (y ∷ ys)) (y ∷ ys)) rest)
run_key_more key test by x y ys rest false e = All-cons (λ z. key z ≡ key x) x [] refl (All-nil (λ z. key z ≡ key x))

pub run_key : {X K : Type 0} (key : X → K) (test : K → X → Bool) → IsByKey key test → (x : X) (xs : List X)
    → All (λ z. key z ≡ key x) (take (run (alike key test) (x ∷ xs)) (x ∷ xs))
run_key key test by x [] = All-cons (λ z. key z ≡ key x) x [] refl (All-nil (λ z. key z ≡ key x))
run_key key test by x (y ∷ ys) = run_key_more key test by x y ys (run_key key test by y ys) (test (key x) y) refl

-- past a run the key does not come back
past_run_more : {X K : Type 0} (first : X → X → Bool) (key : X → K) (test : K → X → Bool) → IsByKey key test → KeyRises first key
    → (x y : X) (ys : List X) → Rising first (x ∷ y ∷ ys)
    → All (λ z. key z ≢ key y) (drop (run (alike key test) (y ∷ ys)) (y ∷ ys)) → (b : Bool) → test (key x) y ≡ b
    → All (λ z. key z ≢ key x) (drop (cond b (suc (run (alike key test) (y ∷ ys))) 1) (x ∷ y ∷ ys))
past_run_more first key test by up x y ys rises rest true e =
    All-weaker (λ z. key z ≢ key y) (λ z. key z ≢ key x) (λ z n f. n (f ∙ by.same (key x) y e)) (drop (run (alike key test) (y ∷ ys)) (y ∷ ys)) rest
past_run_more first key test by up x y ys rises rest false e =
    let other : key y ≢ key x = λ f. false≢true (sym e ∙ subst (λ m. test m y ≡ true) f (by.back y)) in
    let before : first x y ≡ true = All-head (λ z. first x z ≡ true) y ys rises.0 in
    All-cons (λ z. key z ≢ key x) y ys other
    (All-weaker (λ z. first y z ≡ true) (λ z. key z ≢ key x) (λ z f g. other (sym (up x y z before f (sym g)))) ys rises.1.0)

pub past_run : {X K : Type 0} (first : X → X → Bool) (key : X → K) (test : K → X → Bool) → IsByKey key test → KeyRises first key
    → (x : X) (xs : List X) → Rising first (x ∷ xs) → All (λ z. key z ≢ key x) (drop (run (alike key test) (x ∷ xs)) (x ∷ xs))
past_run first key test by up x [] rises = All-nil (λ z. key z ≢ key x)
past_run first key test by up x (y ∷ ys) rises =
    past_run_more first key test by up x y ys rises (past_run first key test by up y ys rises.1) (test (key x) y) refl

-- ---- order in parts

pub rising_drop : {X : Type 0} (first : X → X → Bool) (n : ℕ) (xs : List X) → Rising first xs → Rising first (drop n xs)
rising_drop first zero xs rises = rises
rising_drop first (suc n) [] rises = tt
rising_drop first (suc n) (x ∷ xs) rises = rising_drop first n xs rises.1

pub rising_take : {X : Type 0} (first : X → X → Bool) (n : ℕ) (xs : List X) → Rising first xs → Rising first (take n xs)
rising_take first zero xs rises = tt
rising_take first (suc n) [] rises = tt
rising_take first (suc n) (x ∷ xs) rises = (All-take (λ y. first x y ≡ true) n xs rises.0, rising_take first n xs rises.1)

pub rising_at : {X : Type 0} (first : X → X → Bool) (xs : List X) → Rising first xs → (i j : ℕ) (d : X) → i < j → j < length xs
    → first (get_or xs i d) (get_or xs j d) ≡ true
rising_at first [] rises i j d less within = absurd (omega arith)
rising_at first (x ∷ xs) rises i zero d less within = absurd (omega arith)
rising_at first (x ∷ xs) rises zero (suc j) d less within = rises.0 j d (omega arith)
rising_at first (x ∷ xs) rises (suc i) (suc j) d less within = rising_at first xs rises.1 i j d (omega arith) (omega arith)

-- ---- what a test by the key keeps

filter_all : {X : Type 0} (p : X → Bool) (xs : List X) → All (λ x. p x ≡ true) xs → filter p xs ≡ xs
filter_all p [] all = refl
filter_all p (x ∷ xs) all = rw (All-head (λ x. p x ≡ true) x xs all) (ap (λ l. x ∷ l) (filter_all p xs (All-tail (λ x. p x ≡ true) x xs all)))

filter_none : {X : Type 0} (p : X → Bool) (xs : List X) → All (λ x. p x ≡ false) xs → filter p xs ≡ []
filter_none p [] none = refl
filter_none p (x ∷ xs) none = rw (All-head (λ x. p x ≡ false) x xs none) (filter_none p xs (All-tail (λ x. p x ≡ false) x xs none))

pub test_yes : {X K : Type 0} (key : X → K) (test : K → X → Bool) → IsByKey key test → (m : K) (x : X) → key x ≡ m → test m x ≡ true
test_yes key test by m x e = subst (λ k. test k x ≡ true) e (by.back x)

pub test_no : {X K : Type 0} (key : X → K) (test : K → X → Bool) → IsByKey key test → (m : K) (x : X) → key x ≢ m → test m x ≡ false
test_no key test by m x n = no (test m x) refl where
  no : (b : Bool) → test m x ≡ b → test m x ≡ false
  no true e = absurd (n (sym (by.same m x e)))
  no false e = e

all_lasts_more : {X : Type 0} (P : X → Type 0) (same : X → X → Bool) (x : X) (xs : List X) → All P (x ∷ xs) → All P (lasts same xs)
    → (b : Bool) → All P (cond b (lasts same xs) (x ∷ lasts same xs))
all_lasts_more P same x xs all rest true = rest
all_lasts_more P same x xs all rest false = All-cons P x (lasts same xs) (All-head P x xs all) rest

pub All-lasts : {X : Type 0} (P : X → Type 0) (same : X → X → Bool) (xs : List X) → All P xs → All P (lasts same xs)
All-lasts P same [] all = all
All-lasts P same (x ∷ xs) all = all_lasts_more P same x xs all (All-lasts P same xs (All-tail P x xs all)) (goes_on same x xs)

-- ---- the run at each place

pub start_is : (at : ℕ) (ends : List ℕ) (k : ℕ) → k < length ends → start_of at ends (suc k) ≡ get_or ends k 0
start_is at [] k within = absurd (omega arith)
start_is at (end ∷ ends) zero within = refl
start_is at (end ∷ ends) (suc k) within = start_is end ends k (omega arith)

ends_next : {X : Type 0} (same : X → X → Bool) (k at : ℕ) (x : X) (xs : List X)
    → at + run same (x ∷ xs) ≤ start_of (at + run same (x ∷ xs)) (ends_from same (at + run same (x ∷ xs)) (drop (run same (x ∷ xs)) (x ∷ xs))) k
    → at ≤ start_of at (ends_from same at (x ∷ xs)) (suc k)
ends_next same k at x xs rest =
    let n = run same (x ∷ xs) in
    subst (λ (ends : List ℕ). at ≤ start_of at ends (suc k)) (sym (first_end same at x xs)) (omega (arith, rest))

pub starts_above : {X : Type 0} (same : X → X → Bool) (k at : ℕ) (xs : List X) → at ≤ start_of at (ends_from same at xs) k
starts_above same zero at xs = omega arith
starts_above same (suc k) at [] = omega arith
starts_above same (suc k) at (x ∷ xs) =
    ends_next same k at x xs (starts_above same k (at + run same (x ∷ xs)) (drop (run same (x ∷ xs)) (x ∷ xs)))

-- what a group is, in a list that stands from place `at` on
pub record GroupAt {X K : Type 0} (key : X → K) (test : K → X → Bool) (xs : List X) (at : ℕ) (ends : List ℕ) (keys : List X) (k : ℕ) (d : K) : Type 0 where
  pub rises : start_of at ends k ≤ get_or ends k 0
  pub within : get_or ends k 0 ≤ at + length xs
  pub group : filter (test (get_or (map key keys) k d)) xs ≡ take (get_or ends k 0 - start_of at ends k) (drop (start_of at ends k - at) xs)

group_zero : {X : Type 0} (p : X → Bool) (xs : List X) (n at : ℕ) → All (λ x. p x ≡ true) (take n xs) → All (λ x. p x ≡ false) (drop n xs)
    → filter p xs ≡ take ((at + n) - at) (drop (at - at) xs)
group_zero p xs n at kept left =
    let same : (at + n) - at ≡ n = omega arith in
    let none : at - at ≡ 0 = omega arith in
    rw (same, none)
    (ap (filter p) (sym (take-append-drop n xs)) ∙ filter-append p (take n xs) (drop n xs)
    ∙ ap (λ l. l ++ filter p (drop n xs)) (filter_all p (take n xs) kept) ∙ ap (λ l. take n xs ++ l) (filter_none p (drop n xs) left) ∙ append-nil (take n xs))

group_suc : {X : Type 0} (p : X → Bool) (xs : List X) (n at start end : ℕ) → All (λ x. p x ≡ false) (take n xs) → at + n ≤ start
    → filter p (drop n xs) ≡ take (end - start) (drop (start - (at + n)) (drop n xs))
    → filter p xs ≡ take (end - start) (drop (start - at) xs)
group_suc p xs n at start end left above rest =
    let e : n + (start - (at + n)) ≡ start - at = omega arith in
    ap (filter p) (sym (take-append-drop n xs)) ∙ filter-append p (take n xs) (drop n xs)
    ∙ ap (λ l. l ++ filter p (drop n xs)) (filter_none p (take n xs) left) ∙ rest
    ∙ ap (take (end - start)) (drop-drop (start - (at + n)) n xs) ∙ ap (λ m. take (end - start) (drop m xs)) e

length_lasts_more : {X : Type 0} (at : ℕ) (x : X) (ends : List ℕ) (keys : List X) → length ends ≡ length keys → (b : Bool)
    → length (cond b ends ((at + 1) ∷ ends)) ≡ length (cond b keys (x ∷ keys))
length_lasts_more at x ends keys same true = same
length_lasts_more at x ends keys same false = omega arith

pub length_lasts : {X : Type 0} (same : X → X → Bool) (at : ℕ) (xs : List X) → length (ends_from same at xs) ≡ length (lasts same xs)
length_lasts same at [] = refl
length_lasts same at (x ∷ xs) = length_lasts_more at x (ends_from same (at + 1) xs) (lasts same xs) (length_lasts same (at + 1) xs) (goes_on same x xs)

-- the entries with the key at a place are those of its run
pub group_at : {X K : Type 0} (first : X → X → Bool) (key : X → K) (test : K → X → Bool) → IsByKey key test → KeyRises first key
    → (d : K) (k at : ℕ) (xs : List X) → Rising first xs → k < length (ends_from (alike key test) at xs)
    → GroupAt key test xs at (ends_from (alike key test) at xs) (lasts (alike key test) xs) k d
group_at {X = X} first key test by up d k at [] rises within = absurd (omega arith)
group_at {X = X} first key test by up d zero at (x ∷ xs) rises within =
    let same = alike key test in let n = run same (x ∷ xs) in let rest = drop n (x ∷ xs) in
    let last = run_last same x xs in
    let has = last_key key test by x xs in
    let P : List ℕ → List X → Type 0 = λ ends keys. GroupAt key test (x ∷ xs) at ends keys zero d in
    subst (λ (ends : List ℕ). P ends (lasts same (x ∷ xs))) (sym (first_end same at x xs))
    (subst (λ (keys : List X). P ((at + n) ∷ ends_from same (at + n) rest) keys) (sym (first_last same x xs))
    (record {
      rises = omega arith;
      within = omega (arith, run_within same (x ∷ xs));
      group = group_zero (test (key last)) (x ∷ xs) n at
          (All-weaker (λ z. key z ≡ key x) (λ z. test (key last) z ≡ true) (λ z e. test_yes key test by (key last) z (e ∙ sym has)) (take n (x ∷ xs)) (run_key key test by x xs))
          (All-weaker (λ z. key z ≢ key x) (λ z. test (key last) z ≡ false) (λ z f. test_no key test by (key last) z (λ e. f (e ∙ has))) rest (past_run first key test by up x xs rises));
    }))
group_at {X = X} first key test by up d (suc k) at (x ∷ xs) rises within =
    let same = alike key test in let n = run same (x ∷ xs) in let rest = drop n (x ∷ xs) in
    let ends' = ends_from same (at + n) rest in let keys' = lasts same rest in
    let below : suc k < length ((at + n) ∷ ends') = rw (first_end same at x xs) at within in
    let next = group_at first key test by up d k (at + n) rest (rising_drop first n (x ∷ xs) rises) (omega (arith, below)) in
    let past = past_run first key test by up x xs rises in
    let others : All (λ m. m ≢ key x) (map key keys') = All-map (λ m. m ≢ key x) key keys' (All-lasts (λ z. key z ≢ key x) same rest past) in
    let long : k < length (map key keys') = omega (arith, below, length-map keys' key, length_lasts same (at + n) rest) in
    let m = get_or (map key keys') k d in
    let other : m ≢ key x = All-get_or (λ m. m ≢ key x) (map key keys') k d long others in
    let shorter : length rest + n ≡ length (x ∷ xs) = omega (arith, length-drop n (x ∷ xs), run_within same (x ∷ xs)) in
    let P : List ℕ → List X → Type 0 = λ ends keys. GroupAt key test (x ∷ xs) at ends keys (suc k) d in
    subst (λ (ends : List ℕ). P ends (lasts same (x ∷ xs))) (sym (first_end same at x xs))
    (subst (λ (keys : List X). P ((at + n) ∷ ends') keys) (sym (first_last same x xs))
    (record {
      rises = next.rises;
      within = omega (arith, next.within, shorter);
      group = group_suc (test m) (x ∷ xs) n at (start_of (at + n) ends' k) (get_or ends' k 0)
          (All-weaker (λ z. key z ≡ key x) (λ z. test m z ≡ false) (λ z e. test_no key test by m z (λ f. other (sym f ∙ e))) (take n (x ∷ xs)) (run_key key test by x xs))
          (starts_above same k (at + n) rest) next.group;
    }))

-- ---- written down one after another

ends_step : {X : Type 0} (same : X → X → Bool) (at : ℕ) (xs : List X) (d : X) → at < length xs
    → ends_from same at (drop at xs)
    ≡ cond (goes_on same (get_or xs at d) (drop (at + 1) xs)) (ends_from same (at + 1) (drop (at + 1) xs)) ((at + 1) ∷ ends_from same (at + 1) (drop (at + 1) xs))
ends_step same at xs d within =
    let e : suc at ≡ at + 1 = omega arith in
    ap (ends_from same at) (drop-cons xs at d within)
    ∙ ap (λ n. cond (goes_on same (get_or xs at d) (drop n xs)) (ends_from same (at + 1) (drop n xs)) ((at + 1) ∷ ends_from same (at + 1) (drop n xs))) e

pub ends_on : {X : Type 0} (same : X → X → Bool) (done whole : List ℕ) (at : ℕ) (xs : List X) (d : X) → at < length xs
    → goes_on same (get_or xs at d) (drop (at + 1) xs) ≡ true → done ++ ends_from same at (drop at xs) ≡ whole
    → done ++ ends_from same (at + 1) (drop (at + 1) xs) ≡ whole
ends_on same done whole at xs d within on so_far =
    let step = ends_step same at xs d within in
    ap (λ l. done ++ l) (sym (step ∙ ap (λ b. cond b (ends_from same (at + 1) (drop (at + 1) xs)) ((at + 1) ∷ ends_from same (at + 1) (drop (at + 1) xs))) on)) ∙ so_far

pub ends_push : {X : Type 0} (same : X → X → Bool) (done whole : List ℕ) (at : ℕ) (xs : List X) (d : X) → at < length xs
    → goes_on same (get_or xs at d) (drop (at + 1) xs) ≡ false → done ++ ends_from same at (drop at xs) ≡ whole
    → (done ++ (at + 1) ∷ []) ++ ends_from same (at + 1) (drop (at + 1) xs) ≡ whole
ends_push same done whole at xs d within on so_far =
    let step = ends_step same at xs d within in
    append_assoc done ((at + 1) ∷ []) (ends_from same (at + 1) (drop (at + 1) xs))
    ∙ ap (λ l. done ++ l) (sym (step ∙ ap (λ b. cond b (ends_from same (at + 1) (drop (at + 1) xs)) ((at + 1) ∷ ends_from same (at + 1) (drop (at + 1) xs))) on)) ∙ so_far

-- ---- taken one after another

pub record NextGroup {X : Type 0} (same : X → X → Bool) (from : ℕ) (xs : List X) (end : ℕ) (others : List ℕ) : Type 0 where
  pub some : 0 < run same xs
  pub within : run same xs ≤ length xs
  pub here : end ≡ from + run same xs
  pub rest : others ≡ ends_from same end (drop (run same xs) xs)

pub next_group : {X : Type 0} (same : X → X → Bool) (from : ℕ) (xs : List X) (end : ℕ) (others : List ℕ)
    → end ∷ others ≡ ends_from same from xs → NextGroup same from xs end others
next_group same from [] end others e = cc
next_group same from (x ∷ xs) end others e =
    let both = e ∙ first_end same from x xs in
    let here : end ≡ from + run same (x ∷ xs) = cc in
    let rest : others ≡ ends_from same (from + run same (x ∷ xs)) (drop (run same (x ∷ xs)) (x ∷ xs)) = cc in
    record {
      some = run_some same x xs;
      within = run_within same (x ∷ xs);
      here = here;
      rest = rest ∙ ap (λ n. ends_from same n (drop (run same (x ∷ xs)) (x ∷ xs))) (sym here);
    }

first_of_run_more : {X : Type 0} (x : X) (xs : List X) (n : ℕ) (b : Bool) (d : X) → get_or (take (cond b (suc n) 1) (x ∷ xs)) 0 d ≡ x
first_of_run_more x xs n true d = refl
first_of_run_more x xs n false d = refl

-- the first run is of one key
pub run_one_key : {X K : Type 0} (key : X → K) (test : K → X → Bool) → IsByKey key test → (xs : List X) (d : X)
    → All (λ z. key z ≡ key (get_or (take (run (alike key test) xs) xs) 0 d)) (take (run (alike key test) xs) xs)
run_one_key key test by [] d = All-nil (λ z. key z ≡ key d)
run_one_key key test by (x ∷ xs) d =
    let n = run (alike key test) (x ∷ xs) in
    let first : get_or (take n (x ∷ xs)) 0 d ≡ x = first_of_run_more x xs (run (alike key test) xs) (goes_on (alike key test) x xs) d in
    All-weaker (λ z. key z ≡ key x) (λ z. key z ≡ key (get_or (take n (x ∷ xs)) 0 d)) (λ z e. e ∙ ap key (sym first)) (take n (x ∷ xs)) (run_key key test by x xs)
