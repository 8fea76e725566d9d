-- Lists: pairs, parts, and the element at a place.
use Rattle.std.proofs.Common.{take, drop, ◌≡◌, ℕ, zero, suc, ◌+◌, ◌<◌, ◌≤◌, Bool, true, false, cond, not, List, [], ◌∷◌, ◌++◌, length, get_or, map, position, remove, None, Some, refl, ap, ap₂, sym, ◌∙◌, subst, arith}
use Rattle.std.specs.Prelude.{is_some, nat_lt}
use Rattle.std.specs.List.{All, AllPairs, flat_map, position_or_len, slice_get}
use Rattle.std.proofs.lemmas.Bool.{ltb-true, ltb-false, lt-ltb}
use Rattle.std.proofs.lemmas.List.{append_assoc, length-append}
use Rattle.std.proofs.lemmas.List.Elements.{All-nil, All-cons, All-head, All-tail, All-append, All-map, All-weaker}
use Rattle.std.proofs.lemmas.List.Kept.{AllPairs-cons}
use Rattle.switch_model.specs.Changes.{edit_at}

-- ---- pairs

pub no_pairs : {X : Type 0} (R : X → X → Type 0) → AllPairs R []
no_pairs R i j d before within = absurd (omega arith)

pub one_pair : {X : Type 0} (R : X → X → Type 0) (x : X) → AllPairs R (x ∷ [])
one_pair R x = AllPairs-cons R x [] (All-nil (R x)) (no_pairs R)

pub pairs_head : {X : Type 0} (R : X → X → Type 0) (x : X) (xs : List X) → AllPairs R (x ∷ xs) → All (R x) xs
pairs_head R x xs pairs k d within = pairs 0 (suc k) d (omega arith) (omega arith)

pub pairs_tail : {X : Type 0} (R : X → X → Type 0) (x : X) (xs : List X) → AllPairs R (x ∷ xs) → AllPairs R xs
pairs_tail R x xs pairs i j d before within = pairs (suc i) (suc j) d (omega arith) (omega arith)

pub pairs_weaker : {X : Type 0} (R S : X → X → Type 0) → ((x y : X) → R x y → S x y) → (xs : List X) → AllPairs R xs → AllPairs S xs
pairs_weaker R S weaker xs pairs i j d before within = weaker (get_or xs i d) (get_or xs j d) (pairs i j d before within)

-- of what is true of each in turn as well
pub pairs_known : {X : Type 0} (P : X → Type 0) (R S : X → X → Type 0) → ((x y : X) → P x → P y → R x y → S x y) → (xs : List X) → All P xs
    → AllPairs R xs → AllPairs S xs
pairs_known P R S weaker xs each pairs i j d before within =
    weaker (get_or xs i d) (get_or xs j d) (each i d (omega arith)) (each j d within) (pairs i j d before within)

pub all_front : {X : Type 0} (P : X → Type 0) (xs ys : List X) → All P (xs ++ ys) → All P xs
all_front P [] ys all = All-nil P
all_front P (x ∷ xs) ys all = All-cons P x xs (All-head P x (xs ++ ys) all) (all_front P xs ys (All-tail P x (xs ++ ys) all))

pub all_back : {X : Type 0} (P : X → Type 0) (xs ys : List X) → All P (xs ++ ys) → All P ys
all_back P [] ys all = all
all_back P (x ∷ xs) ys all = all_back P xs ys (All-tail P x (xs ++ ys) all)

pub all_and : {X : Type 0} (P Q : X → Type 0) (xs : List X) → All P xs → All Q xs → All (λ x. P x × Q x) xs
all_and P Q xs one two k d within = (one k d within, two k d within)

pub all_mapped : {X Y : Type 0} (P : Y → Type 0) (f : X → Y) (xs : List X) → All P (map f xs) → All (λ x. P (f x)) xs
all_mapped P f [] all = All-nil (λ x. P (f x))
all_mapped P f (x ∷ xs) all =
    All-cons (λ x. P (f x)) x xs (All-head P (f x) (map f xs) all) (all_mapped P f xs (All-tail P (f x) (map f xs) all))

-- each of these with each of those
abbrev pub Across : {X : Type 0} → (X → X → Type 0) → List X → List X → Type 0
Across R xs ys = All (λ x. All (R x) ys) xs

pub across_turned : {X : Type 0} (R S : X → X → Type 0) → ((x y : X) → R x y → S y x) → (xs ys : List X) → Across R xs ys → Across S ys xs
across_turned R S turned xs ys across i d within j e inside = turned (get_or xs j e) (get_or ys i d) (across j e inside i d within)

pub pairs_append : {X : Type 0} (R : X → X → Type 0) (xs ys : List X) → AllPairs R xs → AllPairs R ys → Across R xs ys → AllPairs R (xs ++ ys)
pairs_append R [] ys one two across = two
pairs_append R (x ∷ xs) ys one two across =
    AllPairs-cons R x (xs ++ ys)
    (All-append (R x) xs ys (pairs_head R x xs one) (All-head (λ x. All (R x) ys) x xs across))
    (pairs_append R xs ys (pairs_tail R x xs one) two (All-tail (λ x. All (R x) ys) x xs across))

pub record Parts {X : Type 0} (R : X → X → Type 0) (xs ys : List X) : Type 0 where
  pub front : AllPairs R xs
  pub back : AllPairs R ys
  pub across : Across R xs ys

pub pairs_parts : {X : Type 0} (R : X → X → Type 0) (xs ys : List X) → AllPairs R (xs ++ ys) → Parts R xs ys
pairs_parts R [] ys pairs = record { front = no_pairs R; back = pairs; across = All-nil (λ x. All (R x) ys) }
pairs_parts R (x ∷ xs) ys pairs =
    let rest : Parts R xs ys = pairs_parts R xs ys (pairs_tail R x (xs ++ ys) pairs) in
    let heads : All (R x) (xs ++ ys) = pairs_head R x (xs ++ ys) pairs in
    record {
      front = AllPairs-cons R x xs (all_front (R x) xs ys heads) rest.front;
      back = rest.back;
      across = All-cons (λ x. All (R x) ys) x xs (all_back (R x) xs ys heads) rest.across;
    }

pub pairs_mapped : {X Y : Type 0} (R : Y → Y → Type 0) (f : X → Y) (xs : List X) → AllPairs R (map f xs) → AllPairs (λ x y. R (f x) (f y)) xs
pairs_mapped R f [] pairs = no_pairs (λ x y. R (f x) (f y))
pairs_mapped R f (x ∷ xs) pairs =
    AllPairs-cons (λ x y. R (f x) (f y)) x xs
    (all_mapped (R (f x)) f xs (pairs_head R (f x) (map f xs) pairs))
    (pairs_mapped R f xs (pairs_tail R (f x) (map f xs) pairs))

pub pairs_map : {X Y : Type 0} (R : Y → Y → Type 0) (f : X → Y) (xs : List X) → AllPairs (λ x y. R (f x) (f y)) xs → AllPairs R (map f xs)
pairs_map R f [] pairs = no_pairs R
pairs_map R f (x ∷ xs) pairs =
    AllPairs-cons R (f x) (map f xs)
    (All-map (R (f x)) f xs (pairs_head (λ x y. R (f x) (f y)) x xs pairs))
    (pairs_map R f xs (pairs_tail (λ x y. R (f x) (f y)) x xs pairs))

-- of a list with an element between, the element with all others
pub record Around {X : Type 0} (R : X → X → Type 0) (front back : List X) (x : X) : Type 0 where
  pub others : AllPairs R (front ++ back)
  pub before : All (λ y. R y x) front
  pub after : All (R x) back

pub around : {X : Type 0} (R : X → X → Type 0) (front back : List X) (x : X) → AllPairs R (front ++ x ∷ back) → Around R front back x
around R front back x pairs =
    let parts : Parts R front (x ∷ back) = pairs_parts R front (x ∷ back) pairs in
    record {
      others = pairs_append R front back parts.front (pairs_tail R x back parts.back)
          (All-weaker (λ y. All (R y) (x ∷ back)) (λ y. All (R y) back) (λ y all. All-tail (R y) x back all) front parts.across);
      before = All-weaker (λ y. All (R y) (x ∷ back)) (λ y. R y x) (λ y all. All-head (R y) x back all) front parts.across;
      after = pairs_head R x back parts.back;
    }

pub pairs_between : {X : Type 0} (R : X → X → Type 0) (front back : List X) (x : X) → AllPairs R (front ++ back) → All (λ y. R y x) front → All (R x) back
    → AllPairs R (front ++ x ∷ back)
pairs_between R front back x pairs before after =
    let parts : Parts R front back = pairs_parts R front back pairs in
    pairs_append R front (x ∷ back) parts.front (AllPairs-cons R x back after parts.back)
    (λ k d within. All-cons (R (get_or front k d)) x back (before k d within) (parts.across k d within))

pub all_between : {X : Type 0} (P : X → Type 0) (front back : List X) (x : X) → All P (front ++ back) → P x → All P (front ++ x ∷ back)
all_between P front back x all here =
    All-append P front (x ∷ back) (all_front P front back all) (All-cons P x back here (all_back P front back all))

pub all_without : {X : Type 0} (P : X → Type 0) (front back : List X) (x : X) → All P (front ++ x ∷ back) → All P (front ++ back)
all_without P front back x all =
    All-append P front back (all_front P front (x ∷ back) all) (All-tail P x back (all_back P front (x ∷ back) all))

pub all_here : {X : Type 0} (P : X → Type 0) (front back : List X) (x : X) → All P (front ++ x ∷ back) → P x
all_here P front back x all = All-head P x back (all_back P front (x ∷ back) all)

-- ---- the list of lists

pub flat_append : {X Y : Type 0} (f : X → List Y) (xs ys : List X) → flat_map f (xs ++ ys) ≡ flat_map f xs ++ flat_map f ys
flat_append f [] ys = refl
flat_append f (x ∷ xs) ys = ap (λ zs. f x ++ zs) (flat_append f xs ys) ∙ sym (append_assoc (f x) (flat_map f xs) (flat_map f ys))

pub all_flat : {X Y : Type 0} (P : Y → Type 0) (f : X → List Y) (xs : List X) → All (λ x. All P (f x)) xs → All P (flat_map f xs)
all_flat P f [] all = All-nil P
all_flat P f (x ∷ xs) all =
    All-append P (f x) (flat_map f xs) (All-head (λ x. All P (f x)) x xs all) (all_flat P f xs (All-tail (λ x. All P (f x)) x xs all))

pub all_unflat : {X Y : Type 0} (P : Y → Type 0) (f : X → List Y) (xs : List X) → All P (flat_map f xs) → All (λ x. All P (f x)) xs
all_unflat P f [] all = All-nil (λ x. All P (f x))
all_unflat P f (x ∷ xs) all =
    All-cons (λ x. All P (f x)) x xs (all_front P (f x) (flat_map f xs) all) (all_unflat P f xs (all_back P (f x) (flat_map f xs) all))

pub pairs_flat : {X Y : Type 0} (R : Y → Y → Type 0) (f : X → List Y) (xs : List X) → All (λ x. AllPairs R (f x)) xs
    → AllPairs (λ x y. Across R (f x) (f y)) xs → AllPairs R (flat_map f xs)
pairs_flat R f [] each pairs = no_pairs R
pairs_flat R f (x ∷ xs) each pairs =
    pairs_append R (f x) (flat_map f xs) (All-head (λ x. AllPairs R (f x)) x xs each)
    (pairs_flat R f xs (All-tail (λ x. AllPairs R (f x)) x xs each) (pairs_tail (λ x y. Across R (f x) (f y)) x xs pairs))
    (λ k d within. all_flat (R (get_or (f x) k d)) f xs (λ i e inside. pairs_head (λ x y. Across R (f x) (f y)) x xs pairs i e inside k d within))

-- ---- the element at a place

-- a list in parts round the first element that passes
pub record Parted {X : Type 0} (test : X → Bool) (at : ℕ) (xs : List X) : Type 0 where
  pub front : List X
  pub here : X
  pub back : List X
  pub is : xs ≡ front ++ here ∷ back
  pub long : length front ≡ at
  pub passes : test here ≡ true
  pub none : All (λ x. test x ≡ false) front

part_at : {X : Type 0} (test : X → Bool) (xs : List X) → position_or_len test xs < length xs → Parted test (position_or_len test xs) xs
part_at test [] within = absurd (omega arith)
part_at {X} test (x ∷ xs) within = by (part_at test xs) (test x) refl within where
  by : (position_or_len test xs < length xs → Parted test (position_or_len test xs) xs) → (t : Bool) → test x ≡ t
      → cond (not t) (1 + position_or_len test xs) 0 < length (x ∷ xs) → Parted test (cond (not t) (1 + position_or_len test xs) 0) (x ∷ xs)
  by rest true e inside = record { front = []; here = x; back = xs; is = refl; long = refl; passes = e; none = All-nil (λ x. test x ≡ false) }
  by rest false e inside =
      let more : Parted test (position_or_len test xs) xs = rest (omega arith) in
      record {
        front = x ∷ more.front;
        here = more.here;
        back = more.back;
        is = ap (λ ys. x ∷ ys) more.is;
        long = omega (arith, more.long);
        passes = more.passes;
        none = All-cons (λ x. test x ≡ false) x more.front e more.none;
      }

at_position : {X : Type 0} (test : X → Bool) (xs : List X) (at : ℕ) → position test xs ≡ Some at → (position_or_len test xs ≡ at) × (position_or_len test xs < length xs)
at_position test xs at found = by (nat_lt (position_or_len test xs) (length xs)) refl found where
  by : (t : Bool) → nat_lt (position_or_len test xs) (length xs) ≡ t → cond t (Some (position_or_len test xs)) None ≡ Some at
      → (position_or_len test xs ≡ at) × (position_or_len test xs < length xs)
  by true e is = let same : position_or_len test xs ≡ at = cc in (same, ltb-true (position_or_len test xs) (length xs) e)
  by false e is = absurd (cc)

pub parted : {X : Type 0} (test : X → Bool) (xs : List X) (at : ℕ) → position test xs ≡ Some at → Parted test at xs
parted test xs at found =
    let is = at_position test xs at found in
    subst (λ (n : ℕ). Parted test n xs) is.0 (part_at test xs is.1)

none_at : {X : Type 0} (test : X → Bool) (xs : List X) → is_some (position test xs) ≡ false → length xs ≤ position_or_len test xs
none_at test xs none = by (nat_lt (position_or_len test xs) (length xs)) refl none where
  by : (t : Bool) → nat_lt (position_or_len test xs) (length xs) ≡ t → is_some (cond t (Some (position_or_len test xs)) None) ≡ false
      → length xs ≤ position_or_len test xs
  by true e f = absurd (cc)
  by false e f = ltb-false (position_or_len test xs) (length xs) e

none_before : {X : Type 0} (test : X → Bool) (xs : List X) → length xs ≤ position_or_len test xs → All (λ x. test x ≡ false) xs
none_before test [] none = All-nil (λ x. test x ≡ false)
none_before {X} test (x ∷ xs) none = by (none_before test xs) (test x) refl none where
  by : (length xs ≤ position_or_len test xs → All (λ x. test x ≡ false) xs) → (t : Bool) → test x ≡ t
      → suc (length xs) ≤ cond (not t) (1 + position_or_len test xs) 0 → All (λ x. test x ≡ false) (x ∷ xs)
  by rest true e f = absurd (omega arith)
  by rest false e f = All-cons (λ x. test x ≡ false) x xs e (rest (omega arith))

pub none_passes : {X : Type 0} (test : X → Bool) (xs : List X) → is_some (position test xs) ≡ false → All (λ x. test x ≡ false) xs
none_passes test xs none = none_before test xs (none_at test xs none)

pub mapped_position : {X Y : Type 0} (test : Y → Bool) (f : X → Y) (xs : List X) → position test (map f xs) ≡ position (λ x. test (f x)) xs
mapped_position {X} {Y} test f xs =
    ap₂ (λ (i : ℕ) (n : ℕ). cond (nat_lt i n) (Some i) None) (same xs) (long xs) where
      same : (xs : List X) → position_or_len test (map f xs) ≡ position_or_len (λ x. test (f x)) xs
      same [] = refl
      same (x ∷ xs) = ap (λ (n : ℕ). cond (not (test (f x))) (1 + n) 0) (same xs)

      long : (xs : List X) → length (map f xs) ≡ length xs
      long [] = refl
      long (x ∷ xs) = ap suc (long xs)

-- what stands there, and the list with it changed, without it
pub get_here : {X : Type 0} (front back : List X) (x : X) → slice_get (front ++ x ∷ back) (length front) ≡ Some x
get_here [] back x = refl
get_here (y ∷ front) back x = get_here front back x

pub edited_here : {X : Type 0} (f : X → X) (front back : List X) (x : X) → edit_at (length front) f (front ++ x ∷ back) ≡ front ++ f x ∷ back
edited_here f [] back x = refl
edited_here f (y ∷ front) back x = ap (λ ys. y ∷ ys) (edited_here f front back x)

take_front : {X : Type 0} (front back : List X) → take (length front) (front ++ back) ≡ front
take_front [] back = refl
take_front (y ∷ front) back = ap (λ ys. y ∷ ys) (take_front front back)

drop_front : {X : Type 0} (front back : List X) (x : X) → drop (suc (length front)) (front ++ x ∷ back) ≡ back
drop_front [] back x = refl
drop_front (y ∷ front) back x = drop_front front back x

pub removed_here : {X : Type 0} (front back : List X) (x : X) → remove (front ++ x ∷ back) (length front) ≡ front ++ back
removed_here front back x = ap₂ (λ xs ys. xs ++ ys) (take_front front (x ∷ back)) (drop_front front back x)

pub mapped_edit : {X Y : Type 0} (g : X → Y) (f : X → X) (h : Y → Y) → ((x : X) → g (f x) ≡ h (g x)) → (at : ℕ) (xs : List X)
    → map g (edit_at at f xs) ≡ edit_at at h (map g xs)
mapped_edit g f h same at [] = refl
mapped_edit g f h same zero (x ∷ xs) = ap (λ y. y ∷ map g xs) (same x)
mapped_edit g f h same (suc at) (x ∷ xs) = ap (λ ys. g x ∷ ys) (mapped_edit g f h same at xs)

pub length_map : {X Y : Type 0} (f : X → Y) (xs : List X) → length (map f xs) ≡ length xs
length_map f [] = refl
length_map f (x ∷ xs) = ap suc (length_map f xs)

pub map_append : {X Y : Type 0} (f : X → Y) (xs ys : List X) → map f (xs ++ ys) ≡ map f xs ++ map f ys
map_append f [] ys = refl
map_append f (x ∷ xs) ys = ap (λ zs. f x ∷ zs) (map_append f xs ys)

map_take : {X Y : Type 0} (f : X → Y) (n : ℕ) (xs : List X) → map f (take n xs) ≡ take n (map f xs)
map_take f zero [] = refl
map_take f zero (x ∷ xs) = refl
map_take f (suc n) [] = refl
map_take f (suc n) (x ∷ xs) = ap (λ zs. f x ∷ zs) (map_take f n xs)

map_drop : {X Y : Type 0} (f : X → Y) (n : ℕ) (xs : List X) → map f (drop n xs) ≡ drop n (map f xs)
map_drop f zero [] = refl
map_drop f zero (x ∷ xs) = refl
map_drop f (suc n) [] = refl
map_drop f (suc n) (x ∷ xs) = map_drop f n xs

pub map_remove : {X Y : Type 0} (f : X → Y) (xs : List X) (at : ℕ) → map f (remove xs at) ≡ remove (map f xs) at
map_remove f xs at = map_append f (take at xs) (drop (suc at) xs) ∙ ap₂ (λ ys zs. ys ++ zs) (map_take f at xs) (map_drop f (suc at) xs)

-- the parts of a mapped list are mapped parts
pub record Split {X Y : Type 0} (f : X → Y) (xs : List X) (ys : List Y) (y : Y) (zs : List Y) : Type 0 where
  pub front : List X
  pub one : X
  pub back : List X
  pub is : xs ≡ front ++ one ∷ back
  pub fronts : map f front ≡ ys
  pub heres : f one ≡ y
  pub backs : map f back ≡ zs

split_more : {X Y : Type 0} (f : X → Y) (x : X) (xs : List X) (z : Y) (ys : List Y) (y : Y) (zs : List Y) → f x ≡ z → Split f xs ys y zs
    → Split f (x ∷ xs) (z ∷ ys) y zs
split_more f x xs z ys y zs here more = record {
  front = x ∷ more.front;
  one = more.one;
  back = more.back;
  is = ap (λ ws. x ∷ ws) more.is;
  fronts = ap₂ (λ w ws. w ∷ ws) here more.fronts;
  heres = more.heres;
  backs = more.backs;
}

pub split_map : {X Y : Type 0} (f : X → Y) (xs : List X) (ys : List Y) (y : Y) (zs : List Y) → map f xs ≡ ys ++ y ∷ zs → Split f xs ys y zs
split_map f [] [] y zs e = absurd (cc)
split_map f [] (z ∷ ys) y zs e = absurd (cc)
split_map f (x ∷ xs) [] y zs e =
    let here : f x ≡ y = cc in
    let rest : map f xs ≡ zs = cc in
    record { front = []; one = x; back = xs; is = refl; fronts = refl; heres = here; backs = rest }
split_map f (x ∷ xs) (z ∷ ys) y zs e =
    let here : f x ≡ z = cc in
    let rest : map f xs ≡ ys ++ y ∷ zs = cc in
    split_more f x xs z ys y zs here (split_map f xs ys y zs rest)

pub position_here : {X : Type 0} (test : X → Bool) (front back : List X) (x : X) → All (λ y. test y ≡ false) front → test x ≡ true
    → position test (front ++ x ∷ back) ≡ Some (length front)
position_here {X} test front back x none here =
    ap (λ (n : ℕ). cond (nat_lt n (length (front ++ x ∷ back))) (Some n) None) (first front none)
    ∙ ap (λ (b : Bool). cond b (Some (length front)) None)
    (lt-ltb (length front) (length (front ++ x ∷ back)) (let long : length (front ++ x ∷ back) ≡ length front + length (x ∷ back) = length-append front (x ∷ back) in omega arith)) where
      first : (front : List X) → All (λ y. test y ≡ false) front → position_or_len test (front ++ x ∷ back) ≡ length front
      first [] none = ap (λ (b : Bool). cond (not b) (1 + position_or_len test back) 0) here
      first (y ∷ front) none =
          ap (λ (b : Bool). cond (not b) (1 + position_or_len test (front ++ x ∷ back)) 0) (All-head (λ y. test y ≡ false) y front none)
          ∙ (let rest : position_or_len test (front ++ x ∷ back) ≡ length front = first front (All-tail (λ y. test y ≡ false) y front none) in omega arith)

-- what is true of each element between what stands before and behind it
split_on : {X : Type 0} (P : X → Type 0) (before xs : List X) → ((front : List X) (x : X) (back : List X) → before ++ xs ≡ front ++ x ∷ back → P x) → All P xs
split_on P before [] each = All-nil P
split_on P before (x ∷ xs) each =
    All-cons P x xs (each before x xs refl)
    (split_on P (before ++ x ∷ []) xs (λ front y back e. each front y back (sym (append_assoc before (x ∷ []) xs) ∙ e)))

pub all_split : {X : Type 0} (P : X → Type 0) (xs : List X) → ((front : List X) (x : X) (back : List X) → xs ≡ front ++ x ∷ back → P x) → All P xs
all_split P xs each = split_on P [] xs each
