-- What stands at one place, where one more came.
use Rattle.std.proofs.Common.{◌≡◌, ◌≢◌, ℕ, zero, suc, ◌<◌, Bool, true, false, cond, List, [], ◌∷◌, ◌++◌, get_or, set, refl, ap, sym, ◌∙◌, arith, filter, map, eq-eqb, ⊎_elim, ext_get_or, length-set, get_or-set_same, get_or-set_other}
use Rattle.std.specs.Prelude.{◌==◌}
use Rattle.std.specs.List.{All, range_with_len}
use Rattle.std.proofs.lemmas.Bool.{cases_eq}
use Rattle.std.proofs.lemmas.Bool.Decides.{nat_tests}
use Rattle.std.proofs.lemmas.List.Elements.{All-head, All-tail}
use Rattle.std.proofs.lemmas.List.FromFn.{length-map-range_with_len, get_or-map-range_with_len}
use Rattle.rule_txn.proofs.Keys.{put_key, sort_key, put_commutes}

-- what stands at one place, in the order of a key
abbrev pub kept_at : {H X : Type 0} → (H → ℕ) → (H → X) → (X → ℕ) → List H → ℕ → List X
kept_at place it key hs a = sort_key key (map it (filter (λ h. place h == a) hs))

pub off_place : {H X : Type 0} (place : H → ℕ) (it : H → X) (key : X → ℕ) (front back : List H) (h : H) (a : ℕ) → place h ≢ a → kept_at place it key (front ++ h ∷ back) a ≡ kept_at place it key (front ++ back) a
off_place place it key [] back h a ne =
    let other : (place h == a) ≡ false = grind (arith, nat_tests) in
    ap (λ b. sort_key key (map it (cond b (h ∷ filter (λ x. place x == a) back) (filter (λ x. place x == a) back)))) other
off_place place it key (x ∷ front) back h a ne = by (off_place place it key front back h a ne) (place x == a)
  where
    by : kept_at place it key (front ++ h ∷ back) a ≡ kept_at place it key (front ++ back) a → (b : Bool) → sort_key key (map it (cond b (x ∷ filter (λ y. place y == a) (front ++ h ∷ back)) (filter (λ y. place y == a) (front ++ h ∷ back)))) ≡ sort_key key (map it (cond b (x ∷ filter (λ y. place y == a) (front ++ back)) (filter (λ y. place y == a) (front ++ back))))
    by rest true = ap (put_key key (it x)) rest
    by rest false = rest

pub on_place : {H X : Type 0} (place : H → ℕ) (it : H → X) (key : X → ℕ) (front back : List H) (h : H) → All (λ x. place x ≡ place h → key (it x) ≢ key (it h)) front → kept_at place it key (front ++ h ∷ back) (place h) ≡ put_key key (it h) (kept_at place it key (front ++ back) (place h))
on_place place it key [] back h differ =
    ap (λ b. sort_key key (map it (cond b (h ∷ filter (λ x. place x == place h) back) (filter (λ x. place x == place h) back)))) (eq-eqb (place h) (place h) refl)
on_place place it key (x ∷ front) back h differ =
    by (on_place place it key front back h (All-tail (λ y. place y ≡ place h → key (it y) ≢ key (it h)) x front differ)) (place x == place h) refl (All-head (λ y. place y ≡ place h → key (it y) ≢ key (it h)) x front differ)
  where
    by : kept_at place it key (front ++ h ∷ back) (place h) ≡ put_key key (it h) (kept_at place it key (front ++ back) (place h)) → (b : Bool) → (place x == place h) ≡ b → (place x ≡ place h → key (it x) ≢ key (it h))
        → sort_key key (map it (cond b (x ∷ filter (λ y. place y == place h) (front ++ h ∷ back)) (filter (λ y. place y == place h) (front ++ h ∷ back)))) ≡ put_key key (it h) (sort_key key (map it (cond b (x ∷ filter (λ y. place y == place h) (front ++ back)) (filter (λ y. place y == place h) (front ++ back)))))
    by rest true e d =
        let same : place x ≡ place h = grind (arith, nat_tests) in
        ap (put_key key (it x)) rest ∙ put_commutes key (it x) (it h) (kept_at place it key (front ++ back) (place h)) (d same)
    by rest false e d = rest

pub map_set : {T : Type 0} (d : T) (f g : ℕ → T) (n k : ℕ) → k < n → ((j : ℕ) → j ≢ k → f j ≡ g j) → set (map f (range_with_len 0 n)) k (g k) ≡ map g (range_with_len 0 n)
map_set d f g n k lt other =
    sym (ext_get_or d (map g (range_with_len 0 n)) (set (map f (range_with_len 0 n)) k (g k))
    (omega (arith, length-map-range_with_len g 0 n, length-set (map f (range_with_len 0 n)) k (g k), length-map-range_with_len f 0 n))
    (λ j less.
    let small : j < n = omega (arith, length-map-range_with_len g 0 n) in
    get_or-map-range_with_len g 0 n j j d small (omega arith)
    ∙ ⊎_elim
    (λ (e : j ≡ k). ap g e ∙ sym (ap (λ i. get_or (set (map f (range_with_len 0 n)) k (g k)) i d) e ∙ get_or-set_same (map f (range_with_len 0 n)) k (g k) d (omega (arith, length-map-range_with_len f 0 n))))
    (λ (ne : j ≢ k). sym (get_or-set_other (map f (range_with_len 0 n)) k j (g k) d ne ∙ get_or-map-range_with_len f 0 n j j d small (omega arith) ∙ other j ne))
    (cases_eq j k)))

pub at_range : {T : Type 0} (d : T) (f : ℕ → T) (n k : ℕ) → k < n → get_or (map f (range_with_len 0 n)) k d ≡ f k
at_range d f n k lt = get_or-map-range_with_len f 0 n k k d lt (omega arith)

pub map-set : {X Y : Type 0} (f : X → Y) (xs : List X) (i : ℕ) (x : X) → map f (set xs i x) ≡ set (map f xs) i (f x)
map-set f [] i x = refl
map-set f (y ∷ ys) zero x = refl
map-set f (y ∷ ys) (suc i) x = ap (λ zs. f y ∷ zs) (map-set f ys i x)

pub get_or-map : {X Y : Type 0} (f : X → Y) (xs : List X) (i : ℕ) (d : X) → get_or (map f xs) i (f d) ≡ f (get_or xs i d)
get_or-map f [] i d = refl
get_or-map f (y ∷ ys) zero d = refl
get_or-map f (y ∷ ys) (suc i) d = get_or-map f ys i d
