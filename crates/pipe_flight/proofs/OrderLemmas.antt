-- The order of packets in flight.
use Rattle.std.proofs.Common.{◌≡◌, ◌≢◌, ℕ, ◌+◌, ◌<◌, ◌≤◌, Bool, true, false, not, cond, List, [], ◌∷◌, ◌++◌, refl, ap, sym, ◌∙◌, arith, filter, map, eq-eqb, ⊎_elim}
use Rattle.std.specs.Prelude.{◌==◌}
use Rattle.std.specs.List.{All}
use Rattle.std.proofs.lemmas.Bool.{cases_eq}
use Rattle.std.proofs.lemmas.Bool.Decides.{nat_tests}
use Rattle.std.proofs.lemmas.List.Elements.{All-nil, All-cons, All-head, All-tail, All-append}
use Rattle.reg_file.specs.Registers.{Contents}
use Rattle.pipe_flight.specs.Flights.{Flying, Versions, entering, calls_next, moved_on, drained, kept_now}
use Rattle.pipe_flight.specs.Orders.{NobodyAt, if_left, is_old, is_present, Falls, OldFirst}
use Rattle.pipe_flight.specs.Schedules.{calls_of_group, passed_group}
use Rattle.pipe_flight.proofs.Agreements.{Stands}
use Rattle.pipe_flight.proofs.CommitLemmas.{leave_drained}

-- ---- groups fall

pub falls_wider : {P : Type 0} (low high : ℕ) (flight : List (Flying P)) → low ≤ high → Falls low flight → Falls high flight
falls_wider low high [] le f = tt
falls_wider low high (one ∷ others) le f = (omega (arith, f.0), f.1)

pub falls_back : {P : Type 0} (high : ℕ) (front back : List (Flying P)) → Falls high (front ++ back) → Falls high back
falls_back high [] back f = f
falls_back high (one ∷ front) back f = falls_wider one.group high back (omega (arith, f.0)) (falls_back one.group front back f.1)

pub falls_here : {P : Type 0} (high : ℕ) (front : List (Flying P)) (one : Flying P) (back : List (Flying P)) → Falls high (front ++ one ∷ back) → one.group < high
falls_here high [] one back f = f.0
falls_here high (first ∷ front) one back f = let below = falls_here first.group front one back f.1 in omega (arith, f.0, below)

pub falls_above : {P : Type 0} (high : ℕ) (front : List (Flying P)) (one : Flying P) (back : List (Flying P)) → Falls high (front ++ one ∷ back) → All (λ (f : Flying P). one.group + 1 ≤ f.group) front
falls_above high [] one back f = All-nil (λ f. one.group + 1 ≤ f.group)
falls_above {P} high (first ∷ front) one back f =
    let below : one.group < first.group = falls_here first.group front one back f.1 in
    All-cons (λ (f : Flying P). one.group + 1 ≤ f.group) first front (omega arith) (falls_above first.group front one back f.1)

-- a packet enters before group 0
pub falls_enter : {P : Type 0} (high : ℕ) (flight : List (Flying P)) (none : List ℕ) (packet : P) → 0 < high → Falls high flight → NobodyAt 0 flight → Falls high (flight ++ entering none packet ∷ [])
falls_enter high [] none packet lt f nobody = (lt, tt)
falls_enter {P} high (one ∷ flight) none packet lt f nobody =
    let here = All-head (λ (f : Flying P). f.group ≢ 0) one flight nobody in
    (f.0, falls_enter one.group flight none packet (omega arith) f.1 (All-tail (λ (f : Flying P). f.group ≢ 0) one flight nobody))

-- a packet moves on, with nobody before the next group
pub falls_move : {P : Type 0} (high : ℕ) (front : List (Flying P)) (one next : Flying P) (back : List (Flying P)) → next.group ≡ one.group + 1 → next.group < high → Falls high (front ++ one ∷ back) → NobodyAt (one.group + 1) front → Falls high (front ++ next ∷ back)
falls_move high [] one next back e lt f nobody = (lt, falls_wider one.group next.group back (omega arith) f.1)
falls_move {P} high (first ∷ front) one next back e lt f nobody =
    let here : first.group ≢ one.group + 1 = All-head (λ (f : Flying P). f.group ≢ one.group + 1) first front nobody in
    let below : one.group < first.group = falls_here first.group front one back f.1 in
    (f.0, falls_move first.group front one next back e (omega arith) f.1 (All-tail (λ (f : Flying P). f.group ≢ one.group + 1) first front nobody))

-- a packet leaves
pub falls_leave : {P : Type 0} (high : ℕ) (front : List (Flying P)) (one : Flying P) (back : List (Flying P)) → Falls high (front ++ one ∷ back) → Falls high (front ++ back)
falls_leave high [] one back f = falls_wider one.group high back (omega (arith, f.0)) f.1
falls_leave high (first ∷ front) one back f = (f.0, falls_leave first.group front one back f.1)

pub falls_kept : {P : Type 0} (high : ℕ) (flight : List (Flying P)) → Falls high flight → Falls high (map kept_now flight)
falls_kept high [] f = tt
falls_kept high (one ∷ flight) f = (f.0, falls_kept one.group flight f.1)

-- ---- old packets first

pub old_push : (olds : List Bool) → OldFirst olds → OldFirst (olds ++ false ∷ [])
old_push [] h = ((λ e. All-nil (λ b. b ≡ false)), tt)
old_push (b ∷ olds) h = ((λ e. All-append (λ x. x ≡ false) olds (false ∷ []) (h.0 e) (All-cons (λ x. x ≡ false) false [] refl (All-nil (λ x. x ≡ false)))), old_push olds h.1)

pub old_leave : (front : List Bool) (one : Bool) (back : List Bool) → OldFirst (front ++ one ∷ back) → OldFirst (front ++ back)
old_leave [] one back h = h.1
old_leave (b ∷ front) one back h = ((λ e. without_one front one back (h.0 e)), old_leave front one back h.1)
  where
    without_one : (front : List Bool) (one : Bool) (back : List Bool) → All (λ x. x ≡ false) (front ++ one ∷ back) → All (λ x. x ≡ false) (front ++ back)
    without_one [] one back h = All-tail (λ x. x ≡ false) one back h
    without_one (b ∷ front) one back h = All-cons (λ x. x ≡ false) b (front ++ back) (All-head (λ x. x ≡ false) b (front ++ one ∷ back) h) (without_one front one back (All-tail (λ x. x ≡ false) b (front ++ one ∷ back) h))

pub old_kept : {P : Type 0} (flight : List (Flying P)) → OldFirst (map is_old (map kept_now flight))
old_kept [] = tt
old_kept (one ∷ flight) = ((λ e. absurd (cc)), old_kept flight)

-- the old ones, and then the present ones
pub old_split : {P : Type 0} (flight : List (Flying P)) → OldFirst (map is_old flight) → flight ≡ filter is_old flight ++ filter is_present flight
old_split [] h = refl
old_split {P} (one ∷ flight) h = by (old_split flight h.1) one.kept refl
  where
    no_old : (fs : List (Flying P)) → All (λ x. x ≡ false) (map is_old fs) → filter is_old fs ≡ []
    no_old [] a = refl
    no_old (f ∷ fs) a = ap (λ b. cond b (f ∷ filter is_old fs) (filter is_old fs)) (All-head (λ x. x ≡ false) f.kept (map is_old fs) a) ∙ no_old fs (All-tail (λ x. x ≡ false) f.kept (map is_old fs) a)

    by : flight ≡ filter is_old flight ++ filter is_present flight → (b : Bool) → one.kept ≡ b → one ∷ flight ≡ cond b (one ∷ filter is_old flight) (filter is_old flight) ++ cond (not b) (one ∷ filter is_present flight) (filter is_present flight)
    by rest true e = ap (λ fs. one ∷ fs) rest
    by rest false e =
        let none : filter is_old flight ≡ [] = no_old flight (h.0 e) in
        ap (λ fs. one ∷ fs) (rest ∙ ap (λ fs. fs ++ filter is_present flight) none) ∙ ap (λ fs. fs ++ (one ∷ filter is_present flight)) (sym none)

pub all_old : {P : Type 0} (flight : List (Flying P)) → All (λ (f : Flying P). f.kept ≡ true) (map kept_now flight)
all_old {P} [] = All-nil (λ (f : Flying P). f.kept ≡ true)
all_old {P} (one ∷ flight) = All-cons (λ (f : Flying P). f.kept ≡ true) (kept_now one) (map kept_now flight) refl (all_old flight)

pub all_present : {P : Type 0} (flight : List (Flying P)) → All (λ (f : Flying P). f.kept ≡ false) (filter is_present flight)
all_present {P} [] = All-nil (λ (f : Flying P). f.kept ≡ false)
all_present {P} (one ∷ flight) = by (all_present flight) one.kept refl
  where
    by : All (λ (f : Flying P). f.kept ≡ false) (filter is_present flight) → (b : Bool) → one.kept ≡ b → All (λ (f : Flying P). f.kept ≡ false) (cond (not b) (one ∷ filter is_present flight) (filter is_present flight))
    by rest true e = rest
    by rest false e = All-cons (λ (f : Flying P). f.kept ≡ false) one (filter is_present flight) e rest

-- ---- the packet before a group

pub group_calls_of : {P : Type 0} (rules : Versions P) (front : List (Flying P)) (one : Flying P) (back : List (Flying P)) → All (λ (f : Flying P). one.group + 1 ≤ f.group) front → calls_of_group rules one.group (front ++ one ∷ back) ≡ calls_next rules one
group_calls_of rules [] one back above = ap (λ b. cond b (calls_next rules one) (calls_of_group rules one.group back)) (eq-eqb one.group one.group refl)
group_calls_of {P} rules (first ∷ front) one back above =
    let up : one.group + 1 ≤ first.group = All-head (λ (f : Flying P). one.group + 1 ≤ f.group) first front above in
    let other : (first.group == one.group) ≡ false = grind (arith, nat_tests) in
    ap (λ b. cond b (calls_next rules first) (calls_of_group rules one.group (front ++ one ∷ back))) other
    ∙ group_calls_of rules front one back (All-tail (λ (f : Flying P). one.group + 1 ≤ f.group) first front above)

pub group_passed : {P : Type 0} (rules : Versions P) (contents : Contents) (front : List (Flying P)) (one : Flying P) (back : List (Flying P)) → All (λ (f : Flying P). one.group + 1 ≤ f.group) front → passed_group rules contents one.group (front ++ one ∷ back) ≡ front ++ (if_left rules.count (moved_on rules contents one) ++ back)
group_passed rules contents [] one back above = ap (λ b. cond b (if_left rules.count (moved_on rules contents one) ++ back) (one ∷ passed_group rules contents one.group back)) (eq-eqb one.group one.group refl)
group_passed {P} rules contents (first ∷ front) one back above =
    let up : one.group + 1 ≤ first.group = All-head (λ (f : Flying P). one.group + 1 ≤ f.group) first front above in
    let other : (first.group == one.group) ≡ false = grind (arith, nat_tests) in
    ap (λ b. cond b (if_left rules.count (moved_on rules contents first) ++ (front ++ one ∷ back)) (first ∷ passed_group rules contents one.group (front ++ one ∷ back))) other
    ∙ ap (λ fs. first ∷ fs) (group_passed rules contents front one back (All-tail (λ (f : Flying P). one.group + 1 ≤ f.group) first front above))

-- a packet that may have left changes nothing of what is to come
pub left_drained : {P : Type 0} (rules : Versions P) (contents : Contents) (front : List (Flying P)) (one : Flying P) (back : List (Flying P)) → drained rules contents (front ++ (if_left rules.count one ++ back)) ≡ drained rules contents (front ++ one ∷ back)
left_drained rules contents front one back = by (one.group == rules.count) refl
  where
    by : (b : Bool) → (one.group == rules.count) ≡ b → drained rules contents (front ++ (cond b [] (one ∷ []) ++ back)) ≡ drained rules contents (front ++ one ∷ back)
    by true e = let at : one.group ≡ rules.count = grind (arith, nat_tests) in sym (leave_drained rules contents front one back (omega arith))
    by false e = refl

-- where not nobody stands before a group, some packet does
pub somebody : {P : Type 0} (group : ℕ) (flight : List (Flying P)) → (NobodyAt group flight → ⊥) → Stands group flight
somebody {P} group [] some = absurd (some (All-nil (λ (one : Flying P). one.group ≢ group)))
somebody {P} group (one ∷ flight) some =
    ⊎_elim
    (λ (here : one.group ≡ group). record { front = []; one = one; back = flight; split = refl; here = here })
    (λ (off : one.group ≢ group).
    let rest = somebody group flight (λ none. some (All-cons (λ (one : Flying P). one.group ≢ group) one flight off none)) in
    record { front = one ∷ rest.front; one = rest.one; back = rest.back; split = ap (λ fs. one ∷ fs) rest.split; here = rest.here })
    (cases_eq one.group group)
