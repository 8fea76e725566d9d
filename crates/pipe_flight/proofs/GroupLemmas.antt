-- Each step keeps the order of each group.
use Rattle.std.proofs.Common.{◌≡◌, ◌≢◌, ℕ, zero, suc, ◌+◌, ◌-◌, ◌<◌, ◌≤◌, Bool, true, false, not, cond, List, [], ◌∷◌, ◌++◌, length, get_or, refl, ap, ap₂, sym, ◌∙◌, subst, arith, filter, map, ⊎_elim, inl, inr, append_assoc}
use Rattle.std.specs.Prelude.{◌⊎◌, ◌==◌, nat_le}
use Rattle.std.specs.List.{All}
use Rattle.std.proofs.lemmas.Bool.{cases_eq}
use Rattle.std.proofs.lemmas.Bool.Decides.{nat_tests}
use Rattle.std.proofs.lemmas.List.{append-nil, map-append, length-append}
use Rattle.std.proofs.lemmas.List.Elements.{All-nil, All-cons, All-head, All-tail, All-map}
use Rattle.reg_file.specs.declared.traits.Call.{Call}
use Rattle.reg_file.specs.Registers.{Contents}
use Rattle.reg_file.specs.Calls.{all_made}
use Rattle.pipe_core.specs.Flow.{Stages, flow}
use Rattle.pipe_flight.specs.Flights.{Flying, Versions, entering, calls_next, moved_on, rest_of, drained, drain, kept_now, committed}
use Rattle.pipe_flight.specs.Orders.{if_left, is_old, is_present, Falls}
use Rattle.pipe_flight.specs.Schedules.{Fill, filled, Moment, calls_of_group, passed_group, moment_after, Serial, AreAt, Avoids}
use Rattle.pipe_flight.specs.Traces.{Item, trace_after, play, without_last, not_passed}
use Rattle.pipe_flight.proofs.Agreements.{SameAt, Stands, Agrees, rev, IsOf, AvoidsAll, Follows, Traced, Reaches, Unfilled}
use Rattle.pipe_flight.specs.Schedules.Step.{Enter, Advance, Change}
use Rattle.pipe_flight.specs.Traces.Item.{Made, Filled}
use Rattle.pipe_flight.proofs.PlaceLemmas.{all_made_same, all_made_off, InGroup}
use Rattle.pipe_flight.proofs.DrainLemmas.{BothStaged, stages_staged, rest_same, drained_same}
use Rattle.pipe_flight.proofs.CommitLemmas.{leave_drained, commit_drained}
use Rattle.pipe_flight.proofs.OrderLemmas.{falls_here, falls_above, group_calls_of, group_passed}
use Rattle.pipe_flight.proofs.TraceLemmas.{rev_append, rev_rev, all_rev, follows_moved, one_more}

-- ---- counting

np_append : {P : Type 0} (group : ℕ) (front back : List (Flying P)) → not_passed group (front ++ back) ≡ not_passed group front + not_passed group back
np_append group [] back = omega arith
np_append group (one ∷ front) back = let rest = np_append group front back in omega arith

np_above : {P : Type 0} (group : ℕ) (front : List (Flying P)) → All (λ (f : Flying P). group + 1 ≤ f.group) front → not_passed group front ≡ 0
np_above group [] h = refl
np_above {P} group (one ∷ front) h =
    let up : group + 1 ≤ one.group = All-head (λ (f : Flying P). group + 1 ≤ f.group) one front h in
    let no : nat_le one.group group ≡ false = grind (arith, nat_tests) in
    let rest = np_above group front (All-tail (λ (f : Flying P). group + 1 ≤ f.group) one front h) in
    ap (λ b. cond b 1 0 + not_passed group front) no ∙ omega (arith, rest)

np_below : {P : Type 0} (group high : ℕ) (back : List (Flying P)) → high ≤ group → Falls high back → not_passed group back ≡ length back
np_below group high [] le f = refl
np_below {P} group high (one ∷ back) le f =
    let yes : nat_le one.group group ≡ true = (let below = f.0 in grind (arith, nat_tests)) in
    let rest = np_below group one.group back (omega (arith, f.0)) f.1 in
    ap (λ b. cond b 1 0 + not_passed group back) yes ∙ omega (arith, rest)

np_kept : {P : Type 0} (group : ℕ) (flight : List (Flying P)) → not_passed group (map kept_now flight) ≡ not_passed group flight
np_kept group [] = refl
np_kept group (one ∷ flight) = ap (λ n. cond (nat_le one.group group) 1 0 + n) (np_kept group flight)

falls_rest : {P : Type 0} (high : ℕ) (front : List (Flying P)) (one : Flying P) (back : List (Flying P)) → Falls high (front ++ one ∷ back) → Falls one.group back
falls_rest high [] one back f = f.1
falls_rest high (first ∷ front) one back f = falls_rest first.group front one back f.1

falls_below : {P : Type 0} (high : ℕ) (front : List (Flying P)) (one : Flying P) (back : List (Flying P)) → Falls high (front ++ one ∷ back) → one.group + 1 ≡ high → front ≡ []
falls_below high [] one back f e = refl
falls_below high (first ∷ front) one back f e = (let below = falls_here first.group front one back f.1 in absurd (omega (arith, f.0, below)))

pub rev_length : {A : Type 0} (xs : List A) → length (rev xs) ≡ length xs
rev_length [] = refl
rev_length (x ∷ xs) = (let rest = rev_length xs in simp length-append (omega arith))

rev_map : {A B : Type 0} (f : A → B) (xs : List A) → rev (map f xs) ≡ map f (rev xs)
rev_map f [] = refl
rev_map f (x ∷ xs) = ap (λ ys. ys ++ f x ∷ []) (rev_map f xs) ∙ sym (map-append f (rev xs) (x ∷ []))

-- ---- enter

pub trace_enter : {P : Type 0} (group_of : ℕ → ℕ) (start : Contents) (none : List ℕ) (m : Moment P) (s : Serial P) (trace : List Item) (packet : P) → Agrees group_of m s → Traced group_of start m trace
    → Traced group_of start (moment_after none m (Enter packet)) (trace_after m.rules.count none s trace (Enter packet))
trace_enter {P} group_of start none m s trace packet a t =
    let entered = entering none packet in
    let whole : m.rules.count - 0 ≡ m.rules.count = omega arith in
    record {
      backward = entered ∷ t.backward;
      order = ap (λ fs. fs ++ entered ∷ []) t.order;
      follows = (
        record {
          done = [];
          whole =
              ap₂ (λ now contents. flow now contents packet m.rules.count 0 none) a.now (sym a.contents ∙ ap (drain m.rules m.contents) t.order)
              ∙ ap (λ n. flow m.rules.now (drain m.rules m.contents (rev t.backward)) packet n 0 none) (sym whole);
          behind = All-nil (λ (c : Call). group_of c.array < 0);
        },
        t.follows,
      );
      groups = λ x i lt.
          let more : not_passed (group_of x) (m.flight ++ entered ∷ []) ≡ suc (not_passed (group_of x) m.flight) =
          (let yes : nat_le 0 (group_of x) ≡ true = grind (arith, nat_tests) in np_append (group_of x) m.flight (entered ∷ []) ∙ ap (λ b. not_passed (group_of x) m.flight + (cond b 1 0 + 0)) yes ∙ omega arith) in
          t.groups x i lt
          ∙ ap (λ n. play start (without_last n (trace_after m.rules.count none s trace (Enter packet))) x i) (sym more);
    }

-- ---- advance

follows_left : {P : Type 0} (group_of : ℕ → ℕ) (rules : Versions P) (contents : Contents) (bs : List (Flying P)) (next : Flying P) (trace : List Item) → rules.count ≤ next.group → Follows group_of rules contents (bs ++ next ∷ []) trace → Follows group_of rules contents (bs ++ []) trace
follows_left group_of rules contents [] next trace le h = tt
follows_left group_of rules contents (b ∷ bs) next [] le h = h
follows_left {P} group_of rules contents (b ∷ bs) next (Made calls ∷ items) le h =
    let same : drain rules contents (rev (bs ++ next ∷ [])) ≡ drain rules contents (rev (bs ++ [])) =
    ap (drain rules contents) (rev_append bs (next ∷ []))
    ∙ ap (all_made contents) (leave_drained rules contents [] next (rev bs) le)
    ∙ ap (λ xs. drain rules contents (rev xs)) (sym (append-nil bs)) in
    (subst (λ c. IsOf group_of rules c b calls) same h.0, follows_left group_of rules contents bs next items le h.1)
follows_left {P} group_of rules contents (b ∷ bs) next (Filled fill ∷ items) le h =
    (drop_last (b ∷ bs) h.0, follows_left group_of rules contents (b ∷ bs) next items le h.1)
  where
    drop_last : (cs : List (Flying P)) → All (Reaches (Unfilled fill) rules) (cs ++ next ∷ [])
        → All (Reaches (Unfilled fill) rules) (cs ++ [])
    drop_last [] av = All-nil (Reaches (Unfilled fill) rules)
    drop_last (c ∷ cs) av = All-cons (Reaches (Unfilled fill) rules) c (cs ++ [])
        (All-head (Reaches (Unfilled fill) rules) c (cs ++ next ∷ []) av)
        (drop_last cs (All-tail (Reaches (Unfilled fill) rules) c (cs ++ next ∷ []) av))

-- what follows after the packet moved, whether it left or not
left_follows : {P : Type 0} (group_of : ℕ → ℕ) (rules : Versions P) (contents : Contents) (bs : List (Flying P)) (next : Flying P) (fs : List (Flying P)) (trace : List Item) → (next.group ≡ rules.count → fs ≡ []) → Follows group_of rules contents (bs ++ next ∷ fs) trace → Follows group_of rules contents (bs ++ (if_left rules.count next ++ fs)) trace
left_follows {P} group_of rules contents bs next fs trace last h = by (next.group == rules.count) refl
  where
    by : (b : Bool) → (next.group == rules.count) ≡ b → Follows group_of rules contents (bs ++ (cond b [] (next ∷ []) ++ fs)) trace
    by true e =
        let at : next.group ≡ rules.count = grind (arith, nat_tests) in
        let none = last at in
        subst (λ xs. Follows group_of rules contents (bs ++ xs) trace) (sym none)
        (follows_left group_of rules contents bs next trace (omega arith) (subst (λ xs. Follows group_of rules contents (bs ++ next ∷ xs) trace) none h))
    by false e = h

sides : (x y : ℕ) → x ≢ y → (x < y) ⊎ (y < x)
sides x y d = by (nat_le x y) refl
  where
    by : (b : Bool) → nat_le x y ≡ b → (x < y) ⊎ (y < x)
    by true e = (let le : x ≤ y = grind (arith, nat_tests) in inl (omega arith))
    by false e = (let lt : y < x = grind (arith, nat_tests) in inr (omega arith))

np_left : {P : Type 0} (group count : ℕ) (one next : Flying P) (back : List (Flying P)) → next.group ≡ one.group + 1 → group < count → one.group < count → one.group ≢ group → not_passed group (if_left count next ++ back) ≡ not_passed group (one ∷ back)
np_left {P} group count one next back e lt low ne = by (next.group == count) refl
  where
    by : (b : Bool) → (next.group == count) ≡ b → not_passed group (cond b [] (next ∷ []) ++ back) ≡ not_passed group (one ∷ back)
    by true q =
        let at : next.group ≡ count = grind (arith, nat_tests) in
        let no : nat_le one.group group ≡ false = (let up : group < one.group = omega arith in grind (arith, nat_tests)) in
        sym (ap (λ b. cond b 1 0 + not_passed group back) no ∙ omega arith)
    by false q =
        let same : nat_le next.group group ≡ nat_le one.group group = ⊎_elim
        (λ (down : one.group < group). (let a : nat_le next.group group ≡ true = grind (arith, nat_tests) in let b : nat_le one.group group ≡ true = grind (arith, nat_tests) in a ∙ sym b))
        (λ (up : group < one.group). (let a : nat_le next.group group ≡ false = grind (arith, nat_tests) in let b : nat_le one.group group ≡ false = grind (arith, nat_tests) in a ∙ sym b))
        (sides one.group group ne) in
        ap (λ b. cond b 1 0 + not_passed group back) same

pub np_here : {P : Type 0} (high : ℕ) (front : List (Flying P)) (one : Flying P) (back : List (Flying P)) → Falls high (front ++ one ∷ back) → not_passed one.group (front ++ one ∷ back) ≡ suc (length back)
np_here high front one back f =
    let above = np_above one.group front (falls_above high front one back f) in
    let below = np_below one.group one.group back (omega arith) (falls_rest high front one back f) in
    let yes : nat_le one.group one.group ≡ true = grind (arith, nat_tests) in
    np_append one.group front (one ∷ back) ∙ ap (λ b. not_passed one.group front + (cond b 1 0 + not_passed one.group back)) yes ∙ omega (arith, above, below)

pub np_gone : {P : Type 0} (high count : ℕ) (front : List (Flying P)) (one next : Flying P) (back : List (Flying P)) → next.group ≡ one.group + 1 → Falls high (front ++ one ∷ back) → not_passed one.group (front ++ (if_left count next ++ back)) ≡ length back
np_gone {P} high count front one next back e f =
    let above = np_above one.group front (falls_above high front one back f) in
    let below = np_below one.group one.group back (omega arith) (falls_rest high front one back f) in
    np_append one.group front (if_left count next ++ back) ∙ ap (λ n. not_passed one.group front + n) (by (next.group == count)) ∙ omega (arith, above, below)
  where
    by : (b : Bool) → not_passed one.group (cond b [] (next ∷ []) ++ back) ≡ not_passed one.group back
    by true = refl
    by false = (let no : nat_le next.group one.group ≡ false = grind (arith, nat_tests) in ap (λ b. cond b 1 0 + not_passed one.group back) no ∙ omega arith)

-- ---- advance, whole

pub trace_moved : {P : Type 0} (group_of : ℕ → ℕ) (start : Contents) (rules : Versions P) (contents : Contents) (calls : List Call) (front : List (Flying P)) (one : Flying P) (back flight : List (Flying P)) (made_calls new_calls : List Call) (trace : List Item)
    → BothStaged group_of rules → Falls rules.count (front ++ one ∷ back)
    → Traced group_of start (record { flight = front ++ one ∷ back; rules = rules; contents = contents; calls = calls }) trace
    → flight ≡ front ++ (if_left rules.count (moved_on rules contents one) ++ back) → made_calls ≡ calls_next rules one
    → Traced group_of start (record { flight = flight; rules = rules; contents = all_made contents made_calls; calls = new_calls }) trace
trace_moved {P} group_of start rules contents calls front one back flight made_calls new_calls trace both falls t f c =
    let here = calls_next rules one in
    let next = moved_on rules contents one in
    let lt = falls_here rules.count front one back falls in
    let above = falls_above rules.count front one back falls in
    let fs = rev front in let bs = rev back in
    let backward_is : t.backward ≡ bs ++ one ∷ fs =
    sym (rev_rev t.backward) ∙ ap rev (sym t.order) ∙ rev_append front (one ∷ back) ∙ append_assoc bs (one ∷ []) fs in
    let follows_old : Follows group_of rules contents (bs ++ one ∷ fs) trace = subst (λ xs. Follows group_of rules contents xs trace) backward_is t.follows in
    let up : All (λ (x : Flying P). one.group + 1 ≤ x.group) fs = all_rev (λ (x : Flying P). one.group + 1 ≤ x.group) front above in
    let at : AreAt (InGroup group_of one.group) here = (stages_staged group_of rules one both).there one.group one.packet one.outs in
    record {
      backward = bs ++ (if_left rules.count next ++ fs);
      order = f ∙ left_rev rules.count front next back;
      follows = subst (λ x. Follows group_of rules (all_made contents x) (bs ++ (if_left rules.count next ++ fs)) trace) (sym c)
          (left_follows group_of rules (all_made contents here) bs next fs trace (λ e. ap rev (falls_below rules.count front one back falls e))
          (follows_moved group_of rules contents bs one fs trace both lt up follows_old));
      groups = λ a i less.
          ap (λ x. all_made contents x a i) c
          ∙ ⊎_elim
          (λ (same : group_of a ≡ one.group).
          let old_count : not_passed (group_of a) (front ++ one ∷ back) ≡ suc (length bs) = ap (λ g. not_passed g (front ++ one ∷ back)) same ∙ np_here rules.count front one back falls ∙ ap suc (sym (rev_length back)) in
          let new_count : length bs ≡ not_passed (group_of a) flight = rev_length back ∙ sym (ap₂ not_passed same f ∙ np_gone rules.count rules.count front one next back refl falls) in
          all_made_same here contents (play start (without_last (suc (length bs)) trace)) a i (t.groups a i less ∙ ap (λ n. play start (without_last n trace) a i) old_count)
          ∙ sym (one_more group_of rules contents start bs one fs trace a i both lt same follows_old)
          ∙ ap (λ n. play start (without_last n trace) a i) new_count)
          (λ (other : group_of a ≢ one.group).
          let count_same : not_passed (group_of a) (front ++ one ∷ back) ≡ not_passed (group_of a) flight =
          np_append (group_of a) front (one ∷ back)
          ∙ ap (λ n. not_passed (group_of a) front + n) (sym (np_left (group_of a) rules.count one next back refl less lt (λ e. other (sym e))))
          ∙ sym (np_append (group_of a) front (if_left rules.count next ++ back))
          ∙ ap (not_passed (group_of a)) (sym f) in
          all_made_off (InGroup group_of one.group) here contents a i at other
          ∙ t.groups a i less
          ∙ ap (λ n. play start (without_last n trace) a i) count_same)
          (cases_eq (group_of a) one.group);
    }
  where
    left_rev : (count : ℕ) (front : List (Flying P)) (next : Flying P) (back : List (Flying P)) → front ++ (if_left count next ++ back) ≡ rev (rev back ++ (if_left count next ++ rev front))
    left_rev count front next back = by (next.group == count)
      where
        by : (b : Bool) → front ++ (cond b [] (next ∷ []) ++ back) ≡ rev (rev back ++ (cond b [] (next ∷ []) ++ rev front))
        by true = sym (rev_append (rev back) (rev front) ∙ ap₂ (λ xs ys. xs ++ ys) (rev_rev front) (rev_rev back))
        by false = sym (rev_append (rev back) (next ∷ rev front) ∙ append_assoc (rev (rev front)) (next ∷ []) (rev (rev back)) ∙ ap₂ (λ xs ys. xs ++ next ∷ ys) (rev_rev front) (rev_rev back))

pub trace_advance : {P : Type 0} (group_of : ℕ → ℕ) (start : Contents) (none : List ℕ) (m : Moment P) (s : Serial P) (trace : List Item) (group : ℕ) → Agrees group_of m s → Stands group m.flight → Traced group_of start m trace
    → Traced group_of start (moment_after none m (Advance group)) trace
trace_advance {P} group_of start none m s trace group a stands t =
    let front = stands.front in let one = stands.one in let back = stands.back in
    let falls : Falls m.rules.count (front ++ one ∷ back) = subst (Falls m.rules.count) stands.split a.flight.falls in
    let above = falls_above m.rules.count front one back falls in
    trace_moved group_of start m.rules m.contents m.calls front one back (passed_group m.rules m.contents group m.flight) (calls_of_group m.rules group m.flight) (m.calls ++ calls_of_group m.rules group m.flight) trace
    (record { now = a.now_staged; old = a.old_staged }) falls
    (subst (λ (fs : List (Flying P)). Traced group_of start (record { flight = fs; rules = m.rules; contents = m.contents; calls = m.calls }) trace) stands.split t)
    (ap₂ (passed_group m.rules m.contents) (sym stands.here) stands.split ∙ group_passed m.rules m.contents front one back above)
    (ap₂ (calls_of_group m.rules) (sym stands.here) stands.split ∙ group_calls_of m.rules front one back above)

-- ---- a change with no old packet in flight

avoids_kept : {P : Type 0} (rules : Versions P) (next : Stages P) (fill : Fill) (fs : List (Flying P)) → All (λ (f : Flying P). f.kept ≡ false) fs → AvoidsAll rules fill fs → AvoidsAll (committed rules next) fill (map kept_now fs)
avoids_kept rules next fill fs new h =
    All-map (Reaches (Unfilled fill) (committed rules next)) kept_now fs (λ k d lt. record {
      at = λ g o le. subst (λ b. AreAt (Unfilled fill) (cond b rules.old rules.now g (get_or fs k d).packet o)) (new k d lt) ((h k d lt).at g o le);
    })

follows_kept : {P : Type 0} (group_of : ℕ → ℕ) (rules : Versions P) (next : Stages P) (fill : Fill) (contents : Contents) (fs : List (Flying P)) (trace : List Item) → All (λ (f : Flying P). f.kept ≡ false) fs → Avoids rules.now fill
    → Follows group_of rules contents fs trace → Follows group_of (committed rules next) (filled fill contents) (map kept_now fs) trace
follows_kept group_of rules next fill contents [] trace new avoids h = tt
follows_kept group_of rules next fill contents (f ∷ fs) [] new avoids h = h
follows_kept {P} group_of rules next fill contents (f ∷ fs) (Made calls ∷ items) new avoids h =
    let Present : Flying P → Type 0 = λ x. x.kept ≡ false in
    let rules_next = committed rules next in
    let Off : ℕ → ℕ → Type 0 = λ a i. fill.test a i ≡ false in
    let before = rev fs in
    let news : All Present before = all_rev Present fs (All-tail Present f fs new) in
    let reach : All (Reaches Off rules_next) (map kept_now before) = All-map (Reaches Off rules_next) kept_now before (λ k d lt. record { at = λ g o le. avoids g (get_or before k d).packet o }) in
    let off : SameAt Off (filled fill contents) contents = record { same = λ x y e. ap (λ b. cond b (fill.value x y) (contents x y)) e } in
    let coming : drained rules_next (filled fill contents) (map kept_now before) ≡ drained rules contents before =
    drained_same Off rules_next (filled fill contents) contents (map kept_now before) reach off ∙ commit_drained rules next contents before news in
    let end = drain rules_next (filled fill contents) (map kept_now before) in
    let same : SameAt Off end (drain rules contents before) = record {
      same = λ x y e.
          ap (λ cs. all_made (filled fill contents) cs x y) coming ∙ all_made_same (drained rules contents before) (filled fill contents) contents x y (off.same x y e);
    } in
    let rest : rest_of rules_next end (kept_now f) ≡ rest_of rules (drain rules contents before) f =
    rest_same Off rules_next end (drain rules contents before) (kept_now f) (record { at = λ g o le. avoids g f.packet o }) same
    ∙ ap (λ b. flow (cond b rules.old rules.now) (drain rules contents before) f.packet (rules.count - f.group) f.group f.outs) (sym (All-head Present f fs new)) in (
      record {
        done = h.0.done;
        whole = h.0.whole ∙ ap (λ cs. h.0.done ++ cs) (sym rest ∙ ap (λ bs. rest_of rules_next (drain rules_next (filled fill contents) bs) (kept_now f)) (sym (rev_map kept_now fs)));
        behind = h.0.behind;
      },
      follows_kept group_of rules next fill contents fs items (All-tail Present f fs new) avoids h.1,
    )
follows_kept {P} group_of rules next fill contents (f ∷ fs) (Filled other ∷ items) new avoids h =
    (avoids_kept rules next other (f ∷ fs) new h.0, follows_kept group_of rules next fill contents (f ∷ fs) items new avoids h.1)

all_kept : {P : Type 0} (rules : Versions P) (next : Stages P) (fill : Fill) (fs : List (Flying P)) → Avoids rules.now fill → AvoidsAll (committed rules next) fill (map kept_now fs)
all_kept rules next fill fs avoids =
    All-map (Reaches (Unfilled fill) (committed rules next)) kept_now fs (λ k d lt. record { at = λ g o le. avoids g (get_or fs k d).packet o })

follows_filled : {P : Type 0} (group_of : ℕ → ℕ) (rules : Versions P) (contents : Contents) (fs : List (Flying P)) (fill : Fill) (trace : List Item) → AvoidsAll rules fill fs → Follows group_of rules contents fs trace → Follows group_of rules contents fs (Filled fill ∷ trace)
follows_filled group_of rules contents [] fill trace av h = tt
follows_filled group_of rules contents (f ∷ fs) fill trace av h = (av, h)

play_filled : (start : Contents) (n : ℕ) (fill : Fill) (trace : List Item) → play start (without_last n (Filled fill ∷ trace)) ≡ filled fill (play start (without_last n trace))
play_filled start zero fill trace = refl
play_filled start (suc n) fill trace = refl

pub presents_only : {P : Type 0} (flight : List (Flying P)) → All (λ (f : Flying P). f.kept ≡ false) flight → (filter is_old flight ≡ []) × (filter is_present flight ≡ flight)
presents_only [] h = (refl, refl)
presents_only {P} (one ∷ flight) h =
    let Present : Flying P → Type 0 = λ x. x.kept ≡ false in
    let rest = presents_only flight (All-tail Present one flight h) in
    let e = All-head Present one flight h in (
      ap (λ b. cond b (one ∷ filter is_old flight) (filter is_old flight)) e ∙ rest.0,
      ap (λ b. cond (not b) (one ∷ filter is_present flight) (filter is_present flight)) e ∙ ap (λ fs. one ∷ fs) rest.1,
    )

pub trace_change : {P : Type 0} (group_of : ℕ → ℕ) (start : Contents) (none : List ℕ) (m : Moment P) (s : Serial P) (trace : List Item) (next : Stages P) (fill : Fill) → All (λ (f : Flying P). f.kept ≡ false) m.flight → Avoids m.rules.now fill → Traced group_of start m trace
    → Traced group_of start (moment_after none m (Change next fill)) (trace_after m.rules.count none s trace (Change next fill))
trace_change {P} group_of start none m s trace next fill new avoids t =
    let Present : Flying P → Type 0 = λ x. x.kept ≡ false in
    let only = presents_only m.flight new in
    let cells_is : filled fill (drain m.rules m.contents (filter is_old m.flight)) ≡ filled fill m.contents = ap (λ fs. filled fill (drain m.rules m.contents fs)) only.0 in
    let back_new : All Present t.backward = subst (All Present) (ap rev t.order ∙ rev_rev t.backward) (all_rev Present m.flight new) in
    record {
      backward = map kept_now t.backward;
      order = ap (map kept_now) (only.1 ∙ t.order) ∙ sym (rev_map kept_now t.backward);
      follows = follows_filled group_of (committed m.rules next) (filled fill (drain m.rules m.contents (filter is_old m.flight))) (map kept_now t.backward) fill trace (all_kept m.rules next fill t.backward avoids)
          (subst (λ c. Follows group_of (committed m.rules next) c (map kept_now t.backward) trace) (sym cells_is) (follows_kept group_of m.rules next fill m.contents t.backward trace back_new avoids t.follows));
      groups = λ a i lt.
          ap (λ (c : Contents). c a i) cells_is
          ∙ ap (λ v. cond (fill.test a i) (fill.value a i) v) (t.groups a i lt ∙ ap (λ n. play start (without_last n trace) a i) (sym (ap (not_passed (group_of a)) (ap (map kept_now) only.1) ∙ np_kept (group_of a) m.flight)))
          ∙ sym (ap (λ (c : Contents). c a i) (play_filled start (not_passed (group_of a) (map kept_now (filter is_present m.flight))) fill trace));
    }
