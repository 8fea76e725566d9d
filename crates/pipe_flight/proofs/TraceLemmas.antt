-- The order of one group.
use Rattle.std.proofs.Common.{◌≡◌, ℕ, suc, ◌+◌, ◌-◌, ◌<◌, ◌≤◌, cond, List, [], ◌∷◌, ◌++◌, length, refl, ap, sym, ◌∙◌, subst, arith, append_assoc}
use Rattle.std.specs.List.{All}
use Rattle.std.proofs.lemmas.List.{append-nil}
use Rattle.std.proofs.lemmas.List.Elements.{All-nil, All-cons, All-head, All-tail, All-append, All-weaker, All-contains, Contains-append_right}
use Rattle.std.proofs.lemmas.List.Sums.{fold-append}
use Rattle.reg_file.specs.declared.traits.Call.{Call}
use Rattle.reg_file.specs.Registers.{Contents}
use Rattle.reg_file.specs.Calls.{made, all_made, handed}
use Rattle.pipe_core.specs.Flow.{flow}
use Rattle.pipe_flight.specs.Flights.{Flying, Versions, stages_of, calls_next, moved_on, rest_of, drained, drain}
use Rattle.pipe_flight.specs.Schedules.{Fill, AreAt}
use Rattle.pipe_flight.specs.Traces.{Item, play, without_last}
use Rattle.pipe_flight.proofs.Agreements.{SameAt, rev, IsOf, AvoidsAll, Follows, Reaches, Unfilled}
use Rattle.pipe_flight.specs.Traces.Item.{Made, Filled}
use Rattle.pipe_flight.proofs.PlaceLemmas.{all_made_same, all_made_off, flow_at, FromGroup, InGroup, staged_from, same_after}
use Rattle.pipe_flight.proofs.DrainLemmas.{advances, advance_drain, BothStaged, stages_staged, reaches_from, rest_same, drained_same}
use Rattle.pipe_flight.proofs.SerialLemmas.{fill_past}

-- ---- lists the other way round

pub rev_append : {A : Type 0} (xs ys : List A) → rev (xs ++ ys) ≡ rev ys ++ rev xs
rev_append [] ys = sym (append-nil (rev ys))
rev_append (x ∷ xs) ys = ap (λ zs. zs ++ x ∷ []) (rev_append xs ys) ∙ append_assoc (rev ys) (rev xs) (x ∷ [])

pub rev_rev : {A : Type 0} (xs : List A) → rev (rev xs) ≡ xs
rev_rev [] = refl
rev_rev (x ∷ xs) = rev_append (rev xs) (x ∷ []) ∙ ap (λ zs. x ∷ zs) (rev_rev xs)

pub all_rev : {A : Type 0} (Q : A → Type 0) (xs : List A) → All Q xs → All Q (rev xs)
all_rev Q [] h = h
all_rev Q (x ∷ xs) h = All-append Q (rev xs) (x ∷ []) (all_rev Q xs (All-tail Q x xs h)) (All-cons Q x [] (All-head Q x xs h) (All-nil Q))

-- ---- an advance keeps whose each item is

-- the packets before the one that moves
front_follows : {P : Type 0} (group_of : ℕ → ℕ) (rules : Versions P) (contents : Contents) (here : List Call) (group : ℕ) (fs : List (Flying P)) (trace : List Item) → BothStaged group_of rules → AreAt (InGroup group_of group) here → All (λ (f : Flying P). group + 1 ≤ f.group) fs
    → Follows group_of rules contents fs trace → Follows group_of rules (all_made contents here) fs trace
front_follows group_of rules contents here group [] trace both at above h = tt
front_follows group_of rules contents here group (f ∷ fs) [] both at above h = h
front_follows {P} group_of rules contents here group (f ∷ fs) (Made calls ∷ items) both at above h =
    let Later = FromGroup group_of (group + 1) in
    let Up : Flying P → Type 0 = λ x. group + 1 ≤ x.group in
    let reach = reaches_from group_of rules (group + 1) (f ∷ fs) both above in
    let before = rev fs in
    let reach_before = all_rev (Reaches Later rules) fs (All-tail (Reaches Later rules) f fs reach) in
    let same : SameAt Later (drain rules (all_made contents here) before) (drain rules contents before) = record {
      same = λ a i p.
          ap (λ cs. all_made (all_made contents here) cs a i) (drained_same Later rules (all_made contents here) contents before reach_before (same_after group_of group here contents at))
          ∙ all_made_same (drained rules contents before) (all_made contents here) contents a i ((same_after group_of group here contents at).same a i p);
    } in (
      record { done = h.0.done; whole = h.0.whole ∙ ap (λ cs. h.0.done ++ cs) (sym (rest_same Later rules (drain rules (all_made contents here) before) (drain rules contents before) f (All-head (Reaches Later rules) f fs reach) same)); behind = h.0.behind },
      front_follows group_of rules contents here group fs items both at (All-tail Up f fs above) h.1,
    )
front_follows group_of rules contents here group (f ∷ fs) (Filled fill ∷ items) both at above h = (h.0, front_follows group_of rules contents here group (f ∷ fs) items both at above h.1)

avoids_moved : {P : Type 0} (rules : Versions P) (fill : Fill) (contents : Contents) (bs : List (Flying P)) (one : Flying P) (fs : List (Flying P)) → AvoidsAll rules fill (bs ++ one ∷ fs) → AvoidsAll rules fill (bs ++ moved_on rules contents one ∷ fs)
avoids_moved rules fill contents [] one fs h =
    let Q = Reaches (Unfilled fill) rules in
    All-cons Q (moved_on rules contents one) fs (record { at = λ g o le. (All-head Q one fs h).at g o (omega arith) }) (All-tail Q one fs h)
avoids_moved rules fill contents (b ∷ bs) one fs h =
    let Q = Reaches (Unfilled fill) rules in
    All-cons Q b (bs ++ moved_on rules contents one ∷ fs) (All-head Q b (bs ++ one ∷ fs) h) (avoids_moved rules fill contents bs one fs (All-tail Q b (bs ++ one ∷ fs) h))

split_rev : {P : Type 0} (bs : List (Flying P)) (one : Flying P) (fs : List (Flying P)) → rev (bs ++ one ∷ fs) ≡ rev fs ++ one ∷ rev bs
split_rev bs one fs = rev_append bs (one ∷ fs) ∙ append_assoc (rev fs) (one ∷ []) (rev bs)

pub follows_moved : {P : Type 0} (group_of : ℕ → ℕ) (rules : Versions P) (contents : Contents) (bs : List (Flying P)) (one : Flying P) (fs : List (Flying P)) (trace : List Item) → BothStaged group_of rules → one.group < rules.count → All (λ (f : Flying P). one.group + 1 ≤ f.group) fs
    → Follows group_of rules contents (bs ++ one ∷ fs) trace → Follows group_of rules (all_made contents (calls_next rules one)) (bs ++ moved_on rules contents one ∷ fs) trace
follows_moved group_of rules contents [] one fs [] both lt above h = h
follows_moved group_of rules contents (b ∷ bs) one fs [] both lt above h = h
follows_moved {P} group_of rules contents [] one fs (Made calls ∷ items) both lt above h =
    let Up : Flying P → Type 0 = λ x. one.group + 1 ≤ x.group in
    let here = calls_next rules one in
    let at = (stages_staged group_of rules one both).there one.group one.packet one.outs in
    let a = advances group_of rules contents (rev fs) one both lt (all_rev Up fs above) in
    let next = moved_on rules contents one in
    let rest = rest_of rules (drain rules (all_made contents here) (rev fs)) next in (
      record {
        done = h.0.done ++ here;
        whole = h.0.whole ∙ ap (λ cs. h.0.done ++ cs) a.rest ∙ sym (append_assoc h.0.done here rest);
        behind = All-append (λ (c : Call). group_of c.array < one.group + 1) h.0.done here
            (All-weaker (λ (c : Call). group_of c.array < one.group) (λ (c : Call). group_of c.array < one.group + 1) (λ c l. omega arith) h.0.done h.0.behind)
            (All-weaker (λ (c : Call). group_of c.array ≡ one.group) (λ (c : Call). group_of c.array < one.group + 1) (λ c e. omega arith) here at);
      },
      front_follows group_of rules contents here one.group fs items both at above h.1,
    )
follows_moved {P} group_of rules contents (b ∷ bs) one fs (Made calls ∷ items) both lt above h =
    let Up : Flying P → Type 0 = λ x. one.group + 1 ≤ x.group in
    let here = calls_next rules one in
    let next = moved_on rules contents one in
    let same : drain rules (all_made contents here) (rev (bs ++ next ∷ fs)) ≡ drain rules contents (rev (bs ++ one ∷ fs)) =
    ap (drain rules (all_made contents here)) (split_rev bs next fs)
    ∙ advance_drain group_of rules contents (rev fs) one (rev bs) both lt (all_rev Up fs above)
    ∙ ap (drain rules contents) (sym (split_rev bs one fs)) in
    (subst (λ c. IsOf group_of rules c b calls) (sym same) h.0, follows_moved group_of rules contents bs one fs items both lt above h.1)
follows_moved group_of rules contents [] one fs (Filled fill ∷ items) both lt above h = (avoids_moved rules fill contents [] one fs h.0, follows_moved group_of rules contents [] one fs items both lt above h.1)
follows_moved group_of rules contents (b ∷ bs) one fs (Filled fill ∷ items) both lt above h = (avoids_moved rules fill contents (b ∷ bs) one fs h.0, follows_moved group_of rules contents (b ∷ bs) one fs items both lt above h.1)

-- ---- the registers of the group that the packet passes

-- of an item of the packet, the calls on its group are its next ones
own_calls : {P : Type 0} (group_of : ℕ → ℕ) (rules : Versions P) (contents start : Contents) (one : Flying P) (calls : List Call) (a i : ℕ) → BothStaged group_of rules → one.group < rules.count → IsOf group_of rules contents one calls → group_of a ≡ one.group
    → all_made start calls a i ≡ all_made start (calls_next rules one) a i
own_calls group_of rules contents start one calls a i both lt is e =
    let here = calls_next rules one in
    let stages = stages_of rules one in
    let m = rules.count - (one.group + 1) in
    let rest = flow stages contents one.packet m (one.group + 1) (handed contents here one.outs) in
    let n : rules.count - one.group ≡ suc m = omega arith in
    let Behind : ℕ → ℕ → Type 0 = λ x y. group_of x < one.group in
    let Later = FromGroup group_of (one.group + 1) in
    let mid = all_made start is.done in
    let later_at = flow_at Later stages contents one.packet m (one.group + 1) (handed contents here one.outs) (staged_from group_of stages one.packet (one.group + 1) (stages_staged group_of rules one both)) in
    ap (λ cs. all_made start cs a i) (is.whole ∙ ap (λ k. is.done ++ flow stages contents one.packet k one.group one.outs) n)
    ∙ ap (λ (c : Contents). c a i) (fold-append made start is.done (here ++ rest) ∙ fold-append made mid here rest)
    ∙ all_made_off Later rest (all_made mid here) a i later_at (λ le. omega arith)
    ∙ all_made_same here mid start a i (all_made_off Behind is.done start a i is.behind (λ l. omega arith))

-- with the packet's item, and without it
pub one_more : {P : Type 0} (group_of : ℕ → ℕ) (rules : Versions P) (contents start : Contents) (bs : List (Flying P)) (one : Flying P) (fs : List (Flying P)) (trace : List Item) (a i : ℕ) → BothStaged group_of rules → one.group < rules.count → group_of a ≡ one.group
    → Follows group_of rules contents (bs ++ one ∷ fs) trace
    → play start (without_last (length bs) trace) a i ≡ all_made (play start (without_last (suc (length bs)) trace)) (calls_next rules one) a i
one_more group_of rules contents start [] one fs [] a i both lt e h = absurd h
one_more group_of rules contents start (b ∷ bs) one fs [] a i both lt e h = absurd h
one_more group_of rules contents start [] one fs (Made calls ∷ items) a i both lt e h = own_calls group_of rules (drain rules contents (rev fs)) (play start items) one calls a i both lt h.0 e
one_more group_of rules contents start (b ∷ bs) one fs (Made calls ∷ items) a i both lt e h = one_more group_of rules contents start bs one fs items a i both lt e h.1
one_more {P} group_of rules contents start [] one fs (Filled fill ∷ items) a i both lt e h =
    let Q : Flying P → Type 0 = Reaches (Unfilled fill) rules in
    ap (λ v. cond (fill.test a i) (fill.value a i) v) (one_more group_of rules contents start [] one fs items a i both lt e h.1)
    ∙ sym (ap (λ (c : Contents). c a i) (fill_past fill (play start (without_last 1 items)) (calls_next rules one) ((All-head Q one fs h.0).at one.group one.outs (omega arith))))
one_more {P} group_of rules contents start (b ∷ bs) one fs (Filled fill ∷ items) a i both lt e h =
    let Q : Flying P → Type 0 = Reaches (Unfilled fill) rules in
    ap (λ v. cond (fill.test a i) (fill.value a i) v) (one_more group_of rules contents start (b ∷ bs) one fs items a i both lt e h.1)
    ∙ sym (ap (λ (c : Contents). c a i) (fill_past fill (play start (without_last (suc (suc (length bs))) items)) (calls_next rules one) ((All-contains Q (b ∷ (bs ++ one ∷ fs)) one h.0 (Contains-append_right (b ∷ bs) (one ∷ fs) one (0, omega arith, refl))).at one.group one.outs (omega arith))))
