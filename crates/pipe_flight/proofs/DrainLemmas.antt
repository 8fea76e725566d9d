-- What the packets in flight leave when all have passed.
use Rattle.std.proofs.Common.{◌≡◌, ℕ, suc, ◌+◌, ◌-◌, ◌<◌, ◌≤◌, Bool, true, false, cond, List, [], ◌∷◌, ◌++◌, refl, ap, sym, ◌∙◌, arith, filter, append_assoc}
use Rattle.std.specs.List.{All}
use Rattle.std.proofs.lemmas.List.{append-nil}
use Rattle.std.proofs.lemmas.List.Elements.{All-nil, All-head, All-tail, All-append, All-weaker, filter-append}
use Rattle.std.proofs.lemmas.List.Sums.{fold-append}
use Rattle.reg_file.specs.declared.traits.Call.{Call}
use Rattle.reg_file.specs.Registers.{Contents}
use Rattle.reg_file.specs.Calls.{made, all_made, handed, is_on}
use Rattle.pipe_core.specs.Flow.{Stages, flow}
use Rattle.pipe_flight.specs.Flights.{Flying, Versions, entering, stages_of, calls_next, moved_on, rest_of, drained, drain}
use Rattle.pipe_flight.specs.Schedules.{AreAt, AreStaged}
use Rattle.pipe_flight.specs.States.{flying}
use Rattle.pipe_flight.proofs.Agreements.{SameAt, Reaches}
use Rattle.pipe_flight.proofs.PlaceLemmas.{all_made_same, handed_at, flow_same, flow_at, FromGroup, InGroup, staged_from, groups_commute, same_after, same_before, order_by_array}

-- ---- one list of packets and another

pub drained_append : {P : Type 0} (rules : Versions P) (contents : Contents) (front back : List (Flying P)) → drained rules contents (front ++ back) ≡ drained rules contents front ++ drained rules (drain rules contents front) back
drained_append rules contents [] back = refl
drained_append rules contents (one ∷ front) back =
    let rest = rest_of rules contents one in
    let after = all_made contents rest in
    ap (λ calls. rest ++ calls) (drained_append rules after front back)
    ∙ sym (append_assoc rest (drained rules after front) (drained rules (drain rules after front) back))
    ∙ ap (λ c. (rest ++ drained rules after front) ++ drained rules c back) (sym (fold-append made contents rest (drained rules after front)))

pub drain_first : {P : Type 0} (rules : Versions P) (contents : Contents) (one : Flying P) (others : List (Flying P)) → drain rules contents (one ∷ others) ≡ drain rules (all_made contents (rest_of rules contents one)) others
drain_first rules contents one others = fold-append made contents (rest_of rules contents one) (drained rules (all_made contents (rest_of rules contents one)) others)

pub drain_append : {P : Type 0} (rules : Versions P) (contents : Contents) (front back : List (Flying P)) → drain rules contents (front ++ back) ≡ drain rules (drain rules contents front) back
drain_append rules contents front back =
    ap (all_made contents) (drained_append rules contents front back)
    ∙ fold-append made contents (drained rules contents front) (drained rules (drain rules contents front) back)

-- ---- enter

-- after an enter: what was to come, and then the packet's calls under the rules of now
pub enter_drained : {P : Type 0} (rules : Versions P) (contents : Contents) (flight : List (Flying P)) (none : List ℕ) (packet : P)
    → drained rules contents (flight ++ entering none packet ∷ []) ≡ drained rules contents flight ++ flow rules.now (drain rules contents flight) packet rules.count 0 none
enter_drained rules contents flight none packet =
    let whole : rules.count - 0 ≡ rules.count = omega arith in
    drained_append rules contents flight (entering none packet ∷ [])
    ∙ ap (λ calls. drained rules contents flight ++ calls)
    (append-nil (flow rules.now (drain rules contents flight) packet (rules.count - 0) 0 none) ∙ ap (λ n. flow rules.now (drain rules contents flight) packet n 0 none) whole)

pub enter_drain : {P : Type 0} (rules : Versions P) (contents : Contents) (flight : List (Flying P)) (none : List ℕ) (packet : P)
    → drain rules contents (flight ++ entering none packet ∷ []) ≡ all_made (drain rules contents flight) (flow rules.now (drain rules contents flight) packet rules.count 0 none)
enter_drain rules contents flight none packet =
    ap (all_made contents) (enter_drained rules contents flight none packet)
    ∙ fold-append made contents (drained rules contents flight) (flow rules.now (drain rules contents flight) packet rules.count 0 none)

-- ---- packets whose calls are at some places

pub rest_same : {P : Type 0} (Place : ℕ → ℕ → Type 0) (rules : Versions P) (one two : Contents) (flying : Flying P) → Reaches Place rules flying → SameAt Place one two → rest_of rules one flying ≡ rest_of rules two flying
rest_same Place rules one two flying r same = flow_same Place (stages_of rules flying) one two flying.packet (rules.count - flying.group) flying.group flying.outs r.at same

pub rest_at : {P : Type 0} (Place : ℕ → ℕ → Type 0) (rules : Versions P) (contents : Contents) (flying : Flying P) → Reaches Place rules flying → AreAt Place (rest_of rules contents flying)
rest_at Place rules contents flying r = flow_at Place (stages_of rules flying) contents flying.packet (rules.count - flying.group) flying.group flying.outs r.at

pub same_made : (Place : ℕ → ℕ → Type 0) (calls : List Call) (one two : Contents) → SameAt Place one two → SameAt Place (all_made one calls) (all_made two calls)
same_made Place calls one two same = record { same = λ a i p. all_made_same calls one two a i (same.same a i p) }

pub drained_same : {P : Type 0} (Place : ℕ → ℕ → Type 0) (rules : Versions P) (one two : Contents) (flight : List (Flying P)) → All (Reaches Place rules) flight → SameAt Place one two → drained rules one flight ≡ drained rules two flight
drained_same Place rules one two [] r same = refl
drained_same Place rules one two (f ∷ flight) r same =
    let e = rest_same Place rules one two f (All-head (Reaches Place rules) f flight r) same in
    ap (λ calls. calls ++ drained rules (all_made one calls) flight) e
    ∙ ap (λ calls. rest_of rules two f ++ calls)
    (drained_same Place rules (all_made one (rest_of rules two f)) (all_made two (rest_of rules two f)) flight (All-tail (Reaches Place rules) f flight r) (same_made Place (rest_of rules two f) one two same))

pub drained_at : {P : Type 0} (Place : ℕ → ℕ → Type 0) (rules : Versions P) (contents : Contents) (flight : List (Flying P)) → All (Reaches Place rules) flight → AreAt Place (drained rules contents flight)
drained_at Place rules contents [] r = All-nil (λ (c : Call). Place c.array c.addr)
drained_at Place rules contents (f ∷ flight) r =
    All-append (λ (c : Call). Place c.array c.addr) (rest_of rules contents f) (drained rules (all_made contents (rest_of rules contents f)) flight)
    (rest_at Place rules contents f (All-head (Reaches Place rules) f flight r))
    (drained_at Place rules (all_made contents (rest_of rules contents f)) flight (All-tail (Reaches Place rules) f flight r))

-- ---- advance

pub record BothStaged {P : Type 0} (group_of : ℕ → ℕ) (rules : Versions P) : Type 0 where
  pub now : AreStaged group_of rules.now
  pub old : AreStaged group_of rules.old

pub stages_staged : {P : Type 0} (group_of : ℕ → ℕ) (rules : Versions P) (one : Flying P) → BothStaged group_of rules → AreStaged group_of (stages_of rules one)
stages_staged group_of rules one both = by one.kept
  where
    by : (kept : Bool) → AreStaged group_of (cond kept rules.old rules.now)
    by true = both.old
    by false = both.now

pub reaches_from : {P : Type 0} (group_of : ℕ → ℕ) (rules : Versions P) (low : ℕ) (flight : List (Flying P)) → BothStaged group_of rules → All (λ (f : Flying P). low ≤ f.group) flight → All (Reaches (FromGroup group_of low) rules) flight
reaches_from group_of rules low flight both above =
    All-weaker (λ f. low ≤ f.group) (Reaches (FromGroup group_of low) rules)
    (λ f le. record { at = λ g o less. staged_from group_of (stages_of rules f) f.packet low (stages_staged group_of rules f both) g o (omega arith) })
    flight above

-- the packet's next calls, and what those before it and it have still to do
pub record Advances {P : Type 0} (rules : Versions P) (contents : Contents) (front : List (Flying P)) (one : Flying P) : Type 0 where
  pub front_same : drained rules (all_made contents (calls_next rules one)) front ≡ drained rules contents front
  pub after : drain rules (all_made contents (calls_next rules one)) front ≡ all_made (drain rules contents front) (calls_next rules one)
  pub rest : rest_of rules (drain rules contents front) one ≡ calls_next rules one ++ rest_of rules (drain rules (all_made contents (calls_next rules one)) front) (moved_on rules contents one)

rest_split : {P : Type 0} (stages : Stages P) (contents : Contents) (packet : P) (n m group : ℕ) (outs : List ℕ) → n ≡ suc m → flow stages contents packet n group outs ≡ stages group packet outs ++ flow stages contents packet m (group + 1) (handed contents (stages group packet outs) outs)
rest_split stages contents packet n m group outs e = ap (λ k. flow stages contents packet k group outs) e

pub advances : {P : Type 0} (group_of : ℕ → ℕ) (rules : Versions P) (contents : Contents) (front : List (Flying P)) (one : Flying P) → BothStaged group_of rules → one.group < rules.count → All (λ (f : Flying P). one.group + 1 ≤ f.group) front → Advances rules contents front one
advances {P} group_of rules contents front one both lt above =
    let stages = stages_of rules one in
    let staged = stages_staged group_of rules one both in
    let here = calls_next rules one in
    let g = one.group in
    let Later = FromGroup group_of (g + 1) in
    let at_here : AreAt (InGroup group_of g) here = staged.there g one.packet one.outs in
    let reach = reaches_from group_of rules (g + 1) front both above in
    let others = drained rules contents front in
    let at_others = drained_at Later rules contents front reach in
    let front_same = drained_same Later rules (all_made contents here) contents front reach (same_after group_of g here contents at_here) in
    let mid = drain rules contents front in
    let after : drain rules (all_made contents here) front ≡ all_made mid here = ap (all_made (all_made contents here)) front_same ∙ groups_commute group_of g here others contents at_here at_others in
    let m = rules.count - (g + 1) in
    let outs_same : handed mid here one.outs ≡ handed contents here one.outs = handed_at (InGroup group_of g) here mid contents one.outs at_here (same_before group_of g others contents at_others) in
    record {
      front_same = front_same;
      after = after;
      rest =
          rest_split stages mid one.packet (rules.count - g) m g one.outs (omega arith)
          ∙ ap (λ o. here ++ flow stages mid one.packet m (g + 1) o) outs_same
          ∙ ap (λ calls. here ++ calls)
          (sym (flow_same Later stages (all_made mid here) mid one.packet m (g + 1) (handed contents here one.outs) (staged_from group_of stages one.packet (g + 1) staged) (same_after group_of g here mid at_here)))
          ∙ ap (λ c. here ++ flow stages c one.packet m (g + 1) (handed contents here one.outs)) (sym after);
    }

-- an advance leaves the drain as it was
pub advance_drain : {P : Type 0} (group_of : ℕ → ℕ) (rules : Versions P) (contents : Contents) (front : List (Flying P)) (one : Flying P) (back : List (Flying P)) → BothStaged group_of rules → one.group < rules.count → All (λ (f : Flying P). one.group + 1 ≤ f.group) front
    → drain rules (all_made contents (calls_next rules one)) (front ++ moved_on rules contents one ∷ back) ≡ drain rules contents (front ++ one ∷ back)
advance_drain {P} group_of rules contents front one back both lt above =
    let a = advances group_of rules contents front one both lt above in
    let here = calls_next rules one in
    let next = moved_on rules contents one in
    let mid = drain rules contents front in
    let mid_after = drain rules (all_made contents here) front in
    let rest = rest_of rules mid_after next in
    drain_append rules (all_made contents here) front (next ∷ back)
    ∙ drain_first rules mid_after next back
    ∙ ap (λ c. drain rules c back) (ap (λ c. all_made c rest) a.after ∙ sym (fold-append made mid here rest) ∙ ap (all_made mid) (sym a.rest))
    ∙ sym (drain_first rules mid one back)
    ∙ sym (drain_append rules contents front (one ∷ back))

-- and the calls made and to come are those that were to come, on each array in their order
pub advance_calls : {P : Type 0} (group_of : ℕ → ℕ) (rules : Versions P) (contents : Contents) (front : List (Flying P)) (one : Flying P) (back : List (Flying P)) (array : ℕ) → BothStaged group_of rules → one.group < rules.count → All (λ (f : Flying P). one.group + 1 ≤ f.group) front
    → filter (is_on array) (calls_next rules one ++ drained rules (all_made contents (calls_next rules one)) (front ++ moved_on rules contents one ∷ back)) ≡ filter (is_on array) (drained rules contents (front ++ one ∷ back))
advance_calls {P} group_of rules contents front one back array both lt above =
    let a = advances group_of rules contents front one both lt above in
    let here = calls_next rules one in
    let next = moved_on rules contents one in
    let mid = drain rules contents front in
    let mid_after = drain rules (all_made contents here) front in
    let others = drained rules contents front in
    let rest = rest_of rules mid_after next in
    let staged = stages_staged group_of rules one both in
    let reach = reaches_from group_of rules (one.group + 1) front both above in
    let last = drained rules (all_made mid_after rest) back in
    let last_same : drained rules (all_made mid (rest_of rules mid one)) back ≡ last =
    ap (λ c. drained rules c back) (ap (all_made mid) a.rest ∙ fold-append made mid here rest ∙ ap (λ c. all_made c rest) (sym a.after)) in
    let new : drained rules (all_made contents here) (front ++ next ∷ back) ≡ others ++ (rest ++ last) =
    drained_append rules (all_made contents here) front (next ∷ back) ∙ ap (λ calls. calls ++ (rest ++ last)) a.front_same in
    let was : drained rules contents (front ++ one ∷ back) ≡ others ++ ((here ++ rest) ++ last) =
    drained_append rules contents front (one ∷ back)
    ∙ ap (λ calls. others ++ (rest_of rules mid one ++ calls)) last_same
    ∙ ap (λ calls. others ++ (calls ++ last)) a.rest in
    ap (λ calls. filter (is_on array) (here ++ calls)) new
    ∙ ap (filter (is_on array)) (sym (append_assoc here others (rest ++ last)))
    ∙ filter-append (is_on array) (here ++ others) (rest ++ last)
    ∙ ap (λ calls. calls ++ filter (is_on array) (rest ++ last)) (order_by_array group_of one.group array here others (staged.there one.group one.packet one.outs) (drained_at (FromGroup group_of (one.group + 1)) rules contents front reach))
    ∙ sym (filter-append (is_on array) (others ++ here) (rest ++ last))
    ∙ ap (filter (is_on array)) (append_assoc others here (rest ++ last) ∙ ap (λ calls. others ++ calls) (sym (append_assoc here rest last)) ∙ sym was)
