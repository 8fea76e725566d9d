-- What packets in flight have still to do: how it changes as they move, and as rules change.
use Rattle.std.proofs.Common.{◌≡◌, ◌≢◌, ℕ, ◌+◌, ◌-◌, ◌<◌, ◌≤◌, Bool, true, false, not, cond, List, [], ◌∷◌, ◌++◌, length, map, filter, refl, ap, ap₂, sym, ◌∙◌, arith, eq-eqb}
use Rattle.std.specs.Prelude.{◌==◌}
use Rattle.std.specs.List.{All}
use Rattle.std.proofs.lemmas.Bool.Decides.{nat_tests}
use Rattle.std.proofs.lemmas.List.{append-nil}
use Rattle.std.proofs.lemmas.List.Elements.{All-nil, All-cons, All-head, All-tail, All-weaker, filter-append}
use Rattle.std.proofs.lemmas.List.Sums.{fold-append}
use Rattle.addr_translate.specs.Geometry.{Geometry, group_number}
use Rattle.pkt_headers.specs.declared.packets.Packet.{Packet}
use Rattle.reg_file.specs.declared.traits.Call.{Call}
use Rattle.reg_file.specs.Registers.{Contents}
use Rattle.reg_file.specs.Calls.{made, all_made}
use Rattle.pipe_core.specs.Flow.{Stages, flow}
use Rattle.pipe_core.specs.Rules as pipes
use Rattle.pipe_flight.specs.Flights as flights
use Rattle.pipe_flight.specs.Flights.{Flying, Versions, entering, calls_next, rest_of, drained, drain, committed}
use Rattle.pipe_flight.specs.Orders as orders
use Rattle.pipe_flight.specs.Orders.{NobodyAt, OldFirst, is_old}
use Rattle.pipe_flight.specs.Schedules.{Fill, filled, AreAt, Avoids}
use Rattle.pipe_flight.specs.Drains.{with_now}
use Rattle.pipe_flight.specs.States.{versions}
use Rattle.pipe_flight.proofs.Agreements.{Reaches, SameAt}
use Rattle.pipe_flight.proofs.PlaceLemmas.{InGroup, FromGroup, same_after, staged_from}
use Rattle.pipe_flight.proofs.DrainLemmas.{BothStaged, Advances, drain_first, rest_same, rest_at, same_made, reaches_from, stages_staged, advances}
use Rattle.pipe_flight.proofs.CommitLemmas.{rest_none, kept_rest}
use Rattle.pipe_flight.proofs.OrderLemmas.{old_split, all_present}
use Rattle.pipe_flight.proofs.LawLemmas.{olds_reach}
use Rattle.rule_txn.proofs.BridgeFinds.{filter_none}
use Rattle.flymon_engine.specs.Boards.{Aloft}
use Rattle.flymon_engine.specs.Flight.{is_in, next_calls, moved_on, if_left, kept_now, is_kept, is_present, calls_left, calls_at, passed_at}
use Rattle.flymon_engine.specs.Flight as flight
use Rattle.flymon_engine.specs.Pipelined.{aloft, alofts}

-- ---- all of them, one after another

pub calls_left_are : (rules : Versions Packet) (contents : Contents) (flying : List (Flying Packet)) → calls_left (alofts rules contents flying) ≡ drained rules contents flying
calls_left_are rules contents [] = refl
calls_left_are rules contents (one ∷ others) =
    ap (λ calls. rest_of rules contents one ++ calls) (calls_left_are rules (all_made contents (rest_of rules contents one)) others)

alofts_append : (rules : Versions Packet) (contents : Contents) (front back : List (Flying Packet))
    → alofts rules contents (front ++ back) ≡ alofts rules contents front ++ alofts rules (drain rules contents front) back
alofts_append rules contents [] back = refl
alofts_append rules contents (one ∷ front) back =
    let after = all_made contents (rest_of rules contents one) in
    ap (λ fs. aloft rules contents one ∷ fs)
    (alofts_append rules after front back ∙ ap (λ c. alofts rules after front ++ alofts rules c back) (sym (drain_first rules contents one front)))

-- registers that are the same where their calls are make no difference
alofts_same : (Place : ℕ → ℕ → Type 0) (rules : Versions Packet) (one two : Contents) (flying : List (Flying Packet)) → All (Reaches Place rules) flying → SameAt Place one two
    → alofts rules one flying ≡ alofts rules two flying
alofts_same Place rules one two [] reach same = refl
alofts_same Place rules one two (f ∷ flying) reach same =
    ap (λ calls. (let a : Aloft = record { group = f.group; kept = f.kept; calls = calls } in a) ∷ alofts rules (all_made one calls) flying)
    (rest_same Place rules one two f (All-head (Reaches Place rules) f flying reach) same)
    ∙ ap (λ fs. aloft rules two f ∷ fs)
    (alofts_same Place rules (all_made one (rest_of rules two f)) (all_made two (rest_of rules two f)) flying
    (All-tail (Reaches Place rules) f flying reach) (same_made Place (rest_of rules two f) one two same))

nobody_aloft : (group : ℕ) (rules : Versions Packet) (contents : Contents) (flying : List (Flying Packet)) → NobodyAt group flying
    → All (λ (a : Aloft). a.group ≢ group) (alofts rules contents flying)
nobody_aloft group rules contents [] nobody = All-nil (λ (a : Aloft). a.group ≢ group)
nobody_aloft group rules contents (one ∷ flying) nobody =
    let N : Flying Packet → Type 0 = λ f. f.group ≢ group in
    All-cons (λ (a : Aloft). a.group ≢ group) (aloft rules contents one) (alofts rules (all_made contents (rest_of rules contents one)) flying)
    (All-head N one flying nobody) (nobody_aloft group rules (all_made contents (rest_of rules contents one)) flying (All-tail N one flying nobody))

-- ---- a group that packets pass

pub filter_all : {X : Type 0} (p : X → Bool) (xs : List X) → All (λ x. p x ≡ true) xs → filter p xs ≡ xs
filter_all p [] all = refl
filter_all p (x ∷ xs) all =
    ap (λ b. cond b (x ∷ filter p xs) (filter p xs)) (All-head (λ x. p x ≡ true) x xs all) ∙ ap (λ ys. x ∷ ys) (filter_all p xs (All-tail (λ x. p x ≡ true) x xs all))

calls_past : (geometry : Geometry) (group : ℕ) (front back : List Aloft) → All (λ (a : Aloft). a.group ≢ group) front
    → calls_at geometry group (front ++ back) ≡ calls_at geometry group back
calls_past geometry group [] back nobody = refl
calls_past geometry group (one ∷ front) back nobody =
    let N : Aloft → Type 0 = λ a. a.group ≢ group in
    let away : one.group ≢ group = All-head N one front nobody in
    let other : (one.group == group) ≡ false = grind (arith, nat_tests) in
    ap (λ b. cond b (next_calls geometry one) (calls_at geometry group (front ++ back))) other ∙ calls_past geometry group front back (All-tail N one front nobody)

passed_past : (geometry : Geometry) (group : ℕ) (front back : List Aloft) → All (λ (a : Aloft). a.group ≢ group) front
    → passed_at geometry group (front ++ back) ≡ front ++ passed_at geometry group back
passed_past geometry group [] back nobody = refl
passed_past geometry group (one ∷ front) back nobody =
    let N : Aloft → Type 0 = λ a. a.group ≢ group in
    let away : one.group ≢ group = All-head N one front nobody in
    let other : (one.group == group) ≡ false = grind (arith, nat_tests) in
    ap (λ b. cond b (if_left (length geometry.groups) (moved_on geometry one) ++ (front ++ back)) (one ∷ passed_at geometry group (front ++ back))) other
    ∙ ap (λ fs. one ∷ fs) (passed_past geometry group front back (All-tail N one front nobody))

-- nobody stands before it
pub nobody_calls : (geometry : Geometry) (group : ℕ) (rules : Versions Packet) (contents : Contents) (flying : List (Flying Packet)) → NobodyAt group flying
    → calls_at geometry group (alofts rules contents flying) ≡ []
nobody_calls geometry group rules contents flying nobody =
    ap (calls_at geometry group) (sym (append-nil (alofts rules contents flying)))
    ∙ calls_past geometry group (alofts rules contents flying) [] (nobody_aloft group rules contents flying nobody)

pub nobody_passes : (geometry : Geometry) (group : ℕ) (rules : Versions Packet) (contents : Contents) (flying : List (Flying Packet)) → NobodyAt group flying
    → passed_at geometry group (alofts rules contents flying) ≡ alofts rules contents flying
nobody_passes geometry group rules contents flying nobody =
    ap (passed_at geometry group) (sym (append-nil (alofts rules contents flying)))
    ∙ passed_past geometry group (alofts rules contents flying) [] (nobody_aloft group rules contents flying nobody)
    ∙ append-nil (alofts rules contents flying)

nobody_in_front : (one : Flying Packet) (front : List (Flying Packet)) → All (λ (f : Flying Packet). one.group + 1 ≤ f.group) front → NobodyAt one.group front
nobody_in_front one front above = All-weaker (λ (f : Flying Packet). one.group + 1 ≤ f.group) (λ (f : Flying Packet). f.group ≢ one.group) (λ f le e. omega (arith, e)) front above

-- of calls in the group and calls behind it
here_calls : (geometry : Geometry) (group : ℕ) (here later : List Call) → AreAt (InGroup (group_number geometry) group) here → AreAt (FromGroup (group_number geometry) (group + 1)) later
    → filter (is_in geometry group) (here ++ later) ≡ here
here_calls geometry group [] later at off =
    filter_none (is_in geometry group) later
    (All-weaker (λ (c : Call). group + 1 ≤ group_number geometry c.array) (λ (c : Call). is_in geometry group c ≡ false) (λ c le. grind (arith, nat_tests)) later off)
here_calls geometry group (call ∷ here) later at off =
    let In : Call → Type 0 = λ c. group_number geometry c.array ≡ group in
    ap (λ b. cond b (call ∷ filter (is_in geometry group) (here ++ later)) (filter (is_in geometry group) (here ++ later)))
    (eq-eqb (group_number geometry call.array) group (All-head In call here at))
    ∙ ap (λ cs. call ∷ cs) (here_calls geometry group here later (All-tail In call here at) off)

behind_calls : (geometry : Geometry) (group : ℕ) (here later : List Call) → AreAt (InGroup (group_number geometry) group) here → AreAt (FromGroup (group_number geometry) (group + 1)) later
    → filter (λ c. not (is_in geometry group c)) (here ++ later) ≡ later
behind_calls geometry group [] later at off =
    filter_all (λ c. not (is_in geometry group c)) later
    (All-weaker (λ (c : Call). group + 1 ≤ group_number geometry c.array) (λ (c : Call). not (is_in geometry group c) ≡ true)
    (λ c le. (let other : is_in geometry group c ≡ false = grind (arith, nat_tests) in ap not other)) later off)
behind_calls geometry group (call ∷ here) later at off =
    let In : Call → Type 0 = λ c. group_number geometry c.array ≡ group in
    let rest = filter (λ c. not (is_in geometry group c)) (here ++ later) in
    ap (λ b. cond (not b) (call ∷ rest) rest) (eq-eqb (group_number geometry call.array) group (All-head In call here at))
    ∙ behind_calls geometry group here later (All-tail In call here at) off

-- the packet before the group, with those in front of it
record Here (now before : pipes.Rules) (contents : Contents) (front : List (Flying Packet)) (one : Flying Packet) : Type 0 where
  pub after : drain (versions now before) (all_made contents (calls_next (versions now before) one)) front
      ≡ all_made (drain (versions now before) contents front) (calls_next (versions now before) one)
  pub front_same : alofts (versions now before) (all_made contents (calls_next (versions now before) one)) front ≡ alofts (versions now before) contents front
  pub rest : rest_of (versions now before) (drain (versions now before) contents front) one
      ≡ calls_next (versions now before) one
      ++ rest_of (versions now before) (drain (versions now before) (all_made contents (calls_next (versions now before) one)) front) (flights.moved_on (versions now before) contents one)
  pub here : AreAt (InGroup (group_number now.geometry) one.group) (calls_next (versions now before) one)
  pub later : AreAt (FromGroup (group_number now.geometry) (one.group + 1))
      (rest_of (versions now before) (drain (versions now before) (all_made contents (calls_next (versions now before) one)) front) (flights.moved_on (versions now before) contents one))

here_is : (now before : pipes.Rules) (contents : Contents) (front : List (Flying Packet)) (one : Flying Packet) → BothStaged (group_number now.geometry) (versions now before)
    → one.group < length now.geometry.groups → All (λ (f : Flying Packet). one.group + 1 ≤ f.group) front → Here now before contents front one
here_is now before contents front one both lt above =
    let rules = versions now before in
    let group_of = group_number now.geometry in
    let a : Advances rules contents front one = advances group_of rules contents front one both lt above in
    let here = calls_next rules one in
    let at_here : AreAt (InGroup group_of one.group) here = (stages_staged group_of rules one both).there one.group one.packet one.outs in
    let next = flights.moved_on rules contents one in
    record {
      after = a.after;
      front_same = alofts_same (FromGroup group_of (one.group + 1)) rules (all_made contents here) contents front
          (reaches_from group_of rules (one.group + 1) front both above) (same_after group_of one.group here contents at_here);
      rest = a.rest;
      here = at_here;
      later = rest_at (FromGroup group_of (one.group + 1)) rules (drain rules (all_made contents here) front) next
          (record { at = λ g o le. staged_from group_of (flights.stages_of rules one) one.packet (one.group + 1) (stages_staged group_of rules one both) g o le });
    }

abbrev an_aloft : ℕ → Bool → List Call → Aloft
an_aloft group kept calls = record { group = group; kept = kept; calls = calls }

-- its next calls are those on the group's arrays
pub advance_calls : (now before : pipes.Rules) (contents : Contents) (front : List (Flying Packet)) (one : Flying Packet) (back : List (Flying Packet))
    → BothStaged (group_number now.geometry) (versions now before) → one.group < length now.geometry.groups → All (λ (f : Flying Packet). one.group + 1 ≤ f.group) front
    → calls_at now.geometry one.group (alofts (versions now before) contents (front ++ one ∷ back)) ≡ calls_next (versions now before) one
advance_calls now before contents front one back both lt above =
    let rules = versions now before in
    let h = here_is now before contents front one both lt above in
    let mid = drain rules contents front in
    let tail = alofts rules (all_made mid (rest_of rules mid one)) back in
    ap (calls_at now.geometry one.group) (alofts_append rules contents front (one ∷ back))
    ∙ calls_past now.geometry one.group (alofts rules contents front) (aloft rules mid one ∷ tail)
    (nobody_aloft one.group rules contents front (nobody_in_front one front above))
    ∙ ap (λ b. cond b (next_calls now.geometry (aloft rules mid one)) (calls_at now.geometry one.group tail)) (eq-eqb one.group one.group refl)
    ∙ ap (filter (is_in now.geometry one.group)) h.rest
    ∙ here_calls now.geometry one.group (calls_next rules one) _ h.here h.later

-- and it stands before the next group, or has left
pub advance_alofts : (now before : pipes.Rules) (contents : Contents) (front : List (Flying Packet)) (one : Flying Packet) (back : List (Flying Packet))
    → BothStaged (group_number now.geometry) (versions now before) → one.group < length now.geometry.groups → All (λ (f : Flying Packet). one.group + 1 ≤ f.group) front
    → alofts (versions now before) (all_made contents (calls_next (versions now before) one))
    (front ++ (orders.if_left (length now.geometry.groups) (flights.moved_on (versions now before) contents one) ++ back))
    ≡ passed_at now.geometry one.group (alofts (versions now before) contents (front ++ one ∷ back))
advance_alofts now before contents front one back both lt above =
    alofts_append rules from front (orders.if_left count next ++ back)
    ∙ ap (λ fs. fs ++ alofts rules mid_after (orders.if_left count next ++ back)) h.front_same
    ∙ ap (λ fs. alofts rules contents front ++ fs) (by (next.group == count) refl)
    ∙ ap (λ b. alofts rules contents front ++ cond b (if_left count (moved_on now.geometry (aloft rules mid one)) ++ tail) (aloft rules mid one ∷ passed_at now.geometry one.group tail))
    (sym (eq-eqb one.group one.group refl))
    ∙ sym (passed_past now.geometry one.group (alofts rules contents front) (aloft rules mid one ∷ tail) (nobody_aloft one.group rules contents front (nobody_in_front one front above)))
    ∙ ap (passed_at now.geometry one.group) (sym (alofts_append rules contents front (one ∷ back)))
  where
    rules : Versions Packet
    rules = versions now before

    count : ℕ
    count = length now.geometry.groups

    next : Flying Packet
    next = flights.moved_on rules contents one

    from : Contents
    from = all_made contents (calls_next rules one)

    mid : Contents
    mid = drain rules contents front

    mid_after : Contents
    mid_after = drain rules from front

    later : List Call
    later = rest_of rules mid_after next

    tail : List Aloft
    tail = alofts rules (all_made mid (rest_of rules mid one)) back

    h : Here now before contents front one
    h = here_is now before contents front one both lt above

    -- behind the packet the registers are the same
    behind : all_made mid_after later ≡ all_made mid (rest_of rules mid one)
    behind =
        ap (λ c. all_made c later) h.after
        ∙ sym (fold-append made mid (calls_next rules one) later)
        ∙ ap (all_made mid) (sym h.rest)

    its : aloft rules mid_after next ≡ moved_on now.geometry (aloft rules mid one)
    its = ap (an_aloft (one.group + 1) one.kept)
        (sym (ap (filter (λ c. not (is_in now.geometry one.group c))) h.rest ∙ behind_calls now.geometry one.group (calls_next rules one) later h.here h.later))

    by : (b : Bool) → (next.group == count) ≡ b
        → alofts rules mid_after (cond b [] (next ∷ []) ++ back) ≡ cond b [] (moved_on now.geometry (aloft rules mid one) ∷ []) ++ tail
    by true e =
        let at : next.group ≡ count = grind (arith, nat_tests) in
        let none : later ≡ [] = rest_none rules mid_after next (omega (arith, at)) in
        ap (λ c. alofts rules c back) (ap (all_made mid_after) (sym none) ∙ behind)
    by false e = ap₂ (λ a fs. a ∷ fs) its (ap (λ c. alofts rules c back) behind)

-- ---- a packet enters

pub enter_alofts : (rules : Versions Packet) (contents : Contents) (flying : List (Flying Packet)) (none : List ℕ) (packet : Packet)
    → alofts rules contents (flying ++ entering none packet ∷ [])
    ≡ alofts rules contents flying ++ flight.entering (flow rules.now (drain rules contents flying) packet rules.count 0 none) ∷ []
enter_alofts rules contents flying none packet =
    let whole : rules.count - 0 ≡ rules.count = omega arith in
    alofts_append rules contents flying (entering none packet ∷ [])
    ∙ ap (λ n. alofts rules contents flying ++ flight.entering (flow rules.now (drain rules contents flying) packet n 0 none) ∷ []) whole

-- ---- a commit

kept_alofts : (b : Bool) (rules : Versions Packet) (contents : Contents) (flying : List (Flying Packet)) → All (λ (f : Flying Packet). f.kept ≡ b) flying
    → All (λ (a : Aloft). a.kept ≡ b) (alofts rules contents flying)
kept_alofts b rules contents [] kept = All-nil (λ (a : Aloft). a.kept ≡ b)
kept_alofts b rules contents (one ∷ flying) kept =
    let K : Flying Packet → Type 0 = λ f. f.kept ≡ b in
    let after = all_made contents (rest_of rules contents one) in
    All-cons (λ (a : Aloft). a.kept ≡ b) (aloft rules contents one) (alofts rules after flying)
    (All-head K one flying kept) (kept_alofts b rules after flying (All-tail K one flying kept))

olds_kept : (flying : List (Flying Packet)) → All (λ (f : Flying Packet). f.kept ≡ true) (filter is_old flying)
olds_kept [] = All-nil (λ (f : Flying Packet). f.kept ≡ true)
olds_kept (one ∷ flying) = by (olds_kept flying) one.kept refl where
  by : All (λ (f : Flying Packet). f.kept ≡ true) (filter is_old flying) → (b : Bool) → one.kept ≡ b
      → All (λ (f : Flying Packet). f.kept ≡ true) (cond b (one ∷ filter is_old flying) (filter is_old flying))
  by rest true e = All-cons (λ (f : Flying Packet). f.kept ≡ true) one (filter is_old flying) e rest
  by rest false e = rest

-- the old ones, and behind them the present ones
split_alofts : (rules : Versions Packet) (contents : Contents) (flying : List (Flying Packet)) → OldFirst (map is_old flying)
    → alofts rules contents flying
    ≡ alofts rules contents (filter is_old flying) ++ alofts rules (drain rules contents (filter is_old flying)) (filter orders.is_present flying)
split_alofts rules contents flying first =
    ap (alofts rules contents) (old_split flying first) ∙ alofts_append rules contents (filter is_old flying) (filter orders.is_present flying)

pub old_calls : (rules : Versions Packet) (contents : Contents) (flying : List (Flying Packet)) → OldFirst (map is_old flying)
    → calls_left (filter is_kept (alofts rules contents flying)) ≡ drained rules contents (filter is_old flying)
old_calls rules contents flying first =
    let olds = alofts rules contents (filter is_old flying) in
    let presents = alofts rules (drain rules contents (filter is_old flying)) (filter orders.is_present flying) in
    ap (λ fs. calls_left (filter is_kept fs)) (split_alofts rules contents flying first)
    ∙ ap calls_left (filter-append is_kept olds presents
    ∙ ap₂ (λ xs ys. xs ++ ys)
    (filter_all is_kept olds (kept_alofts true rules contents (filter is_old flying) (olds_kept flying)))
    (filter_none is_kept presents (kept_alofts false rules (drain rules contents (filter is_old flying)) (filter orders.is_present flying) (all_present flying)))
    ∙ append-nil olds)
    ∙ calls_left_are rules contents (filter is_old flying)

-- whatever rules come next
commit_alofts : (rules : Versions Packet) (next : Stages Packet) (contents : Contents) (flying : List (Flying Packet)) → All (λ (f : Flying Packet). f.kept ≡ false) flying
    → alofts (committed rules next) contents (map flights.kept_now flying) ≡ map kept_now (alofts rules contents flying)
commit_alofts rules next contents [] present = refl
commit_alofts rules next contents (one ∷ flying) present =
    let P : Flying Packet → Type 0 = λ f. f.kept ≡ false in
    ap (λ calls. an_aloft one.group true calls ∷ alofts (committed rules next) (all_made contents calls) (map flights.kept_now flying))
    (kept_rest rules next contents one (All-head P one flying present))
    ∙ ap (λ fs. an_aloft one.group true (rest_of rules contents one) ∷ fs)
    (commit_alofts rules next (all_made contents (rest_of rules contents one)) flying (All-tail P one flying present))

-- those left, once the old ones have passed
pub present_alofts : (rules : Versions Packet) (next : Stages Packet) (contents : Contents) (flying : List (Flying Packet)) → OldFirst (map is_old flying)
    → alofts (committed rules next) (drain rules contents (filter is_old flying)) (map flights.kept_now (filter orders.is_present flying))
    ≡ map kept_now (filter is_present (alofts rules contents flying))
present_alofts rules next contents flying first =
    let mid = drain rules contents (filter is_old flying) in
    let olds = alofts rules contents (filter is_old flying) in
    let presents = alofts rules mid (filter orders.is_present flying) in
    let N : Aloft → Type 0 = λ a. is_present a ≡ false in
    let Y : Aloft → Type 0 = λ a. is_present a ≡ true in
    commit_alofts rules next mid (filter orders.is_present flying) (all_present flying)
    ∙ ap (map kept_now)
    (sym (filter-append is_present olds presents
    ∙ ap₂ (λ xs ys. xs ++ ys)
    (filter_none is_present olds (All-weaker (λ (a : Aloft). a.kept ≡ true) N (λ a e. ap not e) olds (kept_alofts true rules contents (filter is_old flying) (olds_kept flying))))
    (filter_all is_present presents (All-weaker (λ (a : Aloft). a.kept ≡ false) Y (λ a e. ap not e) presents
    (kept_alofts false rules mid (filter orders.is_present flying) (all_present flying))))))
    ∙ ap (λ fs. map kept_now (filter is_present fs)) (sym (split_alofts rules contents flying first))

-- ---- rules change behind a commit

alofts_under : (one two : Versions Packet) (contents : Contents) (flying : List (Flying Packet)) → one.old ≡ two.old → one.count ≡ two.count → All (λ (f : Flying Packet). f.kept ≡ true) flying
    → alofts one contents flying ≡ alofts two contents flying
alofts_under one two contents [] old count kept = refl
alofts_under one two contents (f ∷ flying) old count kept =
    let K : Flying Packet → Type 0 = λ f. f.kept ≡ true in
    let e = All-head K f flying kept in
    let same : rest_of one contents f ≡ rest_of two contents f =
    ap (λ b. flow (cond b one.old one.now) contents f.packet (one.count - f.group) f.group f.outs) e
    ∙ ap₂ (λ (s : Stages Packet) n. flow s contents f.packet (n - f.group) f.group f.outs) old count
    ∙ ap (λ b. flow (cond b two.old two.now) contents f.packet (two.count - f.group) f.group f.outs) (sym e) in
    ap (λ calls. an_aloft f.group f.kept calls ∷ alofts one (all_made contents calls) flying) same
    ∙ ap (λ fs. aloft two contents f ∷ fs) (alofts_under one two (all_made contents (rest_of two contents f)) flying old count (All-tail K f flying kept))

-- registers are filled on which the old rules make no call
pub fill_alofts : (rules : Versions Packet) (next : Stages Packet) (fill : Fill) (contents : Contents) (flying : List (Flying Packet))
    → All (λ (f : Flying Packet). f.kept ≡ true) flying → Avoids rules.old fill
    → alofts (with_now rules next) (filled fill contents) flying ≡ alofts rules contents flying
fill_alofts rules next fill contents flying kept avoids =
    let Off : ℕ → ℕ → Type 0 = λ a i. fill.test a i ≡ false in
    alofts_under (with_now rules next) rules (filled fill contents) flying refl refl kept
    ∙ alofts_same Off rules (filled fill contents) contents flying (olds_reach rules fill flying kept avoids)
    (record { same = λ x y off. ap (λ b. cond b (fill.value x y) (contents x y)) off })
