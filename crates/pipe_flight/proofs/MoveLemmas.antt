-- The packets in flight, as code keeps them.
use Rattle.std.proofs.Common.{◌≡◌, ◌≢◌, ℕ, suc, ◌+◌, ◌<◌, ◌≤◌, Bool, true, false, cond, List, [], ◌∷◌, ◌++◌, length, get_or, take, drop, map, refl, ap, ap₂, sym, ◌∙◌, subst, arith, ⊎_elim}
use Rattle.std.specs.Prelude.{nat_lt, Option, Some, None, ◌==◌, slice_set}
use Rattle.std.proofs.lemmas.List.Elements.{All-nil, All-cons}
use Rattle.std.specs.List.{remove, position, position_or_len}
use Rattle.std.proofs.lemmas.Bool.{cases_lt, eqb-true, ltb-true}
use Rattle.std.proofs.lemmas.List.Sums.{passes_at_first}
use Rattle.addr_translate.specs.Geometry.{Geometry, group_number}
use Rattle.std.proofs.lemmas.Bool.Decides.{nat_tests}
use Rattle.std.proofs.lemmas.List.{map-append, take-append-drop, set_split}
use Rattle.std.proofs.Math.Seq.{drop-cons}
use Rattle.reg_file.specs.declared.traits.Call.{Call}
use Rattle.reg_file.specs.Registers.{Contents}
use Rattle.reg_file.specs.Calls.{Makes, all_made}
use Rattle.pkt_headers.specs.declared.packets.Packet.{Packet}
use Rattle.cmu_stage.specs.declared.passing.Outs.{Outs}
use Rattle.pipe_core.specs.Rules.{Rules, SameShape}
use Rattle.pipe_core.specs.Groups.{group_calls}
use Rattle.pipe_flight.specs.Flights.{Flying, calls_next, moved_on, drain}
use Rattle.pipe_flight.specs.Orders.{NobodyAt, if_left, Falls, IsFlight}
use Rattle.pipe_flight.specs.Schedules.{calls_of_group, passed_group, AreStaged}
use Rattle.pipe_flight.specs.States.{FlightState, flying, state_of, group_count, versions, MovesOn, IsAdvance}
use Rattle.pipe_flight.proofs.DrainLemmas.{advance_drain, BothStaged}
use Rattle.outside.specs.Told.{Told}
use Rattle.outside.proofs.ToldLemmas.{told_weaker}
use Rattle.pipe_flight.proofs.PassLemmas.{staged}
use Rattle.pipe_flight.proofs.OrderLemmas.{falls_here, falls_above, left_drained, group_calls_of, group_passed}
use Rattle.pipe_flight.proofs.SerialLemmas.{left_flight, nobody_front}
use Rattle.pipe_core.specs.Flow.{stages_in}
use Rattle.pipe_flight.specs.declared.waiting.Waiting.{Waiting}

abbrev pub IsInOrder : FlightState → Type 0
IsInOrder state = IsFlight (group_count state.before) state.flight

abbrev pub front_of : List Waiting → ℕ → List (Flying Packet)
front_of waiting at = map flying (take at waiting)

abbrev pub back_of : List Waiting → ℕ → List (Flying Packet)
back_of waiting at = map flying (drop (suc at) waiting)

pub split : (waiting : List Waiting) (at : ℕ) (one : Waiting) → at < length waiting → one ≡ get_or waiting at one → map flying waiting ≡ front_of waiting at ++ flying one ∷ back_of waiting at
split waiting at one lt is =
    ap (map flying) (sym (take-append-drop at waiting) ∙ ap (λ ys. take at waiting ++ ys) (drop-cons waiting at one lt))
    ∙ map-append flying (take at waiting) (get_or waiting at one ∷ drop (suc at) waiting)
    ∙ ap (λ x. front_of waiting at ++ flying x ∷ back_of waiting at) (sym is)

pub set_is : (waiting : List Waiting) (at : ℕ) (next : Waiting) → at < length waiting → map flying (slice_set waiting at next) ≡ front_of waiting at ++ flying next ∷ back_of waiting at
set_is waiting at next lt = ap (map flying) (set_split waiting at next lt) ∙ map-append flying (take at waiting) (next ∷ drop (suc at) waiting)

pub removed_is : (waiting : List Waiting) (at : ℕ) → map flying (take at waiting ++ drop (suc at) waiting) ≡ front_of waiting at ++ back_of waiting at
removed_is waiting at = map-append flying (take at waiting) (drop (suc at) waiting)

-- the rules of a packet
pub group_there : (before now rules : Rules) (waiting : List Waiting) (at : ℕ) (one : Waiting) → IsFlight (group_count before) (map flying waiting) → at < length waiting → one ≡ get_or waiting at one → (group_count before) ≡ (group_count now) → rules ≡ cond one.kept before now → one.group < (group_count rules)
group_there before now rules waiting at one f lt is same r =
    let here : one.group < (group_count before) = falls_here (group_count before) (front_of waiting at) (flying one) (back_of waiting at) (subst (λ fs. IsFlight (group_count before) fs) (split waiting at one lt is) f).falls in
    by one.kept (ap (λ (x : Rules). (group_count x)) r) here
  where
    by : (b : Bool) → (group_count rules) ≡ (group_count (cond b before now)) → one.group < (group_count before) → one.group < (group_count rules)
    by true e h = omega arith
    by false e h = omega arith

pub calls_there : (before now rules : Rules) (one : Waiting) → rules ≡ cond one.kept before now → group_calls rules one.group one.packet one.outs.carry ≡ calls_next (versions now before) (flying one)
calls_there before now rules one r = ap (λ (x : Rules). group_calls x one.group one.packet one.outs.carry) r ∙ by one.kept
  where
    by : (b : Bool) → group_calls (cond b before now) one.group one.packet one.outs.carry ≡ (cond b (stages_in before) (stages_in now)) one.group one.packet one.outs.carry
    by true = refl
    by false = refl

abbrev pub next_of : Waiting → Outs → Waiting
next_of one outs = record { packet = one.packet; group = one.group + 1; kept = one.kept; outs = outs }

-- what is left, in either case
left_removed : (count : ℕ) (front : List (Flying Packet)) (next : Flying Packet) (back : List (Flying Packet)) → next.group ≡ count → front ++ (if_left count next ++ back) ≡ front ++ back
left_removed count front next back e = (let t : (next.group == count) ≡ true = grind (arith, nat_tests) in ap (λ b. front ++ (cond b [] (next ∷ []) ++ back)) t)

left_kept : (count : ℕ) (front : List (Flying Packet)) (next : Flying Packet) (back : List (Flying Packet)) → next.group ≢ count → front ++ (if_left count next ++ back) ≡ front ++ next ∷ back
left_kept count front next back ne = (let t : (next.group == count) ≡ false = grind (arith, nat_tests) in ap (λ b. front ++ (cond b [] (next ∷ []) ++ back)) t)

pub flight_after : (count : ℕ) (waiting : List Waiting) (at : ℕ) (one : Waiting) (outs : Outs) → IsFlight count (map flying waiting) → NobodyAt (one.group + 1) (map flying waiting) → at < length waiting → one ≡ get_or waiting at one
    → IsFlight count (front_of waiting at ++ (if_left count (flying (next_of one outs)) ++ back_of waiting at))
flight_after count waiting at one outs f vacant lt is =
    let e = split waiting at one lt is in
    left_flight count (front_of waiting at) (flying one) (flying (next_of one outs)) (back_of waiting at) refl refl
    (subst (IsFlight count) e f)
    (nobody_front (one.group + 1) (front_of waiting at) (flying one ∷ back_of waiting at) (subst (NobodyAt (one.group + 1)) e vacant))

pub after_removed : (count : ℕ) (waiting items : List Waiting) (at : ℕ) (one : Waiting) (outs : Outs) → items ≡ take at waiting ++ drop (suc at) waiting → one.group + 1 ≡ count
    → map flying items ≡ front_of waiting at ++ (if_left count (flying (next_of one outs)) ++ back_of waiting at)
after_removed count waiting items at one outs i e = ap (map flying) i ∙ removed_is waiting at ∙ sym (left_removed count (front_of waiting at) (flying (next_of one outs)) (back_of waiting at) e)

pub after_set : (count : ℕ) (waiting : List Waiting) (at : ℕ) (one : Waiting) (outs : Outs) → at < length waiting → one.group + 1 ≢ count
    → map flying (slice_set waiting at (next_of one outs)) ≡ front_of waiting at ++ (if_left count (flying (next_of one outs)) ++ back_of waiting at)
after_set count waiting at one outs lt ne = set_is waiting at (next_of one outs) lt ∙ sym (left_kept count (front_of waiting at) (flying (next_of one outs)) (back_of waiting at) ne)

pub moves_on : (before now rules : Rules) (waiting : List Waiting) (group at : ℕ) (one : Waiting) (outs : Outs) (new_flight : List (Flying Packet)) (contents new_contents : Option Contents) (list new_list : Option (List Call))
    → at < length waiting → one ≡ get_or waiting at one → one.group ≡ group → rules ≡ cond one.kept before now
    → new_flight ≡ front_of waiting at ++ (if_left (group_count now) (flying (next_of one outs)) ++ back_of waiting at)
    → Makes (group_calls rules one.group one.packet one.outs.carry) one.outs.carry outs.carry contents new_contents list new_list
    → MovesOn (versions now before) group (map flying waiting) new_flight contents new_contents list new_list
moves_on before now rules waiting group at one outs new_flight contents new_contents list new_list lt is here r n m = record {
  front = front_of waiting at;
  one = flying one;
  back = back_of waiting at;
  split = split waiting at one lt is;
  here = here;
  outs = outs.carry;
  new_split = n;
  makes = subst (λ calls. Makes calls one.outs.carry outs.carry contents new_contents list new_list) (calls_there before now rules one r) m;
}

pub count_same : {one two : Rules} → SameShape one two → group_count one ≡ group_count two
count_same same = ap (λ (g : Geometry). length g.groups) same.geometry

-- the place that was found
found_at : (p : Waiting → Bool) (xs : List Waiting) (at : ℕ) → position p xs ≡ Some at → (at < length xs) × ((d : Waiting) → p (get_or xs at d) ≡ true)
found_at p xs at found = by (nat_lt (position_or_len p xs) (length xs)) refl found
  where
    by : (b : Bool) → nat_lt (position_or_len p xs) (length xs) ≡ b → cond b (Some (position_or_len p xs)) None ≡ Some at → (at < length xs) × ((d : Waiting) → p (get_or xs at d) ≡ true)
    by false q e = absurd (cc)
    by true q e =
        let same : position_or_len p xs ≡ at = cc in
        let within = ltb-true (position_or_len p xs) (length xs) q in
        (subst (λ n. n < length xs) same within, λ d. ap (λ n. p (get_or xs n d)) (sym same) ∙ passes_at_first p xs d within)

-- as the caller sees the flight, and as the code keeps it
pub record Sees (waiting : List Waiting) (before : Rules) (state : FlightState) (now : Rules) (group at : ℕ) (one : Waiting) : Type 0 where
  pub is_flight : map flying waiting ≡ state.flight
  pub is_before : before ≡ state.before
  pub kept : IsFlight (group_count before) (map flying waiting)
  pub there : at < length waiting
  pub one_is : one ≡ get_or waiting at one
  pub counted : (group_count before) ≡ (group_count now)
  pub here : one.group ≡ group
  pub vacant : NobodyAt (one.group + 1) (map flying waiting)

-- nobody stands behind the last group
nobody_past : (high group : ℕ) (flight : List (Flying Packet)) → high ≤ group → Falls high flight → NobodyAt group flight
nobody_past high group [] le falls = All-nil (λ (f : Flying Packet). f.group ≢ group)
nobody_past high group (one ∷ flight) le falls =
    All-cons (λ (f : Flying Packet). f.group ≢ group) one flight (λ same. omega (arith, falls.0)) (nobody_past one.group group flight (omega (arith, falls.0)) falls.1)

pub sees : (waiting : List Waiting) (before : Rules) (state : FlightState) (now : Rules) (group at : ℕ) (one : Waiting) → state_of waiting before ≡ state → IsFlight (group_count before) (map flying waiting)
    → position (λ (w : Waiting). w.group == group) waiting ≡ Some at → one ≡ get_or waiting at one → SameShape state.before now → (group + 1 < group_count now → NobodyAt (group + 1) state.flight) → Sees waiting before state now group at one
sees waiting before state now group at one v f found is same vacant =
    let flight_is : map flying waiting ≡ state.flight = ap (λ (a : FlightState). a.flight) v in
    let place = found_at (λ (w : Waiting). w.group == group) waiting at found in
    let here : one.group ≡ group = eqb-true one.group group (ap (λ (w : Waiting). w.group == group) is ∙ place.1 one) in
    let counted : group_count before ≡ group_count now = ap (λ (a : FlightState). group_count a.before) v ∙ count_same same in
    let next : NobodyAt (group + 1) state.flight =
    ⊎_elim vacant
    (λ (past : group_count now ≤ group + 1). subst (NobodyAt (group + 1)) flight_is (nobody_past (group_count before) (group + 1) (map flying waiting) (omega (arith, counted)) f.falls))
    (cases_lt (group + 1) (group_count now)) in
    record {
      is_flight = flight_is;
      is_before = ap (λ (a : FlightState). a.before) v;
      kept = f;
      there = place.0;
      one_is = is;
      counted = counted;
      here = here;
      vacant = subst (λ g. NobodyAt (g + 1) (map flying waiting)) (sym here) (subst (NobodyAt (group + 1)) (sym flight_is) next);
    }

pub seen_group : (waiting : List Waiting) (before : Rules) (state : FlightState) (now rules : Rules) (group at : ℕ) (one : Waiting) → Sees waiting before state now group at one → rules ≡ cond one.kept before now → one.group < (group_count rules)
seen_group waiting before state now rules group at one s r = group_there before now rules waiting at one s.kept s.there s.one_is s.counted r

pub seen_removed : (waiting items : List Waiting) (before : Rules) (state : FlightState) (now : Rules) (group at count : ℕ) (one : Waiting) (outs : Outs) → Sees waiting before state now group at one → items ≡ remove waiting at → count ≡ (group_count now) → one.group + 1 ≡ count → IsFlight (group_count before) (map flying items)
seen_removed waiting items before state now group at count one outs s i c e =
    subst (IsFlight (group_count before)) (sym (after_removed (group_count before) waiting items at one outs i (e ∙ c ∙ sym s.counted)))
    (flight_after (group_count before) waiting at one outs s.kept s.vacant s.there s.one_is)

pub seen_set : (waiting : List Waiting) (before : Rules) (state : FlightState) (now : Rules) (group at count : ℕ) (one : Waiting) (outs : Outs) → Sees waiting before state now group at one → count ≡ (group_count now) → one.group + 1 ≢ count → IsFlight (group_count before) (map flying (slice_set waiting at (next_of one outs)))
seen_set waiting before state now group at count one outs s c ne =
    subst (IsFlight (group_count before)) (sym (after_set (group_count before) waiting at one outs s.there (λ e. ne (e ∙ s.counted ∙ sym c))))
    (flight_after (group_count before) waiting at one outs s.kept s.vacant s.there s.one_is)

pub seen_moves : (waiting : List Waiting) (before : Rules) (state : FlightState) (now rules : Rules) (group at : ℕ) (one : Waiting) (outs : Outs) (new_flight : List (Flying Packet)) (contents new_contents : Option Contents) (list new_list : Option (List Call))
    → Sees waiting before state now group at one → rules ≡ cond one.kept before now
    → new_flight ≡ front_of waiting at ++ (if_left (group_count now) (flying (next_of one outs)) ++ back_of waiting at)
    → Makes (group_calls rules one.group one.packet one.outs.carry) one.outs.carry outs.carry contents new_contents list new_list
    → MovesOn (versions now state.before) group state.flight new_flight contents new_contents list new_list
seen_moves waiting before state now rules group at one outs new_flight contents new_contents list new_list s r n m =
    subst (λ b. MovesOn (versions now b) group state.flight new_flight contents new_contents list new_list) s.is_before
    (subst (λ fs. MovesOn (versions now before) group fs new_flight contents new_contents list new_list) s.is_flight
    (moves_on before now rules waiting group at one outs new_flight contents new_contents list new_list s.there s.one_is s.here r n m))

pub seen_below : (waiting : List Waiting) (before : Rules) (state : FlightState) (now : Rules) (group at : ℕ) (one : Waiting) → Sees waiting before state now group at one → one.group < (group_count now)
seen_below waiting before state now group at one s = subst (λ n. one.group < n) s.counted (falls_here (group_count before) (front_of waiting at) (flying one) (back_of waiting at) (subst (λ fs. IsFlight (group_count before) fs) (split waiting at one s.there s.one_is) s.kept).falls)

-- ---- the drain after an advance

pub both_staged : (now before : Rules) → now.geometry ≡ before.geometry → BothStaged (group_number now.geometry) (versions now before)
both_staged now before e = record { now = staged now; old = subst (λ (g : Geometry). AreStaged (group_number g) (stages_in before)) (sym e) (staged before) }

pub drain_kept : (before now : Rules) (group : ℕ) (flight new_flight : List (Flying Packet)) (contents new_contents : Option Contents) (list new_list : Option (List Call)) → SameShape before now → IsFlight (group_count before) flight → MovesOn (versions now before) group flight new_flight contents new_contents list new_list
    → Told (λ c d. drain (versions now before) d new_flight ≡ drain (versions now before) c flight) contents new_contents
drain_kept before now group flight new_flight contents new_contents list new_list same f m =
    let v = versions now before in
    let falls : Falls (group_count now) (m.front ++ m.one ∷ m.back) = subst (λ n. Falls n (m.front ++ m.one ∷ m.back)) (count_same same) (subst (Falls (group_count before)) m.split f.falls) in
    told_weaker contents new_contents (λ x y p.
    let next : Flying Packet = record { packet = m.one.packet; group = m.one.group + 1; kept = m.one.kept; outs = m.outs } in
    let is_next : next ≡ moved_on v x m.one = ap (λ (o : List ℕ). (let n : Flying Packet = record { packet = m.one.packet; group = m.one.group + 1; kept = m.one.kept; outs = o } in n)) p.1 in
    ap₂ (drain v) p.0 m.new_split
    ∙ ap (all_made (all_made x (calls_next v m.one))) (left_drained v (all_made x (calls_next v m.one)) m.front next m.back)
    ∙ ap (λ n. drain v (all_made x (calls_next v m.one)) (m.front ++ n ∷ m.back)) is_next
    ∙ advance_drain (group_number now.geometry) v x m.front m.one m.back (both_staged now before (sym same.geometry)) (falls_here (group_count now) m.front m.one m.back falls) (falls_above (group_count now) m.front m.one m.back falls)
    ∙ ap (drain v x) (sym m.split)) m.makes.told

pub drain_stays : (before now new_before : Rules) (group : ℕ) (flight new_flight : List (Flying Packet)) (contents new_contents : Option Contents) (list new_list : Option (List Call)) → new_before ≡ before → SameShape before now → IsFlight (group_count before) flight
    → MovesOn (versions now before) group flight new_flight contents new_contents list new_list
    → Told (λ c d. drain (versions now new_before) d new_flight ≡ drain (versions now before) c flight) contents new_contents
drain_stays before now new_before group flight new_flight contents new_contents list new_list kept same f m =
    subst (λ (b : Rules). Told (λ c d. drain (versions now b) d new_flight ≡ drain (versions now before) c flight) contents new_contents) (sym kept)
    (drain_kept before now group flight new_flight contents new_contents list new_list same f m)

-- ---- an advance, where the registers are told, is the schedule's step

pub advance_is : (before now : Rules) (group : ℕ) (flight new_flight : List (Flying Packet)) (contents new_contents : Option Contents) (list new_list : Option (List Call)) → SameShape before now → IsFlight (group_count before) flight → MovesOn (versions now before) group flight new_flight contents new_contents list new_list
    → Told (λ c d. IsAdvance (versions now before) group flight new_flight c d) contents new_contents
advance_is before now group flight new_flight contents new_contents list new_list same f m =
    let v = versions now before in
    let falls : Falls (group_count now) (m.front ++ m.one ∷ m.back) = subst (λ n. Falls n (m.front ++ m.one ∷ m.back)) (count_same same) (subst (Falls (group_count before)) m.split f.falls) in
    let above = falls_above (group_count now) m.front m.one m.back falls in
    told_weaker contents new_contents (λ x y p.
    let next : Flying Packet = record { packet = m.one.packet; group = m.one.group + 1; kept = m.one.kept; outs = m.outs } in
    let is_next : next ≡ moved_on v x m.one = ap (λ (o : List ℕ). (let n : Flying Packet = record { packet = m.one.packet; group = m.one.group + 1; kept = m.one.kept; outs = o } in n)) p.1 in
    record {
      flight_is = m.new_split ∙ ap (λ n. m.front ++ (if_left (group_count now) n ++ m.back)) is_next
          ∙ sym (ap₂ (λ g fs. passed_group v x g fs) (sym m.here) m.split ∙ group_passed v x m.front m.one m.back above);
      contents_are = p.0 ∙ ap (all_made x) (sym (ap₂ (λ g fs. calls_of_group v g fs) (sym m.here) m.split ∙ group_calls_of v m.front m.one m.back above));
    }) m.makes.told
