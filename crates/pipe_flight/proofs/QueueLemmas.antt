-- Packets in flight that enter, leave and become old, as code keeps them.
use Rattle.std.proofs.Common.{◌≡◌, ◌≢◌, ℕ, ◌<◌, ◌≤◌, Bool, true, false, not, cond, filter, List, [], ◌∷◌, ◌++◌, length, get_or, take, drop, map, refl, ap, ap₂, sym, ◌∙◌, subst, arith, eq-eqb}
use Rattle.std.specs.Prelude.{Result, Ok, Err, IsOk, is_ok, is_err, IsTrue, ◌↔◌, nat_lt, Option, Some, None, ◌==◌, ◌||◌}
use Rattle.std.proofs.lemmas.List.Elements.{All-nil, All-head, All-tail, All-cons}
use Rattle.std.specs.List.{All, remove, list_any, position, position_or_len}
use Rattle.std.proofs.lemmas.Bool.{false≢true, ltb-false}
use Rattle.std.proofs.lemmas.List.Sums.{fails_before_first}
use Rattle.std.proofs.lemmas.List.Folds.{list_any_none}
use Rattle.reg_file.proofs.CallLemmas.{or_false}
use Rattle.std.proofs.lemmas.Bool.Decides.{nat_tests}
use Rattle.std.proofs.lemmas.List.{map-append, length-append, take-append-drop, length-map}
use Rattle.reg_file.specs.declared.traits.Call.{Call}
use Rattle.reg_file.specs.Registers.{Contents}
use Rattle.reg_file.specs.Calls.{all_made}
use Rattle.pkt_headers.specs.declared.packets.Packet.{Packet}
use Rattle.pipe_core.specs.Rules.{Rules}
use Rattle.pipe_core.specs.Groups.{no_carries}
use Rattle.pipe_flight.specs.Flights.{Flying, Versions, entering, drained, drain, kept_now}
use Rattle.pipe_flight.specs.Orders.{NobodyAt, is_old, is_present, Falls, OldFirst, IsFlight}
use Rattle.pipe_flight.specs.States.{FlightState, flying, state_of, group_count, versions, kept_waiting, NoOld}
use Rattle.pipe_flight.proofs.DrainLemmas.{drained_append, drain_append}
use Rattle.outside.specs.Told.{Told}
use Rattle.outside.proofs.ToldLemmas.{told_weaker}
use Rattle.pipe_flight.proofs.OrderLemmas.{all_present, old_split, falls_enter, old_push, falls_leave, falls_kept, old_leave, old_kept}
use Rattle.pipe_flight.proofs.CommitLemmas.{commit_drained}
use Rattle.reg_file.specs.Calls.{MakesOver}
use Rattle.pipe_core.specs.Flow.{stages_in}
use Rattle.pipe_flight.specs.declared.waiting.Waiting.{Waiting}
use Rattle.pipe_flight.proofs.MoveLemmas.{IsInOrder, front_of, back_of, split, removed_is}

-- ---- the first packet leaves

flight_without : (count : ℕ) (front : List (Flying Packet)) (one : Flying Packet) (back : List (Flying Packet)) → IsFlight count (front ++ one ∷ back) → IsFlight count (front ++ back)
flight_without count front one back f = record {
  falls = falls_leave count front one back f.falls;
  old_first = subst OldFirst (sym (map-append is_old front back)) (old_leave (map is_old front) one.kept (map is_old back) (subst OldFirst (map-append is_old front (one ∷ back)) f.old_first));
}

pub first_gone : (count : ℕ) (waiting items : List Waiting) (one : Waiting) → IsFlight count (map flying waiting) → 0 < length waiting → one ≡ get_or waiting 0 one → items ≡ remove waiting 0 → IsFlight count (map flying items)
first_gone count waiting items one f lt is i =
    subst (IsFlight count) (sym (ap (map flying) i ∙ removed_is waiting 0))
    (flight_without count (front_of waiting 0) (flying one) (back_of waiting 0) (subst (IsFlight count) (split waiting 0 one lt is) f))

pub first_apart : (rules : Versions Packet) (flight : List (Flying Packet)) (contents : Contents) → drained rules contents flight ≡ drained rules contents (take 1 flight) ++ drained rules (all_made contents (drained rules contents (take 1 flight))) (drop 1 flight)
first_apart rules flight contents = ap (drained rules contents) (sym (take-append-drop 1 flight)) ∙ drained_append rules contents (take 1 flight) (drop 1 flight)

-- ---- the old packets

pub record OldHead (flight : List (Flying Packet)) : Type 0 where
  pub some : 0 < length flight
  pub olds : filter is_old flight ≡ take 1 flight ++ filter is_old (drop 1 flight)
  pub presents : filter is_present (drop 1 flight) ≡ filter is_present flight

pub old_head : (flight : List (Flying Packet)) → list_any is_old (take 1 flight) ≡ true → OldHead flight
old_head [] h = absurd (cc)
old_head (one ∷ others) h = by one.kept refl h
  where
    by : (b : Bool) → one.kept ≡ b → (b || false) ≡ true → OldHead (one ∷ others)
    by true e g = record {
      some = omega arith;
      olds = ap (λ b. cond b (one ∷ filter is_old others) (filter is_old others)) e;
      presents = sym (ap (λ b. cond (not b) (one ∷ filter is_present others) (filter is_present others)) e);
    }
    by false e g = absurd (cc)

-- where an old packet is first, there is one
pub old_among : (flight : List (Flying Packet)) → list_any is_old (take 1 flight) ≡ true → filter is_old flight ≡ [] → ⊥
old_among [] h none = absurd (cc)
old_among (one ∷ others) h none = by one.kept refl h
  where
    by : (b : Bool) → one.kept ≡ b → (b || false) ≡ true → ⊥
    by true e g =
        let some : filter is_old (one ∷ others) ≡ one ∷ filter is_old others = ap (λ b. cond b (one ∷ filter is_old others) (filter is_old others)) e in
        let less = ap (λ (fs : List (Flying Packet)). length fs) (sym some ∙ none) in
        omega (arith, less)
    by false e g = absurd (cc)

-- where some packet is kept, the flight has one
pub somebody_waits : (waiting : List Waiting) (before : Rules) (state : FlightState) (count : ℕ) → state_of waiting before ≡ state → count ≡ length waiting → (count == 0) ≡ false → state.flight ≡ [] → ⊥
somebody_waits waiting before state count view is some none =
    let long = ap (λ (a : FlightState). length a.flight) view in
    let short = ap (λ (fs : List (Flying Packet)). length fs) none in
    let e : count ≡ 0 = omega (arith, is, long, short, length-map waiting flying) in
    false≢true (sym some ∙ eq-eqb count 0 e)

none_old : (fs : List (Flying Packet)) → All (λ x. x ≡ false) (map is_old fs) → NoOld fs
none_old [] a = record { olds = refl; presents = refl }
none_old (f ∷ fs) a =
    let rest = none_old fs (All-tail (λ x. x ≡ false) f.kept (map is_old fs) a) in
    let e = All-head (λ x. x ≡ false) f.kept (map is_old fs) a in
    record {
      olds = ap (λ b. cond b (f ∷ filter is_old fs) (filter is_old fs)) e ∙ rest.olds;
      presents = ap (λ b. cond (not b) (f ∷ filter is_present fs) (filter is_present fs)) e ∙ ap (λ gs. f ∷ gs) rest.presents;
    }

pub no_old : (flight : List (Flying Packet)) → OldFirst (map is_old flight) → list_any is_old (take 1 flight) ≡ false → NoOld flight
no_old [] h n = record { olds = refl; presents = refl }
no_old (one ∷ others) h n = by one.kept refl n
  where
    by : (b : Bool) → one.kept ≡ b → (b || false) ≡ false → NoOld (one ∷ others)
    by true e g = absurd (cc)
    by false e g = none_old (one ∷ others) (All-cons (λ x. x ≡ false) one.kept (map is_old others) e (h.0 e))

pub kept_is : (waiting : List Waiting) → map flying (map kept_waiting waiting) ≡ map kept_now (map flying waiting)
kept_is [] = refl
kept_is (one ∷ waiting) = ap (λ fs. kept_now (flying one) ∷ fs) (kept_is waiting)

pub flight_kept : (count : ℕ) (flight : List (Flying Packet)) → IsFlight count flight → IsFlight count (map kept_now flight)
flight_kept count flight f = record { falls = falls_kept count flight f.falls; old_first = old_kept flight }

pub old_none : (waiting : List Waiting) (before : Rules) (state : FlightState) (b : Bool) → state_of waiting before ≡ state → IsFlight (group_count before) (map flying waiting) → b ≡ list_any is_old (take 1 state.flight) → b ≡ false → NoOld state.flight
old_none waiting before state b v f is n = no_old state.flight (subst IsInOrder v f).old_first (sym is ∙ n)

pub kept_under : {one two : ℕ} {flight : List (Flying Packet)} → one ≡ two → IsFlight one flight → IsFlight two flight
kept_under {one} {two} {flight} e f = subst (λ n. IsFlight n flight) e f

-- ---- enter

falls_length : (high : ℕ) (fs : List (Flying Packet)) → Falls high fs → length fs ≤ high
falls_length high [] f = omega arith
falls_length high (one ∷ fs) f = (let rest = falls_length one.group fs f.1 in omega (arith, f.0, rest))

pub record Entered (waiting : List Waiting) (before : Rules) (state : FlightState) (packet : Packet) : Type 0 where
  pub kept : IsFlight (group_count before) (map flying waiting ++ entering no_carries packet ∷ [])
  pub room : length waiting < (group_count before)

pub entered : (waiting : List Waiting) (before : Rules) (state : FlightState) (packet : Packet) → state_of waiting before ≡ state → IsFlight (group_count before) (map flying waiting) → 0 < (group_count state.before) → NobodyAt 0 state.flight → Entered waiting before state packet
entered waiting before state packet v f some nobody =
    let g : (group_count before) ≡ (group_count state.before) = ap (λ (a : FlightState). (group_count a.before)) v in
    let fs = map flying waiting in
    let falls = falls_enter (group_count before) fs no_carries packet (omega arith) f.falls (subst (λ (xs : List (Flying Packet)). NobodyAt 0 xs) (sym (ap (λ (a : FlightState). a.flight) v)) nobody) in
    let l = falls_length (group_count before) (fs ++ entering no_carries packet ∷ []) falls in
    record {
      kept = record { falls = falls; old_first = subst OldFirst (sym (map-append is_old fs (entering no_carries packet ∷ []))) (old_push (map is_old fs) f.old_first) };
      room = omega (arith, l, length-append fs (entering no_carries packet ∷ []), length-map waiting flying);
    }

pub ok_not_err : {T E : Type 0} (r : Result T E) → IsOk r → is_err r ≡ true → ⊥
ok_not_err (Ok x) o e = absurd (cc)
ok_not_err (Err x) o e = false≢true o

pub ok_if_not_err : {T E : Type 0} (r : Result T E) → is_err r ≡ false → is_ok r ≡ true
ok_if_not_err (Ok x) e = refl
ok_if_not_err (Err x) e = absurd (cc)

pub pushed_is : (items new : List Waiting) (one : Waiting) (b : Bool) → b ≡ true → new ≡ cond b (items ++ one ∷ []) items → map flying new ≡ map flying items ++ flying one ∷ []
pushed_is items new one b t e = ap (map flying) (e ∙ ap (λ c. cond c (items ++ one ∷ []) items) t) ∙ map-append flying items (one ∷ [])

-- ---- who stands before a group

abbrev waits_at : ℕ → Waiting → Bool
waits_at group one = one.group == group

nobody_waits : (group : ℕ) (waiting : List Waiting) → list_any (waits_at group) waiting ≡ false → NobodyAt group (map flying waiting)
nobody_waits group [] none = All-nil (λ (f : Flying Packet). f.group ≢ group)
nobody_waits group (one ∷ waiting) none =
    let parts = or_false (waits_at group one) (list_any (waits_at group) waiting) none in
    All-cons (λ (f : Flying Packet). f.group ≢ group) (flying one) (map flying waiting) (λ here. false≢true (sym parts.0 ∙ eq-eqb one.group group here)) (nobody_waits group waiting parts.1)

none_waits : (group : ℕ) (waiting : List Waiting) → NobodyAt group (map flying waiting) → list_any (waits_at group) waiting ≡ false
none_waits group [] nobody = refl
none_waits group (one ∷ waiting) nobody =
    let off = All-head (λ (f : Flying Packet). f.group ≢ group) (flying one) (map flying waiting) nobody in
    let here : waits_at group one ≡ false = grind (arith, nat_tests) in
    ap₂ (λ a b. a || b) here (none_waits group waiting (All-tail (λ (f : Flying Packet). f.group ≢ group) (flying one) (map flying waiting) nobody))

pub vacant_is : (group : ℕ) (waiting : List Waiting) (before : Rules) (state : FlightState) (answer : Bool) → state_of waiting before ≡ state → answer ≡ not (list_any (waits_at group) waiting) → IsTrue answer ↔ NobodyAt group state.flight
vacant_is group waiting before state answer v is =
    let flight_is : map flying waiting ≡ state.flight = ap (λ (a : FlightState). a.flight) v in (
      λ yes. subst (NobodyAt group) flight_is (nobody_waits group waiting (not_true (list_any (waits_at group) waiting) (sym is ∙ yes))),
      λ nobody. is ∙ ap not (none_waits group waiting (subst (NobodyAt group) (sym flight_is) nobody)),
    )
  where
    not_true : (b : Bool) → not b ≡ true → b ≡ false
    not_true true e = absurd (cc)
    not_true false e = refl

pub nobody_found : (group : ℕ) (waiting seen : List Waiting) (before : Rules) (state : FlightState) (found : Option ℕ) → state_of waiting before ≡ state → seen ≡ waiting → found ≡ position (waits_at group) seen → found ≡ None → NobodyAt group state.flight
nobody_found group waiting seen before state found v s f none =
    subst (NobodyAt group) (ap (λ (a : FlightState). a.flight) v)
    (nobody_waits group waiting
    (by (nat_lt (position_or_len (waits_at group) waiting) (length waiting)) refl (sym (ap (position (waits_at group)) s) ∙ sym f ∙ none)))
  where
    by : (b : Bool) → nat_lt (position_or_len (waits_at group) waiting) (length waiting) ≡ b → cond b (Some (position_or_len (waits_at group) waiting)) None ≡ None → list_any (waits_at group) waiting ≡ false
    by true q e = absurd (cc)
    by false q e =
        let all = ltb-false (position_or_len (waits_at group) waiting) (length waiting) q in
        list_any_none (waits_at group) waiting (λ k d lt. fails_before_first (waits_at group) waiting k d (omega (arith, all)))

pub found_in : (p : Waiting → Bool) (waiting seen : List Waiting) (found : Option ℕ) (at : ℕ) → found ≡ Some at → found ≡ position p seen → seen ≡ waiting → position p waiting ≡ Some at
found_in p waiting seen found at is f s = sym (ap (position p) s) ∙ sym f ∙ is

-- ---- the drain after a commit

pub drain_committed : (before now new_before : Rules) (flight new_flight : List (Flying Packet)) (contents new_contents : Option Contents) (list new_list : Option (List Call)) → new_before ≡ now → OldFirst (map is_old flight) → new_flight ≡ map kept_now (filter is_present flight)
    → MakesOver (λ c. drained (versions now before) c (filter is_old flight)) contents new_contents list new_list
    → Told (λ c d. drain (versions now new_before) d new_flight ≡ drain (versions now before) c flight) contents new_contents
drain_committed before now new_before flight new_flight contents new_contents list new_list old order f m =
    let v = versions now before in
    told_weaker contents new_contents (λ x y p.
    let mid : y ≡ drain v x (filter is_old flight) = p.1 ∙ ap (all_made x) p.0 in
    ap (λ b. drain (versions now b) y new_flight) old
    ∙ ap₂ (drain (versions now now)) mid f
    ∙ ap (all_made (drain v x (filter is_old flight))) (commit_drained v (stages_in now) (drain v x (filter is_old flight)) (filter is_present flight) (all_present flight))
    ∙ sym (drain_append v x (filter is_old flight) (filter is_present flight))
    ∙ ap (drain v x) (sym (old_split flight order))) m.told
