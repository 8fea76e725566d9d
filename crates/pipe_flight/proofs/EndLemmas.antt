-- Packets that pass to the end, in the trace of the serial run.
use Rattle.std.proofs.Common.{◌≡◌, ◌≢◌, ℕ, zero, suc, ◌+◌, ◌-◌, ◌<◌, ◌≤◌, false, cond, List, [], ◌∷◌, ◌++◌, refl, ap, sym, ◌∙◌, subst, arith, filter, map, eq-eqb, ⊎_elim}
use Rattle.std.specs.Prelude.{◌==◌}
use Rattle.std.proofs.lemmas.Bool.{cases_eq}
use Rattle.std.proofs.lemmas.Bool.Decides.{nat_tests}
use Rattle.std.proofs.lemmas.List.{append-nil}
use Rattle.std.proofs.lemmas.List.Elements.{All-nil}
use Rattle.std.proofs.lemmas.List.Sums.{fold-append}
use Rattle.reg_file.specs.declared.traits.Call.{Call}
use Rattle.reg_file.specs.Registers.{Contents}
use Rattle.reg_file.specs.Calls.{made, all_made}
use Rattle.pipe_core.specs.Flow.{Stages}
use Rattle.pipe_flight.specs.Flights.{Flying, Versions, calls_next, moved_on, rest_of, drained, drain, kept_now, committed}
use Rattle.pipe_flight.specs.Orders.{if_left, is_old, is_present, Falls}
use Rattle.pipe_flight.specs.Schedules.{Fill, filled, Moment, olds_passed, moment_after, Serial, Avoids}
use Rattle.pipe_flight.specs.Traces.{Item, trace_after}
use Rattle.pipe_flight.proofs.Agreements.{Agrees, Traced}
use Rattle.pipe_flight.specs.Schedules.Step.{Change, Show}
use Rattle.pipe_flight.specs.Traces.Item.{Filled}
use Rattle.pipe_flight.proofs.DrainLemmas.{BothStaged, advances}
use Rattle.pipe_flight.proofs.CommitLemmas.{rest_none, first_passes}
use Rattle.pipe_flight.proofs.OrderLemmas.{falls_move, falls_leave, all_present, old_split}
use Rattle.pipe_flight.proofs.GroupLemmas.{trace_moved, trace_change, presents_only}

not_eq : (a b : ℕ) → a ≢ b → (a == b) ≡ false
not_eq a b ne = grind (arith, nat_tests)

-- the same packets over the same registers
traced_as : {P : Type 0} (group_of : ℕ → ℕ) (start : Contents) (rules : Versions P) (calls new_calls : List Call) (trace : List Item) {flight new_flight : List (Flying P)} {contents new_contents : Contents} → flight ≡ new_flight → contents ≡ new_contents
    → Traced group_of start (record { flight = flight; rules = rules; contents = contents; calls = calls }) trace
    → Traced group_of start (record { flight = new_flight; rules = rules; contents = new_contents; calls = new_calls }) trace
traced_as {P} group_of start rules calls new_calls trace {flight} {new_flight} {contents} {new_contents} f c t =
    let renamed : Traced group_of start (record { flight = flight; rules = rules; contents = contents; calls = new_calls }) trace =
    record { backward = t.backward; order = t.order; follows = t.follows; groups = t.groups } in
    subst (λ (fs : List (Flying P)). Traced group_of start (record { flight = fs; rules = rules; contents = new_contents; calls = new_calls }) trace) f
    (subst (λ (x : Contents). Traced group_of start (record { flight = flight; rules = rules; contents = x; calls = new_calls }) trace) c renamed)

-- the first packet passes its group, and then the others that are left
rest_first : {P : Type 0} (group_of : ℕ → ℕ) (rules : Versions P) (contents : Contents) (one : Flying P) → BothStaged group_of rules → one.group < rules.count
    → all_made (all_made contents (calls_next rules one)) (rest_of rules (all_made contents (calls_next rules one)) (moved_on rules contents one)) ≡ all_made contents (rest_of rules contents one)
rest_first {P} group_of rules contents one both lt =
    let here = calls_next rules one in
    let rest = rest_of rules (all_made contents here) (moved_on rules contents one) in
    sym (fold-append made contents here rest) ∙ ap (all_made contents) (sym (advances group_of rules contents [] one both lt (All-nil (λ (f : Flying P). one.group + 1 ≤ f.group))).rest)

trace_first : {P : Type 0} (group_of : ℕ → ℕ) (start : Contents) (rules : Versions P) (n : ℕ) (contents : Contents) (calls : List Call) (one : Flying P) (back : List (Flying P)) (trace : List Item)
    → BothStaged group_of rules → one.group + n ≡ rules.count → Falls rules.count (one ∷ back)
    → Traced group_of start (record { flight = one ∷ back; rules = rules; contents = contents; calls = calls }) trace
    → Traced group_of start (record { flight = back; rules = rules; contents = all_made contents (rest_of rules contents one); calls = calls }) trace
trace_first group_of start rules zero contents calls one back trace both n falls t = absurd (omega (arith, falls.0, n))
trace_first {P} group_of start rules (suc n) contents calls one back trace both e falls t =
    let next = moved_on rules contents one in
    let here = calls_next rules one in
    let after : Contents = all_made contents here in
    let whole = rest_first group_of rules contents one both falls.0 in
    ⊎_elim
    (λ (same : next.group ≡ rules.count).
    let left : if_left rules.count next ≡ [] = ap (λ b. cond b [] (next ∷ [])) (eq-eqb next.group rules.count same) in
    let none : rest_of rules after next ≡ [] = rest_none rules after next (omega arith) in
    traced_as group_of start rules calls calls trace refl (sym (ap (all_made after) none) ∙ whole)
    (trace_moved group_of start rules contents calls [] one back back here calls trace both falls t (sym (ap (λ fs. fs ++ back) left)) refl))
    (λ (other : next.group ≢ rules.count).
    let test : (next.group == rules.count) ≡ false = not_eq next.group rules.count other in
    let left : if_left rules.count next ≡ next ∷ [] = ap (λ b. cond b [] (next ∷ [])) test in
    let falls_next : Falls rules.count (next ∷ back) = falls_move rules.count [] one next back refl (omega (arith, falls.0)) falls (All-nil (λ (f : Flying P). f.group ≢ one.group + 1)) in
    traced_as group_of start rules calls calls trace refl whole
    (trace_first group_of start rules n after calls next back trace both (omega arith) falls_next
    (trace_moved group_of start rules contents calls [] one back (next ∷ back) here calls trace both falls t (sym (ap (λ fs. fs ++ back) left)) refl)))
    (cases_eq next.group rules.count)

-- the packets in front pass to the end, one after the other
trace_front : {P : Type 0} (group_of : ℕ → ℕ) (start : Contents) (rules : Versions P) (contents : Contents) (calls : List Call) (front back : List (Flying P)) (trace : List Item)
    → BothStaged group_of rules → Falls rules.count (front ++ back)
    → Traced group_of start (record { flight = front ++ back; rules = rules; contents = contents; calls = calls }) trace
    → Traced group_of start (record { flight = back; rules = rules; contents = drain rules contents front; calls = calls }) trace
trace_front group_of start rules contents calls [] back trace both falls t = t
trace_front group_of start rules contents calls (one ∷ front) back trace both falls t =
    let whole : one.group + (rules.count - one.group) ≡ rules.count = omega (arith, falls.0) in
    traced_as group_of start rules calls calls trace refl (first_passes rules contents one front)
    (trace_front group_of start rules (all_made contents (rest_of rules contents one)) calls front back trace both (falls_leave rules.count [] one (front ++ back) falls)
    (trace_first group_of start rules (rules.count - one.group) contents calls one (front ++ back) trace both whole falls t))

-- ---- the steps that pass packets to the end

pub trace_show : {P : Type 0} (group_of : ℕ → ℕ) (start : Contents) (none : List ℕ) (m : Moment P) (s : Serial P) (trace : List Item) → Agrees group_of m s → Traced group_of start m trace
    → Traced group_of start (moment_after none m Show) trace
trace_show {P} group_of start none m s trace a t =
    let whole : m.flight ≡ m.flight ++ [] = sym (append-nil m.flight) in
    traced_as group_of start m.rules m.calls (m.calls ++ drained m.rules m.contents m.flight) trace refl refl
    (trace_front group_of start m.rules m.contents m.calls m.flight [] trace (record { now = a.now_staged; old = a.old_staged })
    (subst (Falls m.rules.count) whole a.flight.falls)
    (traced_as group_of start m.rules m.calls m.calls trace whole refl t))

pub trace_olds : {P : Type 0} (group_of : ℕ → ℕ) (start : Contents) (m : Moment P) (s : Serial P) (trace : List Item) → Agrees group_of m s → Traced group_of start m trace → Traced group_of start (olds_passed m) trace
trace_olds {P} group_of start m s trace a t =
    let olds = filter is_old m.flight in
    let presents = filter is_present m.flight in
    let split = old_split m.flight a.flight.old_first in
    traced_as group_of start m.rules m.calls (m.calls ++ drained m.rules m.contents olds) trace refl refl
    (trace_front group_of start m.rules m.contents m.calls olds presents trace (record { now = a.now_staged; old = a.old_staged })
    (subst (Falls m.rules.count) split a.flight.falls)
    (traced_as group_of start m.rules m.calls m.calls trace split refl t))

pub trace_changed : {P : Type 0} (group_of : ℕ → ℕ) (start : Contents) (none : List ℕ) (m : Moment P) (s : Serial P) (trace : List Item) (next : Stages P) (fill : Fill) → Agrees group_of m s → Avoids m.rules.now fill → Traced group_of start m trace
    → Traced group_of start (moment_after none m (Change next fill)) (trace_after m.rules.count none s trace (Change next fill))
trace_changed {P} group_of start none m s trace next fill a avoids t =
    let presents = filter is_present m.flight in
    let new = all_present m.flight in
    let only = presents_only presents new in
    let passed = olds_passed m in
    traced_as group_of start (committed m.rules next) (moment_after none passed (Change next fill)).calls (moment_after none m (Change next fill)).calls (Filled fill ∷ trace)
    (ap (map kept_now) only.1)
    (ap (λ fs. filled fill (drain m.rules passed.contents fs)) only.0)
    (trace_change group_of start none passed s trace next fill new avoids (trace_olds group_of start m s trace a t))
