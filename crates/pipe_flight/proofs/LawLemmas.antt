-- The laws of a flight, for every schedule.
use Rattle.std.proofs.Common.{◌≡◌, ℕ, suc, ◌+◌, ◌-◌, ◌<◌, ◌≤◌, Bool, true, false, cond, List, [], ◌∷◌, ◌++◌, length, refl, ap, ap₂, sym, ◌∙◌, subst, arith, filter, eq-eqb, ⊎_elim}
use Rattle.std.specs.List.{All}
use Rattle.std.proofs.lemmas.Bool.{cases_eq}
use Rattle.std.proofs.lemmas.Bool.Decides.{nat_tests}
use Rattle.std.proofs.lemmas.List.{append-nil, append_assoc}
use Rattle.std.proofs.lemmas.List.Elements.{All-nil, All-cons, All-head, All-tail, filter-append}
use Rattle.reg_file.specs.declared.traits.Call.{Call}
use Rattle.reg_file.specs.Registers.{Contents}
use Rattle.reg_file.specs.Calls.{handed, all_made}
use Rattle.pipe_core.specs.Flow.{Stages, flow}
use Rattle.pipe_flight.specs.Flights.{Flying, Versions, stages_of, calls_next, drained, drain}
use Rattle.pipe_flight.specs.Orders.{Falls}
use Rattle.pipe_flight.specs.Schedules.{Fill, filled, Step, Moment, moment_after, Serial, serial_after, AreAt, AreStaged, Avoids, Meets, MeetAll, first_moment, first_serial, ran, ran_serial, KeepsSerialOrder}
use Rattle.pipe_flight.specs.Traces.{Item, trace_after, traced, KeepsGroupOrder, calls_from_last, is_in, KeepsPacketCalls}
use Rattle.pipe_flight.proofs.Agreements.{Agrees, rev, IsOf, Follows, Traced, Reaches}
use Rattle.pipe_flight.specs.Schedules.Step.{Enter, Advance, Change, Show}
use Rattle.pipe_flight.proofs.PlaceLemmas.{flow_at, FromGroup, staged_from}
use Rattle.pipe_flight.specs.Drains.{DrainsEntered, DrainsFilled, with_now}
use Rattle.pipe_flight.proofs.DrainLemmas.{BothStaged, stages_staged, drained_same, drained_at}
use Rattle.pipe_flight.proofs.DrainLemmas.{enter_drain as entered_drain}
use Rattle.pipe_flight.proofs.CommitLemmas.{kept_drained}
use Rattle.pipe_flight.proofs.OrderLemmas.{somebody, falls_here}
use Rattle.pipe_flight.proofs.TraceLemmas.{rev_append, rev_rev}
use Rattle.pipe_flight.specs.Traces.Item.{Made, Filled}
use Rattle.pipe_flight.proofs.SerialLemmas.{fill_past, agree_all, agree_step, calls_in_front, equal_at_end, count_stays}
use Rattle.pipe_flight.proofs.GroupLemmas.{trace_enter, trace_advance, rev_length}
use Rattle.pipe_flight.proofs.EndLemmas.{trace_changed, trace_show}

agree_first : {P : Type 0} (group_of : ℕ → ℕ) (count : ℕ) (now : Stages P) (contents : Contents) → 0 < count → AreStaged group_of now → Agrees group_of (first_moment count now contents) (first_serial now contents)
agree_first group_of count now contents some staged = record {
  some = some;
  now_staged = staged;
  old_staged = staged;
  flight = record { falls = tt; old_first = tt };
  now = refl;
  contents = refl;
  calls = λ array. refl;
}

pub serial_order : {P : Type 0} → KeepsSerialOrder P
serial_order group_of run is =
    let none = run.none in let count = run.count in let now = run.now in let contents = run.contents in let schedule = run.steps in
    let some = is.some in let staged = is.staged in let meet = is.meets in
    let m = ran none (first_moment count now contents) schedule in
    let s = ran_serial count none (first_serial now contents) schedule in
    let a = agree_all group_of none count schedule (first_moment count now contents) (first_serial now contents) refl (agree_first group_of count now contents some staged) meet in
    record {
      front = λ array. calls_in_front group_of m s array a;
      drained_is = a.contents;
      calls_at_end = λ e. (equal_at_end group_of m s a e).1;
      contents_at_end = λ e. (equal_at_end group_of m s a e).0;
    }

trace_step : {P : Type 0} (group_of : ℕ → ℕ) (start : Contents) (none : List ℕ) (m : Moment P) (s : Serial P) (trace : List Item) (step : Step P) → Agrees group_of m s → Meets group_of m step → Traced group_of start m trace → Traced group_of start (moment_after none m step) (trace_after m.rules.count none s trace step)
trace_step group_of start none m s trace (Enter packet) a meets t = trace_enter group_of start none m s trace packet a t
trace_step group_of start none m s trace (Advance group) a meets t = trace_advance group_of start none m s trace group a (somebody group m.flight meets.0) t
trace_step group_of start none m s trace (Change next fill) a meets t = trace_changed group_of start none m s trace next fill a meets.1 t
trace_step group_of start none m s trace Show a meets t = trace_show group_of start none m s trace a t

trace_all : {P : Type 0} (group_of : ℕ → ℕ) (start : Contents) (none : List ℕ) (count : ℕ) (schedule : List (Step P)) (m : Moment P) (s : Serial P) (trace : List Item) → m.rules.count ≡ count → Agrees group_of m s → Traced group_of start m trace → MeetAll group_of none m schedule
    → Traced group_of start (ran none m schedule) (traced count none s trace schedule)
trace_all group_of start none count [] m s trace c a t meet = t
trace_all group_of start none count (step ∷ steps) m s trace c a t meet =
    trace_all group_of start none count steps (moment_after none m step) (serial_after count none s step) (trace_after count none s trace step) (count_stays none m step ∙ c)
    (subst (λ n. Agrees group_of (moment_after none m step) (serial_after n none s step)) c (agree_step group_of none m s step a meet.0))
    (subst (λ n. Traced group_of start (moment_after none m step) (trace_after n none s trace step)) c (trace_step group_of start none m s trace step a meet.0 t))
    meet.1

count_all : {P : Type 0} (none : List ℕ) (schedule : List (Step P)) (m : Moment P) → (ran none m schedule).rules.count ≡ m.rules.count
count_all none [] m = refl
count_all none (step ∷ steps) m = count_all none steps (moment_after none m step) ∙ count_stays none m step

-- the trace of a whole schedule
traced_end : {P : Type 0} (group_of : ℕ → ℕ) (none : List ℕ) (count : ℕ) (now : Stages P) (contents : Contents) (schedule : List (Step P))
    → 0 < count → AreStaged group_of now → MeetAll group_of none (first_moment count now contents) schedule
    → Traced group_of contents (ran none (first_moment count now contents) schedule) (traced count none (first_serial now contents) [] schedule)
traced_end group_of none count now contents schedule some staged meet =
    trace_all group_of contents none count schedule (first_moment count now contents) (first_serial now contents) [] refl (agree_first group_of count now contents some staged)
    (record { backward = []; order = refl; follows = tt; groups = λ a i lt. refl }) meet

pub group_order : {P : Type 0} → KeepsGroupOrder P
group_order group_of run is =
    let none = run.none in let count = run.count in let now = run.now in let contents = run.contents in let schedule = run.steps in
    let some = is.some in let staged = is.staged in let meet = is.meets in
    let m = first_moment count now contents in
    let t = traced_end group_of none count now contents schedule some staged meet in
    λ a i lt. t.groups a i (subst (λ n. group_of a < n) (sym (count_all none schedule m)) lt)

-- ---- the calls of an advance are those of the packet on the group

all_in : (group_of : ℕ → ℕ) (group : ℕ) (calls : List Call) → All (λ (c : Call). group_of c.array ≡ group) calls → filter (is_in group_of group) calls ≡ calls
all_in group_of group [] h = refl
all_in group_of group (call ∷ calls) h =
    ap (λ b. cond b (call ∷ filter (is_in group_of group) calls) (filter (is_in group_of group) calls)) (eq-eqb (group_of call.array) group (All-head (λ (c : Call). group_of c.array ≡ group) call calls h))
    ∙ ap (λ cs. call ∷ cs) (all_in group_of group calls (All-tail (λ (c : Call). group_of c.array ≡ group) call calls h))

none_in : (group_of : ℕ → ℕ) (group : ℕ) (Q : ℕ → Type 0) (calls : List Call) → All (λ (c : Call). Q (group_of c.array)) calls → (Q group → ⊥) → filter (is_in group_of group) calls ≡ []
none_in group_of group Q [] h off = refl
none_in group_of group Q (call ∷ calls) h off =
    let miss : is_in group_of group call ≡ false = ⊎_elim (λ (e : group_of call.array ≡ group). absurd (off (subst Q e (All-head (λ (c : Call). Q (group_of c.array)) call calls h)))) (λ (ne : group_of call.array ≡ group → ⊥). grind (arith, nat_tests)) (cases_eq (group_of call.array) group) in
    ap (λ b. cond b (call ∷ filter (is_in group_of group) calls) (filter (is_in group_of group) calls)) miss
    ∙ none_in group_of group Q calls (All-tail (λ (c : Call). Q (group_of c.array)) call calls h) off

pub next_calls : {P : Type 0} (group_of : ℕ → ℕ) (rules : Versions P) (contents : Contents) (one : Flying P) (calls : List Call) → BothStaged group_of rules → one.group < rules.count → IsOf group_of rules contents one calls → calls_next rules one ≡ filter (is_in group_of one.group) calls
next_calls group_of rules contents one calls both lt is =
    let here = calls_next rules one in
    let stages = stages_of rules one in
    let staged = stages_staged group_of rules one both in
    let m = rules.count - (one.group + 1) in
    let n : rules.count - one.group ≡ suc m = omega arith in
    let rest = flow stages contents one.packet m (one.group + 1) (handed contents here one.outs) in
    let test = is_in group_of one.group in
    sym (ap (filter test) (is.whole ∙ ap (λ k. is.done ++ flow stages contents one.packet k one.group one.outs) n)
    ∙ filter-append test is.done (here ++ rest)
    ∙ ap (λ cs. cs ++ filter test (here ++ rest)) (none_in group_of one.group (λ g. g < one.group) is.done is.behind (λ l. omega arith))
    ∙ filter-append test here rest
    ∙ ap₂ (λ xs ys. xs ++ ys) (all_in group_of one.group here (staged.there one.group one.packet one.outs))
    (none_in group_of one.group (λ g. one.group + 1 ≤ g) rest (flow_at (FromGroup group_of (one.group + 1)) stages contents one.packet m (one.group + 1) (handed contents here one.outs) (staged_from group_of stages one.packet (one.group + 1) staged)) (λ l. omega arith))
    ∙ append-nil here)

-- the packet's item in a trace, where so many packets follow
item_calls : {P : Type 0} (group_of : ℕ → ℕ) (rules : Versions P) (contents : Contents) (later : List (Flying P)) (one : Flying P) (earlier : List (Flying P)) (trace : List Item) → BothStaged group_of rules → one.group < rules.count
    → Follows group_of rules contents (later ++ one ∷ earlier) trace → calls_next rules one ≡ filter (is_in group_of one.group) (calls_from_last (length later) trace)
item_calls group_of rules contents [] one earlier [] both lt h = absurd h
item_calls group_of rules contents (other ∷ later) one earlier [] both lt h = absurd h
item_calls group_of rules contents [] one earlier (Made calls ∷ items) both lt h = next_calls group_of rules (drain rules contents (rev earlier)) one calls both lt h.0
item_calls group_of rules contents (other ∷ later) one earlier (Made calls ∷ items) both lt h = item_calls group_of rules contents later one earlier items both lt h.1
item_calls group_of rules contents [] one earlier (Filled fill ∷ items) both lt h = item_calls group_of rules contents [] one earlier items both lt h.1
item_calls group_of rules contents (other ∷ later) one earlier (Filled fill ∷ items) both lt h = item_calls group_of rules contents (other ∷ later) one earlier items both lt h.1

backward_is : {P : Type 0} (flight backward front : List (Flying P)) (one : Flying P) (back : List (Flying P)) → flight ≡ rev backward → flight ≡ front ++ one ∷ back → backward ≡ rev back ++ one ∷ rev front
backward_is flight backward front one back order split =
    sym (rev_rev backward) ∙ ap rev (sym order ∙ split) ∙ rev_append front (one ∷ back) ∙ append_assoc (rev back) (one ∷ []) (rev front)

pub packet_calls : {P : Type 0} → KeepsPacketCalls P
packet_calls {P} group_of run front one back is split =
    let none = run.none in let count = run.count in let now = run.now in let contents = run.contents in let schedule = run.steps in
    let some = is.some in let staged = is.staged in let meet = is.meets in
    let m = ran none (first_moment count now contents) schedule in
    let s = ran_serial count none (first_serial now contents) schedule in
    let trace = traced count none (first_serial now contents) [] schedule in
    let t = traced_end group_of none count now contents schedule some staged meet in
    let a = agree_all group_of none count schedule (first_moment count now contents) (first_serial now contents) refl (agree_first group_of count now contents some staged) meet in
    let lt = falls_here m.rules.count front one back (subst (Falls m.rules.count) split a.flight.falls) in
    item_calls group_of m.rules m.contents (rev back) one (rev front) trace (record { now = a.now_staged; old = a.old_staged }) lt
    (subst (λ (fs : List (Flying P)). Follows group_of m.rules m.contents fs trace) (backward_is m.flight t.backward front one back t.order split) t.follows)
    ∙ ap (λ n. filter (is_in group_of one.group) (calls_from_last n trace)) (rev_length back)

-- ---- the registers that packets in flight will leave

pub enter_drain : {P : Type 0} → DrainsEntered P
enter_drain rules contents flight none packet = entered_drain rules contents flight none packet

pub olds_reach : {P : Type 0} (rules : Versions P) (fill : Fill) (flight : List (Flying P)) → All (λ (one : Flying P). one.kept ≡ true) flight → Avoids rules.old fill
    → All (Reaches (λ a i. fill.test a i ≡ false) rules) flight
olds_reach rules fill [] olds avoids = All-nil (Reaches (λ a i. fill.test a i ≡ false) rules)
olds_reach {P} rules fill (one ∷ flight) olds avoids =
    let Off : ℕ → ℕ → Type 0 = λ a i. fill.test a i ≡ false in
    let kept = All-head (λ (one : Flying P). one.kept ≡ true) one flight olds in
    All-cons (Reaches Off rules) one flight
    (record { at = λ g o le. subst (λ (b : Bool). AreAt Off ((cond b rules.old rules.now) g one.packet o)) (sym kept) (avoids g one.packet o) })
    (olds_reach rules fill flight (All-tail (λ (one : Flying P). one.kept ≡ true) one flight olds) avoids)

pub fill_drain : {P : Type 0} → DrainsFilled P
fill_drain rules next fill contents flight olds avoids =
    let Off : ℕ → ℕ → Type 0 = λ a i. fill.test a i ≡ false in
    let reach = olds_reach rules fill flight olds avoids in
    let same : drained (with_now rules next) (filled fill contents) flight ≡ drained rules contents flight =
    kept_drained (with_now rules next) rules (filled fill contents) flight refl refl olds
    ∙ drained_same Off rules (filled fill contents) contents flight reach (record { same = λ x y off. ap (λ b. cond b (fill.value x y) (contents x y)) off }) in
    ap (all_made (filled fill contents)) same
    ∙ fill_past fill contents (drained rules contents flight) (drained_at Off rules contents flight reach)

-- ---- the calls of an advance are those of the packet's item on the group
