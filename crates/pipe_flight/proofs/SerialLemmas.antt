-- Each step of a schedule keeps a moment in agreement with the serial run.
use Rattle.std.proofs.Common.{◌≡◌, ◌≢◌, ℕ, ◌+◌, Bool, true, false, cond, List, [], ◌∷◌, ◌++◌, get_or, refl, ap, ap₂, sym, ◌∙◌, subst, arith, filter, map, append_assoc}
use Rattle.std.specs.Prelude.{◌==◌}
use Rattle.std.specs.List.{All}
use Rattle.std.proofs.Math.Path.{fun_ext}
use Rattle.std.proofs.lemmas.Bool.{false≢true}
use Rattle.std.proofs.lemmas.Bool.Decides.{nat_tests}
use Rattle.std.proofs.lemmas.List.{append-nil, map-append}
use Rattle.std.proofs.lemmas.List.Elements.{All-nil, All-cons, All-head, All-tail, All-map, filter-append}
use Rattle.reg_file.specs.declared.traits.Call.{Call}
use Rattle.reg_file.specs.Registers.{Contents}
use Rattle.reg_file.specs.Calls.{all_made, is_on}
use Rattle.pipe_core.specs.Flow.{Stages, flow}
use Rattle.pipe_flight.specs.Flights.{Flying, Versions, entering, calls_next, moved_on, drained, drain, kept_now, committed}
use Rattle.pipe_flight.specs.Orders.{NobodyAt, if_left, is_old, is_present, Falls, OldFirst, IsFlight}
use Rattle.pipe_flight.specs.Schedules.{Fill, filled, Step, Moment, calls_of_group, passed_group, moment_after, Serial, serial_after, AreAt, AreStaged, Avoids, Meets, MeetAll, ran, ran_serial}
use Rattle.outside.specs.Sent.{IsFront}
use Rattle.pipe_flight.proofs.Agreements.{Stands, Agrees, Reaches}
use Rattle.pipe_flight.specs.Schedules.Step.{Enter, Advance, Change, Show}
use Rattle.pipe_flight.proofs.PlaceLemmas.{all_made_same, all_made_off}
use Rattle.pipe_flight.proofs.DrainLemmas.{drained_append, drain_append, enter_drained, enter_drain, advance_drain, advance_calls, BothStaged, drained_same, drained_at}
use Rattle.pipe_flight.proofs.CommitLemmas.{commit_drained}
use Rattle.pipe_flight.proofs.OrderLemmas.{somebody, falls_here, falls_above, falls_enter, falls_move, falls_leave, falls_back, falls_kept, old_push, old_leave, old_kept, old_split, all_present, group_calls_of, group_passed, left_drained}

both : {P : Type 0} (group_of : ℕ → ℕ) (m : Moment P) (s : Serial P) → Agrees group_of m s → BothStaged group_of m.rules
both group_of m s a = record { now = a.now_staged; old = a.old_staged }

-- ---- enter

pub agree_enter : {P : Type 0} (group_of : ℕ → ℕ) (none : List ℕ) (m : Moment P) (s : Serial P) (packet : P) → Agrees group_of m s → NobodyAt 0 m.flight → Agrees group_of (moment_after none m (Enter packet)) (serial_after m.rules.count none s (Enter packet))
agree_enter {P} group_of none m s packet a nobody =
    let made_then : Stages P → Contents → List Call = λ now contents. flow now contents packet m.rules.count 0 none in
    let coming = drained m.rules m.contents m.flight in
    let end = drain m.rules m.contents m.flight in
    let same : made_then m.rules.now end ≡ made_then s.now s.contents = ap₂ made_then (sym a.now) a.contents in
    record {
      some = a.some;
      now_staged = a.now_staged;
      old_staged = a.old_staged;
      flight = record {
        falls = falls_enter m.rules.count m.flight none packet a.some a.flight.falls nobody;
        old_first = subst OldFirst (sym (map-append is_old m.flight (entering none packet ∷ []))) (old_push (map is_old m.flight) a.flight.old_first);
      };
      now = a.now;
      contents = enter_drain m.rules m.contents m.flight none packet ∙ ap₂ all_made a.contents same;
      calls = λ array.
          ap (λ calls. filter (is_on array) (m.calls ++ calls)) (enter_drained m.rules m.contents m.flight none packet)
          ∙ ap (filter (is_on array)) (sym (append_assoc m.calls coming (made_then m.rules.now end)))
          ∙ filter-append (is_on array) (m.calls ++ coming) (made_then m.rules.now end)
          ∙ ap₂ (λ xs ys. xs ++ filter (is_on array) ys) (a.calls array) same
          ∙ sym (filter-append (is_on array) s.calls (made_then s.now s.contents));
    }

-- ---- advance

pub left_flight : {P : Type 0} (count : ℕ) (front : List (Flying P)) (one next : Flying P) (back : List (Flying P)) → next.group ≡ one.group + 1 → next.kept ≡ one.kept → IsFlight count (front ++ one ∷ back) → NobodyAt (one.group + 1) front → IsFlight count (front ++ (if_left count next ++ back))
left_flight {P} count front one next back e k f nobody = by (next.group == count) refl
  where
    split : (x : Flying P) → map is_old (front ++ x ∷ back) ≡ map is_old front ++ x.kept ∷ map is_old back
    split x = map-append is_old front (x ∷ back)

    by : (b : Bool) → (next.group == count) ≡ b → IsFlight count (front ++ (cond b [] (next ∷ []) ++ back))
    by true q = record {
      falls = falls_leave count front one back f.falls;
      old_first = subst OldFirst (sym (map-append is_old front back)) (old_leave (map is_old front) one.kept (map is_old back) (subst OldFirst (split one) f.old_first));
    }
    by false q =
        let ne : next.group ≢ count = λ at. false≢true (sym q ∙ eq_true at) in
        let here = falls_here count front one back f.falls in
        record {
          falls = falls_move count front one next back e (omega arith) f.falls nobody;
          old_first = subst OldFirst (split one ∙ ap (λ b. map is_old front ++ b ∷ map is_old back) (sym k) ∙ sym (split next)) f.old_first;
        }
      where
        eq_true : next.group ≡ count → (next.group == count) ≡ true
        eq_true at = grind (arith, nat_tests)

advance_split : {P : Type 0} (group_of : ℕ → ℕ) (rules : Versions P) (contents : Contents) (calls : List Call) (s : Serial P) (front : List (Flying P)) (one : Flying P) (back flight : List (Flying P)) (made_calls : List Call)
    → Agrees group_of (record { flight = front ++ one ∷ back; rules = rules; contents = contents; calls = calls }) s → NobodyAt (one.group + 1) front
    → flight ≡ front ++ (if_left rules.count (moved_on rules contents one) ++ back) → made_calls ≡ calls_next rules one
    → Agrees group_of (record { flight = flight; rules = rules; contents = all_made contents made_calls; calls = calls ++ made_calls }) s
advance_split {P} group_of rules contents calls s front one back flight made_calls a nobody f c =
    let staged = both group_of (record { flight = front ++ one ∷ back; rules = rules; contents = contents; calls = calls }) s a in
    let lt = falls_here rules.count front one back a.flight.falls in
    let above = falls_above rules.count front one back a.flight.falls in
    let next = moved_on rules contents one in
    let here = calls_next rules one in
    let coming : drained rules (all_made contents made_calls) flight ≡ drained rules (all_made contents here) (front ++ next ∷ back) =
    ap₂ (λ x fs. drained rules (all_made contents x) fs) c f ∙ left_drained rules (all_made contents here) front next back in
    record {
      some = a.some;
      now_staged = a.now_staged;
      old_staged = a.old_staged;
      flight = subst (IsFlight rules.count) (sym f) (left_flight rules.count front one next back refl refl a.flight nobody);
      now = a.now;
      contents = ap₂ (λ x ys. all_made (all_made contents x) ys) c coming ∙ advance_drain group_of rules contents front one back staged lt above ∙ a.contents;
      calls = λ array.
          ap₂ (λ x ys. filter (is_on array) ((calls ++ x) ++ ys)) c coming
          ∙ ap (filter (is_on array)) (append_assoc calls here (drained rules (all_made contents here) (front ++ next ∷ back)))
          ∙ filter-append (is_on array) calls (here ++ drained rules (all_made contents here) (front ++ next ∷ back))
          ∙ ap (λ ys. filter (is_on array) calls ++ ys) (advance_calls group_of rules contents front one back array staged lt above)
          ∙ sym (filter-append (is_on array) calls (drained rules contents (front ++ one ∷ back)))
          ∙ a.calls array;
    }

pub nobody_front : {P : Type 0} (group : ℕ) (front back : List (Flying P)) → NobodyAt group (front ++ back) → NobodyAt group front
nobody_front {P} group [] back h = All-nil (λ (f : Flying P). f.group ≢ group)
nobody_front {P} group (one ∷ front) back h = All-cons (λ (f : Flying P). f.group ≢ group) one front (All-head (λ (f : Flying P). f.group ≢ group) one (front ++ back) h) (nobody_front group front back (All-tail (λ (f : Flying P). f.group ≢ group) one (front ++ back) h))

pub agree_advance : {P : Type 0} (group_of : ℕ → ℕ) (none : List ℕ) (m : Moment P) (s : Serial P) (group : ℕ) → Agrees group_of m s → Stands group m.flight → NobodyAt (group + 1) m.flight → Agrees group_of (moment_after none m (Advance group)) s
agree_advance {P} group_of none m s group a stands nobody =
    let front = stands.front in let one = stands.one in let back = stands.back in
    let there : Agrees group_of (record { flight = front ++ one ∷ back; rules = m.rules; contents = m.contents; calls = m.calls }) s =
    subst (λ (fs : List (Flying P)). Agrees group_of (record { flight = fs; rules = m.rules; contents = m.contents; calls = m.calls }) s) stands.split a in
    let above = falls_above m.rules.count front one back there.flight.falls in
    advance_split group_of m.rules m.contents m.calls s front one back (passed_group m.rules m.contents group m.flight) (calls_of_group m.rules group m.flight) there
    (nobody_front (one.group + 1) front (one ∷ back) (subst (λ fs. NobodyAt (one.group + 1) fs) stands.split (subst (λ g. NobodyAt (g + 1) m.flight) (sym stands.here) nobody)))
    (ap₂ (passed_group m.rules m.contents) (sym stands.here) stands.split ∙ group_passed m.rules m.contents front one back above)
    (ap₂ (calls_of_group m.rules) (sym stands.here) stands.split ∙ group_calls_of m.rules front one back above)

-- ---- a change

pub fill_past : (fill : Fill) (contents : Contents) (calls : List Call) → AreAt (λ a i. fill.test a i ≡ false) calls → all_made (filled fill contents) calls ≡ filled fill (all_made contents calls)
fill_past fill contents calls at = fun_ext (λ a. fun_ext (λ i. by a i (fill.test a i) refl))
  where
    by : (a i : ℕ) (b : Bool) → fill.test a i ≡ b → all_made (filled fill contents) calls a i ≡ cond b (fill.value a i) (all_made contents calls a i)
    by a i true e =
        all_made_off (λ x y. fill.test x y ≡ false) calls (filled fill contents) a i at (λ f. false≢true (sym f ∙ e))
        ∙ ap (λ b. cond b (fill.value a i) (contents a i)) e
    by a i false e = all_made_same calls (filled fill contents) contents a i (ap (λ b. cond b (fill.value a i) (contents a i)) e)

pub agree_change : {P : Type 0} (group_of : ℕ → ℕ) (none : List ℕ) (m : Moment P) (s : Serial P) (next : Stages P) (fill : Fill) → Agrees group_of m s → AreStaged group_of next → Avoids m.rules.now fill → Agrees group_of (moment_after none m (Change next fill)) (serial_after m.rules.count none s (Change next fill))
agree_change {P} group_of none m s next fill a staged avoids =
    let olds = filter is_old m.flight in
    let presents = filter is_present m.flight in
    let split = old_split m.flight a.flight.old_first in
    let mid = drain m.rules m.contents olds in
    let rules = committed m.rules next in
    let coming = drained m.rules mid presents in
    let Off : ℕ → ℕ → Type 0 = λ a i. fill.test a i ≡ false in
    let reach : All (Reaches Off rules) (map kept_now presents) = All-map (Reaches Off rules) kept_now presents (λ k d lt. record { at = λ g o le. avoids g (get_or presents k d).packet o }) in
    let same : drained rules (filled fill mid) (map kept_now presents) ≡ coming =
    drained_same Off rules (filled fill mid) mid (map kept_now presents) reach (record { same = λ x y off. ap (λ b. cond b (fill.value x y) (mid x y)) off })
    ∙ commit_drained m.rules next mid presents (all_present m.flight) in
    let off : AreAt Off coming = subst (AreAt Off) same (drained_at Off rules (filled fill mid) (map kept_now presents) reach) in
    record {
      some = a.some;
      now_staged = staged;
      old_staged = a.now_staged;
      flight = record {
        falls = falls_kept m.rules.count presents (falls_back m.rules.count olds presents (subst (Falls m.rules.count) split a.flight.falls));
        old_first = old_kept presents;
      };
      now = refl;
      contents =
          ap (all_made (filled fill mid)) same
          ∙ fill_past fill mid coming off
          ∙ ap (filled fill) (sym (drain_append m.rules m.contents olds presents) ∙ ap (drain m.rules m.contents) (sym split) ∙ a.contents);
      calls = λ array.
          ap (λ calls. filter (is_on array) ((m.calls ++ drained m.rules m.contents olds) ++ calls)) same
          ∙ ap (filter (is_on array))
          (append_assoc m.calls (drained m.rules m.contents olds) coming
          ∙ ap (λ calls. m.calls ++ calls) (sym (drained_append m.rules m.contents olds presents) ∙ ap (drained m.rules m.contents) (sym split)))
          ∙ a.calls array;
    }

-- ---- a show

pub agree_show : {P : Type 0} (group_of : ℕ → ℕ) (none : List ℕ) (m : Moment P) (s : Serial P) → Agrees group_of m s → Agrees group_of (moment_after none m Show) s
agree_show group_of none m s a = record {
  some = a.some;
  now_staged = a.now_staged;
  old_staged = a.old_staged;
  flight = record { falls = tt; old_first = tt };
  now = a.now;
  contents = a.contents;
  calls = λ array. ap (filter (is_on array)) (append-nil (m.calls ++ drained m.rules m.contents m.flight)) ∙ a.calls array;
}

-- with no packet in flight they are equal, and the registers are the serial run's
pub equal_at_end : {P : Type 0} (group_of : ℕ → ℕ) (m : Moment P) (s : Serial P) → Agrees group_of m s → m.flight ≡ [] → (m.contents ≡ s.contents) × ((array : ℕ) → filter (is_on array) m.calls ≡ filter (is_on array) s.calls)
equal_at_end group_of m s a e =
    let none : drained m.rules m.contents m.flight ≡ [] = ap (drained m.rules m.contents) e in (
      ap (all_made m.contents) (sym none) ∙ a.contents,
      λ array. ap (filter (is_on array)) (sym (append-nil m.calls) ∙ ap (λ calls. m.calls ++ calls) (sym none)) ∙ a.calls array,
    )

-- ---- all steps

pub agree_step : {P : Type 0} (group_of : ℕ → ℕ) (none : List ℕ) (m : Moment P) (s : Serial P) (step : Step P) → Agrees group_of m s → Meets group_of m step → Agrees group_of (moment_after none m step) (serial_after m.rules.count none s step)
agree_step group_of none m s (Enter packet) a meets = agree_enter group_of none m s packet a meets
agree_step group_of none m s (Advance group) a meets = agree_advance group_of none m s group a (somebody group m.flight meets.0) meets.1
agree_step group_of none m s (Change next fill) a meets = agree_change group_of none m s next fill a meets.0 meets.1
agree_step group_of none m s Show a meets = agree_show group_of none m s a

pub count_stays : {P : Type 0} (none : List ℕ) (m : Moment P) (step : Step P) → (moment_after none m step).rules.count ≡ m.rules.count
count_stays none m (Enter packet) = refl
count_stays none m (Advance group) = refl
count_stays none m (Change next fill) = refl
count_stays none m Show = refl

pub agree_all : {P : Type 0} (group_of : ℕ → ℕ) (none : List ℕ) (count : ℕ) (schedule : List (Step P)) (m : Moment P) (s : Serial P) → m.rules.count ≡ count → Agrees group_of m s → MeetAll group_of none m schedule → Agrees group_of (ran none m schedule) (ran_serial count none s schedule)
agree_all group_of none count [] m s c a meet = a
agree_all group_of none count (step ∷ steps) m s c a meet =
    agree_all group_of none count steps (moment_after none m step) (serial_after count none s step) (count_stays none m step ∙ c)
    (subst (λ n. Agrees group_of (moment_after none m step) (serial_after n none s step)) c (agree_step group_of none m s step a meet.0))
    meet.1

-- at each moment the calls on an array are a front of the serial run's
pub calls_in_front : {P : Type 0} (group_of : ℕ → ℕ) (m : Moment P) (s : Serial P) (array : ℕ) → Agrees group_of m s → IsFront (filter (is_on array) m.calls) (filter (is_on array) s.calls)
calls_in_front group_of m s array a = record {
  rest = filter (is_on array) (drained m.rules m.contents m.flight);
  whole = sym (filter-append (is_on array) m.calls (drained m.rules m.contents m.flight)) ∙ a.calls array;
}
