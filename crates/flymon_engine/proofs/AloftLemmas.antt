-- Packets in flight: before which groups they stand, and in which order.
use Rattle.std.proofs.Common.{◌≡◌, ◌≢◌, ℕ, ◌+◌, ◌<◌, ◌≤◌, ◌⊎◌, inl, inr, Bool, true, false, not, cond, List, [], ◌∷◌, ◌++◌, length, map, filter, refl, ap, sym, ◌∙◌, subst, arith, eq-eqb, ⊎_elim}
use Rattle.std.specs.Prelude.{◌==◌}
use Rattle.std.specs.List.{All}
use Rattle.std.proofs.lemmas.Bool.{false≢true, cases_eq}
use Rattle.std.proofs.lemmas.Bool.Decides.{nat_tests}
use Rattle.std.proofs.lemmas.List.{map-append}
use Rattle.std.proofs.lemmas.List.Elements.{All-nil, All-cons, All-head, All-tail, All-append}
use Rattle.addr_translate.specs.Geometry.{Geometry}
use Rattle.reg_file.specs.declared.traits.Call.{Call}
use Rattle.pipe_flight.specs.Orders.{OldFirst}
use Rattle.pipe_flight.proofs.OrderLemmas.{old_push, old_leave}
use Rattle.switch_model.proofs.ListLemmas.{all_front}
use Rattle.flymon_engine.specs.Boards.{Aloft}
use Rattle.flymon_engine.specs.Flight.{next_calls, entering, moved_on, if_left, kept_now, is_kept, is_present, calls_at, passed_at}
use Rattle.flymon_engine.specs.Schedules.{NobodyAt}

-- in order of entry the groups fall
abbrev pub Falls : ℕ → List Aloft → Type 0
Falls high [] = Unit {0}
Falls high (one ∷ others) = (one.group < high) × Falls one.group others

-- how packets stand before so many groups: no two before the same, and those that are kept came first
pub record InOrder (count : ℕ) (flying : List Aloft) : Type 0 where
  pub falls : Falls count flying
  pub kept_first : OldFirst (map is_kept flying)

-- some packet stands before the group
pub record Stands (group : ℕ) (flying : List Aloft) : Type 0 where
  pub front : List Aloft
  pub one : Aloft
  pub back : List Aloft
  pub split : flying ≡ front ++ one ∷ back
  pub here : one.group ≡ group

-- ---- groups fall

falls_wider : (low high : ℕ) (flying : List Aloft) → low ≤ high → Falls low flying → Falls high flying
falls_wider low high [] le f = tt
falls_wider low high (one ∷ others) le f = (omega (arith, f.0), f.1)

falls_back : (high : ℕ) (front back : List Aloft) → Falls high (front ++ back) → Falls high back
falls_back high [] back f = f
falls_back high (one ∷ front) back f = falls_wider one.group high back (omega (arith, f.0)) (falls_back one.group front back f.1)

pub falls_here : (high : ℕ) (front : List Aloft) (one : Aloft) (back : List Aloft) → Falls high (front ++ one ∷ back) → one.group < high
falls_here high [] one back f = f.0
falls_here high (first ∷ front) one back f = let below = falls_here first.group front one back f.1 in omega (arith, f.0, below)

-- those in front of a packet stand before later groups
pub falls_above : (high : ℕ) (front : List Aloft) (one : Aloft) (back : List Aloft) → Falls high (front ++ one ∷ back) → All (λ (f : Aloft). one.group + 1 ≤ f.group) front
falls_above high [] one back f = All-nil (λ (f : Aloft). one.group + 1 ≤ f.group)
falls_above high (first ∷ front) one back f =
    let below : one.group < first.group = falls_here first.group front one back f.1 in
    All-cons (λ (f : Aloft). one.group + 1 ≤ f.group) first front (omega arith) (falls_above first.group front one back f.1)

-- all below a group: nobody stands before it
falls_off : (high : ℕ) (flying : List Aloft) → Falls high flying → NobodyAt high flying
falls_off high [] f = All-nil (λ (f : Aloft). f.group ≢ high)
falls_off high (one ∷ flying) f =
    All-cons (λ (f : Aloft). f.group ≢ high) one flying (omega (arith, f.0)) (falls_off high flying (falls_wider one.group high flying (omega (arith, f.0)) f.1))

falls_enter : (high : ℕ) (flying : List Aloft) (calls : List Call) → 0 < high → Falls high flying → NobodyAt 0 flying → Falls high (flying ++ entering calls ∷ [])
falls_enter high [] calls lt f nobody = (lt, tt)
falls_enter high (one ∷ flying) calls lt f nobody =
    let here : one.group ≢ 0 = All-head (λ (f : Aloft). f.group ≢ 0) one flying nobody in
    (f.0, falls_enter one.group flying calls (omega arith) f.1 (All-tail (λ (f : Aloft). f.group ≢ 0) one flying nobody))

falls_move : (high : ℕ) (front : List Aloft) (one next : Aloft) (back : List Aloft) → next.group ≡ one.group + 1 → next.group < high → Falls high (front ++ one ∷ back)
    → NobodyAt (one.group + 1) front → Falls high (front ++ next ∷ back)
falls_move high [] one next back e lt f nobody = (lt, falls_wider one.group next.group back (omega arith) f.1)
falls_move high (first ∷ front) one next back e lt f nobody =
    let here : first.group ≢ one.group + 1 = All-head (λ (f : Aloft). f.group ≢ one.group + 1) first front nobody in
    let below : one.group < first.group = falls_here first.group front one back f.1 in
    (f.0, falls_move first.group front one next back e (omega arith) f.1 (All-tail (λ (f : Aloft). f.group ≢ one.group + 1) first front nobody))

falls_leave : (high : ℕ) (front : List Aloft) (one : Aloft) (back : List Aloft) → Falls high (front ++ one ∷ back) → Falls high (front ++ back)
falls_leave high [] one back f = falls_wider one.group high back (omega (arith, f.0)) f.1
falls_leave high (first ∷ front) one back f = (f.0, falls_leave first.group front one back f.1)

falls_kept : (high : ℕ) (flying : List Aloft) → Falls high flying → Falls high (map kept_now flying)
falls_kept high [] f = tt
falls_kept high (one ∷ flying) f = (f.0, falls_kept one.group flying f.1)

-- ---- kept packets first

kept_all : (flying : List Aloft) → OldFirst (map is_kept (map kept_now flying))
kept_all [] = tt
kept_all (one ∷ flying) = ((λ e. absurd (cc)), kept_all flying)

-- the kept ones, and then the present ones
pub kept_split : (flying : List Aloft) → OldFirst (map is_kept flying) → flying ≡ filter is_kept flying ++ filter is_present flying
kept_split [] h = refl
kept_split (one ∷ flying) h = by (kept_split flying h.1) one.kept refl
  where
    none_kept : (fs : List Aloft) → All (λ x. x ≡ false) (map is_kept fs) → filter is_kept fs ≡ []
    none_kept [] a = refl
    none_kept (f ∷ fs) a =
        ap (λ b. cond b (f ∷ filter is_kept fs) (filter is_kept fs)) (All-head (λ x. x ≡ false) f.kept (map is_kept fs) a)
        ∙ none_kept fs (All-tail (λ x. x ≡ false) f.kept (map is_kept fs) a)

    by : flying ≡ filter is_kept flying ++ filter is_present flying → (b : Bool) → one.kept ≡ b
        → one ∷ flying ≡ cond b (one ∷ filter is_kept flying) (filter is_kept flying) ++ cond (not b) (one ∷ filter is_present flying) (filter is_present flying)
    by rest true e = ap (λ fs. one ∷ fs) rest
    by rest false e =
        let none : filter is_kept flying ≡ [] = none_kept flying (h.0 e) in
        ap (λ fs. one ∷ fs) (rest ∙ ap (λ fs. fs ++ filter is_present flying) none) ∙ ap (λ fs. fs ++ (one ∷ filter is_present flying)) (sym none)

pub all_present : (flying : List Aloft) → All (λ (f : Aloft). f.kept ≡ false) (filter is_present flying)
all_present [] = All-nil (λ (f : Aloft). f.kept ≡ false)
all_present (one ∷ flying) = by (all_present flying) one.kept refl
  where
    by : All (λ (f : Aloft). f.kept ≡ false) (filter is_present flying) → (b : Bool) → one.kept ≡ b
        → All (λ (f : Aloft). f.kept ≡ false) (cond (not b) (one ∷ filter is_present flying) (filter is_present flying))
    by rest true e = rest
    by rest false e = All-cons (λ (f : Aloft). f.kept ≡ false) one (filter is_present flying) e rest

-- ---- who stands before a group

pub standing : (group : ℕ) (flying : List Aloft) → NobodyAt group flying ⊎ Stands group flying
standing group [] = inl (All-nil (λ (f : Aloft). f.group ≢ group))
standing group (one ∷ flying) =
    ⊎_elim
    (λ (here : one.group ≡ group). inr (record { front = []; one = one; back = flying; split = refl; here = here }))
    (λ (off : one.group ≢ group). ⊎_elim
    (λ (none : NobodyAt group flying). inl (All-cons (λ (f : Aloft). f.group ≢ group) one flying off none))
    (λ (rest : Stands group flying). inr (record { front = one ∷ rest.front; one = rest.one; back = rest.back; split = ap (λ fs. one ∷ fs) rest.split; here = rest.here }))
    (standing group flying))
    (cases_eq one.group group)

pub somebody : (group : ℕ) (flying : List Aloft) → (NobodyAt group flying → ⊥) → Stands group flying
somebody group flying some = ⊎_elim (λ (none : NobodyAt group flying). absurd (some none)) (λ (s : Stands group flying). s) (standing group flying)

-- where nobody stands before a group, an advance there is none
pub nobody_calls : (geometry : Geometry) (group : ℕ) (flying : List Aloft) → NobodyAt group flying → calls_at geometry group flying ≡ []
nobody_calls geometry group [] none = refl
nobody_calls geometry group (one ∷ flying) none =
    let off : one.group ≢ group = All-head (λ (f : Aloft). f.group ≢ group) one flying none in
    let other : (one.group == group) ≡ false = grind (arith, nat_tests) in
    ap (λ b. cond b (next_calls geometry one) (calls_at geometry group flying)) other
    ∙ nobody_calls geometry group flying (All-tail (λ (f : Aloft). f.group ≢ group) one flying none)

pub nobody_passed : (geometry : Geometry) (group : ℕ) (flying : List Aloft) → NobodyAt group flying → passed_at geometry group flying ≡ flying
nobody_passed geometry group [] none = refl
nobody_passed geometry group (one ∷ flying) none =
    let off : one.group ≢ group = All-head (λ (f : Aloft). f.group ≢ group) one flying none in
    let other : (one.group == group) ≡ false = grind (arith, nat_tests) in
    ap (λ b. cond b (if_left (length geometry.groups) (moved_on geometry one) ++ flying) (one ∷ passed_at geometry group flying)) other
    ∙ ap (λ fs. one ∷ fs) (nobody_passed geometry group flying (All-tail (λ (f : Aloft). f.group ≢ group) one flying none))

-- the one that stands there makes its next operations
pub calls_there : (geometry : Geometry) (front : List Aloft) (one : Aloft) (back : List Aloft) → All (λ (f : Aloft). one.group + 1 ≤ f.group) front
    → calls_at geometry one.group (front ++ one ∷ back) ≡ next_calls geometry one
calls_there geometry [] one back above = ap (λ b. cond b (next_calls geometry one) (calls_at geometry one.group back)) (eq-eqb one.group one.group refl)
calls_there geometry (first ∷ front) one back above =
    let up : one.group + 1 ≤ first.group = All-head (λ (f : Aloft). one.group + 1 ≤ f.group) first front above in
    let other : (first.group == one.group) ≡ false = grind (arith, nat_tests) in
    ap (λ b. cond b (next_calls geometry first) (calls_at geometry one.group (front ++ one ∷ back))) other
    ∙ calls_there geometry front one back (All-tail (λ (f : Aloft). one.group + 1 ≤ f.group) first front above)

-- and moves on
pub passed_there : (geometry : Geometry) (front : List Aloft) (one : Aloft) (back : List Aloft) → All (λ (f : Aloft). one.group + 1 ≤ f.group) front
    → passed_at geometry one.group (front ++ one ∷ back) ≡ front ++ (if_left (length geometry.groups) (moved_on geometry one) ++ back)
passed_there geometry [] one back above =
    ap (λ b. cond b (if_left (length geometry.groups) (moved_on geometry one) ++ back) (one ∷ passed_at geometry one.group back)) (eq-eqb one.group one.group refl)
passed_there geometry (first ∷ front) one back above =
    let up : one.group + 1 ≤ first.group = All-head (λ (f : Aloft). one.group + 1 ≤ f.group) first front above in
    let other : (first.group == one.group) ≡ false = grind (arith, nat_tests) in
    ap (λ b. cond b (if_left (length geometry.groups) (moved_on geometry first) ++ (front ++ one ∷ back)) (first ∷ passed_at geometry one.group (front ++ one ∷ back))) other
    ∙ ap (λ fs. first ∷ fs) (passed_there geometry front one back (All-tail (λ (f : Aloft). one.group + 1 ≤ f.group) first front above))

-- ---- how they stand after a step

pub enter_stand : (count : ℕ) (flying : List Aloft) (calls : List Call) → 0 < count → InOrder count flying → NobodyAt 0 flying → InOrder count (flying ++ entering calls ∷ [])
enter_stand count flying calls some s nobody = record {
  falls = falls_enter count flying calls some s.falls nobody;
  kept_first = subst OldFirst (sym (map-append is_kept flying (entering calls ∷ []))) (old_push (map is_kept flying) s.kept_first);
}

pub advance_stand : (count : ℕ) (front : List Aloft) (one next : Aloft) (back : List Aloft) → next.group ≡ one.group + 1 → next.kept ≡ one.kept
    → InOrder count (front ++ one ∷ back) → NobodyAt (one.group + 1) front → InOrder count (front ++ (if_left count next ++ back))
advance_stand count front one next back e k s nobody = by (next.group == count) refl
  where
    split : (x : Aloft) → map is_kept (front ++ x ∷ back) ≡ map is_kept front ++ x.kept ∷ map is_kept back
    split x = map-append is_kept front (x ∷ back)

    by : (b : Bool) → (next.group == count) ≡ b → InOrder count (front ++ (cond b [] (next ∷ []) ++ back))
    by true q = record {
      falls = falls_leave count front one back s.falls;
      kept_first = subst OldFirst (sym (map-append is_kept front back)) (old_leave (map is_kept front) one.kept (map is_kept back) (subst OldFirst (split one) s.kept_first));
    }
    by false q =
        let ne : next.group ≢ count = λ at. false≢true (sym q ∙ eq-eqb next.group count at) in
        let here : one.group < count = falls_here count front one back s.falls in
        record {
          falls = falls_move count front one next back e (omega arith) s.falls nobody;
          kept_first = subst OldFirst (split one ∙ ap (λ b. map is_kept front ++ b ∷ map is_kept back) (sym k) ∙ sym (split next)) s.kept_first;
        }

-- and then nobody stands before the group
pub advance_nobody : (count high : ℕ) (front : List Aloft) (one next : Aloft) (back : List Aloft) → next.group ≡ one.group + 1 → Falls high (front ++ one ∷ back)
    → NobodyAt one.group (front ++ (if_left count next ++ back))
advance_nobody count high [] one next back e f =
    All-append (λ (f : Aloft). f.group ≢ one.group) (if_left count next) back (by (next.group == count)) (falls_off one.group back f.1)
  where
    by : (b : Bool) → NobodyAt one.group (cond b [] (next ∷ []))
    by true = All-nil (λ (f : Aloft). f.group ≢ one.group)
    by false = All-cons (λ (f : Aloft). f.group ≢ one.group) next [] (omega arith) (All-nil (λ (f : Aloft). f.group ≢ one.group))
advance_nobody count high (first ∷ front) one next back e f =
    let below : one.group < first.group = falls_here first.group front one back f.1 in
    All-cons (λ (f : Aloft). f.group ≢ one.group) first (front ++ (if_left count next ++ back)) (omega arith) (advance_nobody count first.group front one next back e f.1)

pub commit_stand : (count : ℕ) (flying : List Aloft) → InOrder count flying → InOrder count (map kept_now (filter is_present flying))
commit_stand count flying s = record {
  falls = falls_kept count (filter is_present flying)
      (falls_back count (filter is_kept flying) (filter is_present flying) (subst (Falls count) (kept_split flying s.kept_first) s.falls));
  kept_first = kept_all (filter is_present flying);
}

-- nobody stands before the group behind the last
pub nobody_behind : (count : ℕ) (flying : List Aloft) → InOrder count flying → NobodyAt count flying
nobody_behind count flying s = falls_off count flying s.falls

pub nobody_front : (group : ℕ) (front back : List Aloft) → NobodyAt group (front ++ back) → NobodyAt group front
nobody_front group front back nobody = all_front (λ (f : Aloft). f.group ≢ group) front back nobody
