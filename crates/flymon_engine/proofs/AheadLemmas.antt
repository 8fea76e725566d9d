-- What packets in flight have still to do: on each array an advance leaves the order as it was.
use Rattle.std.proofs.Common.{◌≡◌, ◌≢◌, ℕ, ◌+◌, ◌<◌, ◌≤◌, Bool, true, false, not, cond, List, [], ◌∷◌, ◌++◌, length, map, filter, refl, ap, ap₂, sym, ◌∙◌, arith, eq-eqb, append_assoc}
use Rattle.std.specs.Prelude.{◌==◌, ◌&&◌}
use Rattle.std.specs.List.{All}
use Rattle.std.proofs.Math.Path.{fun_ext}
use Rattle.std.proofs.lemmas.Bool.{false≢true, eqb-true}
use Rattle.std.proofs.lemmas.List.{append-nil}
use Rattle.std.proofs.lemmas.List.Elements.{All-nil, All-cons, All-head, All-tail, All-append, All-weaker, All-filter, filter_passes, filter-append}
use Rattle.addr_translate.specs.Geometry.{Geometry, group_number}
use Rattle.stateful_ops.specs.Ops.{new_register}
use Rattle.reg_file.specs.declared.traits.Call.{Call}
use Rattle.reg_file.specs.Registers.{Contents}
use Rattle.reg_file.specs.Calls.{made, all_made, is_on}
use Rattle.pipe_flight.specs.Schedules.{AreAt}
use Rattle.pipe_flight.proofs.PlaceLemmas.{FromGroup, InGroup, order_by_array}
use Rattle.switch_model.proofs.ListLemmas.{all_front, all_back, all_here, all_and, flat_append, all_flat}
use Rattle.switch_model.proofs.CallLemmas.{filter_within, all_alike}
use Rattle.flymon_engine.specs.Boards.{Aloft}
use Rattle.flymon_engine.specs.Flight.{is_in, next_calls, later_calls, moved_on, if_left, kept_now, calls_left}

-- on a group from this one on
abbrev pub From : Geometry → ℕ → ℕ → ℕ → Type 0
From geometry low array addr = (low ≤ group_number geometry array) × (group_number geometry array < length geometry.groups)

-- all that a packet has still to do is in the group before which it stands, or behind it
abbrev pub IsAhead : Geometry → Aloft → Type 0
IsAhead geometry one = AreAt (From geometry one.group) one.calls

-- ---- all that is left

pub left_append : (front back : List Aloft) → calls_left (front ++ back) ≡ calls_left front ++ calls_left back
left_append front back = flat_append (λ (one : Aloft). one.calls) front back

pub left_kept : (flying : List Aloft) → calls_left (map kept_now flying) ≡ calls_left flying
left_kept [] = refl
left_kept (one ∷ flying) = ap (λ calls. one.calls ++ calls) (left_kept flying)

-- it is on groups behind the one that all its packets have passed
pub left_above : (geometry : Geometry) (low : ℕ) (flying : List Aloft) → All (λ (f : Aloft). low ≤ f.group) flying → All (IsAhead geometry) flying
    → AreAt (FromGroup (group_number geometry) low) (calls_left flying)
left_above geometry low flying above ahead =
    let P : Call → Type 0 = λ call. low ≤ group_number geometry call.array in
    all_flat P (λ (one : Aloft). one.calls) flying
    (All-weaker (λ (f : Aloft). (low ≤ f.group) × IsAhead geometry f) (λ (f : Aloft). All P f.calls)
    (λ f h. All-weaker (λ (call : Call). From geometry f.group call.array call.addr) P (λ call at. omega (arith, h.0, at.0)) f.calls h.1)
    flying (all_and (λ (f : Aloft). low ≤ f.group) (IsAhead geometry) flying above ahead))

-- ---- a packet's operations in its group, and those behind

next_in : (geometry : Geometry) (one : Aloft) → AreAt (InGroup (group_number geometry) one.group) (next_calls geometry one)
next_in geometry one =
    All-weaker (λ (call : Call). is_in geometry one.group call ≡ true) (λ (call : Call). group_number geometry call.array ≡ one.group)
    (λ call e. eqb-true (group_number geometry call.array) one.group e) (next_calls geometry one) (filter_passes (is_in geometry one.group) one.calls)

other_number : (a b : ℕ) → not (a == b) ≡ true → a ≢ b
other_number a b h e = false≢true (ap not (sym (eq-eqb a b e)) ∙ h)

pub moved_ahead : (geometry : Geometry) (one : Aloft) → IsAhead geometry one → IsAhead geometry (moved_on geometry one)
moved_ahead geometry one ahead =
    let other : Call → Bool = λ call. not (is_in geometry one.group call) in
    let P : Call → Type 0 = λ call. From geometry one.group call.array call.addr in
    All-weaker (λ (call : Call). P call × (other call ≡ true)) (λ (call : Call). From geometry (one.group + 1) call.array call.addr)
    (λ call h. let off : group_number geometry call.array ≢ one.group = other_number (group_number geometry call.array) one.group h.1 in (omega (arith, h.0.0, off), h.0.1))
    (later_calls geometry one)
    (all_and P (λ (call : Call). other call ≡ true) (later_calls geometry one) (All-filter other P one.calls ahead) (filter_passes other one.calls))

filter_none : {X : Type 0} (p q : X → Bool) → ((x : X) → p x ≡ true → q x ≡ false) → (xs : List X) → filter p (filter q xs) ≡ []
filter_none p q never [] = refl
filter_none {X} p q never (x ∷ xs) = by (filter_none p q never xs) (q x) (p x) refl refl
  where
    by : filter p (filter q xs) ≡ [] → (a b : Bool) → q x ≡ a → p x ≡ b → filter p (cond a (x ∷ filter q xs) (filter q xs)) ≡ []
    by rest true true e f = absurd (false≢true (sym (never x f) ∙ e))
    by rest true false e f = ap (λ (t : Bool). cond t (x ∷ filter p (filter q xs)) (filter p (filter q xs))) f ∙ rest
    by rest false b e f = rest

-- on each array they come in the order that they had
pub parted_order : (geometry : Geometry) (one : Aloft) (array : ℕ) → filter (is_on array) (next_calls geometry one ++ later_calls geometry one) ≡ filter (is_on array) one.calls
parted_order geometry one array =
    filter-append (is_on array) (next_calls geometry one) (later_calls geometry one) ∙ by (group_number geometry array == one.group) refl
  where
    there : (b : Bool) → (group_number geometry array == one.group) ≡ b → (call : Call) → is_on array call ≡ true → is_in geometry one.group call ≡ b
    there b e call on = ap (λ a. group_number geometry a == one.group) (eqb-true call.array array on) ∙ e

    by : (b : Bool) → (group_number geometry array == one.group) ≡ b
        → filter (is_on array) (next_calls geometry one) ++ filter (is_on array) (later_calls geometry one) ≡ filter (is_on array) one.calls
    by true e =
        ap₂ (λ xs ys. xs ++ ys)
        (filter_within (is_on array) (is_in geometry one.group) (there true e) one.calls)
        (filter_none (is_on array) (λ (call : Call). not (is_in geometry one.group call)) (λ call on. ap not (there true e call on)) one.calls)
        ∙ append-nil (filter (is_on array) one.calls)
    by false e =
        ap₂ (λ xs ys. xs ++ ys)
        (filter_none (is_on array) (is_in geometry one.group) (there false e) one.calls)
        (filter_within (is_on array) (λ (call : Call). not (is_in geometry one.group call)) (λ call on. ap not (there false e call on)) one.calls)

-- a packet behind the last group has none left
none_of : {X : Type 0} (P : X → Type 0) → ((x : X) → P x → ⊥) → (xs : List X) → All P xs → xs ≡ []
none_of P never [] all = refl
none_of P never (x ∷ xs) all = absurd (never x (All-head P x xs all))

left_if_left : (geometry : Geometry) (next : Aloft) (back : List Aloft) → IsAhead geometry next
    → calls_left (if_left (length geometry.groups) next ++ back) ≡ next.calls ++ calls_left back
left_if_left geometry next back ahead = by (next.group == length geometry.groups) refl
  where
    by : (b : Bool) → (next.group == length geometry.groups) ≡ b → calls_left (cond b [] (next ∷ []) ++ back) ≡ next.calls ++ calls_left back
    by true e =
        let at : next.group ≡ length geometry.groups = eqb-true next.group (length geometry.groups) e in
        ap (λ calls. calls ++ calls_left back)
        (sym (none_of (λ (call : Call). From geometry next.group call.array call.addr) (λ call h. omega (arith, h.0, h.1, at)) next.calls ahead))
    by false e = refl

-- ---- an advance

-- the packet's next operations come before those of all in front of it, which are on later groups
pub moved_order : (geometry : Geometry) (front : List Aloft) (one : Aloft) (back : List Aloft) (array : ℕ) → All (λ (f : Aloft). one.group + 1 ≤ f.group) front
    → All (IsAhead geometry) (front ++ one ∷ back)
    → filter (is_on array) (next_calls geometry one ++ calls_left (front ++ (if_left (length geometry.groups) (moved_on geometry one) ++ back)))
    ≡ filter (is_on array) (calls_left (front ++ one ∷ back))
moved_order geometry front one back array above ahead =
    let on : List Call → List Call = filter (is_on array) in
    let F : List Call = calls_left front in
    let N : List Call = next_calls geometry one in
    let L : List Call = later_calls geometry one in
    let B : List Call = calls_left back in
    let mine : IsAhead geometry one = all_here (IsAhead geometry) front back one ahead in
    let after : calls_left (front ++ (if_left (length geometry.groups) (moved_on geometry one) ++ back)) ≡ F ++ (L ++ B) =
    left_append front (if_left (length geometry.groups) (moved_on geometry one) ++ back)
    ∙ ap (λ calls. F ++ calls) (left_if_left geometry (moved_on geometry one) back (moved_ahead geometry one mine)) in
    let turned : on (N ++ F) ≡ on (F ++ N) =
    order_by_array (group_number geometry) one.group array N F (next_in geometry one)
    (left_above geometry (one.group + 1) front above (all_front (IsAhead geometry) front (one ∷ back) ahead)) in
    ap (λ calls. on (N ++ calls)) after
    ∙ ap on (sym (append_assoc N F (L ++ B)))
    ∙ filter-append (is_on array) (N ++ F) (L ++ B)
    ∙ ap (λ calls. calls ++ on (L ++ B)) turned
    ∙ sym (filter-append (is_on array) (F ++ N) (L ++ B))
    ∙ ap on (append_assoc F N (L ++ B) ∙ ap (λ calls. F ++ calls) (sym (append_assoc N L B)))
    ∙ filter-append (is_on array) F ((N ++ L) ++ B)
    ∙ ap (λ calls. on F ++ calls)
    (filter-append (is_on array) (N ++ L) B ∙ ap (λ calls. calls ++ on B) (parted_order geometry one array) ∙ sym (filter-append (is_on array) one.calls B))
    ∙ sym (filter-append (is_on array) F (one.calls ++ B))
    ∙ ap on (sym (left_append front (one ∷ back)))

pub moved_all_ahead : (geometry : Geometry) (front : List Aloft) (one : Aloft) (back : List Aloft) → All (IsAhead geometry) (front ++ one ∷ back)
    → All (IsAhead geometry) (front ++ (if_left (length geometry.groups) (moved_on geometry one) ++ back))
moved_all_ahead geometry front one back ahead =
    let next : Aloft = moved_on geometry one in
    let behind : All (IsAhead geometry) (one ∷ back) = all_back (IsAhead geometry) front (one ∷ back) ahead in
    let here : IsAhead geometry next = moved_ahead geometry one (All-head (IsAhead geometry) one back behind) in
    All-append (IsAhead geometry) front (if_left (length geometry.groups) next ++ back) (all_front (IsAhead geometry) front (one ∷ back) ahead)
    (All-append (IsAhead geometry) (if_left (length geometry.groups) next) back (by (next.group == length geometry.groups) here) (All-tail (IsAhead geometry) one back behind))
  where
    by : (b : Bool) → IsAhead geometry (moved_on geometry one) → All (IsAhead geometry) (cond b [] (moved_on geometry one ∷ []))
    by true here = All-nil (IsAhead geometry)
    by false here = All-cons (IsAhead geometry) (moved_on geometry one) [] here (All-nil (IsAhead geometry))

-- ---- registers

-- a register is what the operations on its array make of it
pub made_by_array : (contents : Contents) (calls : List Call) (array addr : ℕ) → all_made contents calls array addr ≡ all_made contents (filter (is_on array) calls) array addr
made_by_array contents [] array addr = refl
made_by_array contents (call ∷ calls) array addr = by (made_by_array (made contents call) calls array addr) (is_on array call) refl
  where
    by : all_made (made contents call) calls array addr ≡ all_made (made contents call) (filter (is_on array) calls) array addr → (b : Bool) → is_on array call ≡ b
        → all_made (made contents call) calls array addr ≡ all_made contents (cond b (call ∷ filter (is_on array) calls) (filter (is_on array) calls)) array addr
    by rest true e = rest
    by rest false e =
        rest
        ∙ all_alike (made contents call) contents (filter (is_on array) calls) array addr
        (ap (λ b. cond (b && call.addr == addr) (new_register call.op (contents array addr)) (contents array addr)) e)

-- so operations that are the same on each array leave the same
pub same_by_array : (contents : Contents) (one two : List Call) → ((array : ℕ) → filter (is_on array) one ≡ filter (is_on array) two)
    → all_made contents one ≡ all_made contents two
same_by_array contents one two same = fun_ext (λ array. fun_ext (λ addr.
    made_by_array contents one array addr
    ∙ ap (λ calls. all_made contents calls array addr) (same array)
    ∙ sym (made_by_array contents two array addr)))
