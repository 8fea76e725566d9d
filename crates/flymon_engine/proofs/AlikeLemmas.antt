-- Each step with packets in flight leads where the serial run does, once all have passed.
use Rattle.std.proofs.Common.{◌≡◌, ℕ, zero, suc, ◌+◌, ◌<◌, ◌≤◌, List, [], ◌∷◌, ◌++◌, length, map, filter, refl, ap, ap₂, sym, ◌∙◌, subst, arith, append_assoc}
use Rattle.std.specs.List.{All, range_with_len}
use Rattle.std.proofs.lemmas.List.{append-nil}
use Rattle.std.proofs.lemmas.List.Elements.{All-nil, All-cons, All-append, All-weaker, All-map, filter-append}
use Rattle.addr_translate.specs.Geometry.{Geometry, array_count, group_number}
use Rattle.addr_translate.proofs.GeometryLemmas.{ended_below}
use Rattle.pkt_headers.specs.declared.packets.Packet.{Packet}
use Rattle.reg_file.specs.declared.traits.Call.{Call}
use Rattle.reg_file.specs.Calls.{is_on}
use Rattle.pipe_flight.specs.Schedules.{AreAt}
use Rattle.sw_profile.specs.declared.profiles.Profile.{Profile}
use Rattle.switch_model.specs.Records.{Record}
use Rattle.switch_model.specs.Packets.{all_stands, calls_on, calls_of}
use Rattle.switch_model.proofs.ListLemmas.{all_back, all_flat}
use Rattle.switch_model.proofs.CallLemmas.{calls_there}
use Rattle.flymon_engine.specs.declared.work.Change.{Change}
use Rattle.flymon_engine.specs.Boards.{Aloft, Board, no_tasks}
use Rattle.flymon_engine.specs.Serial.{packet_move, change_move}
use Rattle.flymon_engine.specs.Flight.{entering, next_calls, moved_on, if_left, kept_now, is_kept, is_present, calls_left, calls_at, passed_at, with_flying, advanced, entered, settled, flight_change}
use Rattle.flymon_engine.specs.Schedules.{NobodyAt}
use Rattle.flymon_engine.proofs.AloftLemmas as aloft
use Rattle.flymon_engine.proofs.AloftLemmas.{InOrder, Stands, falls_above, kept_split, enter_stand, advance_stand, advance_nobody, commit_stand, nobody_calls, nobody_passed, nobody_front, passed_there}
use Rattle.flymon_engine.proofs.AheadLemmas.{From, IsAhead, left_append, left_kept, moved_order, moved_all_ahead}

-- the operations so far and those that are left come on each array in the order of the serial run, whose tasks are the same
pub record Alike (board : Board) (calls : List Call) (serial : Board) (serial_calls : List Call) : Type 0 where
  pub some : 0 < length board.profile.shape.groups
  pub stand : InOrder (length board.profile.shape.groups) board.flying
  pub ahead : All (IsAhead board.profile.shape) board.flying
  pub same : serial ≡ with_flying board []
  pub order : (array : ℕ) → filter (is_on array) (calls ++ calls_left board.flying) ≡ filter (is_on array) serial_calls

-- before any step
pub alike_first : (profile : Profile) → 0 < length profile.shape.groups → Alike (no_tasks profile) [] (no_tasks profile) []
alike_first profile some = record {
  some = some;
  stand = record { falls = tt; kept_first = tt };
  ahead = All-nil (IsAhead profile.shape);
  same = refl;
  order = λ array. refl;
}

-- ---- a packet enters

range_below : (from n : ℕ) → All (λ a. a < from + n) (range_with_len from n)
range_below from zero = All-nil (λ a. a < from + zero)
range_below from (suc n) =
    All-cons (λ a. a < from + suc n) from (range_with_len (from + 1) n) (omega arith)
    (All-weaker (λ a. a < from + 1 + n) (λ a. a < from + suc n) (λ a lt. omega arith) (range_with_len (from + 1) n) (range_below (from + 1) n))

-- its operations are on arrays that there are
pub calls_exist : (geometry : Geometry) (hash_key : List ℕ) (packet : Packet) (records : List Record) → AreAt (From geometry 0) (calls_of geometry hash_key packet records)
unfolding calls_of
calls_exist geometry hash_key packet records =
    let P : Call → Type 0 = λ call. From geometry 0 call.array call.addr in
    let on : ℕ → List Call = calls_on hash_key packet (all_stands records) in
    all_flat P on (range_with_len 0 (array_count geometry))
    (All-weaker (λ a. a < 0 + array_count geometry) (λ a. All P (on a))
    (λ a lt. All-weaker (λ (call : Call). call.array ≡ a) P
    (λ call there. (omega arith, subst (λ x. group_number geometry x < length geometry.groups) (sym there) (ended_below geometry.groups a (omega arith))))
    (on a) (calls_there hash_key packet (all_stands records) a))
    (range_with_len 0 (array_count geometry)) (range_below 0 (array_count geometry)))

pub left_entered : (flying : List Aloft) (calls : List Call) → calls_left (flying ++ entering calls ∷ []) ≡ calls_left flying ++ calls
left_entered flying calls = left_append flying (entering calls ∷ []) ∙ ap (λ cs. calls_left flying ++ cs) (append-nil calls)

pub same_entered : (board serial : Board) (packet : Packet) → serial ≡ with_flying board []
    → (packet_move serial packet).calls ≡ calls_of board.profile.shape board.profile.key packet board.records
same_entered board serial packet same = ap (λ (b : Board). (packet_move b packet).calls) same

pub alike_entered : (board : Board) (calls : List Call) (serial : Board) (serial_calls : List Call) (packet : Packet)
    → Alike board calls serial serial_calls → NobodyAt 0 board.flying
    → Alike (entered packet board).board (calls ++ (entered packet board).calls) (packet_move serial packet).board (serial_calls ++ (packet_move serial packet).calls)
alike_entered board calls serial serial_calls packet a nobody =
    let its : List Call = calls_of board.profile.shape board.profile.key packet board.records in
    let left : List Call = calls_left board.flying in
    record {
      some = a.some;
      stand = enter_stand (length board.profile.shape.groups) board.flying its a.some a.stand nobody;
      ahead = All-append (IsAhead board.profile.shape) board.flying (entering its ∷ []) a.ahead
          (All-cons (IsAhead board.profile.shape) (entering its) [] (calls_exist board.profile.shape board.profile.key packet board.records) (All-nil (IsAhead board.profile.shape)));
      same = ap (λ (b : Board). (packet_move b packet).board) a.same;
      order = λ array.
          ap₂ (λ xs ys. filter (is_on array) (xs ++ ys)) (append-nil calls) (left_entered board.flying its)
          ∙ ap (filter (is_on array)) (sym (append_assoc calls left its))
          ∙ filter-append (is_on array) (calls ++ left) its
          ∙ ap₂ (λ xs ys. xs ++ filter (is_on array) ys) (a.order array) (sym (same_entered board serial packet a.same))
          ∙ sym (filter-append (is_on array) serial_calls (packet_move serial packet).calls);
    }

-- ---- an advance

-- what a packet did in its group and what is left then are what was left
pub record Advances (geometry : Geometry) (group : ℕ) (flying : List Aloft) : Type 0 where
  pub stand : InOrder (length geometry.groups) (passed_at geometry group flying)
  pub ahead : All (IsAhead geometry) (passed_at geometry group flying)
  pub nobody : NobodyAt group (passed_at geometry group flying)
  pub order : (array : ℕ) → filter (is_on array) (calls_at geometry group flying ++ calls_left (passed_at geometry group flying)) ≡ filter (is_on array) (calls_left flying)

pub advances : (geometry : Geometry) (group : ℕ) (flying : List Aloft) → InOrder (length geometry.groups) flying → All (IsAhead geometry) flying
    → Stands group flying → NobodyAt (group + 1) flying → Advances geometry group flying
advances geometry group flying stand ahead stands nobody =
    subst (λ g. Advances geometry g flying) stands.here
    (subst (Advances geometry stands.one.group) (sym stands.split)
    (split stands.front stands.one stands.back (subst (InOrder (length geometry.groups)) stands.split stand) (subst (All (IsAhead geometry)) stands.split ahead)
    (subst (NobodyAt (stands.one.group + 1)) stands.split (subst (λ g. NobodyAt (g + 1) flying) (sym stands.here) nobody))))
  where
    split : (front : List Aloft) (one : Aloft) (back : List Aloft) → InOrder (length geometry.groups) (front ++ one ∷ back) → All (IsAhead geometry) (front ++ one ∷ back)
        → NobodyAt (one.group + 1) (front ++ one ∷ back) → Advances geometry one.group (front ++ one ∷ back)
    split front one back stand ahead nobody =
        let count : ℕ = length geometry.groups in
        let above : All (λ (f : Aloft). one.group + 1 ≤ f.group) front = falls_above count front one back stand.falls in
        let next : Aloft = moved_on geometry one in
        let passed : passed_at geometry one.group (front ++ one ∷ back) ≡ front ++ (if_left count next ++ back) = passed_there geometry front one back above in
        let made : calls_at geometry one.group (front ++ one ∷ back) ≡ next_calls geometry one = aloft.calls_there geometry front one back above in
        record {
          stand = subst (InOrder count) (sym passed) (advance_stand count front one next back refl refl stand (nobody_front (one.group + 1) front (one ∷ back) nobody));
          ahead = subst (All (IsAhead geometry)) (sym passed) (moved_all_ahead geometry front one back ahead);
          nobody = subst (NobodyAt one.group) (sym passed) (advance_nobody count count front one next back refl stand.falls);
          order = λ array.
              ap₂ (λ xs ys. filter (is_on array) (xs ++ calls_left ys)) made passed
              ∙ moved_order geometry front one back array above ahead;
        }

pub advances_none : (geometry : Geometry) (group : ℕ) (flying : List Aloft) → InOrder (length geometry.groups) flying → All (IsAhead geometry) flying
    → NobodyAt group flying → Advances geometry group flying
advances_none geometry group flying stand ahead nobody =
    let passed : passed_at geometry group flying ≡ flying = nobody_passed geometry group flying nobody in
    record {
      stand = subst (InOrder (length geometry.groups)) (sym passed) stand;
      ahead = subst (All (IsAhead geometry)) (sym passed) ahead;
      nobody = subst (NobodyAt group) (sym passed) nobody;
      order = λ array. ap₂ (λ xs ys. filter (is_on array) (xs ++ calls_left ys)) (nobody_calls geometry group flying nobody) passed;
    }

pub alike_advanced : (board : Board) (calls : List Call) (serial : Board) (serial_calls : List Call) (group : ℕ) → Alike board calls serial serial_calls
    → Advances board.profile.shape group board.flying
    → Alike (advanced group board).board (calls ++ (advanced group board).calls) serial serial_calls
alike_advanced board calls serial serial_calls group a does =
    let its : List Call = calls_at board.profile.shape group board.flying in
    let left : List Call = calls_left (passed_at board.profile.shape group board.flying) in
    record {
      some = a.some;
      stand = does.stand;
      ahead = does.ahead;
      same = a.same;
      order = λ array.
          ap (filter (is_on array)) (append_assoc calls its left)
          ∙ filter-append (is_on array) calls (its ++ left)
          ∙ ap (λ cs. filter (is_on array) calls ++ cs) (does.order array)
          ∙ sym (filter-append (is_on array) calls (calls_left board.flying))
          ∙ a.order array;
    }

-- ---- a change

-- what the kept ones had to do, and then what the present ones have
pub left_committed : (count : ℕ) (flying : List Aloft) → InOrder count flying
    → calls_left (filter is_kept flying) ++ calls_left (map kept_now (filter is_present flying)) ≡ calls_left flying
left_committed count flying stand =
    ap (λ calls. calls_left (filter is_kept flying) ++ calls) (left_kept (filter is_present flying))
    ∙ sym (left_append (filter is_kept flying) (filter is_present flying))
    ∙ ap (λ fs. calls_left fs) (sym (kept_split flying stand.kept_first))

pub committed_ahead : (geometry : Geometry) (count : ℕ) (flying : List Aloft) → InOrder count flying → All (IsAhead geometry) flying
    → All (IsAhead geometry) (map kept_now (filter is_present flying))
committed_ahead geometry count flying stand ahead =
    All-map (IsAhead geometry) kept_now (filter is_present flying)
    (all_back (IsAhead geometry) (filter is_kept flying) (filter is_present flying) (subst (All (IsAhead geometry)) (kept_split flying stand.kept_first) ahead))

pub alike_changed : (board : Board) (calls : List Call) (serial : Board) (serial_calls : List Call) (change : Change) → Alike board calls serial serial_calls
    → Alike (flight_change board change).board (calls ++ (flight_change board change).calls) (change_move serial change).board (serial_calls ++ (change_move serial change).calls)
alike_changed board calls serial serial_calls change a =
    let count : ℕ = length board.profile.shape.groups in
    let its : List Call = calls_left (filter is_kept board.flying) in
    let left : List Call = calls_left (map kept_now (filter is_present board.flying)) in
    record {
      some = a.some;
      stand = commit_stand count board.flying a.stand;
      ahead = committed_ahead board.profile.shape count board.flying a.stand a.ahead;
      same = ap (λ (b : Board). (change_move b change).board) a.same;
      order = λ array.
          ap (λ cs. filter (is_on array) ((calls ++ cs) ++ left)) (append-nil its)
          ∙ ap (filter (is_on array)) (append_assoc calls its left ∙ ap (λ cs. calls ++ cs) (left_committed count board.flying a.stand))
          ∙ a.order array
          ∙ ap (filter (is_on array)) (sym (append-nil serial_calls));
    }

-- ---- all pass

pub alike_settled : (board : Board) (calls : List Call) (serial : Board) (serial_calls : List Call) → Alike board calls serial serial_calls
    → Alike (settled board).board (calls ++ (settled board).calls) serial serial_calls
alike_settled board calls serial serial_calls a = record {
  some = a.some;
  stand = record { falls = tt; kept_first = tt };
  ahead = All-nil (IsAhead board.profile.shape);
  same = a.same;
  order = λ array. ap (filter (is_on array)) (append-nil (calls ++ calls_left board.flying)) ∙ a.order array;
}

-- the serial run makes no operation
pub alike_stayed : (board : Board) (calls : List Call) (serial : Board) (serial_calls : List Call) → Alike board calls serial serial_calls
    → Alike board calls serial (serial_calls ++ [])
alike_stayed board calls serial serial_calls a = subst (Alike board calls serial) (sym (append-nil serial_calls)) a
