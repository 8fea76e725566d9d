-- A run with packets in flight writes what the serial run writes, and makes the same operations on each array.
use Rattle.std.proofs.Common.{◌≡◌, ℕ, zero, suc, ◌+◌, min, Bool, true, false, cond, Option, List, [], ◌∷◌, ◌++◌, length, filter, refl, ap, ap₂, sym, ◌∙◌, subst, arith, append_assoc, add-one, ⊎_elim}
use Rattle.std.proofs.lemmas.List.{append-nil}
use Rattle.std.specs.Prelude.{◌&&◌, is_some, nat_lt}
use Rattle.capture_read.specs.declared.records.CaptureFault.{CaptureFault}
use Rattle.reg_file.specs.declared.traits.Call.{Call}
use Rattle.reg_file.specs.Calls.{is_on}
use Rattle.pkt_headers.specs.declared.packets.Packet.{Packet}
use Rattle.flymon_engine.specs.declared.work.Work.{Work}
use Rattle.flymon_engine.specs.declared.work.Work.TheVariants.{Take, Change, Ask}
use Rattle.flymon_engine.specs.Arrivals.{Arrival, Left}
use Rattle.flymon_engine.specs.Boards.{Board, lines_in}
use Rattle.flymon_engine.specs.Serial.{packet_move, serial_rules}
use Rattle.flymon_engine.specs.Flight.{advanced, advanced_below, entered, flight_pass, flight_rules}
use Rattle.flymon_engine.specs.Runs.{Run, packets_line, asked_by, taken_by, meets, pass_one, pass_first, passed, lines_of, done_by, step}
use Rattle.flymon_engine.specs.Going.{going, damage_met}
use Rattle.flymon_engine.specs.Endings.{beginning, finished}
use Rattle.flymon_engine.specs.Schedules.{NobodyAt}
use Rattle.flymon_engine.specs.Laws.{AreAlike, FlightIsSerial}
use Rattle.flymon_engine.proofs.AloftLemmas.{Stands, standing, nobody_behind}
use Rattle.flymon_engine.proofs.AlikeLemmas.{Alike, Advances, advances, advances_none, alike_entered, alike_advanced, alike_changed, alike_settled, alike_first}

-- ---- all packets pass one group each

pub record Below (n : ℕ) (board : Board) (calls : List Call) (serial : Board) (serial_calls : List Call) : Type 0 where
  pub alike : Alike (advanced_below n board).board (calls ++ (advanced_below n board).calls) serial serial_calls
  pub nobody : NobodyAt 0 (advanced_below n board).board.flying

one_group : (board : Board) (calls : List Call) (serial : Board) (serial_calls : List Call) (group : ℕ) → Alike board calls serial serial_calls
    → NobodyAt (group + 1) board.flying → Advances board.profile.shape group board.flying
one_group board calls serial serial_calls group a nobody =
    ⊎_elim
    (λ (none : NobodyAt group board.flying). advances_none board.profile.shape group board.flying a.stand a.ahead none)
    (λ (some : Stands group board.flying). advances board.profile.shape group board.flying a.stand a.ahead some nobody)
    (standing group board.flying)

-- the last group's first, and then nobody stands before the first group
pub all_below : (n : ℕ) (board : Board) (calls : List Call) (serial : Board) (serial_calls : List Call) → Alike board calls serial serial_calls
    → NobodyAt n board.flying → Below n board calls serial serial_calls
all_below zero board calls serial serial_calls a nobody = record {
  alike = subst (λ cs. Alike board cs serial serial_calls) (sym (append-nil calls)) a;
  nobody = nobody;
}
all_below (suc n) board calls serial serial_calls a nobody =
    let next : Board = (advanced n board).board in
    let its : List Call = (advanced n board).calls in
    let does : Advances board.profile.shape n board.flying = one_group board calls serial serial_calls n a (subst (λ g. NobodyAt g board.flying) (sym (add-one n)) nobody) in
    let rest : Below n next (calls ++ its) serial serial_calls =
    all_below n next (calls ++ its) serial serial_calls (alike_advanced board calls serial serial_calls n a does) does.nobody in
    record {
      alike = subst (λ cs. Alike (advanced_below n next).board cs serial serial_calls) (append_assoc calls its (advanced_below n next).calls) rest.alike;
      nobody = rest.nobody;
    }

-- and the next packet enters
pub alike_passed : (board : Board) (calls : List Call) (serial : Board) (serial_calls : List Call) (packet : Packet) → Alike board calls serial serial_calls
    → Alike (flight_pass board packet).board (calls ++ (flight_pass board packet).calls) (packet_move serial packet).board (serial_calls ++ (packet_move serial packet).calls)
alike_passed board calls serial serial_calls packet a =
    let count : ℕ = length board.profile.shape.groups in
    let below : Below count board calls serial serial_calls =
    all_below count board calls serial serial_calls a (nobody_behind count board.flying a.stand) in
    let next : Board = (advanced_below count board).board in
    let its : List Call = (advanced_below count board).calls in
    subst (λ cs. Alike (entered packet next).board cs (packet_move serial packet).board (serial_calls ++ (packet_move serial packet).calls))
    (append_assoc calls its [])
    (alike_entered next (calls ++ its) serial serial_calls packet below.alike below.nobody)

-- ---- runs

-- a run with packets in flight and the serial one: the same text, and the same packets that are still to come
pub record Follows (one two : Run) : Type 0 where
  pub text : one.text ≡ two.text
  pub left : one.left ≡ two.left
  pub alike : Alike one.board one.calls two.board two.calls

one_follows : (one two : Run) (arrival : Arrival) (rest : List Arrival) → Follows one two
    → Follows (pass_one flight_rules one arrival rest) (pass_one serial_rules two arrival rest)
one_follows one two arrival rest f = record {
  text = f.text;
  left = ap (λ (l : Left). (let left : Left = record { list = rest; fault = l.fault } in left)) f.left;
  alike = alike_passed one.board one.calls two.board two.calls arrival.packet f.alike;
}

first_follows : (one two : Run) (list : List Arrival) → Follows one two → Follows (pass_first flight_rules one list) (pass_first serial_rules two list)
first_follows one two [] f = f
first_follows one two (arrival ∷ rest) f = one_follows one two arrival rest f

passed_follows : (one two : Run) (k : ℕ) → Follows one two → Follows (passed flight_rules one k) (passed serial_rules two k)
unfolding passed
passed_follows one two zero f = f
passed_follows one two (suc k) f =
    let so_far : Follows (passed flight_rules one k) (passed serial_rules two k) = passed_follows one two k f in
    subst (λ list. Follows (pass_first flight_rules (passed flight_rules one k) (passed flight_rules one k).left.list) (pass_first serial_rules (passed serial_rules two k) list))
    (ap (λ (l : Left). l.list) so_far.left)
    (first_follows (passed flight_rules one k) (passed serial_rules two k) (passed flight_rules one k).left.list so_far)

done_follows : (one two : Run) (work : Work) → Follows one two → Follows (done_by flight_rules one work) (done_by serial_rules two work)
done_follows one two (Take count) f =
    subst (λ n. Follows (passed flight_rules one (taken_by one (Take count))) (passed serial_rules two n))
    (ap (λ (l : Left). min count (length l.list)) f.left) (passed_follows one two (taken_by one (Take count)) f)
done_follows one two (Change change) f = record {
  text = f.text;
  left = f.left;
  alike = alike_changed one.board one.calls two.board two.calls change f.alike;
}
done_follows one two (Ask request) f = record {
  text = f.text;
  left = f.left;
  alike = subst (Alike (done_by flight_rules one (Ask request)).board (done_by flight_rules one (Ask request)).calls two.board) (sym (append-nil two.calls))
      (alike_settled one.board one.calls two.board two.calls f.alike);
}

-- what is written rests on the tasks and on the packets that are still to come
lines_follow : (one two : Run) (work : Work) → Follows one two → lines_of flight_rules one work ≡ lines_of serial_rules two work
lines_follow one two (Take count) f = ap (λ (l : Left). packets_line (min count (length l.list))) f.left
lines_follow one two (Change change) f = ap (λ (b : Board). lines_in (serial_rules.verdict b change)) (sym f.alike.same)
lines_follow one two (Ask request) f = ap (λ (b : Board). lines_in (serial_rules.answer b request)) (sym f.alike.same)

step_follows : (one two : Run) (work : Work) → Follows one two → Follows (step flight_rules one work) (step serial_rules two work)
unfolding step
step_follows one two work f =
    let done : Follows (done_by flight_rules one work) (done_by serial_rules two work) = done_follows one two work f in
    record { text = ap₂ (λ x y. x ++ y) done.text (lines_follow one two work f); left = done.left; alike = done.alike }

meets_alike : (one two : Run) (work : Work) → Follows one two → meets one work ≡ meets two work
meets_alike one two work f = ap (λ (l : Left). is_some l.fault && nat_lt (length l.list) (asked_by work)) f.left

-- all packets that were left pass, and the next record is damaged
damage_follows : (one two : Run) (work : Work) → Follows one two → Follows (passed flight_rules one (taken_by one work)) (passed serial_rules two (taken_by two work))
damage_follows one two work f =
    subst (λ n. Follows (passed flight_rules one (taken_by one work)) (passed serial_rules two n))
    (ap (λ (l : Left). min (asked_by work) (length l.list)) f.left) (passed_follows one two (taken_by one work) f)

going_follows : (one two : Run) (works : List Work) → Follows one two → Follows (going flight_rules one works) (going serial_rules two works)
unfolding going
going_follows one two [] f = f
going_follows one two (work ∷ works) f =
    subst (λ b. Follows (cond (meets one work) (passed flight_rules one (taken_by one work)) (going flight_rules (step flight_rules one work) works))
    (cond b (passed serial_rules two (taken_by two work)) (going serial_rules (step serial_rules two work) works)))
    (meets_alike one two work f)
    (by (going_follows (step flight_rules one work) (step serial_rules two work) works (step_follows one two work f)) (meets one work))
  where
    by : Follows (going flight_rules (step flight_rules one work) works) (going serial_rules (step serial_rules two work) works) → (b : Bool)
        → Follows (cond b (passed flight_rules one (taken_by one work)) (going flight_rules (step flight_rules one work) works))
        (cond b (passed serial_rules two (taken_by two work)) (going serial_rules (step serial_rules two work) works))
    by rest true = damage_follows one two work f
    by rest false = rest

same_damage : (one two : Run) (works : List Work) → Follows one two → damage_met flight_rules one works ≡ damage_met serial_rules two works
unfolding damage_met
same_damage one two [] f = refl
same_damage one two (work ∷ works) f =
    ap₂ (λ b (fault : Option CaptureFault). cond b fault (damage_met flight_rules (step flight_rules one work) works)) (meets_alike one two work f) (ap (λ (l : Left). l.fault) f.left)
    ∙ ap (cond (meets two work) two.left.fault) (same_damage (step flight_rules one work) (step serial_rules two work) works (step_follows one two work f))

finished_follows : (one two : Run) → Follows one two → AreAlike (finished flight_rules one) (finished serial_rules two)
finished_follows one two f = record {
  text = f.text;
  tasks = ap (λ (b : Board). b.records) (sym f.alike.same);
  left = f.left;
  calls = λ array. f.alike.order array ∙ ap (filter (is_on array)) (sym (append-nil two.calls));
}

pub flight_is_serial : FlightIsSerial
flight_is_serial profile left works good =
    let start : Run = beginning profile left in
    let first : Follows start start = record { text = refl; left = refl; alike = alike_first profile (omega (arith, good.some_groups)) } in
    (same_damage start start works first, finished_follows (going flight_rules start works) (going serial_rules start works) (going_follows start start works first))
