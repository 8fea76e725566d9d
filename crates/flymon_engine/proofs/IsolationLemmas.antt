-- What a task answers rests on its sketch part, and that on its own history.
use Rattle.std.proofs.Common.{◌≡◌, ◌≤◌, ◌+◌, ℕ, zero, suc, Bool, true, false, List, [], ◌∷◌, ◌++◌, map, take, drop, length, filter, Option, None, option_map, cond, refl, sym, ap, ◌∙◌, subst, arith}
use Rattle.std.specs.List.{fold}
use Rattle.std.specs.Str.{bytes_eq}
use Rattle.std.proofs.lemmas.List.{length-drop}
use Rattle.std.proofs.lemmas.List.Sums.{fold-append}
use Rattle.std.proofs.lemmas.List.{map-append}
use Rattle.addr_translate.specs.Geometry.{Geometry}
use Rattle.readout.specs.declared.requests.Ask as asks
use Rattle.flymon_engine.specs.declared.work.Request.TheVariants.{Task}
use Rattle.readout.specs.PlacedTasks.{View}
use Rattle.readout.specs.Answers.{part_named, answer_if_live, task_answer}
use Rattle.sw_profile.specs.declared.profiles.Profile.{Profile}
use Rattle.switch_model.specs.Records.{Part, Record}
use Rattle.switch_model.specs.Packets.{join}
use Rattle.switch_model.specs.Histories.{Event, Passes, Changes, stepped, after, accepted, alone, alone_after, own_change, name_in, part_of}
use Rattle.switch_model.proofs.IsolationLemmas.{is_alone}
use Rattle.flymon_engine.specs.declared.work.Work.{Work}
use Rattle.flymon_engine.specs.declared.work.Work.TheVariants.{Take, Change, Ask}
use Rattle.flymon_engine.specs.Arrivals.{Arrival, Left}
use Rattle.flymon_engine.specs.Boards.{Board, lines_in}
use Rattle.flymon_engine.specs.Runs.{Run, passed, taken_by, step, carried}
use Rattle.rule_txn.specs.Seen.{part_shown, parts_shown, view_of}
use Rattle.flymon_engine.specs.Endings.{beginning}
use Rattle.flymon_engine.specs.Serial.{serial_rules, with_records, answer_on, request_verdict, state_of, answer_to}
use Rattle.flymon_engine.specs.Laws.{CountsAlone, AnswersAlone, events_of, history, is_own, own_history, lines_after}
use Rattle.flymon_engine.proofs.TakeLemmas.{take_next, drop_next, passed_next}

-- the part that is shown of a name is shown of the sketch part of that name
part_found : (hash_key name : List ℕ) (records : List Record)
    → part_named name (parts_shown hash_key records) ≡ option_map (part_shown hash_key) (part_of name records)
part_found hash_key name [] = refl
part_found hash_key name (r ∷ rs) = by (bytes_eq r.part.task.name name) refl (part_found hash_key name rs)
  where
    by : (b : Bool) → bytes_eq r.part.task.name name ≡ b → part_named name (parts_shown hash_key rs) ≡ option_map (part_shown hash_key) (part_of name rs)
        → part_named name (parts_shown hash_key (r ∷ rs)) ≡ option_map (part_shown hash_key) (part_of name (r ∷ rs))
    by true e rest = rw e refl
    by false e rest = rw e rest

answered : (hash_key name : List ℕ) (ask : asks.Ask) (view : View) (records : List Record)
    → answer_to hash_key (Task name ask) view (parts_shown hash_key records)
    ≡ answer_if_live (task_answer hash_key ask) (option_map (part_shown hash_key) (part_of name records))
unfolding answer_to
answered hash_key name ask view records = ap (answer_if_live (task_answer hash_key ask)) (part_found hash_key name records)

-- ---- the history of a run

-- packets that passed: these are left, and the others joined
record Passed (run : Run) (k : ℕ) : Type 0 where
  left : (passed serial_rules run k).left.list ≡ drop k run.left.list
  board : (passed serial_rules run k).board ≡ with_records run.board (after run.board.profile.shape run.board.records (map (λ (a : Arrival). Passes a.packet) (take k run.left.list)))

after_more : (geometry : Geometry) (records : List Record) (xs ys : List Event) → after geometry records (xs ++ ys) ≡ after geometry (after geometry records xs) ys
unfolding after
after_more geometry records xs ys = fold-append (stepped geometry) records xs ys

passed_all : (run : Run) (k : ℕ) → k ≤ length run.left.list → Passed run k
unfolding passed after
passed_all run zero h = record { left = refl; board = refl }
passed_all run (suc k) h = by (drop k run.left.list) refl (passed_all run k (omega arith))
  where
    by : (rest : List Arrival) → drop k run.left.list ≡ rest → Passed run k → Passed run (suc k)
    by [] e so_far = absurd (let n : length (drop k run.left.list) ≡ 0 = ap length e in omega (arith, length-drop k run.left.list, n))
    by (a ∷ rest) e so_far =
        let list : (passed serial_rules run k).left.list ≡ a ∷ rest = so_far.left ∙ e in
        let behind : drop (k + 1) run.left.list ≡ rest = drop_next k run.left.list rest a e in
        let front : take (k + 1) run.left.list ≡ take k run.left.list ++ a ∷ [] = take_next k run.left.list rest a e in
        let now = passed_next serial_rules run k a rest list in
        let geometry = run.board.profile.shape in let records = run.board.records in
        let f : Arrival → Event = λ x. Passes x.packet in
        let here = after geometry records (map f (take k run.left.list)) in
        let more : after geometry records (map f (take (k + 1) run.left.list)) ≡ join a.packet here =
        ap (λ l. after geometry records (map f l)) front ∙ (ap (after geometry records) (map-append f (take k run.left.list) (a ∷ []))
        ∙ after_more geometry records (map f (take k run.left.list)) (Passes a.packet ∷ [])) in
        let same : k + 1 ≡ suc k = omega arith in
        subst (λ (n : ℕ). Passed run n) same (record {
          left = ap (λ (r : Run). r.left.list) now ∙ sym behind;
          board = ap (λ (r : Run). r.board) now
              ∙ (ap (λ (b : Board). with_records b (join a.packet b.records)) so_far.board ∙ ap (with_records run.board) (sym more));
        })

step_board : (run : Run) (work : Work) → (step serial_rules run work).board ≡ with_records run.board (after run.board.profile.shape run.board.records (events_of run work))
unfolding step after
step_board run (Take count) = (passed_all run (taken_by run (Take count)) (omega arith)).board
step_board run (Change change) = refl
step_board run (Ask request) = refl

carried_board : (run : Run) (works : List Work)
    → (carried serial_rules run works).board ≡ with_records run.board (after run.board.profile.shape run.board.records (history run works))
unfolding carried history after
carried_board run [] = refl
carried_board run (work ∷ works) =
    let next = step serial_rules run work in
    let geometry = run.board.profile.shape in
    carried_board next works
    ∙ (ap (λ (b : Board). with_records b (after b.profile.shape b.records (history next works))) (step_board run work)
    ∙ ap (with_records run.board) (sym (after_more geometry run.board.records (events_of run work) (history next works))))

-- ---- other tasks are nothing to it

own_fold : (name : List ℕ) (part : Option Part) (events : List Event) → fold (alone_after name) part events ≡ fold (alone_after name) part (filter (is_own name) events)
own_fold name part [] = refl
own_fold name part (Passes packet ∷ events) = own_fold name (alone_after name part (Passes packet)) events
own_fold name part (Changes change ∷ events) =
    own_fold name (alone_after name part (Changes change)) events ∙ by (bytes_eq (name_in change) name) refl
  where
    by : (b : Bool) → bytes_eq (name_in change) name ≡ b → fold (alone_after name) (alone_after name part (Changes change)) (filter (is_own name) events)
        ≡ fold (alone_after name) part (cond b (Changes change ∷ filter (is_own name) events) (filter (is_own name) events))
    by true e = refl
    by false e = ap (λ p. fold (alone_after name) p (filter (is_own name) events)) (ap (λ t. cond t (own_change change part) part) e)

alone_own : (name : List ℕ) (events : List Event) → alone name events ≡ alone name (filter (is_own name) events)
unfolding alone
alone_own name events = own_fold name None events

pub counts_alone : CountsAlone
counts_alone profile left works name =
    let events = history (beginning profile left) works in
    ap (λ (b : Board). part_of name b.records) (carried_board (beginning profile left) works)
    ∙ (is_alone profile.shape name events ∙ alone_own name (accepted profile.shape [] events))

-- the lines of a read-out over a sketch part
abbrev lines_on : List ℕ → List ℕ → asks.Ask → Option Part → List ℕ
lines_on hash_key name ask part =
    lines_in (request_verdict (Task name ask) (answer_if_live (task_answer hash_key ask) (option_map (part_shown hash_key) part)))

lines_alone : (profile : Profile) (left : Left) (works : List Work) (name : List ℕ) (ask : asks.Ask)
    → lines_after profile left works name ask ≡ lines_on profile.key name ask (alone name (own_history name profile (beginning profile left) works))
lines_alone profile left works name ask =
    let records = after profile.shape [] (history (beginning profile left) works) in
    let there : Board = record { profile = profile; records = records; flying = [] } in
    ap (λ (b : Board). lines_in (request_verdict (Task name ask) (answer_on b (Task name ask)))) (carried_board (beginning profile left) works)
    ∙ (ap (λ a. lines_in (request_verdict (Task name ask) a)) (answered profile.key name ask (view_of (state_of there)) records)
    ∙ ap (lines_on profile.key name ask) (is_alone profile.shape name (history (beginning profile left) works)
    ∙ alone_own name (accepted profile.shape [] (history (beginning profile left) works))))

pub answers_alone : AnswersAlone
answers_alone one two left_one left_two works_one works_two name ask keys same =
    lines_alone one left_one works_one name ask
    ∙ (ap (λ h. lines_on one.key name ask (alone name h)) same
    ∙ (ap (λ (k : List ℕ). lines_on k name ask (alone name (own_history name two (beginning two left_two) works_two))) keys
    ∙ sym (lines_alone two left_two works_two name ask)))
