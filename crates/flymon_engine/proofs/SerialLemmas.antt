-- A switch carries out changes, packets and read-outs as the rules say.
use Rattle.std.proofs.Common.{◌≡◌, ◌≢◌, ◌<◌, ℕ, Bool, true, false, not, if◌then◌else◌, IsTrue, List, [], length, Option, None, Some, Result, Ok, Err, refl, sym, ap, ap₂, ◌∙◌, subst, arith, lit<}
use Rattle.std.specs.Prelude.{◌↔◌, IfOk, MatchResult}
use Rattle.std.specs.Str.{bytes_eq}
use Rattle.std.proofs.lemmas.Slice.Eq.{bytes_eq-Decides}
use Rattle.key_mask.specs.Masks.{no_lengths}
use Rattle.sketch_defs.specs.declared.tasks.TaskFault.TheVariants as task_faults
use Rattle.sketch_defs.specs.Tasks.{Sketch, allows_rows, allows, is_no_key, first_fault}
use Rattle.arrayvec.specs.ArrayString.{ArrayString}
use Rattle.addr_translate.specs.Geometry.{Geometry, IsGeometry, greatest_bits}
use Rattle.outside.specs.Told.{Told, Stays, Grows}
use Rattle.outside.specs.Sent.{Sends}
use Rattle.outside.proofs.ToldLemmas.{grows_none}
use Rattle.pkt_headers.specs.declared.packets.Packet.{Packet}
use Rattle.reg_file.specs.Registers.{Contents, Dims}
use Rattle.reg_file.specs.declared.traits.Call.{Call}
use Rattle.reg_file.specs.declared.traits.DeviceFault.{DeviceFault}
use Rattle.switch_model.specs.Records.{Record, outlines}
use Rattle.switch_model.specs.Changes as model
use Rattle.switch_model.specs.Changes.{Edit, Refusal, judged, changed, after_verdict}
use Rattle.switch_model.specs.Packets.{calls_of}
use Rattle.switch_model.specs.Laws.{IsProper, is_in, fresh_of, start_in, Refilled}
use Rattle.switch_model.specs.Sights.{Holding}
use Rattle.std.proofs.lemmas.List.Elements.{All-nil}
use Rattle.switch_model.proofs.JudgedLemmas.{remove_is, release_is}
use Rattle.pipe_core.specs.Rules.{IsShaped}
use Rattle.rule_txn.specs.declared.faults.ReleaseFault.{ReleaseFault}
use Rattle.rule_txn.specs.declared.faults.ReleaseFault.TheVariants as releases
use Rattle.rule_txn.specs.declared.faults.Unknown.{Unknown}
use Rattle.flymon_engine.specs.declared.serial.Serial.{Serial}
use Rattle.readout.specs.declared.requests.Ask.{Ask}
use Rattle.rule_txn.specs.Switch.{SwitchState}
use Rattle.rule_txn.specs.Changes.{Answers, remove_cause, release_cause}
use Rattle.rule_txn.specs.Fills.{Refills}
use Rattle.rule_txn.specs.Seen.{StandsFor, Passes, records_after, view_of, parts_shown}
use Rattle.rule_txn.proofs.BridgeChanges.{change_stands}
use Rattle.flymon_engine.specs.declared.work.Change.{Change}
use Rattle.flymon_engine.specs.declared.work.Change.TheVariants.{Add, Resize, Remove, Release}
use Rattle.flymon_engine.specs.Boards.{Board, Verdict, Accepted, Refused, lines_in, IsAccepted}
use Rattle.flymon_engine.specs.Works.{IsFilling, IsReading}
use Rattle.flymon_engine.specs.Moves as moves
use Rattle.flymon_engine.specs.Moves.{Moves, Changes}
use Rattle.flymon_engine.specs.ChangeLines.{change_of, done_line, denied_line, Tells}
use Rattle.flymon_engine.specs.Serial.{serial_rules, with_records, change_verdict, denied_request, request_verdict, answer_on, state_of, FitsSerial, IsSerial, EditsTo, answer_to}
use Rattle.flymon_engine.specs.declared.machine.AskFault.{AskFault}
use Rattle.flymon_engine.specs.declared.machine.AskFault.TheVariants as faults
use Rattle.readout.specs.declared.faults.ReadFault.{ReadFault}
use Rattle.readout.specs.declared.refusals.Stop.TheVariants.{Device, Write}
use Rattle.flymon_engine.specs.declared.work.Request.{Request}
use Rattle.flymon_engine.specs.declared.work.Request.TheVariants.{Task, Show, Stat}
use Rattle.readout.specs.Answers.{Answer, answer_by, task_answer}
use Rattle.readout.specs.Lines.{show_lines, stat_lines}
use Rattle.readout.specs.Outcomes.{Outcome, Judges, Replies}
use Rattle.readout.specs.PlacedTasks.{parts_in}
use Rattle.rule_txn.proofs.ShownLemmas.{parts_seen}

-- ---- lines

pub said_done : (change : Change) → 0 < length (done_line change)
said_done (Add task) = omega arith
said_done (Resize name size) = omega arith
said_done (Remove name) = omega arith
said_done (Release name) = omega arith

-- ---- what is kept of the shape

same_shape : {T F : Type 0} (cause : F → Option Refusal) (verdict : Result Edit Refusal) (made : Result T F) (old now : SwitchState)
    → Answers cause verdict made old now → (now.geometry ≡ old.geometry) × (now.hash_key ≡ old.hash_key)
same_shape cause (Ok edit) (Ok t) old now is = (ap (λ (s : SwitchState). s.geometry) is, ap (λ (s : SwitchState). s.hash_key) is)
same_shape cause (Ok edit) (Err fault) old now is = (ap (λ (s : SwitchState). s.geometry) is.1, ap (λ (s : SwitchState). s.hash_key) is.1)
same_shape cause (Err why) (Ok t) old now is = absurd is
same_shape cause (Err why) (Err fault) old now is = (ap (λ (s : SwitchState). s.geometry) is.1, ap (λ (s : SwitchState). s.hash_key) is.1)

unchanged : (geometry : Geometry) (records : List Record) (change : model.Change) (why : Refusal) → judged geometry (outlines records) change ≡ Err why
    → records ≡ changed geometry records change
unfolding changed
unchanged geometry records change why e = sym (ap (λ v. after_verdict v records) e)

-- ---- a change

-- the line of a change that was made or refused, or none where the device refused it
abbrev pub Says : {T F : Type 0} → (F → Option Refusal) → Change → Result T F → Result ArrayString DeviceFault → Type 0
Says cause change (Ok t) (Ok line) = line.bytes ≡ done_line change
Says cause change (Ok t) (Err e) = ⊥
Says cause change (Err fault) result = Tells (cause fault) change result

judged_by : (board : Board) (change : Change) (v : Result Edit Refusal) (line : List ℕ) → judged board.profile.shape (outlines board.records) (change_of change) ≡ v
    → lines_in (change_verdict change v) ≡ line → lines_in (serial_rules.verdict board change) ≡ line
judged_by board change v line e said = ap (λ v. lines_in (change_verdict change v)) e ∙ said

refused_by : (board : Board) (change : Change) (result : Result ArrayString DeviceFault) (after : SwitchState) (cause : Option Refusal) (why : Refusal)
    (calls0 calls1 : Option (List Call)) (new : Contents)
    → judged board.profile.shape (outlines board.records) (change_of change) ≡ Err why → cause ≡ Some why → Tells cause change result
    → Grows calls0 [] calls1 → IsSerial after board new → Changes serial_rules (IsSerial after) board change result calls0 calls1 new
refused_by board change (Ok line) after None why calls0 calls1 new e caused tells grew serial = absurd tells
refused_by board change (Ok line) after (Some other) why calls0 calls1 new e caused tells grew serial =
    let same : other ≡ why = cc in
    record {
      judged = judged_by board change (Err why) line.bytes e (ap (denied_line change) (sym same) ∙ sym tells);
      moves = record {
        stood = subst (λ rs. IsSerial after (with_records board rs) new) (unchanged board.profile.shape board.records (change_of change) why e) serial;
        made = grew;
      };
    }
refused_by board change (Err fault) after None why calls0 calls1 new e caused tells grew serial = absurd (cc)
refused_by board change (Err fault) after (Some other) why calls0 calls1 new e caused tells grew serial = absurd tells

spoiled_by : (board : Board) (change : Change) (result : Result ArrayString DeviceFault) (after : SwitchState) (cause : Option Refusal) (edit : Edit)
    (calls0 calls1 : Option (List Call)) (new : Contents) → (cause ≡ None → IsFilling change)
    → judged board.profile.shape (outlines board.records) (change_of change) ≡ Ok edit → cause ≡ None → Tells cause change result
    → Grows calls0 [] calls1 → IsSerial after board new → Changes serial_rules (IsSerial after) board change result calls0 calls1 new
spoiled_by board change (Ok line) after None edit calls0 calls1 new filling e caused tells grew serial = absurd tells
spoiled_by board change (Ok line) after (Some other) edit calls0 calls1 new filling e caused tells grew serial = absurd (cc)
spoiled_by board change (Err fault) after (Some other) edit calls0 calls1 new filling e caused tells grew serial = absurd tells
spoiled_by board change (Err fault) after None edit calls0 calls1 new filling e caused tells grew serial = record {
  accepted = subst (λ v. IsAccepted (change_verdict change v)) (sym e) tt;
  filling = filling refl;
  said = subst (λ v. 0 < length (lines_in (change_verdict change v))) (sym e) (said_done change);
  part = 0;
  less = lit< tt;
  moves = record { stood = serial; made = grew };
}

pub serial_change : {T F : Type 0} (cause : F → Option Refusal) (board : Board) (change : Change) (made : Result T F) (result : Result ArrayString DeviceFault)
    (before after : SwitchState) (old new : Contents) (calls0 calls1 : Option (List Call)) → IsGeometry before.geometry → IsProper (change_of change)
    → ((fault : F) → cause fault ≡ None → IsFilling change)
    → Answers cause (judged before.geometry before.outlines (change_of change)) made before after
    → Refills (judged before.geometry before.outlines (change_of change)) made old new → Stays calls0 calls1 → Says cause change made result
    → IsSerial before board old → Changes serial_rules (IsSerial after) board change result calls0 calls1 new
serial_change {T} {F} cause board change made result before after old new calls0 calls1 limits proper filling answers refills stays says serial =
    by (judged board.profile.shape (outlines board.records) (change_of change)) refl made result
    (subst (λ v. Answers cause v made before after) same answers) says
    (record {
      geometry = shape.0 ∙ serial.geometry;
      hash_key = shape.1 ∙ serial.hash_key;
      stands = subst (λ g. StandsFor after (records_after made g (change_of change) board.records) new) serial.geometry
          (change_stands cause (change_of change) made before after board.records old new limits proper answers refills serial.stands);
    })
  where
    same : judged before.geometry before.outlines (change_of change) ≡ judged board.profile.shape (outlines board.records) (change_of change)
    same = ap₂ (λ g os. judged g os (change_of change)) serial.geometry serial.stands.same

    shape : (after.geometry ≡ before.geometry) × (after.hash_key ≡ before.hash_key)
    shape = same_shape cause (judged before.geometry before.outlines (change_of change)) made before after answers

    by : (v : Result Edit Refusal) → judged board.profile.shape (outlines board.records) (change_of change) ≡ v → (made : Result T F)
        → (result : Result ArrayString DeviceFault) → Answers cause v made before after → Says cause change made result
        → IsSerial after (with_records board (records_after made board.profile.shape (change_of change) board.records)) new
        → Changes serial_rules (IsSerial after) board change result calls0 calls1 new
    by (Ok edit) e (Ok t) (Ok line) is says serial = record {
      judged = judged_by board change (Ok edit) line.bytes e (sym says);
      moves = record { stood = serial; made = grows_none calls0 calls1 stays };
    }
    by (Ok edit) e (Ok t) (Err fault) is says serial = absurd says
    by (Ok edit) e (Err fault) result is says serial =
        spoiled_by board change result after (cause fault) edit calls0 calls1 new (filling fault) e is.0 says (grows_none calls0 calls1 stays) serial
    by (Err why) e (Ok t) result is says serial = absurd is
    by (Err why) e (Err fault) result is says serial =
        refused_by board change result after (cause fault) why calls0 calls1 new e is.0 says (grows_none calls0 calls1 stays) serial

-- ---- a packet

pub serial_passed : (board : Board) (switch : SwitchState) (packet : Packet) (old new : Contents) (calls0 calls1 : Option (List Call))
    → (StandsFor switch board.records old → Passes switch packet board.records new calls0 calls1)
    → IsSerial switch board old → Moves (IsSerial switch) (serial_rules.pass board packet) calls0 calls1 new
serial_passed board switch packet old new calls0 calls1 passes serial =
    let is : Passes switch packet board.records new calls0 calls1 = passes serial.stands in
    record {
      stood = record { geometry = serial.geometry; hash_key = serial.hash_key; stands = is.stands };
      made = subst (λ g. Grows calls0 (calls_by g board.profile.key) calls1) serial.geometry
          (subst (λ k. Grows calls0 (calls_by switch.geometry k) calls1) serial.hash_key is.calls);
    }
  where
    calls_by : Geometry → List ℕ → List Call
    calls_by geometry key = calls_of geometry key packet board.records

-- ---- a read-out

-- the switch is what a switch keeps of the board
state_is : (board : Board) (switch : SwitchState) (cells : Contents) → IsSerial switch board cells → switch ≡ state_of board
state_is board switch cells serial =
    ap (λ g. let s : SwitchState = record { geometry = g; hash_key = switch.hash_key; outlines = switch.outlines } in s) serial.geometry
    ∙ (ap (λ k. let s : SwitchState = record { geometry = board.profile.shape; hash_key = k; outlines = switch.outlines } in s) serial.hash_key
    ∙ ap (λ os. let s : SwitchState = record { geometry = board.profile.shape; hash_key = board.profile.key; outlines = os } in s) serial.stands.same)

abbrev answer_over : SwitchState → Request → Contents → Answer
answer_over switch request cells = answer_to switch.hash_key request (view_of switch) (parts_in cells (view_of switch))

-- what the registers answer is what the tasks do
answer_is : (board : Board) (request : Request) (switch : SwitchState) (cells : Contents) → IsSerial switch board cells
    → answer_over switch request cells ≡ answer_on board request
answer_is board request switch cells serial =
    ap (answer_to switch.hash_key request (view_of switch)) (parts_seen switch board.records cells serial.stands)
    ∙ ap (λ (s : SwitchState). answer_to s.hash_key request (view_of s) (parts_shown s.hash_key board.records)) (state_is board switch cells serial)

-- how a read-out ended, as the machine tells it
abbrev pub Ends : Request → Outcome → Result (Option ArrayString) AskFault → Type 0
Ends request (Ok (Ok x)) (Ok None) = Unit {0}
Ends request (Ok (Err why)) (Ok (Some line)) = line.bytes ≡ denied_request request why
Ends request (Err Device) (Err faults.Device) = IsReading request
Ends request (Err Write) (Err faults.Write) = Unit {0}
Ends request _ _ = ⊥

replied : (request : Request) (answer : Answer) (outcome : Outcome) (result : Result (Option ArrayString) AskFault) (sent0 sent1 : Option (List ℕ))
    → Judges answer sent0 outcome sent1 → IfOk answer (λ lines. Sends sent0 lines outcome sent1) → Ends request outcome result
    → moves.Answers request (request_verdict request answer) result sent0 sent1
replied request (Ok lines) (Ok (Ok x)) (Ok None) sent0 sent1 judged sends ends = record { lines = lines; is = refl; grows = sends }
replied request (Ok lines) (Ok (Ok x)) (Ok (Some line)) sent0 sent1 judged sends ends = absurd ends
replied request (Ok lines) (Ok (Ok x)) (Err e) sent0 sent1 judged sends ends = absurd ends
replied request (Ok lines) (Ok (Err why)) result sent0 sent1 judged sends ends = absurd judged
replied request (Ok lines) (Err Device) (Ok r) sent0 sent1 judged sends ends = absurd ends
replied request (Ok lines) (Err Device) (Err faults.Device) sent0 sent1 judged sends ends = (ends, record { lines = lines; is = refl; part = sends })
replied request (Ok lines) (Err Device) (Err faults.Write) sent0 sent1 judged sends ends = absurd ends
replied request (Ok lines) (Err Write) (Ok r) sent0 sent1 judged sends ends = absurd ends
replied request (Ok lines) (Err Write) (Err faults.Device) sent0 sent1 judged sends ends = absurd ends
replied request (Ok lines) (Err Write) (Err faults.Write) sent0 sent1 judged sends ends = record { lines = lines; is = refl; part = sends }
replied request (Err why) outcome result sent0 sent1 judged sends ends =
    by result (subst (λ o. Ends request o result) judged.0 ends)
  where
    by : (result : Result (Option ArrayString) AskFault) → Ends request (Ok (Err why)) result → moves.Answers request (request_verdict request (Err why)) result sent0 sent1
    by (Ok None) ends = absurd ends
    by (Ok (Some line)) ends = record { is = ap Refused (sym ends); stays = judged.1 }
    by (Err e) ends = absurd ends

pub serial_asked : (request : Request) (switch : SwitchState) (cells0 cells1 : Option Contents) (sent0 sent1 : Option (List ℕ)) (outcome : Outcome)
    (result : Result (Option ArrayString) AskFault) → Stays cells0 cells1
    → Replies (λ told. answer_to switch.hash_key request (view_of switch) (parts_in told (view_of switch))) cells1 sent0 outcome sent1
    → Ends request outcome result → (board : Board)
    → Told (λ old new. IsSerial switch board old → moves.Answers request (serial_rules.answer board request) result sent0 sent1) cells0 cells1
serial_asked request switch None None sent0 sent1 outcome result stays replies ends board = tt
serial_asked request switch (Some old) None sent0 sent1 outcome result stays replies ends board = tt
serial_asked request switch None (Some new) sent0 sent1 outcome result stays replies ends board = absurd stays
serial_asked request switch (Some old) (Some new) sent0 sent1 outcome result stays replies ends board = λ serial.
    subst (λ a. moves.Answers request (request_verdict request a) result sent0 sent1)
    (answer_is board request switch new (subst (IsSerial switch board) (sym stays) serial))
    (replied request (answer_over switch request new) outcome result sent0 sent1 (replies.verdict new) replies.sent ends)

-- lines for which no register is read
abbrev pub ToldBy : Result (Unit {0}) ReadFault → Result (Option ArrayString) AskFault → Type 0
ToldBy sent result = MatchResult sent (λ x. result ≡ Ok None) (λ e. result ≡ Err faults.Write)

lines_sent : (request : Request) (verdict : Verdict) (lines : List ℕ) (made : Result (Unit {0}) ReadFault) (result : Result (Option ArrayString) AskFault)
    (sent0 sent1 : Option (List ℕ)) → verdict ≡ Accepted lines → Sends sent0 lines made sent1 → ToldBy made result → moves.Answers request verdict result sent0 sent1
lines_sent request verdict lines (Ok x) result sent0 sent1 is sends told =
    subst (λ r. moves.Answers request verdict r sent0 sent1) (sym told) (record { lines = lines; is = is; grows = sends })
lines_sent request verdict lines (Err e) result sent0 sent1 is sends told =
    subst (λ r. moves.Answers request verdict r sent0 sent1) (sym told) (record { lines = lines; is = is; part = sends })

pub told_here : {A : Type 0} (R : A → A → Type 0) (cells : Option A) → ((a : A) → R a a) → Told R cells cells
told_here R None all = tt
told_here R (Some a) all = all a

show_is : (board : Board) (switch : SwitchState) (cells : Contents) → IsSerial switch board cells
    → serial_rules.answer board Show ≡ Accepted (show_lines (view_of switch))
unfolding answer_to
show_is board switch cells serial = ap (λ s. Accepted (show_lines (view_of s))) (sym (state_is board switch cells serial))

stat_is : (board : Board) (switch : SwitchState) (cells : Contents) → IsSerial switch board cells
    → serial_rules.answer board Stat ≡ Accepted (stat_lines (view_of switch))
unfolding answer_to
stat_is board switch cells serial = ap (λ s. Accepted (stat_lines (view_of s))) (sym (state_is board switch cells serial))

pub serial_shown : (switch : SwitchState) (cells : Option Contents) (sent0 sent1 : Option (List ℕ)) (made : Result (Unit {0}) ReadFault)
    (result : Result (Option ArrayString) AskFault) → Sends sent0 (show_lines (view_of switch)) made sent1 → ToldBy made result → (board : Board)
    → Told (λ old new. IsSerial switch board old → moves.Answers Show (serial_rules.answer board Show) result sent0 sent1) cells cells
serial_shown switch cells sent0 sent1 made result sends told board =
    told_here (λ old new. IsSerial switch board old → moves.Answers Show (serial_rules.answer board Show) result sent0 sent1) cells
    (λ d serial. lines_sent Show (serial_rules.answer board Show) (show_lines (view_of switch)) made result sent0 sent1 (show_is board switch d serial) sends told)

pub serial_counted : (switch : SwitchState) (cells : Option Contents) (sent0 sent1 : Option (List ℕ)) (made : Result (Unit {0}) ReadFault)
    (result : Result (Option ArrayString) AskFault) → Sends sent0 (stat_lines (view_of switch)) made sent1 → ToldBy made result → (board : Board)
    → Told (λ old new. IsSerial switch board old → moves.Answers Stat (serial_rules.answer board Stat) result sent0 sent1) cells cells
serial_counted switch cells sent0 sent1 made result sends told board =
    told_here (λ old new. IsSerial switch board old → moves.Answers Stat (serial_rules.answer board Stat) result sent0 sent1) cells
    (λ d serial. lines_sent Stat (serial_rules.answer board Stat) (stat_lines (view_of switch)) made result sent0 sent1 (stat_is board switch d serial) sends told)

-- ---- calls of the switch

-- how a change ended tells of the registers what its line does
same_fills : {T F : Type 0} (cause : F → Option Refusal) (change : Change) (v : Result Edit Refusal) (made : Result T F) (result : Result ArrayString DeviceFault)
    (before after : SwitchState) (old new : Contents) → Answers cause v made before after → Says cause change made result
    → Refills v made old new ↔ Refills v result old new
same_fills cause change (Ok edit) (Ok t) (Ok line) before after old new is says = (λ fills. fills, λ fills. fills)
same_fills cause change (Ok edit) (Ok t) (Err e) before after old new is says = absurd says
same_fills cause change (Ok edit) (Err fault) (Ok line) before after old new is says = absurd (subst (λ why. Tells why change (Ok line)) is.0 says)
same_fills cause change (Ok edit) (Err fault) (Err e) before after old new is says = (λ fills. fills, λ fills. fills)
same_fills cause change (Err why) made result before after old new is says = (λ fills. fills, λ fills. fills)

-- a change that was carried out by this call filled the registers so
pub serial_fills : {T F : Type 0} (cause : F → Option Refusal) (change asked : Change) → change ≡ asked → (made : Result T F) (result : Result ArrayString DeviceFault)
    (before after : SwitchState) (old new : Contents) → Answers cause (judged before.geometry before.outlines (change_of asked)) made before after → Says cause change made result
    → Refills (judged before.geometry before.outlines (change_of asked)) made old new → Refills (judged before.geometry before.outlines (change_of change)) result old new
serial_fills cause change asked is made result before after old new answers says fills =
    subst (λ c. Refills (judged before.geometry before.outlines (change_of c)) result old new) (sym is)
    ((same_fills cause change (judged before.geometry before.outlines (change_of asked)) made result before after old new answers says).0 fills)

-- and is one of the rules
pub serial_edits : {T F : Type 0} (cause : F → Option Refusal) (change asked : Change) → change ≡ asked → (made : Result T F) (result : Result ArrayString DeviceFault)
    (before after : SwitchState) (calls0 calls1 : Option (List Call)) → IsGeometry before.geometry → IsProper (change_of asked) → ((fault : F) → cause fault ≡ None → IsFilling asked)
    → Answers cause (judged before.geometry before.outlines (change_of asked)) made before after → Stays calls0 calls1 → Says cause change made result
    → EditsTo before after change result calls0 calls1
serial_edits cause change asked is made result before after calls0 calls1 limits proper filling answers stays says =
    subst (λ c. EditsTo before after c result calls0 calls1) (sym is)
    (record {
      geometry = shape.0;
      hash_key = shape.1;
      over = λ board old new fills serial.
          serial_change cause board asked made result before after old new calls0 calls1 limits proper filling answers
          ((same_fills cause asked (judged before.geometry before.outlines (change_of asked)) made result before after old new answers told).1 fills) stays told serial;
    })
  where
    shape : (after.geometry ≡ before.geometry) × (after.hash_key ≡ before.hash_key)
    shape = same_shape cause (judged before.geometry before.outlines (change_of asked)) made before after answers

    told : Says cause asked made result
    told = subst (λ c. Says cause c made result) is says

not_filled : (value : ℕ) (cells : Contents) → Refilled [] value cells cells
not_filled value cells = record {
  filled = All-nil (λ (h : Holding). (addr : ℕ) → is_in h.array addr h ≡ true → cells h.array addr ≡ value);
  others = λ array addr out. refl;
}

-- a change that takes no registers leaves them as they are
none_filled : {T F : Type 0} (v : Result Edit Refusal) (made : Result T F) (cells : Contents) → ((edit : Edit) → v ≡ Ok edit → Refilled (fresh_of edit) (start_in edit) cells cells)
    → Refills v made cells cells
none_filled (Ok edit) (Ok t) cells fills = fills edit refl
none_filled (Ok edit) (Err fault) cells fills = λ array addr out. refl
none_filled (Err why) made cells fills = λ array addr out. refl

pub remove_fills : {T F : Type 0} (state : SwitchState) (name : List ℕ) (made : Result T F) (cells : Contents)
    → Refills (judged state.geometry state.outlines (model.Remove name)) made cells cells
remove_fills state name made cells = none_filled (judged state.geometry state.outlines (model.Remove name)) made cells
    (λ edit e. subst (λ (x : Edit). Refilled (fresh_of x) (start_in x) cells cells) (sym (remove_is state.geometry state.outlines name edit e).is) (not_filled 0 cells))

pub release_fills : {T F : Type 0} (state : SwitchState) (name : List ℕ) (made : Result T F) (cells : Contents)
    → Refills (judged state.geometry state.outlines (model.Release name)) made cells cells
release_fills state name made cells = none_filled (judged state.geometry state.outlines (model.Release name)) made cells
    (λ edit e. subst (λ (x : Edit). Refilled (fresh_of x) (start_in x) cells cells) (sym (release_is state.geometry state.outlines name edit e).is) (not_filled 0 cells))

-- a device fault of these cannot be
pub remove_caused : (change : Change) (fault : Unknown) → remove_cause fault ≡ None → IsFilling change
remove_caused change fault e = absurd (cc)

pub release_caused : (change : Change) (fault : ReleaseFault) → release_cause fault ≡ None → IsFilling change
release_caused change releases.Unknown e = absurd (cc)
release_caused change releases.NoFrozen e = absurd (cc)

-- the machine fits the registers as it did
pub still_fits : {T F : Type 0} (cause : F → Option Refusal) (verdict : Result Edit Refusal) (made : Result T F) (serial : Serial) (now : SwitchState) (dims dims' : Dims)
    → Answers cause verdict made serial.switch now → dims' ≡ dims → FitsSerial serial dims → FitsSerial (record serial { switch = now }) dims'
still_fits cause verdict made serial now dims dims' answers same fits =
    let shape = same_shape cause verdict made serial.switch now answers in
    record {
      limits = subst IsGeometry (sym shape.0) fits.limits;
      shaped = subst (λ g. IsShaped g dims') (sym shape.0) (subst (IsShaped serial.switch.geometry) (sym same) fits.shaped);
      room = fits.room ∙ ap greatest_bits (sym shape.0);
      keyed = fits.keyed ∙ sym shape.1;
    }

-- a read-out of a task, of which the switch told this outcome
pub serial_read : (request : Request) (name : List ℕ) (ask : Ask) → request ≡ Task name ask → (key : List ℕ) (switch : SwitchState) (cells0 cells1 : Option Contents)
    (sent0 sent1 : Option (List ℕ)) (outcome asked : Outcome) (result : Result (Option ArrayString) AskFault) → key ≡ switch.hash_key → outcome ≡ asked → Stays cells0 cells1
    → Replies (λ told. answer_by name (task_answer key ask) (parts_in told (view_of switch))) cells1 sent0 outcome sent1
    → Ends (Task name ask) asked result → (board : Board)
    → Told (λ old new. IsSerial switch board old → moves.Answers request (serial_rules.answer board request) result sent0 sent1) cells0 cells1
unfolding answer_to
serial_read request name ask is key switch cells0 cells1 sent0 sent1 outcome asked result keyed ended stays replies ends board =
    subst (λ r. Told (λ old new. IsSerial switch board old → moves.Answers r (serial_rules.answer board r) result sent0 sent1) cells0 cells1) (sym is)
    (serial_asked (Task name ask) switch cells0 cells1 sent0 sent1 outcome result stays
    (subst (λ k. Replies (λ told. answer_by name (task_answer k ask) (parts_in told (view_of switch))) cells1 sent0 outcome sent1) keyed replies)
    (subst (λ o. Ends (Task name ask) o result) (sym ended) ends) board)

pub serial_listed : (request asked : Request) → request ≡ asked → (result : Result (Option ArrayString) AskFault) (switch : SwitchState) (cells : Option Contents)
    (sent0 sent1 : Option (List ℕ)) (board : Board)
    → Told (λ old new. IsSerial switch board old → moves.Answers asked (serial_rules.answer board asked) result sent0 sent1) cells cells
    → Told (λ old new. IsSerial switch board old → moves.Answers request (serial_rules.answer board request) result sent0 sent1) cells cells
serial_listed request asked is result switch cells sent0 sent1 board told =
    subst (λ r. Told (λ old new. IsSerial switch board old → moves.Answers r (serial_rules.answer board r) result sent0 sent1) cells cells) (sym is) told

-- ---- a task is one that there may be

no_key : (key : List ℕ) (b : Bool) → bytes_eq key no_lengths ≡ b → key ≢ no_lengths → b ≡ false
no_key key true e stands = absurd (stands ((bytes_eq-Decides key no_lengths).0 e))
no_key key false e stands = refl

pub key_is_some : (key : List ℕ) → key ≢ no_lengths → is_no_key key ≡ false
unfolding is_no_key
key_is_some key stands = no_key key (bytes_eq key no_lengths) refl stands

some_fault : (rows key attr : Bool) → rows ≡ true → key ≡ false → attr ≡ true
    → (if not rows then Some task_faults.Rows else (if key then Some task_faults.EmptyKey else (if not attr then Some task_faults.Attr else None))) ≡ None
some_fault rows key attr a b c = simp (a, b, c)

pub no_fault : (sketch : Sketch) → IsTrue (allows_rows sketch.kind sketch.rows) → sketch.key ≢ no_lengths → IsTrue (allows sketch.kind sketch.attr)
    → first_fault sketch ≡ None
no_fault sketch rows key attr =
    some_fault (allows_rows sketch.kind sketch.rows) (is_no_key sketch.key) (allows sketch.kind sketch.attr) rows (key_is_some sketch.key key) attr
