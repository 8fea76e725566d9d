-- What a run over generated files comes to.
use Rattle.std.proofs.Common.{◌≡◌, ◌≤◌, ℕ, zero, suc, List, [], ◌∷◌, Bool, true, false, codes, Option, None, Some, Result, Ok, Err, refl, sym, ap, ◌∙◌, subst, arith}
use Rattle.std.specs.Prelude.{◌&&◌, is_some, nat_lt, length, IfSome}
use Rattle.std.specs.List.{slice_index_or}
use Rattle.outside.specs.Faults.{Rose}
use Rattle.fm_io.specs.Slots.{Cursor, Slots}
use Rattle.fm_io.specs.Names.{Directory, DirectoryStays, told_text}
use Rattle.reg_file.specs.Registers.{Contents}
use Rattle.capture_read.specs.declared.records.CaptureFault.{CaptureFault}
use Rattle.capture_read.specs.Records.{header_in, has_magic, byte_order_in}
use Rattle.sw_profile.specs.declared.profiles.Profile.{Profile}
use Rattle.sw_profile.specs.Profiles.{standard_profile}
use Rattle.task_lang.specs.declared.commands.Command.{Command}
use Rattle.task_lang.specs.declared.commands.ScriptFault.{ScriptFault}
use Rattle.task_lang.specs.Script.{script_in, plain_line_in, command_in, add_in, resize_in, query_in, named_in, alone_in}
use Rattle.task_lang.specs.Words.{verb_named, kind_named, rows_in, attr_in, attr_named, after_label}
use Rattle.key_mask.specs.Numbers.{number_in, address_in, hex_in}
use Rattle.key_mask.specs.Keys.{key_in, with_item}
use Rattle.key_mask.specs.Items.{field_named}
use Rattle.key_mask.specs.Vectors.{with_value, value_at}
use Rattle.task_filters.specs.Terms.{terms_in, with_term}
use Rattle.gen_capture.specs.declared.places.Place.{Place}
use Rattle.gen_capture.specs.declared.places.Place.TheVariants as places
use Rattle.gen_capture.specs.Scripts.{script_text}
use Rattle.gen_capture.specs.Captures.{capture_text}
use Rattle.gen_capture.specs.Places.{directory_in, slots_in, slot_in, text_in, offset_of}
use Rattle.gen_capture.specs.Laws.{CapturesAreWhole, records_of}
use Rattle.gen_capture.specs.Packets.{packets_after}
use Rattle.flymon_engine.specs.declared.work.Work.{Work}
use Rattle.flymon_engine.specs.declared.work.Work.TheVariants.{Take, Change, Ask}
use Rattle.flymon_engine.specs.declared.stop.File.TheVariants as files
use Rattle.flymon_engine.specs.declared.stop.Halt.{Halt}
use Rattle.flymon_engine.specs.declared.stop.Halt.TheVariants as halts
use Rattle.flymon_engine.specs.declared.stop.Refusal.{Refusal}
use Rattle.flymon_engine.specs.declared.stop.Refusal.TheVariants as refusals
use Rattle.flymon_engine.specs.declared.stop.Stop.{Stop}
use Rattle.flymon_engine.specs.declared.stop.Stop.TheVariants.{Opening, Carrying}
use Rattle.flymon_engine.specs.declared.words.Way.TheVariants.{Replay}
use Rattle.flymon_engine.specs.Words.{Demo, Carry}
use Rattle.flymon_engine.specs.Works.{works_of}
use Rattle.flymon_engine.specs.Causes.{HasCause}
use Rattle.flymon_engine.specs.Arrivals.{Arrival, Left, left_in, left_by, left_of}
use Rattle.flymon_engine.specs.Boards.{Board, Rules}
use Rattle.flymon_engine.specs.Moves.{dims_of}
use Rattle.flymon_engine.specs.Runs.{Run, passed, pass_first, asked_by, taken_by, meets, step, done_by}
use Rattle.flymon_engine.specs.Stops.{Ends}
use Rattle.flymon_engine.specs.Going.{damage_met}
use Rattle.flymon_engine.specs.Worlds.{WhereTold}
use Rattle.flymon_engine.specs.Endings.{Seen, FilesStay, StopsDemo, DemoMayEnd, CarriesDemo, CarriesFiles, Carried, Promises, StopsOpening, beginning}
use Rattle.flymon_engine.proofs.GoLemmas.{agrees}

-- ---- the two texts

abbrev is_ok : {A E : Type 0} → Result A E → Bool
is_ok (Ok x) = true
is_ok (Err e) = false

-- the script has no fault
script_good : is_ok (script_in script_text) ≡ true
unfolding script_text script_in plain_line_in command_in verb_named add_in resize_in query_in named_in alone_in kind_named rows_in attr_in attr_named after_label
    number_in address_in hex_in key_in with_item field_named terms_in with_term with_value value_at
script_good = refl

script_no_fault : (fault : ScriptFault) → script_in script_text ≡ Err fault → ⊥
script_no_fault fault e = let bad : false ≡ true = subst (λ r. is_ok r ≡ true) e script_good in cc

-- the script is no capture
script_bad : is_ok (left_in script_text) ≡ false
unfolding script_text header_in has_magic byte_order_in
script_bad = refl

script_no_capture : (left : Left) → left_in script_text ≡ Ok left → ⊥
script_no_capture left e = let bad : true ≡ false = subst (λ r. is_ok r ≡ false) e script_bad in cc

-- what a generated capture gives
abbrev gives : ℕ → ℕ → Left
gives seed count = left_of (record { list = records_of 24 (packets_after seed count); fault = None })

capture_good : CapturesAreWhole → (seed count : ℕ) → count ≤ 1000000 → left_in (capture_text seed count) ≡ Ok (gives seed count)
capture_good whole seed count few = ap (λ r. left_by r) (whole seed count few)

abbrev result_of : Left → Result Left CaptureFault
result_of left = Ok left

ok_same : (x y : Left) → result_of x ≡ result_of y → x ≡ y
ok_same x y e = (cc)

-- ---- a capture without damage

passed_fault : (r : Rules) (run : Run) (k : ℕ) → (passed r run k).left.fault ≡ run.left.fault
unfolding passed
passed_fault r run zero = refl
passed_fault r run (suc k) = one (passed r run k) (passed r run k).left.list ∙ passed_fault r run k
  where
    one : (here : Run) (list : List Arrival) → (pass_first r here list).left.fault ≡ here.left.fault
    one here [] = refl
    one here (a ∷ list) = refl

done_fault : (r : Rules) (run : Run) (command : Work) → (done_by r run command).left.fault ≡ run.left.fault
done_fault r run (Take count) = passed_fault r run (taken_by run (Take count))
done_fault r run (Change change) = refl
done_fault r run (Ask request) = refl

step_fault : (r : Rules) (run : Run) (command : Work) → (step r run command).left.fault ≡ run.left.fault
unfolding step
step_fault r run command = done_fault r run command

undamaged : (r : Rules) (run : Run) (commands : List Work) → run.left.fault ≡ None → damage_met r run commands ≡ None
unfolding damage_met
undamaged r run [] e = refl
undamaged r run (c ∷ commands) e =
    let unmet : meets run c ≡ false = ap (λ f. is_some f && nat_lt (length run.left.list) (asked_by c)) e in
    rw unmet (undamaged r (step r run c) commands (step_fault r run c ∙ e))

-- ---- the generated files tell what they hold

told : (seed count : ℕ) (place : Option Place) (name : List ℕ) → told_text (directory_in seed count) (slot_in seed count place) name ≡ text_in seed count name
told seed count None name = refl
told seed count (Some place) name = refl

text_told : (P : List ℕ → Type 0) (seed count : ℕ) (place : Option Place) (name : List ℕ)
    → IfSome (told_text (directory_in seed count) (slot_in seed count place) name) P → IfSome (text_in seed count name) P
text_told P seed count place name h = subst (λ (x : Option (List ℕ)). IfSome x P) (told seed count place name) h

capture_same : (seed count s n : ℕ) → DirectoryStays (directory_in seed count) (directory_in s n) → capture_text s n ≡ capture_text seed count
capture_same seed count s n stays = stays.text (codes "capture")

-- no name that is asked for is missing, so no count rises
no_rise : (f0 st0 m : ℕ) → f0 ≡ 0 → st0 ≡ 0 → m ≡ st0 → Rose f0 m → ⊥
no_rise f0 st0 m e0 e1 same rose =
    let r : Rose 0 m = subst (λ x. Rose x m) e0 rose in
    omega (arith, r, same, e1)

-- ---- the run

-- the same registers and output beside these files
abbrev beside : Seen → (files last strays : ℕ) → Directory → Slots → Seen
beside seen files last strays directory slots = record {
  files = files;
  last = last;
  strays = strays;
  directory = directory;
  slots = slots;
  regs = seen.regs;
  dims = seen.dims;
  cells = seen.cells;
  calls = seen.calls;
  out = seen.out;
  sent = seen.sent;
}

abbrev at_of : Option Cursor → ℕ
at_of None = 0
at_of (Some cursor) = cursor.at

abbrev CarriedDemo : Rules → (Board → Contents → Type 0) → (seed count : ℕ) → Seen → Seen → Result (Unit {0}) Halt → List Command → ℕ → Contents → Type 0
CarriedDemo r lays seed count before after result commands at cells =
    Carried {T = Unit {0}} r lays standard_profile before after result commands (record { bytes = capture_text seed count; at = at }) cells

carried_there : (r : Rules) (lays : Board → Contents → Type 0) (seed count s n : ℕ) (inner0 inner1 before after : Seen) (result : Result (Unit {0}) Halt) (setup : Profile) (commands : List Command)
    → setup ≡ standard_profile → capture_text s n ≡ capture_text seed count
    → inner0.sent ≡ before.sent → inner1.sent ≡ after.sent → inner0.calls ≡ before.calls → inner1.calls ≡ after.calls
    → (place : Option Place) → (slot_in s n place).attached ≡ true → (cells : Option Contents)
    → WhereTold (slot_in s n place).cursor cells (Carried {T = Unit {0}} r lays setup inner0 inner1 result commands)
    → IfSome cells (CarriedDemo r lays seed count before after result commands (at_of (slot_in s n place).cursor))
carried_there r lays seed count s n inner0 inner1 before after result setup commands is same s0 s1 k0 k1 None e cells h = absurd (let bad : false ≡ true = e in cc)
carried_there r lays seed count s n inner0 inner1 before after result setup commands is same s0 s1 k0 k1 (Some place) e None h = tt
carried_there r lays seed count s n inner0 inner1 before after result setup commands is same s0 s1 k0 k1 (Some (places.Script at)) e (Some d) h = absurd (script_no_capture h.left h.opened)
carried_there r lays seed count s n inner0 inner1 before after result setup commands is same s0 s1 k0 k1 (Some (places.Capture place)) e (Some d) h = record {
  left = h.left;
  opened = ap left_in (sym same) ∙ h.opened;
  end = h.end;
  ends = subst (λ (p : Profile). Ends {T = Unit {0}} r (offset_of place) result (beginning p h.left) (works_of commands) h.end) is h.ends;
  text = rw (sym s0, sym s1) h.text;
  operations = rw (sym k0, sym k1) h.operations;
  registers = h.registers;
}

no_damage : CapturesAreWhole → (r : Rules) (lays : Board → Contents → Type 0) (seed count : ℕ) → count ≤ 1000000 → (before after : Seen) (fault : CaptureFault) (commands : List Command) (at : ℕ)
    → (cells : Option Contents) → IfSome cells (CarriedDemo r lays seed count before after (Err (halts.Damage fault)) commands at) → cells ≡ None
no_damage whole r lays seed count few before after fault commands at None h = refl
no_damage whole r lays seed count few before after fault commands at (Some d) h =
    let start = beginning standard_profile h.left in
    let met : damage_met r start (works_of commands) ≡ Some fault = (agrees {T = Unit {0}} r at (Err (halts.Damage fault)) start (works_of commands) h.end h.ends).damaged in
    let sound : h.left.fault ≡ None = ap (λ (l : Left). l.fault) (sym (ok_same (gives seed count) h.left (sym (capture_good whole seed count few) ∙ h.opened))) in
    let unmet : damage_met r start (works_of commands) ≡ None = undamaged r start (works_of commands) sound in
    absurd (let bad : None ≡ Some fault = sym unmet ∙ met in cc)

may_end : CapturesAreWhole → (r : Rules) (lays : Board → Contents → Type 0) (seed count : ℕ) → count ≤ 1000000 → (before after : Seen) (result : Result (Unit {0}) Halt) (commands : List Command) (at : ℕ)
    → (result ≡ Err halts.Input → ⊥) → IfSome after.cells (CarriedDemo r lays seed count before after result commands at) → DemoMayEnd {T = Unit {0}} result after.cells
may_end whole r lays seed count few before after (Ok x) commands at never h = tt
may_end whole r lays seed count few before after (Err (halts.Damage fault)) commands at never h = no_damage whole r lays seed count few before after fault commands at after.cells h
may_end whole r lays seed count few before after (Err halts.Input) commands at never h = absurd (never refl)
may_end whole r lays seed count few before after (Err halts.Device) commands at never h = tt
may_end whole r lays seed count few before after (Err halts.Output) commands at never h = tt

carries : CapturesAreWhole → (r : Rules) (lays : Board → Contents → Type 0) (seed count : ℕ) → count ≤ 1000000
    → (s n f0 l0 st0 m l : ℕ) (d0 : Directory) (slots0 : Slots) (given : List (Option Place)) (before after : Seen) (result : Result (Unit {0}) Halt)
    → DirectoryStays (directory_in seed count) (directory_in s n) → FilesStay before after → (result ≡ Err halts.Input → ⊥)
    → CarriesFiles {T = Unit {0}} r lays (codes "-") (codes "script") (codes "capture") (beside before f0 l0 st0 d0 slots0) (beside after m l m (directory_in s n) (slots_in s n given)) result
    → CarriesDemo {T = Unit {0}} r lays seed count before after result
carries whole r lays seed count few s n f0 l0 st0 m l d0 slots0 given before after result directory stays never carried =
    let is : carried.setup ≡ standard_profile = carried.opened.profile_text in
    let place = slice_index_or given 2 None in
    let there = carried_there r lays seed count s n (beside before f0 l0 st0 d0 slots0) (beside after m l m (directory_in s n) (slots_in s n given)) before after result carried.setup carried.commands
    is (capture_same seed count s n directory) refl refl refl refl place carried.attached after.cells carried.carried in
    record {
      stays = stays;
      may = may_end whole r lays seed count few before after result carried.commands (at_of (slot_in s n place).cursor) never there;
      commands = carried.commands;
      script = text_told (λ text. script_in text ≡ Ok carried.commands) s n (slice_index_or given 1 None) (codes "script") carried.opened.script_text.text;
      shaped = carried.shaped ∙ ap (λ (p : Profile). dims_of p.shape) is;
      at = at_of (slot_in s n place).cursor;
      carried = there;
    }

-- why a demo may stop before its commands
stops : CapturesAreWhole → (seed count : ℕ) → count ≤ 1000000
    → (s n f0 l0 st0 m l : ℕ) (d0 : Directory) (slots0 : Slots) (given : List (Option Place)) (before after : Seen) (refusal : Refusal)
    → DirectoryStays (directory_in seed count) (directory_in s n) → f0 ≡ 0 → st0 ≡ 0
    → StopsOpening (codes "-") (codes "script") (codes "capture") refusal (beside before f0 l0 st0 d0 slots0) (beside after m l m (directory_in s n) (slots_in s n given))
    → StopsDemo refusal before after
stops whole seed count few s n f0 l0 st0 m l d0 slots0 given before after refusals.Usage directory e0 e1 h = absurd h.texts
stops whole seed count few s n f0 l0 st0 m l d0 slots0 given before after (refusals.Profile fault) directory e0 e1 h = absurd (let bad : true ≡ false = h.texts.0 in cc)
stops whole seed count few s n f0 l0 st0 m l d0 slots0 given before after (refusals.Script fault) directory e0 e1 h =
    absurd (script_no_fault fault (text_told (λ text. script_in text ≡ Err fault) s n (slice_index_or given 1 None) (codes "script") h.texts.1.text))
stops whole seed count few s n f0 l0 st0 m l d0 slots0 given before after (refusals.Header fault) directory e0 e1 h =
    let bad : left_in (capture_text s n) ≡ Err fault = text_told (λ bytes. left_in bytes ≡ Err fault) s n (slice_index_or given 2 None) (codes "capture") h.texts.1.text in
    let both : Ok (gives seed count) ≡ Err fault = sym (capture_good whole seed count few) ∙ (ap left_in (sym (capture_same seed count s n directory)) ∙ bad) in
    absurd (cc)
stops whole seed count few s n f0 l0 st0 m l d0 slots0 given before after (refusals.Input files.Profile) directory e0 e1 h = absurd (let bad : true ≡ false = h.texts.0 in cc)
stops whole seed count few s n f0 l0 st0 m l d0 slots0 given before after (refusals.Input files.Script) directory e0 e1 h = absurd (no_rise f0 st0 m e0 e1 (h.names refl) h.cause.0)
stops whole seed count few s n f0 l0 st0 m l d0 slots0 given before after (refusals.Input files.Capture) directory e0 e1 h = absurd (no_rise f0 st0 m e0 e1 (h.names refl) h.cause.0)
stops whole seed count few s n f0 l0 st0 m l d0 slots0 given before after refusals.Device directory e0 e1 h = (h.rose, h.none)
stops whole seed count few s n f0 l0 st0 m l d0 slots0 given before after refusals.Memory directory e0 e1 h = tt

abbrev halted : Halt → Result (Unit {0}) Halt
halted halt = Err halt

halts_demo : (f0 st0 m last : ℕ) (before after : Seen) (halt : Halt) → f0 ≡ 0 → st0 ≡ 0 → m ≡ st0
    → HasCause f0 m last before.regs after.regs before.out after.out halt
    → HasCause before.files after.files after.last before.regs after.regs before.out after.out halt × (halted halt ≡ halted halts.Input → ⊥)
halts_demo f0 st0 m last before after (halts.Damage fault) e0 e1 same cause = (tt, λ e. (cc))
halts_demo f0 st0 m last before after halts.Input e0 e1 same cause = absurd (no_rise f0 st0 m e0 e1 same cause.0)
halts_demo f0 st0 m last before after halts.Device e0 e1 same cause = (cause, λ e. (cc))
halts_demo f0 st0 m last before after halts.Output e0 e1 same cause = (cause, λ e. (cc))

-- a replay over generated files is a demo
pub demo_promises : CapturesAreWhole → (r : Rules) (lays : Board → Contents → Type 0) (seed count : ℕ) → count ≤ 1000000
    → (s n f0 l0 st0 m l : ℕ) (d0 : Directory) (slots0 : Slots) (given : List (Option Place)) (before after : Seen) (ending : Result (Unit {0}) Stop)
    → d0 ≡ directory_in seed count → DirectoryStays d0 (directory_in s n) → f0 ≡ 0 → st0 ≡ 0 → FilesStay before after
    → Promises {T = Unit {0}} r lays (Carry Replay (codes "-") (codes "script") (codes "capture")) ending
    (beside before f0 l0 st0 d0 slots0) (beside after m l m (directory_in s n) (slots_in s n given))
    → Promises {T = Unit {0}} r lays (Demo seed count) ending before after
demo_promises whole r lays seed count few s n f0 l0 st0 m l d0 slots0 given before after (Ok x) is directory e0 e1 stays promises =
    carries whole r lays seed count few s n f0 l0 st0 m l d0 slots0 given before after (Ok x) (subst (λ (d : Directory). DirectoryStays d (directory_in s n)) is directory) stays (λ e. (cc)) promises
demo_promises whole r lays seed count few s n f0 l0 st0 m l d0 slots0 given before after (Err (Opening refusal)) is directory e0 e1 stays promises = record {
  nothing = record { text = promises.nothing.text; operations = promises.nothing.operations };
  refused = (stays, stops whole seed count few s n f0 l0 st0 m l d0 slots0 given before after refusal (subst (λ (d : Directory). DirectoryStays d (directory_in s n)) is directory) e0 e1 promises.refused);
}
demo_promises whole r lays seed count few s n f0 l0 st0 m l d0 slots0 given before after (Err (Carrying halt)) is directory e0 e1 stays promises =
    let cause = halts_demo f0 st0 m l before after halt e0 e1 promises.carried.strays promises.cause in
    record {
      cause = cause.0;
      carried = carries whole r lays seed count few s n f0 l0 st0 m l d0 slots0 given before after (Err halt) (subst (λ (d : Directory). DirectoryStays d (directory_in s n)) is directory) stays cause.1 promises.carried;
    }
