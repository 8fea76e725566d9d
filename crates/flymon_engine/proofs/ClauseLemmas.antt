-- What the promises of each end say of its status.
use Rattle.std.proofs.Common.{◌≡◌, ◌++◌, ℕ, List, Option, None, Some, Result, Ok, Err, refl, sym, ap, ◌∙◌, subst, inl, inr}
use Rattle.std.specs.Prelude.{IfSome, true}
use Rattle.std.specs.List.{list_any}
use Rattle.std.specs.Str.{bytes_eq}
use Rattle.outside.specs.Faults.{Rose}
use Rattle.outside.proofs.ToldLemmas.{told_weaker}
use Rattle.fm_io.specs.Slots.{Cursor}
use Rattle.reg_file.specs.Registers.{Contents}
use Rattle.capture_read.specs.declared.records.CaptureFault.{CaptureFault}
use Rattle.sw_profile.specs.declared.profiles.Profile.{Profile}
use Rattle.sw_profile.specs.Profiles.{standard_profile}
use Rattle.gen_capture.specs.Captures.{capture_text}
use Rattle.task_lang.specs.declared.commands.Command.{Command}
use Rattle.flymon_engine.specs.declared.status.Status.{Status}
use Rattle.flymon_engine.specs.declared.status.Status.TheVariants as statuses
use Rattle.flymon_engine.specs.declared.stop.File.{File}
use Rattle.flymon_engine.specs.declared.stop.File.TheVariants as files
use Rattle.flymon_engine.specs.declared.stop.Halt.{Halt}
use Rattle.flymon_engine.specs.declared.stop.Halt.TheVariants as halts
use Rattle.flymon_engine.specs.declared.stop.Refusal.{Refusal}
use Rattle.flymon_engine.specs.declared.stop.Refusal.TheVariants as refusals
use Rattle.flymon_engine.specs.declared.stop.Stop.{Stop}
use Rattle.flymon_engine.specs.declared.stop.Stop.TheVariants.{Opening, Carrying}
use Rattle.flymon_engine.specs.Opening.{StraysStay}
use Rattle.flymon_engine.specs.Words.{Form, Wrong, Carry, Demo}
use Rattle.flymon_engine.specs.Works.{works_of}
use Rattle.flymon_engine.specs.Boards.{Board, Rules}
use Rattle.flymon_engine.specs.Runs.{Run}
use Rattle.flymon_engine.specs.Stops.{Ends}
use Rattle.flymon_engine.specs.Worlds.{WhereTold}
use Rattle.flymon_engine.specs.Going.{GoesTo}
use Rattle.flymon_engine.specs.Endings.{Seen, FilesStay, DemoMayEnd, CarriesDemo, Carried, Carries, Promises, DidNothing, IsRefused, beginning, finished, status_of, status_of_refusal, status_of_halt}
use Rattle.flymon_engine.specs.Clauses.{DemoGoes, IsOfDemo, LeavesFiles, HasOpened, HasBadProfile, HasBadScript, HasBadHeader, FailsInPlace, IsWhole, GoesAll, IsDamaged, HasShaped, FailsDevice, FailsByName, IsEarly}
use Rattle.flymon_engine.proofs.GoLemmas.{agrees}

-- the words are no form, and that is Usage
refused_usage : (form : Form) (before after : Seen) → IsRefused form refusals.Usage before after → form ≡ Wrong
refused_usage Wrong before after refused = refl
refused_usage (Carry way profile script capture) before after refused = absurd refused.texts
refused_usage (Demo seed count) before after refused = absurd refused.1

pub to_wrong : (rules : Rules) (lays : Board → Contents → Type 0) (form : Form) (before after : Seen) (ending : Result (Unit {0}) Stop)
    → status_of ending ≡ statuses.Usage → Promises rules lays form ending before after → form ≡ Wrong
to_wrong rules lays form before after (Ok x) e promises = absurd (let bad : statuses.Done ≡ statuses.Usage = e in cc)
to_wrong rules lays form before after (Err (Opening refusals.Usage)) e promises = refused_usage form before after promises.refused
to_wrong rules lays form before after (Err (Opening (refusals.Profile fault))) e promises = absurd (let bad : statuses.BadProfile ≡ statuses.Usage = e in cc)
to_wrong rules lays form before after (Err (Opening (refusals.Script fault))) e promises = absurd (let bad : statuses.BadScript ≡ statuses.Usage = e in cc)
to_wrong rules lays form before after (Err (Opening (refusals.Header fault))) e promises = absurd (let bad : statuses.BadCapture ≡ statuses.Usage = e in cc)
to_wrong rules lays form before after (Err (Opening (refusals.Input file))) e promises = absurd (let bad : statuses.InputFault ≡ statuses.Usage = e in cc)
to_wrong rules lays form before after (Err (Opening refusals.Device)) e promises = absurd (let bad : statuses.DeviceFault ≡ statuses.Usage = e in cc)
to_wrong rules lays form before after (Err (Opening refusals.Memory)) e promises = absurd (let bad : statuses.Memory ≡ statuses.Usage = e in cc)
to_wrong rules lays form before after (Err (Carrying (halts.Damage fault))) e promises = absurd (let bad : statuses.BadCapture ≡ statuses.Usage = e in cc)
to_wrong rules lays form before after (Err (Carrying halts.Input)) e promises = absurd (let bad : statuses.InputFault ≡ statuses.Usage = e in cc)
to_wrong rules lays form before after (Err (Carrying halts.Device)) e promises = absurd (let bad : statuses.DeviceFault ≡ statuses.Usage = e in cc)
to_wrong rules lays form before after (Err (Carrying halts.Output)) e promises = absurd (let bad : statuses.OutputFault ≡ statuses.Usage = e in cc)

pub from_wrong : (rules : Rules) (lays : Board → Contents → Type 0) (before after : Seen) (ending : Result (Unit {0}) Stop)
    → Promises rules lays Wrong ending before after → statuses.Usage ≡ status_of ending
from_wrong rules lays before after (Ok x) promises = absurd promises
from_wrong rules lays before after (Err (Opening refusal)) promises =
    ap (λ (r : Result (Unit {0}) Stop). status_of r) (let e : Err (Opening refusals.Usage) ≡ Err (Opening refusal) = ap (λ r. Err (Opening r)) (sym promises.refused.0) in e)
from_wrong rules lays before after (Err (Carrying halt)) promises = absurd promises.carried

pub to_bad_profile : (rules : Rules) (lays : Board → Contents → Type 0) (form : Form) (before after : Seen) (ending : Result (Unit {0}) Stop)
    → status_of ending ≡ statuses.BadProfile → Promises rules lays form ending before after → HasBadProfile form after.directory after.slots
to_bad_profile rules lays Wrong before after (Err (Opening (refusals.Profile fault))) e promises = absurd (let bad = promises.refused.0 in cc)
to_bad_profile rules lays (Carry way profile script capture) before after (Err (Opening (refusals.Profile fault))) e promises = (fault, promises.refused.texts)
to_bad_profile rules lays (Demo seed count) before after (Err (Opening (refusals.Profile fault))) e promises = absurd promises.refused.1
to_bad_profile rules lays form before after (Ok x) e promises = absurd (let bad : statuses.Done ≡ statuses.BadProfile = e in cc)
to_bad_profile rules lays form before after (Err (Opening refusals.Usage)) e promises = absurd (let bad : statuses.Usage ≡ statuses.BadProfile = e in cc)
to_bad_profile rules lays form before after (Err (Opening (refusals.Script fault))) e promises = absurd (let bad : statuses.BadScript ≡ statuses.BadProfile = e in cc)
to_bad_profile rules lays form before after (Err (Opening (refusals.Header fault))) e promises = absurd (let bad : statuses.BadCapture ≡ statuses.BadProfile = e in cc)
to_bad_profile rules lays form before after (Err (Opening (refusals.Input file))) e promises = absurd (let bad : statuses.InputFault ≡ statuses.BadProfile = e in cc)
to_bad_profile rules lays form before after (Err (Opening refusals.Device)) e promises = absurd (let bad : statuses.DeviceFault ≡ statuses.BadProfile = e in cc)
to_bad_profile rules lays form before after (Err (Opening refusals.Memory)) e promises = absurd (let bad : statuses.Memory ≡ statuses.BadProfile = e in cc)
to_bad_profile rules lays form before after (Err (Carrying (halts.Damage fault))) e promises = absurd (let bad : statuses.BadCapture ≡ statuses.BadProfile = e in cc)
to_bad_profile rules lays form before after (Err (Carrying halts.Input)) e promises = absurd (let bad : statuses.InputFault ≡ statuses.BadProfile = e in cc)
to_bad_profile rules lays form before after (Err (Carrying halts.Device)) e promises = absurd (let bad : statuses.DeviceFault ≡ statuses.BadProfile = e in cc)
to_bad_profile rules lays form before after (Err (Carrying halts.Output)) e promises = absurd (let bad : statuses.OutputFault ≡ statuses.BadProfile = e in cc)

pub to_bad_script : (rules : Rules) (lays : Board → Contents → Type 0) (form : Form) (before after : Seen) (ending : Result (Unit {0}) Stop)
    → status_of ending ≡ statuses.BadScript → Promises rules lays form ending before after → HasBadScript form after.directory after.slots
to_bad_script rules lays Wrong before after (Err (Opening (refusals.Script fault))) e promises = absurd (let bad = promises.refused.0 in cc)
to_bad_script rules lays (Carry way profile script capture) before after (Err (Opening (refusals.Script fault))) e promises = (fault, promises.refused.texts)
to_bad_script rules lays (Demo seed count) before after (Err (Opening (refusals.Script fault))) e promises = absurd promises.refused.1
to_bad_script rules lays form before after (Ok x) e promises = absurd (let bad : statuses.Done ≡ statuses.BadScript = e in cc)
to_bad_script rules lays form before after (Err (Opening refusals.Usage)) e promises = absurd (let bad : statuses.Usage ≡ statuses.BadScript = e in cc)
to_bad_script rules lays form before after (Err (Opening (refusals.Profile fault))) e promises = absurd (let bad : statuses.BadProfile ≡ statuses.BadScript = e in cc)
to_bad_script rules lays form before after (Err (Opening (refusals.Header fault))) e promises = absurd (let bad : statuses.BadCapture ≡ statuses.BadScript = e in cc)
to_bad_script rules lays form before after (Err (Opening (refusals.Input file))) e promises = absurd (let bad : statuses.InputFault ≡ statuses.BadScript = e in cc)
to_bad_script rules lays form before after (Err (Opening refusals.Device)) e promises = absurd (let bad : statuses.DeviceFault ≡ statuses.BadScript = e in cc)
to_bad_script rules lays form before after (Err (Opening refusals.Memory)) e promises = absurd (let bad : statuses.Memory ≡ statuses.BadScript = e in cc)
to_bad_script rules lays form before after (Err (Carrying (halts.Damage fault))) e promises = absurd (let bad : statuses.BadCapture ≡ statuses.BadScript = e in cc)
to_bad_script rules lays form before after (Err (Carrying halts.Input)) e promises = absurd (let bad : statuses.InputFault ≡ statuses.BadScript = e in cc)
to_bad_script rules lays form before after (Err (Carrying halts.Device)) e promises = absurd (let bad : statuses.DeviceFault ≡ statuses.BadScript = e in cc)
to_bad_script rules lays form before after (Err (Carrying halts.Output)) e promises = absurd (let bad : statuses.OutputFault ≡ statuses.BadScript = e in cc)

-- the carrying out of a script that ended at its end or at a damage is the whole script's
whole_at : {T : Type 0} (rules : Rules) (lays : Board → Contents → Type 0) (profile : Profile) (commands : List Command) (damage : Option CaptureFault) (before after : Seen)
    (result : Result T Halt) (cursor : Cursor) (cells : Contents)
    → ((start end : Run) → Ends rules cursor.at result start (works_of commands) end → GoesTo rules start (works_of commands) damage end)
    → Carried rules lays profile before after result commands cursor cells → IsWhole rules lays profile commands damage before after cursor cells
whole_at rules lays profile commands damage before after result cursor cells agree carried =
    let to = agree (beginning profile carried.left) carried.end carried.ends in
    record {
      left = carried.left;
      opened = carried.opened;
      met = to.damaged;
      text = told_weaker before.sent after.sent (λ x y e. e ∙ ap (λ (r : Run). x ++ r.text) (sym to.is)) carried.text;
      operations = told_weaker before.calls after.calls (λ x y e. e ∙ ap (λ (r : Run). (finished rules r).calls) (sym to.is)) carried.operations;
      registers = subst (λ (r : Run). lays (finished rules r).board cells) (sym to.is) carried.registers;
    }

whole_told : (P Q : Cursor → Contents → Type 0) (t : Option Cursor) (c : Option Contents) → ((u : Cursor) (d : Contents) → P u d → Q u d) → WhereTold t c P → WhereTold t c Q
whole_told P Q None c step p = tt
whole_told P Q (Some u) None step p = tt
whole_told P Q (Some u) (Some d) step p = step u d p

some_told : (P Q : Contents → Type 0) (c : Option Contents) → ((d : Contents) → P d → Q d) → IfSome c P → IfSome c Q
some_told P Q None step p = tt
some_told P Q (Some d) step p = step d p

-- the whole script's end is the same wherever the reading stands
moved_cursor : (rules : Rules) (lays : Board → Contents → Type 0) (profile : Profile) (commands : List Command) (damage : Option CaptureFault) (before after : Seen)
    (cursor : Cursor) (cells : Contents) → IsWhole rules lays profile commands damage before after cursor cells
    → IsWhole rules lays profile commands damage before after (record { bytes = cursor.bytes; at = 0 }) cells
moved_cursor rules lays profile commands damage before after cursor cells whole = record {
  left = whole.left;
  opened = whole.opened;
  met = whole.met;
  text = whole.text;
  operations = whole.operations;
  registers = whole.registers;
}

-- a demo's end is its whole script's
goes_demo : {T : Type 0} (rules : Rules) (lays : Board → Contents → Type 0) (seed count : ℕ) (damage : Option CaptureFault) (before after : Seen) (result : Result T Halt)
    → ((at : ℕ) (start end : Run) (commands : List Command) → Ends rules at result start (works_of commands) end → GoesTo rules start (works_of commands) damage end)
    → ((fault : CaptureFault) → damage ≡ Some fault → DemoMayEnd result after.cells → after.cells ≡ None)
    → CarriesDemo rules lays seed count before after result → DemoGoes rules lays seed count damage before after
goes_demo rules lays seed count (Some fault) before after result agree may carried = may fault refl carried.may
goes_demo rules lays seed count None before after result agree may carried =
    let cursor : Cursor = record { bytes = capture_text seed count; at = carried.at } in
    record {
      commands = carried.commands;
      script = carried.script;
      shaped = carried.shaped;
      whole = some_told (Carried rules lays standard_profile before after result carried.commands cursor) (IsWhole rules lays standard_profile carried.commands None before after (record { bytes = capture_text seed count; at = 0 })) after.cells
          (λ d c. moved_cursor rules lays standard_profile carried.commands None before after cursor d
          (whole_at rules lays standard_profile carried.commands None before after result cursor d (λ start end. agree carried.at start end carried.commands) c)) carried.carried;
    }

goes_all : {T : Type 0} (rules : Rules) (lays : Board → Contents → Type 0) (form : Form) (damage : Option CaptureFault) (before after : Seen) (result : Result T Halt)
    → ((at : ℕ) (start end : Run) (commands : List Command) → Ends rules at result start (works_of commands) end → GoesTo rules start (works_of commands) damage end)
    → ((fault : CaptureFault) → damage ≡ Some fault → DemoMayEnd result after.cells → after.cells ≡ None)
    → Carries rules lays form before after result → GoesAll rules lays form damage before after
goes_all rules lays Wrong damage before after result agree may carried = absurd carried
goes_all rules lays (Demo seed count) damage before after result agree may carried = goes_demo rules lays seed count damage before after result agree may carried
goes_all rules lays (Carry way profile script capture) damage before after result agree may carried = record {
  setup = carried.setup;
  commands = carried.commands;
  opened = carried.opened;
  shaped = carried.shaped;
  whole = whole_told (Carried rules lays carried.setup before after result carried.commands) (IsWhole rules lays carried.setup carried.commands damage before after)
      after.slots.capture.cursor after.cells
      (λ u d. whole_at rules lays carried.setup carried.commands damage before after result u d (λ start end. agree u.at start end carried.commands)) carried.carried;
}

pub to_done : (rules : Rules) (lays : Board → Contents → Type 0) (form : Form) (before after : Seen) (ending : Result (Unit {0}) Stop)
    → status_of ending ≡ statuses.Done → Promises rules lays form ending before after → GoesAll rules lays form None before after
to_done rules lays form before after (Ok x) e promises = goes_all {T = Unit {0}} rules lays form None before after (Ok tt) (λ at start end commands. agrees {T = Unit {0}} rules at (Ok tt) start (works_of commands) end) (λ fault e may. absurd (let bad : None ≡ Some fault = e in cc)) promises
to_done rules lays form before after (Err (Opening refusals.Usage)) e promises = absurd (let bad : statuses.Usage ≡ statuses.Done = e in cc)
to_done rules lays form before after (Err (Opening (refusals.Profile fault))) e promises = absurd (let bad : statuses.BadProfile ≡ statuses.Done = e in cc)
to_done rules lays form before after (Err (Opening (refusals.Script fault))) e promises = absurd (let bad : statuses.BadScript ≡ statuses.Done = e in cc)
to_done rules lays form before after (Err (Opening (refusals.Header fault))) e promises = absurd (let bad : statuses.BadCapture ≡ statuses.Done = e in cc)
to_done rules lays form before after (Err (Opening (refusals.Input file))) e promises = absurd (let bad : statuses.InputFault ≡ statuses.Done = e in cc)
to_done rules lays form before after (Err (Opening refusals.Device)) e promises = absurd (let bad : statuses.DeviceFault ≡ statuses.Done = e in cc)
to_done rules lays form before after (Err (Opening refusals.Memory)) e promises = absurd (let bad : statuses.Memory ≡ statuses.Done = e in cc)
to_done rules lays form before after (Err (Carrying (halts.Damage fault))) e promises = absurd (let bad : statuses.BadCapture ≡ statuses.Done = e in cc)
to_done rules lays form before after (Err (Carrying halts.Input)) e promises = absurd (let bad : statuses.InputFault ≡ statuses.Done = e in cc)
to_done rules lays form before after (Err (Carrying halts.Device)) e promises = absurd (let bad : statuses.DeviceFault ≡ statuses.Done = e in cc)
to_done rules lays form before after (Err (Carrying halts.Output)) e promises = absurd (let bad : statuses.OutputFault ≡ statuses.Done = e in cc)

bad_header : (form : Form) (fault : CaptureFault) (before after : Seen) → IsRefused form (refusals.Header fault) before after → HasBadHeader form after.directory after.slots
bad_header Wrong fault before after refused = absurd (let bad = refused.0 in cc)
bad_header (Carry way profile script capture) fault before after refused = (fault, refused.texts)
bad_header (Demo seed count) fault before after refused = absurd refused.1

pub to_damage : (rules : Rules) (lays : Board → Contents → Type 0) (form : Form) (before after : Seen) (ending : Result (Unit {0}) Stop)
    → status_of ending ≡ statuses.BadCapture → Promises rules lays form ending before after → IsDamaged rules lays form before after
to_damage rules lays form before after (Ok x) e promises = absurd (let bad : statuses.Done ≡ statuses.BadCapture = e in cc)
to_damage rules lays form before after (Err (Opening refusals.Usage)) e promises = absurd (let bad : statuses.Usage ≡ statuses.BadCapture = e in cc)
to_damage rules lays form before after (Err (Opening (refusals.Profile fault))) e promises = absurd (let bad : statuses.BadProfile ≡ statuses.BadCapture = e in cc)
to_damage rules lays form before after (Err (Opening (refusals.Script fault))) e promises = absurd (let bad : statuses.BadScript ≡ statuses.BadCapture = e in cc)
to_damage rules lays form before after (Err (Opening (refusals.Header fault))) e promises = inl (bad_header form fault before after promises.refused)
to_damage rules lays form before after (Err (Opening (refusals.Input file))) e promises = absurd (let bad : statuses.InputFault ≡ statuses.BadCapture = e in cc)
to_damage rules lays form before after (Err (Opening refusals.Device)) e promises = absurd (let bad : statuses.DeviceFault ≡ statuses.BadCapture = e in cc)
to_damage rules lays form before after (Err (Opening refusals.Memory)) e promises = absurd (let bad : statuses.Memory ≡ statuses.BadCapture = e in cc)
to_damage rules lays form before after (Err (Carrying (halts.Damage fault))) e promises = inr (fault, goes_all {T = Unit {0}} rules lays form (Some fault) before after (Err (halts.Damage fault)) (λ at start end commands. agrees {T = Unit {0}} rules at (Err (halts.Damage fault)) start (works_of commands) end) (λ other e may. may) promises.carried)
to_damage rules lays form before after (Err (Carrying halts.Input)) e promises = absurd (let bad : statuses.InputFault ≡ statuses.BadCapture = e in cc)
to_damage rules lays form before after (Err (Carrying halts.Device)) e promises = absurd (let bad : statuses.DeviceFault ≡ statuses.BadCapture = e in cc)
to_damage rules lays form before after (Err (Carrying halts.Output)) e promises = absurd (let bad : statuses.OutputFault ≡ statuses.BadCapture = e in cc)

opened_by : {T : Type 0} (rules : Rules) (lays : Board → Contents → Type 0) (form : Form) (before after : Seen) (result : Result T Halt)
    → Carries rules lays form before after result → HasOpened form after.directory after.slots
opened_by rules lays Wrong before after result carried = absurd carried
opened_by rules lays (Carry way profile script capture) before after result carried = (carried.setup, carried.commands, carried.opened)
opened_by rules lays (Demo seed count) before after result carried = tt

input_opening : (form : Form) (file : _) (before after : Seen) → IsRefused form (refusals.Input file) before after
    → Rose before.files after.files × FailsInPlace form after.directory after.slots after.last
input_opening Wrong file before after refused = absurd (let bad = refused.0 in cc)
input_opening (Carry way profile script capture) file before after refused = (refused.cause.0, inl (file, refused.cause.1, refused.texts))
input_opening (Demo seed count) file before after refused = absurd refused.1

input_carrying : (rules : Rules) (lays : Board → Contents → Type 0) (form : Form) (before after : Seen) → after.last ≡ 2
    → Carries {T = Unit {0}} rules lays form before after (Err halts.Input) → FailsInPlace form after.directory after.slots after.last
input_carrying rules lays Wrong before after e carried = absurd carried
input_carrying rules lays (Carry way profile script capture) before after e carried = inr (e, opened_by {T = Unit {0}} rules lays (Carry way profile script capture) before after (Err halts.Input) carried)
input_carrying rules lays (Demo seed count) before after e carried = absurd carried.may

pub to_input : (rules : Rules) (lays : Board → Contents → Type 0) (form : Form) (before after : Seen) (ending : Result (Unit {0}) Stop)
    → status_of ending ≡ statuses.InputFault → Promises rules lays form ending before after
    → Rose before.files after.files × FailsInPlace form after.directory after.slots after.last
to_input rules lays form before after (Ok x) e promises = absurd (let bad : statuses.Done ≡ statuses.InputFault = e in cc)
to_input rules lays form before after (Err (Opening refusals.Usage)) e promises = absurd (let bad : statuses.Usage ≡ statuses.InputFault = e in cc)
to_input rules lays form before after (Err (Opening (refusals.Profile fault))) e promises = absurd (let bad : statuses.BadProfile ≡ statuses.InputFault = e in cc)
to_input rules lays form before after (Err (Opening (refusals.Script fault))) e promises = absurd (let bad : statuses.BadScript ≡ statuses.InputFault = e in cc)
to_input rules lays form before after (Err (Opening (refusals.Header fault))) e promises = absurd (let bad : statuses.BadCapture ≡ statuses.InputFault = e in cc)
to_input rules lays form before after (Err (Opening (refusals.Input file))) e promises = input_opening form file before after promises.refused
to_input rules lays form before after (Err (Opening refusals.Device)) e promises = absurd (let bad : statuses.DeviceFault ≡ statuses.InputFault = e in cc)
to_input rules lays form before after (Err (Opening refusals.Memory)) e promises = absurd (let bad : statuses.Memory ≡ statuses.InputFault = e in cc)
to_input rules lays form before after (Err (Carrying (halts.Damage fault))) e promises = absurd (let bad : statuses.BadCapture ≡ statuses.InputFault = e in cc)
to_input rules lays form before after (Err (Carrying halts.Input)) e promises = (promises.cause.0, input_carrying rules lays form before after promises.cause.1 promises.carried)
to_input rules lays form before after (Err (Carrying halts.Device)) e promises = absurd (let bad : statuses.DeviceFault ≡ statuses.InputFault = e in cc)
to_input rules lays form before after (Err (Carrying halts.Output)) e promises = absurd (let bad : statuses.OutputFault ≡ statuses.InputFault = e in cc)

shaped_by : {T : Type 0} (rules : Rules) (lays : Board → Contents → Type 0) (form : Form) (before after : Seen) (result : Result T Halt)
    → Carries rules lays form before after result → HasShaped form after
shaped_by rules lays Wrong before after result carried = absurd carried
shaped_by rules lays (Carry way profile script capture) before after result carried = (carried.setup, carried.commands, carried.opened, carried.shaped)
shaped_by rules lays (Demo seed count) before after result carried = carried.shaped

pub to_output : (rules : Rules) (lays : Board → Contents → Type 0) (form : Form) (before after : Seen) (ending : Result (Unit {0}) Stop)
    → status_of ending ≡ statuses.OutputFault → Promises rules lays form ending before after → Rose before.out after.out × HasShaped form after
to_output rules lays form before after (Ok x) e promises = absurd (let bad : statuses.Done ≡ statuses.OutputFault = e in cc)
to_output rules lays form before after (Err (Opening refusals.Usage)) e promises = absurd (let bad : statuses.Usage ≡ statuses.OutputFault = e in cc)
to_output rules lays form before after (Err (Opening (refusals.Profile fault))) e promises = absurd (let bad : statuses.BadProfile ≡ statuses.OutputFault = e in cc)
to_output rules lays form before after (Err (Opening (refusals.Script fault))) e promises = absurd (let bad : statuses.BadScript ≡ statuses.OutputFault = e in cc)
to_output rules lays form before after (Err (Opening (refusals.Header fault))) e promises = absurd (let bad : statuses.BadCapture ≡ statuses.OutputFault = e in cc)
to_output rules lays form before after (Err (Opening (refusals.Input file))) e promises = absurd (let bad : statuses.InputFault ≡ statuses.OutputFault = e in cc)
to_output rules lays form before after (Err (Opening refusals.Device)) e promises = absurd (let bad : statuses.DeviceFault ≡ statuses.OutputFault = e in cc)
to_output rules lays form before after (Err (Opening refusals.Memory)) e promises = absurd (let bad : statuses.Memory ≡ statuses.OutputFault = e in cc)
to_output rules lays form before after (Err (Carrying (halts.Damage fault))) e promises = absurd (let bad : statuses.BadCapture ≡ statuses.OutputFault = e in cc)
to_output rules lays form before after (Err (Carrying halts.Input)) e promises = absurd (let bad : statuses.InputFault ≡ statuses.OutputFault = e in cc)
to_output rules lays form before after (Err (Carrying halts.Device)) e promises = absurd (let bad : statuses.DeviceFault ≡ statuses.OutputFault = e in cc)
to_output rules lays form before after (Err (Carrying halts.Output)) e promises = (promises.cause, shaped_by {T = Unit {0}} rules lays form before after (Err halts.Output) promises.carried)

device_opening : (form : Form) (before after : Seen) → IsRefused form refusals.Device before after → Rose before.regs after.regs × FailsDevice form after
device_opening Wrong before after refused = absurd (let bad = refused.0 in cc)
device_opening (Carry way profile script capture) before after refused = (refused.rose, inl ((refused.setup, refused.commands, refused.opened), refused.none))
device_opening (Demo seed count) before after refused = (refused.1.0, inl (tt, refused.1.1))

pub to_device : (rules : Rules) (lays : Board → Contents → Type 0) (form : Form) (before after : Seen) (ending : Result (Unit {0}) Stop)
    → status_of ending ≡ statuses.DeviceFault → Promises rules lays form ending before after → Rose before.regs after.regs × FailsDevice form after
to_device rules lays form before after (Ok x) e promises = absurd (let bad : statuses.Done ≡ statuses.DeviceFault = e in cc)
to_device rules lays form before after (Err (Opening refusals.Usage)) e promises = absurd (let bad : statuses.Usage ≡ statuses.DeviceFault = e in cc)
to_device rules lays form before after (Err (Opening (refusals.Profile fault))) e promises = absurd (let bad : statuses.BadProfile ≡ statuses.DeviceFault = e in cc)
to_device rules lays form before after (Err (Opening (refusals.Script fault))) e promises = absurd (let bad : statuses.BadScript ≡ statuses.DeviceFault = e in cc)
to_device rules lays form before after (Err (Opening (refusals.Header fault))) e promises = absurd (let bad : statuses.BadCapture ≡ statuses.DeviceFault = e in cc)
to_device rules lays form before after (Err (Opening (refusals.Input file))) e promises = absurd (let bad : statuses.InputFault ≡ statuses.DeviceFault = e in cc)
to_device rules lays form before after (Err (Opening refusals.Device)) e promises = device_opening form before after promises.refused
to_device rules lays form before after (Err (Opening refusals.Memory)) e promises = absurd (let bad : statuses.Memory ≡ statuses.DeviceFault = e in cc)
to_device rules lays form before after (Err (Carrying (halts.Damage fault))) e promises = absurd (let bad : statuses.BadCapture ≡ statuses.DeviceFault = e in cc)
to_device rules lays form before after (Err (Carrying halts.Input)) e promises = absurd (let bad : statuses.InputFault ≡ statuses.DeviceFault = e in cc)
to_device rules lays form before after (Err (Carrying halts.Device)) e promises = (promises.cause, inr (shaped_by {T = Unit {0}} rules lays form before after (Err halts.Device) promises.carried))
to_device rules lays form before after (Err (Carrying halts.Output)) e promises = absurd (let bad : statuses.OutputFault ≡ statuses.DeviceFault = e in cc)

pub to_nothing : (rules : Rules) (lays : Board → Contents → Type 0) (form : Form) (before after : Seen) (ending : Result (Unit {0}) Stop)
    → IsEarly (status_of ending) → Promises rules lays form ending before after → DidNothing before after
to_nothing rules lays form before after (Ok x) e promises = absurd e
to_nothing rules lays form before after (Err (Opening refusals.Usage)) e promises = promises.nothing
to_nothing rules lays form before after (Err (Opening (refusals.Profile fault))) e promises = promises.nothing
to_nothing rules lays form before after (Err (Opening (refusals.Script fault))) e promises = promises.nothing
to_nothing rules lays form before after (Err (Opening (refusals.Header fault))) e promises = absurd e
to_nothing rules lays form before after (Err (Opening (refusals.Input file))) e promises = absurd e
to_nothing rules lays form before after (Err (Opening refusals.Device)) e promises = absurd e
to_nothing rules lays form before after (Err (Opening refusals.Memory)) e promises = promises.nothing
to_nothing rules lays form before after (Err (Carrying (halts.Damage fault))) e promises = absurd e
to_nothing rules lays form before after (Err (Carrying halts.Input)) e promises = absurd e
to_nothing rules lays form before after (Err (Carrying halts.Device)) e promises = absurd e
to_nothing rules lays form before after (Err (Carrying halts.Output)) e promises = absurd e

-- no stray is counted where the files stay
strays_stay : (before after : Seen) → FilesStay before after → StraysStay after.directory before.strays after.strays
strays_stay before after stays = by after.directory.names
  where
    by : (x : Option (List (List ℕ))) → IfSome x (λ there. after.strays ≡ before.strays)
    by None = tt
    by (Some x) = stays.strays

-- no stray was counted but where a file failed
refused_names : (form : Form) (refusal : Refusal) (before after : Seen) → (status_of_refusal refusal ≡ statuses.InputFault → ⊥) → IsRefused form refusal before after
    → StraysStay after.directory before.strays after.strays
refused_names Wrong refusal before after other refused = refused.1
refused_names (Carry way profile script capture) refusals.Usage before after other refused = refused.names
refused_names (Carry way profile script capture) (refusals.Profile fault) before after other refused = refused.names
refused_names (Carry way profile script capture) (refusals.Script fault) before after other refused = refused.names
refused_names (Carry way profile script capture) (refusals.Header fault) before after other refused = refused.names
refused_names (Carry way profile script capture) (refusals.Input file) before after other refused = absurd (other refl)
refused_names (Carry way profile script capture) refusals.Device before after other refused = refused.strays
refused_names (Carry way profile script capture) refusals.Memory before after other refused = refused.names
refused_names (Demo seed count) refusal before after other refused = strays_stay before after refused.0

carried_names : {T : Type 0} (rules : Rules) (lays : Board → Contents → Type 0) (form : Form) (before after : Seen) (result : Result T Halt)
    → Carries rules lays form before after result → StraysStay after.directory before.strays after.strays
carried_names rules lays Wrong before after result carried = absurd carried
carried_names rules lays (Carry way profile script capture) before after result carried = carried.strays
carried_names rules lays (Demo seed count) before after result carried = strays_stay before after carried.stays

pub to_names : (rules : Rules) (lays : Board → Contents → Type 0) (form : Form) (before after : Seen) (ending : Result (Unit {0}) Stop)
    → (status_of ending ≡ statuses.InputFault → ⊥) → Promises rules lays form ending before after → StraysStay after.directory before.strays after.strays
to_names rules lays form before after (Ok x) other promises = carried_names {T = Unit {0}} rules lays form before after (Ok x) promises
to_names rules lays form before after (Err (Opening refusal)) other promises = refused_names form refusal before after other promises.refused
to_names rules lays form before after (Err (Carrying halt)) other promises = carried_names {T = Unit {0}} rules lays form before after (Err halt) promises.carried

-- and there at most the name of the file that failed
input_names : (form : Form) (file : File) (before after : Seen) → IsRefused form (refusals.Input file) before after
    → FailsByName form after.directory after.last before.strays after.strays
input_names Wrong file before after refused = absurd (let bad = refused.0 in cc)
input_names (Carry way profile script capture) file before after refused = (file, refused.cause.1, refused.names)
input_names (Demo seed count) file before after refused = absurd refused.1

carrying_names : (rules : Rules) (lays : Board → Contents → Type 0) (form : Form) (before after : Seen) → after.last ≡ 2
    → Carries {T = Unit {0}} rules lays form before after (Err halts.Input) → FailsByName form after.directory after.last before.strays after.strays
carrying_names rules lays Wrong before after e carried = absurd carried
carrying_names rules lays (Demo seed count) before after e carried = absurd carried.may
carrying_names rules lays (Carry way profile script capture) before after e carried = (files.Capture, e, by after.directory.names carried.strays)
  where
    by : (x : Option (List (List ℕ))) → IfSome x (λ there. after.strays ≡ before.strays) → IfSome x (λ there. list_any (bytes_eq capture) there ≡ true → after.strays ≡ before.strays)
    by None h = tt
    by (Some x) h = λ _. h

pub to_stray : (rules : Rules) (lays : Board → Contents → Type 0) (form : Form) (before after : Seen) (ending : Result (Unit {0}) Stop)
    → status_of ending ≡ statuses.InputFault → Promises rules lays form ending before after → FailsByName form after.directory after.last before.strays after.strays
to_stray rules lays form before after (Ok x) e promises = absurd (let bad : statuses.Done ≡ statuses.InputFault = e in cc)
to_stray rules lays form before after (Err (Opening refusals.Usage)) e promises = absurd (let bad : statuses.Usage ≡ statuses.InputFault = e in cc)
to_stray rules lays form before after (Err (Opening (refusals.Profile fault))) e promises = absurd (let bad : statuses.BadProfile ≡ statuses.InputFault = e in cc)
to_stray rules lays form before after (Err (Opening (refusals.Script fault))) e promises = absurd (let bad : statuses.BadScript ≡ statuses.InputFault = e in cc)
to_stray rules lays form before after (Err (Opening (refusals.Header fault))) e promises = absurd (let bad : statuses.BadCapture ≡ statuses.InputFault = e in cc)
to_stray rules lays form before after (Err (Opening (refusals.Input file))) e promises = input_names form file before after promises.refused
to_stray rules lays form before after (Err (Opening refusals.Device)) e promises = absurd (let bad : statuses.DeviceFault ≡ statuses.InputFault = e in cc)
to_stray rules lays form before after (Err (Opening refusals.Memory)) e promises = absurd (let bad : statuses.Memory ≡ statuses.InputFault = e in cc)
to_stray rules lays form before after (Err (Carrying (halts.Damage fault))) e promises = absurd (let bad : statuses.BadCapture ≡ statuses.InputFault = e in cc)
to_stray rules lays form before after (Err (Carrying halts.Input)) e promises = carrying_names rules lays form before after promises.cause.1 promises.carried
to_stray rules lays form before after (Err (Carrying halts.Device)) e promises = absurd (let bad : statuses.DeviceFault ≡ statuses.InputFault = e in cc)
to_stray rules lays form before after (Err (Carrying halts.Output)) e promises = absurd (let bad : statuses.OutputFault ≡ statuses.InputFault = e in cc)

-- a demo leaves the handed-in files, and no file or text of it is at fault
refused_demo : (seed count : ℕ) (refusal : Refusal) (before after : Seen) → IsRefused (Demo seed count) refusal before after
    → FilesStay before after × IsOfDemo (status_of_refusal refusal)
refused_demo seed count refusals.Usage before after refused = absurd refused.1
refused_demo seed count (refusals.Profile fault) before after refused = absurd refused.1
refused_demo seed count (refusals.Script fault) before after refused = absurd refused.1
refused_demo seed count (refusals.Header fault) before after refused = absurd refused.1
refused_demo seed count (refusals.Input file) before after refused = absurd refused.1
refused_demo seed count refusals.Device before after refused = (refused.0, tt)
refused_demo seed count refusals.Memory before after refused = (refused.0, tt)

carried_demo : (rules : Rules) (lays : Board → Contents → Type 0) (seed count : ℕ) (before after : Seen) (halt : Halt)
    → CarriesDemo {T = Unit {0}} rules lays seed count before after (Err halt) → FilesStay before after × IsOfDemo (status_of_halt halt)
carried_demo rules lays seed count before after (halts.Damage fault) carried = (carried.stays, tt)
carried_demo rules lays seed count before after halts.Input carried = absurd carried.may
carried_demo rules lays seed count before after halts.Device carried = (carried.stays, tt)
carried_demo rules lays seed count before after halts.Output carried = (carried.stays, tt)

pub to_demo : (rules : Rules) (lays : Board → Contents → Type 0) (form : Form) (before after : Seen) (ending : Result (Unit {0}) Stop)
    → Promises rules lays form ending before after → LeavesFiles form (status_of ending) before after
to_demo rules lays Wrong before after ending promises = tt
to_demo rules lays (Carry way profile script capture) before after ending promises = tt
to_demo rules lays (Demo seed count) before after (Ok x) promises = (promises.stays, tt)
to_demo rules lays (Demo seed count) before after (Err (Opening refusal)) promises = refused_demo seed count refusal before after promises.refused
to_demo rules lays (Demo seed count) before after (Err (Carrying halt)) promises = carried_demo rules lays seed count before after halt promises.carried
