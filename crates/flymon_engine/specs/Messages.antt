-- The one message of a run that stops.
use Rattle.std.specs.Prelude.{ℕ, List, [], ◌++◌, codes, decimal, Option, Result, Ok, Err}
use Rattle.outside.specs.Faults.{Rose}
use Rattle.outside.specs.Told.{Grows}
use Rattle.outside.specs.Sent.{CameInFront}
use Rattle.capture_read.specs.declared.records.CaptureFault.{CaptureFault}
use Rattle.capture_read.specs.declared.records.CaptureFault.TheVariants.{ShortHeader, BadMagic, BadLink, ShortRecord, BigRecord, Read}
use Rattle.key_mask.specs.declared.items.FieldFault.{FieldFault}
use Rattle.key_mask.specs.Items.{field_words}
use Rattle.sw_profile.specs.Words.{fault_text}
use Rattle.task_lang.specs.declared.commands.LineFault.{LineFault}
use Rattle.task_lang.specs.declared.commands.LineFault.TheVariants as lines
use Rattle.task_lang.specs.declared.commands.ScriptFault.{ScriptFault}
use Rattle.flymon_engine.specs.declared.stop.File.{File}
use Rattle.flymon_engine.specs.declared.stop.File.TheVariants as files
use Rattle.flymon_engine.specs.declared.stop.Refusal.{Refusal}
use Rattle.flymon_engine.specs.declared.stop.Refusal.TheVariants as refusals
use Rattle.flymon_engine.specs.declared.stop.Halt.{Halt}
use Rattle.flymon_engine.specs.declared.stop.Halt.TheVariants as halts
use Rattle.flymon_engine.specs.declared.stop.Stop.{Stop}
use Rattle.flymon_engine.specs.declared.stop.Stop.TheVariants.{Opening, Carrying}

abbrev pub file_words : File → List ℕ
file_words files.Profile = codes "profile\n"
file_words files.Script = codes "script\n"
file_words files.Capture = codes "capture\n"

-- what is wrong with a capture; a failed read is never told here, since it stops a run as an input fault
abbrev pub fault_words : CaptureFault → List ℕ
fault_words ShortHeader = codes "short header\n"
fault_words BadMagic = codes "bad magic\n"
fault_words (BadLink link) = codes "bad link " ++ (decimal link ++ codes "\n")
fault_words (ShortRecord offset) = codes "short record at " ++ (decimal offset ++ codes "\n")
fault_words (BigRecord offset len) = codes "big record at " ++ (decimal offset ++ (codes " length " ++ (decimal len ++ codes "\n")))
fault_words Read = codes "short header\n"

-- what is wrong with an item of a key or a filter, and where the item stands
abbrev pub item_words : List ℕ → FieldFault → List ℕ
item_words word fault = word ++ (field_words fault.kind ++ (decimal fault.place ++ codes "\n"))

-- what is wrong with a line of a script
abbrev pub line_words : LineFault → List ℕ
line_words lines.TooLong = codes "too long\n"
line_words lines.Byte = codes "byte\n"
line_words lines.Command = codes "command\n"
line_words lines.Words = codes "words\n"
line_words lines.Name = codes "name\n"
line_words lines.Kind = codes "kind\n"
line_words lines.Rows = codes "rows\n"
line_words (lines.Key fault) = item_words (codes "key ") fault
line_words lines.Attr = codes "attr\n"
line_words (lines.Filter fault) = item_words (codes "filter ") fault
line_words lines.Size = codes "size\n"
line_words lines.Number = codes "number\n"
line_words (lines.At fault) = item_words (codes "at ") fault

abbrev pub script_words : ScriptFault → List ℕ
script_words fault = decimal fault.line ++ (codes ": " ++ line_words fault.kind)

abbrev pub refusal_words : Refusal → List ℕ
refusal_words refusals.Usage = codes "usage: flymon replay PROFILE SCRIPT CAPTURE | flymon demo SEED COUNT | flymon flight PROFILE SCRIPT CAPTURE\n"
refusal_words (refusals.Profile fault) = codes "bad profile: " ++ (fault_text fault ++ codes "\n")
refusal_words (refusals.Script fault) = codes "bad script line " ++ script_words fault
refusal_words (refusals.Header fault) = codes "bad capture: " ++ fault_words fault
refusal_words (refusals.Input file) = codes "input fault: " ++ file_words file
refusal_words refusals.Device = codes "device fault\n"
refusal_words refusals.Memory = codes "out of memory\n"

abbrev pub halt_words : Halt → List ℕ
halt_words (halts.Damage fault) = codes "bad capture: " ++ fault_words fault
halt_words halts.Input = codes "input fault: capture\n"
halt_words halts.Device = codes "device fault\n"
halt_words halts.Output = codes "output fault\n"

-- what a run says of its end: of a script that was done nothing
abbrev pub message_of : {T : Type 0} → Result T Stop → List ℕ
message_of (Ok x) = []
message_of (Err (Opening refusal)) = refusal_words refusal
message_of (Err (Carrying halt)) = halt_words halt

-- a front of the message was sent, and the whole where no call on the sink failed
pub record SendsMessage (message : List ℕ) (faults now : ℕ) (before after : Option (List ℕ)) : Type 0 where
  pub front : CameInFront before message after
  pub whole : (Rose faults now → ⊥) → Grows before message after
