-- The opening of a run: which files the words name, what their texts say, and why one of them stops the run.
use Rattle.std.specs.Prelude.{◌≡◌, ℕ, ◌≤◌, Bool, true, false, List, codes, Option, None, Some, IfSome, Ok, Err, MatchBool}
use Rattle.std.specs.List.{list_any}
use Rattle.std.specs.Str.{bytes_eq}
use Rattle.outside.specs.Faults.{Rose}
use Rattle.fm_io.specs.declared.loops.ReadFail.{ReadFail}
use Rattle.fm_io.specs.declared.loops.ReadFail.TheVariants.{Memory, Failed}
use Rattle.fm_io.specs.Slots.{Slot, Slots}
use Rattle.fm_io.specs.Names.{Directory, told_text}
use Rattle.capture_read.specs.declared.records.CaptureFault.{CaptureFault}
use Rattle.capture_read.specs.declared.records.CaptureFault.TheVariants.{Read}
use Rattle.sw_profile.specs.declared.profiles.Profile.{Profile}
use Rattle.sw_profile.specs.Profiles.{profile_in, standard_profile}
use Rattle.task_lang.specs.declared.commands.Command.{Command}
use Rattle.task_lang.specs.Script.{script_in}
use Rattle.flymon_engine.specs.declared.words.Asked.{Asked}
use Rattle.flymon_engine.specs.declared.words.Asked.TheVariants as asked
use Rattle.flymon_engine.specs.declared.stop.File.{File}
use Rattle.flymon_engine.specs.declared.stop.File.TheVariants as files
use Rattle.flymon_engine.specs.declared.stop.Refusal.{Refusal}
use Rattle.flymon_engine.specs.declared.stop.Refusal.TheVariants as refusals
use Rattle.flymon_engine.specs.Words.{Form, Wrong, Carry, Demo}
use Rattle.flymon_engine.specs.Arrivals.{Left, left_in}

abbrev pub form_view : Option Asked → Form
form_view None = Wrong
form_view (Some (asked.Carry way names)) = Carry way names.profile.now names.script.now names.capture.now
form_view (Some (asked.Demo seed count)) = Demo seed count

-- a demo of a million packets or fewer
abbrev pub IsWithinDemo : Asked → Type 0
IsWithinDemo (asked.Carry way names) = Unit {0}
IsWithinDemo (asked.Demo seed count) = count ≤ 1000000

-- PROFILE `-` is the standard profile, and no file
abbrev pub is_standard : List ℕ → Bool
is_standard name = bytes_eq name (codes "-")

-- the name is there, where names are told
abbrev pub IsThere : List ℕ → Directory → Type 0
IsThere name directory = IfSome directory.names (λ there. list_any (bytes_eq name) there ≡ true)

-- the file of a name was read from a slot, and this holds of its text, where that is told
pub record Reads (name : List ℕ) (directory : Directory) (slot : Slot) (P : List ℕ → Type 0) : Type 0 where
  pub there : IsThere name directory
  pub text : IfSome (told_text directory slot name) P

-- ---- what the texts give

abbrev pub GivesProfile : List ℕ → Directory → Slots → Profile → Type 0
GivesProfile name directory slots profile =
    MatchBool (is_standard name) (profile ≡ standard_profile) (Reads name directory slots.profile (λ text. profile_in text ≡ Ok profile))

abbrev pub GivesCommands : List ℕ → Directory → Slots → List Command → Type 0
GivesCommands name directory slots commands = Reads name directory slots.script (λ text. script_in text ≡ Ok commands)

-- the header of the capture is good
abbrev pub HasHeader : List ℕ → Directory → Slots → Type 0
HasHeader name directory slots = Reads name directory slots.capture (λ bytes. (left : Left) × (left_in bytes ≡ Ok left))

-- the three of them
pub record Opens (profile_name script_name capture_name : List ℕ) (directory : Directory) (slots : Slots)
    (profile : Profile) (commands : List Command) : Type 0 where
  pub profile_text : GivesProfile profile_name directory slots profile
  pub script_text : GivesCommands script_name directory slots commands
  pub header : HasHeader capture_name directory slots

-- ---- why one of them stops the run

-- the profile is valid, or standard
abbrev pub HasProfile : List ℕ → Directory → Slots → Type 0
HasProfile name directory slots = (profile : Profile) × GivesProfile name directory slots profile

-- and the script is valid
pub record IsValid (profile_name script_name : List ℕ) (directory : Directory) (slots : Slots) : Type 0 where
  pub profile : HasProfile profile_name directory slots
  pub commands : List Command
  pub script_text : GivesCommands script_name directory slots commands

-- where the slot is attached and told, at most so many bytes of it were read
abbrev pub IsWithin : ℕ → Slot → Type 0
IsWithin limit slot = slot.attached ≡ true → IfSome slot.cursor (λ cursor. cursor.at ≤ limit)

-- where a file may fail: behind what is read before it, and within its limit
abbrev pub FailsAt : (profile script : List ℕ) → Directory → Slots → File → Type 0
FailsAt profile script directory slots files.Profile = (is_standard profile ≡ false) × IsWithin 65536 slots.profile
FailsAt profile script directory slots files.Script = HasProfile profile directory slots × IsWithin 1048576 slots.script
FailsAt profile script directory slots files.Capture = IsValid profile script directory slots × IsWithin 23 slots.capture

-- what stopped a run over files before its registers were shaped
abbrev pub StopsFiles : (profile script capture : List ℕ) → Directory → Slots → Refusal → Type 0
StopsFiles profile script capture directory slots (refusals.Profile fault) =
    (is_standard profile ≡ false) × Reads profile directory slots.profile (λ text. profile_in text ≡ Err fault)
StopsFiles profile script capture directory slots (refusals.Script fault) =
    HasProfile profile directory slots × Reads script directory slots.script (λ text. script_in text ≡ Err fault)
StopsFiles profile script capture directory slots (refusals.Header fault) =
    IsValid profile script directory slots × Reads capture directory slots.capture (λ bytes. left_in bytes ≡ Err fault)
StopsFiles profile script capture directory slots (refusals.Input file) = FailsAt profile script directory slots file
StopsFiles profile script capture directory slots refusals.Memory = Unit {0}
StopsFiles profile script capture directory slots refusals.Usage = ⊥
StopsFiles profile script capture directory slots refusals.Device = ⊥

-- what a file that could not be read is to the run
abbrev pub refusal_of : File → ReadFail → Refusal
refusal_of file Failed = refusals.Input file
refusal_of file Memory = refusals.Memory

-- what a fault of the capture's header is to the run
abbrev pub header_refusal : CaptureFault → Refusal
header_refusal Read = refusals.Input files.Capture
header_refusal fault = refusals.Header fault

-- ---- calls on files

abbrev pub number_of : File → ℕ
number_of files.Profile = 0
number_of files.Script = 1
number_of files.Capture = 2

-- a failed call has its cause, and stands in the slot of the file
abbrev pub HasInputCause : ℕ → ℕ → ℕ → Refusal → Type 0
HasInputCause before now last (refusals.Input file) = Rose before now × (last ≡ number_of file)
HasInputCause before now last refusal = Unit {0}

-- no name was attached that is not there
abbrev pub StraysStay : Directory → ℕ → ℕ → Type 0
StraysStay directory before now = IfSome directory.names (λ there. now ≡ before)

-- none but this one
abbrev pub StraysBy : List ℕ → Directory → ℕ → ℕ → Type 0
StraysBy name directory before now = IfSome directory.names (λ there. list_any (bytes_eq name) there ≡ true → now ≡ before)

-- the word that names a file
abbrev pub word_for : (profile script capture : List ℕ) → File → List ℕ
word_for profile script capture files.Profile = profile
word_for profile script capture files.Script = script
word_for profile script capture files.Capture = capture

-- a name that is not there was attached only where its file failed
abbrev pub KeepsNames : (profile script capture : List ℕ) → Directory → ℕ → ℕ → Refusal → Type 0
KeepsNames profile script capture directory before now (refusals.Input file) = StraysBy (word_for profile script capture file) directory before now
KeepsNames profile script capture directory before now refusal = StraysStay directory before now
