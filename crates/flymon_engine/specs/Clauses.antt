-- What a run promises of each status, in words of the texts and of the whole script.
use Rattle.std.specs.Prelude.{◌≡◌, ℕ, ◌++◌, ◌⊎◌, Bool, false, not, IfSome, List, Option, None, Some, Result, Ok}
use Rattle.outside.specs.Told.{Told}
use Rattle.fm_io.specs.Slots.{Cursor, Slots}
use Rattle.fm_io.specs.Names.{Directory}
use Rattle.reg_file.specs.Registers.{Contents}
use Rattle.capture_read.specs.declared.records.CaptureFault.{CaptureFault}
use Rattle.sw_profile.specs.declared.profiles.Profile.{Profile}
use Rattle.sw_profile.specs.declared.faults.ProfileFault.{ProfileFault}
use Rattle.sw_profile.specs.Profiles.{standard_profile}
use Rattle.gen_capture.specs.Scripts.{script_text}
use Rattle.gen_capture.specs.Captures.{capture_text}
use Rattle.task_lang.specs.declared.commands.Command.{Command}
use Rattle.task_lang.specs.declared.commands.ScriptFault.{ScriptFault}
use Rattle.task_lang.specs.Script.{script_in}
use Rattle.flymon_engine.specs.declared.status.Status.{Status}
use Rattle.flymon_engine.specs.declared.status.Status.TheVariants as statuses
use Rattle.flymon_engine.specs.declared.stop.File.{File}
use Rattle.flymon_engine.specs.declared.stop.Stop.{Stop}
use Rattle.flymon_engine.specs.Words.{Form, Wrong, Carry, Demo}
use Rattle.flymon_engine.specs.Works.{works_of}
use Rattle.flymon_engine.specs.Arrivals.{Left, left_in}
use Rattle.flymon_engine.specs.Boards.{Board, Rules}
use Rattle.flymon_engine.specs.Moves.{dims_of}
use Rattle.flymon_engine.specs.Worlds.{WhereTold}
use Rattle.flymon_engine.specs.Going.{going, damage_met}
use Rattle.flymon_engine.specs.Opening.{Opens, StopsFiles, FailsAt, number_of, is_standard, StraysBy, word_for}
use Rattle.flymon_engine.specs.declared.stop.Refusal.TheVariants as refusals
use Rattle.flymon_engine.specs.Endings.{Seen, FilesStay, beginning, finished, status_of}
use Rattle.flymon_engine.specs.Messages.{message_of, SendsMessage}

-- PROFILE names a file
abbrev pub names_profile : Form → Bool
names_profile Wrong = false
names_profile (Carry way profile script capture) = not (is_standard profile)
names_profile (Demo seed count) = false

-- the status of a run that stopped at its texts, or for want of memory
abbrev pub IsEarly : Status → Type 0
IsEarly statuses.Usage = Unit {0}
IsEarly statuses.BadProfile = Unit {0}
IsEarly statuses.BadScript = Unit {0}
IsEarly statuses.Memory = Unit {0}
IsEarly status = ⊥

-- the profile, the script and the capture's header are valid
abbrev pub HasOpened : Form → Directory → Slots → Type 0
HasOpened Wrong directory slots = ⊥
HasOpened (Carry way profile script capture) directory slots = (setup : Profile) × (commands : List Command) × Opens profile script capture directory slots setup commands
HasOpened (Demo seed count) directory slots = Unit {0}

-- and the registers have the shape of the profile
abbrev pub HasShaped : Form → Seen → Type 0
HasShaped Wrong after = ⊥
HasShaped (Carry way profile script capture) after = (setup : Profile) × (commands : List Command)
    × Opens profile script capture after.directory after.slots setup commands × (after.dims ≡ dims_of setup.shape)
HasShaped (Demo seed count) after = after.dims ≡ dims_of standard_profile.shape

-- the registers got no shape, or the device failed behind that
abbrev pub FailsDevice : Form → Seen → Type 0
FailsDevice form after = (HasOpened form after.directory after.slots × (after.dims.arrays ≡ 0)) ⊎ HasShaped form after

abbrev pub HasBadProfile : Form → Directory → Slots → Type 0
HasBadProfile Wrong directory slots = ⊥
HasBadProfile (Carry way profile script capture) directory slots = (fault : ProfileFault) × StopsFiles profile script capture directory slots (refusals.Profile fault)
HasBadProfile (Demo seed count) directory slots = ⊥

-- the profile is valid, and the script is not
abbrev pub HasBadScript : Form → Directory → Slots → Type 0
HasBadScript Wrong directory slots = ⊥
HasBadScript (Carry way profile script capture) directory slots = (fault : ScriptFault) × StopsFiles profile script capture directory slots (refusals.Script fault)
HasBadScript (Demo seed count) directory slots = ⊥

-- profile and script are valid, and the capture's header is not
abbrev pub HasBadHeader : Form → Directory → Slots → Type 0
HasBadHeader Wrong directory slots = ⊥
HasBadHeader (Carry way profile script capture) directory slots = (fault : CaptureFault) × StopsFiles profile script capture directory slots (refusals.Header fault)
HasBadHeader (Demo seed count) directory slots = ⊥

-- a file failed in the opening, at its place, or the capture behind its header
abbrev pub FailsInPlace : Form → Directory → Slots → ℕ → Type 0
FailsInPlace Wrong directory slots last = ⊥
FailsInPlace (Carry way profile script capture) directory slots last =
    ((file : File) × (last ≡ number_of file) × FailsAt profile script directory slots file)
    ⊎ ((last ≡ 2) × HasOpened (Carry way profile script capture) directory slots)
FailsInPlace (Demo seed count) directory slots last = ⊥

-- where the capture and the registers are told: the whole script, up to the damage, was sent, made and left
pub record IsWhole (rules : Rules) (lays : Board → Contents → Type 0) (profile : Profile) (commands : List Command) (damage : Option CaptureFault)
    (before after : Seen) (cursor : Cursor) (cells : Contents) : Type 0 where
  pub left : Left
  pub opened : left_in cursor.bytes ≡ Ok left
  pub met : damage_met rules (beginning profile left) (works_of commands) ≡ damage
  pub text : Told (λ old now. now ≡ old ++ (going rules (beginning profile left) (works_of commands)).text) before.sent after.sent
  pub operations : Told (λ old now. now ≡ (finished rules (going rules (beginning profile left) (works_of commands))).calls) before.calls after.calls
  pub registers : lays (finished rules (going rules (beginning profile left) (works_of commands))).board cells

-- the script was carried out to its end, or to this damage of the capture
pub record GoesFiles (rules : Rules) (lays : Board → Contents → Type 0) (profile script capture : List ℕ) (damage : Option CaptureFault)
    (before after : Seen) : Type 0 where
  pub setup : Profile
  pub commands : List Command
  pub opened : Opens profile script capture after.directory after.slots setup commands
  pub shaped : after.dims ≡ dims_of setup.shape
  pub whole : WhereTold after.slots.capture.cursor after.cells (IsWhole rules lays setup commands damage before after)

-- the same of a demo: its script over its capture, under the standard profile
pub record GoesDemo (rules : Rules) (lays : Board → Contents → Type 0) (seed count : ℕ) (before after : Seen) : Type 0 where
  pub commands : List Command
  pub script : script_in script_text ≡ Ok commands
  pub shaped : after.dims ≡ dims_of standard_profile.shape
  pub whole : IfSome after.cells (IsWhole rules lays standard_profile commands None before after (record { bytes = capture_text seed count; at = 0 }))

-- a demo meets no damage where the registers tell their contents
abbrev pub DemoGoes : Rules → (Board → Contents → Type 0) → ℕ → ℕ → Option CaptureFault → Seen → Seen → Type 0
DemoGoes rules lays seed count None before after = GoesDemo rules lays seed count before after
DemoGoes rules lays seed count (Some fault) before after = after.cells ≡ None

abbrev pub GoesAll : Rules → (Board → Contents → Type 0) → Form → Option CaptureFault → Seen → Seen → Type 0
GoesAll rules lays Wrong damage before after = ⊥
GoesAll rules lays (Carry way profile script capture) damage before after = GoesFiles rules lays profile script capture damage before after
GoesAll rules lays (Demo seed count) damage before after = DemoGoes rules lays seed count damage before after

-- the header is bad, or the script meets a damage
abbrev pub IsDamaged : Rules → (Board → Contents → Type 0) → Form → Seen → Seen → Type 0
IsDamaged rules lays form before after =
    HasBadHeader form after.directory after.slots ⊎ ((fault : CaptureFault) × GoesAll rules lays form (Some fault) before after)

-- of names that are not there at most that of the file was attached that failed last
abbrev pub FailsByName : Form → Directory → ℕ → ℕ → ℕ → Type 0
FailsByName Wrong directory last before now = ⊥
FailsByName (Carry way profile script capture) directory last before now =
    (file : File) × (last ≡ number_of file) × StraysBy (word_for profile script capture file) directory before now
FailsByName (Demo seed count) directory last before now = ⊥

-- the one message of an end that has this status
pub record SendsItsMessage (status : Status) (faults now : ℕ) (before after : Option (List ℕ)) : Type 0 where
  pub ending : Result (Unit {0}) Stop
  pub is : status ≡ status_of ending
  pub message : SendsMessage (message_of ending) faults now before after

-- the statuses of a demo: no words, profile, script or file of it is at fault
abbrev pub IsOfDemo : Status → Type 0
IsOfDemo statuses.Usage = ⊥
IsOfDemo statuses.BadProfile = ⊥
IsOfDemo statuses.BadScript = ⊥
IsOfDemo statuses.InputFault = ⊥
IsOfDemo status = Unit {0}

-- a demo leaves all meanings of the handed-in files
abbrev pub LeavesFiles : Form → Status → Seen → Seen → Type 0
LeavesFiles Wrong status before after = Unit {0}
LeavesFiles (Carry way profile script capture) status before after = Unit {0}
LeavesFiles (Demo seed count) status before after = FilesStay before after × IsOfDemo status
