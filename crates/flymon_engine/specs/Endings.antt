-- How a run ends, and what it promises of each end.
use Rattle.std.specs.Prelude.{◌≡◌, ℕ, ◌++◌, true, List, [], IfSome, Option, None, Result, Ok, Err}
use Rattle.outside.specs.Faults.{Rose}
use Rattle.outside.specs.Told.{Told, Stays}
use Rattle.fm_io.specs.Slots.{Cursor, Slots}
use Rattle.fm_io.specs.Names.{Directory}
use Rattle.fm_io.specs.declared.traits.Files.{Ghosts as FilesGhosts}
use Rattle.fm_io.specs.declared.traits.Sink.{Ghosts as SinkGhosts}
use Rattle.reg_file.specs.Registers.{Contents, Dims}
use Rattle.reg_file.specs.declared.traits.Call.{Call}
use Rattle.reg_file.specs.declared.traits.RegFile.{Ghosts as RegGhosts}
use Rattle.sw_profile.specs.declared.profiles.Profile.{Profile}
use Rattle.task_lang.specs.declared.commands.Command.{Command}
use Rattle.flymon_engine.specs.declared.status.Status.{Status}
use Rattle.flymon_engine.specs.declared.status.Status.TheVariants as statuses
use Rattle.flymon_engine.specs.declared.stop.Halt.{Halt}
use Rattle.flymon_engine.specs.declared.stop.Halt.TheVariants as halts
use Rattle.flymon_engine.specs.declared.stop.Refusal.{Refusal}
use Rattle.flymon_engine.specs.declared.stop.Refusal.TheVariants as refusals
use Rattle.flymon_engine.specs.declared.stop.Stop.{Stop}
use Rattle.flymon_engine.specs.declared.stop.Stop.TheVariants.{Opening, Carrying}
use Rattle.flymon_engine.specs.Words.{Form, Wrong, Carry, Demo}
use Rattle.flymon_engine.specs.Works.{works_of}
use Rattle.flymon_engine.specs.Causes.{HasCause}
use Rattle.flymon_engine.specs.Arrivals.{Left, left_in}
use Rattle.flymon_engine.specs.Boards.{Board, Rules, no_tasks}
use Rattle.flymon_engine.specs.Moves.{dims_of, NoCalls}
use Rattle.flymon_engine.specs.Runs.{Run, moved}
use Rattle.flymon_engine.specs.Stops.{Ends}
use Rattle.flymon_engine.specs.Worlds.{WhereTold}
use Rattle.flymon_engine.specs.Opening.{Opens, StopsFiles, HasInputCause, KeepsNames, StraysStay}
use Rattle.flymon_engine.specs.Messages.{message_of, SendsMessage}
use Rattle.sw_profile.specs.Profiles.{standard_profile}
use Rattle.task_lang.specs.Script.{script_in}
use Rattle.gen_capture.specs.Scripts.{script_text}
use Rattle.gen_capture.specs.Captures.{capture_text}

-- the exit status of the program
abbrev pub code_of : Status → ℕ
code_of statuses.Done = 0
code_of statuses.Usage = 2
code_of statuses.BadProfile = 3
code_of statuses.BadScript = 4
code_of statuses.BadCapture = 5
code_of statuses.InputFault = 6
code_of statuses.OutputFault = 7
code_of statuses.DeviceFault = 8
code_of statuses.Memory = 9

abbrev pub status_of_refusal : Refusal → Status
status_of_refusal refusals.Usage = statuses.Usage
status_of_refusal (refusals.Profile fault) = statuses.BadProfile
status_of_refusal (refusals.Script fault) = statuses.BadScript
status_of_refusal (refusals.Header fault) = statuses.BadCapture
status_of_refusal (refusals.Input file) = statuses.InputFault
status_of_refusal refusals.Device = statuses.DeviceFault
status_of_refusal refusals.Memory = statuses.Memory

abbrev pub status_of_halt : Halt → Status
status_of_halt (halts.Damage fault) = statuses.BadCapture
status_of_halt halts.Input = statuses.InputFault
status_of_halt halts.Device = statuses.DeviceFault
status_of_halt halts.Output = statuses.OutputFault

abbrev pub status_of : {T : Type 0} → Result T Stop → Status
status_of (Ok x) = statuses.Done
status_of (Err (Opening refusal)) = status_of_refusal refusal
status_of (Err (Carrying halt)) = status_of_halt halt

abbrev pub carried_as : {T : Type 0} → Result T Halt → Result T Stop
carried_as (Ok x) = Ok x
carried_as (Err halt) = Err (Carrying halt)

-- what is seen of files, registers and output
pub record Seen : Type 0 where
  pub files : ℕ
  pub last : ℕ
  pub strays : ℕ
  pub directory : Directory
  pub slots : Slots
  pub regs : ℕ
  pub dims : Dims
  pub cells : Option Contents
  pub calls : Option (List Call)
  pub out : ℕ
  pub sent : Option (List ℕ)

-- what these registers and this output show, beside files that show so much
abbrev pub seen_beside : {R O : Type 0} → RegGhosts R → SinkGhosts O → (files last strays : ℕ) → Directory → Slots → R → O → Seen
seen_beside r o files last strays directory slots regs out = record {
  files = files;
  last = last;
  strays = strays;
  directory = directory;
  slots = slots;
  regs = r.faults regs;
  dims = r.dims regs;
  cells = r.contents regs;
  calls = r.calls regs;
  out = o.faults out;
  sent = o.sent out;
}

abbrev pub seen : {F R O : Type 0} → FilesGhosts F → RegGhosts R → SinkGhosts O → F → R → O → Seen
seen f r o files regs out = seen_beside r o (f.faults files) (f.last files) (f.strays files) (f.directory files) (f.slots files) regs out

-- ---- a run that stopped at its opening

-- nothing was written, and no operation made
pub record DidNothing (before after : Seen) : Type 0 where
  pub text : Stays before.sent after.sent
  pub operations : NoCalls before.calls after.calls

-- the registers could not be shaped, and have no arrays
pub record StopsRegisters (profile script capture : List ℕ) (before after : Seen) : Type 0 where
  pub setup : Profile
  pub commands : List Command
  pub opened : Opens profile script capture after.directory after.slots setup commands
  pub rose : Rose before.regs after.regs
  pub none : after.dims.arrays ≡ 0
  pub strays : StraysStay after.directory before.strays after.strays

pub record StopsReading (profile script capture : List ℕ) (refusal : Refusal) (before after : Seen) : Type 0 where
  pub texts : StopsFiles profile script capture after.directory after.slots refusal
  pub cause : HasInputCause before.files after.files after.last refusal
  pub names : KeepsNames profile script capture after.directory before.strays after.strays refusal

abbrev pub StopsOpening : (profile script capture : List ℕ) → Refusal → Seen → Seen → Type 0
StopsOpening profile script capture refusals.Device before after = StopsRegisters profile script capture before after
StopsOpening profile script capture refusal before after = StopsReading profile script capture refusal before after

-- all meanings of the handed-in files are as they were
pub record FilesStay (before after : Seen) : Type 0 where
  pub faults : after.files ≡ before.files
  pub last : after.last ≡ before.last
  pub strays : after.strays ≡ before.strays
  pub directory : after.directory ≡ before.directory
  pub slots : after.slots ≡ before.slots

-- a demo has nothing to open: it stops for want of memory, or where the registers could not be shaped
abbrev pub StopsDemo : Refusal → Seen → Seen → Type 0
StopsDemo refusals.Memory before after = Unit {0}
StopsDemo refusals.Device before after = Rose before.regs after.regs × (after.dims.arrays ≡ 0)
StopsDemo refusal before after = ⊥

-- Usage comes exactly where the words are no form
abbrev pub IsRefused : Form → Refusal → Seen → Seen → Type 0
IsRefused Wrong refusal before after = (refusal ≡ refusals.Usage) × StraysStay after.directory before.strays after.strays
IsRefused (Carry way profile script capture) refusal before after = StopsOpening profile script capture refusal before after
IsRefused (Demo seed count) refusal before after = FilesStay before after × StopsDemo refusal before after

pub record Refuses (form : Form) (refusal : Refusal) (before after : Seen) : Type 0 where
  pub nothing : DidNothing before after
  pub refused : IsRefused form refusal before after

-- ---- a run that carried out its commands, or stopped in them

-- a run begins with no tasks, and with all that the capture gives
abbrev pub beginning : Profile → Left → Run
beginning profile left = record { text = []; calls = []; board = no_tasks profile; left = left }

-- what was under way is carried out
abbrev pub finished : Rules → Run → Run
finished rules run = moved run (rules.finish run.board)

-- where capture and registers are told: where the commands ended, and what was sent, made and left there
pub record Carried {T : Type 0} (rules : Rules) (lays : Board → Contents → Type 0) (profile : Profile) (before after : Seen)
    (result : Result T Halt) (commands : List Command) (cursor : Cursor) (cells : Contents) : Type 0 where
  pub left : Left
  pub opened : left_in cursor.bytes ≡ Ok left
  pub end : Run
  pub ends : Ends rules cursor.at result (beginning profile left) (works_of commands) end
  pub text : Told (λ old now. now ≡ old ++ end.text) before.sent after.sent
  pub operations : Told (λ old now. now ≡ (finished rules end).calls) before.calls after.calls
  pub registers : lays (finished rules end).board cells

pub record CarriesFiles {T : Type 0} (rules : Rules) (lays : Board → Contents → Type 0) (profile script capture : List ℕ)
    (before after : Seen) (result : Result T Halt) : Type 0 where
  pub setup : Profile
  pub commands : List Command
  pub opened : Opens profile script capture after.directory after.slots setup commands
  pub shaped : after.dims ≡ dims_of setup.shape
  pub strays : StraysStay after.directory before.strays after.strays
  pub attached : after.slots.capture.attached ≡ true
  pub carried : WhereTold after.slots.capture.cursor after.cells (Carried rules lays setup before after result commands)

-- how the commands of a demo may end: no file of it fails, and no damage is met where the registers tell their contents
abbrev pub DemoMayEnd : {T : Type 0} → Result T Halt → Option Contents → Type 0
DemoMayEnd (Ok x) cells = Unit {0}
DemoMayEnd (Err halts.Output) cells = Unit {0}
DemoMayEnd (Err halts.Device) cells = Unit {0}
DemoMayEnd (Err (halts.Damage fault)) cells = cells ≡ None
DemoMayEnd (Err halts.Input) cells = ⊥

-- the generated script was carried out over the generated capture, under the standard profile
pub record CarriesDemo {T : Type 0} (rules : Rules) (lays : Board → Contents → Type 0) (seed count : ℕ)
    (before after : Seen) (result : Result T Halt) : Type 0 where
  pub stays : FilesStay before after
  pub may : DemoMayEnd result after.cells
  pub commands : List Command
  pub script : script_in script_text ≡ Ok commands
  pub shaped : after.dims ≡ dims_of standard_profile.shape
  pub at : ℕ
  pub carried : IfSome after.cells (Carried rules lays standard_profile before after result commands (record { bytes = capture_text seed count; at = at }))

abbrev pub Carries : {T : Type 0} → Rules → (Board → Contents → Type 0) → Form → Seen → Seen → Result T Halt → Type 0
Carries rules lays Wrong before after result = ⊥
Carries rules lays (Carry way profile script capture) before after result = CarriesFiles rules lays profile script capture before after result
Carries rules lays (Demo seed count) before after result = CarriesDemo rules lays seed count before after result

pub record Halts (rules : Rules) (lays : Board → Contents → Type 0) (form : Form) (halt : Halt) (before after : Seen) : Type 0 where
  pub cause : HasCause before.files after.files after.last before.regs after.regs before.out after.out halt
  pub carried : Carries {T = Unit {0}} rules lays form before after (Err halt)

-- ---- all that a run promises, by how it ended

abbrev pub Promises : {T : Type 0} → Rules → (Board → Contents → Type 0) → Form → Result T Stop → Seen → Seen → Type 0
Promises rules lays form (Ok x) before after = Carries rules lays form before after (Ok x)
Promises rules lays form (Err (Opening refusal)) before after = Refuses form refusal before after
Promises rules lays form (Err (Carrying halt)) before after = Halts rules lays form halt before after

-- a run, as its status tells it
pub record Ran (rules : Rules) (lays : Board → Contents → Type 0) (form : Form) (status : Status) (before after : Seen)
    (err_before err_now : ℕ) (err_old err_new : Option (List ℕ)) : Type 0 where
  pub ending : Result (Unit {0}) Stop
  pub is : status ≡ status_of ending
  pub promises : Promises rules lays form ending before after
  pub message : SendsMessage (message_of ending) err_before err_now err_old err_new
