-- What a call of a machine leaves, where the registers tell their contents.
use Rattle.std.specs.Prelude.{◌≡◌, ◌<◌, ◌⊎◌, [], ℕ, List, length, Option, None, Some, Result, Ok, Err}
use Rattle.arrayvec.specs.ArrayString.{ArrayString}
use Rattle.outside.specs.Told.{Told, Stays, Grows}
use Rattle.outside.specs.Sent.{CameInPart}
use Rattle.addr_translate.specs.Geometry.{Geometry, array_count, greatest_bits}
use Rattle.reg_file.specs.Registers.{Contents, Dims}
use Rattle.reg_file.specs.declared.traits.Call.{Call}
use Rattle.flymon_engine.specs.declared.work.Change.{Change}
use Rattle.flymon_engine.specs.declared.work.Request.{Request}
use Rattle.flymon_engine.specs.declared.machine.AskFault.{AskFault}
use Rattle.flymon_engine.specs.declared.machine.AskFault.TheVariants.{Device, Write}
use Rattle.flymon_engine.specs.Boards.{Board, Move, Verdict, Accepted, Refused, lines_in, IsAccepted, Rules}
use Rattle.flymon_engine.specs.Works.{IsFilling, IsReading}

-- a register file for switches of this geometry
abbrev pub dims_of : Geometry → Dims
dims_of geometry = record { arrays = array_count geometry; bits = greatest_bits geometry }

-- what is told was told before
abbrev pub WasTold : {A : Type 0} → Option A → Option A → Type 0
WasTold = Told (λ old now. Unit {0})

-- no operation was made: the list is as it was, or empty
abbrev pub NoCalls : Option (List Call) → Option (List Call) → Type 0
NoCalls = Told (λ old now. (now ≡ old) ⊎ (now ≡ []))

-- the machine stands where the move leads, and made its operations
pub record Moves (stands : Board → Contents → Type 0) (move : Move) (before after : Option (List Call)) (cells : Contents) : Type 0 where
  pub stood : stands move.board cells
  pub made : Grows before move.calls after

-- a change was judged by the rules, and this line says so
pub record Judges (rules : Rules) (stands : Board → Contents → Type 0) (board : Board) (change : Change) (line : List ℕ)
    (before after : Option (List Call)) (cells : Contents) : Type 0 where
  pub judged : lines_in (rules.verdict board change) ≡ line
  pub moves : Moves stands (rules.change board change) before after cells

-- the device refused a change that the rules accept
pub record Spoils (rules : Rules) (stands : Board → Contents → Type 0) (board : Board) (change : Change)
    (before after : Option (List Call)) (cells : Contents) : Type 0 where
  pub accepted : IsAccepted (rules.verdict board change)
  pub filling : IsFilling change
  pub said : 0 < length (lines_in (rules.verdict board change))
  pub part : ℕ
  pub less : part < rules.parts board change
  pub moves : Moves stands (rules.spoil board change part) before after cells

abbrev pub Changes : {E : Type 0} → Rules → (Board → Contents → Type 0) → Board → Change → Result ArrayString E
    → Option (List Call) → Option (List Call) → Contents → Type 0
Changes rules stands board change (Ok line) before after cells = Judges rules stands board change line.bytes before after cells
Changes rules stands board change (Err fault) before after cells = Spoils rules stands board change before after cells

-- a request was answered, and all lines were sent
pub record SendsAll (answer : Verdict) (before after : Option (List ℕ)) : Type 0 where
  pub lines : List ℕ
  pub is : answer ≡ Accepted lines
  pub grows : Grows before lines after

-- it was refused, for which this line stands, and nothing was sent
pub record SendsNone (answer : Verdict) (line : List ℕ) (before after : Option (List ℕ)) : Type 0 where
  pub is : answer ≡ Refused line
  pub stays : Stays before after

-- of the lines of an answer a proper front was sent
pub record CutsOff (answer : Verdict) (before after : Option (List ℕ)) : Type 0 where
  pub lines : List ℕ
  pub is : answer ≡ Accepted lines
  pub part : CameInPart before lines after

-- the device alone cuts off the answers for which registers are read
abbrev pub Answers : Request → Verdict → Result (Option ArrayString) AskFault → Option (List ℕ) → Option (List ℕ) → Type 0
Answers request answer (Ok None) before after = SendsAll answer before after
Answers request answer (Ok (Some line)) before after = SendsNone answer line.bytes before after
Answers request answer (Err Device) before after = IsReading request × CutsOff answer before after
Answers request answer (Err Write) before after = CutsOff answer before after
