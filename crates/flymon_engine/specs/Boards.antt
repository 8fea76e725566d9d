-- The live tasks of a machine with their packets, the packets in flight, and what becomes of them.
use Rattle.std.specs.Prelude.{List, [], ℕ, Bool}
use Rattle.reg_file.specs.declared.traits.Call.{Call}
use Rattle.pkt_headers.specs.declared.packets.Packet.{Packet}
use Rattle.switch_model.specs.Records.{Record}
use Rattle.sw_profile.specs.declared.profiles.Profile.{Profile}
use Rattle.flymon_engine.specs.declared.work.Change.{Change}
use Rattle.flymon_engine.specs.declared.work.Request.{Request}

-- a packet in flight: the group before which it stands, whether it entered before the last change, and the operations that
-- it has still to make
pub record Aloft : Type 0 where
  pub group : ℕ
  pub kept : Bool
  pub calls : List Call

-- the profile of the switch, the live tasks that stand on it, and the packets in flight in order of entry
pub record Board : Type 0 where
  pub profile : Profile
  pub records : List Record
  pub flying : List Aloft

abbrev pub no_tasks : Profile → Board
no_tasks profile = record { profile = profile; records = []; flying = [] }

-- what a change or a request comes to if no call of the outside fails, and the lines that say it
pub data Verdict : Type 0 where
  Accepted : (lines : List ℕ) → Verdict
  Refused : (lines : List ℕ) → Verdict

abbrev pub lines_in : Verdict → List ℕ
lines_in (Accepted lines) = lines
lines_in (Refused lines) = lines

abbrev pub IsAccepted : Verdict → Type 0
IsAccepted (Accepted lines) = Unit {0}
IsAccepted (Refused lines) = ⊥

-- a next board, and the operations that lead there
pub record Move : Type 0 where
  pub board : Board
  pub calls : List Call

-- What packets, changes and questions come to. A change has so many parts; where the device refuses it behind some of
-- them, but not behind all, `spoil` is what they leave. At its end a run finishes what is under way.
pub record Rules : Type 0 where
  pub pass : Board → Packet → Move
  pub verdict : Board → Change → Verdict
  pub change : Board → Change → Move
  pub parts : Board → Change → ℕ
  pub spoil : Board → Change → ℕ → Move
  pub answer : Board → Request → Verdict
  pub ask : Board → Request → Move
  pub finish : Board → Move
