-- What holds of every switch.
use Rattle.std.specs.Prelude.{◌≡◌, ◌≢◌, ℕ, ◌+◌, ◌^◌, ◌==◌, ◌&&◌, Bool, true, false, ⊤, None, nat_le, nat_lt, List, [], ◌∷◌, ◌++◌, map, Ok, Err}
use Rattle.std.specs.List.{All, AllPairs, list_any}
use Rattle.addr_translate.specs.Geometry.{Geometry, IsGeometry}
use Rattle.pkt_headers.specs.declared.packets.Packet.{Packet}
use Rattle.reg_file.specs.declared.traits.Call.{Call}
use Rattle.reg_file.specs.Registers.{Contents}
use Rattle.reg_file.specs.Calls.{all_made}
use Rattle.sketch_defs.specs.Tasks.{Sketch, first_fault}
use Rattle.sketch_lower.specs.Operations.{start_of}
use Rattle.switch_model.specs.Records.{Record, outlines}
use Rattle.switch_model.specs.Sights.{Holding, live_holding}
use Rattle.switch_model.specs.Soundness.{Sound}
use Rattle.switch_model.specs.Changes.{Change, Add, Resize, Remove, Release, Edit, Push, Move, Drop, Thaw, Refusal, judged, changed, edited_records}
use Rattle.switch_model.specs.Packets.{join, calls_of, Layout}
use Rattle.switch_model.specs.Histories.{Event, Passes, Changes, stepped, after, accepted, part_of, alone}

-- a task that is added is one that there may be
abbrev pub IsProper : Change → Type 0
IsProper (Add task) = first_fault task ≡ None
IsProper (Resize name size) = ⊤
IsProper (Remove name) = ⊤
IsProper (Release name) = ⊤

abbrev pub IsPossible : Event → Type 0
IsPossible (Passes packet) = ⊤
IsPossible (Changes change) = IsProper change

-- packets and changes keep the tasks sound
abbrev pub StaysSound : Type 0
StaysSound = (geometry : Geometry) (records : List Record) (event : Event) → IsGeometry geometry → IsPossible event
    → Sound geometry (outlines records) → Sound geometry (outlines (stepped geometry records event))

-- a packet makes at most one operation on each array
abbrev pub OneCallAnArray : Type 0
OneCallAnArray = (geometry : Geometry) (hash_key : List ℕ) (records : List Record) (packet : Packet)
    → Sound geometry (outlines records) → AllPairs (λ (one two : Call). one.array ≢ two.array) (calls_of geometry hash_key packet records)

-- a task's sketch part is the one that it has alone, whatever other tasks do
abbrev pub IsAlone : Type 0
IsAlone = (geometry : Geometry) (name : List ℕ) (events : List Event)
    → part_of name (after geometry [] events) ≡ alone name (accepted geometry [] events)

-- an added task that is removed leaves the tasks and their places as they were
abbrev pub RemovalRestores : Type 0
RemovalRestores = (geometry : Geometry) (records : List Record) (task : Sketch) (edit : Edit) (packets : List Packet)
    → judged geometry (outlines records) (Add task) ≡ Ok edit
    → outlines (after geometry (edited_records edit records) (map Passes packets ++ Changes (Remove task.name) ∷ [])) ≡ outlines records

-- a refused change leaves the tasks, their places and their packets
abbrev pub RefusalLeaves : Type 0
RefusalLeaves = (geometry : Geometry) (records : List Record) (change : Change) (why : Refusal)
    → judged geometry (outlines records) change ≡ Err why → changed geometry records change ≡ records

-- what changes leave as it was
pub record Restores : Type 0 where
  pub removed : RemovalRestores
  pub refused : RefusalLeaves

-- ---- registers

-- after a packet's operations registers that were laid out are so again
abbrev pub PacketKeepsLayout : Type 0
PacketKeepsLayout = (geometry : Geometry) (hash_key : List ℕ) (records : List Record) (packet : Packet) (contents : Contents)
    → Sound geometry (outlines records) → Layout hash_key records contents
    → Layout hash_key (join packet records) (all_made contents (calls_of geometry hash_key packet records))

-- the register stands in the region
abbrev pub is_in : ℕ → ℕ → Holding → Bool
is_in array addr h = h.array == array && (nat_le h.region.base addr && nat_lt addr (h.region.base + 2 ^ h.region.bits))

-- the regions that an edit takes, and what their registers start at
abbrev pub fresh_of : Edit → List Holding
fresh_of (Push task rows) = map live_holding rows
fresh_of (Move at task rows) = map live_holding rows
fresh_of (Drop at) = []
fresh_of (Thaw at) = []

abbrev pub start_in : Edit → ℕ
start_in (Push task rows) = start_of task.kind
start_in (Move at task rows) = start_of task.kind
start_in (Drop at) = 0
start_in (Thaw at) = 0

-- the registers of these regions hold the value, and all others are as they were
pub record Refilled (fresh : List Holding) (value : ℕ) (old new : Contents) : Type 0 where
  pub filled : All (λ (h : Holding). (addr : ℕ) → is_in h.array addr h ≡ true → new h.array addr ≡ value) fresh
  pub others : (array addr : ℕ) → list_any (is_in array addr) fresh ≡ false → new array addr ≡ old array addr

-- a change that fills the regions that it takes, and no other register, leaves the registers laid out
abbrev pub ChangeKeepsLayout : Type 0
ChangeKeepsLayout = (geometry : Geometry) (hash_key : List ℕ) (records : List Record) (change : Change) (edit : Edit) (old new : Contents)
    → IsGeometry geometry → Sound geometry (outlines records) → Layout hash_key records old
    → judged geometry (outlines records) change ≡ Ok edit → Refilled (fresh_of edit) (start_in edit) old new
    → Layout hash_key (edited_records edit records) new
