-- What a capture still gives.
use Rattle.std.specs.Prelude.{◌≡◌, ℕ, ◌≤◌, ◌<◌, List, [], ◌∷◌, map, Option, None, Some, Result, Ok, Err}
use Rattle.std.specs.List.{All}
use Rattle.fm_io.specs.Slots.{Cursor}
use Rattle.capture_read.specs.declared.records.CaptureFault.{CaptureFault}
use Rattle.capture_read.specs.declared.records.CaptureFault.TheVariants.{Read}
use Rattle.capture_read.specs.Records.{Record}
use Rattle.capture_read.specs.Reading.{Reading, Records, records_in, capture_in}
use Rattle.pkt_headers.specs.declared.packets.Packet.{Packet}
use Rattle.pkt_headers.specs.Packets.{packet_in}

-- a packet, and the place behind its record
pub record Arrival : Type 0 where
  pub packet : Packet
  pub end : ℕ

-- the packets that are left, and the fault that ends them, if one does
pub record Left : Type 0 where
  pub list : List Arrival
  pub fault : Option CaptureFault

abbrev pub nothing_left : Option CaptureFault → Left
nothing_left fault = record { list = []; fault = fault }

abbrev pub arrival_of : Record → Arrival
arrival_of found = record { packet = packet_in found.frame found.len; end = found.end }

abbrev pub left_of : Records → Left
left_of records = record { list = map arrival_of records.list; fault = records.fault }

abbrev pub left_by : Result Records CaptureFault → Result Left CaptureFault
left_by (Ok records) = Ok (left_of records)
left_by (Err fault) = Err fault

-- what a whole capture gives, or the fault of its header
abbrev pub left_in : List ℕ → Result Left CaptureFault
left_in bytes = left_by (capture_in bytes)

-- this is left of the bytes that the cursor tells, behind what was read
abbrev pub Comes : Reading → Left → Cursor → Type 0
Comes reading left cursor = left ≡ left_of (records_in cursor.bytes reading)

-- the next record was read, and the position is not before its end
pub record GivesOne (comes : Left → Cursor → Type 0) (left : Left) (packet : Packet) (cursor : Cursor) : Type 0 where
  pub end : ℕ
  pub rest : List Arrival
  pub next : left.list ≡ record { packet = packet; end = end } ∷ rest
  pub read : end ≤ cursor.at
  pub goes_on : comes (record { list = rest; fault = left.fault }) cursor

-- the capture ended
pub record GivesNone (comes : Left → Cursor → Type 0) (left : Left) (cursor : Cursor) : Type 0 where
  pub none : left ≡ nothing_left None
  pub stays : comes left cursor

-- what the next record comes to: where a read failed, no record that is left ends at or before the position
abbrev pub Gives : (Left → Cursor → Type 0) → Left → Result (Option Packet) CaptureFault → Cursor → Type 0
Gives comes left (Ok (Some packet)) cursor = GivesOne comes left packet cursor
Gives comes left (Ok None) cursor = GivesNone comes left cursor
Gives comes left (Err Read) cursor = All (λ (a : Arrival). cursor.at < a.end) left.list
Gives comes left (Err fault) cursor = left ≡ nothing_left (Some fault)
