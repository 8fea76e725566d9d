-- The generated capture: a header, and a record for each packet.
use Rattle.std.specs.Prelude.{ℕ, List, [], ◌∷◌, ◌++◌, map, replicate}
use Rattle.capture_read.specs.declared.records.Order.TheVariants.{Little}
use Rattle.capture_read.specs.Laws.{Source, source_bytes, written}
use Rattle.gen_capture.specs.declared.packets.GenPacket.{GenPacket}
use Rattle.gen_capture.specs.Packets.{packets_after}
use Rattle.gen_capture.specs.Frames.{frame_of}

-- little-endian, times in microseconds, version 2.4, frames of up to 262,144 bytes, Ethernet
unfoldable pub header_bytes : List ℕ
header_bytes =
    0xd4 ∷ 0xc3 ∷ 0xb2 ∷ 0xa1 ∷ 2 ∷ 0 ∷ 4 ∷ 0 ∷ replicate 8 0 ++ (0 ∷ 0 ∷ 4 ∷ 0 ∷ 1 ∷ 0 ∷ 0 ∷ 0 ∷ [])

-- the whole frame at the time 0, and the packet's own length
abbrev pub source_of : GenPacket → Source
source_of packet = record { time = replicate 8 0; frame = frame_of packet; len = packet.len }

unfoldable pub record_bytes : GenPacket → List ℕ
record_bytes packet = source_bytes Little (source_of packet)

-- the records of so many packets behind this state
unfoldable pub records_bytes : ℕ → ℕ → List ℕ
records_bytes state count = written Little (map source_of (packets_after state count))

unfoldable pub capture_text : ℕ → ℕ → List ℕ
capture_text seed count = header_bytes ++ records_bytes seed count
