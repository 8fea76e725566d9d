-- What is true of the generated captures.
use Rattle.std.specs.Prelude.{◌≡◌, ℕ, ◌+◌, ◌≤◌, true, List, [], ◌∷◌, ◌++◌, None, Ok, IsSome, replicate}
use Rattle.fm_io.specs.Slots.{slot_at}
use Rattle.capture_read.specs.Records.{Record}
use Rattle.capture_read.specs.Reading.{capture_in}
use Rattle.pkt_headers.specs.declared.packets.Packet.{Packet}
use Rattle.pkt_headers.specs.Packets.{packet_in}
use Rattle.gen_capture.specs.declared.packets.GenPacket.{GenPacket}
use Rattle.gen_capture.specs.Packets.{packets_after}
use Rattle.gen_capture.specs.Frames.{source_address, destination_address, ports, frame_of}
use Rattle.gen_capture.specs.Captures.{capture_text}
use Rattle.gen_capture.specs.declared.gen_files.GenFiles.{GenFiles}
use Rattle.gen_capture.specs.GenFiles.{slots_of}

-- the record of a packet that begins at this place: its whole frame, its length, and 70 bytes in all
abbrev pub record_of : ℕ → GenPacket → Record
record_of at packet = record { frame = frame_of packet; len = packet.len; end = at + 70 }

abbrev pub records_of : ℕ → List GenPacket → List Record
records_of at [] = []
records_of at (packet ∷ packets) = record_of at packet ∷ records_of (at + 70) packets

-- a generated capture has a good header, one record for each packet of the generator, in turn, and then ends
abbrev pub CapturesAreWhole : Type 0
CapturesAreWhole = (seed count : ℕ) → count ≤ 1000000
    → capture_in (capture_text seed count)
    ≡ Ok (record { list = records_of 24 (packets_after seed count); fault = None })

-- the fields that a packet says: TCP over IPv4, no type of service, a TTL of 64, and the flag ACK
abbrev pub read_as : GenPacket → Packet
read_as packet = record {
  vec =
      source_address packet
      ++ (destination_address packet ++ (ports packet ++ 6 ∷ 0 ∷ 8 ∷ 0 ∷ replicate 32 0));
  len = packet.len;
  ttl = 64;
  flags = 0x10;
}

-- what is read of a generated frame are the fields of its packet
abbrev pub FramesAreRead : Type 0
FramesAreRead = (packet : GenPacket) → packet_in (frame_of packet) packet.len ≡ read_as packet

-- each slot with a text tells its bytes and position
abbrev pub FilesTell : Type 0
FilesTell = (files : GenFiles) (number : ℕ)
    → (slot_at (slots_of files) number).attached ≡ true → IsSome (slot_at (slots_of files) number).cursor
