-- The generated capture is written as captures are.
use Rattle.std.proofs.Common.{◌≡◌, ℕ, zero, suc, ◌+◌, ◌≤◌, List, [], ◌∷◌, map, length, None, Ok, refl, ap, ◌∙◌, arith}
use Rattle.std.specs.List.{All}
use Rattle.std.proofs.lemmas.List.{length-map}
use Rattle.std.proofs.lemmas.List.Elements.{All-nil, All-cons}
use Rattle.capture_read.specs.declared.records.Order.TheVariants.{Little}
use Rattle.capture_read.specs.Records.{Record, header_in, byte_order_in, has_magic}
use Rattle.capture_read.specs.Reading.{Records}
use Rattle.capture_read.specs.Laws.{IsSource, records_from, ReadsBackWhatIsWritten}
use Rattle.gen_capture.specs.declared.packets.GenPacket.{GenPacket}
use Rattle.gen_capture.specs.Packets.{step, packet_of, packets_after}
use Rattle.gen_capture.specs.Frames.{frame_of}
use Rattle.gen_capture.specs.Captures.{header_bytes, source_of, records_bytes, capture_text}
use Rattle.gen_capture.specs.Laws.{records_of, CapturesAreWhole}

header_good : header_in header_bytes ≡ Ok Little
unfolding header_bytes header_in byte_order_in has_magic
header_good = refl

length-header : length header_bytes ≡ 24
unfolding header_bytes
length-header = refl

length-frame_of : (packet : GenPacket) → length (frame_of packet) ≡ 54
unfolding frame_of
length-frame_of packet = refl

length-packets_after : (state count : ℕ) → length (packets_after state count) ≡ count
length-packets_after state zero = refl
length-packets_after state (suc more) = ap suc (length-packets_after (step state) more)

is_source : (state : ℕ) → IsSource (source_of (packet_of state))
unfolding packet_of
is_source state = record {
  time = refl;
  frame = omega (arith, length-frame_of (packet_of state));
  len = omega arith;
}

all_sources : (state count : ℕ) → All IsSource (map source_of (packets_after state count))
all_sources state zero = All-nil IsSource
all_sources state (suc more) =
    All-cons IsSource (source_of (packet_of (step state))) (map source_of (packets_after (step state) more))
    (is_source (step state)) (all_sources (step state) more)

-- each record has 70 bytes
records_from-sources : (at : ℕ) (packets : List GenPacket)
    → records_from at (map source_of packets) ≡ records_of at packets
records_from-sources at [] = refl
records_from-sources at (packet ∷ packets) =
    let size : at + (16 + length (frame_of packet)) ≡ at + 70 = omega (arith, length-frame_of packet) in
    let later = records_from-sources (at + 70) packets in
    rw (size, later) refl

pub captures_whole : ReadsBackWhatIsWritten → CapturesAreWhole
unfolding capture_text records_bytes
captures_whole back seed count few =
    let sources = map source_of (packets_after seed count) in
    let most : length sources ≤ 4294967295 =
    omega (arith, length-map (packets_after seed count) source_of, length-packets_after seed count) in
    back Little header_bytes sources header_good length-header (all_sources seed count) most
    ∙ ap (λ (list : List Record). let all : Records = record { list = list; fault = None } in Ok all)
    (records_from-sources 24 (packets_after seed count))
