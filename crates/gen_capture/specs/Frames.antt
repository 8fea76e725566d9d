-- The frame of a generated packet: 54 bytes, with a header of IPv4 and one of TCP and no data.
use Rattle.std.specs.Prelude.{ℕ, List, [], ◌∷◌, ◌++◌, replicate}
use Rattle.byteorder.specs.Endian.{big_bytes}
use Rattle.gen_capture.specs.declared.packets.GenPacket.{GenPacket}

abbrev pub source_address : GenPacket → List ℕ
source_address packet = 10 ∷ 0 ∷ 0 ∷ packet.source ∷ []

abbrev pub destination_address : GenPacket → List ℕ
destination_address packet = 192 ∷ 168 ∷ 1 ∷ packet.destination ∷ []

-- source port, then destination port
abbrev pub ports : GenPacket → List ℕ
ports packet = big_bytes 2 packet.source_port ++ big_bytes 2 packet.destination_port

-- the addresses, the destination first, and the type of IPv4
abbrev pub ethernet_header : List ℕ
ethernet_header = 2 ∷ 0 ∷ 0 ∷ 0 ∷ 0 ∷ 2 ∷ 2 ∷ 0 ∷ 0 ∷ 0 ∷ 0 ∷ 1 ∷ 8 ∷ 0 ∷ []

-- 20 bytes of 40, a TTL of 64, the protocol TCP, and a checksum of 0 before the addresses
abbrev pub ipv4_header : GenPacket → List ℕ
ipv4_header packet =
    0x45 ∷ 0 ∷ 0 ∷ 40 ∷ 0 ∷ 0 ∷ 0 ∷ 0 ∷ 64 ∷ 6 ∷ 0 ∷ 0 ∷ source_address packet ++ destination_address packet

-- no numbers of sequence, 20 bytes of header, and the flag ACK
abbrev pub tcp_header : GenPacket → List ℕ
tcp_header packet = ports packet ++ (replicate 8 0 ++ (0x50 ∷ 0x10 ∷ replicate 6 0))

unfoldable pub frame_of : GenPacket → List ℕ
frame_of packet = ethernet_header ++ (ipv4_header packet ++ tcp_header packet)
