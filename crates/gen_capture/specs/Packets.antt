-- The generator: a state gives the next one, and a packet by its high half.
use Rattle.std.specs.Prelude.{ℕ, zero, suc, ◌+◌, ◌*◌, ◌/◌, ◌%◌, ◌^◌, ◌==◌, List, [], ◌∷◌, if◌then◌else◌}
use Rattle.gen_capture.specs.declared.packets.GenPacket.{GenPacket}

unfoldable pub step : ℕ → ℕ
step state = (6364136223846793005 * state + 1442695040888963407) % 2 ^ 64

-- that of HTTP, or of HTTPS
abbrev pub server_port : ℕ → ℕ
server_port high = if high % 2 == 0 then 80 else 443

-- the packet of the number that the high half of a state is
abbrev pub packet_by : ℕ → GenPacket
packet_by high = record {
  source = high / 2 ^ 24;
  source_port = 1024 + high / 2 ^ 8 % 256;
  destination = high / 2 ^ 16 % 256;
  destination_port = server_port high;
  len = 60 + high % 1024;
}

unfoldable pub packet_of : ℕ → GenPacket
packet_of state = packet_by (state / 2 ^ 32)

-- the packets of so many states, the first of which is the one behind this state
abbrev pub packets_after : ℕ → ℕ → List GenPacket
packets_after state zero = []
packets_after state (suc more) = packet_of (step state) ∷ packets_after (step state) more
