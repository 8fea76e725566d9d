use Rattle.std.proofs.Common.{◌/◌, refl}
use Rattle.std.proofs.lemmas.Nat.{and_mask}
use Rattle.gen_capture.specs.Packets.{packet_of}
use Rattle.gen_capture.proofs.packets.packet_of.Goals as goal

pub returns : goal.returns
unfolding packet_of
returns c =
    let high = c.args.state / 4294967296 in
    rw (and_mask (high / 256) 8, and_mask (high / 65536) 8, and_mask high 10, c.server_port.ensures) refl
