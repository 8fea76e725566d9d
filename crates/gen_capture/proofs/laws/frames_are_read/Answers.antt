use Rattle.std.proofs.Common.{refl}
use Rattle.pkt_headers.specs.Frames.{tag_count}
use Rattle.pkt_headers.specs.Networks.{has_ipv4, network_in}
use Rattle.pkt_headers.specs.Transports.{transport_in}
use Rattle.gen_capture.specs.Frames.{frame_of}
use Rattle.gen_capture.proofs.laws.frames_are_read.Goals as goal

pub returns : goal.returns
unfolding tag_count has_ipv4 network_in transport_in frame_of
returns c = λ packet. refl
