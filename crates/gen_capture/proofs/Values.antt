-- Worked values: the first packets behind the seed 0, and the capture of the first alone.
use Rattle.std.proofs.Common.{◌≡◌, [], ◌∷◌, ◌++◌, refl}
use Rattle.std.specs.Prelude.{replicate}
use Rattle.gen_capture.specs.Packets.{step, packet_of, packets_after}
use Rattle.gen_capture.specs.Frames.{frame_of}
use Rattle.gen_capture.specs.Captures.{header_bytes, records_bytes, capture_text}

first_state : step 0 ≡ 0x14057b7ef767814f
unfolding step
first_state = refl

second_state : step 0x14057b7ef767814f ≡ 0x1a08ee1184ba6d32
unfolding step
second_state = refl

first_packet : packet_of 0x14057b7ef767814f
    ≡ record { source = 20; source_port = 1147; destination = 5; destination_port = 80; len = 954 }
unfolding packet_of
first_packet = refl

no_packets : packets_after 7 0 ≡ []
no_packets = refl

-- the header, and a record of 954 bytes from 10.0.0.20:1147 to 192.168.1.5:80, of which 54 were captured
one_packet : capture_text 0 1
    ≡ 0xd4 ∷ 0xc3 ∷ 0xb2 ∷ 0xa1 ∷ 2 ∷ 0 ∷ 4 ∷ 0 ∷ replicate 10 0 ++ (4 ∷ 0 ∷ 1 ∷ 0 ∷ 0 ∷ 0 ∷ replicate 8 0)
    ++ (0x36 ∷ 0 ∷ 0 ∷ 0 ∷ 0xba ∷ 3 ∷ 0 ∷ 0 ∷ [])
    ++ (2 ∷ 0 ∷ 0 ∷ 0 ∷ 0 ∷ 2 ∷ 2 ∷ 0 ∷ 0 ∷ 0 ∷ 0 ∷ 1 ∷ 8 ∷ 0 ∷ [])
    ++ (0x45 ∷ 0 ∷ 0 ∷ 0x28 ∷ 0 ∷ 0 ∷ 0 ∷ 0 ∷ 0x40 ∷ 6 ∷ 0 ∷ 0 ∷ 10 ∷ 0 ∷ 0 ∷ 20 ∷ 192 ∷ 168 ∷ 1 ∷ 5 ∷ [])
    ++ (0x04 ∷ 0x7b ∷ 0 ∷ 80 ∷ replicate 8 0 ++ (0x50 ∷ 0x10 ∷ replicate 6 0))
unfolding capture_text header_bytes records_bytes step packet_of frame_of
one_packet = refl
