-- What holds of the answers of a task, for all packets and every key value: each keeps its side of the truth. The key value is
-- given by a vector, of which the mask of the task's key leaves it.
use Rattle.std.specs.Prelude.{◌≡◌, ℕ, ◌≤◌, min, max, List, length, map, bit_and, bit_or, Option, Some}
use Rattle.std.specs.List.{All, filter, fold, sum}
use Rattle.std.specs.Str.{bytes_eq}
use Rattle.key_mask.specs.Bytes.{and_bytes}
use Rattle.key_mask.specs.Masks.{mask_bytes_of}
use Rattle.pkt_headers.specs.declared.packets.Packet.{Packet}
use Rattle.pkt_headers.specs.Packets.{weight_of}
use Rattle.sketch_defs.specs.declared.answers.Reply.{Reply}
use Rattle.sketch_defs.specs.declared.answers.Reply.TheVariants.{Number, Yes}
use Rattle.sketch_defs.specs.declared.kinds.Kind.TheVariants.{Cms, SumaxSum, SumaxMax, Bloom, FlagOr, FlagAnd}
use Rattle.sketch_defs.specs.Answers.{cells_found, answer_of}
use Rattle.sketch_defs.specs.Cells.{cell_max, key_hash, cells_of}
use Rattle.sketch_defs.specs.Tasks.{Sketch}

-- the packets whose key value is that of the vector
abbrev pub packets_of : Sketch → List ℕ → List Packet → List Packet
packets_of sketch vector packets =
    filter (λ packet. bytes_eq (and_bytes packet.vec (mask_bytes_of sketch.key)) (and_bytes vector (mask_bytes_of sketch.key))) packets

-- their weights
abbrev pub weights_of : Sketch → List ℕ → List Packet → List ℕ
weights_of sketch vector packets = map (λ packet. weight_of packet sketch.attr) (packets_of sketch vector packets)

-- what the task answers for the key value after these packets
abbrev pub answered : List ℕ → Sketch → ℕ → List Packet → List ℕ → Option Reply
answered hash_key sketch bits packets vector =
    let h = key_hash hash_key sketch vector in answer_of sketch.kind (cells_found h bits (cells_of hash_key sketch bits packets)) h

-- the weights are words, as those of a packet that was read are
abbrev pub AreWords : Sketch → List Packet → Type 0
AreWords sketch packets = All (λ packet. weight_of packet sketch.attr ≤ cell_max) packets

-- Count-Min answers no less than the sum
abbrev pub CountMinIsAbove : Type 0
CountMinIsAbove = (hash_key : List ℕ) (sketch : Sketch) (bits : ℕ) (packets : List Packet) (vector : List ℕ)
    → sketch.kind ≡ Cms → bits ≤ 32
    → (answer : ℕ) × (answered hash_key sketch bits packets vector ≡ Some (Number answer))
    × (min (sum (weights_of sketch vector packets)) cell_max ≤ answer)

-- so does SuMax that adds
abbrev pub SumaxSumIsAbove : Type 0
SumaxSumIsAbove = (hash_key : List ℕ) (sketch : Sketch) (bits : ℕ) (packets : List Packet) (vector : List ℕ)
    → sketch.kind ≡ SumaxSum → bits ≤ 32
    → (answer : ℕ) × (answered hash_key sketch bits packets vector ≡ Some (Number answer))
    × (min (sum (weights_of sketch vector packets)) cell_max ≤ answer)

-- SuMax that keeps the greatest answers no less than the greatest
abbrev pub SumaxMaxIsAbove : Type 0
SumaxMaxIsAbove = (hash_key : List ℕ) (sketch : Sketch) (bits : ℕ) (packets : List Packet) (vector : List ℕ)
    → sketch.kind ≡ SumaxMax → bits ≤ 32 → AreWords sketch packets
    → (answer : ℕ) × (answered hash_key sketch bits packets vector ≡ Some (Number answer))
    × (fold max 0 (weights_of sketch vector packets) ≤ answer)

-- a Bloom filter misses no key value that came
abbrev pub BloomMissesNone : Type 0
BloomMissesNone = (hash_key : List ℕ) (sketch : Sketch) (bits : ℕ) (packets : List Packet) (vector : List ℕ)
    → sketch.kind ≡ Bloom → bits ≤ 32 → 1 ≤ length (packets_of sketch vector packets)
    → answered hash_key sketch bits packets vector ≡ Some Yes

-- the flags that some packet set are all in the answer
abbrev pub FlagOrHasAll : Type 0
FlagOrHasAll = (hash_key : List ℕ) (sketch : Sketch) (bits : ℕ) (packets : List Packet) (vector : List ℕ)
    → sketch.kind ≡ FlagOr → bits ≤ 32 → AreWords sketch packets
    → (answer : ℕ) × (answered hash_key sketch bits packets vector ≡ Some (Number answer))
    × (bit_and (fold bit_or 0 (weights_of sketch vector packets)) answer ≡ fold bit_or 0 (weights_of sketch vector packets))

-- the answer has no flag that some packet did not set
abbrev pub FlagAndHasNoOther : Type 0
FlagAndHasNoOther = (hash_key : List ℕ) (sketch : Sketch) (bits : ℕ) (packets : List Packet) (vector : List ℕ)
    → sketch.kind ≡ FlagAnd → bits ≤ 32
    → (answer : ℕ) × (answered hash_key sketch bits packets vector ≡ Some (Number answer))
    × (bit_and answer (fold bit_and cell_max (weights_of sketch vector packets)) ≡ answer)
