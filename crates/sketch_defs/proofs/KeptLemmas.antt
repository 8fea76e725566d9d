-- The packets of a key value are among those that come to its cell of a row, and what a cell gathers follows.
use Rattle.std.proofs.Common.{◌≡◌, ℕ, ◌+◌, ◌^◌, ◌≤◌, ◌==◌, Bool, true, false, max, List, [], ◌∷◌, length, map, bit_and, bit_or, ⊎_elim, ap, eq-eqb, arith}
use Rattle.std.specs.Int.{bit_at}
use Rattle.std.specs.List.{All, filter, fold, sum}
use Rattle.std.specs.Str.{bytes_eq}
use Rattle.std.proofs.lemmas.Bool.{cases_Bool}
use Rattle.std.proofs.lemmas.List.Elements.{All-head, All-tail}
use Rattle.std.proofs.lemmas.Nat.Bits.{bit_at_and, bit_at_or, bit_at-lt, bit_at-pow_same}
use Rattle.std.proofs.lemmas.Slice.Eq.{bytes_eq-Decides}
use Rattle.key_mask.specs.Bytes.{and_bytes}
use Rattle.key_mask.specs.Masks.{mask_bytes_of}
use Rattle.pkt_headers.specs.declared.packets.Packet.{Packet}
use Rattle.addr_translate.specs.Blocks.{index_of}
use Rattle.hash_units.specs.Toeplitz.{hash_of, row_hash_of}
use Rattle.sketch_defs.specs.Cells.{key_hash, row_hash_at, index_at}
use Rattle.sketch_defs.specs.Tasks.{Sketch}
use Rattle.sketch_defs.proofs.FoundLemmas.{IsWithin}

-- ---- a packet of the key value

pub same_hash : (hash_key : List ℕ) (sketch : Sketch) (vector other : List ℕ)
    → bytes_eq (and_bytes other (mask_bytes_of sketch.key)) (and_bytes vector (mask_bytes_of sketch.key)) ≡ true
    → key_hash hash_key sketch other ≡ key_hash hash_key sketch vector
unfolding key_hash
same_hash hash_key sketch vector other same =
    ap (hash_of hash_key)
    ((bytes_eq-Decides (and_bytes other (mask_bytes_of sketch.key)) (and_bytes vector (mask_bytes_of sketch.key))).0 same)

pub same_row_hash : (hash_key : List ℕ) (sketch : Sketch) (vector : List ℕ) (row : ℕ) (packet : Packet)
    → bytes_eq (and_bytes packet.vec (mask_bytes_of sketch.key)) (and_bytes vector (mask_bytes_of sketch.key)) ≡ true
    → row_hash_at hash_key sketch row packet ≡ row_hash_of (key_hash hash_key sketch vector) row
unfolding row_hash_at
same_row_hash hash_key sketch vector row packet same = ap (λ h. row_hash_of h row) (same_hash hash_key sketch vector packet.vec same)

pub same_place : (hash_key : List ℕ) (sketch : Sketch) (bits : ℕ) (vector : List ℕ) (row : ℕ) (packet : Packet)
    → bytes_eq (and_bytes packet.vec (mask_bytes_of sketch.key)) (and_bytes vector (mask_bytes_of sketch.key)) ≡ true
    → index_at hash_key sketch bits row packet ≡ index_of (row_hash_of (key_hash hash_key sketch vector) row) bits
unfolding index_at
same_place hash_key sketch bits vector row packet same = ap (λ h. index_of h bits) (same_row_hash hash_key sketch vector row packet same)

-- it comes to the cell of its row
pub comes_there : (hash_key : List ℕ) (sketch : Sketch) (bits : ℕ) (vector : List ℕ) (row : ℕ) (packet : Packet)
    → bytes_eq (and_bytes packet.vec (mask_bytes_of sketch.key)) (and_bytes vector (mask_bytes_of sketch.key)) ≡ true
    → (index_at hash_key sketch bits row packet == index_of (row_hash_of (key_hash hash_key sketch vector) row) bits) ≡ true
comes_there hash_key sketch bits vector row packet same =
    eq-eqb (index_at hash_key sketch bits row packet) (index_of (row_hash_of (key_hash hash_key sketch vector) row) bits)
    (same_place hash_key sketch bits vector row packet same)

-- ---- what two tests keep, where the second keeps what the first does

-- folds over the two, one relation between which each step keeps
pub fold_more_kept : (R : ℕ → ℕ → Type 0) (op : ℕ → ℕ → ℕ) (f : Packet → ℕ) (p q : Packet → Bool)
    → ((x : Packet) → p x ≡ true → q x ≡ true)
    → ((b c n : ℕ) → R b c → R (op b n) (op c n)) → ((b c n : ℕ) → R b c → R b (op c n))
    → (b c : ℕ) → R b c → (packets : List Packet)
    → R (fold op b (map f (filter p packets))) (fold op c (map f (filter q packets)))
fold_more_kept R op f p q sub both one b c h [] = h
fold_more_kept R op f p q sub both one b c h (packet ∷ packets) = ⊎_elim
    (λ (e : p packet ≡ true). rw (e, sub packet e)
    (fold_more_kept R op f p q sub both one (op b (f packet)) (op c (f packet)) (both b c (f packet) h) packets))
    (λ (e : p packet ≡ false). rw e (⊎_elim
    (λ (k : q packet ≡ true). rw k (fold_more_kept R op f p q sub both one b (op c (f packet)) (one b c (f packet) h) packets))
    (λ (k : q packet ≡ false). rw k (fold_more_kept R op f p q sub both one b c h packets))
    (cases_Bool (q packet))))
    (cases_Bool (p packet))

pub sum_kept : (f : Packet → ℕ) (p q : Packet → Bool) → ((x : Packet) → p x ≡ true → q x ≡ true) → (packets : List Packet)
    → sum (map f (filter p packets)) ≤ sum (map f (filter q packets))
sum_kept f p q sub packets =
    fold_more_kept (λ b c. b ≤ c) (λ a n. a + n) f p q sub (λ b c n h. omega arith) (λ b c n h. omega arith) 0 0 (omega arith) packets

pub max_kept : (f : Packet → ℕ) (p q : Packet → Bool) → ((x : Packet) → p x ≡ true → q x ≡ true) → (packets : List Packet)
    → fold max 0 (map f (filter p packets)) ≤ fold max 0 (map f (filter q packets))
max_kept f p q sub packets =
    fold_more_kept (λ b c. b ≤ c) max f p q sub (λ b c n h. omega arith) (λ b c n h. omega arith) 0 0 (omega arith) packets

pub or_kept : (f : Packet → ℕ) (p q : Packet → Bool) → ((x : Packet) → p x ≡ true → q x ≡ true) → (packets : List Packet)
    → IsWithin (fold bit_or 0 (map f (filter p packets))) (fold bit_or 0 (map f (filter q packets)))
or_kept f p q sub packets =
    fold_more_kept IsWithin bit_or f p q sub
    (λ b c n h i. omega (arith, h i, bit_at_or b n i, bit_at_or c n i))
    (λ b c n h i. omega (arith, h i, bit_at_or c n i))
    0 0 (λ i. omega arith) packets

pub and_kept : (start : ℕ) (f : Packet → ℕ) (p q : Packet → Bool) → ((x : Packet) → p x ≡ true → q x ≡ true) → (packets : List Packet)
    → IsWithin (fold bit_and start (map f (filter q packets))) (fold bit_and start (map f (filter p packets)))
and_kept start f p q sub packets =
    fold_more_kept (λ b c. IsWithin c b) bit_and f p q sub
    (λ b c n h i. omega (arith, h i, bit_at_and b n i, bit_at_and c n i))
    (λ b c n h i. omega (arith, h i, bit_at_and c n i))
    start start (λ i. omega arith) packets

-- ---- a bit that each packet of a test brings

bit_stays : (bit start : ℕ) (ns : List ℕ) → bit_at start bit ≡ 1 → bit_at (fold bit_or start ns) bit ≡ 1
bit_stays bit start [] h = h
bit_stays bit start (n ∷ ns) h = bit_stays bit (bit_or start n) ns (omega (arith, bit_at_or start n bit, bit_at-lt n bit))

pub bit_kept : (bit start : ℕ) (f : Packet → ℕ) (p q : Packet → Bool) → ((x : Packet) → p x ≡ true → q x ≡ true)
    → ((x : Packet) → p x ≡ true → f x ≡ 2 ^ bit) → (packets : List Packet) → 1 ≤ length (filter p packets)
    → bit_at (fold bit_or start (map f (filter q packets))) bit ≡ 1
bit_kept bit start f p q sub brings [] some = absurd (omega arith)
bit_kept bit start f p q sub brings (packet ∷ packets) some = ⊎_elim
    (λ (e : p packet ≡ true). rw (sub packet e)
    (bit_stays bit (bit_or start (f packet)) (map f (filter q packets))
    (omega (arith, bit_at_or start (f packet) bit, ap (λ n. bit_at n bit) (brings packet e), bit_at-pow_same bit, bit_at-lt start bit))))
    (λ (e : p packet ≡ false).
    let rest : 1 ≤ length (filter p packets) = rw e at some in
    ⊎_elim
    (λ (k : q packet ≡ true). rw k (bit_kept bit (bit_or start (f packet)) f p q sub brings packets rest))
    (λ (k : q packet ≡ false). rw k (bit_kept bit start f p q sub brings packets rest))
    (cases_Bool (q packet)))
    (cases_Bool (p packet))

-- ---- words

pub max_fits : (high start : ℕ) (f : Packet → ℕ) (p : Packet → Bool) (packets : List Packet) → All (λ x. f x ≤ high) packets → start ≤ high
    → fold max start (map f (filter p packets)) ≤ high
max_fits high start f p [] each h = h
max_fits high start f p (packet ∷ packets) each h =
    let rest : All (λ x. f x ≤ high) packets = All-tail (λ x. f x ≤ high) packet packets each in
    ⊎_elim
    (λ (e : p packet ≡ true). rw e
    (max_fits high (max start (f packet)) f p packets rest (omega (arith, h, All-head (λ x. f x ≤ high) packet packets each))))
    (λ (e : p packet ≡ false). rw e (max_fits high start f p packets rest h))
    (cases_Bool (p packet))
