-- Where the addresses of a block lie.
use Rattle.std.proofs.Common.{◌≡◌, ℕ, ◌+◌, ◌-◌, ◌*◌, ◌/◌, ◌^◌, ◌<◌, ◌≤◌, ap, sym, ◌∙◌, subst, arith}
use Rattle.std.proofs.lemmas.Nat.{shr_below, pow-add, pow_pos, div_below, div-add-mod', mul-le}
use Rattle.addr_translate.specs.Blocks.{index_of, IsAligned}

-- the index in a block of 2 ^ bits registers
pub index_lt : (h bits : ℕ) → h < 2 ^ 32 → bits ≤ 32 → index_of h bits < 2 ^ bits
index_lt h bits small few =
    let whole : bits + (32 - bits) ≡ 32 = omega arith in
    shr_below h bits (32 - bits) (subst (λ n. h < 2 ^ n) (sym whole) small)

-- an aligned block that begins below 2 ^ 32 ends there too
pub aligned_fits : (base bits : ℕ) → base < 2 ^ 32 → IsAligned base bits → base + 2 ^ bits ≤ 2 ^ 32
aligned_fits base bits small aligned =
    let whole : (32 - bits) + bits ≡ 32 = omega (arith, aligned.small) in
    let room : 2 ^ 32 ≡ 2 ^ (32 - bits) * 2 ^ bits = ap (λ n. 2 ^ n) (sym whole) ∙ pow-add 2 (32 - bits) bits in
    let blocks : base / 2 ^ bits < 2 ^ (32 - bits) = div_below base (2 ^ bits) (2 ^ (32 - bits)) (pow_pos bits) (subst (λ n. base < n) room small) in
    let more : (base / 2 ^ bits + 1) * 2 ^ bits ≤ 2 ^ (32 - bits) * 2 ^ bits = mul-le (base / 2 ^ bits + 1) (2 ^ bits) (2 ^ (32 - bits)) (2 ^ bits) (omega arith) (omega arith) in
    omega (arith, room, more, div-add-mod' base (2 ^ bits), aligned.multiple)
