-- Powers and products of the estimate fit 128 bits.
use Rattle.std.proofs.Common.{◌≡◌, ℕ, ◌*◌, ◌%◌, ◌^◌, ◌<◌, ◌≤◌, ⊎_elim, arith}
use Rattle.std.proofs.lemmas.Nat.{one_shl, pow_below, mul-le}
use Rattle.std.proofs.lemmas.Bool.{cases_eq}

pub power_le : (i j : ℕ) → i ≤ j → 2 ^ i ≤ 2 ^ j
power_le i j h = ⊎_elim (λ (e : i ≡ j). rw e (omega arith)) (λ (ne : i ≡ j → ⊥). omega (arith, pow_below i j (omega arith))) (cases_eq i j)

-- the shift by which code writes a power
pub shifted_le : (k n : ℕ) → k ≤ n → n < 128 → 1 * 2 ^ k % 340282366920938463463374607431768211456 ≤ 2 ^ n
shifted_le k n low high = omega (arith, one_shl k 128 (omega arith), power_le k n low)

pub over_fits : (alpha k : ℕ) → alpha < 2 ^ 33 → k ≤ 73 → alpha * (1 * 2 ^ k % 340282366920938463463374607431768211456) < 2 ^ 128
over_fits alpha k small low =
    let power : 1 * 2 ^ k % 340282366920938463463374607431768211456 ≤ 2 ^ 73 = shifted_le k 73 low (omega arith) in
    omega (arith, mul-le alpha (1 * 2 ^ k % 340282366920938463463374607431768211456) (2 ^ 33) (2 ^ 73) (omega arith) power)
