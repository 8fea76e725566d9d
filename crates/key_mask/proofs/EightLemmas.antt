-- Eight bytes as one number.
use Rattle.std.proofs.Common.{◌≡◌, ℕ, zero, suc, ◌/◌, ◌%◌, ◌^◌, ◌<◌, get_or, bit_and, refl, ap, sym, ◌∙◌, arith}
use Rattle.std.specs.Int.{byte_at, from_le_bytes, to_le_bytes, w64}
use Rattle.std.proofs.lemmas.Nat.{and_shr, and_mod, from_le_bytes-to_le_bytes_8}
use Rattle.std.proofs.lemmas.List.{ext_get_or}

-- the bytes of a number of eight
pub byte_of_eight : (n k : ℕ) → k < 8 → get_or (to_le_bytes w64 n) k 0 ≡ byte_at k n
byte_of_eight n zero h = refl
byte_of_eight n (suc zero) h = refl
byte_of_eight n (suc (suc zero)) h = refl
byte_of_eight n (suc (suc (suc zero))) h = refl
byte_of_eight n (suc (suc (suc (suc zero)))) h = refl
byte_of_eight n (suc (suc (suc (suc (suc zero))))) h = refl
byte_of_eight n (suc (suc (suc (suc (suc (suc zero)))))) h = refl
byte_of_eight n (suc (suc (suc (suc (suc (suc (suc zero))))))) h = refl
byte_of_eight n (suc (suc (suc (suc (suc (suc (suc (suc k)))))))) h = absurd (omega arith)

and_at : (a b s : ℕ) → (bit_and a b / 2 ^ s) % 2 ^ 8 ≡ bit_and (a / 2 ^ s % 2 ^ 8) (b / 2 ^ s % 2 ^ 8)
and_at a b s = ap (λ n. n % 2 ^ 8) (and_shr a b s) ∙ and_mod (a / 2 ^ s) (b / 2 ^ s) 8

-- a byte of what two numbers share
pub byte_at_and : (a b k : ℕ) → k < 8 → byte_at k (bit_and a b) ≡ bit_and (byte_at k a) (byte_at k b)
byte_at_and a b zero h = and_mod a b 8
byte_at_and a b (suc zero) h = and_at a b 8
byte_at_and a b (suc (suc zero)) h = and_at a b 16
byte_at_and a b (suc (suc (suc zero))) h = and_at a b 24
byte_at_and a b (suc (suc (suc (suc zero)))) h = and_at a b 32
byte_at_and a b (suc (suc (suc (suc (suc zero))))) h = and_at a b 40
byte_at_and a b (suc (suc (suc (suc (suc (suc zero)))))) h = and_at a b 48
byte_at_and a b (suc (suc (suc (suc (suc (suc (suc zero))))))) h = and_at a b 56
byte_at_and a b (suc (suc (suc (suc (suc (suc (suc (suc k)))))))) h = absurd (omega arith)

pub byte_at_zero : (k : ℕ) → k < 8 → byte_at k 0 ≡ 0
byte_at_zero zero h = refl
byte_at_zero (suc zero) h = refl
byte_at_zero (suc (suc zero)) h = refl
byte_at_zero (suc (suc (suc zero))) h = refl
byte_at_zero (suc (suc (suc (suc zero)))) h = refl
byte_at_zero (suc (suc (suc (suc (suc zero))))) h = refl
byte_at_zero (suc (suc (suc (suc (suc (suc zero)))))) h = refl
byte_at_zero (suc (suc (suc (suc (suc (suc (suc zero))))))) h = refl
byte_at_zero (suc (suc (suc (suc (suc (suc (suc (suc k)))))))) h = absurd (omega arith)

-- numbers of eight equal bytes are equal
pub same_eight : (m n : ℕ) → m < 2 ^ 64 → n < 2 ^ 64 → ((k : ℕ) → k < 8 → byte_at k m ≡ byte_at k n) → m ≡ n
same_eight m n h i each =
    let bytes : to_le_bytes w64 m ≡ to_le_bytes w64 n =
    ext_get_or 0 (to_le_bytes w64 m) (to_le_bytes w64 n) refl (λ k below. byte_of_eight m k below ∙ each k below ∙ sym (byte_of_eight n k below)) in
    sym (from_le_bytes-to_le_bytes_8 m h) ∙ ap (from_le_bytes w64) bytes ∙ from_le_bytes-to_le_bytes_8 n i
