-- The values of fields in a vector.
use Rattle.std.proofs.Common.{◌≡◌, ℕ, zero, suc, ◌+◌, ◌-◌, ◌*◌, ◌/◌, ◌%◌, ◌^◌, ◌<◌, ◌≤◌, List, [], ◌∷◌, ◌++◌, length, take, drop, refl, ap, ◌∙◌, subst, arith}
use borrow.Rule.Slice.PartMut.{put_mid}
use Rattle.std.proofs.lemmas.List.{drop-drop, take_all}
use Rattle.std.proofs.Math.Nat.{pow-le-pow_right, pow-suc, mod-eq_of_lt}
use Rattle.std.proofs.lemmas.Nat.{div-mul-add, mod-pow-add, mul-add-lt, pow-add}
use Rattle.key_mask.specs.Vectors.{big_endian}
use Rattle.std.specs.Int.{byte_at, bytes_high_first}
use Rattle.std.specs.List.{fold}

-- room for one byte more
pub byte_room : (n i : ℕ) → n < 256 ^ i → i < 16 → n * 256 + 255 < 2 ^ 128
byte_room n i small h = let e : 256 ^ i ≤ 256 ^ 15 = pow-le-pow_right {n = 256} (omega arith) {i = i} {j = 15} (omega arith) in omega (arith, e)

pub length-bytes_high_first : (n value : ℕ) → length (bytes_high_first n value) ≡ n
length-bytes_high_first zero value = refl
length-bytes_high_first (suc n) value = ap (λ k. suc k) (length-bytes_high_first n value)

-- the last bytes of a number
pub last_bytes : (k n value : ℕ) → drop k (bytes_high_first (k + n) value) ≡ bytes_high_first n value
last_bytes zero n value = let e : 0 + n ≡ n = omega arith in rw e refl
last_bytes (suc k) n value = let e : suc k + n ≡ suc (k + n) = omega arith in rw e (last_bytes k n value)

-- a value's bytes put in their places
pub value_put : (bytes new all : List ℕ) (start size value : ℕ) → size ≤ 16 → all ≡ bytes_high_first 16 value
    → new ≡ take (16 - (16 - size)) (drop (16 - size) all)
    → put_mid start (start + size - start) bytes new ≡ take start bytes ++ (bytes_high_first size value ++ drop (start + size) bytes)
value_put bytes new all start size value fits is made =
    let count : start + size - start ≡ size = omega arith in
    let whole : (16 - size) + size ≡ 16 = omega arith in
    let left : 16 - (16 - size) ≡ size = omega arith in
    let last : drop (16 - size) (bytes_high_first 16 value) ≡ bytes_high_first size value =
    subst (λ n. drop (16 - size) (bytes_high_first n value) ≡ bytes_high_first size value) whole (last_bytes (16 - size) size value) in
    let long : length (bytes_high_first size value) ≤ size = omega (arith, length-bytes_high_first size value) in
    let it : new ≡ bytes_high_first size value = made ∙ rw (is, left, last) (take_all size (bytes_high_first size value) long) in
    rw (it, count, drop-drop) refl

-- ---- numbers and their bytes

powers : (k : ℕ) → 256 ^ k ≡ 2 ^ (8 * k)
powers zero = refl
powers (suc k) = let e : 8 * suc k ≡ 8 + 8 * k = omega arith in rw (pow-suc 256 k, e, pow-add 2 8 (8 * k)) (omega (arith, powers k))

pub byte_is : (k n : ℕ) → byte_at k n ≡ n / 256 ^ k % 256
byte_is zero n = omega arith
byte_is (suc k) n = refl

abbrev go_on : ℕ → List ℕ → ℕ
go_on m bytes = fold (λ n byte. n * 256 + byte) m bytes

-- the low part of a number, a byte longer
longer : (k n : ℕ) → n % 256 ^ suc k ≡ (n / 256 ^ k % 256) * 256 ^ k + n % 256 ^ k
longer k n = let e : 8 * suc k ≡ 8 + 8 * k = omega arith in rw (powers (suc k), powers k, e) (mod-pow-add n 8 (8 * k))

bytes_go_on : (k n m : ℕ) → go_on m (bytes_high_first k n) ≡ m * 256 ^ k + n % 256 ^ k
bytes_go_on zero n m = omega arith
bytes_go_on (suc k) n m =
    let rest = bytes_go_on k n (m * 256 + byte_at k n) in
    let spread : (m * 256 + n / 256 ^ k % 256) * 256 ^ k ≡ m * (256 ^ k * 256) + (n / 256 ^ k % 256) * 256 ^ k = omega arith in
    rest ∙ rw (byte_is k n, longer k n, pow-suc 256 k, spread) (omega arith)

pub value_back : (k n : ℕ) → n < 256 ^ k → big_endian (bytes_high_first k n) ≡ n
value_back k n small = let low : n % 256 ^ k ≡ n = mod-eq_of_lt small in bytes_go_on k n 0 ∙ omega (arith, low)

abbrev pub AreBytes : List ℕ → Type 0
AreBytes [] = Unit {0}
AreBytes (b ∷ bs) = (b < 256) × AreBytes bs

go_on_split : (m : ℕ) (bs : List ℕ) → go_on m bs ≡ m * 256 ^ length bs + go_on 0 bs
go_on_split m [] = omega arith
go_on_split m (b ∷ bs) =
    let one = go_on_split (m * 256 + b) bs in
    let two = go_on_split (0 * 256 + b) bs in
    rw (pow-suc 256 (length bs)) (omega (arith, one, two))

pub big_endian_small : (bs : List ℕ) → AreBytes bs → big_endian bs < 256 ^ length bs
big_endian_small [] h = omega arith
big_endian_small (b ∷ bs) h =
    let two = go_on_split (0 * 256 + b) bs in
    let small = mul-add-lt b (256 ^ length bs) (go_on 0 bs) 256 h.0 (big_endian_small bs h.1) in
    rw (pow-suc 256 (length bs)) (omega (arith, two, small))

bytes_from : (m : ℕ) (bs : List ℕ) → AreBytes bs → bytes_high_first (length bs) (go_on m bs) ≡ bs
bytes_from m [] h = refl
bytes_from m (b ∷ bs) h =
    let front : go_on (m * 256 + b) bs / 256 ^ length bs ≡ m * 256 + b =
    rw (go_on_split (m * 256 + b) bs) (div-mul-add (m * 256 + b) (256 ^ length bs) (go_on 0 bs) (big_endian_small bs h.1)) in
    let first : byte_at (length bs) (go_on (m * 256 + b) bs) ≡ b = byte_is (length bs) (go_on (m * 256 + b) bs) ∙ rw front (omega (arith, h.0)) in
    rw first (ap (λ rest. b ∷ rest) (bytes_from (m * 256 + b) bs h.1))

pub bytes_back : (bs : List ℕ) → AreBytes bs → bytes_high_first (length bs) (big_endian bs) ≡ bs
bytes_back bs h = bytes_from 0 bs h
