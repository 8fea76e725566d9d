-- Lists of bytes, taken bit by bit.
use Rattle.std.proofs.Common.{◌≡◌, ℕ, zero, suc, ◌<◌, min, List, [], ◌∷◌, length, get_or, bit_and, bit_xor, refl, ap, ap₂, sym, ◌∙◌, arith}
use Rattle.std.proofs.lemmas.List.{ext_get_or}
use Rattle.std.proofs.lemmas.Nat.{and_assoc}
use Rattle.std.proofs.lemmas.Nat.Bits.{same_from_bits, bit_at_and, bit_at_xor, bit_at-lt}
use Rattle.std.specs.Int.Bits.{and_self, and_zero_l, and_zero_r}
use Rattle.key_mask.specs.Bytes.{bytewise, and_bytes, xor_bytes}

-- ---- any operation

pub length-bytewise : (f : ℕ → ℕ → ℕ) (xs ys : List ℕ) → length (bytewise f xs ys) ≡ min (length xs) (length ys)
length-bytewise f [] ys = omega arith
length-bytewise f (x ∷ xs) [] = omega arith
length-bytewise f (x ∷ xs) (y ∷ ys) = omega (arith, length-bytewise f xs ys)

pub get_or-bytewise : (f : ℕ → ℕ → ℕ) (xs ys : List ℕ) (k : ℕ) → k < length xs → k < length ys
    → get_or (bytewise f xs ys) k 0 ≡ f (get_or xs k 0) (get_or ys k 0)
get_or-bytewise f [] ys k h i = absurd (omega arith)
get_or-bytewise f (x ∷ xs) [] k h i = absurd (omega arith)
get_or-bytewise f (x ∷ xs) (y ∷ ys) zero h i = refl
get_or-bytewise f (x ∷ xs) (y ∷ ys) (suc k) h i = get_or-bytewise f xs ys k (omega arith) (omega arith)

-- a list that has the operation's result at each place
pub bytewise_all : (f : ℕ → ℕ → ℕ) (xs ys zs : List ℕ) → length xs ≡ length zs → length ys ≡ length zs
    → ((k : ℕ) → k < length zs → get_or zs k 0 ≡ f (get_or xs k 0) (get_or ys k 0)) → zs ≡ bytewise f xs ys
bytewise_all f xs ys zs long same each =
    let whole : length zs ≡ length (bytewise f xs ys) = omega (arith, length-bytewise f xs ys) in
    ext_get_or 0 zs (bytewise f xs ys) whole
    (λ k h. each k h ∙ sym (get_or-bytewise f xs ys k (omega arith) (omega arith)))

bytewise_assoc : (f : ℕ → ℕ → ℕ) → ((x y z : ℕ) → f (f x y) z ≡ f x (f y z)) → (xs ys zs : List ℕ)
    → bytewise f (bytewise f xs ys) zs ≡ bytewise f xs (bytewise f ys zs)
bytewise_assoc f assoc [] ys zs = refl
bytewise_assoc f assoc (x ∷ xs) [] zs = refl
bytewise_assoc f assoc (x ∷ xs) (y ∷ ys) [] = refl
bytewise_assoc f assoc (x ∷ xs) (y ∷ ys) (z ∷ zs) = ap₂ (λ w ws. w ∷ ws) (assoc x y z) (bytewise_assoc f assoc xs ys zs)

bytewise_self : (f : ℕ → ℕ → ℕ) → ((x : ℕ) → f x x ≡ x) → (xs : List ℕ) → bytewise f xs xs ≡ xs
bytewise_self f self [] = refl
bytewise_self f self (x ∷ xs) = ap₂ (λ z zs. z ∷ zs) (self x) (bytewise_self f self xs)

-- ---- and

pub and_bytes_assoc : (xs ys zs : List ℕ) → and_bytes (and_bytes xs ys) zs ≡ and_bytes xs (and_bytes ys zs)
and_bytes_assoc xs ys zs = bytewise_assoc bit_and (λ x y z. and_assoc z x y) xs ys zs

pub and_bytes_self : (xs : List ℕ) → and_bytes xs xs ≡ xs
and_bytes_self xs = bytewise_self bit_and and_self xs

-- past the end of a list stands 0, so no place is shut out
pub get_or-and_bytes : (xs ys : List ℕ) (k : ℕ) → get_or (and_bytes xs ys) k 0 ≡ bit_and (get_or xs k 0) (get_or ys k 0)
get_or-and_bytes [] ys k = sym (and_zero_l (get_or ys k 0))
get_or-and_bytes (x ∷ xs) [] k = sym (and_zero_r (get_or (x ∷ xs) k 0))
get_or-and_bytes (x ∷ xs) (y ∷ ys) zero = refl
get_or-and_bytes (x ∷ xs) (y ∷ ys) (suc k) = get_or-and_bytes xs ys k

-- a mask that was laid on once changes nothing when it is laid on again
pub and_bytes_twice : (xs ys : List ℕ) → and_bytes (and_bytes xs ys) ys ≡ and_bytes xs ys
and_bytes_twice xs ys = and_bytes_assoc xs ys ys ∙ ap (and_bytes xs) (and_bytes_self ys)

-- ---- xor

-- past the ends of lists that are as long stands 0
pub get_or-xor_bytes : (xs ys : List ℕ) (k : ℕ) → length xs ≡ length ys
    → get_or (xor_bytes xs ys) k 0 ≡ bit_xor (get_or xs k 0) (get_or ys k 0)
get_or-xor_bytes [] [] k long = refl
get_or-xor_bytes [] (y ∷ ys) k long = absurd (omega arith)
get_or-xor_bytes (x ∷ xs) [] k long = absurd (omega arith)
get_or-xor_bytes (x ∷ xs) (y ∷ ys) zero long = refl
get_or-xor_bytes (x ∷ xs) (y ∷ ys) (suc k) long = get_or-xor_bytes xs ys k (omega arith)

-- ---- and over xor

pub and-xor : (a b m : ℕ) → bit_and m (bit_xor a b) ≡ bit_xor (bit_and m a) (bit_and m b)
and-xor a b m =
    same_from_bits (bit_and m (bit_xor a b)) (bit_xor (bit_and m a) (bit_and m b))
    (λ i. rw (bit_at_and m (bit_xor a b) i, bit_at_xor a b i, bit_at_xor (bit_and m a) (bit_and m b) i, bit_at_and m a i, bit_at_and m b i)
    (omega (arith, bit_at-lt a i, bit_at-lt b i, bit_at-lt m i)))

-- what two masks leave of one vector
pub and_bytes-xor_bytes : (bytes one two : List ℕ)
    → and_bytes bytes (xor_bytes one two) ≡ xor_bytes (and_bytes bytes one) (and_bytes bytes two)
and_bytes-xor_bytes [] one two = refl
and_bytes-xor_bytes (b ∷ bytes) [] two = refl
and_bytes-xor_bytes (b ∷ bytes) (x ∷ one) [] = refl
and_bytes-xor_bytes (b ∷ bytes) (x ∷ one) (y ∷ two) = ap₂ (λ z zs. z ∷ zs) (and-xor x y b) (and_bytes-xor_bytes bytes one two)
