-- What is printed of an address is read as the same address.
use Rattle.std.proofs.Common.{◌≡◌, ℕ, zero, suc, ◌+◌, ◌*◌, ◌/◌, ◌%◌, ◌^◌, ◌<◌, List, [], ◌∷◌, length, map, Bool, true, Some, refl, ap, ◌∙◌, arith, inl, inr}
use Rattle.std.specs.List.{fold, join_with_byte}
use Rattle.std.proofs.lemmas.Bool.{cases_lt, lt-ltb, le-ltb}
use Rattle.std.specs.Char.{digit_char}
use Rattle.std.specs.List.{list_all}
use Rattle.std.proofs.lemmas.List.Folds.{list_all-append}
use Rattle.key_mask.specs.Ipv6.{group_in, groups_value, ipv6_in, group_text, groups_before, ipv6_text}
use Rattle.key_mask.proofs.NumberLemmas.{digit_again}
use Rattle.key_mask.specs.Ipv6Grammar.{AreGroups, IsFull}
use Rattle.key_mask.proofs.Ipv6GrammarLemmas.{addresses_are_read}

abbrev pub AreSmall : List ℕ → Type 0
AreSmall [] = Unit {0}
AreSmall (g ∷ gs) = (g < 65536) × AreSmall gs

-- ---- digits and groups

one_again : (a : ℕ) → a < 16 → group_in (digit_char a ∷ []) ≡ Some a
unfolding group_in
one_again a p = rw (digit_again a p) (ap Some (omega arith))

two_again : (a b : ℕ) → a < 16 → b < 16 → group_in (digit_char a ∷ digit_char b ∷ []) ≡ Some (a * 16 + b)
unfolding group_in
two_again a b p q = rw (digit_again a p, digit_again b q) (ap Some (omega arith))

three_again : (a b c : ℕ) → a < 16 → b < 16 → c < 16 → group_in (digit_char a ∷ digit_char b ∷ digit_char c ∷ []) ≡ Some ((a * 16 + b) * 16 + c)
unfolding group_in
three_again a b c p q r = rw (digit_again a p, digit_again b q, digit_again c r) (ap Some (omega arith))

four_again : (a b c d : ℕ) → a < 16 → b < 16 → c < 16 → d < 16 → group_in (digit_char a ∷ digit_char b ∷ digit_char c ∷ digit_char d ∷ []) ≡ Some (((a * 16 + b) * 16 + c) * 16 + d)
unfolding group_in
four_again a b c d p q r s = rw (digit_again a p, digit_again b q, digit_again c r, digit_again d s) (ap Some (omega arith))

group_again : (g : ℕ) → g < 65536 → group_in (group_text g) ≡ Some g
unfolding group_text
group_again g h =
    elim (cases_lt g 16) [
      | inl one ↦ rw (lt-ltb g 16 one) (one_again g one)
      | inr ten ↦ elim (cases_lt g 256) [
        | inl two ↦ rw (le-ltb g 16 ten, lt-ltb g 256 two) (two_again (g / 16) (g % 16) (omega arith) (omega arith) ∙ ap Some (omega arith))
        | inr hundred ↦ elim (cases_lt g 4096) [
          | inl three ↦ rw (le-ltb g 16 ten, le-ltb g 256 hundred, lt-ltb g 4096 three) (three_again (g / 16 / 16) (g / 16 % 16) (g % 16) (omega arith) (omega arith) (omega arith) ∙ ap Some (omega arith))
          | inr thousand ↦ rw (le-ltb g 16 ten, le-ltb g 256 hundred, le-ltb g 4096 thousand) (four_again (g / 16 / 16 / 16) (g / 16 / 16 % 16) (g / 16 % 16) (g % 16) (omega arith) (omega arith) (omega arith) (omega arith) ∙ ap Some (omega arith))
        ]
      ]
    ]

pub texts_are : (gs : List ℕ) → AreSmall gs → AreGroups (map group_text gs) gs
texts_are [] small = tt
texts_are (g ∷ gs) small = (group_again g small.0, texts_are gs small.1)

-- ---- numbers

number_back : (k n : ℕ) (behind : List ℕ) → n < 65536 ^ k → groups_value (groups_before k n behind) ≡ fold (λ n group. n * 65536 + group) n behind
unfolding groups_before
number_back zero n behind h = let none : n ≡ 0 = omega arith in rw none refl
number_back (suc k) n behind h =
    let less : n / 65536 < 65536 ^ k = omega (arith, h) in
    number_back k (n / 65536) (n % 65536 ∷ behind) less ∙ ap (λ m. fold (λ n group. n * 65536 + group) m behind) (omega arith)

pub small_back : (k n : ℕ) (behind : List ℕ) → AreSmall behind → AreSmall (groups_before k n behind)
unfolding groups_before
small_back zero n behind h = h
small_back (suc k) n behind h = small_back k (n / 65536) (n % 65536 ∷ behind) (omega arith, h)

pub count_back : (k n : ℕ) (behind : List ℕ) → length (groups_before k n behind) ≡ k + length behind
unfolding groups_before
count_back zero n behind = omega arith
count_back (suc k) n behind = omega (arith, count_back k (n / 65536) (n % 65536 ∷ behind))

-- ---- the whole

pub read_again : (gs : List ℕ) → AreSmall gs → length gs ≡ 8 → ipv6_in (join_with_byte 58 (map group_text gs)) ≡ Some (groups_value gs)
unfolding ipv6_in
read_again gs small long =
    let text : List ℕ = join_with_byte 58 (map group_text gs) in
    let full : IsFull text gs = record { texts = map group_text gs; each = texts_are gs small; eight = long; text_is = refl } in
    rw (addresses_are_read text gs (inl full)) refl

pub ipv6_again : (n : ℕ) → n < 2 ^ 128 → ipv6_in (ipv6_text n) ≡ Some n
unfolding ipv6_text
ipv6_again n h = read_again (groups_before 8 n []) (small_back 8 n [] tt) (count_back 8 n []) ∙ ap Some (number_back 8 n [] h)

-- ---- with which bytes it is printed

pub group_all : (q : ℕ → Bool) → ((d : ℕ) → d < 16 → q (digit_char d) ≡ true) → (g : ℕ) → g < 65536 → list_all q (group_text g) ≡ true
unfolding group_text
group_all q each g h =
    elim (cases_lt g 16) [
      | inl one ↦ rw (lt-ltb g 16 one, each g one) refl
      | inr ten ↦ elim (cases_lt g 256) [
        | inl two ↦ rw (le-ltb g 16 ten, lt-ltb g 256 two, each (g / 16) (omega arith), each (g % 16) (omega arith)) refl
        | inr hundred ↦ elim (cases_lt g 4096) [
          | inl three ↦ rw (le-ltb g 16 ten, le-ltb g 256 hundred, lt-ltb g 4096 three, each (g / 16 / 16) (omega arith), each (g / 16 % 16) (omega arith), each (g % 16) (omega arith)) refl
          | inr thousand ↦ rw (le-ltb g 16 ten, le-ltb g 256 hundred, le-ltb g 4096 thousand, each (g / 16 / 16 / 16) (omega arith), each (g / 16 / 16 % 16) (omega arith), each (g / 16 % 16) (omega arith), each (g % 16) (omega arith)) refl
        ]
      ]
    ]

joined_all : (q : ℕ → Bool) → q 58 ≡ true → ((d : ℕ) → d < 16 → q (digit_char d) ≡ true) → (gs : List ℕ) → AreSmall gs → list_all q (join_with_byte 58 (map group_text gs)) ≡ true
joined_all q colon each [] small = refl
joined_all q colon each (g ∷ []) small = group_all q each g small.0
joined_all q colon each (g ∷ k ∷ gs) small =
    list_all-append q (group_text g) (58 ∷ join_with_byte 58 (map group_text (k ∷ gs))) ∙ rw (group_all q each g small.0, colon, joined_all q colon each (k ∷ gs) small.1) refl

-- each byte passes a test that the digits and the separator pass
pub ipv6_all : (q : ℕ → Bool) → q 58 ≡ true → ((d : ℕ) → d < 16 → q (digit_char d) ≡ true) → (n : ℕ) → list_all q (ipv6_text n) ≡ true
unfolding ipv6_text
ipv6_all q colon each n = joined_all q colon each (groups_before 8 n []) (small_back 8 n [] tt)
