-- Four hexadecimal digits in lower case are what is printed of their number.
use Rattle.std.proofs.Common.{◌≡◌, ℕ, zero, suc, ◌+◌, ◌*◌, ◌/◌, ◌%◌, ◌<◌, ◌==◌, ◌&&◌, Bool, true, false, not, cond, nat_lt, List, [], ◌∷◌, length, slice_index, Option, None, Some, refl, ap, ◌∙◌, arith, eqb-true}
use Rattle.std.specs.Char.{digit_char, digit_value, is_ascii_uppercase}
use Rattle.std.proofs.lemmas.Option.{cond_some}
use Rattle.std.proofs.lemmas.Bool.{and_parts}
use Rattle.std.proofs.lemmas.Bool.Decides.{nat_tests}
use Rattle.key_mask.specs.Numbers.{◌>>=◌, has_hex_form, hex_digit_in, hex_in}
use Rattle.key_mask.specs.Spellings.{hex_text, is_lower_case}
use Rattle.key_mask.proofs.Ipv6GrammarLemmas.{some_bind}
use Rattle.key_mask.proofs.NumberLemmas.{digit_is}

abbrev pub is_lower : ℕ → Bool
is_lower byte = not (is_ascii_uppercase byte)

record IsHex (a b c d n : ℕ) : Type 0 where
  p : ℕ
  q : ℕ
  r : ℕ
  s : ℕ
  one : hex_digit_in a ≡ Some p
  two : hex_digit_in b ≡ Some q
  three : hex_digit_in c ≡ Some r
  four : hex_digit_in d ≡ Some s
  value : ((p * 16 + q) * 16 + r) * 16 + s ≡ n

four_digits : (a b c d n : ℕ) → (hex_digit_in a >>= λ p. hex_digit_in b >>= λ q. hex_digit_in c >>= λ r. hex_digit_in d >>= λ s. Some (((p * 16 + q) * 16 + r) * 16 + s)) ≡ Some n
    → IsHex a b c d n
four_digits a b c d n h =
    let f4 : ℕ → ℕ → ℕ → ℕ → Option ℕ = λ p q r s. Some (((p * 16 + q) * 16 + r) * 16 + s) in
    let f3 : ℕ → ℕ → ℕ → Option ℕ = λ p q r. hex_digit_in d >>= f4 p q r in
    let f2 : ℕ → ℕ → Option ℕ = λ p q. hex_digit_in c >>= f3 p q in
    let f1 : ℕ → Option ℕ = λ p. hex_digit_in b >>= f2 p in
    let s1 = some_bind (hex_digit_in a) f1 n h in
    let s2 = some_bind (hex_digit_in b) (f2 s1.0) n s1.2 in
    let s3 = some_bind (hex_digit_in c) (f3 s1.0 s2.0) n s2.2 in
    let s4 = some_bind (hex_digit_in d) (f4 s1.0 s2.0 s3.0) n s3.2 in
    record { p = s1.0; q = s2.0; r = s3.0; s = s4.0; one = s1.1; two = s2.1; three = s3.1; four = s4.1; value = cc s4.2 }

record IsHexForm (text : List ℕ) (n : ℕ) : Type 0 where
  long : length text ≡ 6
  zero_first : slice_index text 0 ≡ 48
  letter : slice_index text 1 ≡ 120
  digits : IsHex (slice_index text 2) (slice_index text 3) (slice_index text 4) (slice_index text 5) n

hex_form : (text : List ℕ) (n : ℕ) → hex_in text ≡ Some n → IsHexForm text n
unfolding hex_in
hex_form text n h =
    let f : List ℕ → Option ℕ = λ whole.
    hex_digit_in (slice_index whole 2) >>= λ p. hex_digit_in (slice_index whole 3) >>= λ q. hex_digit_in (slice_index whole 4) >>= λ r. hex_digit_in (slice_index whole 5) >>= λ s.
    Some (((p * 16 + q) * 16 + r) * 16 + s) in
    let step = some_bind (cond (has_hex_form text) (Some text) None) f n h in
    let last = cond_some (has_hex_form text) text step.0 step.1 in
    let rest : f text ≡ Some n = ap f last.1 ∙ step.2 in
    let two = and_parts (length text == 6 && slice_index text 0 == 48) (slice_index text 1 == 120) last.0 in
    let one = and_parts (length text == 6) (slice_index text 0 == 48) two.0 in
    record {
      long = eqb-true (length text) 6 one.0;
      zero_first = eqb-true (slice_index text 0) 48 one.1;
      letter = eqb-true (slice_index text 1) 120 two.1;
      digits = four_digits (slice_index text 2) (slice_index text 3) (slice_index text 4) (slice_index text 5) n rest;
    }

-- what one digit is
pub record IsDigit (c d : ℕ) : Type 0 where
  pub is : c ≡ digit_char d
  pub small : d < 16

pub one_digit : (c d : ℕ) → hex_digit_in c ≡ Some d → is_lower c ≡ true → IsDigit c d
one_digit c d h lower = let both = digit_is c d h lower in record { is = both.0; small = both.1 }

hex_digits : (p q r s : ℕ) → p < 16 → q < 16 → r < 16 → s < 16
    → 48 ∷ 120 ∷ digit_char p ∷ digit_char q ∷ digit_char r ∷ digit_char s ∷ [] ≡ hex_text (((p * 16 + q) * 16 + r) * 16 + s)
unfolding hex_text
hex_digits p q r s lp lq lr ls =
    let n : ℕ = ((p * 16 + q) * 16 + r) * 16 + s in
    let d1 : p ≡ n / 16 / 16 / 16 = omega arith in
    let d2 : q ≡ n / 16 / 16 % 16 = omega arith in
    let d3 : r ≡ n / 16 % 16 = omega arith in
    let d4 : s ≡ n % 16 = omega arith in
    (λ i. 48 ∷ 120 ∷ digit_char (d1 i) ∷ digit_char (d2 i) ∷ digit_char (d3 i) ∷ digit_char (d4 i) ∷ [])

six : (text : List ℕ) → length text ≡ 6
    → text ≡ slice_index text 0 ∷ slice_index text 1 ∷ slice_index text 2 ∷ slice_index text 3 ∷ slice_index text 4 ∷ slice_index text 5 ∷ []
six [] e = absurd (omega arith)
six (t ∷ []) e = absurd (omega arith)
six (t ∷ u ∷ []) e = absurd (omega arith)
six (t ∷ u ∷ a ∷ []) e = absurd (omega arith)
six (t ∷ u ∷ a ∷ b ∷ []) e = absurd (omega arith)
six (t ∷ u ∷ a ∷ b ∷ c ∷ []) e = absurd (omega arith)
six (t ∷ u ∷ a ∷ b ∷ c ∷ d ∷ []) e = refl
six (t ∷ u ∷ a ∷ b ∷ c ∷ d ∷ x ∷ more) e = absurd (omega arith)

pub lower_at : (text : List ℕ) → is_lower_case text ≡ true → (k : ℕ) → k < length text → is_lower (slice_index text k) ≡ true
lower_at [] e k h = absurd (omega arith)
lower_at (x ∷ xs) e zero h = (and_parts (is_lower x) (is_lower_case xs) e).0
lower_at (x ∷ xs) e (suc k) h = lower_at xs (and_parts (is_lower x) (is_lower_case xs) e).1 k (omega arith)

pub hex_is : (text : List ℕ) (n : ℕ) → hex_in text ≡ Some n → is_lower_case text ≡ true → text ≡ hex_text n
hex_is text n h lower =
    let form = hex_form text n h in
    let it = form.digits in
    let one = one_digit (slice_index text 2) it.p it.one (lower_at text lower 2 (omega (arith, form.long))) in
    let two = one_digit (slice_index text 3) it.q it.two (lower_at text lower 3 (omega (arith, form.long))) in
    let three = one_digit (slice_index text 4) it.r it.three (lower_at text lower 4 (omega (arith, form.long))) in
    let four = one_digit (slice_index text 5) it.s it.four (lower_at text lower 5 (omega (arith, form.long))) in
    six text form.long
    ∙ (λ i. form.zero_first i ∷ form.letter i ∷ one.is i ∷ two.is i ∷ three.is i ∷ four.is i ∷ [])
    ∙ hex_digits it.p it.q it.r it.s one.small two.small three.small four.small
    ∙ ap hex_text it.value

-- digits are below 16 in either case
pub digit_small : (c d : ℕ) → hex_digit_in c ≡ Some d → d < 16
digit_small c d h =
    elim (nat_lt (digit_value c) 16) as (λ t. nat_lt (digit_value c) 16 ≡ t → cond t (Some (digit_value c)) None ≡ Some d → d < 16) [
      | true ↦ λ t e. let same : digit_value c ≡ d = cc e in let low : digit_value c < 16 = below_from (digit_value c) t in omega (arith, same, low)
      | false ↦ λ t e. absurd (let wrong : ⊥ = cc in wrong)
    ] refl h where
      below_from : (n : ℕ) → nat_lt n 16 ≡ true → n < 16
      below_from n t = grind (arith, nat_tests, t)

pub hex_small : (text : List ℕ) (n : ℕ) → hex_in text ≡ Some n → n < 65536
hex_small text n h =
    let form = hex_form text n h in
    let it = form.digits in
    let p = digit_small (slice_index text 2) it.p it.one in
    let q = digit_small (slice_index text 3) it.q it.two in
    let r = digit_small (slice_index text 4) it.r it.three in
    let s = digit_small (slice_index text 5) it.s it.four in
    omega (arith, it.value, p, q, r, s)
