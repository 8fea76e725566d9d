-- Numbers are read as what they were printed of.
use Rattle.std.proofs.Common.{◌≡◌, ◌≢◌, ℕ, zero, suc, ◌+◌, ◌-◌, ◌*◌, ◌^◌, ◌<◌, ◌≤◌, ◌==◌, ◌&&◌, ◌||◌, Bool, true, false, not, inl, inr, nat_lt, nat_le, List, [], ◌∷◌, length, slice_index, get_or, cond, Option, None, Some, sym, refl, ap, ◌∙◌, arith, ⊎_elim, eqb-true}
use Rattle.std.specs.List.{list_all}
use Rattle.std.specs.Fmt.{decimal}
use Rattle.std.specs.Char.{digit_value, digit_char, is_ascii_uppercase}
use Rattle.std.specs.Str.Parse.{AllDigits, digits_value_after}
use Rattle.std.proofs.lemmas.Bool.{and_parts, cases_eq, cases_lt, false≢true, le-ltb, ne_eqb}
use Rattle.std.specs.Option.{option_map_or}
use Rattle.std.proofs.lemmas.Bool.Decides.{nat_tests}
use Rattle.std.proofs.lemmas.Fmt.{decimal_digit, decimal-digits_value, decimal_is_IsNumeral, first_decimal, length-decimal-le}
use Rattle.std.proofs.lemmas.Str.{digit_value_digit}
use Rattle.std.proofs.lemmas.Str.Parse.{digit_from_value, numerals_by_value, tells_digits}
use Rattle.key_mask.specs.Numbers.{◌>>=◌, digits_after, hex_digit_in, is_digit, number_in, up_to}
use Rattle.key_mask.specs.Spellings.{has_no_leading_zero}

digits_read : (n : ℕ) (digits : List ℕ) → AllDigits 10 digits → digits_after n digits ≡ Some (digits_value_after 10 n digits)
digits_read n [] d = refl
digits_read n (c ∷ cs) d =
    let k = digit_from_value c d.0 in
    let t : is_digit c ≡ true = grind (arith, nat_tests, k.0, k.1) in
    let e : n * 10 + (c - 48) ≡ n * 10 + digit_value c = omega (arith, digit_value_digit c k) in
    rw t (ap (λ m. digits_after m cs) e ∙ digits_read (n * 10 + digit_value c) cs d.1)

pub number_again : (most limit n : ℕ) → n ≤ limit → n < 2 ^ 64 → 0 < most → n < 10 ^ most → number_in most limit (decimal n) ≡ Some n
unfolding number_in
number_again most limit n within small some fits =
    let numeral = decimal_is_IsNumeral n small in
    let begun : (length (decimal n) == 0) ≡ false = ne_eqb (length (decimal n)) 0 (λ e. omega (arith, numeral.0.0)) in
    let short : nat_lt most (length (decimal n)) ≡ false = grind (arith, nat_tests, length-decimal-le most n some fits small) in
    let up : nat_le n limit ≡ true = grind (arith, nat_tests) in
    rw (begun, short, digits_read 0 (decimal n) numeral.0.1, numeral.1, up) refl

pub digits_pass : (p : ℕ → Bool) → ((c : ℕ) → 48 ≤ c → c ≤ 57 → p c ≡ true) → (digits : List ℕ) → AllDigits 10 digits → list_all p digits ≡ true
digits_pass p each [] d = refl
digits_pass p each (c ∷ cs) d =
    let k = digit_from_value c d.0 in
    rw (each c k.0 k.1) (digits_pass p each cs d.1)

pub decimal_pass : (p : ℕ → Bool) → ((c : ℕ) → 48 ≤ c → c ≤ 57 → p c ≡ true) → (n : ℕ) → n < 2 ^ 64 → list_all p (decimal n) ≡ true
decimal_pass p each n small = digits_pass p each (decimal n) (decimal_is_IsNumeral n small).0.1

-- ---- what holds of each number below another

-- a test that every number below passes
abbrev pub all_below : (ℕ → Bool) → ℕ → Bool
all_below test zero = true
all_below test (suc n) = test n && all_below test n

pub each_below : (test : ℕ → Bool) (n : ℕ) → all_below test n ≡ true → (k : ℕ) → k < n → test k ≡ true
each_below test zero e k h = absurd (omega arith)
each_below test (suc n) e k h =
    elim (test n) as (λ b. test n ≡ b → (b && all_below test n) ≡ true → test k ≡ true) [
      | true ↦ λ t rest. ⊎_elim (λ (same : k ≡ n). rw same t) (λ (other : k ≢ n). each_below test n rest k (omega (arith, other))) (cases_eq k n)
      | false ↦ λ t rest. absurd (false≢true rest)
    ] refl e

abbrev is_number : ℕ → Option ℕ → Bool
is_number n None = false
is_number n (Some m) = m == n

number_is : (n : ℕ) (found : Option ℕ) → is_number n found ≡ true → found ≡ Some n
number_is n None e = absurd (false≢true e)
number_is n (Some m) e = ap (λ k. Some k) (eqb-true m n e)

pub digit_again : (n : ℕ) → n < 16 → hex_digit_in (digit_char n) ≡ Some n
digit_again n small = number_is n (hex_digit_in (digit_char n)) (each_below (λ k. is_number k (hex_digit_in (digit_char k))) 16 refl n small)

-- a hexadecimal digit passes a test that each of the sixteen passes
pub digit_pass : (p : ℕ → Bool) → all_below (λ k. p (digit_char k)) 16 ≡ true → (n : ℕ) → n < 16 → p (digit_char n) ≡ true
digit_pass p each n small = each_below (λ k. p (digit_char k)) 16 each n small

-- ---- a number without zeros in front is what is printed of it

digits_are : (n m : ℕ) (cs : List ℕ) → digits_after n cs ≡ Some m → AllDigits 10 cs
digits_are n m [] e = tt
digits_are n m (c ∷ cs) e =
    elim (is_digit c) as (λ t. is_digit c ≡ t → cond t (digits_after (n * 10 + (c - 48)) cs) None ≡ Some m → AllDigits 10 (c ∷ cs)) [
      | true ↦ λ t e.
          let low : 48 ≤ c = grind (arith, nat_tests, t) in
          let high : c ≤ 57 = grind (arith, nat_tests, t) in
          let value = digit_value_digit c (low, high) in
          (omega (arith, value, high), digits_are (n * 10 + (c - 48)) m cs e)
      | false ↦ λ t e. absurd (let wrong : ⊥ = cc in wrong)
    ] refl e

-- what number_in says of a text
pub record IsNumber (most limit n : ℕ) (text : List ℕ) : Type 0 where
  pub some : 0 < length text
  pub few : length text ≤ most
  pub digits : AllDigits 10 text
  pub value : digits_value_after 10 0 text ≡ n
  pub within : n ≤ limit

number_cases : (most limit n : ℕ) (text : List ℕ) (empty long : Bool) → (length text == 0) ≡ empty → nat_lt most (length text) ≡ long
    → cond (empty || long) None (digits_after 0 text >>= up_to limit) ≡ Some n → IsNumber most limit n text
number_cases most limit n text true long e l h = absurd (let wrong : ⊥ = cc in wrong)
number_cases most limit n text false true e l h = absurd (let wrong : ⊥ = cc in wrong)
number_cases most limit n text false false e l h = inner (digits_after 0 text) refl h where
  inner : (o : Option ℕ) → digits_after 0 text ≡ o → (o >>= up_to limit) ≡ Some n → IsNumber most limit n text
  inner None p h = absurd (let wrong : ⊥ = cc in wrong)
  inner (Some m) p h =
      let ds = digits_are 0 m text p in
      let value : Some (digits_value_after 10 0 text) ≡ Some m = sym (digits_read 0 text ds) ∙ p in
      let equal : digits_value_after 10 0 text ≡ m = cc value in
      elim (nat_le m limit) as (λ t. nat_le m limit ≡ t → cond t (Some m) None ≡ Some n → IsNumber most limit n text) [
        | true ↦ λ t h.
            let same : m ≡ n = cc h in
            let up : m ≤ limit = grind (arith, nat_tests, t) in
            record { some = grind (arith, nat_tests, e); few = grind (arith, nat_tests, l); digits = ds; value = equal ∙ same; within = omega (arith, same, up) }
        | false ↦ λ t h. absurd (let wrong : ⊥ = cc in wrong)
      ] refl h

pub number_read : (most limit n : ℕ) (text : List ℕ) → number_in most limit text ≡ Some n → IsNumber most limit n text
unfolding number_in
number_read most limit n text h = number_cases most limit n text (length text == 0) (nat_lt most (length text)) refl refl h

pub number_text : (most limit n : ℕ) (text : List ℕ) → limit < 2 ^ 64 → number_in most limit text ≡ Some n → has_no_leading_zero text ≡ true → text ≡ decimal n
number_text most limit n text small h lead =
    let read = number_read most limit n text h in
    let one : get_or text 0 0 ≡ 48 → length text ≡ 1 = λ z. grind (arith, nat_tests, lead, z) in
    let fits : digits_value_after 10 0 text < 2 ^ 64 = omega (arith, read.value, read.within) in
    sym (decimal-digits_value (numerals_by_value (AllDigits 10) tells_digits) text read.digits read.some one fits) ∙ ap decimal read.value

-- and what is printed has none
pub decimal_lead : (n : ℕ) → n < 2 ^ 64 → has_no_leading_zero (decimal n) ≡ true
decimal_lead n small =
    ⊎_elim
    (λ (e : n ≡ 0). let text : decimal n ≡ (48 + n) ∷ [] = decimal_digit n (omega arith) in rw text refl)
    (λ (ne : n ≢ 0).
    let first : 48 < get_or (decimal n) 0 0 = first_decimal n (omega arith) small in
    let other : (slice_index (decimal n) 0 == 48) ≡ false = ne_eqb (slice_index (decimal n) 0) 48 (λ z. omega (arith, first, z)) in
    grind (arith, nat_tests, other))
    (cases_eq n 0)

-- ---- a hexadecimal digit in lower case is what is printed of it

abbrev is_digit_spelled : ℕ → Bool
is_digit_spelled c = option_map_or (λ d. is_ascii_uppercase c || (c == digit_char d && nat_lt d 16)) (hex_digit_in c) true

spelled_cases : (c d : ℕ) (o : Option ℕ) → o ≡ Some d → option_map_or (λ d. is_ascii_uppercase c || (c == digit_char d && nat_lt d 16)) o true ≡ true
    → is_ascii_uppercase c ≡ false → (c == digit_char d && nat_lt d 16) ≡ true
spelled_cases c d o e h lower = let found : (is_ascii_uppercase c || (c == digit_char d && nat_lt d 16)) ≡ true = rw e at h in rw lower at found

pub digit_is : (c d : ℕ) → hex_digit_in c ≡ Some d → not (is_ascii_uppercase c) ≡ true → (c ≡ digit_char d) × (d < 16)
digit_is c d e h =
    elim (cases_lt c 123) [
      | inl low ↦
          let lower : is_ascii_uppercase c ≡ false = elim (is_ascii_uppercase c) as (λ b. not b ≡ true → b ≡ false) [ true ↦ λ z. absurd (false≢true z) | false ↦ λ z. refl ] h in
          let both = and_parts (c == digit_char d) (nat_lt d 16) (spelled_cases c d (hex_digit_in c) e (each_below is_digit_spelled 123 refl c low) lower) in
          let small : nat_lt d 16 ≡ true = both.1 in
          (eqb-true c (digit_char d) both.0, grind (arith, nat_tests, small))
      | inr high ↦
          let none : hex_digit_in c ≡ None =
          rw (le-ltb c 48 (omega arith), le-ltb c 58 (omega arith), le-ltb c 65 (omega arith), le-ltb c 91 (omega arith), le-ltb c 97 (omega arith), le-ltb c 123 high) refl in
          absurd (let wrong : None ≡ Some d = sym none ∙ e in let bad : ⊥ = cc in bad)
    ]
