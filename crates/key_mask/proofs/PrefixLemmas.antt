-- Prefixes of fields, printed and read.
use Rattle.std.proofs.Common.{◌≡◌, ◌≢◌, ℕ, ◌+◌, ◌^◌, ◌<◌, ◌≤◌, ◌==◌, ◌&&◌, Bool, true, false, not, cond, nat_le, List, [], ◌∷◌, length, Option, None, Some, is_some, option_and_then, IsTrue, refl, ap, sym, ◌∙◌, subst, arith, ⊎_elim, eq-eqb, eqb-true}
use Rattle.std.specs.List.{list_all}
use Rattle.std.specs.Option.{option_map_or}
use Rattle.std.specs.Fmt.{decimal}
use Rattle.std.proofs.lemmas.Bool.{cases_eq, false≢true, ne_eqb}
use Rattle.std.proofs.lemmas.Bool.Decides.{nat_tests}
use Rattle.std.proofs.lemmas.Fmt.{length-decimal-le}
use Rattle.key_mask.specs.declared.fields.Field.{Field}
use Rattle.key_mask.specs.declared.fields.ValueKind.{ValueKind}
use Rattle.key_mask.specs.declared.fields.ValueKind.TheVariants.{Ipv4, Port, Byte, Hex, Ipv6}
use Rattle.key_mask.specs.Fields.{width_of, kind_of, prefix_digits, is_length}
use Rattle.key_mask.specs.Numbers.{number_in}
use Rattle.key_mask.specs.Items.{is_canonical_prefix, longest_prefix, not_zero, prefix_in, prefix_text}
use Rattle.key_mask.proofs.FieldLemmas.{each_field, kind_width, width_is}
use Rattle.key_mask.proofs.NumberLemmas.{number_again, decimal_lead, decimal_pass, digits_pass, number_read, number_text}
use Rattle.std.specs.Str.Parse.{AllDigits}
use Rattle.texts.specs.Cuts.{tail_of}
use Rattle.key_mask.specs.Spellings.{has_no_leading_zero}

-- the digits that a prefix may have are enough for the whole width
abbrev AreEnough : Option ℕ → ℕ → Type 0
AreEnough None width = Unit {0}
AreEnough (Some digits) width = (0 < digits) × (width < 10 ^ digits)

pub record IsRow (digits : Option ℕ) (width : ℕ) : Type 0 where
  pub enough : AreEnough digits width
  pub some : 0 < width
  pub few : width ≤ 128

kind_row : (kind : ValueKind) → IsRow (prefix_digits kind) (kind_width kind)
kind_row Ipv4 = record { enough = (omega arith, omega arith); some = omega arith; few = omega arith }
kind_row Port = record { enough = tt; some = omega arith; few = omega arith }
kind_row Byte = record { enough = tt; some = omega arith; few = omega arith }
kind_row Hex = record { enough = tt; some = omega arith; few = omega arith }
kind_row Ipv6 = record { enough = (omega arith, omega arith); some = omega arith; few = omega arith }

pub each_row : (field : Field) → IsRow (prefix_digits (kind_of field)) (width_of field)
each_row field = subst (IsRow (prefix_digits (kind_of field))) (sym (width_is field)) (kind_row (kind_of field))

-- a length between 1 and the width
pub record IsWithin (width n : ℕ) : Type 0 where
  pub some : 0 < n
  pub few : n ≤ width

within : (digits : Option ℕ) (width n : ℕ) → 0 < width → cond (is_some digits) (nat_le 1 n && nat_le n width) (n == width) ≡ true → IsWithin width n
within None width n some e = let same : n ≡ width = eqb-true n width e in record { some = omega arith; few = omega arith }
within (Some digits) width n some e = record { some = grind (arith, nat_tests); few = grind (arith, nat_tests) }

pub length_within : (field : Field) (n : ℕ) → IsTrue (is_length field n) → IsWithin (width_of field) n
length_within field n e = within (prefix_digits (kind_of field)) (width_of field) n (each_row field).some e

-- ---- a prefix that is printed

short_digits : (digits : Option ℕ) (width n : ℕ) → IsRow digits width → cond (is_some digits) (nat_le 1 n && nat_le n width) (n == width) ≡ true
    → n ≢ width → length (decimal n) + 1 ≤ option_map_or (λ d. d + 1) digits 0
short_digits None width n row e ne = absurd (ne (eqb-true n width e))
short_digits (Some digits) width n row e ne =
    let fits = within (Some digits) width n row.some e in
    omega (arith, length-decimal-le digits n row.enough.0 (omega (arith, row.enough.1, fits.few)) (omega (arith, fits.few, row.few)))

pub prefix_short : (field : Field) (n : ℕ) → IsTrue (is_length field n) → n ≢ width_of field
    → length (decimal n) + 1 ≤ longest_prefix field
prefix_short field n e ne = short_digits (prefix_digits (kind_of field)) (width_of field) n (each_row field) e ne

-- ---- and is read again

behind_again : (digits : Option ℕ) (width n : ℕ) → IsRow digits width → cond (is_some digits) (nat_le 1 n && nat_le n width) (n == width) ≡ true
    → n ≢ width → option_and_then (λ d. option_and_then not_zero (number_in d width (decimal n))) digits ≡ Some n
behind_again None width n row e ne = absurd (ne (eqb-true n width e))
behind_again (Some digits) width n row e ne =
    let fits = within (Some digits) width n row.some e in
    let nz : (n == 0) ≡ false = ne_eqb n 0 (λ z. omega (arith, fits.some)) in
    rw (number_again digits width n fits.few (omega (arith, fits.few, row.few)) row.enough.0 (omega (arith, row.enough.1, fits.few)), nz) refl

pub prefix_again : (field : Field) (n : ℕ) → IsTrue (is_length field n)
    → prefix_in field (cond (n == width_of field) None (Some (decimal n))) ≡ Some n
prefix_again field n e =
    ⊎_elim
    (λ (same : n ≡ width_of field).
    let t : (n == width_of field) ≡ true = eq-eqb n (width_of field) same in
    rw t (ap (λ k. Some k) (sym same)))
    (λ (ne : n ≢ width_of field).
    let t : (n == width_of field) ≡ false = ne_eqb n (width_of field) ne in
    rw t (behind_again (prefix_digits (kind_of field)) (width_of field) n (each_row field) e ne))
    (cases_eq n (width_of field))

-- it is in its canonical spelling
pub prefix_canonical : (field : Field) (n : ℕ) → IsTrue (is_length field n)
    → is_canonical_prefix field (cond (n == width_of field) None (Some (decimal n))) ≡ true
prefix_canonical field n e =
    ⊎_elim
    (λ (same : n ≡ width_of field). let t : (n == width_of field) ≡ true = eq-eqb n (width_of field) same in rw t refl)
    (λ (ne : n ≢ width_of field).
    let t : (n == width_of field) ≡ false = ne_eqb n (width_of field) ne in
    let row = each_row field in
    let fits = length_within field n e in
    rw (t, decimal_lead n (omega (arith, fits.few, row.few)), behind_again (prefix_digits (kind_of field)) (width_of field) n (each_row field) e ne, t) refl)
    (cases_eq n (width_of field))

-- digits, where there are any, pass a test that digits and the slash pass
pub prefix_pass : (p : ℕ → Bool) → p 47 ≡ true → ((c : ℕ) → 48 ≤ c → c ≤ 57 → p c ≡ true)
    → (field : Field) (n : ℕ) → n < 2 ^ 64 → list_all p (prefix_text field n) ≡ true
prefix_pass p slash each field n small =
    elim (n == width_of field) as (λ t. list_all p (cond t [] (47 ∷ decimal n)) ≡ true) [
      | true ↦ refl
      | false ↦ rw slash (decimal_pass p each n small)
    ]

-- ---- a prefix that is read has some bit

then_some : (o : Option ℕ) (f : ℕ → Option ℕ) (p : ℕ) → option_and_then f o ≡ Some p → (x : ℕ) × (f x ≡ Some p)
then_some None f p h = absurd (let wrong : ⊥ = cc in wrong)
then_some (Some x) f p h = (x, h)

not_zero_some : (n p : ℕ) → not_zero n ≡ Some p → p ≢ 0
not_zero_some n p h z =
    ⊎_elim
    (λ (e : n ≡ 0). let t : (n == 0) ≡ true = eq-eqb n 0 e in let wrong : None ≡ Some p = rw t at h in absurd (let bad : ⊥ = cc in bad))
    (λ (ne : n ≢ 0). let t : (n == 0) ≡ false = ne_eqb n 0 ne in let same : Some n ≡ Some p = rw t at h in let equal : n ≡ p = cc same in ne (equal ∙ z))
    (cases_eq n 0)

pub prefix_some : (field : Field) (o : Option (List ℕ)) (p : ℕ) → prefix_in field o ≡ Some p → p ≢ 0
prefix_some field None p h = λ z. let row = each_row field in let same : width_of field ≡ p = cc h in omega (arith, row.some, same, z)
prefix_some field (Some text) p h =
    let read : ℕ → Option ℕ = λ digits. option_and_then not_zero (number_in digits (width_of field) text) in
    let one = then_some (prefix_digits (kind_of field)) read p h in
    let two = then_some (number_in one.0 (width_of field) text) not_zero p one.1 in
    not_zero_some two.0 p two.1

-- ---- a prefix in its canonical spelling is what is printed

behind_is : (digits : Option ℕ) (width p : ℕ) (text : List ℕ) → width ≤ 128
    → option_and_then (λ d. option_and_then not_zero (number_in d width text)) digits ≡ Some p → has_no_leading_zero text ≡ true → text ≡ decimal p
behind_is None width p text few h lead = absurd (let wrong : ⊥ = cc in wrong)
behind_is (Some digits) width p text few h lead = inner (number_in digits width text) refl h where
  inner : (o : Option ℕ) → number_in digits width text ≡ o → option_and_then not_zero o ≡ Some p → text ≡ decimal p
  inner None e h = absurd (let wrong : ⊥ = cc in wrong)
  inner (Some n) e h =
      ⊎_elim
      (λ (z : n ≡ 0). let t : (n == 0) ≡ true = eq-eqb n 0 z in let none : None ≡ Some p = rw t at h in absurd (let wrong : ⊥ = cc in wrong))
      (λ (ne : n ≢ 0).
      let t : (n == 0) ≡ false = ne_eqb n 0 ne in
      let same : Some n ≡ Some p = rw t at h in
      let equal : n ≡ p = cc same in
      number_text digits width n text (omega (arith, few)) e lead ∙ ap decimal equal)
      (cases_eq n 0)

pub prefix_is : (field : Field) (o : Option (List ℕ)) (p : ℕ) → prefix_in field o ≡ Some p → is_canonical_prefix field o ≡ true → tail_of 47 o ≡ prefix_text field p
prefix_is field None p h spelled =
    let same : width_of field ≡ p = cc h in
    let t : (p == width_of field) ≡ true = eq-eqb p (width_of field) (sym same) in
    rw t refl
prefix_is field (Some text) p h spelled =
    let row = each_row field in
    let whole : (has_no_leading_zero text && not (p == width_of field)) ≡ true = rw h at spelled in
    elim (has_no_leading_zero text) as (λ b. has_no_leading_zero text ≡ b → (b && not (p == width_of field)) ≡ true → 47 ∷ text ≡ prefix_text field p) [
      | true ↦ λ lead rest.
          elim (p == width_of field) as (λ t. not t ≡ true → 47 ∷ text ≡ cond t [] (47 ∷ decimal p)) [
            | true ↦ λ e. absurd (false≢true e)
            | false ↦ λ e. ap (λ ds. 47 ∷ ds) (behind_is (prefix_digits (kind_of field)) (width_of field) p text row.few h lead)
          ] rest
      | false ↦ λ lead rest. absurd (false≢true rest)
    ] refl whole

-- ---- a prefix that is read is one of the field

whole_allowed : (field : Field) → is_length field (width_of field) ≡ true
whole_allowed = each_field (λ field. is_length field (width_of field)) refl

behind_allowed : (digits : Option ℕ) (width p : ℕ) (text : List ℕ)
    → option_and_then (λ d. option_and_then not_zero (number_in d width text)) digits ≡ Some p
    → (cond (is_some digits) (nat_le 1 p && nat_le p width) (p == width) ≡ true) × AllDigits 10 text
behind_allowed None width p text h = absurd (let wrong : ⊥ = cc in wrong)
behind_allowed (Some digits) width p text h = inner (number_in digits width text) refl h where
  inner : (o : Option ℕ) → number_in digits width text ≡ o → option_and_then not_zero o ≡ Some p
      → ((nat_le 1 p && nat_le p width) ≡ true) × AllDigits 10 text
  inner None e h = absurd (let wrong : ⊥ = cc in wrong)
  inner (Some n) e h =
      ⊎_elim
      (λ (z : n ≡ 0). let t : (n == 0) ≡ true = eq-eqb n 0 z in let none : None ≡ Some p = rw t at h in absurd (let wrong : ⊥ = cc in wrong))
      (λ (ne : n ≢ 0).
      let t : (n == 0) ≡ false = ne_eqb n 0 ne in
      let found : Some n ≡ Some p = rw t at h in
      let same : n ≡ p = cc found in
      let read = number_read digits width n text e in
      let low : 1 ≤ p = omega (arith, same, ne) in
      let high : p ≤ width = omega (arith, same, read.within) in
      (grind (arith, nat_tests), read.digits))
      (cases_eq n 0)

pub prefix_allowed : (field : Field) (o : Option (List ℕ)) (p : ℕ) → prefix_in field o ≡ Some p → is_length field p ≡ true
prefix_allowed field None p h = let same : width_of field ≡ p = cc h in subst (λ n. is_length field n ≡ true) same (whole_allowed field)
prefix_allowed field (Some text) p h = (behind_allowed (prefix_digits (kind_of field)) (width_of field) p text h).0

-- and its digits pass a test that digits pass
pub behind_pass : (test : ℕ → Bool) → test 47 ≡ true → ((c : ℕ) → 48 ≤ c → c ≤ 57 → test c ≡ true) → (field : Field) (o : Option (List ℕ)) (p : ℕ)
    → prefix_in field o ≡ Some p → list_all test (tail_of 47 o) ≡ true
behind_pass test slash each field None p h = refl
behind_pass test slash each field (Some text) p h =
    rw (slash, digits_pass test each text (behind_allowed (prefix_digits (kind_of field)) (width_of field) p text h).1) refl
