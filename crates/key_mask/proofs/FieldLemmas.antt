-- What holds of all fields, by one look through them.
use Rattle.std.proofs.Common.{◌≡◌, ℕ, ◌<◌, ◌≤◌, ◌^◌, ◌==◌, Bool, true, false, nat_le, get_or, refl, ap, sym, ◌∙◌, subst, arith, ⊎_elim, eqb-true}
use Rattle.std.specs.List.{list_all}
use Rattle.std.proofs.lemmas.Bool.{cases_Bool, cases_lt, false≢true}
use Rattle.std.proofs.lemmas.Bool.Decides.{nat_tests}
use Rattle.std.proofs.lemmas.List.{get_or-map, get_or_past}
use Rattle.std.proofs.lemmas.List.Folds.{list_all_at}
use Rattle.std.proofs.lemmas.List.FromFn.{get_or-range_with_len}
use Rattle.key_mask.specs.declared.fields.Field.{Field}
use Rattle.key_mask.specs.declared.fields.Field.TheVariants.{SrcIp, DstIp, SrcPort, DstPort, Proto, Tos, EtherType, SrcIp6, DstIp6}
use Rattle.key_mask.specs.declared.fields.ValueKind.{ValueKind}
use Rattle.key_mask.specs.declared.fields.ValueKind.TheVariants.{Ipv4, Port, Byte, Hex, Ipv6}
use Rattle.key_mask.specs.declared.fields.TheConstants.{FIELD_COUNT}
use Rattle.key_mask.specs.Fields.{fields, field_number, kind_of, width_of}

-- a field stands at its number
pub at_number : (field : Field) → get_or fields (field_number field) SrcIp ≡ field
at_number SrcIp = refl
at_number DstIp = refl
at_number SrcPort = refl
at_number DstPort = refl
at_number Proto = refl
at_number Tos = refl
at_number EtherType = refl
at_number SrcIp6 = refl
at_number DstIp6 = refl

-- a field is that of its number
pub same_field : (one other : Field) → field_number one ≡ field_number other → one ≡ other
same_field one other e = sym (at_number one) ∙ ap (λ n. get_or fields n SrcIp) e ∙ at_number other

-- what stands past the last would be the first
pub number_below : (field : Field) → field_number field < FIELD_COUNT
number_below field =
    ⊎_elim
    (λ (h : field_number field < 9). h)
    (λ (h : 9 ≤ field_number field).
    let first : SrcIp ≡ field = sym (get_or_past fields (field_number field) SrcIp h) ∙ at_number field in
    omega (arith, ap field_number first))
    (cases_lt (field_number field) 9)

pub number_at : (k : ℕ) → k < 9 → field_number (get_or fields k SrcIp) ≡ k
number_at k h = sym (get_or-map field_number fields k SrcIp 0 h) ∙ get_or-range_with_len 0 9 k 0 h ∙ omega arith

-- ---- a test that all pass

pub each_field : (p : Field → Bool) → list_all p fields ≡ true → (field : Field) → p field ≡ true
each_field p e field =
    subst (λ f. p f ≡ true) (at_number field)
    (⊎_elim
    (λ (t : p (get_or fields (field_number field) SrcIp) ≡ true). t)
    (λ (t : p (get_or fields (field_number field) SrcIp) ≡ false).
    absurd (false≢true (sym (list_all_at p fields (field_number field) SrcIp (number_below field) t) ∙ e)))
    (cases_Bool (p (get_or fields (field_number field) SrcIp))))

pub each_equal : (f g : Field → ℕ) → list_all (λ field. f field == g field) fields ≡ true → (field : Field) → f field ≡ g field
each_equal f g e field = eqb-true (f field) (g field) (each_field (λ field. f field == g field) e field)

pub each_within : (f g : Field → ℕ) → list_all (λ field. nat_le (f field) (g field)) fields ≡ true → (field : Field) → f field ≤ g field
each_within f g e field = within (f field) (g field) (each_field (λ field. nat_le (f field) (g field)) e field) where
  within : (m n : ℕ) → nat_le m n ≡ true → m ≤ n
  within m n t = grind (arith, nat_tests, t)

-- ---- widths

-- how many bits the values of this kind have
abbrev pub kind_width : ValueKind → ℕ
kind_width Ipv4 = 32
kind_width Port = 16
kind_width Byte = 8
kind_width Hex = 16
kind_width Ipv6 = 128

pub width_is : (field : Field) → width_of field ≡ kind_width (kind_of field)
width_is = each_equal width_of (λ field. kind_width (kind_of field)) refl

-- a value of the field is one of its kind
pub kind_fits : (field : Field) (n : ℕ) → n < 2 ^ width_of field → n < 2 ^ kind_width (kind_of field)
kind_fits field n small = subst (λ width. n < 2 ^ width) (width_is field) small
