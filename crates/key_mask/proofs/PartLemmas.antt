-- What the parts of a mask give each field.
use Rattle.std.proofs.Common.{◌≡◌, ◌≢◌, ℕ, zero, suc, ◌+◌, ◌<◌, ◌==◌, Bool, true, false, List, [], ◌∷◌, ◌++◌, length, take, get_or, set, IsTrue, unwrap_or, refl, ap, sym, ◌∙◌, subst, arith, ⊎_elim, eq-eqb, eqb-true}
use Rattle.std.specs.List.{All}
use Rattle.std.specs.Map.{lookup}
use Rattle.std.proofs.lemmas.Bool.{cases_Bool, cases_eq, false_from_ne_true, false≢true, ne_eqb}
use Rattle.std.proofs.lemmas.List.{length-set, length-take-le, get_or-set_same, get_or-set_other, get_or-take, take_more}
use Rattle.std.proofs.lemmas.List.Elements.{All-head, All-tail, All-push, All-weaker}
use Rattle.std.proofs.lemmas.List.Quantifiers.{all_pairs_push}
use Rattle.key_mask.specs.declared.fields.Field.{Field}
use Rattle.key_mask.specs.declared.fields.TheConstants.{FIELD_COUNT}
use Rattle.key_mask.specs.Fields.{field_number, is_length}
use Rattle.key_mask.specs.Masks.{AreParts, length_in}
use Rattle.key_mask.proofs.FieldLemmas.{number_below, same_field}
use Rattle.key_mask.proofs.PrefixLemmas.{length_within}

-- ---- the length that stands beside a field

abbrev pub found : (Field → Bool) → List (Field × ℕ) → ℕ
found test parts = unwrap_or (lookup test parts) 0

first_fails : (test : Field → Bool) (part : Field × ℕ) (parts : List (Field × ℕ)) → 0 < part.1
    → found test (part ∷ parts) ≡ 0 → test part.0 ≡ false
first_fails test part parts some none =
    false_from_ne_true (test part.0) (λ (e : test part.0 ≡ true). let empty : part.1 ≡ 0 = rw e at none in omega arith)

-- where no length is found, no part passes
absent : (test : Field → Bool) (parts : List (Field × ℕ)) (d : Field × ℕ) → All (λ part. 0 < part.1) parts
    → found test parts ≡ 0 → (k : ℕ) → k < length parts → test (get_or parts k d).0 ≡ false
absent test [] d some none k h = absurd (omega arith)
absent test (part ∷ parts) d some none zero h = first_fails test part parts (All-head (λ part. 0 < part.1) part parts some) none
absent test (part ∷ parts) d some none (suc k) h =
    let fails : test part.0 ≡ false = first_fails test part parts (All-head (λ part. 0 < part.1) part parts some) none in
    absent test parts d (All-tail (λ part. 0 < part.1) part parts some) (rw fails at none) k (omega arith)

-- where one is found, it stands in a part that passes
pub present : (test : Field → Bool) (parts : List (Field × ℕ)) (d : Field × ℕ) → found test parts ≢ 0
    → (k : ℕ) × (k < length parts) × (test (get_or parts k d).0 ≡ true) × (found test parts ≡ (get_or parts k d).1)
present test [] d some = absurd (some refl)
present test (part ∷ parts) d some =
    ⊎_elim
    (λ (e : test part.0 ≡ true). (0, omega arith, e, rw e refl))
    (λ (e : test part.0 ≡ false).
    let later : (k : ℕ) × (k < length parts) × (test (get_or parts k d).0 ≡ true) × (found test parts ≡ (get_or parts k d).1) =
    present test parts d (rw e at some) in
    (suc later.0, omega (arith, later.1), later.2, rw e later.3))
    (cases_Bool (test part.0))

-- one part more, which fails
found_other : (test : Field → Bool) (parts : List (Field × ℕ)) (part : Field × ℕ) → test part.0 ≡ false
    → found test (parts ++ part ∷ []) ≡ found test parts
found_other test [] part fails = rw fails refl
found_other test (first ∷ parts) part fails =
    ⊎_elim
    (λ (e : test first.0 ≡ true). rw e refl)
    (λ (e : test first.0 ≡ false). rw e (found_other test parts part fails))
    (cases_Bool (test first.0))

-- one part more, the first that passes
found_here : (test : Field → Bool) (parts : List (Field × ℕ)) (part : Field × ℕ)
    → ((k : ℕ) → k < length parts → test (get_or parts k part).0 ≡ false) → test part.0 ≡ true
    → found test (parts ++ part ∷ []) ≡ part.1
found_here test [] part fails e = rw e refl
found_here test (first ∷ parts) part fails e =
    let no : test first.0 ≡ false = fails 0 (omega arith) in
    rw no (found_here test parts part (λ k h. fails (suc k) (omega arith)) e)

-- ---- the parts so far

-- the parts are allowed, and these are the lengths that they give, by number
pub record Hold (parts : List (Field × ℕ)) (lengths : List ℕ) : Type 0 where
  pub long : length lengths ≡ FIELD_COUNT
  pub each : (field : Field) → get_or lengths (field_number field) 0 ≡ length_in parts field
  pub valid : AreParts parts

-- a part more, of a field that stands in none so far
pub hold_push : (parts : List (Field × ℕ)) (lengths : List ℕ) (part : Field × ℕ) → Hold parts lengths
    → get_or lengths (field_number part.0) 0 ≡ 0 → IsTrue (is_length part.0 part.1)
    → Hold (parts ++ part ∷ []) (set lengths (field_number part.0) part.1)
hold_push parts lengths part held free allowed =
    let number : ℕ = field_number part.0 in
    let below : number < length lengths = omega (arith, number_below part.0, held.long) in
    let some : All (λ part. 0 < part.1) parts =
    All-weaker (λ part. IsTrue (is_length part.0 part.1)) (λ part. 0 < part.1) (λ part h. (length_within part.0 part.1 h).some) parts held.valid.allowed in
    let none : (k : ℕ) (d : Field × ℕ) → k < length parts → (field_number (get_or parts k d).0 == number) ≡ false =
    λ k d h. absent (λ other. field_number other == number) parts d some (sym (held.each part.0) ∙ free) k h in
    record {
      long = length-set lengths number part.1 ∙ held.long;
      each = λ field. ⊎_elim
          (λ (e : number ≡ field_number field).
          subst (λ n. get_or (set lengths number part.1) n 0 ≡ found (λ other. field_number other == n) (parts ++ part ∷ [])) e
          (get_or-set_same lengths number part.1 0 below
          ∙ sym (found_here (λ other. field_number other == number) parts part (λ k h. none k part h) (eq-eqb number number refl))))
          (λ (ne : number ≢ field_number field).
          get_or-set_other lengths number (field_number field) part.1 0 (λ e. ne (sym e))
          ∙ held.each field
          ∙ sym (found_other (λ other. field_number other == field_number field) parts part (ne_eqb number (field_number field) ne)))
          (cases_eq number (field_number field));
      valid = record {
        allowed = All-push (λ part. IsTrue (is_length part.0 part.1)) parts part held.valid.allowed allowed;
        once = all_pairs_push (λ one other. one.0 ≢ other.0) parts part held.valid.once
            (λ k d h same. false≢true (sym (none k d h) ∙ eq-eqb (field_number (get_or parts k d).0) number (ap field_number same)));
      };
    }

-- the step of a loop over the parts
pub hold_more : (parts : List (Field × ℕ)) (lengths : List ℕ) (i number : ℕ) (d : Field × ℕ) → Hold (take i parts) lengths
    → i < length parts → number ≡ field_number (get_or parts i d).0 → get_or lengths number 0 ≡ 0
    → IsTrue (is_length (get_or parts i d).0 (get_or parts i d).1)
    → Hold (take (i + 1) parts) (set lengths number (get_or parts i d).1)
hold_more parts lengths i number d held h e free allowed =
    rw (e, take_more parts i d h) (hold_push (take i parts) lengths (get_or parts i d) held (rw e at free) allowed)

-- ---- parts that are refused

-- a field that stands in a part before
pub repeated : (parts : List (Field × ℕ)) (lengths : List ℕ) (i number : ℕ) (d : Field × ℕ) → Hold (take i parts) lengths
    → i < length parts → number ≡ field_number (get_or parts i d).0 → get_or lengths number 0 ≢ 0 → AreParts parts → ⊥
repeated parts lengths i number d held h e taken valid =
    let field : Field = (get_or parts i d).0 in
    let some : found (λ other. field_number other == field_number field) (take i parts) ≢ 0 =
    λ z. taken (ap (λ n. get_or lengths n 0) e ∙ held.each field ∙ z) in
    let before : (k : ℕ) × (k < length (take i parts)) × ((field_number (get_or (take i parts) k d).0 == field_number field) ≡ true)
    × (length_in (take i parts) field ≡ (get_or (take i parts) k d).1) =
    present (λ other. field_number other == field_number field) (take i parts) d some in
    let short : length (take i parts) ≡ i = length-take-le i parts (omega arith) in
    let low : before.0 < i = omega (arith, before.1) in
    let same : field_number (get_or parts before.0 d).0 ≡ field_number field =
    rw (get_or-take i parts before.0 d low) at (eqb-true (field_number (get_or (take i parts) before.0 d).0) (field_number field) before.2) in
    valid.once before.0 i d low h (same_field (get_or parts before.0 d).0 field same)

-- a length that its field may not have
pub disallowed : (parts : List (Field × ℕ)) (i : ℕ) (d : Field × ℕ) → i < length parts
    → is_length (get_or parts i d).0 (get_or parts i d).1 ≡ false → AreParts parts → ⊥
disallowed parts i d h e valid = false≢true (sym e ∙ valid.allowed i d h)
