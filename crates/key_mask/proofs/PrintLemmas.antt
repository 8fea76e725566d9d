-- What is printed of items, and how it is cut again.
use Rattle.std.proofs.Common.{◌≡◌, ◌≢◌, ℕ, ◌<◌, ◌==◌, ◌&&◌, Bool, true, false, not, cond, List, [], ◌∷◌, ◌++◌, length, slice_index, Option, None, Some, refl, ap, ◌∙◌, arith, append-nil, append_assoc, length-append, ⊎_elim, eq-eqb, eqb-true}
use Rattle.std.specs.List.{fold, join_with_byte, list_all}
use Rattle.std.specs.Option.{option_map_or}
use Rattle.std.proofs.lemmas.Bool.{cases_eq, false≢true, ne_eqb}
use Rattle.std.proofs.lemmas.List.Folds.{list_all-append}
use Rattle.texts.specs.Cuts.{front, back, parts, tail_of}
use Rattle.texts.proofs.CutLemmas.{back_free, cut, front_free, joined, split_last, split_more}
use Rattle.key_mask.specs.declared.fields.Field.{Field}
use Rattle.key_mask.specs.Fields.{fields, field_number, name_of}
use Rattle.key_mask.specs.Items.{field_named, is_slash, item_text, item_texts, items_text, with_field}
use Rattle.key_mask.proofs.FieldLemmas.{each_field, each_within, same_field}

-- ---- the line that the items make

abbrev with_fields : Option (List ℕ) → List ℕ → List ℕ → List Field → List ℕ
with_fields values lengths = fold (λ line field. with_field values line field (slice_index lengths (field_number field)))

joined_more : (first item : List ℕ) (items : List (List ℕ))
    → join_with_byte 44 ((first ++ 44 ∷ item) ∷ items) ≡ join_with_byte 44 (first ∷ item ∷ items)
joined_more first item [] = refl
joined_more first item (next ∷ items) = append_assoc first (44 ∷ item) (44 ∷ join_with_byte 44 (next ∷ items))

name_some : (field : Field) (rest : List ℕ) → 0 < length (name_of field ++ rest)
name_some field rest =
    omega (arith, length-append (name_of field) rest, each_within (λ field. 1) (λ field. length (name_of field)) refl field)

-- behind a line that is not empty
fields_behind : (values : Option (List ℕ)) (lengths line : List ℕ) (fields : List Field) → 0 < length line
    → with_fields values lengths line fields ≡ join_with_byte 44 (line ∷ item_texts values lengths fields)
unfolding with_field
fields_behind values lengths line [] some = refl
fields_behind values lengths line (field ∷ fields) some =
    let prefix : ℕ = slice_index lengths (field_number field) in
    let item : List ℕ = item_text values field prefix in
    ⊎_elim
    (λ (e : prefix ≡ 0). let t : (prefix == 0) ≡ true = eq-eqb prefix 0 e in rw t (fields_behind values lengths line fields some))
    (λ (ne : prefix ≢ 0).
    let t : (prefix == 0) ≡ false = ne_eqb prefix 0 ne in
    let s : (length line == 0) ≡ false = ne_eqb (length line) 0 (λ e. omega arith) in
    rw (t, s)
    (fields_behind values lengths (line ++ 44 ∷ item) fields (omega (arith, length-append line (44 ∷ item)))
    ∙ joined_more line item (item_texts values lengths fields)))
    (cases_eq prefix 0)

fields_first : (values : Option (List ℕ)) (lengths : List ℕ) (fields : List Field)
    → with_fields values lengths [] fields ≡ join_with_byte 44 (item_texts values lengths fields)
unfolding with_field
fields_first values lengths [] = refl
fields_first values lengths (field ∷ fields) =
    let prefix : ℕ = slice_index lengths (field_number field) in
    ⊎_elim
    (λ (e : prefix ≡ 0). let t : (prefix == 0) ≡ true = eq-eqb prefix 0 e in rw t (fields_first values lengths fields))
    (λ (ne : prefix ≢ 0).
    let t : (prefix == 0) ≡ false = ne_eqb prefix 0 ne in
    let some : 0 < length (item_text values field prefix) = name_some field _ in
    rw t (fields_behind values lengths (item_text values field prefix) fields some))
    (cases_eq prefix 0)

pub line_of_fields : (values : Option (List ℕ)) (lengths : List ℕ) → with_fields values lengths [] fields ≡ items_text values lengths
unfolding items_text
line_of_fields values lengths = fields_first values lengths fields

-- ---- items are cut again

-- at the slash, where there is one
pub cut_slash : (xs : List ℕ) (b : Bool) (digits : List ℕ) → list_all (λ c. not (is_slash c)) xs ≡ true
    → (front is_slash (xs ++ cond b [] (47 ∷ digits)) ≡ xs) × (back is_slash (xs ++ cond b [] (47 ∷ digits)) ≡ cond b None (Some digits))
cut_slash xs true digits e = rw append-nil (front_free is_slash xs e, back_free is_slash xs e)
cut_slash xs false digits e = cut is_slash xs 47 digits e refl

-- a text is what stands before its first slash, and the slash with what stands behind it
pub item_joined : (item : List ℕ) → item ≡ front is_slash item ++ tail_of 47 (back is_slash item)
item_joined item = joined 47 item

pub name_slashless : (field : Field) → list_all (λ c. not (is_slash c)) (name_of field) ≡ true
name_slashless = each_field (λ field. list_all (λ c. not (is_slash c)) (name_of field)) refl

pub name_found : (field : Field) → field_named (name_of field) ≡ Some field
unfolding field_named
name_found field =
    it_is (field_named (name_of field))
    (each_field (λ field. option_map_or (λ other. field_number other == field_number field) (field_named (name_of field)) false) refl field) where
      it_is : (found : Option Field) → option_map_or (λ other. field_number other == field_number field) found false ≡ true → found ≡ Some field
      it_is None t = absurd (false≢true t)
      it_is (Some other) t = ap (λ f. Some f) (same_field other field (eqb-true (field_number other) (field_number field) t))

-- no comma
abbrev pub is_plain : ℕ → Bool
is_plain byte = not (byte == 44)

pub name_plain : (field : Field) (xs : List ℕ) → list_all is_plain xs ≡ true → list_all is_plain (name_of field ++ xs) ≡ true
name_plain field xs e =
    list_all-append is_plain (name_of field) xs ∙ rw (each_field (λ field. list_all is_plain (name_of field)) refl field) e

-- at the commas
pub parts_joined : (items : List (List ℕ)) → list_all (list_all is_plain) items ≡ true → 0 < length items → parts 44 (join_with_byte 44 items) ≡ items
parts_joined [] e some = absurd (omega arith)
parts_joined (item ∷ []) e some =
    elim (list_all is_plain item) as (λ b. list_all is_plain item ≡ b → (b && true) ≡ true → parts 44 item ≡ item ∷ []) [
      | true ↦ λ t e. split_last (λ b. b == 44) item t
      | false ↦ λ t e. absurd (false≢true e)
    ] refl e
parts_joined (item ∷ next ∷ items) e some =
    elim (list_all is_plain item) as (λ b. list_all is_plain item ≡ b → (b && list_all (list_all is_plain) (next ∷ items)) ≡ true
    → parts 44 (join_with_byte 44 (item ∷ next ∷ items)) ≡ item ∷ next ∷ items) [
      | true ↦ λ t e. split_more (λ b. b == 44) item 44 (join_with_byte 44 (next ∷ items)) t refl ∙ ap (λ rest. item ∷ rest) (parts_joined (next ∷ items) e (omega arith))
      | false ↦ λ t e. absurd (false≢true e)
    ] refl e

-- where no item has a comma, none of them has
pub items_plain : (values : Option (List ℕ)) (lengths : List ℕ)
    → ((field : Field) → slice_index lengths (field_number field) ≢ 0 → list_all is_plain (item_text values field (slice_index lengths (field_number field))) ≡ true)
    → (fields : List Field) → list_all (list_all is_plain) (item_texts values lengths fields) ≡ true
items_plain values lengths each [] = refl
items_plain values lengths each (field ∷ fields) =
    let n : ℕ = slice_index lengths (field_number field) in
    ⊎_elim
    (λ (e : n ≡ 0). let t : (n == 0) ≡ true = eq-eqb n 0 e in rw t (items_plain values lengths each fields))
    (λ (ne : n ≢ 0).
    let t : (n == 0) ≡ false = ne_eqb n 0 ne in
    rw (t, each field ne) (items_plain values lengths each fields))
    (cases_eq n 0)
