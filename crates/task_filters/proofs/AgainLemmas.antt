-- What is printed of a filter is read as that filter.
use Rattle.std.proofs.Common.{◌≡◌, ◌≢◌, ℕ, zero, suc, ◌+◌, ◌-◌, ◌^◌, ◌<◌, ◌≤◌, ◌==◌, true, false, not, List, [], ◌∷◌, ◌++◌, length, codes, take, drop, replicate, slice_index, slice_set, get_or, Option, Some, Ok, IsTrue, refl, ap, sym, subst, ◌∙◌, arith, ⊎_elim, eq-eqb}
use Rattle.std.specs.Fmt.{decimal}
use Rattle.std.specs.Int.{bytes_high_first}
use Rattle.std.specs.List.{join_with_byte, list_all, sum_by}
use Rattle.std.specs.Str.{bytes_eq}
use Rattle.std.proofs.lemmas.Bool.{cases_Bool, cases_eq, false_from_ne_true, false≢true, ne_eqb}
use Rattle.std.proofs.lemmas.Bool.Decides.{nat_tests}
use Rattle.std.proofs.lemmas.List.Folds.{list_all-append}
use Rattle.std.proofs.lemmas.Slice.Eq.{bytes_eq-Decides}
use Rattle.texts.specs.Cuts.{front, back, parts}
use Rattle.key_mask.specs.declared.fields.Field.{Field}
use Rattle.key_mask.specs.Bytes.{and_bytes}
use Rattle.key_mask.specs.Fields.{fields, field_number, is_length, name_of, size_of, start_of, width_of}
use Rattle.key_mask.specs.Items.{◌>>=◌, is_slash, item_text, item_texts, items_text, prefix_text, with_items}
use Rattle.key_mask.specs.Masks.{mask_bytes_of, no_lengths}
use Rattle.key_mask.specs.Spellings.{value_text}
use Rattle.key_mask.specs.Vectors.{bytes_at, value_at, with_value}
use Rattle.key_mask.proofs.FieldLemmas.{each_equal, each_field, each_within, number_below}
use Rattle.texts.proofs.CutLemmas.{cut}
use Rattle.key_mask.proofs.ItemLemmas.{IsStep, items_again}
use Rattle.key_mask.proofs.KeyLemmas.{filled_next, first_all, first_lengths, first_none, free_next, kept_next}
use Rattle.key_mask.proofs.PrefixLemmas.{each_row, length_within, prefix_again, prefix_pass}
use Rattle.key_mask.proofs.PrintLemmas.{cut_slash, is_plain, items_plain, name_found, name_plain, parts_joined}
use Rattle.key_mask.proofs.ValueLemmas.{value_again, value_pass}
use Rattle.key_mask.proofs.NumberLemmas.{digit_pass}
use Rattle.key_mask.proofs.VectorLemmas.{bytes_back}
use Rattle.task_filters.specs.Filters.{Pattern, IsFilter}
use Rattle.task_filters.specs.Laws.{FilterAgain}
use Rattle.task_filters.specs.Printing.{filter_text}
use Rattle.task_filters.specs.Terms.{is_colon, kept_terms, no_terms, terms_in, with_both, with_term}
use Rattle.task_filters.proofs.ByteLemmas.{and_zeros, field_absent, field_small, inside, length-bytes_at, value_fits, value_small}

-- ---- an item is read as what it was printed of

pub cut_colon : (field : Field) (rest : List ℕ) → (front is_colon (name_of field ++ 58 ∷ rest) ≡ name_of field) × (back is_colon (name_of field ++ 58 ∷ rest) ≡ Some rest)
cut_colon field rest = cut is_colon (name_of field) 58 rest (each_field (λ field. list_all (λ c. not (is_colon c)) (name_of field)) refl field) refl

term_again : (found : Pattern) (bytes : List ℕ) (field : Field) (n : ℕ) → value_at bytes field < 2 ^ width_of field → slice_index found.mask (field_number field) ≡ 0
    → IsTrue (is_length field n) → with_term found (item_text (Some bytes) field n) ≡ Ok (with_both found field n (value_at bytes field))
unfolding with_term
term_again found bytes field n small free fits =
    let value : ℕ = value_at bytes field in
    let name = cut_colon field (value_text field value ++ prefix_text field n) in
    let slashless : list_all (λ c. not (is_slash c)) (value_text field value) ≡ true =
    value_pass (λ c. not (is_slash c)) (record { decimals = λ c low high. grind (arith, nat_tests); digits = digit_pass (λ c. not (is_slash c)) refl; dot = refl; colon = refl; letter = refl }) field value small in
    let cuts = cut_slash (value_text field value) (n == width_of field) (decimal n) slashless in
    rw (name.0, name.1, name_found field, free, cuts.1, cuts.0, prefix_again field n fits, value_again field value small) refl

-- ---- what stands after the first fields were read

fill_first : (xs : List ℕ) (n : ℕ) → n ≤ length xs → take n xs ++ drop n (first_lengths xs 0) ≡ first_lengths xs n
fill_first xs zero h = refl
fill_first [] (suc n) h = absurd (omega arith)
fill_first (x ∷ xs) (suc n) h = ap (λ ys. x ∷ ys) (fill_first xs n (omega arith))

fill : (xs : List ℕ) (s n : ℕ) → s + n ≤ length xs → take s (first_lengths xs s) ++ (take n (drop s xs) ++ drop (s + n) (first_lengths xs s)) ≡ first_lengths xs (s + n)
fill xs zero n h = let e : 0 + n ≡ n = omega arith in rw e (fill_first xs n (omega arith))
fill [] (suc s) n h = absurd (omega arith)
fill (x ∷ xs) (suc s) n h = let e : suc s + n ≡ suc (s + n) = omega arith in rw e (ap (λ ys. x ∷ ys) (fill xs s n (omega arith)))

blank_first : (xs : List ℕ) (n : ℕ) → take n xs ≡ replicate {A = ℕ} n 0 → first_lengths xs n ≡ first_lengths xs 0
blank_first xs zero e = refl
blank_first [] (suc n) e = refl
blank_first (x ∷ xs) (suc n) e =
    let here : x ≡ 0 = ap (λ ys. get_or ys 0 0) e in
    let rest : take n xs ≡ replicate {A = ℕ} n 0 = ap (drop 1) e in
    λ i. here i ∷ blank_first xs n rest i

blank : (xs : List ℕ) (s n : ℕ) → take n (drop s xs) ≡ replicate {A = ℕ} n 0 → first_lengths xs (s + n) ≡ first_lengths xs s
blank xs zero n e = let sum : 0 + n ≡ n = omega arith in rw sum (blank_first xs n e)
blank [] (suc s) n e = refl
blank (x ∷ xs) (suc s) n e = let sum : suc s + n ≡ suc (s + n) = omega arith in rw sum (ap (λ ys. x ∷ ys) (blank xs s n e))

-- the bytes of the first k fields
abbrev place : ℕ → ℕ
place k = sum_by size_of (take k fields)

abbrev first_terms : Pattern → ℕ → Pattern
first_terms pattern k = record { value = first_lengths pattern.value (place k); mask = first_lengths pattern.mask k }

starts : (field : Field) → start_of field ≡ place (field_number field)
starts = each_equal start_of (λ field. place (field_number field)) refl

ends : (field : Field) → start_of field + size_of field ≡ place (suc (field_number field))
ends = each_equal (λ field. start_of field + size_of field) (λ field. place (suc (field_number field))) refl

same_bytes : (bytes : List ℕ) (field : Field) → bytes_at bytes field ≡ take (size_of field) (drop (start_of field) bytes)
same_bytes bytes field =
    let count : start_of field + size_of field - start_of field ≡ size_of field = omega arith in
    rw count refl

filter_step : (pattern : Pattern) → IsFilter pattern → (field : Field)
    → IsStep with_term (Some pattern.value) pattern.mask (first_terms pattern (field_number field)) (first_terms pattern (suc (field_number field))) field
unfolding with_value value_at
filter_step pattern filter field =
    let value : List ℕ = pattern.value in
    let lengths : List ℕ = pattern.mask in
    let k : ℕ = field_number field in
    let start : ℕ = start_of field in
    let size : ℕ = size_of field in
    let n : ℕ = slice_index lengths k in
    let small = value_small pattern filter.kept in
    let bytes : bytes_high_first size (value_at value field) ≡ take size (drop start value) =
    rw (length-bytes_at value field filter.long) at (bytes_back (bytes_at value field) (field_small value field small)) ∙ same_bytes value field in
    let begins : first_lengths value (place k) ≡ first_lengths value start = ap (first_lengths value) (sym (starts field)) in
    record {
      absent = λ none.
          let bare : take size (drop start value) ≡ replicate {A = ℕ} size 0 = sym (same_bytes value field) ∙ field_absent pattern filter field none in
          let first : first_lengths value (place (suc k)) ≡ first_lengths value (place k) = ap (first_lengths value) (sym (ends field)) ∙ blank value start size bare ∙ sym begins in
          let second : first_lengths lengths (suc k) ≡ first_lengths lengths k = kept_next lengths k none in
          (λ i. record { value = first i; mask = second i });
      present = λ some.
          let read = term_again (first_terms pattern k) value field n (value_fits value field filter.long small) (free_next lengths k) (filter.known.allowed field some) in
          let first : with_value (first_lengths value (place k)) field (value_at value field) ≡ first_lengths value (place (suc k)) =
          (λ i. take start (begins i) ++ (bytes i ++ drop (start + size) (begins i)))
          ∙ fill value start size (omega (arith, inside field, filter.long)) ∙ ap (first_lengths value) (ends field) in
          let second : slice_set (first_lengths lengths k) k n ≡ first_lengths lengths (suc k) = filled_next lengths k (omega (arith, number_below field, filter.known.whole)) in
          read ∙ (λ i. Ok (record { value = first i; mask = second i }));
    }

pub reads_all : (pattern : Pattern) → IsFilter pattern → with_items with_term 0 no_terms (item_texts (Some pattern.value) pattern.mask fields) ≡ Ok pattern
reads_all pattern filter =
    let none_value : first_lengths pattern.value 0 ≡ replicate {A = ℕ} 48 0 = first_none pattern.value 48 filter.long in
    let none_mask : first_lengths pattern.mask 0 ≡ no_lengths = first_none pattern.mask 9 filter.known.whole in
    let all_value : first_lengths pattern.value 48 ≡ pattern.value = first_all pattern.value 48 (omega (arith, filter.long)) in
    let all_mask : first_lengths pattern.mask 9 ≡ pattern.mask = first_all pattern.mask 9 (omega (arith, filter.known.whole)) in
    let none : first_terms pattern 0 ≡ no_terms = λ i. record { value = none_value i; mask = none_mask i } in
    let all : first_terms pattern 9 ≡ pattern = λ i. record { value = all_value i; mask = all_mask i } in
    subst (λ found. with_items with_term 0 found (item_texts (Some pattern.value) pattern.mask fields) ≡ Ok pattern) none
    (items_again with_term (Some pattern.value) pattern.mask (first_terms pattern) (filter_step pattern filter) 0 fields refl 0 ∙ ap (λ found. Ok found) all)

-- ---- the commas part the items

pub term_plain : (pattern : Pattern) → IsFilter pattern → (field : Field) → slice_index pattern.mask (field_number field) ≢ 0
    → list_all is_plain (item_text (Some pattern.value) field (slice_index pattern.mask (field_number field))) ≡ true
term_plain pattern filter field some =
    let n : ℕ = slice_index pattern.mask (field_number field) in
    let fits = length_within field n (filter.known.allowed field some) in
    let row = each_row field in
    let value : ℕ = value_at pattern.value field in
    let small = value_fits pattern.value field filter.long (value_small pattern filter.kept) in
    let first : list_all is_plain (value_text field value) ≡ true =
    value_pass is_plain (record { decimals = λ c low high. grind (arith, nat_tests); digits = digit_pass is_plain refl; dot = refl; colon = refl; letter = refl }) field value small in
    let second : list_all is_plain (prefix_text field n) ≡ true =
    prefix_pass is_plain refl (λ c low high. grind (arith, nat_tests)) field n (omega (arith, fits.few, row.few)) in
    name_plain field (58 ∷ (value_text field value ++ prefix_text field n))
    (list_all-append is_plain (value_text field value) (prefix_text field n) ∙ rw (first, second) refl)

joined_first : (text rest : List ℕ) (items : List (List ℕ)) → 0 < length text
    → get_or (join_with_byte 44 ((text ++ rest) ∷ items)) 0 0 ≡ get_or text 0 0
joined_first [] rest items some = absurd (omega arith)
joined_first (c ∷ text) rest [] some = refl
joined_first (c ∷ text) rest (item ∷ items) some = refl

-- no name begins as the word `all`
first_not_all : (field : Field) (rest : List ℕ) (items : List (List ℕ))
    → bytes_eq (join_with_byte 44 ((name_of field ++ rest) ∷ items)) (codes "all") ≡ false
first_not_all field rest items =
    false_from_ne_true (bytes_eq (join_with_byte 44 ((name_of field ++ rest) ∷ items)) (codes "all"))
    (λ t.
    let same : join_with_byte 44 ((name_of field ++ rest) ∷ items) ≡ codes "all" =
    (bytes_eq-Decides (join_with_byte 44 ((name_of field ++ rest) ∷ items)) (codes "all")).0 t in
    let some : 0 < length (name_of field) = each_within (λ field. 1) (λ field. length (name_of field)) refl field in
    let first : 97 ≡ get_or (name_of field) 0 0 =
    ap (λ text. get_or text 0 0) (sym same) ∙ joined_first (name_of field) rest items some in
    let other : 98 ≤ get_or (name_of field) 0 0 = each_within (λ field. 98) (λ field. get_or (name_of field) 0 0) refl field in
    omega arith)

-- items of fields are not the word `all`
pub not_all : (values : Option (List ℕ)) (lengths : List ℕ) (fields : List Field) → bytes_eq (join_with_byte 44 (item_texts values lengths fields)) (codes "all") ≡ false
not_all values lengths [] = refl
not_all values lengths (field ∷ fields) =
    let n : ℕ = slice_index lengths (field_number field) in
    ⊎_elim
    (λ (e : n ≡ 0). let t : (n == 0) ≡ true = eq-eqb n 0 e in rw t (not_all values lengths fields))
    (λ (ne : n ≢ 0).
    let t : (n == 0) ≡ false = ne_eqb n 0 ne in
    rw t (first_not_all field _ (item_texts values lengths fields)))
    (cases_eq n 0)

-- ---- the whole

pub some_terms : (items : List (List ℕ)) (pattern : Pattern) → with_items with_term 0 no_terms items ≡ Ok pattern → pattern.mask ≢ no_lengths → 0 < length items
some_terms [] pattern h stands = let same : no_terms ≡ pattern = cc h in absurd (stands (sym (ap (λ p. p.mask) same)))
some_terms (item ∷ items) pattern h stands = omega arith

-- a filter whose mask is empty has the value 0
empty_value : (pattern : Pattern) → IsFilter pattern → pattern.mask ≡ no_lengths → no_terms ≡ pattern
unfolding mask_bytes_of
empty_value pattern filter none =
    let value : replicate {A = ℕ} 48 0 ≡ pattern.value =
    sym (and_zeros pattern.value 48 filter.long) ∙ ap (λ mask. and_bytes pattern.value (mask_bytes_of mask)) (sym none) ∙ filter.kept in
    let mask : no_lengths ≡ pattern.mask = sym none in
    (λ i. record { value = value i; mask = mask i })

terms_again : (pattern : Pattern) → IsFilter pattern → terms_in (filter_text pattern) ≡ Ok pattern
unfolding filter_text terms_in items_text
terms_again pattern filter =
    let items : List (List ℕ) = item_texts (Some pattern.value) pattern.mask fields in
    let reads : with_items with_term 0 no_terms items ≡ Ok pattern = reads_all pattern filter in
    ⊎_elim
    (λ (t : bytes_eq pattern.mask no_lengths ≡ true).
    rw t (ap (λ terms. Ok terms) (empty_value pattern filter ((bytes_eq-Decides pattern.mask no_lengths).0 t))))
    (λ (t : bytes_eq pattern.mask no_lengths ≡ false).
    let stands : pattern.mask ≢ no_lengths = λ e. false≢true (sym t ∙ (bytes_eq-Decides pattern.mask no_lengths).1 e) in
    let back : parts 44 (join_with_byte 44 items) ≡ items =
    parts_joined items (items_plain (Some pattern.value) pattern.mask (term_plain pattern filter) fields) (some_terms items pattern reads stands) in
    rw (t, not_all (Some pattern.value) pattern.mask fields, back) reads)
    (cases_Bool (bytes_eq pattern.mask no_lengths))

pub filter_again : FilterAgain
filter_again pattern filter =
    ap (λ read. read >>= λ terms. Ok (kept_terms terms)) (terms_again pattern filter)
    ∙ ap (λ bytes. Ok (record { value = bytes; mask = pattern.mask })) filter.kept

-- ---- the two forms of a text

pub text_empty : (pattern : Pattern) → pattern.mask ≡ no_lengths → filter_text pattern ≡ codes "all"
unfolding filter_text
text_empty pattern none = let t : bytes_eq pattern.mask no_lengths ≡ true = (bytes_eq-Decides pattern.mask no_lengths).1 none in rw t refl

pub text_items : (pattern : Pattern) → pattern.mask ≢ no_lengths → filter_text pattern ≡ items_text (Some pattern.value) pattern.mask
unfolding filter_text
text_items pattern some =
    let t : bytes_eq pattern.mask no_lengths ≡ false = false_from_ne_true (bytes_eq pattern.mask no_lengths) (λ e. some ((bytes_eq-Decides pattern.mask no_lengths).0 e)) in
    rw t refl
