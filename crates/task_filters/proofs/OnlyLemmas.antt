-- What is printed of a filter is canonical, and no other canonical text is read as that filter.
use Rattle.std.proofs.Common.{◌≡◌, ◌≢◌, ℕ, ◌+◌, ◌-◌, ◌^◌, ◌<◌, ◌≤◌, ◌==◌, ◌&&◌, ◌||◌, Bool, true, false, not, nat_le, List, [], ◌∷◌, ◌++◌, length, codes, take, drop, slice_index, slice_set, get_or, Option, None, Some, ok_or, Result, Ok, Err, refl, ap, sym, subst, ◌∙◌, arith, length-append, ⊎_elim, ◌⊎◌, inl, inr}
use Rattle.std.specs.Fmt.{decimal}
use Rattle.std.specs.Int.{bytes_high_first}
use Rattle.std.specs.List.{join_with_byte, list_all}
use Rattle.std.specs.Str.{bytes_eq}
use Rattle.std.proofs.lemmas.Bool.{and_parts, cases_Bool, false≢true, ne_eqb}
use Rattle.std.proofs.lemmas.Bool.Decides.{nat_tests}
use Rattle.std.proofs.lemmas.List.{drop-drop, drop-take, get_or-set_other, get_or-set_same, length-drop, length-set, length-take}
use Rattle.std.proofs.lemmas.List.Splits.{join_with_byte-slice_split}
use borrow.Rule.Slice.PartMut.{put_mid}
use Rattle.std.proofs.lemmas.Slice.{between-put_mid, drop-put_mid, take-put_mid_below}
use Rattle.std.proofs.lemmas.Slice.Eq.{bytes_eq-Decides}
use Rattle.texts.specs.Cuts.{front, back, parts, tail_of}
use Rattle.texts.proofs.CutLemmas.{joined}
use Rattle.key_mask.specs.declared.fields.Field.{Field}
use Rattle.key_mask.specs.declared.items.FieldKind.{FieldKind}
use Rattle.key_mask.specs.declared.items.FieldKind.TheVariants.{UnknownField, BadPrefix, BadValue}
use Rattle.key_mask.specs.declared.items.FieldFault.{FieldFault}
use Rattle.key_mask.specs.Bytes.{and_bytes}
use Rattle.key_mask.specs.Fields.{fields, field_number, name_of, size_of, start_of, width_of}
use Rattle.key_mask.specs.Items.{◌>>=◌, are_in_order, field_named, fresh_field, is_canonical_prefix, is_slash, item_text, item_texts, items_text, prefix_in, prefix_text, with_items}
use Rattle.key_mask.specs.Masks.{mask_bytes_of, no_lengths, prefix_bytes}
use Rattle.key_mask.specs.Spellings.{is_canonical_value, value_in, value_text}
use Rattle.key_mask.specs.Vectors.{big_endian, bytes_at, value_at, with_value}
use Rattle.key_mask.proofs.ItemLemmas.{fresh_bind, ok_bind, text_leaves}
use Rattle.key_mask.proofs.MaskLemmas.{none_stands}
use Rattle.key_mask.proofs.NumberLemmas.{digit_pass}
use Rattle.key_mask.proofs.OrderLemmas.{IsAdded, IsSpelled, item_at, items_at, named_is, only_items, printed_in_order}
use Rattle.key_mask.proofs.FieldLemmas.{each_field, number_below}
use Rattle.key_mask.proofs.PrefixLemmas.{prefix_again, prefix_canonical, prefix_some}
use Rattle.key_mask.proofs.PrintLemmas.{cut_slash, item_joined, items_plain, name_found, parts_joined}
use Rattle.key_mask.proofs.SpellingLemmas.{value_canonical}
use Rattle.key_mask.proofs.SpellingLemmas
use Rattle.key_mask.proofs.PrefixLemmas
use Rattle.task_filters.proofs.ByteLemmas
use Rattle.key_mask.proofs.ValueLemmas.{value_again, value_pass}
use Rattle.key_mask.proofs.VectorLemmas.{bytes_back, length-bytes_high_first, value_back}
use Rattle.task_filters.specs.Filters.{Pattern, IsFilter}
use Rattle.task_filters.specs.Laws.{OnlyFilter}
use Rattle.task_filters.specs.Printing.{filter_text}
use Rattle.task_filters.specs.Terms.{is_canonical_filter, is_canonical_rest, is_colon, is_cut, is_filter_item, kept_terms, no_terms, slash_behind, terms_in, value_behind, with_both, with_term}
use Rattle.task_filters.proofs.AgainLemmas.{cut_colon, not_all, reads_all, some_terms, term_plain, text_empty, text_items}
use Rattle.task_filters.proofs.ByteLemmas.{bytes_at-and_bytes, field_kept, field_small, inside, length-bytes_at, mask_at, value_fits}

-- ---- what is printed is canonical

filter_spelled : (pattern : Pattern) → IsFilter pattern → (field : Field) → slice_index pattern.mask (field_number field) ≢ 0
    → IsSpelled is_colon is_filter_item field (item_text (Some pattern.value) field (slice_index pattern.mask (field_number field)))
unfolding value_at
filter_spelled pattern filter field some =
    let n : ℕ = slice_index pattern.mask (field_number field) in
    let fits = filter.known.allowed field some in
    let v : ℕ = value_at pattern.value field in
    let small = value_fits pattern.value field filter.long (ByteLemmas.value_small pattern filter.kept) in
    let name = cut_colon field (value_text field v ++ prefix_text field n) in
    let slashless : list_all (λ c. not (is_slash c)) (value_text field v) ≡ true =
    value_pass (λ c. not (is_slash c)) (record { decimals = λ c low high. grind (arith, nat_tests); digits = digit_pass (λ c. not (is_slash c)) refl; dot = refl; colon = refl; letter = refl }) field v small in
    let cuts = cut_slash (value_text field v) (n == width_of field) (decimal n) slashless in
    let bytes : bytes_high_first (size_of field) v ≡ bytes_at pattern.value field =
    rw (length-bytes_at pattern.value field filter.long) at (bytes_back (bytes_at pattern.value field) (field_small pattern.value field (ByteLemmas.value_small pattern filter.kept))) in
    let whole : and_bytes (bytes_high_first (size_of field) v) (prefix_bytes n (size_of field)) ≡ bytes_high_first (size_of field) v =
    ap (λ bs. and_bytes bs (prefix_bytes n (size_of field))) bytes ∙ field_kept pattern filter.kept field ∙ sym bytes in
    let same : bytes_eq (and_bytes (bytes_high_first (size_of field) v) (prefix_bytes n (size_of field))) (bytes_high_first (size_of field) v) ≡ true =
    (bytes_eq-Decides (and_bytes (bytes_high_first (size_of field) v) (prefix_bytes n (size_of field))) (bytes_high_first (size_of field) v)).1 whole in
    record {
      named = rw name.0 (name_found field);
      spelled = rw (name.1, cuts.0, cuts.1, value_canonical field v small, prefix_canonical field n fits, prefix_again field n fits, value_again field v small, same) refl;
    }

items_canonical : (pattern : Pattern) → IsFilter pattern → pattern.mask ≢ no_lengths
    → (bytes_eq (items_text (Some pattern.value) pattern.mask) (codes "all") || are_in_order is_colon is_filter_item 0 (parts 44 (items_text (Some pattern.value) pattern.mask))) ≡ true
unfolding items_text
items_canonical pattern filter stands =
    let items : List (List ℕ) = item_texts (Some pattern.value) pattern.mask fields in
    let back : parts 44 (join_with_byte 44 items) ≡ items =
    parts_joined items (items_plain (Some pattern.value) pattern.mask (term_plain pattern filter) fields) (some_terms items pattern (reads_all pattern filter) stands) in
    rw (not_all (Some pattern.value) pattern.mask fields, back) (printed_in_order is_colon is_filter_item (Some pattern.value) pattern.mask (filter_spelled pattern filter))

pub filter_canonical : (pattern : Pattern) → IsFilter pattern → is_canonical_filter (filter_text pattern) ≡ true
unfolding is_canonical_filter
filter_canonical pattern filter =
    ⊎_elim
    (λ (t : bytes_eq pattern.mask no_lengths ≡ true). rw (text_empty pattern ((bytes_eq-Decides pattern.mask no_lengths).0 t)) refl)
    (λ (t : bytes_eq pattern.mask no_lengths ≡ false).
    let stands : pattern.mask ≢ no_lengths = λ e. false≢true (sym t ∙ (bytes_eq-Decides pattern.mask no_lengths).1 e) in
    rw (text_items pattern stands) (items_canonical pattern filter stands))
    (cases_Bool (bytes_eq pattern.mask no_lengths))

-- ---- a value put in a vector

as_put : (bytes : List ℕ) (field : Field) (value : ℕ)
    → with_value bytes field value ≡ put_mid (start_of field) (size_of field) bytes (bytes_high_first (size_of field) value)
unfolding with_value
as_put bytes field value = rw drop-drop refl

-- ---- fields lie apart

abbrev is_apart : Field → Field → Bool
is_apart one other = field_number one == field_number other
    || (nat_le (start_of one + size_of one) (start_of other) || nat_le (start_of other + size_of other) (start_of one))

apart : (one other : Field) → is_apart one other ≡ true
apart one other = each_field (is_apart one) (each_field (λ f. list_all (is_apart f) fields) refl one) other

length-with_value : (bytes : List ℕ) (field : Field) (value : ℕ) → length bytes ≡ 48 → length (with_value bytes field value) ≡ 48
unfolding with_value
length-with_value bytes field value long =
    simp (length-append, length-bytes_high_first (size_of field) value, length-take, length-drop) (omega (arith, inside field, long))

value_here : (bytes : List ℕ) (field : Field) (value : ℕ) → length bytes ≡ 48 → bytes_at (with_value bytes field value) field ≡ bytes_high_first (size_of field) value
value_here bytes field value long =
    ap (λ all. bytes_at all field) (as_put bytes field value)
    ∙ between-put_mid (start_of field) (size_of field) bytes (bytes_high_first (size_of field) value) (start_of field + size_of field)
    (omega (arith, inside field, long)) (omega (arith, length-bytes_high_first (size_of field) value))

others_stay : (bytes : List ℕ) (one : Field) (value : ℕ) (other : Field) → length bytes ≡ 48 → field_number other ≢ field_number one
    → bytes_at (with_value bytes one value) other ≡ bytes_at bytes other
others_stay bytes one value other long ne =
    let no : (field_number one == field_number other) ≡ false = ne_eqb (field_number one) (field_number other) (λ e. ne (sym e)) in
    let sides : (nat_le (start_of one + size_of one) (start_of other) || nat_le (start_of other + size_of other) (start_of one)) ≡ true = rw no at (apart one other) in
    let new : List ℕ = bytes_high_first (size_of one) value in
    let new_long : length new ≡ size_of one = length-bytes_high_first (size_of one) value in
    let fits : start_of one ≤ length bytes = omega (arith, inside one, long) in
    let start : ℕ = start_of other in
    let count : ℕ = start_of other + size_of other - start_of other in
    ap (λ all. bytes_at all other) (as_put bytes one value)
    ∙ ⊎_elim
    (λ (high : start_of one + size_of one ≤ start).
    ap (take count) (drop-put_mid (start_of one) (size_of one) bytes new start high fits new_long))
    (λ (low : start_of other + size_of other ≤ start_of one).
    sym (drop-take start count (put_mid (start_of one) (size_of one) bytes new))
    ∙ ap (drop start) (take-put_mid_below (start_of one) (size_of one) bytes new (start + count) (omega arith) fits)
    ∙ drop-take start count bytes)
    (either (start_of one + size_of one) start (start_of other + size_of other) (start_of one) sides) where
      either : (a b c d : ℕ) → (nat_le a b || nat_le c d) ≡ true → (a ≤ b) ⊎ (c ≤ d)
      either a b c d t =
          ⊎_elim
          (λ (e : nat_le a b ≡ true). inl (grind (arith, nat_tests, e)))
          (λ (e : nat_le a b ≡ false). let rest : nat_le c d ≡ true = rw e at t in inr (grind (arith, nat_tests, rest)))
          (cases_Bool (nat_le a b))

-- ---- an item that is read

record IsRead (found : Pattern) (item : List ℕ) (next : Pattern) : Type 0 where
  field : Field
  prefix : ℕ
  value : ℕ
  named : field_named (front is_colon item) ≡ Some field
  free : slice_index found.mask (field_number field) ≡ 0
  prefix_is : prefix_in field (slash_behind (back is_colon item)) ≡ Some prefix
  value_is : value_behind field (back is_colon item) ≡ Some value
  next_is : with_both found field prefix value ≡ next

item_is_read : (found : Pattern) (item : List ℕ) (next : Pattern) → with_term found item ≡ Ok next → IsRead found item next
unfolding with_term
item_is_read found item next h =
    let f4 : Field → ℕ → ℕ → Result Pattern FieldKind = λ field prefix value. Ok (with_both found field prefix value) in
    let f3 : Field → ℕ → Result Pattern FieldKind = λ field prefix. ok_or (value_behind field (back is_colon item)) BadValue >>= f4 field prefix in
    let f2 : Field → Result Pattern FieldKind = λ field. ok_or (prefix_in field (slash_behind (back is_colon item))) BadPrefix >>= f3 field in
    let f1 : Field → Result Pattern FieldKind = λ named. fresh_field found.mask named >>= f2 in
    let one = ok_bind (field_named (front is_colon item)) UnknownField f1 next h in
    let two = fresh_bind found.mask one.0 f2 next one.2 in
    let three = ok_bind (prefix_in one.0 (slash_behind (back is_colon item))) BadPrefix (f3 one.0) next two.1 in
    let four = ok_bind (value_behind one.0 (back is_colon item)) BadValue (f4 one.0 three.0) next three.2 in
    record { field = one.0; prefix = three.0; value = four.0; named = one.1; free = two.0; prefix_is = three.1; value_is = four.1; next_is = cc four.2 }

colon_joined : (item rest : List ℕ) → back is_colon item ≡ Some rest → item ≡ front is_colon item ++ 58 ∷ rest
colon_joined item rest h = joined 58 item ∙ ap (λ behind. front is_colon item ++ tail_of 58 behind) h

-- what a canonical item says
record IsCanonicalItem (item : List ℕ) (field : Field) (prefix value : ℕ) : Type 0 where
  text : item ≡ name_of field ++ 58 ∷ (value_text field value ++ prefix_text field prefix)
  small : value < 2 ^ width_of field
  cut : and_bytes (bytes_high_first (size_of field) value) (prefix_bytes prefix (size_of field)) ≡ bytes_high_first (size_of field) value

canonical_item : (item : List ℕ) (field : Field) (prefix value : ℕ) (rest : Option (List ℕ)) → field_named (front is_colon item) ≡ Some field → back is_colon item ≡ rest
    → prefix_in field (slash_behind rest) ≡ Some prefix → value_behind field rest ≡ Some value → is_canonical_rest field rest ≡ true
    → IsCanonicalItem item field prefix value
canonical_item item field prefix value None named at p v spelled = absurd (false≢true spelled)
canonical_item item field prefix value (Some rest) named at p v spelled =
    let one = and_parts (is_canonical_value field (front is_slash rest))
    (is_canonical_prefix field (back is_slash rest) && is_cut field (prefix_in field (back is_slash rest)) (value_in field (front is_slash rest))) spelled in
    let two = and_parts (is_canonical_prefix field (back is_slash rest)) (is_cut field (prefix_in field (back is_slash rest)) (value_in field (front is_slash rest))) one.1 in
    let cut : bytes_eq (and_bytes (bytes_high_first (size_of field) value) (prefix_bytes prefix (size_of field))) (bytes_high_first (size_of field) value) ≡ true = rw (p, v) at two.1 in
    record {
      text = colon_joined item rest at
          ∙ (λ i. named_is (front is_colon item) field named i ++ 58 ∷ item_joined rest i)
          ∙ (λ i. name_of field ++ 58 ∷ (SpellingLemmas.value_is field (front is_slash rest) value v one.0 i ++ PrefixLemmas.prefix_is field (back is_slash rest) prefix p two.0 i));
      small = SpellingLemmas.value_small field (front is_slash rest) value v;
      cut = (bytes_eq-Decides (and_bytes (bytes_high_first (size_of field) value) (prefix_bytes prefix (size_of field))) (bytes_high_first (size_of field) value)).0 cut;
    }

-- ---- the items of what was found

-- what the mask leaves of the bytes of a field
kept_bytes : (found : Pattern) (field : Field)
    → bytes_at (kept_terms found).value field ≡ and_bytes (bytes_at found.value field) (prefix_bytes (slice_index found.mask (field_number field)) (size_of field))
kept_bytes found field = bytes_at-and_bytes found.value (mask_bytes_of found.mask) field ∙ ap (and_bytes (bytes_at found.value field)) (mask_at found.mask field)

abbrev items_of : Pattern → Field → List (List ℕ)
items_of found = item_at (Some (kept_terms found).value) found.mask

record Keeps (found : Pattern) : Type 0 where
  value : length found.value ≡ 48
  mask : length found.mask ≡ 9

value_same : (one two : List ℕ) (field : Field) → bytes_at one field ≡ bytes_at two field → value_at one field ≡ value_at two field
unfolding value_at
value_same one two field same = ap big_endian same

value_of_bytes : (bytes : List ℕ) (field : Field) (value : ℕ) → value < 2 ^ width_of field → bytes_at bytes field ≡ bytes_high_first (size_of field) value → value_at bytes field ≡ value
unfolding value_at
value_of_bytes bytes field value small is =
    let room : value < 256 ^ size_of field = subst (λ m. value < m) (sym (ByteLemmas.widths field)) small in
    ap big_endian is ∙ value_back (size_of field) value room

filter_adds : (found next : Pattern) (item : List ℕ) → Keeps found → with_term found item ≡ Ok next
    → Keeps next × IsAdded is_colon is_filter_item items_of found next item
filter_adds found next item keeps h =
    let read = item_is_read found item next h in
    let field : Field = read.field in
    let number : ℕ = field_number field in
    let value_next : with_value found.value field read.value ≡ next.value = ap (λ p. p.value) read.next_is in
    let mask_next : slice_set found.mask number read.prefix ≡ next.mask = ap (λ p. p.mask) read.next_is in
    let below : number < length found.mask = omega (arith, number_below field, keeps.mask) in
    let stands : slice_index next.mask number ≡ read.prefix = ap (λ ns. get_or ns number 0) (sym mask_next) ∙ get_or-set_same found.mask number read.prefix 0 below in
    let some : (read.prefix == 0) ≡ false = ne_eqb read.prefix 0 (prefix_some field (slash_behind (back is_colon item)) read.prefix read.prefix_is) in (
      record {
        value = ap length (sym value_next) ∙ length-with_value found.value field read.value keeps.value;
        mask = ap length (sym mask_next) ∙ length-set found.mask number read.prefix ∙ keeps.mask;
      },
      record {
        field = field;
        named = read.named;
        added = λ spelled.
            let it = canonical_item item field read.prefix read.value (back is_colon item) read.named refl read.prefix_is read.value_is spelled in
            let old : next.value ≡ with_value found.value field read.value = sym value_next in
            let bytes : bytes_at (kept_terms next).value field ≡ bytes_high_first (size_of field) read.value =
            kept_bytes next field
            ∙ (λ i. and_bytes (bytes_at (old i) field) (prefix_bytes (stands i) (size_of field)))
            ∙ ap (λ bs. and_bytes bs (prefix_bytes read.prefix (size_of field))) (value_here found.value field read.value keeps.value)
            ∙ it.cut in
            let value : value_at (kept_terms next).value field ≡ read.value = value_of_bytes (kept_terms next).value field read.value it.small bytes in
            rw (stands, some, value) (ap (λ x. x ∷ []) (sym it.text));
        others = λ other ne.
            let length_same : slice_index next.mask (field_number other) ≡ slice_index found.mask (field_number other) =
            ap (λ ns. get_or ns (field_number other) 0) (sym mask_next) ∙ get_or-set_other found.mask number (field_number other) read.prefix 0 ne in
            let bytes : bytes_at (kept_terms next).value other ≡ bytes_at (kept_terms found).value other =
            kept_bytes next other
            ∙ ap (λ n. and_bytes (bytes_at next.value other) (prefix_bytes n (size_of other))) length_same
            ∙ ap (λ bs. and_bytes bs (prefix_bytes (slice_index found.mask (field_number other)) (size_of other)))
            (ap (λ bs. bytes_at bs other) (sym value_next) ∙ others_stay found.value field read.value other keeps.value ne)
            ∙ sym (kept_bytes found other) in
            let value : value_at (kept_terms next).value other ≡ value_at (kept_terms found).value other = value_same (kept_terms next).value (kept_terms found).value other bytes in
            rw (length_same, value) refl;
      },
    )

-- ---- some field stands where items were read

item_stands : (found next : Pattern) (item : List ℕ) → length found.mask ≡ 9 → with_term found item ≡ Ok next → (length next.mask ≡ 9) × (next.mask ≢ no_lengths)
item_stands found next item whole h =
    let read = item_is_read found item next h in
    let number : ℕ = field_number read.field in
    let below : number < length found.mask = omega (arith, number_below read.field, whole) in
    let mask_next : slice_set found.mask number read.prefix ≡ next.mask = ap (λ p. p.mask) read.next_is in (
      ap length (sym mask_next) ∙ length-set found.mask number read.prefix ∙ whole,
      λ none.
          prefix_some read.field (slash_behind (back is_colon item)) read.prefix read.prefix_is
          (sym (get_or-set_same found.mask number read.prefix 0 below) ∙ ap (λ ns. get_or ns number 0) (mask_next ∙ none) ∙ none_stands read.field),
    )

terms_stand : (text : List ℕ) (found : Pattern) → with_items with_term 0 no_terms (parts 44 text) ≡ Ok found → found.mask ≢ no_lengths
terms_stand text found h = text_leaves with_term (λ terms. length terms.mask ≡ 9) (λ terms. terms.mask ≢ no_lengths) item_stands text no_terms found refl h

-- ---- the law

none_at : (field : Field) → items_of no_terms field ≡ []
none_at field = rw (none_stands field) refl

filter_bind : (read : Result Pattern FieldFault) (pattern : Pattern) → (read >>= λ found. Ok (kept_terms found)) ≡ Ok pattern → (found : Pattern) × (read ≡ Ok found) × (kept_terms found ≡ pattern)
filter_bind (Ok found) pattern h = (found, refl, cc h)
filter_bind (Err fault) pattern h = absurd (let wrong : ⊥ = cc in wrong)

only_list : (text : List ℕ) (found : Pattern) → with_items with_term 0 no_terms (parts 44 text) ≡ Ok found → are_in_order is_colon is_filter_item 0 (parts 44 text) ≡ true
    → text ≡ items_text (Some (kept_terms found).value) found.mask
unfolding items_text
only_list text found read order =
    let items : parts 44 text ≡ item_texts (Some (kept_terms found).value) found.mask fields =
    only_items with_term is_colon is_filter_item items_of Keeps filter_adds no_terms found (parts 44 text) (record { value = refl; mask = refl }) read order none_at
    ∙ items_at (Some (kept_terms found).value) found.mask fields in
    sym (join_with_byte-slice_split 44 text) ∙ ap (join_with_byte 44) items

-- the text of what was found: where no field stands the items would be empty, and an empty text is no filter
only_items_text : (text : List ℕ) (found : Pattern) → with_items with_term 0 no_terms (parts 44 text) ≡ Ok found
    → are_in_order is_colon is_filter_item 0 (parts 44 text) ≡ true → text ≡ filter_text (kept_terms found)
only_items_text text found read order =
    only_list text found read order ∙ sym (text_items (kept_terms found) (terms_stand text found read))

only_terms : (text : List ℕ) (found : Pattern) → terms_in text ≡ Ok found → is_canonical_filter text ≡ true → text ≡ filter_text (kept_terms found)
unfolding is_canonical_filter terms_in
only_terms text found read canonical =
    ⊎_elim
    (λ (t : bytes_eq text (codes "all") ≡ true).
    let all : Ok no_terms ≡ Ok found = rw t at read in
    let same : no_terms ≡ found = cc all in
    (bytes_eq-Decides text (codes "all")).0 t ∙ sym (text_empty (kept_terms found) (ap (λ p. p.mask) (sym same))))
    (λ (t : bytes_eq text (codes "all") ≡ false). only_items_text text found (rw t at read) (rw t at canonical))
    (cases_Bool (bytes_eq text (codes "all")))

pub only_filter : OnlyFilter
only_filter text pattern read canonical =
    let found = filter_bind (terms_in text) pattern read in
    only_terms text found.0 found.1 canonical ∙ ap filter_text found.2
