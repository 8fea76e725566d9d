-- Keys, printed and read.
use Rattle.std.proofs.Common.{◌≡◌, ◌≢◌, ℕ, zero, suc, ◌+◌, ◌<◌, ◌≤◌, ◌==◌, true, false, List, [], ◌∷◌, ◌++◌, length, replicate, get_or, set, slice_index, slice_set, None, Some, ok_or, Result, Ok, Err, IfOk, IsTrue, refl, ap, sym, ◌∙◌, subst, arith}
use Rattle.std.specs.Fmt.{decimal}
use Rattle.std.specs.List.{join_with_byte, list_all}
use Rattle.std.proofs.lemmas.Bool.{ne_eqb}
use Rattle.std.proofs.lemmas.Bool.Decides.{nat_tests}
use Rattle.std.proofs.lemmas.List.{get_or-set_other, get_or-set_same, length-set}
use Rattle.std.proofs.lemmas.List.Splits.{join_with_byte-slice_split}
use Rattle.texts.specs.Cuts.{front, back, parts}
use Rattle.key_mask.specs.declared.fields.Field.{Field}
use Rattle.key_mask.specs.declared.items.FieldKind.{FieldKind}
use Rattle.key_mask.specs.declared.items.FieldKind.TheVariants.{UnknownField, BadPrefix}
use Rattle.key_mask.specs.declared.items.FieldFault.{FieldFault}
use Rattle.key_mask.specs.Fields.{fields, field_number, width_of, is_length, name_of}
use Rattle.key_mask.specs.Masks.{AreLengths, no_lengths}
use Rattle.key_mask.specs.Items.{◌>>=◌, field_named, fresh_field, is_slash, item_text, item_texts, items_text, is_canonical_prefix, prefix_in, prefix_text, with_items}
use Rattle.key_mask.specs.Keys.{is_canonical_key, is_key_item, key_in, key_text, with_item}
use Rattle.key_mask.specs.Laws.{KeyAgain, OnlyKey}
use Rattle.key_mask.proofs.OrderLemmas.{IsAdded, IsSpelled, item_at, items_at, named_is, only_items, printed_in_order}
use Rattle.key_mask.proofs.ItemLemmas.{IsStep, fresh_bind, items_again, ok_bind, text_leaves}
use Rattle.key_mask.proofs.MaskLemmas.{none_stands}
use Rattle.key_mask.proofs.FieldLemmas.{number_below}
use Rattle.key_mask.proofs.PrefixLemmas.{length_within, each_row, prefix_again, prefix_canonical, prefix_is, prefix_pass, prefix_some}
use Rattle.key_mask.proofs.PrintLemmas.{cut_slash, item_joined, is_plain, items_plain, name_found, name_plain, name_slashless, parts_joined}

-- ---- an item is read as what it was printed of

item_again : (lengths : List ℕ) (field : Field) (n : ℕ) → slice_index lengths (field_number field) ≡ 0 → IsTrue (is_length field n)
    → with_item lengths (item_text None field n) ≡ Ok (slice_set lengths (field_number field) n)
unfolding with_item
item_again lengths field n free fits =
    let cuts = cut_slash (name_of field) (n == width_of field) (decimal n) (name_slashless field) in
    rw (cuts.0, cuts.1, name_found field, free, prefix_again field n fits) refl

-- ---- what stands after the first fields were read

-- the lengths of the first k fields, and none of the others
abbrev pub first_lengths : List ℕ → ℕ → List ℕ
first_lengths [] k = []
first_lengths (n ∷ lengths) zero = 0 ∷ first_lengths lengths zero
first_lengths (n ∷ lengths) (suc k) = n ∷ first_lengths lengths k

pub free_next : (lengths : List ℕ) (k : ℕ) → get_or (first_lengths lengths k) k 0 ≡ 0
free_next [] k = refl
free_next (n ∷ lengths) zero = refl
free_next (n ∷ lengths) (suc k) = free_next lengths k

pub filled_next : (lengths : List ℕ) (k : ℕ) → k < length lengths → set (first_lengths lengths k) k (get_or lengths k 0) ≡ first_lengths lengths (suc k)
filled_next [] k h = absurd (omega arith)
filled_next (n ∷ lengths) zero h = refl
filled_next (n ∷ lengths) (suc k) h = ap (λ ns. n ∷ ns) (filled_next lengths k (omega arith))

pub kept_next : (lengths : List ℕ) (k : ℕ) → get_or lengths k 0 ≡ 0 → first_lengths lengths (suc k) ≡ first_lengths lengths k
kept_next [] k e = refl
kept_next (n ∷ lengths) zero e = ap (λ m. m ∷ first_lengths lengths zero) e
kept_next (n ∷ lengths) (suc k) e = ap (λ ns. n ∷ ns) (kept_next lengths k e)

pub first_all : (lengths : List ℕ) (k : ℕ) → length lengths ≤ k → first_lengths lengths k ≡ lengths
first_all [] k h = refl
first_all (n ∷ lengths) zero h = absurd (omega arith)
first_all (n ∷ lengths) (suc k) h = ap (λ ns. n ∷ ns) (first_all lengths k (omega arith))

pub first_none : (lengths : List ℕ) (count : ℕ) → length lengths ≡ count → first_lengths lengths 0 ≡ replicate {A = ℕ} count 0
first_none [] zero e = refl
first_none [] (suc count) e = absurd (omega arith)
first_none (n ∷ lengths) zero e = absurd (omega arith)
first_none (n ∷ lengths) (suc count) e = ap (λ ns. 0 ∷ ns) (first_none lengths count (omega arith))

key_step : (lengths : List ℕ) → AreLengths lengths → (field : Field)
    → IsStep with_item None lengths (first_lengths lengths (field_number field)) (first_lengths lengths (suc (field_number field))) field
key_step lengths known field =
    let k : ℕ = field_number field in
    record {
      absent = λ none. kept_next lengths k none;
      present = λ some.
          item_again (first_lengths lengths k) field (slice_index lengths k) (free_next lengths k) (known.allowed field some)
          ∙ ap (λ found. Ok found) (filled_next lengths k (omega (arith, number_below field, known.whole)));
    }

reads_all : (lengths : List ℕ) → AreLengths lengths → with_items with_item 0 no_lengths (item_texts None lengths fields) ≡ Ok lengths
reads_all lengths known =
    let none : first_lengths lengths 0 ≡ no_lengths = first_none lengths 9 known.whole in
    let all : first_lengths lengths 9 ≡ lengths = first_all lengths 9 (omega (arith, known.whole)) in
    subst (λ found. with_items with_item 0 found (item_texts None lengths fields) ≡ Ok lengths) none
    (items_again with_item None lengths (first_lengths lengths) (key_step lengths known) 0 fields refl 0 ∙ ap (λ found. Ok found) all)

-- ---- the commas part the items

key_plain : (lengths : List ℕ) → AreLengths lengths → (field : Field) → slice_index lengths (field_number field) ≢ 0
    → list_all is_plain (item_text None field (slice_index lengths (field_number field))) ≡ true
key_plain lengths known field some =
    let n : ℕ = slice_index lengths (field_number field) in
    let fits = length_within field n (known.allowed field some) in
    let row = each_row field in
    name_plain field (prefix_text field n) (prefix_pass is_plain refl (λ c low high. grind (arith, nat_tests)) field n (omega (arith, fits.few, row.few)))

-- ---- what an item that was read says

pub record IsRead (lengths item next : List ℕ) : Type 0 where
  pub field : Field
  pub prefix : ℕ
  pub named : field_named (front is_slash item) ≡ Some field
  pub free : slice_index lengths (field_number field) ≡ 0
  pub prefix_is : prefix_in field (back is_slash item) ≡ Some prefix
  pub next_is : slice_set lengths (field_number field) prefix ≡ next

pub item_is_read : (lengths item next : List ℕ) → with_item lengths item ≡ Ok next → IsRead lengths item next
unfolding with_item
item_is_read lengths item next h =
    let last : Field → ℕ → Result (List ℕ) FieldKind = λ field prefix. Ok (slice_set lengths (field_number field) prefix) in
    let third : Field → Result (List ℕ) FieldKind = λ field. ok_or (prefix_in field (back is_slash item)) BadPrefix >>= last field in
    let second : Field → Result (List ℕ) FieldKind = λ named. fresh_field lengths named >>= third in
    let one = ok_bind (field_named (front is_slash item)) UnknownField second next h in
    let two = fresh_bind lengths one.0 third next one.2 in
    let three = ok_bind (prefix_in one.0 (back is_slash item)) BadPrefix (last one.0) next two.1 in
    record { field = one.0; prefix = three.0; named = one.1; free = two.0; prefix_is = three.1; next_is = cc three.2 }

-- ---- a key is not empty

-- an item that is read makes some length more than 0
item_stands : (lengths item next : List ℕ) → length lengths ≡ 9 → with_item lengths item ≡ Ok next → (length next ≡ 9) × (next ≢ no_lengths)
item_stands lengths item next whole h =
    let read = item_is_read lengths item next h in
    let below : field_number read.field < length lengths = omega (arith, number_below read.field, whole) in (
      ap length (sym read.next_is) ∙ length-set lengths (field_number read.field) read.prefix ∙ whole,
      λ none.
          prefix_some read.field (back is_slash item) read.prefix read.prefix_is
          (sym (get_or-set_same lengths (field_number read.field) read.prefix 0 below)
          ∙ ap (λ ns. get_or ns (field_number read.field) 0) (read.next_is ∙ none) ∙ none_stands read.field),
    )

pub key_stands : (text : List ℕ) (read : Result (List ℕ) FieldFault) → read ≡ key_in text → IfOk read (λ mask. mask ≢ no_lengths)
unfolding key_in
key_stands text (Err fault) e = tt
key_stands text (Ok whole) e =
    text_leaves with_item (λ mask. length mask ≡ 9) (λ mask. mask ≢ no_lengths) (λ lengths next item. item_stands lengths item next) text no_lengths whole refl (sym e)

-- ---- what is printed of a mask in which some field stands is read as that mask

some_items : (items : List (List ℕ)) (lengths : List ℕ) → with_items with_item 0 no_lengths items ≡ Ok lengths → lengths ≢ no_lengths → 0 < length items
some_items [] lengths h stands = let same : no_lengths ≡ lengths = cc h in absurd (stands (sym same))
some_items (item ∷ items) lengths h stands = omega arith

key_parts : (lengths : List ℕ) → AreLengths lengths → lengths ≢ no_lengths → parts 44 (key_text lengths) ≡ item_texts None lengths fields
unfolding items_text
key_parts lengths known stands =
    let items : List (List ℕ) = item_texts None lengths fields in
    parts_joined items (items_plain None lengths (key_plain lengths known) fields) (some_items items lengths (reads_all lengths known) stands)

pub key_again : KeyAgain
unfolding key_in
key_again lengths known stands = rw (key_parts lengths known stands) (reads_all lengths known)

-- ---- and is canonical

key_spelled : (lengths : List ℕ) → AreLengths lengths → (field : Field) → slice_index lengths (field_number field) ≢ 0
    → IsSpelled is_slash is_key_item field (item_text None field (slice_index lengths (field_number field)))
key_spelled lengths known field some =
    let n : ℕ = slice_index lengths (field_number field) in
    let cuts = cut_slash (name_of field) (n == width_of field) (decimal n) (name_slashless field) in
    record {
      named = rw cuts.0 (name_found field);
      spelled = rw cuts.1 (prefix_canonical field n (known.allowed field some));
    }

pub key_canonical : (lengths : List ℕ) → AreLengths lengths → lengths ≢ no_lengths → is_canonical_key (key_text lengths) ≡ true
unfolding is_canonical_key
key_canonical lengths known stands =
    rw (key_parts lengths known stands) (printed_in_order is_slash is_key_item None lengths (key_spelled lengths known))

-- ---- no other canonical text is read as that mask

-- an item in its canonical spelling is what is printed
item_is : (item : List ℕ) (field : Field) (prefix : ℕ) → field_named (front is_slash item) ≡ Some field → prefix_in field (back is_slash item) ≡ Some prefix
    → is_canonical_prefix field (back is_slash item) ≡ true → item ≡ item_text None field prefix
item_is item field prefix named read spelled =
    item_joined item ∙ (λ i. named_is (front is_slash item) field named i ++ prefix_is field (back is_slash item) prefix read spelled i)

key_adds : (found next item : List ℕ) → length found ≡ 9 → with_item found item ≡ Ok next
    → (length next ≡ 9) × IsAdded is_slash is_key_item (item_at None) found next item
key_adds found next item whole h =
    let read = item_is_read found item next h in
    let number : ℕ = field_number read.field in
    let below : number < length found = omega (arith, number_below read.field, whole) in
    let here : slice_index next number ≡ read.prefix = ap (λ ns. get_or ns number 0) (sym read.next_is) ∙ get_or-set_same found number read.prefix 0 below in
    let some : (read.prefix == 0) ≡ false = ne_eqb read.prefix 0 (prefix_some read.field (back is_slash item) read.prefix read.prefix_is) in (
      ap length (sym read.next_is) ∙ length-set found number read.prefix ∙ whole,
      record {
        field = read.field;
        named = read.named;
        added = λ spelled. rw (here, some) (ap (λ x. x ∷ []) (sym (item_is item read.field read.prefix read.named read.prefix_is spelled)));
        others = λ other ne.
            let same : slice_index next (field_number other) ≡ slice_index found (field_number other) =
            ap (λ ns. get_or ns (field_number other) 0) (sym read.next_is) ∙ get_or-set_other found number (field_number other) read.prefix 0 ne in
            rw same refl;
      },
    )

none_at : (field : Field) → item_at None no_lengths field ≡ []
none_at field = rw (none_stands field) refl

pub only_key : OnlyKey
unfolding key_in is_canonical_key items_text
only_key text lengths read canonical =
    let items : parts 44 text ≡ item_texts None lengths fields =
    only_items with_item is_slash is_key_item (item_at None) (λ found. length found ≡ 9) key_adds no_lengths lengths (parts 44 text) refl read canonical none_at
    ∙ items_at None lengths fields in
    sym (join_with_byte-slice_split 44 text) ∙ ap (join_with_byte 44) items
