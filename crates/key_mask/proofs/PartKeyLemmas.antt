-- The texts that are read as keys are those that spell the parts of a mask.
use Rattle.std.proofs.Common.{◌≡◌, ◌≢◌, ℕ, zero, suc, ◌+◌, ◌<◌, ◌==◌, true, false, List, [], ◌∷◌, ◌++◌, length, get_or, set, slice_index, Option, None, Some, Result, Ok, refl, ap, sym, subst, ◌∙◌, arith, append-nil, append_assoc, length-append, ⊎_elim, eqb-true}
use Rattle.std.specs.List.{list_all}
use Rattle.std.proofs.lemmas.Bool.{cases_eq}
use Rattle.std.proofs.lemmas.Bool.Decides.{nat_tests}
use Rattle.std.proofs.lemmas.Grind.{same_number_lists}
use Rattle.std.proofs.lemmas.List.{get_or-map}
use Rattle.std.proofs.lemmas.List.Splits.{join_with_byte-slice_split}
use Rattle.texts.specs.Cuts.{front, back, parts, tail_of}
use Rattle.texts.proofs.CutLemmas.{parts_first}
use Rattle.key_mask.specs.declared.fields.Field.{Field}
use Rattle.key_mask.specs.declared.fields.Field.TheVariants.{SrcIp}
use Rattle.key_mask.specs.declared.items.FieldFault.{FieldFault}
use Rattle.key_mask.specs.Fields.{fields, field_number, name_of}
use Rattle.key_mask.specs.Items.{is_slash, with_items}
use Rattle.key_mask.specs.Keys.{key_in, with_item}
use Rattle.key_mask.specs.Laws.{AreSpelled, KeysAreRead, NoOthersAreKeys, Spells}
use Rattle.key_mask.specs.Masks.{AreParts, length_in, lengths_of, no_lengths}
use Rattle.key_mask.proofs.FieldLemmas.{number_at, same_field}
use Rattle.key_mask.proofs.ItemLemmas.{place_bind}
use Rattle.key_mask.proofs.KeyLemmas.{item_is_read}
use Rattle.key_mask.proofs.MaskLemmas.{none_stands}
use Rattle.key_mask.proofs.OrderLemmas.{named_is}
use Rattle.key_mask.proofs.PartLemmas.{Hold, hold_push, present}
use Rattle.key_mask.proofs.PrefixLemmas.{behind_pass, prefix_allowed}
use Rattle.key_mask.proofs.PrintLemmas.{cut_slash, is_plain, item_joined, name_found, name_plain, name_slashless, parts_joined}

-- ---- lengths that are those of parts

held_lengths : (parts : List (Field × ℕ)) (lengths : List ℕ) → Hold parts lengths → lengths ≡ lengths_of parts
held_lengths parts lengths held = same_number_lists lengths (lengths_of parts) held.long each where
  each : (k : ℕ) → k < length lengths → get_or lengths k 0 ≡ get_or (lengths_of parts) k 0
  each k h =
      let below : k < 9 = omega (arith, held.long) in
      ap (λ n. get_or lengths n 0) (sym (number_at k below))
      ∙ held.each (get_or fields k SrcIp)
      ∙ sym (get_or-map (length_in parts) fields k SrcIp 0 below)

none_held : Hold [] no_lengths
none_held = record {
  long = refl;
  each = λ field. none_stands field;
  valid = record { allowed = λ k d h. absurd (omega arith); once = λ i j d h k. absurd (omega arith) };
}

-- ---- an item that spells a part

spelled_plain : (item : List ℕ) (part : Field × ℕ) → Spells item part → list_all is_plain item ≡ true
spelled_plain item part spelled =
    ap (list_all is_plain) spelled.text
    ∙ name_plain part.0 (tail_of 47 spelled.behind) (behind_pass is_plain refl (λ c low high. grind (arith, nat_tests)) part.0 spelled.behind part.1 spelled.prefix)

all_plain : (items : List (List ℕ)) (parts : List (Field × ℕ)) → AreSpelled items parts → list_all (list_all is_plain) items ≡ true
all_plain [] [] h = refl
all_plain [] (part ∷ parts) h = absurd h
all_plain (item ∷ items) [] h = absurd h
all_plain (item ∷ items) (part ∷ parts) h = rw (spelled_plain item part h.0) (all_plain items parts h.1)

cut_name : (field : Field) (behind : Option (List ℕ))
    → (front is_slash (name_of field ++ tail_of 47 behind) ≡ name_of field) × (back is_slash (name_of field ++ tail_of 47 behind) ≡ behind)
cut_name field None = cut_slash (name_of field) true [] (name_slashless field)
cut_name field (Some text) = cut_slash (name_of field) false text (name_slashless field)

spelled_read : (lengths item : List ℕ) (part : Field × ℕ) → Spells item part → slice_index lengths (field_number part.0) ≡ 0
    → with_item lengths item ≡ Ok (set lengths (field_number part.0) part.1)
unfolding with_item
spelled_read lengths item part spelled free =
    let cuts = cut_name part.0 spelled.behind in
    rw (spelled.text, cuts.0, cuts.1, name_found part.0, free, spelled.prefix) refl

-- ---- what spells parts is read

-- a part's field stands in none of those before it
not_before : (done todo : List (Field × ℕ)) (part : Field × ℕ) → AreParts (done ++ part ∷ todo) → length_in done part.0 ≡ 0
not_before done todo part valid =
    ⊎_elim
    (λ (e : length_in done part.0 ≡ 0). e)
    (λ (some : length_in done part.0 ≢ 0).
    let other = present (λ other. field_number other == field_number part.0) done part some in
    let all : List (Field × ℕ) = done ++ part ∷ todo in
    let low : other.0 < length done = other.1 in
    let high : length done < length all = omega (arith, length-append done (part ∷ todo)) in
    let one : get_or all other.0 part ≡ get_or done other.0 part = get_front done (part ∷ todo) other.0 part low in
    let two : get_or all (length done) part ≡ part = get_seam done todo part in
    let same : (get_or done other.0 part).0 ≡ part.0 =
    same_field (get_or done other.0 part).0 part.0 (eqb-true (field_number (get_or done other.0 part).0) (field_number part.0) other.2) in
    absurd (valid.once other.0 (length done) part low high (ap (λ p. p.0) one ∙ same ∙ ap (λ p. p.0) (sym two))))
    (cases_eq (length_in done part.0) 0) where
      get_front : (xs ys : List (Field × ℕ)) (k : ℕ) (d : Field × ℕ) → k < length xs → get_or (xs ++ ys) k d ≡ get_or xs k d
      get_front [] ys k d h = absurd (omega arith)
      get_front (x ∷ xs) ys zero d h = refl
      get_front (x ∷ xs) ys (suc k) d h = get_front xs ys k d (omega arith)

      get_seam : (xs ys : List (Field × ℕ)) (y : Field × ℕ) → get_or (xs ++ y ∷ ys) (length xs) y ≡ y
      get_seam [] ys y = refl
      get_seam (x ∷ xs) ys y = get_seam xs ys y

parts_are_read : (place : ℕ) (items : List (List ℕ)) (done todo : List (Field × ℕ)) (lengths : List ℕ) → Hold done lengths → AreSpelled items todo
    → AreParts (done ++ todo) → with_items with_item place lengths items ≡ Ok (lengths_of (done ++ todo))
parts_are_read place [] done [] lengths held h valid =
    ap (λ ns. Ok ns) (held_lengths done lengths held ∙ ap lengths_of (sym (append-nil done)))
parts_are_read place [] done (part ∷ todo) lengths held h valid = absurd h
parts_are_read place (item ∷ items) done [] lengths held h valid = absurd h
parts_are_read place (item ∷ items) done (part ∷ todo) lengths held h valid =
    let free : get_or lengths (field_number part.0) 0 ≡ 0 = held.each part.0 ∙ not_before done todo part valid in
    let joined : (done ++ part ∷ []) ++ todo ≡ done ++ part ∷ todo = append_assoc done (part ∷ []) todo in
    let next = hold_push done lengths part held free (prefix_allowed part.0 h.0.behind part.1 h.0.prefix) in
    let rest = parts_are_read (place + (length item + 1)) items (done ++ part ∷ []) todo (set lengths (field_number part.0) part.1) next h.1
    (subst AreParts (sym joined) valid) in
    rw (spelled_read lengths item part h.0 free) (rest ∙ ap (λ ps. Ok (lengths_of ps)) joined)

pub keys_are_read : KeysAreRead
unfolding key_in
keys_are_read text ps key valid =
    rw (key.text_is, parts_joined key.items (all_plain key.items ps key.each) key.some)
    (parts_are_read 0 key.items [] ps no_lengths none_held key.each valid)

-- ---- and no other text

record ArePartsOf (items : List (List ℕ)) (done : List (Field × ℕ)) (whole : List ℕ) : Type 0 where
  todo : List (Field × ℕ)
  each : AreSpelled items todo
  held : Hold (done ++ todo) whole

read_parts : (place : ℕ) (items : List (List ℕ)) (done : List (Field × ℕ)) (lengths whole : List ℕ) → Hold done lengths
    → with_items with_item place lengths items ≡ Ok whole → ArePartsOf items done whole
read_parts place [] done lengths whole held h =
    let same : lengths ≡ whole = cc h in
    record { todo = []; each = tt; held = subst (Hold (done ++ [])) same (subst (λ ps. Hold ps lengths) (sym (append-nil done)) held) }
read_parts place (item ∷ items) done lengths whole held h =
    let f : List ℕ → Result (List ℕ) FieldFault = λ next. with_items with_item (place + (length item + 1)) next items in
    let step = place_bind place (with_item lengths item) f whole h in
    let read = item_is_read lengths item step.0 step.1 in
    let part : Field × ℕ = (read.field, read.prefix) in
    let pushed = hold_push done lengths part held read.free (prefix_allowed read.field (back is_slash item) read.prefix read.prefix_is) in
    let rest = read_parts (place + (length item + 1)) items (done ++ part ∷ []) step.0 whole (subst (Hold (done ++ part ∷ [])) read.next_is pushed) step.2 in
    record {
      todo = part ∷ rest.todo;
      each = (
        record {
          behind = back is_slash item;
          text = item_joined item ∙ ap (λ name. name ++ tail_of 47 (back is_slash item)) (named_is (front is_slash item) read.field read.named);
          prefix = read.prefix_is;
        },
        rest.each,
      );
      held = subst (λ ps. Hold ps whole) (append_assoc done (part ∷ []) rest.todo) rest.held;
    }

some_part : (text : List ℕ) → 0 < length (parts 44 text)
some_part text = rw (parts_first 44 text) (omega arith)

pub no_others_are_keys : NoOthersAreKeys
unfolding key_in
no_others_are_keys text lengths h =
    let read = read_parts 0 (parts 44 text) [] no_lengths lengths none_held h in
    (read.todo, record { items = parts 44 text; some = some_part text; each = read.each; text_is = sym (join_with_byte-slice_split 44 text) }, read.held.valid, held_lengths read.todo lengths read.held)
