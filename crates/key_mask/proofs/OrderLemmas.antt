-- Items in canonical order are those that are printed.
use Rattle.std.proofs.Common.{◌≡◌, ◌≢◌, ℕ, suc, ◌+◌, ◌<◌, ◌≤◌, ◌==◌, ◌&&◌, Bool, true, false, nat_le, List, [], ◌∷◌, ◌++◌, length, slice_index, Option, Some, Result, Ok, refl, ap, sym, subst, ◌∙◌, arith, if◌then◌else◌, ⊎_elim, eq-eqb}
use Rattle.std.specs.List.{flat_map, find}
use Rattle.std.specs.Str.{bytes_eq}
use Rattle.std.proofs.lemmas.Bool.{cases_Bool, cases_eq, false≢true, ne_eqb}
use Rattle.std.proofs.lemmas.Bool.Decides.{nat_tests}
use Rattle.std.proofs.lemmas.Slice.Eq.{bytes_eq-Decides}
use Rattle.texts.specs.Cuts.{front}
use Rattle.key_mask.specs.declared.fields.Field.{Field}
use Rattle.key_mask.specs.declared.items.FieldKind.{FieldKind}
use Rattle.key_mask.specs.declared.items.FieldFault.{FieldFault}
use Rattle.key_mask.specs.Fields.{fields, field_number, name_of}
use Rattle.key_mask.specs.Items.{are_in_order, field_named, item_text, item_texts, with_items}
use Rattle.key_mask.proofs.ItemLemmas.{place_bind}
use Rattle.key_mask.proofs.FieldLemmas.{number_below, same_field}

both : (a b : Bool) → (a && b) ≡ true → (a ≡ true) × (b ≡ true)
both true b e = (refl, e)
both false b e = absurd (false≢true e)

-- ---- names

found_passes : (p : Field → Bool) (xs : List Field) (x : Field) → find p xs ≡ Some x → p x ≡ true
found_passes p [] x e = absurd (let wrong : ⊥ = cc in wrong)
found_passes p (y ∷ xs) x e =
    ⊎_elim
    (λ (t : p y ≡ true). let here : Some y ≡ Some x = rw t at e in let same : y ≡ x = cc here in subst (λ z. p z ≡ true) same t)
    (λ (t : p y ≡ false). found_passes p xs x (rw t at e))
    (cases_Bool (p y))

-- a name that is found is the field's
pub named_is : (name : List ℕ) (field : Field) → field_named name ≡ Some field → name ≡ name_of field
unfolding field_named
named_is name field e = (bytes_eq-Decides name (name_of field)).0 (found_passes (λ field. bytes_eq name (name_of field)) fields field e)

-- ---- one item

-- what an item in order says
record IsInOrder (ends : ℕ → Bool) (is_spelled : Field → List ℕ → Bool) (least : ℕ) (field : Field) (item : List ℕ) (items : List (List ℕ)) : Type 0 where
  from : least ≤ field_number field
  spelled : is_spelled field item ≡ true
  rest : are_in_order ends is_spelled (field_number field + 1) items ≡ true

in_order : (ends : ℕ → Bool) (is_spelled : Field → List ℕ → Bool) (least : ℕ) (field : Field) (item : List ℕ) (items : List (List ℕ))
    → field_named (front ends item) ≡ Some field → are_in_order ends is_spelled least (item ∷ items) ≡ true → IsInOrder ends is_spelled least field item items
in_order ends is_spelled least field item items named h =
    let rest : Bool = is_spelled field item && are_in_order ends is_spelled (field_number field + 1) items in
    let whole : (nat_le least (field_number field) && rest) ≡ true = rw named at h in
    let one = both (nat_le least (field_number field)) rest whole in
    let two = both (is_spelled field item) (are_in_order ends is_spelled (field_number field + 1) items) one.1 in
    let low : nat_le least (field_number field) ≡ true = one.0 in
    record { from = grind (arith, nat_tests, low); spelled = two.0; rest = two.1 }

put_in_order : (ends : ℕ → Bool) (is_spelled : Field → List ℕ → Bool) (least : ℕ) (field : Field) (item : List ℕ) (items : List (List ℕ))
    → field_named (front ends item) ≡ Some field → IsInOrder ends is_spelled least field item items → are_in_order ends is_spelled least (item ∷ items) ≡ true
put_in_order ends is_spelled least field item items named h =
    let low : nat_le least (field_number field) ≡ true = let from = h.from in grind (arith, nat_tests) in
    rw (named, low, h.spelled) h.rest

-- ---- what is printed is in order

-- the fields from a number on
abbrev pub AreNumbered : ℕ → List Field → Type 0
AreNumbered k [] = k ≡ 9
AreNumbered k (field ∷ fields) = (field_number field ≡ k) × AreNumbered (suc k) fields

pub numbered : AreNumbered 0 fields
numbered = (refl, (refl, (refl, (refl, (refl, (refl, (refl, (refl, (refl, refl)))))))))

pub record IsSpelled (ends : ℕ → Bool) (is_spelled : Field → List ℕ → Bool) (field : Field) (item : List ℕ) : Type 0 where
  pub named : field_named (front ends item) ≡ Some field
  pub spelled : is_spelled field item ≡ true

printed_from : (ends : ℕ → Bool) (is_spelled : Field → List ℕ → Bool) (values : Option (List ℕ)) (lengths : List ℕ)
    → ((field : Field) → slice_index lengths (field_number field) ≢ 0 → IsSpelled ends is_spelled field (item_text values field (slice_index lengths (field_number field))))
    → (k least : ℕ) (todo : List Field) → AreNumbered k todo → least ≤ k → are_in_order ends is_spelled least (item_texts values lengths todo) ≡ true
printed_from ends is_spelled values lengths each k least [] counted low = refl
printed_from ends is_spelled values lengths each k least (field ∷ todo) counted low =
    let n : ℕ = slice_index lengths (field_number field) in
    ⊎_elim
    (λ (e : n ≡ 0).
    let t : (n == 0) ≡ true = eq-eqb n 0 e in
    rw t (printed_from ends is_spelled values lengths each (suc k) least todo counted.1 (omega arith)))
    (λ (ne : n ≢ 0).
    let t : (n == 0) ≡ false = ne_eqb n 0 ne in
    let one = each field ne in
    rw t
    (put_in_order ends is_spelled least field (item_text values field n) (item_texts values lengths todo) one.named (record {
      from = omega (arith, counted.0);
      spelled = one.spelled;
      rest = printed_from ends is_spelled values lengths each (suc k) (field_number field + 1) todo counted.1 (omega (arith, counted.0));
    })))
    (cases_eq n 0)

pub printed_in_order : (ends : ℕ → Bool) (is_spelled : Field → List ℕ → Bool) (values : Option (List ℕ)) (lengths : List ℕ)
    → ((field : Field) → slice_index lengths (field_number field) ≢ 0 → IsSpelled ends is_spelled field (item_text values field (slice_index lengths (field_number field))))
    → are_in_order ends is_spelled 0 (item_texts values lengths fields) ≡ true
printed_in_order ends is_spelled values lengths each = printed_from ends is_spelled values lengths each 0 0 fields numbered (omega arith)

-- ---- items in order that are read are what is printed

-- the item of a field, if it stands in the mask
abbrev pub item_at : Option (List ℕ) → List ℕ → Field → List (List ℕ)
item_at values lengths field =
    if slice_index lengths (field_number field) == 0 then [] else item_text values field (slice_index lengths (field_number field)) ∷ []

pub items_at : (values : Option (List ℕ)) (lengths : List ℕ) (fields : List Field) → flat_map (item_at values lengths) fields ≡ item_texts values lengths fields
items_at values lengths [] = refl
items_at values lengths (field ∷ fields) =
    let n : ℕ = slice_index lengths (field_number field) in
    ⊎_elim
    (λ (e : n ≡ 0). let t : (n == 0) ≡ true = eq-eqb n 0 e in rw t (items_at values lengths fields))
    (λ (ne : n ≢ 0). let t : (n == 0) ≡ false = ne_eqb n 0 ne in rw t (ap (λ items. item_text values field n ∷ items) (items_at values lengths fields)))
    (cases_eq n 0)

-- an item that is read gives its field that item, where it is spelled so, and leaves the items of the other fields
pub record IsAdded {A : Type 0} (ends : ℕ → Bool) (is_spelled : Field → List ℕ → Bool) (items_of : A → Field → List (List ℕ)) (found next : A) (item : List ℕ) : Type 0 where
  pub field : Field
  pub named : field_named (front ends item) ≡ Some field
  pub added : is_spelled field item ≡ true → items_of next field ≡ item ∷ []
  pub others : (other : Field) → field_number other ≢ field_number field → items_of next other ≡ items_of found other

module _ {A : Type 0} (add : A → List ℕ → Result A FieldKind) (ends : ℕ → Bool) (is_spelled : Field → List ℕ → Bool) (items_of : A → Field → List (List ℕ)) (Keeps : A → Type 0)
    (adds : (found next : A) (item : List ℕ) → Keeps found → add found item ≡ Ok next → Keeps next × IsAdded ends is_spelled items_of found next item) where
  untouched : (least place : ℕ) (found whole : A) (items : List (List ℕ)) (field : Field) → Keeps found → with_items add place found items ≡ Ok whole
      → are_in_order ends is_spelled least items ≡ true → field_number field < least → items_of whole field ≡ items_of found field
  untouched least place found whole [] field keeps read order below = let same : found ≡ whole = cc read in ap (λ a. items_of a field) (sym same)
  untouched least place found whole (item ∷ items) field keeps read order below =
      let f : A → Result A FieldFault = λ next. with_items add (place + (length item + 1)) next items in
      let step = place_bind place (add found item) f whole read in
      let one = adds found step.0 item keeps step.1 in
      let sorted = in_order ends is_spelled least one.1.field item items one.1.named order in
      untouched (field_number one.1.field + 1) (place + (length item + 1)) step.0 whole items field one.0 step.2 sorted.rest (omega (arith, sorted.from))
      ∙ one.1.others field (λ e. omega (arith, e, sorted.from))

  only_from : (k place : ℕ) (found whole : A) (items : List (List ℕ)) (todo : List Field) → AreNumbered k todo → Keeps found → with_items add place found items ≡ Ok whole
      → are_in_order ends is_spelled k items ≡ true → ((field : Field) → k ≤ field_number field → items_of found field ≡ []) → items ≡ flat_map (items_of whole) todo
  only_from k place found whole [] [] counted keeps read order none = refl
  only_from k place found whole (item ∷ items) [] counted keeps read order none =
      let f : A → Result A FieldFault = λ next. with_items add (place + (length item + 1)) next items in
      let step = place_bind place (add found item) f whole read in
      let one = adds found step.0 item keeps step.1 in
      let sorted = in_order ends is_spelled k one.1.field item items one.1.named order in
      absurd (omega (arith, number_below one.1.field, sorted.from, counted))
  only_from k place found whole [] (field ∷ todo) counted keeps read order none =
      let same : found ≡ whole = cc read in
      let here : items_of whole field ≡ [] = ap (λ a. items_of a field) (sym same) ∙ none field (omega (arith, counted.0)) in
      let rest = only_from (suc k) place found whole [] todo counted.1 keeps read order (λ other above. none other (omega arith)) in
      rest ∙ ap (λ xs. xs ++ flat_map (items_of whole) todo) (sym here)
  only_from k place found whole (item ∷ items) (field ∷ todo) counted keeps read order none =
      let f : A → Result A FieldFault = λ next. with_items add (place + (length item + 1)) next items in
      let step = place_bind place (add found item) f whole read in
      let one = adds found step.0 item keeps step.1 in
      let added = one.1 in
      let sorted = in_order ends is_spelled k added.field item items added.named order in
      ⊎_elim
      (λ (e : field_number added.field ≡ k).
      let it : added.field ≡ field = same_field added.field field (e ∙ sym counted.0) in
      let later : are_in_order ends is_spelled (suc k) items ≡ true = let count : field_number added.field + 1 ≡ suc k = omega (arith, e) in subst (λ n. are_in_order ends is_spelled n items ≡ true) count sorted.rest in
      let here : items_of whole field ≡ item ∷ [] =
      untouched (suc k) (place + (length item + 1)) step.0 whole items field one.0 step.2 later (omega (arith, counted.0))
      ∙ subst (λ g. items_of step.0 g ≡ item ∷ []) it (added.added sorted.spelled) in
      let rest = only_from (suc k) (place + (length item + 1)) step.0 whole items todo counted.1 one.0 step.2 later
      (λ other above. added.others other (λ z. omega (arith, z, e, above)) ∙ none other (omega (arith, above))) in
      ap (λ xs. item ∷ xs) rest ∙ ap (λ xs. xs ++ flat_map (items_of whole) todo) (sym here))
      (λ (ne : field_number added.field ≢ k).
      let above : suc k ≤ field_number added.field = omega (arith, ne, sorted.from) in
      let later : are_in_order ends is_spelled (suc k) (item ∷ items) ≡ true =
      put_in_order ends is_spelled (suc k) added.field item items added.named (record { from = above; spelled = sorted.spelled; rest = sorted.rest }) in
      let here : items_of whole field ≡ [] =
      untouched (suc k) place found whole (item ∷ items) field keeps read later (omega (arith, counted.0)) ∙ none field (omega (arith, counted.0)) in
      let rest = only_from (suc k) place found whole (item ∷ items) todo counted.1 keeps read later (λ other high. none other (omega (arith, high))) in
      rest ∙ ap (λ xs. xs ++ flat_map (items_of whole) todo) (sym here))
      (cases_eq (field_number added.field) k)

  pub only_items : (none whole : A) (items : List (List ℕ)) → Keeps none → with_items add 0 none items ≡ Ok whole → are_in_order ends is_spelled 0 items ≡ true
      → ((field : Field) → items_of none field ≡ []) → items ≡ flat_map (items_of whole) fields
  only_items none whole items keeps read order empty = only_from 0 0 none whole items fields numbered keeps read order (λ field above. empty field)
