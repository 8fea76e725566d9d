-- Items with commas between: how they are read one by one.
use Rattle.std.proofs.Common.{◌≡◌, ◌≢◌, ℕ, suc, ◌+◌, ◌==◌, true, false, List, [], ◌∷◌, length, map, drop, get_or, slice_index, Option, None, Some, ok_or, Result, Ok, Err, refl, ap, subst, arith, ⊎_elim, eq-eqb}
use Rattle.std.specs.List.{range_with_len}
use Rattle.std.proofs.lemmas.Bool.{cases_eq, ne_eqb}
use Rattle.texts.specs.Cuts.{front, back, parts}
use Rattle.texts.proofs.CutLemmas.{parts_first, parts_behind}
use Rattle.key_mask.specs.declared.fields.Field.{Field}
use Rattle.key_mask.specs.declared.items.FieldKind.{FieldKind}
use Rattle.key_mask.specs.Fields.{field_number}
use Rattle.key_mask.specs.declared.items.FieldKind.TheVariants.{RepeatedField}
use Rattle.key_mask.specs.declared.items.FieldFault.{FieldFault}
use Rattle.key_mask.specs.Items.{◌>>=◌, at_place, fresh_field, with_items, item_text, item_texts}

-- one item more
pub item_read : {A : Type 0} (add : A → List ℕ → Result A FieldKind) (place : ℕ) (found : A) (text item : List ℕ) (rest : Option (List ℕ)) (next : A)
    → item ≡ front (λ b. b == 44) text → rest ≡ back (λ b. b == 44) text → add found item ≡ Ok next
    → with_items add (place + (length item + 1)) next (parts_behind 44 rest) ≡ with_items add place found (parts 44 text)
item_read add place found text item rest next p q e = rw (parts_first 44 text, ← p, ← q, e) refl

-- the first item at fault
pub item_fault : {A : Type 0} (add : A → List ℕ → Result A FieldKind) (place : ℕ) (found : A) (text item : List ℕ) (kind : FieldKind)
    → item ≡ front (λ b. b == 44) text → add found item ≡ Err kind
    → with_items add place found (parts 44 text) ≡ Err (record { kind = kind; place = place })
item_fault add place found text item kind p e = rw (parts_first 44 text, ← p, e) refl

-- ---- what was printed is read

-- the item of a field that stands in the mask leads from one state to the next, and where it does not stand the two are one
pub record IsStep {A : Type 0} (add : A → List ℕ → Result A FieldKind) (values : Option (List ℕ)) (lengths : List ℕ) (now next : A) (field : Field) : Type 0 where
  pub absent : slice_index lengths (field_number field) ≡ 0 → next ≡ now
  pub present : slice_index lengths (field_number field) ≢ 0
      → add now (item_text values field (slice_index lengths (field_number field))) ≡ Ok next

pub items_again : {A : Type 0} (add : A → List ℕ → Result A FieldKind) (values : Option (List ℕ)) (lengths : List ℕ) (state : ℕ → A)
    → ((field : Field) → IsStep add values lengths (state (field_number field)) (state (suc (field_number field))) field)
    → (k : ℕ) (fields : List Field) → map field_number fields ≡ range_with_len k (length fields) → (place : ℕ)
    → with_items add place (state k) (item_texts values lengths fields) ≡ Ok (state (k + length fields))
items_again add values lengths state steps k [] numbered place = let e : k + 0 ≡ k = omega arith in rw e refl
items_again add values lengths state steps k (field ∷ fields) numbered place =
    let n : ℕ = slice_index lengths (field_number field) in
    let one : k + 1 ≡ suc k = omega arith in
    let count : k + length (field ∷ fields) ≡ suc k + length fields = omega arith in
    let step : IsStep add values lengths (state k) (state (suc k)) field =
    subst (λ m. IsStep add values lengths (state m) (state (suc m)) field) (ap (λ ns. get_or ns 0 0) numbered) (steps field) in
    let later : (place : ℕ) → with_items add place (state (suc k)) (item_texts values lengths fields) ≡ Ok (state (suc k + length fields)) =
    items_again add values lengths state steps (suc k) fields
    (subst (λ m. map field_number fields ≡ range_with_len m (length fields)) one (ap (drop 1) numbered)) in
    ⊎_elim
    (λ (e : n ≡ 0). let t : (n == 0) ≡ true = eq-eqb n 0 e in rw (t, count, ← step.absent e) (later place))
    (λ (ne : n ≢ 0).
    let t : (n == 0) ≡ false = ne_eqb n 0 ne in
    rw (t, step.present ne, count) (later (place + (length (item_text values field n) + 1))))
    (cases_eq n 0)

-- ---- steps that gave a value

pub ok_bind : {A B E : Type 0} (o : Option A) (e : E) (f : A → Result B E) (y : B) → (ok_or o e >>= f) ≡ Ok y → (x : A) × (o ≡ Some x) × (f x ≡ Ok y)
ok_bind None e f y h = absurd (let wrong : ⊥ = cc in wrong)
ok_bind (Some x) e f y h = (x, refl, h)

pub fresh_bind : {B : Type 0} (lengths : List ℕ) (field : Field) (f : Field → Result B FieldKind) (y : B) → (fresh_field lengths field >>= f) ≡ Ok y
    → (slice_index lengths (field_number field) ≡ 0) × (f field ≡ Ok y)
fresh_bind lengths field f y h =
    ⊎_elim
    (λ (e : slice_index lengths (field_number field) ≡ 0).
    let t : (slice_index lengths (field_number field) == 0) ≡ true = eq-eqb (slice_index lengths (field_number field)) 0 e in (e, rw t at h))
    (λ (ne : slice_index lengths (field_number field) ≢ 0).
    let t : (slice_index lengths (field_number field) == 0) ≡ false = ne_eqb (slice_index lengths (field_number field)) 0 ne in
    let wrong : (Err RepeatedField >>= f) ≡ Ok y = rw t at h in
    absurd (let bad : ⊥ = cc in bad))
    (cases_eq (slice_index lengths (field_number field)) 0)

pub place_bind : {A B : Type 0} (place : ℕ) (r : Result A FieldKind) (f : A → Result B FieldFault) (y : B) → (at_place place r >>= f) ≡ Ok y
    → (x : A) × (r ≡ Ok x) × (f x ≡ Ok y)
place_bind place (Ok x) f y h = (x, refl, h)
place_bind place (Err e) f y h = absurd (let wrong : ⊥ = cc in wrong)

-- what holds behind each item that is read holds behind them all
pub items_leave : {A : Type 0} (add : A → List ℕ → Result A FieldKind) (P Q : A → Type 0)
    → ((found next : A) (item : List ℕ) → P found → add found item ≡ Ok next → P next × Q next)
    → (place : ℕ) (found whole : A) (item : List ℕ) (items : List (List ℕ)) → P found
    → with_items add place found (item ∷ items) ≡ Ok whole → Q whole
items_leave {A} add P Q each place found whole item [] before h =
    let f : A → Result A FieldFault = λ next. Ok next in
    let read = place_bind place (add found item) f whole h in
    let same : read.0 ≡ whole = cc read.2 in
    subst Q same (each found read.0 item before read.1).1
items_leave {A} add P Q each place found whole item (next ∷ items) before h =
    let f : A → Result A FieldFault = λ after. with_items add (place + (length item + 1)) after (next ∷ items) in
    let read = place_bind place (add found item) f whole h in
    items_leave add P Q each (place + (length item + 1)) read.0 whole next items (each found read.0 item before read.1).0 read.2

-- and behind those of a text
pub text_leaves : {A : Type 0} (add : A → List ℕ → Result A FieldKind) (P Q : A → Type 0)
    → ((found next : A) (item : List ℕ) → P found → add found item ≡ Ok next → P next × Q next)
    → (text : List ℕ) (none whole : A) → P none → with_items add 0 none (parts 44 text) ≡ Ok whole → Q whole
text_leaves add P Q each text none whole before h =
    items_leave add P Q each 0 none whole (front (λ b. b == 44) text) (parts_behind 44 (back (λ b. b == 44) text)) before (rw (parts_first 44 text) at h)
