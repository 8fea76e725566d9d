-- The texts of the grammar are those that are read.
use Rattle.std.proofs.Common.{◌≡◌, ℕ, zero, suc, ◌+◌, ◌-◌, ◌*◌, ◌<◌, ◌≤◌, ◌==◌, ◌&&◌, Bool, true, false, not, cond, ltb, List, [], ◌∷◌, ◌++◌, length, take, drop, replicate, slice_index, Option, None, Some, eqb-true, refl, sym, ap, ◌∙◌, subst, arith, append-nil, append_assoc, length-append, inl, inr, ◌⊎◌, if◌then◌else◌}
use Rattle.std.specs.List.{join_with_byte}
use Rattle.std.proofs.lemmas.Bool.{false≢true, ne_eqb, and_parts}
use Rattle.std.proofs.lemmas.Option.{cond_some}
use Rattle.std.proofs.lemmas.List.Splits.{join_with_byte-slice_split}
use Rattle.std.proofs.Math.Seq.{take-append_seam}
use Rattle.texts.specs.Cuts.{parts}
use Rattle.texts.proofs.CutLemmas.{free_of, split_last, split_more}
use Rattle.key_mask.specs.Numbers.{◌>>=◌, hex_digit_in}
use Rattle.key_mask.specs.Ipv6.{hex_after, group_in, groups_in, side_in, double_from, full_in, sides_in, eight_groups_at, eight_groups_in}
use Rattle.key_mask.specs.Ipv6Grammar.{AreGroups, IsFull, IsShort}
use Rattle.key_mask.specs.Laws.{AddressesAreRead, NoOthersAreAddresses}

abbrev is_colon : ℕ → Bool
is_colon b = b == 58

abbrev bind : {A B : Type 0} → Option A → (A → Option B) → Option B
bind o f = o >>= f

-- what a step that gave a value began with
pub some_bind : {A B : Type 0} (o : Option A) (f : A → Option B) (y : B) → (o >>= f) ≡ Some y → (x : A) × (o ≡ Some x) × (f x ≡ Some y)
some_bind (Some x) f y h = (x, refl, h)
some_bind None f y h = let wrong : ⊥ = cc in absurd wrong

-- ---- a group has digits, and no separator

no_digit : (c d : ℕ) → hex_digit_in c ≡ Some d → is_colon c ≡ false
no_digit c d h =
    elim (is_colon c) as (λ t. is_colon c ≡ t → t ≡ false) [
      | true ↦ λ e. let same : c ≡ 58 = eqb-true c 58 e in let wrong : None ≡ Some d = rw same at h in absurd (let bad : ⊥ = cc in bad)
      | false ↦ λ e. refl
    ] refl

hex_free : (n g : ℕ) (cs : List ℕ) → hex_after n cs ≡ Some g → free_of is_colon cs ≡ true
hex_free n g [] h = refl
hex_free n g (c ∷ cs) h =
    let f : ℕ → Option ℕ = λ d. hex_after (n * 16 + d) cs in
    let step = some_bind (hex_digit_in c) f g h in
    rw (no_digit c step.0 step.1) (hex_free (n * 16 + step.0) g cs step.2)

pub record IsPiece (text : List ℕ) : Type 0 where
  pub some : 0 < length text
  pub free : free_of is_colon text ≡ true

piece : (text : List ℕ) (g : ℕ) → group_in text ≡ Some g → IsPiece text
unfolding group_in
piece [] g h = let wrong : ⊥ = cc in absurd wrong
piece (c ∷ cs) g h =
    let some : (length (c ∷ cs) == 0) ≡ false = ne_eqb (length (c ∷ cs)) 0 (λ e. omega arith) in
    record {
      some = omega arith;
      free = elim (ltb 4 (length (c ∷ cs))) as (λ t. cond t None (hex_after 0 (c ∷ cs)) ≡ Some g → free_of is_colon (c ∷ cs) ≡ true) [
        | true ↦ λ e. absurd (let bad : ⊥ = cc in bad)
        | false ↦ λ e. hex_free 0 g (c ∷ cs) e
      ] (rw some at h);
    }

abbrev pub ArePieces : List (List ℕ) → Type 0
ArePieces [] = Unit {0}
ArePieces (x ∷ xs) = IsPiece x × ArePieces xs

pub pieces : (texts : List (List ℕ)) (groups : List ℕ) → AreGroups texts groups → ArePieces texts
pieces [] groups h = tt
pieces (text ∷ texts) [] h = absurd h
pieces (text ∷ texts) (group ∷ groups) h = (piece text group h.0, pieces texts groups h.1)

-- ---- lists of groups

groups_are_read : (n : ℕ) (texts : List (List ℕ)) (groups : List ℕ) → AreGroups texts groups → length groups ≤ n → groups_in n texts ≡ Some groups
unfolding groups_in
groups_are_read zero [] [] h few = refl
groups_are_read (suc n) [] [] h few = refl
groups_are_read n [] (group ∷ groups) h few = absurd h
groups_are_read n (text ∷ texts) [] h few = absurd h
groups_are_read zero (text ∷ texts) (group ∷ groups) h few = absurd (omega arith)
groups_are_read (suc n) (text ∷ texts) (group ∷ groups) h few = rw (h.0, groups_are_read n texts groups h.1 (omega arith)) refl

record AreRead (n : ℕ) (texts : List (List ℕ)) (groups : List ℕ) : Type 0 where
  each : AreGroups texts groups
  few : length groups ≤ n

read_are_groups : (n : ℕ) (texts : List (List ℕ)) (groups : List ℕ) → groups_in n texts ≡ Some groups → AreRead n texts groups
unfolding groups_in
read_are_groups zero [] [] h = record { each = tt; few = omega arith }
read_are_groups (suc n) [] [] h = record { each = tt; few = omega arith }
read_are_groups zero [] (group ∷ groups) h = let wrong : ⊥ = cc in absurd wrong
read_are_groups (suc n) [] (group ∷ groups) h = let wrong : ⊥ = cc in absurd wrong
read_are_groups zero (text ∷ texts) groups h = let wrong : ⊥ = cc in absurd wrong
read_are_groups (suc n) (text ∷ texts) groups h =
    let last : ℕ → List ℕ → Option (List ℕ) = λ group more. Some (group ∷ more) in
    let second : ℕ → Option (List ℕ) = λ group. groups_in n texts >>= last group in
    let one = some_bind (group_in text) second groups h in
    let two = some_bind (groups_in n texts) (last one.0) groups one.2 in
    let more = read_are_groups n texts two.0 two.1 in
    let same : one.0 ∷ two.0 ≡ groups = cc two.2 in
    subst (λ (gs : List ℕ). AreRead (suc n) (text ∷ texts) gs) same (record { each = (one.1, more.each); few = omega (arith, more.few) })

-- ---- pieces with separators between

pub parts_of_join : (x : List ℕ) (xs : List (List ℕ)) → ArePieces (x ∷ xs) → parts 58 (join_with_byte 58 (x ∷ xs)) ≡ x ∷ xs
parts_of_join x [] h = split_last is_colon x (h.0).free
parts_of_join x (y ∷ xs) h = split_more is_colon x 58 (join_with_byte 58 (y ∷ xs)) (h.0).free refl ∙ ap (λ rest. x ∷ rest) (parts_of_join y xs h.1)

-- bytes that are no separator are passed
passed : (k : ℕ) (xs rest : List ℕ) → free_of is_colon xs ≡ true → double_from k (xs ++ rest) ≡ double_from (k + length xs) rest
passed k [] rest e = ap (λ n. double_from n rest) (omega arith)
passed k (x ∷ xs) rest e =
    elim (is_colon x) as (λ t. (not t && free_of is_colon xs) ≡ true → cond (t && slice_index (xs ++ rest) 0 == 58) (Some k) (double_from (k + 1) (xs ++ rest)) ≡ double_from (k + length (x ∷ xs)) rest) [
      | true ↦ λ e. absurd (false≢true e)
      | false ↦ λ e. passed (k + 1) xs rest e ∙ ap (λ n. double_from n rest) (omega arith)
    ] e

first_free : (xs rest : List ℕ) → IsPiece xs → (slice_index (xs ++ rest) 0 == 58) ≡ false
first_free [] rest h = absurd (omega (arith, h.some))
first_free (x ∷ xs) rest h =
    elim (is_colon x) as (λ t. (not t && free_of is_colon xs) ≡ true → t ≡ false) [
      | true ↦ λ e. absurd (false≢true e)
      | false ↦ λ e. refl
    ] h.free

begins : (x : List ℕ) (xs : List (List ℕ)) (rest : List ℕ) → IsPiece x → (slice_index (join_with_byte 58 (x ∷ xs) ++ rest) 0 == 58) ≡ false
begins x [] rest h = first_free x rest h
begins x (y ∷ xs) rest h = rw (append_assoc x (58 ∷ join_with_byte 58 (y ∷ xs)) rest) (first_free x ((58 ∷ join_with_byte 58 (y ∷ xs)) ++ rest) h)

-- all pieces are passed, with the separators between
all_passed : (k : ℕ) (x : List ℕ) (xs : List (List ℕ)) (rest : List ℕ) → ArePieces (x ∷ xs) → double_from k (join_with_byte 58 (x ∷ xs) ++ rest) ≡ double_from (k + length (join_with_byte 58 (x ∷ xs))) rest
all_passed k x [] rest h = passed k x rest (h.0).free
all_passed k x (y ∷ xs) rest h =
    let more : List ℕ = join_with_byte 58 (y ∷ xs) in
    let next : double_from (k + length x) ((58 ∷ more) ++ rest) ≡ double_from (k + length x + 1 + length more) rest =
    rw (begins y xs rest (h.1).0) (all_passed (k + length x + 1) y xs rest h.1) in
    let count : k + length x + 1 + length more ≡ k + length (x ++ (58 ∷ more)) = omega (arith, length-append x (58 ∷ more)) in
    rw (append_assoc x (58 ∷ more) rest) (passed k x ((58 ∷ more) ++ rest) (h.0).free ∙ next ∙ ap (λ (n : ℕ). double_from n rest) count)

double_of_sides : (before : List (List ℕ)) (rest : List ℕ) → ArePieces before → double_from 0 (join_with_byte 58 before ++ (58 ∷ 58 ∷ rest)) ≡ Some (length (join_with_byte 58 before))
double_of_sides [] rest h = refl
double_of_sides (x ∷ xs) rest h = all_passed 0 x xs (58 ∷ 58 ∷ rest) h ∙ ap Some (omega arith)

pub no_double : (x : List ℕ) (xs : List (List ℕ)) → ArePieces (x ∷ xs) → double_from 0 (join_with_byte 58 (x ∷ xs)) ≡ None
no_double x xs h = rw (← append-nil (join_with_byte 58 (x ∷ xs))) (all_passed 0 x xs [] h)

join_some : (x : List ℕ) (xs : List (List ℕ)) → IsPiece x → 0 < length (join_with_byte 58 (x ∷ xs))
join_some x [] h = h.some
join_some x (y ∷ xs) h = omega (arith, h.some, length-append x (58 ∷ join_with_byte 58 (y ∷ xs)))

side_is_read : (n : ℕ) (texts : List (List ℕ)) (groups : List ℕ) → AreGroups texts groups → length groups ≤ n → side_in n (join_with_byte 58 texts) ≡ Some groups
unfolding side_in
side_is_read n [] [] h few = refl
side_is_read n [] (group ∷ groups) h few = absurd h
side_is_read n (text ∷ texts) groups h few =
    let all = pieces (text ∷ texts) groups h in
    let some : (length (join_with_byte 58 (text ∷ texts)) == 0) ≡ false = ne_eqb (length (join_with_byte 58 (text ∷ texts))) 0 (λ e. omega (arith, join_some text texts all.0)) in
    rw (some, parts_of_join text texts all) (groups_are_read n (text ∷ texts) groups h few)

-- ---- what is in the grammar is read

full_texts : (texts : List (List ℕ)) (groups : List ℕ) → AreGroups texts groups → length groups ≡ 8 → eight_groups_in (join_with_byte 58 texts) ≡ Some groups
unfolding eight_groups_in full_in
full_texts [] [] h long = absurd (omega arith)
full_texts [] (group ∷ groups) h long = absurd h
full_texts (text ∷ texts) groups h long =
    let all = pieces (text ∷ texts) groups h in
    rw (no_double text texts all, parts_of_join text texts all, groups_are_read 8 (text ∷ texts) groups h (omega (arith, long)), long) refl

drop_two : (xs ys : List ℕ) → drop (length xs + 2) (xs ++ (58 ∷ 58 ∷ ys)) ≡ ys
drop_two [] ys = refl
drop_two (x ∷ xs) ys = let e : length (x ∷ xs) + 2 ≡ suc (length xs + 2) = omega arith in rw e (drop_two xs ys)

short_texts : (text groups : List ℕ) → IsShort text groups → eight_groups_in text ≡ Some groups
unfolding eight_groups_in sides_in
short_texts text groups h =
    let front : List ℕ = join_with_byte 58 h.before in
    let rest : List ℕ = join_with_byte 58 h.behind in
    rw (
      h.text_is,
      double_of_sides h.before rest (pieces h.before h.left h.each_left),
      take-append_seam front (58 ∷ 58 ∷ rest),
      drop_two front rest,
      side_is_read 7 h.before h.left h.each_left (omega (arith, h.few)),
      side_is_read (7 - length h.left) h.behind h.right h.each_right (omega (arith, h.few)),
      h.groups_are,
    ) refl

pub addresses_are_read : AddressesAreRead
addresses_are_read text groups (inl full) = rw full.text_is (full_texts full.texts groups full.each full.eight)
addresses_are_read text groups (inr short) = short_texts text groups short

-- ---- what is read is in the grammar

record IsSide (n : ℕ) (text groups : List ℕ) : Type 0 where
  texts : List (List ℕ)
  each : AreGroups texts groups
  few : length groups ≤ n
  text_is : text ≡ join_with_byte 58 texts

side_in_grammar : (n : ℕ) (text groups : List ℕ) → side_in n text ≡ Some groups → IsSide n text groups
unfolding side_in
side_in_grammar n [] [] h = record { texts = []; each = tt; few = omega arith; text_is = refl }
side_in_grammar n [] (group ∷ groups) h = let wrong : ⊥ = cc in absurd wrong
side_in_grammar n (b ∷ bs) groups h =
    let some : (length (b ∷ bs) == 0) ≡ false = ne_eqb (length (b ∷ bs)) 0 (λ e. omega arith) in
    let read = read_are_groups n (parts 58 (b ∷ bs)) groups (rw some at h) in
    record { texts = parts 58 (b ∷ bs); each = read.each; few = read.few; text_is = sym (join_with_byte-slice_split 58 (b ∷ bs)) }

record IsDouble (k at : ℕ) (text : List ℕ) : Type 0 where
  place : ℕ
  place_is : at ≡ k + place
  text_is : text ≡ take place text ++ (58 ∷ 58 ∷ drop (place + 2) text)

double_here : (k at b : ℕ) (bs : List ℕ) → is_colon b ≡ true → is_colon (slice_index bs 0) ≡ true → Some k ≡ Some at → IsDouble k at (b ∷ bs)
double_here k at b [] p q h = absurd (false≢true q)
double_here k at b (c ∷ cs) p q h =
    let one : b ≡ 58 = eqb-true b 58 p in
    let two : c ≡ 58 = eqb-true c 58 q in
    let same : k ≡ at = cc h in
    record { place = 0; place_is = omega arith; text_is = rw (one, two) refl }

double_found : (k at : ℕ) (text : List ℕ) → double_from k text ≡ Some at → IsDouble k at text
double_found k at [] h = let wrong : ⊥ = cc in absurd wrong
double_found k at (b ∷ bs) h =
    elim (is_colon b && is_colon (slice_index bs 0)) as (λ t. (is_colon b && is_colon (slice_index bs 0)) ≡ t → cond t (Some k) (double_from (k + 1) bs) ≡ Some at → IsDouble k at (b ∷ bs)) [
      | true ↦ λ t e. let both = and_parts (is_colon b) (is_colon (slice_index bs 0)) t in double_here k at b bs both.0 both.1 e
      | false ↦ λ t e.
          let more = double_found (k + 1) at bs e in
          let place : ℕ = more.place in
          let next : suc place + 2 ≡ suc (place + 2) = omega arith in
          record { place = suc place; place_is = omega (arith, more.place_is); text_is = rw next (ap (λ t. b ∷ t) more.text_is) }
    ] refl h

-- the parts of a text that is read without `::` are its groups
pub full_parts : (text groups : List ℕ) → full_in text ≡ Some groups → AreGroups (parts 58 text) groups × (length groups ≡ 8)
unfolding full_in
full_parts text groups h =
    let f : List ℕ → Option (List ℕ) = λ found. if length found == 8 then Some found else None in
    let step = some_bind (groups_in 8 (parts 58 text)) f groups h in
    let found : List ℕ = step.0 in
    let last = cond_some (length found == 8) found groups step.2 in
    let read = read_are_groups 8 (parts 58 text) found step.1 in
    subst (λ (gs : List ℕ). AreGroups (parts 58 text) gs × (length gs ≡ 8)) last.1 (read.each, eqb-true (length found) 8 last.0)

full_in_grammar : (text groups : List ℕ) → full_in text ≡ Some groups → IsFull text groups
full_in_grammar text groups h =
    let read = full_parts text groups h in
    record { texts = parts 58 text; each = read.0; eight = read.1; text_is = sym (join_with_byte-slice_split 58 text) }

sides_in_grammar : (text before behind groups : List ℕ) → text ≡ before ++ (58 ∷ 58 ∷ behind) → sides_in before behind ≡ Some groups → IsShort text groups
unfolding sides_in
sides_in_grammar text before behind groups cut h =
    let last : List ℕ → List ℕ → Option (List ℕ) = λ left right. Some (left ++ (replicate (8 - length left - length right) 0 ++ right)) in
    let second : List ℕ → Option (List ℕ) = λ left. side_in (7 - length left) behind >>= last left in
    let one = some_bind (side_in 7 before) second groups h in
    let left : List ℕ = one.0 in
    let two = some_bind (side_in (7 - length left) behind) (last left) groups one.2 in
    let right : List ℕ = two.0 in
    let ahead = side_in_grammar 7 before left one.1 in
    let rest = side_in_grammar (7 - length left) behind right two.1 in
    record {
      before = ahead.texts;
      behind = rest.texts;
      left = left;
      right = right;
      each_left = ahead.each;
      each_right = rest.each;
      few = omega (arith, ahead.few, rest.few);
      text_is = rw (← ahead.text_is, ← rest.text_is) cut;
      groups_are = cc two.2;
    }

others : (text groups : List ℕ) (o : Option ℕ) → double_from 0 text ≡ o → eight_groups_at text o ≡ Some groups → IsFull text groups ⊎ IsShort text groups
others text groups None e h = inl (full_in_grammar text groups h)
others text groups (Some at) e h =
    let found = double_found 0 at text e in
    let place : found.place ≡ at = omega (arith, found.place_is) in
    inr (sides_in_grammar text (take at text) (drop (at + 2) text) groups (rw place at found.text_is) h)

pub no_others_are_addresses : NoOthersAreAddresses
unfolding eight_groups_in
no_others_are_addresses text groups h = others text groups (double_from 0 text) refl h
