-- The bytes of a filter's value, and those of its fields.
use Rattle.std.proofs.Common.{◌≡◌, ℕ, zero, suc, ◌+◌, ◌-◌, ◌*◌, ◌/◌, ◌^◌, ◌<◌, ◌≤◌, Bool, true, false, ◌&&◌, nat_lt, List, [], ◌∷◌, length, map, take, drop, replicate, slice_index, get_or, min, bit_and, refl, ap, sym, ◌∙◌, arith, subst}
use Rattle.std.specs.Int.Bits.{and_zero_r}
use Rattle.std.specs.List.{flat_map, list_all, range_with_len}
use Rattle.std.proofs.lemmas.Bool.{false≢true}
use Rattle.std.proofs.lemmas.Bool.Decides.{nat_tests}
use Rattle.std.proofs.lemmas.List.{get_or_default, length-take, length-drop}
use Rattle.std.proofs.lemmas.List.Folds.{list_all-append}
use Rattle.std.proofs.lemmas.Nat.{and_le_r}
use Rattle.std.specs.Str.{bytes_eq}
use Rattle.std.proofs.lemmas.Slice.Eq.{bytes_eq-Decides}
use Rattle.key_mask.specs.declared.fields.Field.{Field}
use Rattle.key_mask.specs.declared.fields.Field.TheVariants.{SrcIp, DstIp, SrcPort, DstPort, Proto, Tos, EtherType, SrcIp6, DstIp6}
use Rattle.key_mask.proofs.FieldLemmas.{each_equal, each_field, each_within}
use Rattle.key_mask.specs.Bytes.{bytewise, and_bytes}
use Rattle.key_mask.specs.Fields.{fields, field_number, size_of, start_of, width_of}
use Rattle.key_mask.specs.Masks.{field_bytes, mask_bytes_of, prefix_byte, prefix_bytes}
use Rattle.key_mask.specs.Vectors.{big_endian, bytes_at, value_at}
use Rattle.key_mask.proofs.BytesLemmas.{get_or-and_bytes}
use Rattle.key_mask.proofs.NumberLemmas.{each_below}
use Rattle.key_mask.proofs.VectorLemmas.{AreBytes, big_endian_small}
use Rattle.task_filters.specs.Filters.{Pattern, IsFilter, IsKept, IsVector}

-- ---- the bytes of a value under a mask are bytes

prefix_byte_small : (length at : ℕ) → nat_lt (prefix_byte length at) 256 ≡ true
prefix_byte_small length at = each_below (λ k. nat_lt (256 - 256 / 2 ^ k) 256) 9 refl (min 8 (length - 8 * at)) (omega arith)

all_map : (p : ℕ → Bool) (f : ℕ → ℕ) → ((x : ℕ) → p (f x) ≡ true) → (xs : List ℕ) → list_all p (map f xs) ≡ true
all_map p f each [] = refl
all_map p f each (x ∷ xs) = rw (each x) (all_map p f each xs)

mask_all : (lengths : List ℕ) (fields : List Field) → list_all (λ b. nat_lt b 256) (flat_map (field_bytes lengths) fields) ≡ true
mask_all lengths [] = refl
mask_all lengths (field ∷ fields) =
    list_all-append (λ b. nat_lt b 256) (field_bytes lengths field) (flat_map (field_bytes lengths) fields)
    ∙ rw (
      all_map (λ b. nat_lt b 256) (prefix_byte (slice_index lengths (field_number field))) (prefix_byte_small (slice_index lengths (field_number field)))
          (range_with_len 0 (size_of field)),
      mask_all lengths fields,
    )
    refl

get_small : (xs : List ℕ) → list_all (λ b. nat_lt b 256) xs ≡ true → (i : ℕ) → get_or xs i 0 < 256
get_small [] e i = omega arith
get_small (x ∷ xs) e zero =
    elim (nat_lt x 256) as (λ t. nat_lt x 256 ≡ t → (t && list_all (λ b. nat_lt b 256) xs) ≡ true → x < 256) [
      | true ↦ λ t e. grind (arith, nat_tests, t)
      | false ↦ λ t e. absurd (false≢true e)
    ] refl e
get_small (x ∷ xs) e (suc i) =
    elim (nat_lt x 256) as (λ t. (t && list_all (λ b. nat_lt b 256) xs) ≡ true → get_or xs i 0 < 256) [
      | true ↦ λ e. get_small xs e i
      | false ↦ λ e. absurd (false≢true e)
    ] e

mask_small : (lengths : List ℕ) (i : ℕ) → get_or (mask_bytes_of lengths) i 0 < 256
unfolding mask_bytes_of
mask_small lengths i = get_small (flat_map (field_bytes lengths) fields) (mask_all lengths fields) i

pub value_small : (pattern : Pattern) → IsKept pattern → (i : ℕ) → get_or pattern.value i 0 < 256
value_small pattern kept i =
    let byte : get_or pattern.value i 0 ≡ bit_and (get_or pattern.value i 0) (get_or (mask_bytes_of pattern.mask) i 0) =
    sym (ap (λ bytes. get_or bytes i 0) kept) ∙ get_or-and_bytes pattern.value (mask_bytes_of pattern.mask) i in
    omega (arith, byte, and_le_r (get_or pattern.value i 0) (get_or (mask_bytes_of pattern.mask) i 0), mask_small pattern.mask i)

pub is_vector : (pattern : Pattern) → IsFilter pattern → IsVector pattern.value
is_vector pattern filter = record {
  long = filter.long;
  bytes = λ k d h. rw (get_or_default pattern.value k d 0 h) (value_small pattern filter.kept k);
}

-- ---- the bytes of a field

are_bytes : (xs : List ℕ) → ((i : ℕ) → get_or xs i 0 < 256) → AreBytes xs
are_bytes [] small = tt
are_bytes (x ∷ xs) small = (small 0, are_bytes xs (λ i. small (suc i)))

drop_small : (k : ℕ) (xs : List ℕ) → ((i : ℕ) → get_or xs i 0 < 256) → (i : ℕ) → get_or (drop k xs) i 0 < 256
drop_small zero xs small i = small i
drop_small (suc k) [] small i = small i
drop_small (suc k) (x ∷ xs) small i = drop_small k xs (λ i. small (suc i)) i

take_small : (k : ℕ) (xs : List ℕ) → ((i : ℕ) → get_or xs i 0 < 256) → (i : ℕ) → get_or (take k xs) i 0 < 256
take_small zero xs small i = omega arith
take_small (suc k) [] small i = omega arith
take_small (suc k) (x ∷ xs) small zero = small 0
take_small (suc k) (x ∷ xs) small (suc i) = take_small k xs (λ i. small (suc i)) i

pub inside : (field : Field) → start_of field + size_of field ≤ 48
inside = each_within (λ field. start_of field + size_of field) (λ field. 48) refl

pub length-bytes_at : (bytes : List ℕ) (field : Field) → length bytes ≡ 48 → length (bytes_at bytes field) ≡ size_of field
length-bytes_at bytes field long = simp (length-take, length-drop) (omega (arith, inside field, long))

pub field_small : (bytes : List ℕ) (field : Field) → ((i : ℕ) → get_or bytes i 0 < 256) → AreBytes (bytes_at bytes field)
field_small bytes field small =
    are_bytes (bytes_at bytes field)
    (take_small (start_of field + size_of field - start_of field) (drop (start_of field) bytes) (drop_small (start_of field) bytes small))

pub widths : (field : Field) → 256 ^ size_of field ≡ 2 ^ width_of field
widths = each_equal (λ field. 256 ^ size_of field) (λ field. 2 ^ width_of field) refl

pub value_fits : (bytes : List ℕ) (field : Field) → length bytes ≡ 48 → ((i : ℕ) → get_or bytes i 0 < 256) → value_at bytes field < 2 ^ width_of field
unfolding value_at
value_fits bytes field long small =
    let same : 256 ^ length (bytes_at bytes field) ≡ 2 ^ width_of field = ap (λ n. 256 ^ n) (length-bytes_at bytes field long) ∙ widths field in
    subst (λ m. big_endian (bytes_at bytes field) < m) same (big_endian_small (bytes_at bytes field) (field_small bytes field small))

-- ---- what a mask leaves of a field

bytewise_none : (f : ℕ → ℕ → ℕ) (xs : List ℕ) → bytewise f xs [] ≡ []
bytewise_none f [] = refl
bytewise_none f (x ∷ xs) = refl

drop-bytewise : (f : ℕ → ℕ → ℕ) (k : ℕ) (xs ys : List ℕ) → drop k (bytewise f xs ys) ≡ bytewise f (drop k xs) (drop k ys)
drop-bytewise f zero xs ys = refl
drop-bytewise f (suc k) [] ys = refl
drop-bytewise f (suc k) (x ∷ xs) [] = sym (bytewise_none f (drop k xs))
drop-bytewise f (suc k) (x ∷ xs) (y ∷ ys) = drop-bytewise f k xs ys

take-bytewise : (f : ℕ → ℕ → ℕ) (k : ℕ) (xs ys : List ℕ) → take k (bytewise f xs ys) ≡ bytewise f (take k xs) (take k ys)
take-bytewise f zero xs ys = refl
take-bytewise f (suc k) [] ys = refl
take-bytewise f (suc k) (x ∷ xs) [] = refl
take-bytewise f (suc k) (x ∷ xs) (y ∷ ys) = ap (λ zs. f x y ∷ zs) (take-bytewise f k xs ys)

pub bytes_at-and_bytes : (xs ys : List ℕ) (field : Field) → bytes_at (and_bytes xs ys) field ≡ and_bytes (bytes_at xs field) (bytes_at ys field)
bytes_at-and_bytes xs ys field =
    let count : ℕ = start_of field + size_of field - start_of field in
    ap (take count) (drop-bytewise bit_and (start_of field) xs ys)
    ∙ take-bytewise bit_and count (drop (start_of field) xs) (drop (start_of field) ys)

pub mask_at : (lengths : List ℕ) (field : Field) → bytes_at (mask_bytes_of lengths) field ≡ prefix_bytes (slice_index lengths (field_number field)) (size_of field)
unfolding mask_bytes_of
mask_at lengths SrcIp = refl
mask_at lengths DstIp = refl
mask_at lengths SrcPort = refl
mask_at lengths DstPort = refl
mask_at lengths Proto = refl
mask_at lengths Tos = refl
mask_at lengths EtherType = refl
mask_at lengths SrcIp6 = refl
mask_at lengths DstIp6 = refl

-- a filter's bytes of a field are those that the field's prefix leaves
pub field_kept : (pattern : Pattern) → IsKept pattern → (field : Field)
    → and_bytes (bytes_at pattern.value field) (prefix_bytes (slice_index pattern.mask (field_number field)) (size_of field)) ≡ bytes_at pattern.value field
field_kept pattern kept field =
    ap (and_bytes (bytes_at pattern.value field)) (sym (mask_at pattern.mask field))
    ∙ sym (bytes_at-and_bytes pattern.value (mask_bytes_of pattern.mask) field)
    ∙ ap (λ bytes. bytes_at bytes field) kept

no_prefix : (field : Field) → prefix_bytes 0 (size_of field) ≡ replicate {A = ℕ} (size_of field) 0
no_prefix field =
    (bytes_eq-Decides (prefix_bytes 0 (size_of field)) (replicate {A = ℕ} (size_of field) 0)).0
    (each_field (λ field. bytes_eq (prefix_bytes 0 (size_of field)) (replicate {A = ℕ} (size_of field) 0)) refl field)

pub and_zeros : (xs : List ℕ) (k : ℕ) → length xs ≡ k → and_bytes xs (replicate {A = ℕ} k 0) ≡ replicate {A = ℕ} k 0
and_zeros [] zero e = refl
and_zeros [] (suc k) e = absurd (omega arith)
and_zeros (x ∷ xs) zero e = absurd (omega arith)
and_zeros (x ∷ xs) (suc k) e = λ i. and_zero_r x i ∷ and_zeros xs k (omega arith) i

-- a field that does not stand in the mask has bytes of 0
pub field_absent : (pattern : Pattern) → IsFilter pattern → (field : Field) → slice_index pattern.mask (field_number field) ≡ 0
    → bytes_at pattern.value field ≡ replicate {A = ℕ} (size_of field) 0
field_absent pattern filter field none =
    sym (field_kept pattern filter.kept field)
    ∙ ap (λ n. and_bytes (bytes_at pattern.value field) (prefix_bytes n (size_of field))) none
    ∙ ap (and_bytes (bytes_at pattern.value field)) (no_prefix field)
    ∙ and_zeros (bytes_at pattern.value field) (size_of field) (length-bytes_at pattern.value field filter.long)
