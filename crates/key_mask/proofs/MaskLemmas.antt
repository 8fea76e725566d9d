-- What the bytes of a mask are, and how they are written field by field.
use Rattle.std.proofs.Common.{◌≡◌, ◌≢◌, ℕ, ◌+◌, ◌-◌, ◌<◌, ◌≤◌, IsTrue, slice_index, set, subst, ⊎_elim, List, [], ◌∷◌, ◌++◌, length, take, drop, get_or, refl, ap, ap₂, sym, ◌∙◌, arith, length-append}
use Rattle.std.specs.List.{flat_map, sum_by}
use Rattle.std.proofs.lemmas.Bool.{cases_eq}
use Rattle.std.proofs.lemmas.List.{length-take, length-drop, take_more, take_all, append-nil, length-set, get_or-set_same, get_or-set_other}
use Rattle.std.proofs.lemmas.List.Concat.{flat_map-append}
use Rattle.std.proofs.lemmas.List.FromFn.{length-map-range_with_len}
use Rattle.std.proofs.lemmas.List.Sums.{sum_by_more, sum_by_more_le}
use Rattle.std.proofs.lemmas.Slice.{take-put_mid}
use borrow.Rule.Slice.PartMut.{put_mid}
use Rattle.key_mask.specs.declared.fields.Field.{Field}
use Rattle.key_mask.specs.declared.fields.Field.TheVariants.{SrcIp}
use Rattle.key_mask.specs.declared.fields.TheConstants.{KEY_BYTES}
use Rattle.key_mask.specs.Fields.{field_number, size_of, is_length}
use Rattle.key_mask.proofs.FieldLemmas.{each_equal, number_below, same_field}
use Rattle.key_mask.specs.Masks.{mask_bytes_of, field_bytes, prefix_byte, prefix_bytes, no_lengths, AreLengths}

pub length-mask_bytes_of : (lengths : List ℕ) → length (mask_bytes_of lengths) ≡ KEY_BYTES
unfolding mask_bytes_of
length-mask_bytes_of lengths = refl

-- the first `start` bytes are those of the first i fields
pub record AreWritten (fields : List Field) (lengths bytes : List ℕ) (start i : ℕ) : Type 0 where
  pub long : length bytes ≡ sum_by size_of fields
  pub place : start ≡ sum_by size_of (take i fields)
  pub done : take start bytes ≡ flat_map (field_bytes lengths) (take i fields)

-- the bytes of one field more
pub written_more : (fields : List Field) (lengths bytes here : List ℕ) (start i size : ℕ)
    → AreWritten fields lengths bytes start i → i < length fields → size ≡ size_of (get_or fields i SrcIp)
    → here ≡ prefix_bytes (get_or lengths (field_number (get_or fields i SrcIp)) 0) (length (take (start + size - start) (drop start bytes)))
    → AreWritten fields lengths (put_mid start (start + size - start) bytes here) (start + size) (i + 1)
written_more fields lengths bytes here start i size before h count made =
    let field : Field = get_or fields i SrcIp in
    let fits : start + size ≤ length bytes = omega (arith, before.place, before.long, count, sum_by_more_le size_of fields i SrcIp h) in
    let span : length (take (start + size - start) (drop start bytes)) ≡ size = simp (length-take, length-drop) (omega arith) in
    let sized : here ≡ prefix_bytes (get_or lengths (field_number field) 0) size =
    made ∙ ap (prefix_bytes (get_or lengths (field_number field) 0)) span in
    let whole : length here ≡ size = ap length sized ∙ length-map-range_with_len (prefix_byte (get_or lengths (field_number field) 0)) 0 size in
    let written : here ≡ field_bytes lengths field =
    sized ∙ ap (prefix_bytes (get_or lengths (field_number field) 0)) count in
    let more : take (i + 1) fields ≡ take i fields ++ field ∷ [] = take_more fields i SrcIp h in
    record {
      long = simp (length-append, length-take, length-drop) (omega (arith, before.long));
      place = omega (arith, before.place, count, sum_by_more size_of fields i SrcIp h);
      done = take-put_mid start (start + size - start) bytes here (start + size) (omega arith) (omega arith)
          ∙ ap₂ (λ xs ys. xs ++ ys) before.done written
          ∙ sym (ap (flat_map (field_bytes lengths)) more
          ∙ flat_map-append (field_bytes lengths) (take i fields) (field ∷ [])
          ∙ ap (λ ys. flat_map (field_bytes lengths) (take i fields) ++ ys) (append-nil (field_bytes lengths field)));
    }

-- the bytes of all
pub written_all : (fields : List Field) (lengths bytes : List ℕ) (start i : ℕ)
    → AreWritten fields lengths bytes start i → length fields ≤ i → bytes ≡ flat_map (field_bytes lengths) fields
written_all fields lengths bytes start i written past =
    let all : take i fields ≡ fields = take_all i fields past in
    let whole : length bytes ≤ start = omega (arith, written.long, written.place, ap (sum_by size_of) all) in
    sym (take_all start bytes whole) ∙ written.done ∙ ap (flat_map (field_bytes lengths)) all

-- ---- the lengths of a mask

pub none_stands : (field : Field) → slice_index no_lengths (field_number field) ≡ 0
none_stands = each_equal (λ field. slice_index no_lengths (field_number field)) (λ field. 0) refl

pub none_allowed : AreLengths no_lengths
none_allowed = record { whole = refl; allowed = λ field some. absurd (some (none_stands field)) }

-- one field's length more
pub set_allowed : (lengths : List ℕ) (field : Field) (prefix : ℕ) → AreLengths lengths → IsTrue (is_length field prefix)
    → AreLengths (set lengths (field_number field) prefix)
set_allowed lengths field prefix known fits =
    let below : field_number field < length lengths = omega (arith, number_below field, known.whole) in
    record {
      whole = length-set lengths (field_number field) prefix ∙ known.whole;
      allowed = λ other. ⊎_elim
          (λ (e : field_number field ≡ field_number other).
          subst (λ f. get_or (set lengths (field_number field) prefix) (field_number f) 0 ≢ 0 → IsTrue (is_length f (get_or (set lengths (field_number field) prefix) (field_number f) 0))) (same_field field other e)
          (λ some. rw (get_or-set_same lengths (field_number field) prefix 0 below) fits))
          (λ (ne : field_number field ≢ field_number other).
          let same : get_or (set lengths (field_number field) prefix) (field_number other) 0 ≡ get_or lengths (field_number other) 0 =
          get_or-set_other lengths (field_number field) (field_number other) prefix 0 (λ e. ne (sym e)) in
          rw same (known.allowed other))
          (cases_eq (field_number field) (field_number other));
    }
