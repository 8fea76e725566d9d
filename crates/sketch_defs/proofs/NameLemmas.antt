-- Names: their parts, that they are texts, and that they are kept with zeros behind.
use Rattle.std.specs.Prelude.{◌≡◌, ℕ, zero, suc, ◌<◌, ◌≤◌, ◌&&◌, Bool, true, false, nat_le, IsTrue, List, [], ◌∷◌, ◌++◌, length, take, drop, replicate, slice_index}
use Rattle.std.specs.List.{list_all}
use Rattle.std.specs.Str.{IsUtf8}
use Rattle.std.proofs.Common.{ap, ◌∙◌, refl, arith}
use Rattle.std.proofs.Math.Seq.{take-append_seam}
use Rattle.std.proofs.lemmas.Bool.{false≢true}
use Rattle.std.proofs.lemmas.Bool.Decides.{nat_tests}
use Rattle.std.proofs.lemmas.List.{drop-replicate}
use Rattle.std.proofs.lemmas.Str.{IsUtf8-from_ascii}
use Rattle.sketch_defs.specs.Names.{is_name, is_name_byte, starts_low, padded}

pub padded_again : (name : List ℕ) → take (length name) (padded name) ≡ name
unfolding padded
padded_again name = take-append_seam name _

-- a name written over the front of zeros
pub written : (name zeros : List ℕ) → zeros ≡ replicate 16 0 → name ++ drop (length name) zeros ≡ padded name
unfolding padded
written name zeros e = ap (λ rest. name ++ rest) (ap (drop (length name)) e ∙ drop-replicate (length name) 16 0)

-- ---- the parts of a name

pub both_true : (p q : Bool) → (p && q) ≡ true → (p ≡ true) × (q ≡ true)
both_true true q e = (refl, e)
both_true false q e = absurd (false≢true e)

pub name_parts : (text : List ℕ) → IsTrue (is_name text) → (starts_low text ≡ true) × ((length text ≤ 16) × (list_all is_name_byte text ≡ true))
name_parts text named =
    let outer = both_true (starts_low text && nat_le (length text) 16) (list_all is_name_byte text) named in
    let inner = both_true (starts_low text) (nat_le (length text) 16) outer.0 in
    (inner.0, (grind (arith, nat_tests, inner.1), outer.1))

pub name_short : (text : List ℕ) → IsTrue (is_name text) → length text ≤ 16
name_short text named = (name_parts text named).1.0

ascii_at : (text : List ℕ) → list_all is_name_byte text ≡ true → (i : ℕ) → slice_index text i < 128
ascii_at [] e i = omega arith
ascii_at (byte ∷ bytes) e zero = let first = (both_true (is_name_byte byte) (list_all is_name_byte bytes) e).0 in grind (arith, nat_tests, first)
ascii_at (byte ∷ bytes) e (suc i) = ascii_at bytes (both_true (is_name_byte byte) (list_all is_name_byte bytes) e).1 i

pub name_is_text : (text : List ℕ) → IsTrue (is_name text) → IsUtf8 text
name_is_text text named = IsUtf8-from_ascii text (ascii_at text (name_parts text named).1.1)
