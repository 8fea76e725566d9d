-- Which strings are the digits of a hash key.
use Rattle.std.proofs.Common.{◌≡◌, ℕ, ◌&&◌, ◌==◌, Bool, true, false, List, length, is_ok, refl, sym}
use Rattle.std.specs.List.{list_all}
use Rattle.std.proofs.lemmas.Bool.{and_parts, eqb-true, eq-eqb}
use Rattle.std.proofs.lemmas.List.Sums.{AllPass-from_list_all, list_all-from_AllPass}
use Rattle.hex.specs.Hex.{decode_sized, is_hex_digit}
use Rattle.hex.proofs.HexLemmas.{IsOk-decode_sized}

same_test : (one two : Bool) → (one ≡ true → two ≡ true) → (two ≡ true → one ≡ true) → one ≡ two
same_test true true f g = refl
same_test true false f g = sym (f refl)
same_test false true f g = g refl
same_test false false f g = refl

-- they are those that have bytes
pub digits_of_key : (digits : List ℕ) → (length digits == 104 && list_all is_hex_digit digits) ≡ is_ok (decode_sized digits 52)
digits_of_key digits =
    let (has_digits, has_bytes) = IsOk-decode_sized digits 52 in
    same_test _ _
    (λ h.
    let (long, all) = and_parts (length digits == 104) (list_all is_hex_digit digits) h in
    has_bytes (eqb-true (length digits) 104 long, AllPass-from_list_all is_hex_digit digits all))
    (λ h.
    let (long, all) = has_digits h in
    rw (eq-eqb (length digits) 104 long, list_all-from_AllPass is_hex_digit digits all) refl)
