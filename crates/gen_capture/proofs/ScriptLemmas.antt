-- What is left of the script.
use Rattle.std.proofs.Common.{◌≡◌, ℕ, ◌-◌, ◌≤◌, [], length, take, drop, inl, inr, ap, arith, refl}
use Rattle.std.proofs.lemmas.Bool.{cases_lt}
use Rattle.std.proofs.lemmas.List.{drop_all}
use Rattle.gen_capture.specs.Scripts.{script_text}

length-script_text : length script_text ≡ 377
unfolding script_text
length-script_text = refl

-- the last bytes are those behind the place, if that is no place past the end
pub script_last : (at left n : ℕ) → left ≡ 377 - at → n ≤ left
    → take n (drop (length script_text - left) script_text) ≡ take n (drop at script_text)
script_last at left n is few = elim (cases_lt 377 at) [
  | inl past ↦ let none : n ≡ 0 = omega arith in rw none refl
  | inr within ↦ ap (λ k. take n (drop k script_text)) (omega (arith, length-script_text))
]

pub script_end : (at : ℕ) → 377 - at ≡ 0 → drop at script_text ≡ []
script_end at none = drop_all at script_text (omega (arith, length-script_text))
