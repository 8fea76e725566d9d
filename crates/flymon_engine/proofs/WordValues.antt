-- Worked values of the words of a command line.
use Rattle.std.proofs.Common.{◌≡◌, [], ◌∷◌, refl}
use Rattle.std.specs.Prelude.{codes}
use Rattle.key_mask.specs.Numbers.{number_in}
use Rattle.flymon_engine.specs.declared.words.Way.TheVariants.{Replay, Flight}
use Rattle.flymon_engine.specs.Words.{Wrong, Carry, Demo, form_of}

most : form_of (codes "demo" ∷ codes "18446744073709551615" ∷ codes "1000000" ∷ []) ≡ Demo 18446744073709551615 1000000
unfolding number_in
most = refl

zeros : form_of (codes "demo" ∷ codes "00000000000000000007" ∷ codes "0000000" ∷ []) ≡ Demo 7 0
unfolding number_in
zeros = refl

great_seed : form_of (codes "demo" ∷ codes "18446744073709551616" ∷ codes "1" ∷ []) ≡ Wrong
unfolding number_in
great_seed = refl

great_count : form_of (codes "demo" ∷ codes "0" ∷ codes "1000001" ∷ []) ≡ Wrong
unfolding number_in
great_count = refl

-- eight digits are too many, whatever they write
long_count : form_of (codes "demo" ∷ codes "0" ∷ codes "00000001" ∷ []) ≡ Wrong
unfolding number_in
long_count = refl

signed : form_of (codes "demo" ∷ codes "0" ∷ codes "+1" ∷ []) ≡ Wrong
unfolding number_in
signed = refl

no_number : form_of (codes "demo" ∷ codes "0" ∷ codes "x" ∷ []) ≡ Wrong
unfolding number_in
no_number = refl

empty : form_of (codes "demo" ∷ [] ∷ codes "1" ∷ []) ≡ Wrong
unfolding number_in
empty = refl

one_word_more : form_of (codes "demo" ∷ codes "0" ∷ codes "1" ∷ codes "1" ∷ []) ≡ Wrong
one_word_more = refl

replayed : form_of (codes "replay" ∷ codes "-" ∷ codes "S" ∷ codes "C" ∷ []) ≡ Carry Replay (codes "-") (codes "S") (codes "C")
replayed = refl

flown : form_of (codes "flight" ∷ codes "-" ∷ codes "S" ∷ codes "C" ∷ []) ≡ Carry Flight (codes "-") (codes "S") (codes "C")
flown = refl

other_word : form_of (codes "fly" ∷ codes "-" ∷ codes "S" ∷ codes "C" ∷ []) ≡ Wrong
other_word = refl
