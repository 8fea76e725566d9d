-- Words and their numbers, worked out.
use Rattle.std.proofs.Common.{◌≡◌, [], ◌∷◌, ◌++◌, codes, refl}
use Rattle.texts.specs.Words.{words, word_at}

between_blanks : words (codes " add" ++ 9 ∷ codes " 1 key=tos ") ≡ codes "add" ∷ codes "1" ∷ codes "key=tos" ∷ []
between_blanks = refl

no_word : words (32 ∷ 9 ∷ 32 ∷ []) ≡ []
no_word = refl

second_word : word_at (words (codes "add 1")) 1 ≡ codes "1"
second_word = refl

past_the_last : word_at (words (codes "add 1")) 2 ≡ []
past_the_last = refl
