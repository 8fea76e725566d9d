-- Words with single blanks between are found again.
use Rattle.std.proofs.Common.{◌≡◌, ℕ, ◌<◌, Bool, true, false, ◌&&◌, nat_lt, List, [], ◌∷◌, ◌++◌, length, None, refl, ap, unwrap_or, sym, ◌∙◌, arith}
use Rattle.std.specs.List.{list_all, join_with_byte, slice_get}
use Rattle.std.proofs.lemmas.Bool.{false≢true}
use Rattle.std.proofs.lemmas.Bool.Decides.{nat_tests}
use Rattle.std.proofs.lemmas.Option.{unwrap_or-slice_get}
use Rattle.texts.specs.Words.{is_blank, words, word_at}
use Rattle.texts.proofs.CutLemmas.{free_of, split_last, split_more}

pub words_last : (word : List ℕ) → free_of is_blank word ≡ true → 0 < length word → words word ≡ word ∷ []
words_last word free some =
    let t : nat_lt 0 (length word) ≡ true = grind (arith, nat_tests) in
    rw (split_last is_blank word free, t) refl

pub words_more : (word rest : List ℕ) → free_of is_blank word ≡ true → 0 < length word → words (word ++ 32 ∷ rest) ≡ word ∷ words rest
words_more word rest free some =
    let t : nat_lt 0 (length word) ≡ true = grind (arith, nat_tests) in
    rw (split_more is_blank word 32 rest free refl, t) refl

-- some bytes, and no blank among them
abbrev pub is_word : List ℕ → Bool
is_word word = free_of is_blank word && nat_lt 0 (length word)

word_both : (word : List ℕ) (more : Bool) → (is_word word && more) ≡ true → (free_of is_blank word ≡ true) × ((0 < length word) × (more ≡ true))
word_both word more e =
    elim (free_of is_blank word) as (λ b. ((b && nat_lt 0 (length word)) && more) ≡ true → (b ≡ true) × ((0 < length word) × (more ≡ true))) [
      | true ↦ λ e.
          elim (nat_lt 0 (length word)) as (λ t. nat_lt 0 (length word) ≡ t → (t && more) ≡ true → (true ≡ true) × ((0 < length word) × (more ≡ true))) [
            | true ↦ λ t e. (refl, (grind (arith, nat_tests, t), e))
            | false ↦ λ t e. absurd (false≢true e)
          ] refl e
      | false ↦ λ e. absurd (false≢true e)
    ] e

pub words_joined : (found : List (List ℕ)) → list_all is_word found ≡ true → words (join_with_byte 32 found) ≡ found
words_joined [] e = refl
words_joined (word ∷ []) e =
    let both = word_both word true e in
    words_last word both.0 both.1.0
words_joined (word ∷ next ∷ found) e =
    let both = word_both word (list_all is_word (next ∷ found)) e in
    words_more word (join_with_byte 32 (next ∷ found)) both.0 both.1.0 ∙ ap (λ rest. word ∷ rest) (words_joined (next ∷ found) both.1.1)

pub word_none : (found : List (List ℕ)) (number : ℕ) → slice_get found number ≡ None → word_at found number ≡ []
word_none found number e = sym (unwrap_or-slice_get found number []) ∙ ap (λ o. unwrap_or o []) e
