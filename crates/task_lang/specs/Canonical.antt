-- The one spelling of a command among all that are read alike, told by the bytes of the text alone.
use Rattle.std.specs.Prelude.{◌≡◌, ℕ, ◌&&◌, Bool, true, nat_le, List, codes, IfSome, IsTrue}
use Rattle.std.specs.List.{join_with_byte, list_all}
use Rattle.texts.specs.Words.{words, word_at}
use Rattle.key_mask.specs.Keys.{is_canonical_key}
use Rattle.key_mask.specs.Spellings.{has_no_leading_zero}
use Rattle.task_filters.specs.Terms.{is_canonical_filter}
use Rattle.task_lang.specs.declared.commands.Verb.{Verb}
use Rattle.task_lang.specs.declared.commands.Verb.TheVariants as verbs
use Rattle.task_lang.specs.Words.{verb_named, after_label}

-- a byte that prints, or a space
abbrev pub is_printed : ℕ → Bool
is_printed byte = nat_le 32 byte && nat_le byte 126

-- what stands behind the label is canonical
abbrev pub IsBehind : List ℕ → (List ℕ → Bool) → List ℕ → Type 0
IsBehind label is_canonical word = IfSome (after_label label word) (λ rest. IsTrue (is_canonical rest))

-- the operands of `add`
pub record AreTaskOperands (ws : List (List ℕ)) : Type 0 where
  pub rows : IsTrue (has_no_leading_zero (word_at ws 3))
  pub key : IsBehind (codes "key=") is_canonical_key (word_at ws 4)
  pub filter : IsBehind (codes "filter=") is_canonical_filter (word_at ws 6)
  pub memory : IsBehind (codes "memory=") has_no_leading_zero (word_at ws 7)

-- those operands of a command that could be spelled in another way: numbers, keys and filters
abbrev pub AreCanonicalOperands : Verb → List (List ℕ) → Type 0
AreCanonicalOperands verbs.Add ws = AreTaskOperands ws
AreCanonicalOperands verbs.Resize ws = IsBehind (codes "memory=") has_no_leading_zero (word_at ws 2)
AreCanonicalOperands verbs.Packets ws = IsTrue (has_no_leading_zero (word_at ws 1))
AreCanonicalOperands verbs.Query ws = IsTrue (is_canonical_filter (word_at ws 2))
AreCanonicalOperands _ ws = Unit {0}

abbrev pub HasCanonicalOperands : List (List ℕ) → Type 0
HasCanonicalOperands ws = IfSome (verb_named (word_at ws 0)) (λ verb. AreCanonicalOperands verb ws)

-- one line with one space between words and none at its ends, its numbers, key and filter in their one spelling
pub record IsCanonical (text : List ℕ) : Type 0 where
  pub printed : list_all is_printed text ≡ true
  pub spaced : join_with_byte 32 (words text) ≡ text
  pub operands : HasCanonicalOperands (words text)
