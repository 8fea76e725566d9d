-- Words of bytes that print, and the line that they make.
use Rattle.std.proofs.Common.{◌≡◌, ℕ, zero, suc, ◌-◌, ◌^◌, ◌<◌, ◌≤◌, ◌==◌, ◌&&◌, Bool, true, false, not, nat_lt, nat_le, List, [], ◌∷◌, ◌++◌, length, slice_index, Ok, IsTrue, refl, ◌∙◌, arith}
use Rattle.std.specs.List.{join_with_byte, list_all}
use Rattle.std.specs.Fmt.{decimal}
use Rattle.std.specs.Str.Lines.{strip_carriage_return}
use Rattle.std.proofs.lemmas.Bool.{false≢true}
use Rattle.std.proofs.lemmas.Bool.Decides.{nat_tests}
use Rattle.std.proofs.lemmas.List.Folds.{list_all-append}
use Rattle.texts.specs.Words.{is_blank}
use Rattle.texts.proofs.CutLemmas.{free_of, split_last}
use Rattle.texts.proofs.WordLemmas.{is_word, words_joined}
use Rattle.key_mask.proofs.NumberLemmas.{decimal_pass}
use Rattle.sketch_defs.proofs.NameLemmas.{both_true, name_parts}
use Rattle.sketch_defs.specs.Names.{is_name, is_name_byte, starts_low}
use Rattle.task_lang.specs.declared.commands.Command.{Command}
use Rattle.task_lang.specs.Canonical.{is_printed}
use Rattle.task_lang.specs.Script.{command_in, is_allowed, is_skipped, line_in, one, plain_line_in, script_in, script_limit}

-- a byte that prints and is no blank
abbrev pub is_graph : ℕ → Bool
is_graph byte = nat_le 33 byte && nat_le byte 126

-- some bytes that print, and no blank among them
abbrev pub is_token : List ℕ → Bool
is_token word = list_all is_graph word && nat_lt 0 (length word)

-- ---- tests of lists

pub all_append : (p : ℕ → Bool) (xs ys : List ℕ) → list_all p xs ≡ true → list_all p ys ≡ true → list_all p (xs ++ ys) ≡ true
all_append p xs ys e h = list_all-append p xs ys ∙ rw (e, h) refl

pub all_weaker : (p q : ℕ → Bool) → ((c : ℕ) → p c ≡ true → q c ≡ true) → (xs : List ℕ) → list_all p xs ≡ true → list_all q xs ≡ true
all_weaker p q each [] e = refl
all_weaker p q each (x ∷ xs) e =
    let both = both_true (p x) (list_all p xs) e in
    rw (each x both.0) (all_weaker p q each xs both.1)

-- what holds of 0 and of each byte that passes holds at any index
pub at_each : (p : ℕ → Bool) (P : ℕ → Type 0) → ((c : ℕ) → p c ≡ true → P c) → P 0 → (xs : List ℕ) → list_all p xs ≡ true → (i : ℕ) → P (slice_index xs i)
at_each p P each none [] e i = none
at_each p P each none (x ∷ xs) e zero = each x (both_true (p x) (list_all p xs) e).0
at_each p P each none (x ∷ xs) e (suc i) = at_each p P each none xs (both_true (p x) (list_all p xs) e).1 i

pub all_joined : (p : ℕ → Bool) (c : ℕ) → p c ≡ true → (items : List (List ℕ)) → list_all (list_all p) items ≡ true → list_all p (join_with_byte c items) ≡ true
all_joined p c t [] e = refl
all_joined p c t (item ∷ []) e = (both_true (list_all p item) true e).0
all_joined p c t (item ∷ next ∷ items) e =
    let both = both_true (list_all p item) (list_all (list_all p) (next ∷ items)) e in
    all_append p item (c ∷ join_with_byte c (next ∷ items)) both.0 (rw t (all_joined p c t (next ∷ items) both.1))

-- ---- numbers

pub decimal_graph : (n : ℕ) → n < 2 ^ 32 → list_all is_graph (decimal n) ≡ true
decimal_graph n small = decimal_pass is_graph (λ c low high. grind (arith, nat_tests)) n (omega arith)

-- ---- names

starts_some : (text : List ℕ) → starts_low text ≡ true → nat_lt 0 (length text) ≡ true
starts_some [] e = absurd (false≢true e)
starts_some (first ∷ rest) e = grind (arith, nat_tests)

pub name_token : (text : List ℕ) → IsTrue (is_name text) → is_token text ≡ true
name_token text named =
    let parts = name_parts text named in
    rw (all_weaker is_name_byte is_graph (λ c e. grind (arith, nat_tests, e)) text parts.1.1, starts_some text parts.0) refl

-- ---- the line that tokens make

-- some byte, and what is behind it
pub token_from : (byte : ℕ) (rest : List ℕ) → list_all is_graph (byte ∷ rest) ≡ true → is_token (byte ∷ rest) ≡ true
token_from byte rest e =
    let some : nat_lt 0 (suc (length rest)) ≡ true = grind (arith, nat_tests) in
    rw (e, some) refl

pub tokens_printed : (words : List (List ℕ)) → list_all is_token words ≡ true → list_all (list_all is_printed) words ≡ true
tokens_printed [] e = refl
tokens_printed (word ∷ words) e =
    let both = both_true (is_token word) (list_all is_token words) e in
    let graph = (both_true (list_all is_graph word) (nat_lt 0 (length word)) both.0).0 in
    rw (all_weaker is_graph is_printed (λ c t. grind (arith, nat_tests, t)) word graph) (tokens_printed words both.1)

pub tokens_words : (words : List (List ℕ)) → list_all is_token words ≡ true → list_all is_word words ≡ true
tokens_words [] e = refl
tokens_words (word ∷ words) e =
    let both = both_true (is_token word) (list_all is_token words) e in
    let parts = both_true (list_all is_graph word) (nat_lt 0 (length word)) both.0 in
    let free : free_of is_blank word ≡ true = all_weaker is_graph (λ c. not (is_blank c)) (λ c t. grind (arith, nat_tests, t)) word parts.0 in
    rw (free, parts.1) (tokens_words words both.1)

pub no_return : (line : List ℕ) → list_all is_printed line ≡ true → strip_carriage_return line ≡ line
no_return line e =
    let last : (slice_index line (length line - 1) == 13) ≡ false =
    at_each is_printed (λ c. (c == 13) ≡ false) (λ c t. grind (arith, nat_tests, t)) refl line e (length line - 1) in
    rw last refl

line_read : (words : List (List ℕ)) → list_all is_token words ≡ true → is_skipped (join_with_byte 32 words) ≡ false
    → line_in (join_with_byte 32 words) ≡ one (command_in words)
unfolding plain_line_in
line_read words tokens begun =
    let line : List ℕ = join_with_byte 32 words in
    let printed : list_all is_printed line ≡ true = all_joined is_printed 32 refl words (tokens_printed words tokens) in
    let allowed : list_all is_allowed line ≡ true = all_weaker is_printed is_allowed (λ c t. grind (arith, nat_tests, t)) line printed in
    rw (no_return line printed, begun, allowed, words_joined words (tokens_words words tokens)) refl

-- one line of tokens is a script of one command
pub tokens_read : (words : List (List ℕ)) (command : Command) → list_all is_token words ≡ true → is_skipped (join_with_byte 32 words) ≡ false
    → command_in words ≡ Ok command → length (join_with_byte 32 words) ≤ script_limit → script_in (join_with_byte 32 words) ≡ Ok (command ∷ [])
unfolding script_in
tokens_read words command tokens begun read fits =
    let line : List ℕ = join_with_byte 32 words in
    let printed : list_all is_printed line ≡ true = all_joined is_printed 32 refl words (tokens_printed words tokens) in
    let free : free_of (λ b. b == 10) line ≡ true = all_weaker is_printed (λ c. not (c == 10)) (λ c t. grind (arith, nat_tests, t)) line printed in
    let short : nat_lt script_limit (length line) ≡ false = grind (arith, nat_tests, fits) in
    rw (short, split_last (λ b. b == 10) line free, line_read words tokens begun, read) refl
