-- What each word of a command says, and that a canonical word is the printed one.
use Rattle.std.proofs.Common.{◌≡◌, ℕ, ◌==◌, Bool, true, false, cond, List, [], ◌∷◌, ◌++◌, length, map, take, drop, Option, None, Some, IsTrue, ok_or, option_and_then, Result, Ok, Err, refl, ap, sym, ◌∙◌, arith}
use Rattle.std.specs.List.{find, range_with_len}
use Rattle.std.specs.Fmt.{decimal}
use Rattle.std.specs.Str.{bytes_eq}
use Rattle.std.proofs.lemmas.Bool.Decides.{nat_tests}
use Rattle.std.proofs.lemmas.List.{ext_get_or, take-append-drop}
use Rattle.std.proofs.lemmas.List.FromFn.{get_or-map-range_with_len, length-map-range_with_len}
use Rattle.std.proofs.lemmas.Slice.Eq.{bytes_eq-Decides}
use Rattle.texts.specs.Words.{word_at}
use Rattle.key_mask.specs.declared.items.FieldFault.{FieldFault}
use Rattle.key_mask.specs.Items.{◌>>=◌}
use Rattle.key_mask.specs.Spellings.{has_no_leading_zero}
use Rattle.key_mask.proofs.NumberLemmas.{number_text}
use Rattle.pkt_headers.specs.declared.packets.Attr.{Attr}
use Rattle.sketch_defs.specs.declared.kinds.Kind.{Kind}
use Rattle.sketch_defs.specs.Names.{is_name}
use Rattle.sketch_defs.specs.Tasks.{allows, allows_rows}
use Rattle.task_lang.specs.declared.commands.Command.{Command}
use Rattle.task_lang.specs.declared.commands.LineFault.{LineFault}
use Rattle.task_lang.specs.declared.commands.LineFault.TheVariants as faults
use Rattle.task_lang.specs.declared.commands.Verb.{Verb}
use Rattle.task_lang.specs.Canonical.{IsBehind}
use Rattle.task_lang.specs.Printing.{command_words}
use Rattle.task_lang.specs.Script.{counted, one, or_fault}
use Rattle.task_lang.specs.Words.{after_label, all_attrs, all_kinds, all_verbs, attr_allowed, attr_in, attr_named, attr_word, full_number, kind_named, kind_word, name_in, rows_allowed, rows_in, verb_named, verb_word}

-- ---- steps that found something

pub some_bind : {A B E : Type 0} (found : Option A) (fault : E) (more : A → Result B E) (value : B)
    → (ok_or found fault >>= more) ≡ Ok value → (x : A) × (found ≡ Some x) × (more x ≡ Ok value)
some_bind None fault more value e = absurd (cc)
some_bind (Some x) fault more value e = (x, refl, e)

pub ok_bind : {A B : Type 0} (found : Result A FieldFault) (fault : FieldFault → LineFault) (more : A → Result B LineFault) (value : B)
    → (or_fault fault found >>= more) ≡ Ok value → (x : A) × (found ≡ Ok x) × (more x ≡ Ok value)
ok_bind (Err cause) fault more value e = absurd (cc)
ok_bind (Ok x) fault more value e = (x, refl, e)

pub count_bind : {B : Type 0} (count : ℕ) (ws : List (List ℕ)) (more : List (List ℕ) → Result B LineFault) (value : B)
    → (counted count ws >>= more) ≡ Ok value → (length ws ≡ count) × (more ws ≡ Ok value)
count_bind count ws more value e =
    elim (length ws == count) as
    (λ b. (length ws == count) ≡ b → (cond b (Ok ws) (Err faults.Words) >>= more) ≡ Ok value → (length ws ≡ count) × (more ws ≡ Ok value)) [
      | true ↦ λ t e. (grind (arith, nat_tests, t), e)
      | false ↦ λ t e. absurd (cc)
    ] refl e

pub ok_same : (first other : Command) → ◌≡◌ {A = Result Command LineFault} (Ok first) (Ok other) → first ≡ other
ok_same first other e = cc

-- ---- each word is the one that is printed

found_passes : {X : Type 0} (test : X → Bool) (xs : List X) (x : X) → find test xs ≡ Some x → test x ≡ true
found_passes test [] x e = absurd (cc)
found_passes test (y ∷ ys) x e =
    elim (test y) as (λ b. test y ≡ b → cond b (Some y) (find test ys) ≡ Some x → test x ≡ true) [
      | true ↦ λ t e. let same : y ≡ x = cc in ap test (sym same) ∙ t
      | false ↦ λ t e. found_passes test ys x e
    ] refl e

same_bytes : (one other : List ℕ) → bytes_eq one other ≡ true → one ≡ other
same_bytes one other t = (bytes_eq-Decides one other).0 t

pub verb_said : (word : List ℕ) (verb : Verb) → verb_named word ≡ Some verb → word ≡ verb_word verb
unfolding verb_named
verb_said word verb e = same_bytes word (verb_word verb) (found_passes (λ verb. bytes_eq word (verb_word verb)) all_verbs verb e)

pub kind_said : (word : List ℕ) (kind : Kind) → kind_named word ≡ Some kind → word ≡ kind_word kind
unfolding kind_named
kind_said word kind e = same_bytes word (kind_word kind) (found_passes (λ kind. bytes_eq word (kind_word kind)) all_kinds kind e)

attr_said : (word : List ℕ) (attr : Attr) → attr_named word ≡ Some attr → word ≡ attr_word attr
unfolding attr_named
attr_said word attr e = same_bytes word (attr_word attr) (found_passes (λ attr. bytes_eq word (attr_word attr)) all_attrs attr e)

attr_of_kind : (kind : Kind) (found : Option Attr) (attr : Attr) → option_and_then (attr_allowed kind) found ≡ Some attr → found ≡ Some attr
attr_of_kind kind None attr e = absurd (cc)
attr_of_kind kind (Some other) attr e =
    elim (allows kind other) as (λ b. cond b (Some other) None ≡ Some attr → Some other ≡ Some attr) [
      | true ↦ λ e. e
      | false ↦ λ e. absurd (cc)
    ] e

pub attr_in_said : (kind : Kind) (word : List ℕ) (attr : Attr) → attr_in kind word ≡ Some attr → word ≡ attr_word attr
unfolding attr_in
attr_in_said kind word attr e = attr_said word attr (attr_of_kind kind (attr_named word) attr e)

rows_of_kind : (kind : Kind) (found : Option ℕ) (rows : ℕ) → option_and_then (rows_allowed kind) found ≡ Some rows → found ≡ Some rows
rows_of_kind kind None rows e = absurd (cc)
rows_of_kind kind (Some other) rows e =
    elim (allows_rows kind other) as (λ b. cond b (Some other) None ≡ Some rows → Some other ≡ Some rows) [
      | true ↦ λ e. e
      | false ↦ λ e. absurd (cc)
    ] e

pub number_said : (word : List ℕ) (n : ℕ) → IsTrue (has_no_leading_zero word) → full_number word ≡ Some n → word ≡ decimal n
number_said word n first e = number_text 10 4294967295 n word (omega arith) e first

pub rows_said : (kind : Kind) (word : List ℕ) (rows : ℕ) → IsTrue (has_no_leading_zero word) → rows_in kind word ≡ Some rows → word ≡ decimal rows
unfolding rows_in
rows_said kind word rows first e = number_said word rows first (rows_of_kind kind (full_number word) rows e)

pub name_said : (word name : List ℕ) → name_in word ≡ Some name → word ≡ name
name_said word name e =
    elim (is_name word) as (λ b. cond b (Some word) None ≡ Some name → word ≡ name) [
      | true ↦ λ e. cc
      | false ↦ λ e. absurd (cc)
    ] e

label_said : (label word rest : List ℕ) → after_label label word ≡ Some rest → word ≡ label ++ rest
unfolding after_label
label_said label word rest e =
    elim (bytes_eq (take (length label) word) label) as
    (λ b. bytes_eq (take (length label) word) label ≡ b → cond b (Some (drop (length label) word)) None ≡ Some rest → word ≡ label ++ rest) [
      | true ↦ λ t e.
          let behind : drop (length label) word ≡ rest = cc in
          sym (take-append-drop (length label) word) ∙ (λ i. same_bytes (take (length label) word) label t i ++ behind i)
      | false ↦ λ t e. absurd (cc)
    ] refl e

pub label_printed : (label word rest text : List ℕ) → after_label label word ≡ Some rest → rest ≡ text → word ≡ label ++ text
label_printed label word rest text e same = label_said label word rest e ∙ ap (λ rest. label ++ rest) same

-- a canonical part behind its label
pub part_canonical : (label word rest : List ℕ) (is_canonical : List ℕ → Bool) → IsBehind label is_canonical word → after_label label word ≡ Some rest → IsTrue (is_canonical rest)
part_canonical label word rest is_canonical canonical e = rw e at canonical

-- ---- so many words

pub so_many_words : (count : ℕ) (ws : List (List ℕ)) → length ws ≡ count → ws ≡ map (word_at ws) (range_with_len 0 count)
so_many_words count ws e =
    ext_get_or [] ws (map (word_at ws) (range_with_len 0 count)) (e ∙ sym (length-map-range_with_len (word_at ws) 0 count))
    (λ i inside. sym (get_or-map-range_with_len (word_at ws) 0 count i i [] (omega (arith, e, inside)) (omega arith)))

-- the words printed of the command that was made
pub printed_of : (ws : List (List ℕ)) (made command : Command) → made ≡ command → ws ≡ command_words made → ws ≡ command_words command
printed_of ws made command same e = rw (← same) e
