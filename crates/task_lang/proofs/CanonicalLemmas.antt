-- A canonical text that is read as a command is what is printed of it.
use Rattle.std.proofs.Common.{◌≡◌, ℕ, ◌==◌, true, false, not, cond, nat_lt, List, [], ◌∷◌, ◌++◌, length, codes, IfSome, IsTrue, ok_or, Result, Ok, Err, refl, ap, sym, ◌∙◌, arith}
use Rattle.std.specs.List.{join_with_byte, list_all}
use Rattle.std.specs.Fmt.{decimal}
use Rattle.std.proofs.lemmas.Bool.Decides.{nat_tests}
use Rattle.texts.specs.Cuts.{parts}
use Rattle.texts.specs.Words.{words, word_at}
use Rattle.texts.proofs.CutLemmas.{free_of, split_last}
use Rattle.key_mask.specs.Items.{◌>>=◌}
use Rattle.key_mask.specs.Keys.{is_canonical_key, key_in, key_text}
use Rattle.key_mask.specs.Spellings.{has_no_leading_zero}
use Rattle.key_mask.proofs.KeyLemmas.{only_key}
use Rattle.pkt_headers.specs.declared.packets.Attr.{Attr}
use Rattle.sketch_defs.specs.declared.kinds.Kind.{Kind}
use Rattle.task_filters.specs.Filters.{Pattern}
use Rattle.task_filters.specs.Printing.{filter_text}
use Rattle.task_filters.specs.Terms.{filter_in, is_canonical_filter}
use Rattle.task_filters.proofs.OnlyLemmas.{only_filter}
use Rattle.task_lang.specs.declared.commands.Command.{Command}
use Rattle.task_lang.specs.declared.commands.Command.TheVariants as commands
use Rattle.task_lang.specs.declared.commands.LineFault.{LineFault}
use Rattle.task_lang.specs.declared.commands.LineFault.TheVariants as faults
use Rattle.task_lang.specs.declared.commands.Verb.{Verb}
use Rattle.task_lang.specs.declared.commands.Verb.TheVariants as verbs
use Rattle.task_lang.specs.Canonical.{AreCanonicalOperands, AreTaskOperands, IsBehind, is_printed}
use Rattle.task_lang.specs.Laws.{CanonicalIsPrinted}
use Rattle.task_lang.specs.Printing.{command_text, command_words}
use Rattle.task_lang.specs.Script.{add_in, alone_in, at_line, command_by, command_in, is_allowed, is_skipped, named_in, one, or_fault, packets_in, plain_line_in, query_in, resize_in, script_from, script_in, script_limit, with_front}
use Rattle.task_lang.specs.Words.{after_label, attr_in, attr_word, full_number, kind_named, kind_word, name_in, rows_in, verb_named, verb_word}
use Rattle.task_lang.proofs.TokenLemmas.{all_weaker, no_return}
use Rattle.task_lang.proofs.SaidLemmas.{attr_in_said, count_bind, kind_said, label_printed, name_said, number_said, ok_bind, ok_same, part_canonical, printed_of, rows_said, so_many_words, some_bind, verb_said}

-- ---- the words of `add`, step by step

abbrev Words : Type 0
Words = List (List ℕ)

abbrev added : List ℕ → Kind → ℕ → List ℕ → Attr → Pattern → ℕ → Command
added name kind rows key attr filter size =
    commands.Add (record { name = name; kind = kind; rows = rows; key = key; attr = attr; filter = filter; size = size })

abbrev step_size : List ℕ → (ℕ → Command) → Result Command LineFault
step_size memory make = ok_or (full_number memory) faults.Size >>= λ size. Ok (make size)

abbrev step_filter : List ℕ → List ℕ → (Pattern → ℕ → Command) → Result Command LineFault
step_filter filter memory make = or_fault faults.Filter (filter_in filter) >>= λ pattern. step_size memory (make pattern)

abbrev step_attr : List ℕ → List ℕ → List ℕ → Kind → (Attr → Pattern → ℕ → Command) → Result Command LineFault
step_attr attr filter memory kind make = ok_or (attr_in kind attr) faults.Attr >>= λ weight. step_filter filter memory (make weight)

abbrev step_key : List ℕ → List ℕ → List ℕ → List ℕ → Kind → (List ℕ → Attr → Pattern → ℕ → Command) → Result Command LineFault
step_key key attr filter memory kind make = or_fault faults.Key (key_in key) >>= λ mask. step_attr attr filter memory kind (make mask)

abbrev step_rows : Words → List ℕ → List ℕ → List ℕ → List ℕ → List ℕ → Kind → Result Command LineFault
step_rows ws key attr filter memory name kind = ok_or (rows_in kind (word_at ws 3)) faults.Rows >>= λ rows.
    step_key key attr filter memory kind (added name kind rows)

abbrev step_kind : Words → List ℕ → List ℕ → List ℕ → List ℕ → List ℕ → Result Command LineFault
step_kind ws key attr filter memory name = ok_or (kind_named (word_at ws 2)) faults.Kind >>= step_rows ws key attr filter memory name

abbrev step_name : Words → List ℕ → List ℕ → List ℕ → List ℕ → Result Command LineFault
step_name ws key attr filter memory = ok_or (name_in (word_at ws 1)) faults.Name >>= step_kind ws key attr filter memory

abbrev step_memory : Words → List ℕ → List ℕ → List ℕ → Result Command LineFault
step_memory ws key attr filter = ok_or (after_label (codes "memory=") (word_at ws 7)) faults.Words >>= step_name ws key attr filter

abbrev step_pattern : Words → List ℕ → List ℕ → Result Command LineFault
step_pattern ws key attr = ok_or (after_label (codes "filter=") (word_at ws 6)) faults.Words >>= step_memory ws key attr

abbrev step_weight : Words → List ℕ → Result Command LineFault
step_weight ws key = ok_or (after_label (codes "attr=") (word_at ws 5)) faults.Words >>= step_pattern ws key

abbrev step_labels : Words → Result Command LineFault
step_labels ws = ok_or (after_label (codes "key=") (word_at ws 4)) faults.Words >>= step_weight ws

add_words : (ws : Words) (command : Command) → AreTaskOperands ws → word_at ws 0 ≡ verb_word verbs.Add → add_in ws ≡ Ok command → ws ≡ command_words command
unfolding add_in
add_words ws command canonical first e =
    let count = count_bind 8 ws step_labels command e in
    let key = some_bind (after_label (codes "key=") (word_at ws 4)) faults.Words (step_weight ws) command count.1 in
    let attr = some_bind (after_label (codes "attr=") (word_at ws 5)) faults.Words (step_pattern ws key.0) command key.2 in
    let filter = some_bind (after_label (codes "filter=") (word_at ws 6)) faults.Words (step_memory ws key.0 attr.0) command attr.2 in
    let memory = some_bind (after_label (codes "memory=") (word_at ws 7)) faults.Words (step_name ws key.0 attr.0 filter.0) command filter.2 in
    let name = some_bind (name_in (word_at ws 1)) faults.Name (step_kind ws key.0 attr.0 filter.0 memory.0) command memory.2 in
    let kind = some_bind (kind_named (word_at ws 2)) faults.Kind (step_rows ws key.0 attr.0 filter.0 memory.0 name.0) command name.2 in
    let rows = some_bind (rows_in kind.0 (word_at ws 3)) faults.Rows (λ (rows : ℕ).
    step_key key.0 attr.0 filter.0 memory.0 kind.0 (added name.0 kind.0 rows)) command kind.2 in
    let mask = ok_bind (key_in key.0) faults.Key (λ (mask : List ℕ).
    step_attr attr.0 filter.0 memory.0 kind.0 (added name.0 kind.0 rows.0 mask)) command rows.2 in
    let weight = some_bind (attr_in kind.0 attr.0) faults.Attr (λ (weight : Attr).
    step_filter filter.0 memory.0 (added name.0 kind.0 rows.0 mask.0 weight)) command mask.2 in
    let pattern = ok_bind (filter_in filter.0) faults.Filter (λ (pattern : Pattern).
    step_size memory.0 (added name.0 kind.0 rows.0 mask.0 weight.0 pattern)) command weight.2 in
    let size = some_bind (full_number memory.0) faults.Size (λ (size : ℕ). Ok (added name.0 kind.0 rows.0 mask.0 weight.0 pattern.0 size)) command pattern.2 in
    let made : added name.0 kind.0 rows.0 mask.0 weight.0 pattern.0 size.0 ≡ command =
    ok_same (added name.0 kind.0 rows.0 mask.0 weight.0 pattern.0 size.0) command size.2 in
    let name_is : word_at ws 1 ≡ name.0 = name_said (word_at ws 1) name.0 name.1 in
    let kind_is : word_at ws 2 ≡ kind_word kind.0 = kind_said (word_at ws 2) kind.0 kind.1 in
    let rows_are : word_at ws 3 ≡ decimal rows.0 = rows_said kind.0 (word_at ws 3) rows.0 canonical.rows rows.1 in
    let key_is : word_at ws 4 ≡ codes "key=" ++ key_text mask.0 =
    label_printed (codes "key=") (word_at ws 4) key.0 (key_text mask.0) key.1
    (only_key key.0 mask.0 mask.1 (part_canonical (codes "key=") (word_at ws 4) key.0 is_canonical_key canonical.key key.1)) in
    let attr_is : word_at ws 5 ≡ codes "attr=" ++ attr_word weight.0 =
    label_printed (codes "attr=") (word_at ws 5) attr.0 (attr_word weight.0) attr.1 (attr_in_said kind.0 attr.0 weight.0 weight.1) in
    let filter_is : word_at ws 6 ≡ codes "filter=" ++ filter_text pattern.0 =
    label_printed (codes "filter=") (word_at ws 6) filter.0 (filter_text pattern.0) filter.1
    (only_filter filter.0 pattern.0 pattern.1 (part_canonical (codes "filter=") (word_at ws 6) filter.0 is_canonical_filter canonical.filter filter.1)) in
    let memory_is : word_at ws 7 ≡ codes "memory=" ++ decimal size.0 =
    label_printed (codes "memory=") (word_at ws 7) memory.0 (decimal size.0) memory.1
    (number_said memory.0 size.0 (part_canonical (codes "memory=") (word_at ws 7) memory.0 has_no_leading_zero canonical.memory memory.1) size.1) in
    printed_of ws (added name.0 kind.0 rows.0 mask.0 weight.0 pattern.0 size.0) command made
    (so_many_words 8 ws count.0 ∙ (λ i. first i ∷ name_is i ∷ kind_is i ∷ rows_are i ∷ key_is i ∷ attr_is i ∷ filter_is i ∷ memory_is i ∷ []))

-- ---- the words of the other commands

resize_words : (ws : Words) (command : Command) → IsBehind (codes "memory=") has_no_leading_zero (word_at ws 2) → word_at ws 0 ≡ verb_word verbs.Resize
    → resize_in ws ≡ Ok command → ws ≡ command_words command
unfolding resize_in
resize_words ws command canonical first e =
    let last : List ℕ → List ℕ → Result Command LineFault =
    λ memory name. ok_or (full_number memory) faults.Size >>= λ size. Ok (commands.Resize name size) in
    let named : Words → List ℕ → Result Command LineFault = λ ws memory. ok_or (name_in (word_at ws 1)) faults.Name >>= last memory in
    let labelled : Words → Result Command LineFault = λ ws. ok_or (after_label (codes "memory=") (word_at ws 2)) faults.Words >>= named ws in
    let count = count_bind 3 ws labelled command e in
    let memory = some_bind (after_label (codes "memory=") (word_at ws 2)) faults.Words (named ws) command count.1 in
    let name = some_bind (name_in (word_at ws 1)) faults.Name (last memory.0) command memory.2 in
    let size = some_bind (full_number memory.0) faults.Size (λ (size : ℕ). Ok (commands.Resize name.0 size)) command name.2 in
    let made : commands.Resize name.0 size.0 ≡ command = cc (size.2) in
    let name_is : word_at ws 1 ≡ name.0 = name_said (word_at ws 1) name.0 name.1 in
    let memory_is : word_at ws 2 ≡ codes "memory=" ++ decimal size.0 =
    label_printed (codes "memory=") (word_at ws 2) memory.0 (decimal size.0) memory.1
    (number_said memory.0 size.0 (part_canonical (codes "memory=") (word_at ws 2) memory.0 has_no_leading_zero canonical memory.1) size.1) in
    printed_of ws (commands.Resize name.0 size.0) command made (so_many_words 3 ws count.0 ∙ (λ i. first i ∷ name_is i ∷ memory_is i ∷ []))

query_words : (ws : Words) (command : Command) → IsTrue (is_canonical_filter (word_at ws 2)) → word_at ws 0 ≡ verb_word verbs.Query
    → query_in ws ≡ Ok command → ws ≡ command_words command
unfolding query_in
query_words ws command canonical first e =
    let last : Words → List ℕ → Result Command LineFault =
    λ ws name. or_fault faults.At (filter_in (word_at ws 2)) >>= λ pattern. Ok (commands.Query name pattern) in
    let named : Words → Result Command LineFault = λ ws. ok_or (name_in (word_at ws 1)) faults.Name >>= last ws in
    let count = count_bind 3 ws named command e in
    let name = some_bind (name_in (word_at ws 1)) faults.Name (last ws) command count.1 in
    let pattern = ok_bind (filter_in (word_at ws 2)) faults.At (λ (pattern : Pattern). Ok (commands.Query name.0 pattern)) command name.2 in
    let made : commands.Query name.0 pattern.0 ≡ command = cc (pattern.2) in
    let name_is : word_at ws 1 ≡ name.0 = name_said (word_at ws 1) name.0 name.1 in
    let filter_is : word_at ws 2 ≡ filter_text pattern.0 = only_filter (word_at ws 2) pattern.0 pattern.1 canonical in
    printed_of ws (commands.Query name.0 pattern.0) command made (so_many_words 3 ws count.0 ∙ (λ i. first i ∷ name_is i ∷ filter_is i ∷ []))

packets_words : (ws : Words) (command : Command) → IsTrue (has_no_leading_zero (word_at ws 1)) → word_at ws 0 ≡ verb_word verbs.Packets
    → packets_in ws ≡ Ok command → ws ≡ command_words command
unfolding packets_in
packets_words ws command canonical first e =
    let last : Words → Result Command LineFault =
    λ ws. ok_or (full_number (word_at ws 1)) faults.Number >>= λ number. Ok (commands.Packets number) in
    let count = count_bind 2 ws last command e in
    let number = some_bind (full_number (word_at ws 1)) faults.Number (λ (number : ℕ). Ok (commands.Packets number)) command count.1 in
    let made : commands.Packets number.0 ≡ command = cc (number.2) in
    let number_is : word_at ws 1 ≡ decimal number.0 = number_said (word_at ws 1) number.0 canonical number.1 in
    printed_of ws (commands.Packets number.0) command made (so_many_words 2 ws count.0 ∙ (λ i. first i ∷ number_is i ∷ []))

named_words : (verb : Verb) (make : List ℕ → Command) → ((name : List ℕ) → command_words (make name) ≡ verb_word verb ∷ name ∷ [])
    → (ws : Words) (command : Command) → word_at ws 0 ≡ verb_word verb → named_in make ws ≡ Ok command → ws ≡ command_words command
unfolding named_in
named_words verb make printed ws command first e =
    let last : Words → Result Command LineFault = λ ws. ok_or (name_in (word_at ws 1)) faults.Name >>= λ name. Ok (make name) in
    let count = count_bind 2 ws last command e in
    let name = some_bind (name_in (word_at ws 1)) faults.Name (λ (name : List ℕ). Ok (make name)) command count.1 in
    let made : make name.0 ≡ command = cc (name.2) in
    let name_is : word_at ws 1 ≡ name.0 = name_said (word_at ws 1) name.0 name.1 in
    printed_of ws (make name.0) command made ((so_many_words 2 ws count.0 ∙ (λ i. first i ∷ name_is i ∷ [])) ∙ sym (printed name.0))

alone_words : (verb : Verb) (lone command : Command) → command_words lone ≡ verb_word verb ∷ []
    → (ws : Words) → word_at ws 0 ≡ verb_word verb → alone_in lone ws ≡ Ok command → ws ≡ command_words command
unfolding alone_in
alone_words verb lone command printed ws first e =
    let count = count_bind 1 ws (λ (ws : Words). Ok lone) command e in
    let made : lone ≡ command = cc (count.1) in
    printed_of ws lone command made ((so_many_words 1 ws count.0 ∙ (λ i. first i ∷ [])) ∙ sym printed)

verb_words : (verb : Verb) (ws : Words) (command : Command) → AreCanonicalOperands verb ws → word_at ws 0 ≡ verb_word verb
    → command_by verb ws ≡ Ok command → ws ≡ command_words command
verb_words verbs.Add ws command canonical first e = add_words ws command canonical first e
verb_words verbs.Resize ws command canonical first e = resize_words ws command canonical first e
verb_words verbs.Remove ws command canonical first e = named_words verbs.Remove commands.Remove (λ name. refl) ws command first e
verb_words verbs.Release ws command canonical first e = named_words verbs.Release commands.Release (λ name. refl) ws command first e
verb_words verbs.Packets ws command canonical first e = packets_words ws command canonical first e
verb_words verbs.Run ws command canonical first e = alone_words verbs.Run commands.Run command refl ws first e
verb_words verbs.Read ws command canonical first e = named_words verbs.Read commands.Read (λ name. refl) ws command first e
verb_words verbs.Frozen ws command canonical first e = named_words verbs.Frozen commands.Frozen (λ name. refl) ws command first e
verb_words verbs.Query ws command canonical first e = query_words ws command canonical first e
verb_words verbs.Dist ws command canonical first e = named_words verbs.Dist commands.Dist (λ name. refl) ws command first e
verb_words verbs.Card ws command canonical first e = named_words verbs.Card commands.Card (λ name. refl) ws command first e
verb_words verbs.Show ws command canonical first e = alone_words verbs.Show commands.Show command refl ws first e
verb_words verbs.Stat ws command canonical first e = alone_words verbs.Stat commands.Stat command refl ws first e

words_printed : (ws : Words) (command : Command) → IfSome (verb_named (word_at ws 0)) (λ verb. AreCanonicalOperands verb ws)
    → command_in ws ≡ Ok command → ws ≡ command_words command
unfolding command_in
words_printed ws command canonical e =
    let verb = some_bind (verb_named (word_at ws 0)) faults.Command (λ (verb : Verb). command_by verb ws) command e in
    verb_words verb.0 ws command (rw (verb.1) at canonical) (verb_said (word_at ws 0) verb.0 verb.1) verb.2

-- ---- the line

one_said : (found : Result Command LineFault) (command : Command)
    → (at_line 1 (one found) >>= λ found. with_front found (Ok [])) ≡ Ok (command ∷ []) → found ≡ Ok command
one_said (Ok found) command e = cc
one_said (Err fault) command e = absurd (cc)

line_said : (line : List ℕ) (command : Command) → list_all is_allowed line ≡ true
    → (at_line 1 (plain_line_in line) >>= λ found. with_front found (Ok [])) ≡ Ok (command ∷ []) → command_in (words line) ≡ Ok command
unfolding plain_line_in
line_said line command allowed e =
    elim (is_skipped line) as
    (λ b. (at_line 1 (cond b (Ok []) (cond (list_all is_allowed line) (one (command_in (words line))) (Err faults.Byte)))
    >>= λ found. with_front found (Ok [])) ≡ Ok (command ∷ []) → command_in (words line) ≡ Ok command) [
      | true ↦ λ e. absurd (cc)
      | false ↦ λ e. one_said (command_in (words line)) command (rw allowed at e)
    ] e

text_said : (text : List ℕ) (command : Command) → list_all is_printed text ≡ true → script_in text ≡ Ok (command ∷ []) → command_in (words text) ≡ Ok command
unfolding script_in
text_said text command printed e =
    let allowed : list_all is_allowed text ≡ true = all_weaker is_printed is_allowed (λ c t. grind (arith, nat_tests, t)) text printed in
    let free : free_of (λ b. b == 10) text ≡ true = all_weaker is_printed (λ c. not (c == 10)) (λ c t. grind (arith, nat_tests, t)) text printed in
    elim (nat_lt script_limit (length text)) as
    (λ b. cond b (Err (record { line = 0; kind = faults.TooLong })) (script_from 1 (parts 10 text)) ≡ Ok (command ∷ []) → command_in (words text) ≡ Ok command) [
      | true ↦ λ e. absurd (cc)
      | false ↦ λ e. line_said text command allowed (rw (split_last (λ b. b == 10) text free, no_return text printed) at e)
    ] e

-- a canonical text that is read as a command is what is printed of it
pub canonical_printed : CanonicalIsPrinted
unfolding command_text
canonical_printed text command canonical e =
    sym canonical.spaced
    ∙ ap (join_with_byte 32) (words_printed (words text) command canonical.operands (text_said text command canonical.printed e))
