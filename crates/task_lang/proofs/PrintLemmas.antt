-- What is printed of a command, and how it is read again.
use Rattle.std.proofs.Common.{◌≡◌, ◌≢◌, ℕ, ◌^◌, ◌<◌, ◌≤◌, ◌==◌, Bool, true, false, nat_lt, List, [], ◌∷◌, ◌++◌, length, slice_index, codes, Option, None, Some, Ok, IsTrue, refl, ap, subst, sym, ◌∙◌, arith, length-append, ⊎_elim}
use Rattle.std.specs.List.{join_with_byte, list_all}
use Rattle.std.specs.Fmt.{decimal}
use Rattle.std.specs.Str.{bytes_eq}
use Rattle.std.proofs.Math.Seq.{take-append_seam, drop-append_seam}
use Rattle.std.proofs.lemmas.Bool.{cases_Bool, cases_eq, eq-eqb, ne_eqb}
use Rattle.std.proofs.lemmas.Bool.Decides.{nat_tests}
use Rattle.std.proofs.lemmas.Fmt.{decimal_nonempty}
use Rattle.std.proofs.lemmas.Slice.Eq.{bytes_eq-Decides}
use Rattle.texts.specs.Words.{words}
use Rattle.texts.proofs.WordLemmas.{words_joined}
use Rattle.key_mask.specs.declared.fields.Field.{Field}
use Rattle.key_mask.specs.declared.fields.Field.TheVariants.{SrcIp, DstIp, SrcPort, DstPort, Proto, Tos, EtherType, SrcIp6, DstIp6}
use Rattle.key_mask.specs.Fields.{fields, field_number, is_length, name_of, width_of}
use Rattle.key_mask.specs.Items.{field_named, item_text, item_texts, items_text, prefix_text, value_part}
use Rattle.key_mask.specs.Keys.{is_canonical_key, key_text}
use Rattle.key_mask.specs.Masks.{AreLengths, no_lengths}
use Rattle.key_mask.specs.Spellings.{has_no_leading_zero, value_text}
use Rattle.key_mask.specs.Vectors.{value_at}
use Rattle.key_mask.proofs.KeyLemmas.{key_again, key_canonical}
use Rattle.key_mask.proofs.NumberLemmas.{decimal_lead, digit_pass, number_again}
use Rattle.key_mask.proofs.PrefixLemmas.{each_row, length_within, prefix_pass}
use Rattle.key_mask.proofs.ValueLemmas.{value_pass}
use Rattle.pkt_headers.specs.declared.packets.Attr.{Attr}
use Rattle.pkt_headers.specs.declared.packets.Attr.TheVariants as attrs
use Rattle.sketch_defs.specs.declared.kinds.Kind.{Kind}
use Rattle.sketch_defs.specs.declared.kinds.Kind.TheVariants as kinds
use Rattle.sketch_defs.specs.Names.{is_name}
use Rattle.sketch_defs.specs.Tasks.{Sketch, allows, allows_rows}
use Rattle.sketch_defs.proofs.TaskLemmas.{few_rows, no_fault}
use Rattle.task_filters.specs.Filters.{IsFilter, Pattern}
use Rattle.task_filters.specs.Printing.{filter_text}
use Rattle.task_filters.specs.Terms.{filter_in, is_canonical_filter, terms_in, with_term}
use Rattle.task_filters.proofs.AgainLemmas.{filter_again}
use Rattle.task_filters.proofs.ByteLemmas.{value_fits, value_small}
use Rattle.task_filters.proofs.OnlyLemmas.{filter_canonical}
use Rattle.task_lang.specs.declared.commands.Command.{Command}
use Rattle.task_lang.specs.declared.commands.Command.TheVariants as commands
use Rattle.task_lang.specs.Canonical.{AreTaskOperands, HasCanonicalOperands, IsBehind, IsCanonical, is_printed}
use Rattle.task_lang.specs.Printing.{command_text, command_words, longest_task, task_text, IsCommand, IsTask}
use Rattle.task_lang.specs.Script.{add_in, alone_in, command_in, is_skipped, named_in, packets_in, query_in, resize_in, script_in, script_limit}
use Rattle.task_lang.specs.Words.{attr_in, attr_named, attr_word, after_label, full_number, kind_named, kind_word, name_in, rows_in, verb_named}
use Rattle.task_lang.proofs.TokenLemmas.{all_append, all_joined, decimal_graph, is_graph, is_token, name_token, token_from, tokens_printed, tokens_read, tokens_words}

-- ---- the words are read again

kind_again : (kind : Kind) → kind_named (kind_word kind) ≡ Some kind
unfolding kind_named
kind_again kinds.Cms = refl
kind_again _ = refl

attr_again : (attr : Attr) → attr_named (attr_word attr) ≡ Some attr
unfolding attr_named
attr_again attrs.Packets = refl
attr_again _ = refl

allowed_again : (kind : Kind) (attr : Attr) → IsTrue (allows kind attr) → attr_in kind (attr_word attr) ≡ Some attr
unfolding attr_in
allowed_again kind attr fits = rw (attr_again attr, fits) refl

full_again : (n : ℕ) → n < 2 ^ 32 → full_number (decimal n) ≡ Some n
full_again n small = number_again 10 4294967295 n (omega arith) (omega arith) (omega arith) (omega arith)

rows_small : (task : Sketch) → IsTask task → task.rows < 2 ^ 32
rows_small task known = omega (arith, few_rows task (no_fault task known.rows known.stands known.attr))

rows_again : (kind : Kind) (rows : ℕ) → rows < 2 ^ 32 → IsTrue (allows_rows kind rows) → rows_in kind (decimal rows) ≡ Some rows
unfolding rows_in
rows_again kind rows small fits = rw (full_again rows small, fits) refl

label_again : (label rest : List ℕ) → after_label label (label ++ rest) ≡ Some rest
unfolding after_label
label_again label rest =
    let same : bytes_eq label label ≡ true = (bytes_eq-Decides label label).1 refl in
    rw (take-append_seam label rest, drop-append_seam label rest, same) refl

name_again : (name : List ℕ) → IsTrue (is_name name) → name_in name ≡ Some name
name_again name named = rw named refl

-- ---- the words are tokens

kind_token : (kind : Kind) → is_token (kind_word kind) ≡ true
kind_token kinds.Cms = refl
kind_token _ = refl

attr_graph : (attr : Attr) → list_all is_graph (attr_word attr) ≡ true
attr_graph attrs.Packets = refl
attr_graph _ = refl

decimal_token : (n : ℕ) → n < 2 ^ 32 → is_token (decimal n) ≡ true
decimal_token n small =
    let some : nat_lt 0 (length (decimal n)) ≡ true = grind (arith, nat_tests, decimal_nonempty n (omega arith)) in
    rw (decimal_graph n small, some) refl

name_graph : (field : Field) → list_all is_graph (name_of field) ≡ true
name_graph SrcIp = refl
name_graph _ = refl

digit_prints : (c : ℕ) → 48 ≤ c → c ≤ 57 → is_graph c ≡ true
digit_prints c low high = grind (arith, nat_tests)

value_graph : (field : Field) (n : ℕ) → n < 2 ^ width_of field → list_all is_graph (value_text field n) ≡ true
value_graph = value_pass is_graph (record { decimals = digit_prints; digits = digit_pass is_graph refl; dot = refl; colon = refl; letter = refl })

-- the values print, where there are any
abbrev DoPrint : Option (List ℕ) → Type 0
DoPrint values = (field : Field) → list_all is_graph (value_part values field) ≡ true

item_graph : (values : Option (List ℕ)) → DoPrint values → (field : Field) (n : ℕ) → IsTrue (is_length field n) → list_all is_graph (item_text values field n) ≡ true
item_graph values prints field n fits =
    let within = length_within field n fits in
    let row = each_row field in
    all_append is_graph (name_of field) (value_part values field ++ prefix_text field n) (name_graph field)
    (all_append is_graph (value_part values field) (prefix_text field n) (prints field) (prefix_pass is_graph refl digit_prints field n (omega (arith, within.few, row.few))))

items_graph : (values : Option (List ℕ)) → DoPrint values → (lengths : List ℕ) → AreLengths lengths
    → (fields : List Field) → list_all (list_all is_graph) (item_texts values lengths fields) ≡ true
items_graph values prints lengths known [] = refl
items_graph values prints lengths known (field ∷ fields) =
    let n : ℕ = slice_index lengths (field_number field) in
    ⊎_elim
    (λ (e : n ≡ 0). let t : (n == 0) ≡ true = eq-eqb n 0 e in rw t (items_graph values prints lengths known fields))
    (λ (ne : n ≢ 0).
    let t : (n == 0) ≡ false = ne_eqb n 0 ne in
    rw (t, item_graph values prints field n (known.allowed field ne)) (items_graph values prints lengths known fields))
    (cases_eq n 0)

text_graph : (values : Option (List ℕ)) → DoPrint values → (lengths : List ℕ) → AreLengths lengths → list_all is_graph (items_text values lengths) ≡ true
unfolding items_text
text_graph values prints lengths known = all_joined is_graph 44 refl (item_texts values lengths fields) (items_graph values prints lengths known fields)

key_graph : (lengths : List ℕ) → AreLengths lengths → list_all is_graph (key_text lengths) ≡ true
key_graph lengths known = text_graph None (λ field. refl) lengths known

filter_graph : (pattern : Pattern) → IsFilter pattern → list_all is_graph (filter_text pattern) ≡ true
unfolding filter_text
filter_graph pattern filter =
    let prints : DoPrint (Some pattern.value) =
    λ field. value_graph field (value_at pattern.value field) (value_fits pattern.value field filter.long (value_small pattern filter.kept)) in
    let items : list_all is_graph (items_text (Some pattern.value) pattern.mask) ≡ true = text_graph (Some pattern.value) prints pattern.mask filter.known in
    ⊎_elim
    (λ (t : bytes_eq pattern.mask no_lengths ≡ true). rw t refl)
    (λ (t : bytes_eq pattern.mask no_lengths ≡ false). rw t items)
    (cases_Bool (bytes_eq pattern.mask no_lengths))

-- no filter has an empty text
read_some : (text : List ℕ) (pattern : Pattern) → filter_in text ≡ Ok pattern → nat_lt 0 (length text) ≡ true
unfolding terms_in with_term field_named
read_some [] pattern e = cc
read_some (byte ∷ text) pattern e = grind (arith, nat_tests)

filter_token : (pattern : Pattern) → IsFilter pattern → is_token (filter_text pattern) ≡ true
filter_token pattern filter = rw (filter_graph pattern filter, read_some (filter_text pattern) pattern (filter_again pattern filter)) refl

-- ---- the commands, one after another

add_tokens : (task : Sketch) → IsTask task → list_all is_token (command_words (commands.Add task)) ≡ true
add_tokens task known =
    rw (
      name_token task.name known.named,
      kind_token task.kind,
      decimal_token task.rows (rows_small task known),
      token_from 107 (codes "ey=" ++ key_text task.key) (key_graph task.key known.key),
      token_from 97 (codes "ttr=" ++ attr_word task.attr) (attr_graph task.attr),
      token_from 102 (codes "ilter=" ++ filter_text task.filter) (filter_graph task.filter known.filter),
      token_from 109 (codes "emory=" ++ decimal task.size) (decimal_graph task.size known.size),
    ) refl

add_read : (task : Sketch) → IsTask task → command_in (command_words (commands.Add task)) ≡ Ok (commands.Add task)
unfolding command_in verb_named add_in
add_read task known =
    rw (
      label_again (codes "key=") (key_text task.key),
      label_again (codes "attr=") (attr_word task.attr),
      label_again (codes "filter=") (filter_text task.filter),
      label_again (codes "memory=") (decimal task.size),
      name_again task.name known.named,
      kind_again task.kind,
      rows_again task.kind task.rows (rows_small task known) known.rows,
      key_again task.key known.key known.stands,
      allowed_again task.kind task.attr known.attr,
      filter_again task.filter known.filter,
      full_again task.size known.size,
    ) refl

resize_tokens : (name : List ℕ) (size : ℕ) → IsTrue (is_name name) → size < 2 ^ 32 → list_all is_token (command_words (commands.Resize name size)) ≡ true
resize_tokens name size named small = rw (name_token name named, token_from 109 (codes "emory=" ++ decimal size) (decimal_graph size small)) refl

resize_read : (name : List ℕ) (size : ℕ) → IsTrue (is_name name) → size < 2 ^ 32
    → command_in (command_words (commands.Resize name size)) ≡ Ok (commands.Resize name size)
unfolding command_in verb_named resize_in
resize_read name size named small = rw (label_again (codes "memory=") (decimal size), name_again name named, full_again size small) refl

packets_read : (number : ℕ) → number < 2 ^ 32 → command_in (command_words (commands.Packets number)) ≡ Ok (commands.Packets number)
unfolding command_in verb_named packets_in
packets_read number small = rw (full_again number small) refl

query_tokens : (name : List ℕ) (at : Pattern) → IsTrue (is_name name) → IsFilter at → list_all is_token (command_words (commands.Query name at)) ≡ true
query_tokens name at named filter = rw (name_token name named, filter_token at filter) refl

query_read : (name : List ℕ) (at : Pattern) → IsTrue (is_name name) → IsFilter at → command_in (command_words (commands.Query name at)) ≡ Ok (commands.Query name at)
unfolding command_in verb_named query_in
query_read name at named filter = rw (name_again name named, filter_again at filter) refl

-- the words of a command are tokens, and are read as that command
abbrev IsRead : Command → Type 0
IsRead command = (list_all is_token (command_words command) ≡ true) × (command_in (command_words command) ≡ Ok command)

words_read : (command : Command) → IsCommand command → IsRead command
unfolding command_in verb_named named_in alone_in
words_read (commands.Add task) known = (add_tokens task known, add_read task known)
words_read (commands.Resize name size) known = (resize_tokens name size known.0 known.1, resize_read name size known.0 known.1)
words_read (commands.Remove name) named = (rw (name_token name named) refl, rw (name_again name named) refl)
words_read (commands.Release name) named = (rw (name_token name named) refl, rw (name_again name named) refl)
words_read (commands.Packets number) small = (rw (decimal_token number small) refl, packets_read number small)
words_read commands.Run known = (refl, refl)
words_read (commands.Read name) named = (rw (name_token name named) refl, rw (name_again name named) refl)
words_read (commands.Frozen name) named = (rw (name_token name named) refl, rw (name_again name named) refl)
words_read (commands.Query name at) known = (query_tokens name at known.0 known.1, query_read name at known.0 known.1)
words_read (commands.Dist name) named = (rw (name_token name named) refl, rw (name_again name named) refl)
words_read (commands.Card name) named = (rw (name_token name named) refl, rw (name_again name named) refl)
words_read commands.Show known = (refl, refl)
words_read commands.Stat known = (refl, refl)

begun : (command : Command) → is_skipped (join_with_byte 32 (command_words command)) ≡ false
begun commands.Run = refl
begun _ = refl

-- what is printed of a command is read as that command alone
pub command_again : (text : List ℕ) (command : Command) → text ≡ command_text command → IsCommand command → length text ≤ script_limit
    → script_in text ≡ Ok (command ∷ [])
unfolding command_text
command_again text command same known short =
    let read = words_read command known in
    let fits : length (join_with_byte 32 (command_words command)) ≤ script_limit = subst (λ text. length text ≤ script_limit) same short in
    ap script_in same ∙ tokens_read (command_words command) command read.0 (begun command) read.1 fits

-- ---- the texts are canonical

behind_label : (label rest : List ℕ) (is_canonical : List ℕ → Bool) → IsTrue (is_canonical rest) → IsBehind label is_canonical (label ++ rest)
behind_label label rest is_canonical canonical = rw (label_again label rest) canonical

number_lead : (n : ℕ) → n < 2 ^ 32 → IsTrue (has_no_leading_zero (decimal n))
number_lead n small = decimal_lead n (omega arith)

task_operands : (task : Sketch) → IsTask task → AreTaskOperands (command_words (commands.Add task))
task_operands task known = record {
  rows = number_lead task.rows (rows_small task known);
  key = behind_label (codes "key=") (key_text task.key) is_canonical_key (key_canonical task.key known.key known.stands);
  filter = behind_label (codes "filter=") (filter_text task.filter) is_canonical_filter (filter_canonical task.filter known.filter);
  memory = behind_label (codes "memory=") (decimal task.size) has_no_leading_zero (number_lead task.size known.size);
}

words_canonical : (command : Command) → IsCommand command → HasCanonicalOperands (command_words command)
unfolding verb_named
words_canonical (commands.Add task) known = task_operands task known
words_canonical (commands.Resize name size) known =
    behind_label (codes "memory=") (decimal size) has_no_leading_zero (number_lead size known.1)
words_canonical (commands.Packets number) small = number_lead number small
words_canonical (commands.Query name at) known = filter_canonical at known.1
words_canonical _ known = tt

canonical_words : (command : Command) → IsCommand command → IsCanonical (join_with_byte 32 (command_words command))
canonical_words command known =
    let tokens = (words_read command known).0 in
    let split : words (join_with_byte 32 (command_words command)) ≡ command_words command = words_joined (command_words command) (tokens_words (command_words command) tokens) in
    record {
      printed = all_joined is_printed 32 refl (command_words command) (tokens_printed (command_words command) tokens);
      spaced = ap (join_with_byte 32) split;
      operands = subst (λ ws. HasCanonicalOperands ws) (sym split) (words_canonical command known);
    }

-- what is printed of a command is canonical
pub command_canonical : (text : List ℕ) (command : Command) → text ≡ command_text command → IsCommand command → IsCanonical text
unfolding command_text
command_canonical text command same known = subst (λ text. IsCanonical text) (sym same) (canonical_words command known)

-- behind `add ` stands the text of a task
task_behind : (text : List ℕ) (task : Sketch) → text ≡ task_text task → codes "add " ++ text ≡ command_text (commands.Add task)
unfolding task_text command_text
task_behind text task same = ap (λ text. codes "add " ++ text) same

pub task_again : (text : List ℕ) (task : Sketch) → text ≡ task_text task → IsTask task → length text ≤ longest_task
    → script_in (codes "add " ++ text) ≡ Ok (commands.Add task ∷ [])
task_again text task same known short =
    command_again (codes "add " ++ text) (commands.Add task) (task_behind text task same) known (simp length-append (omega (arith, short)))

pub task_canonical : (text : List ℕ) (task : Sketch) → text ≡ task_text task → IsTask task → IsCanonical (codes "add " ++ text)
task_canonical text task same known = command_canonical (codes "add " ++ text) (commands.Add task) (task_behind text task same) known
