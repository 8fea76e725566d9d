-- Commands as they are printed: one canonical text for each.
use Rattle.std.specs.Prelude.{◌≢◌, ℕ, ◌+◌, ◌<◌, ◌^◌, IsTrue, List, [], ◌∷◌, ◌++◌, length, codes}
use Rattle.std.specs.List.{join_with_byte}
use Rattle.std.specs.Fmt.{decimal}
use Rattle.key_mask.specs.Keys.{key_text, longest_key}
use Rattle.key_mask.specs.Masks.{AreLengths, no_lengths}
use Rattle.task_filters.specs.Filters.{IsFilter}
use Rattle.task_filters.specs.Printing.{filter_text, longest_filter}
use Rattle.sketch_defs.specs.declared.names.TheConstants.{NAME_BYTES}
use Rattle.sketch_defs.specs.Names.{is_name}
use Rattle.sketch_defs.specs.Tasks.{Sketch, allows, allows_rows}
use Rattle.task_lang.specs.declared.commands.Command.{Command}
use Rattle.task_lang.specs.declared.commands.Command.TheVariants as commands
use Rattle.task_lang.specs.declared.commands.Verb.TheVariants as verbs
use Rattle.task_lang.specs.Words.{verb_word, kind_word, longest_kind, attr_word, longest_attr, longest_number}

-- the words behind `add`
abbrev pub task_words : Sketch → List (List ℕ)
task_words task =
    task.name ∷ kind_word task.kind ∷ decimal task.rows ∷ (codes "key=" ++ key_text task.key)
    ∷ (codes "attr=" ++ attr_word task.attr)
    ∷ (codes "filter=" ++ filter_text task.filter) ∷ (codes "memory=" ++ decimal task.size) ∷ []

abbrev pub command_words : Command → List (List ℕ)
command_words (commands.Add task) = verb_word verbs.Add ∷ task_words task
command_words (commands.Resize name size) = verb_word verbs.Resize ∷ name ∷ (codes "memory=" ++ decimal size) ∷ []
command_words (commands.Remove name) = verb_word verbs.Remove ∷ name ∷ []
command_words (commands.Release name) = verb_word verbs.Release ∷ name ∷ []
command_words (commands.Packets number) = verb_word verbs.Packets ∷ decimal number ∷ []
command_words commands.Run = verb_word verbs.Run ∷ []
command_words (commands.Read name) = verb_word verbs.Read ∷ name ∷ []
command_words (commands.Frozen name) = verb_word verbs.Frozen ∷ name ∷ []
command_words (commands.Query name at) = verb_word verbs.Query ∷ name ∷ filter_text at ∷ []
command_words (commands.Dist name) = verb_word verbs.Dist ∷ name ∷ []
command_words (commands.Card name) = verb_word verbs.Card ∷ name ∷ []
command_words commands.Show = verb_word verbs.Show ∷ []
command_words commands.Stat = verb_word verbs.Stat ∷ []

-- the one canonical text of a task
unfoldable pub task_text : Sketch → List ℕ
task_text task = join_with_byte 32 (task_words task)

-- the one canonical text of a command
unfoldable pub command_text : Command → List ℕ
command_text command = join_with_byte 32 (command_words command)

-- how many bytes a name, a kind and a number of rows have at most, with a space before each but the name
abbrev pub longest_front : ℕ
longest_front = NAME_BYTES + (1 + longest_kind) + (1 + longest_number)

-- how many bytes a part of a task has at most behind its label, by how many it has alone
abbrev pub labelled : List ℕ → ℕ → ℕ
labelled label longest = length label + longest

-- how many bytes a key, an attribute, a filter and a size have at most, each behind a space and its label
abbrev pub longest_labelled : ℕ
longest_labelled =
    labelled (codes " key=") longest_key + labelled (codes " attr=") longest_attr
    + labelled (codes " filter=") longest_filter + labelled (codes " memory=") longest_number

-- how many bytes the text of a task has at most
abbrev pub longest_task : ℕ
longest_task = longest_front + longest_labelled

-- a task that there is
pub record IsTask (task : Sketch) : Type 0 where
  pub named : IsTrue (is_name task.name)
  pub rows : IsTrue (allows_rows task.kind task.rows)
  pub key : AreLengths task.key
  pub stands : task.key ≢ no_lengths
  pub attr : IsTrue (allows task.kind task.attr)
  pub filter : IsFilter task.filter
  pub size : task.size < 2 ^ 32

-- a command that there is
abbrev pub IsCommand : Command → Type 0
IsCommand (commands.Add task) = IsTask task
IsCommand (commands.Resize name size) = IsTrue (is_name name) × (size < 2 ^ 32)
IsCommand (commands.Remove name) = IsTrue (is_name name)
IsCommand (commands.Release name) = IsTrue (is_name name)
IsCommand (commands.Packets number) = number < 2 ^ 32
IsCommand commands.Run = Unit {0}
IsCommand (commands.Read name) = IsTrue (is_name name)
IsCommand (commands.Frozen name) = IsTrue (is_name name)
IsCommand (commands.Query name at) = IsTrue (is_name name) × IsFilter at
IsCommand (commands.Dist name) = IsTrue (is_name name)
IsCommand (commands.Card name) = IsTrue (is_name name)
IsCommand commands.Show = Unit {0}
IsCommand commands.Stat = Unit {0}
