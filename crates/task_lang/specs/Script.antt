-- Scripts: lines ended by LF, each empty, a comment, or one command whose words stand between blanks.
use Rattle.std.specs.Prelude.{ℕ, ◌+◌, ◌==◌, ◌&&◌, ◌||◌, Bool, true, nat_lt, nat_le, if◌then◌else◌, List, [], ◌∷◌, ◌++◌, length, codes, ok_or, Result, Ok, Err}
use Rattle.std.specs.List.{list_all}
use Rattle.std.specs.Str.Lines.{strip_carriage_return}
use Rattle.texts.specs.Cuts.{parts}
use Rattle.texts.specs.Words.{is_blank, words, word_at}
use Rattle.key_mask.specs.declared.items.FieldFault.{FieldFault}
use Rattle.key_mask.specs.Items.{◌>>=◌}
use Rattle.key_mask.specs.Keys.{key_in}
use Rattle.task_filters.specs.Terms.{filter_in}
use Rattle.task_lang.specs.declared.commands.Command.{Command}
use Rattle.task_lang.specs.declared.commands.Command.TheVariants as commands
use Rattle.task_lang.specs.declared.commands.LineFault.{LineFault}
use Rattle.task_lang.specs.declared.commands.LineFault.TheVariants as faults
use Rattle.task_lang.specs.declared.commands.ScriptFault.{ScriptFault}
use Rattle.task_lang.specs.declared.commands.Verb.{Verb}
use Rattle.task_lang.specs.declared.commands.Verb.TheVariants as verbs
use Rattle.task_lang.specs.Words.{verb_named, kind_named, full_number, name_in, rows_in, attr_in, after_label}

abbrev pub or_fault : {A : Type 0} → (FieldFault → LineFault) → Result A FieldFault → Result A LineFault
or_fault fault (Ok found) = Ok found
or_fault fault (Err found) = Err (fault found)

-- these words, where there are so many
abbrev pub counted : ℕ → List (List ℕ) → Result (List (List ℕ)) LineFault
counted count ws = if length ws == count then Ok ws else Err faults.Words

-- `add NAME KIND ROWS key=KEY attr=ATTR filter=FILTER memory=SIZE`
unfoldable pub add_in : List (List ℕ) → Result Command LineFault
add_in given = do
  ws ← counted 8 given
  key ← ok_or (after_label (codes "key=") (word_at ws 4)) faults.Words
  attr ← ok_or (after_label (codes "attr=") (word_at ws 5)) faults.Words
  filter ← ok_or (after_label (codes "filter=") (word_at ws 6)) faults.Words
  memory ← ok_or (after_label (codes "memory=") (word_at ws 7)) faults.Words
  name ← ok_or (name_in (word_at ws 1)) faults.Name
  kind ← ok_or (kind_named (word_at ws 2)) faults.Kind
  rows ← ok_or (rows_in kind (word_at ws 3)) faults.Rows
  mask ← or_fault faults.Key (key_in key)
  weight ← ok_or (attr_in kind attr) faults.Attr
  pattern ← or_fault faults.Filter (filter_in filter)
  size ← ok_or (full_number memory) faults.Size
  Ok (commands.Add (record { name = name; kind = kind; rows = rows; key = mask; attr = weight; filter = pattern; size = size }))

-- `resize NAME memory=SIZE`
unfoldable pub resize_in : List (List ℕ) → Result Command LineFault
resize_in given = do
  ws ← counted 3 given
  memory ← ok_or (after_label (codes "memory=") (word_at ws 2)) faults.Words
  name ← ok_or (name_in (word_at ws 1)) faults.Name
  size ← ok_or (full_number memory) faults.Size
  Ok (commands.Resize name size)

-- `query NAME AT`
unfoldable pub query_in : List (List ℕ) → Result Command LineFault
query_in given = do
  ws ← counted 3 given
  name ← ok_or (name_in (word_at ws 1)) faults.Name
  pattern ← or_fault faults.At (filter_in (word_at ws 2))
  Ok (commands.Query name pattern)

-- `packets NUMBER`
unfoldable pub packets_in : List (List ℕ) → Result Command LineFault
packets_in given = do
  ws ← counted 2 given
  number ← ok_or (full_number (word_at ws 1)) faults.Number
  Ok (commands.Packets number)

-- a command and the name of a task
unfoldable pub named_in : (List ℕ → Command) → List (List ℕ) → Result Command LineFault
named_in make given = do
  ws ← counted 2 given
  name ← ok_or (name_in (word_at ws 1)) faults.Name
  Ok (make name)

-- a command alone
unfoldable pub alone_in : Command → List (List ℕ) → Result Command LineFault
alone_in command given = do
  ws ← counted 1 given
  Ok command

abbrev pub command_by : Verb → List (List ℕ) → Result Command LineFault
command_by verbs.Add ws = add_in ws
command_by verbs.Resize ws = resize_in ws
command_by verbs.Remove ws = named_in commands.Remove ws
command_by verbs.Release ws = named_in commands.Release ws
command_by verbs.Packets ws = packets_in ws
command_by verbs.Run ws = alone_in commands.Run ws
command_by verbs.Read ws = named_in commands.Read ws
command_by verbs.Frozen ws = named_in commands.Frozen ws
command_by verbs.Query ws = query_in ws
command_by verbs.Dist ws = named_in commands.Dist ws
command_by verbs.Card ws = named_in commands.Card ws
command_by verbs.Show ws = alone_in commands.Show ws
command_by verbs.Stat ws = alone_in commands.Stat ws

-- the command of these words, or the first fault
unfoldable pub command_in : List (List ℕ) → Result Command LineFault
command_in ws = ok_or (verb_named (word_at ws 0)) faults.Command >>= λ verb. command_by verb ws

-- nothing but blanks, or a comment behind them
abbrev pub is_skipped : List ℕ → Bool
is_skipped [] = true
is_skipped (b ∷ bs) = if is_blank b then is_skipped bs else b == 35

-- the bytes of commands: those that print, and tabs
abbrev pub is_allowed : ℕ → Bool
is_allowed byte = byte == 9 || nat_le 32 byte && nat_le byte 126

abbrev pub one : Result Command LineFault → Result (List Command) LineFault
one (Ok command) = Ok (command ∷ [])
one (Err fault) = Err fault

-- no command, one, or the first fault
unfoldable pub plain_line_in : List ℕ → Result (List Command) LineFault
plain_line_in line =
    if is_skipped line then Ok []
    else (if list_all is_allowed line then one (command_in (words line))
    else Err faults.Byte)

-- the same, with one CR at the end left out
abbrev pub line_in : List ℕ → Result (List Command) LineFault
line_in line = plain_line_in (strip_carriage_return line)

abbrev pub at_line : {A : Type 0} → ℕ → Result A LineFault → Result A ScriptFault
at_line number (Ok found) = Ok found
at_line number (Err kind) = Err (record { line = number; kind = kind })

-- the commands that are found behind those that were found before
abbrev pub with_front : List Command → Result (List Command) ScriptFault → Result (List Command) ScriptFault
with_front before (Ok found) = Ok (before ++ found)
with_front before (Err fault) = Err fault

-- the commands of these lines, the first of which has this number, or the first fault
abbrev pub script_from : ℕ → List (List ℕ) → Result (List Command) ScriptFault
script_from number [] = Ok []
script_from number (line ∷ lines) =
    at_line number (line_in line) >>= λ found. with_front found (script_from (number + 1) lines)

-- the most bytes of a script
abbrev pub script_limit : ℕ
script_limit = 1048576

-- the commands of a script, or its first fault
unfoldable pub script_in : List ℕ → Result (List Command) ScriptFault
script_in text =
    if nat_lt script_limit (length text) then Err (record { line = 0; kind = faults.TooLong })
    else script_from 1 (parts 10 text)
