-- What the reader of a script gives, beside what the grammar says.
use Rattle.std.specs.Prelude.{◌≡◌, ℕ, List, [], ◌∷◌, ◌++◌, Option, None, Some, Result, Ok, Err}
use Rattle.task_lang.specs.declared.commands.Command.{Command}
use Rattle.task_lang.specs.declared.commands.LineFault.{LineFault}
use Rattle.task_lang.specs.declared.commands.ParseFail.{ParseFail}
use Rattle.task_lang.specs.declared.commands.ParseFail.TheVariants as fails
use Rattle.task_lang.specs.declared.commands.ScriptFault.{ScriptFault}
use Rattle.task_lang.specs.Script.{at_line, named_in}

-- the commands that the grammar says, or its fault; nothing is said where memory was wanting
abbrev pub GivesCommands : {A : Type 0} → (A → List Command) → Result A ParseFail
    → Result (List Command) ScriptFault → Type 0
GivesCommands view (Ok found) said = said ≡ Ok (view found)
GivesCommands view (Err (fails.Fault fault)) said = said ≡ Err fault
GivesCommands view (Err fails.Memory) said = Unit {0}

-- the commands behind those of the line of this number, or its fault; nothing is said where memory was wanting
abbrev pub TakesLine : Result (Unit {0}) ParseFail → ℕ → Result (List Command) LineFault
    → List Command → List Command → Type 0
TakesLine (Ok done) number (Ok found) before after = after ≡ before ++ found
TakesLine (Ok done) number (Err fault) before after = ⊥
TakesLine (Err (fails.Fault fault)) number said before after = at_line number said ≡ Err fault
TakesLine (Err fails.Memory) number said before after = Unit {0}

-- a command or none, as a list
abbrev pub command_list : Result (Option Command) LineFault → Result (List Command) LineFault
command_list (Ok None) = Ok []
command_list (Ok (Some command)) = Ok (command ∷ [])
command_list (Err fault) = Err fault

-- the command that is made of a name, where one was found
abbrev pub named_command : (List ℕ → Command) → Result (List ℕ) LineFault → Result Command LineFault
named_command make (Ok name) = Ok (make name)
named_command make (Err fault) = Err fault

-- what is read here makes each command that has a name alone
abbrev pub ReadsName : Result (List ℕ) LineFault → List (List ℕ) → Type 0
ReadsName found ws = (make : List ℕ → Command) → named_in make ws ≡ named_command make found
