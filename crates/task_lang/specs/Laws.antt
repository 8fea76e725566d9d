-- What holds of all texts of commands.
use Rattle.std.specs.Prelude.{◌≡◌, ℕ, List, [], ◌∷◌, Ok}
use Rattle.task_lang.specs.declared.commands.Command.{Command}
use Rattle.task_lang.specs.Canonical.{IsCanonical}
use Rattle.task_lang.specs.Printing.{command_text}
use Rattle.task_lang.specs.Script.{script_in}

-- a canonical text that reads as a command is that command's printed text: no other is canonical for it
abbrev pub CanonicalIsPrinted : Type 0
CanonicalIsPrinted = (text : List ℕ) (command : Command) → IsCanonical text → script_in text ≡ Ok (command ∷ [])
    → text ≡ command_text command
