-- How a script is read line by line.
use Rattle.std.proofs.Common.{◌≡◌, ℕ, ◌+◌, ◌==◌, List, Option, None, Some, Result, Ok, Err, refl, sym, ◌∙◌, append_assoc}
use Rattle.texts.specs.Cuts.{front, back, parts}
use Rattle.texts.proofs.CutLemmas.{parts_behind, parts_first}
use Rattle.key_mask.specs.Items.{◌>>=◌}
use Rattle.task_lang.specs.declared.commands.Command.{Command}
use Rattle.task_lang.specs.declared.commands.LineFault.{LineFault}
use Rattle.task_lang.specs.declared.commands.ParseFail.{ParseFail}
use Rattle.task_lang.specs.declared.commands.ParseFail.TheVariants as fails
use Rattle.task_lang.specs.declared.commands.ScriptFault.{ScriptFault}
use Rattle.task_lang.specs.Reading.{GivesCommands, TakesLine}
use Rattle.task_lang.specs.Script.{at_line, with_front, script_from, line_in}

pub not_both : {A : Type 0} {o : Option A} (fault : A) → o ≡ Some fault → o ≡ None → ⊥
not_both fault some none = cc

taken_by : (before after : List Command) (number : ℕ) (done : Unit {0}) (read : Result (List Command) LineFault) (later : Result (List Command) ScriptFault)
    → TakesLine (Ok done) number read before after
    → with_front after later ≡ with_front before (at_line number read >>= λ found. with_front found later)
taken_by before after number done (Ok found) (Ok later) e = rw (e, append_assoc before found later) refl
taken_by before after number done (Ok found) (Err fault) e = refl
taken_by before after number done (Err fault) later e = absurd e

-- one line more
pub line_taken : (before after : List Command) (number : ℕ) (done : Unit {0}) (text line : List ℕ) (rest : Option (List ℕ))
    → line ≡ front (λ b. b == 10) text → rest ≡ back (λ b. b == 10) text → TakesLine (Ok done) number (line_in line) before after
    → with_front after (script_from (number + 1) (parts_behind 10 rest)) ≡ with_front before (script_from number (parts 10 text))
line_taken before after number done text line rest p q e =
    rw (parts_first 10 text, ← p, ← q) (taken_by before after number done (line_in line) (script_from (number + 1) (parts_behind 10 rest)) e)

line_refused : (before : List Command) (number : ℕ) (text line : List ℕ) (fault : ScriptFault)
    → line ≡ front (λ b. b == 10) text → at_line number (line_in line) ≡ Err fault
    → with_front before (script_from number (parts 10 text)) ≡ Err fault
line_refused before number text line fault p e = rw (parts_first 10 text, ← p, e) refl

-- the first line at fault, or want of memory
pub gives_refused : {A : Type 0} (view : A → List Command) (fail : ParseFail) (before after : List Command) (number : ℕ) (text line : List ℕ)
    (said : Result (List Command) ScriptFault) → line ≡ front (λ b. b == 10) text → TakesLine (Err fail) number (line_in line) before after
    → with_front before (script_from number (parts 10 text)) ≡ said → GivesCommands view (Err fail) said
gives_refused view (fails.Fault fault) before after number text line said p e same = sym same ∙ line_refused before number text line fault p e
gives_refused view fails.Memory before after number text line said p e same = tt
