use Rattle.std.proofs.Common.{◌≡◌, ◌+◌, ◌≤◌, length}
use Rattle.std.specs.Option.{option_copied}
use Rattle.texts.specs.Cuts.{left_behind, parts}
use Rattle.texts.proofs.CutLemmas.{parts_behind}
use Rattle.task_lang.specs.Script.{with_front, script_from, script_limit}
use Rattle.task_lang.proofs.script.lines_of.Given as goal

abbrev pub invariant-lines : goal.invariant-lines
invariant-lines l = record {
  same : with_front l.commands.items (script_from l.number (parts_behind 10 (option_copied l.left))) ≡ script_from 1 (parts 10 l.fn.text);
  room : l.number + left_behind (option_copied l.left) ≤ length l.fn.text + 2;
  short : length l.fn.text ≤ script_limit;
}

abbrev pub decreases-lines : goal.decreases-lines
decreases-lines l = left_behind (option_copied l.left)
