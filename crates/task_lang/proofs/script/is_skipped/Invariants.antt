use Rattle.std.proofs.Common.{◌≡◌, drop}
use Rattle.task_lang.specs.Script.{is_skipped}
use Rattle.task_lang.proofs.script.is_skipped.Given as goal

abbrev pub invariant-bytes : goal.invariant-bytes
invariant-bytes l = is_skipped (drop l.byte-index l.line) ≡ is_skipped l.line
