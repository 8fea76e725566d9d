use Rattle.std.proofs.Common.{◌≡◌, ◌+◌, length, sym, ap, ◌∙◌, arith, rules, Vec, Err}
use Rattle.std.specs.declared.alloc.Global.{Global}
use Rattle.std.specs.Option.{option_copied}
use Rattle.texts.specs.Cuts.{left_behind, parts}
use Rattle.texts.proofs.CutLemmas.{parts_behind}
use Rattle.task_lang.specs.declared.commands.Command.{Command}
use Rattle.task_lang.specs.declared.commands.ParseFail.{ParseFail}
use Rattle.task_lang.specs.Script.{with_front, script_from}
use Rattle.task_lang.proofs.ReadLemmas.{line_taken, gives_refused}
use Rattle.task_lang.proofs.script.lines_of.Goals as goal

pub returns-in_err-take_line : goal.returns-in_err-take_line
returns-in_err-take_line c =
    let fail : ParseFail = c.in_err-take_line.field-0.0 in
    let same : c.from_residual.result ≡ Err fail = search rules in
    rw same
    (gives_refused {A = Vec Command Global} (λ commands. commands.items) fail c.lines.commands.items c.take_line.new.commands.items c.lines.number
    c.in-Some.text.now c.cut.result.0.now (script_from 1 (parts 10 c.args.text.now)) c.cut.ensures.front c.in_err-take_line.ensures
    (ap (λ o. with_front c.lines.commands.items (script_from c.lines.number (parts_behind 10 (option_copied o)))) (sym c.in-Some.is) ∙ c.lines.invariant.same))

pub lines-preserved : goal.lines-preserved
lines-preserved c =
    let taken = line_taken c.lines.commands.items c.take_line.new.commands.items c.lines.number c.in_ok-take_line.field-0
    c.in-Some.text.now c.cut.result.0.now (option_copied c.cut.result.1) c.cut.ensures.front c.cut.ensures.back c.in_ok-take_line.ensures in
    let left : left_behind (option_copied c.lines.left) ≡ length c.in-Some.text.now + 1 = ap (λ o. left_behind (option_copied o)) c.in-Some.is in
    record {
      same = taken
          ∙ ap (λ o. with_front c.lines.commands.items (script_from c.lines.number (parts_behind 10 (option_copied o)))) (sym c.in-Some.is)
          ∙ c.lines.invariant.same;
      room = omega (arith, left, c.cut.ensures.room, c.lines.invariant.room);
      short = c.lines.invariant.short;
    }
