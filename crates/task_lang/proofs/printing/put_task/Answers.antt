use Rattle.std.proofs.Common.{◌≡◌, ◌++◌, ap, ◌∙◌}
use Rattle.task_lang.specs.Printing.{task_text}
use Rattle.task_lang.proofs.PrintLemmas.{task_canonical}
use Rattle.task_lang.proofs.printing.put_task.Goals as goal

pub returns-clause-canonical : goal.returns-clause-canonical
returns-clause-canonical c =
    let same : c.put_parts.new.line.bytes ≡ task_text c.args.task.now =
    c.put_parts.ensures.text ∙ ap (λ front. front ++ task_text c.args.task.now) c.new-line.ensures in
    task_canonical c.put_parts.new.line.bytes c.args.task.now same c.put_parts.ensures.known
