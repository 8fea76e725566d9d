use Rattle.task_lang.proofs.PrintLemmas.{command_again, command_canonical}
use Rattle.task_lang.proofs.printing.put_command.Goals as goal

pub returns-clause-again : goal.returns-clause-again
returns-clause-again c =
    command_again c.command_line.result.bytes c.args.command.now c.command_line.ensures.text c.command_line.ensures.known c.command_line.ensures.short

pub returns-clause-canonical : goal.returns-clause-canonical
returns-clause-canonical c = command_canonical c.command_line.result.bytes c.args.command.now c.command_line.ensures.text c.command_line.ensures.known
