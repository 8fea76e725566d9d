use Rattle.std.proofs.Common.{◌∙◌}
use Rattle.rule_txn.proofs.LookViews.{named_at}
use Rattle.rule_txn.proofs.switch.view.SwitchTaskView.find.Goals as goal

pub returns : goal.returns
returns c = c.find.ensures.place ∙ named_at c.args.name.now c.args.self.now.outlines
