use Rattle.switch_model.proofs.LayoutLemmas as lemmas
use Rattle.switch_model.proofs.laws.change_keeps_layout.Goals as goal

pub returns : goal.returns
returns c = lemmas.change_keeps_layout
