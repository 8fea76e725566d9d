use Rattle.std.proofs.Common.{◌==◌, sym, ◌∙◌}
use Rattle.std.proofs.lemmas.List.{take_rest}
use Rattle.texts.proofs.CutLemmas.{back_found}
use Rattle.texts.proofs.cuts.cut.Goals as goal

pub returns-in-Some-clause-back : goal.returns-in-Some-clause-back
returns-in-Some-clause-back c = rw take_rest (sym (back_found (λ b. b == c.args.separator) c.args.text.now c.in-Some.place (sym c.place_of.ensures ∙ c.in-Some.is)))
