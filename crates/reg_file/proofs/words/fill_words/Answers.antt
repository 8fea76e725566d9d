-- What a fill of one array leaves of the others.
use Rattle.std.proofs.Common.{arith}
use Rattle.std.proofs.lemmas.Grind.{common_steps}
use Rattle.reg_file.proofs.Places.{flat-others}
use Rattle.reg_file.proofs.words.fill_words.Goals as goal

pub returns-clause-arrays : goal.returns-clause-arrays
returns-clause-arrays c = flat-others _ _ _ _
    (λ k below. grind (arith, common_steps))
    (λ k above. grind (arith, common_steps))
