use Rattle.std.proofs.Common.{refl}
use Rattle.gen_capture.proofs.RestLemmas.{rest_first}
use Rattle.gen_capture.proofs.reading.start_of.Goals as goal

pub returns-then-eq-2-clause-placed : goal.returns-then-eq-2-clause-placed
returns-then-eq-2-clause-placed c = λ count. rest_first c.args.seed count _ refl refl refl
