use Rattle.std.proofs.Common.{refl, arith}
use Rattle.gen_capture.proofs.RestLemmas.{rest_next, rest_end}
use Rattle.gen_capture.proofs.reading.go_on.Goals as goal
use Rattle.gen_capture.proofs.reading.go_on.Goals.{then-place-gt0-via-then-place-gt0, then-place-gt0-via-else-place-gt0+then-place-count}

pub returns-then-place-gt0-clause-end : goal.returns-then-place-gt0-clause-end
returns-then-place-gt0-clause-end c = λ none. elim c.then-place-gt0.branch [
  | then-place-gt0-via-then-place-gt0 w ↦ absurd (omega (arith, none))
  | then-place-gt0-via-else-place-gt0+then-place-count w ↦ rest_end c.args.count c.args.place none (omega arith)
]

pub returns-clause-rest : goal.returns-clause-rest
returns-clause-rest c = rest_next c.args.count c.args.place _ (omega arith) (omega arith) refl c.step.ensures refl
