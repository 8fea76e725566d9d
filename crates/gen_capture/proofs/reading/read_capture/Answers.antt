use Rattle.std.proofs.Common.{drop, refl, ap, ◌∙◌, arith}
use Rattle.gen_capture.proofs.RestLemmas.{rest_behind}
use Rattle.gen_capture.proofs.reading.read_capture.Goals as goal

pub returns-clause-left : goal.returns-clause-left
returns-clause-left c =
    let n = c.copy_present-read.result in
    rest_behind c.args.count n c.go_on.result _ refl refl refl (omega arith) ∙ ap (drop n) c.go_on.ensures.rest
