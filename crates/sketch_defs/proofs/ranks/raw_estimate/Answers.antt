use Rattle.std.proofs.Common.{◌+◌, ◌*◌, ◌%◌, ◌^◌, ◌<◌, arith, rules}
use Rattle.sketch_defs.proofs.EstimateLemmas.{over_fits}
use Rattle.sketch_defs.proofs.ranks.raw_estimate.Goals as goal

pub overflow_mul-dividend : goal.overflow_mul-dividend
overflow_mul-dividend c =
    let fits : c.alpha-over.result.0 * (1 * 2 ^ (2 * c.args.bits + 33) % 340282366920938463463374607431768211456) < 2 ^ 128 =
    over_fits c.alpha-over.result.0 (2 * c.args.bits + 33) c.alpha-over.ensures.small_over (omega arith) in
    search rules
