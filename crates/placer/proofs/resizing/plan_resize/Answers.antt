use Rattle.std.proofs.Common.{◌≤◌, ◌^◌, length, arith}
use Rattle.std.proofs.lemmas.List.{get_or_default}
use Rattle.placer.proofs.LookLemmas.{few_distinct}
use Rattle.placer.proofs.resizing.plan_resize.Goals as goal

pub overflow_cast-result : goal.overflow_cast-result
overflow_cast-result c =
    let small : length c.args.arrays.now ≤ 2 ^ 32 = few_distinct c.args.arrays.now (2 ^ 32) c.requires.differ (λ k d within. omega (arith, c.type_inv.arrays k, get_or_default c.args.arrays.now k d 0 within)) in
    omega (arith, small, c.in-Some.ensures.exists)
