use Rattle.std.proofs.Common.{◌<◌, length, arith}
use Rattle.pipe_flight.proofs.KeepLemmas.{front_more, back_more}
use Rattle.pipe_flight.proofs.waiting.keep_all.Goals as goal

pub all-preserved : goal.all-preserved
all-preserved c =
    let lt : c.all.one-index < length c.all.waiting = omega arith in
    record {
      front = front_more c.args.waiting.now c.all.waiting c.all.one-index _ lt c.all-test.true c.all.invariant.front c.all.invariant.back;
      back = back_more c.args.waiting.now c.all.waiting c.all.one-index _ c.all.invariant.back;
    }
