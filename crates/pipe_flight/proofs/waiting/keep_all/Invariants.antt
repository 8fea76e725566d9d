use Rattle.std.proofs.Common.{◌≡◌, take, drop, map}
use Rattle.pipe_flight.proofs.waiting.keep_all.Given as goal
use Rattle.pipe_flight.specs.States.{kept_waiting}

abbrev pub invariant-all : goal.invariant-all
invariant-all l = record {
  front : take l.one-index l.waiting ≡ map kept_waiting (take l.one-index l.initial.waiting);
  back : drop l.one-index l.waiting ≡ drop l.one-index l.initial.waiting;
}
