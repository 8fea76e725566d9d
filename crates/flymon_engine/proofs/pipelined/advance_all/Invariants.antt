use Rattle.std.proofs.Common.{◌≡◌, ◌<◌}
use Rattle.pipe_flight.specs.Orders.{NobodyAt}
use Rattle.pipe_flight.specs.States.{group_count}
use Rattle.rule_txn.specs.Switch.{SwitchState}
use Rattle.flymon_engine.specs.Boards.{Board}
use Rattle.flymon_engine.specs.Moves.{WasTold}
use Rattle.flymon_engine.proofs.PipelinedLemmas.{GoesTold}
use Rattle.flymon_engine.proofs.pipelined.advance_all.Given as goal

abbrev pub invariant-groups : goal.invariant-groups
invariant-groups g l = let r = g.R.RegFile in record {
  faults : r.faults l.regs ≡ r.faults l.fn.regs;
  dims : r.dims l.regs ≡ r.dims l.fn.regs;
  before : l.flight.before ≡ l.fn.flight.before;
  vacant : l.group < group_count l.pipe → NobodyAt l.group l.flight.flight;
  told : WasTold (r.contents l.fn.regs) (r.contents l.regs);
  goes : (switch : SwitchState) (board : Board) → switch.geometry ≡ l.pipe.geometry →
      GoesTold l.pipe l.fn.flight.before switch l.fn.flight.flight l.flight.flight board l.group (r.contents l.fn.regs) (r.contents l.regs) (r.calls l.fn.regs) (r.calls l.regs);
}
