use Rattle.std.proofs.Common.{◌-◌, length, refl, sym, ap, ◌∙◌, subst, arith}
use Rattle.outside.proofs.ToldLemmas.{told_then}
use Rattle.addr_translate.specs.Geometry.{Geometry}
use Rattle.pipe_core.specs.Rules.{Rules, SameShape}
use Rattle.pipe_flight.specs.States.{versions, group_count}
use Rattle.flymon_engine.proofs.PipelinedLemmas.{told_first, told_on, told_none, told_last, advance_under, left_behind}
use Rattle.flymon_engine.proofs.SerialLemmas.{told_here}
use Rattle.flymon_engine.proofs.pipelined.advance_all.Goals as goal

pub groups-init : goal.groups-init
groups-init g c = let r = g.R.RegFile in
    let count = c.group_count-group.ensures.value ∙ ap (λ (s : Geometry). length s.groups) c.shape.ensures.value in
    record {
      faults = refl;
      dims = refl;
      before = refl;
      vacant = λ less. absurd (omega (arith, count, less));
      told = told_here _ (r.contents c.args.regs.now) (λ d. tt);
      goes = λ switch board shape. told_first c.args.pipe.now c.args.flight.now.before switch c.args.flight.now.flight board c.group_count-group.result
          (r.contents c.args.regs.now) (r.calls c.args.regs.now) count;
    }

pub groups-preserved : goal.groups-preserved
groups-preserved g c = let r = g.R.RegFile in
    let nobody = c.if-not-vacant.ensures.vacant.0 refl in
    record {
      faults = c.groups.invariant.faults;
      dims = c.groups.invariant.dims;
      before = c.groups.invariant.before;
      vacant = λ less. nobody;
      told = c.groups.invariant.told;
      goes = λ switch board shape. told_none c.args.pipe.now c.args.flight.now.before switch c.args.flight.now.flight c.groups.flight.flight board c.groups.group (c.groups.group - 1)
          (r.contents c.args.regs.now) (r.contents c.groups.regs) (r.calls c.args.regs.now) (r.calls c.groups.regs) (omega arith) nobody (c.groups.invariant.goes switch board shape);
    }

pub groups-preserved-then-not-vacant : goal.groups-preserved-then-not-vacant
groups-preserved-then-not-vacant g c = let r = g.R.RegFile in
    let group = c.groups.group - 1 in
    let pipe = c.args.pipe.now in
    let order = c.vacant.ensures.order in
    let kept = c.groups.invariant.before in
    let same : SameShape c.groups.flight.before pipe = subst (λ (b : Rules). SameShape b pipe) (sym kept) c.requires.same in
    record {
      faults = c.advance.ensures.faults ∙ c.groups.invariant.faults;
      dims = c.advance.ensures.dims ∙ c.groups.invariant.dims;
      before = c.advance.ensures.before ∙ kept;
      vacant = λ less. left_behind (versions pipe c.groups.flight.before) (group_count c.groups.flight.before) group c.groups.flight.flight c.advance.new.self.flight
          (r.contents c.groups.regs) (r.contents c.advance.new.regs) (r.calls c.groups.regs) (r.calls c.advance.new.regs) order.falls c.advance.ensures.moves;
      told = told_then (r.contents c.args.regs.now) (r.contents c.groups.regs) (r.contents c.advance.new.regs) (λ x y z p q. tt) c.groups.invariant.told c.advance.ensures.drain;
      goes = λ switch board shape. told_on pipe c.args.flight.now.before switch c.args.flight.now.flight c.groups.flight.flight c.advance.new.self.flight board c.groups.group group
          (r.contents c.args.regs.now) (r.contents c.groups.regs) (r.contents c.advance.new.regs) (r.calls c.args.regs.now) (r.calls c.groups.regs) (r.calls c.advance.new.regs)
          (omega arith) (c.groups.invariant.goes switch board shape)
          (advance_under pipe c.args.flight.now.before c.groups.flight.before c.advance.new.self.before switch group c.groups.flight.flight c.advance.new.self.flight
          (r.contents c.groups.regs) (r.contents c.advance.new.regs) (r.calls c.groups.regs) (r.calls c.advance.new.regs)
          kept c.advance.ensures.before same order shape c.advance.ensures.moves c.advance.ensures.drain);
    }

pub returns-clause-moves : goal.returns-clause-moves
returns-clause-moves g c = let r = g.R.RegFile in
    λ switch board shape. told_last c.args.pipe.now c.args.flight.now.before switch c.args.flight.now.flight c.groups.flight.flight board c.groups.group
    (r.contents c.args.regs.now) (r.contents c.groups.regs) (r.calls c.args.regs.now) (r.calls c.groups.regs) (omega arith) (c.groups.invariant.goes switch board shape)
