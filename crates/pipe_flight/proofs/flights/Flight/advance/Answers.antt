use Rattle.std.proofs.Common.{◌<◌, map, length, sym, ap, ◌∙◌, subst, arith}
use Rattle.pipe_flight.proofs.MoveLemmas.{advance_is, IsInOrder, drain_stays, sees, seen_group, seen_below, seen_removed, seen_set, seen_moves, after_removed, after_set}
use Rattle.pipe_flight.proofs.QueueLemmas.{found_in, nobody_found}
use Rattle.addr_translate.specs.Geometry.{Geometry}
use Rattle.pipe_flight.specs.States.{FlightState, group_count}
use Rattle.pipe_flight.proofs.flights.Flight.advance.Goals as goal

pub unreachable-requires : goal.unreachable-requires
unreachable-requires g c =
    let p = c.self.inside in
    c.requires.there (nobody_found c.args.group p.waiting.items c.deref.result.now p.before c.args.self.now c.place_of.result c.self.view_is c.deref.ensures.value c.place_of.ensures c.in_default.is)

pub group_step-requires-clause-group : goal.group_step-requires-clause-group
group_step-requires-clause-group g c =
    let p = c.self.inside in let now = c.args.now.now in let one = c.index.result.now in let at = c.in-Some.place in
    let found = found_in _ p.waiting.items c.deref.result.now c.place_of.result at c.in-Some.is c.place_of.ensures c.deref.ensures.value in
    let s = sees p.waiting.items p.before c.args.self.now now c.args.group at one c.self.view_is c.self.invariant.in_order found c.index.ensures c.requires.same c.requires.vacant in
    seen_group p.waiting.items p.before c.args.self.now now c.rules_of-rules.result.now c.args.group at one s c.rules_of-rules.ensures

pub overflow_add-one : goal.overflow_add-one
overflow_add-one g c =
    let p = c.self.inside in let now = c.args.now.now in let one = c.index.result.now in let at = c.in-Some.place in
    let found = found_in _ p.waiting.items c.deref.result.now c.place_of.result at c.in-Some.is c.place_of.ensures c.deref.ensures.value in
    let s = sees p.waiting.items p.before c.args.self.now now c.args.group at one c.self.view_is c.self.invariant.in_order found c.index.ensures c.requires.same c.requires.vacant in
    let lt : one.group < group_count now = seen_below p.waiting.items p.before c.args.self.now now c.args.group at one s in
    omega (arith, (c.group_count-groups.ensures.value ∙ ap (λ (s : Geometry). length s.groups) c.shape.ensures.value), c.group_count-groups.type_inv)

pub invariant_of-self : goal.invariant_of-self
invariant_of-self g c =
    let p = c.self.inside in let now = c.args.now.now in let one = c.index.result.now in let at = c.in-Some.place in
    let found = found_in _ p.waiting.items c.deref.result.now c.place_of.result at c.in-Some.is c.place_of.ensures c.deref.ensures.value in
    let s = sees p.waiting.items p.before c.args.self.now now c.args.group at one c.self.view_is c.self.invariant.in_order found c.index.ensures c.requires.same c.requires.vacant in
    record {
      in_order = seen_removed p.waiting.items c.remove.new.self.items p.before c.args.self.now now c.args.group at c.group_count-groups.result one c.group_step.new.outs s c.remove.ensures.items (c.group_count-groups.ensures.value ∙ ap (λ (s : Geometry). length s.groups) c.shape.ensures.value) c.if-one-groups.true;
      some = c.self.invariant.some;
      has_room = omega (arith, c.self.invariant.has_room, c.remove.ensures.capacity);
    }

pub invariant_of-self-else-one-groups : goal.invariant_of-self-else-one-groups
invariant_of-self-else-one-groups g c =
    let p = c.self.inside in let now = c.args.now.now in let one = c.index.result.now in let at = c.in-Some.place in
    let found = found_in _ p.waiting.items c.deref.result.now c.place_of.result at c.in-Some.is c.place_of.ensures c.deref.ensures.value in
    let s = sees p.waiting.items p.before c.args.self.now now c.args.group at one c.self.view_is c.self.invariant.in_order found c.index.ensures c.requires.same c.requires.vacant in
    record {
      in_order = seen_set p.waiting.items p.before c.args.self.now now c.args.group at c.group_count-groups.result one c.group_step.new.outs s (c.group_count-groups.ensures.value ∙ ap (λ (s : Geometry). length s.groups) c.shape.ensures.value) c.if-one-groups.false;
      some = c.self.invariant.some;
      has_room = c.self.invariant.has_room;
    }

pub returns-then-one-groups-clause-moves : goal.returns-then-one-groups-clause-moves
returns-then-one-groups-clause-moves g c =
    let r = g.R.RegFile in
    let p = c.self.inside in let now = c.args.now.now in let one = c.index.result.now in let at = c.in-Some.place in
    let found = found_in _ p.waiting.items c.deref.result.now c.place_of.result at c.in-Some.is c.place_of.ensures c.deref.ensures.value in
    let s = sees p.waiting.items p.before c.args.self.now now c.args.group at one c.self.view_is c.self.invariant.in_order found c.index.ensures c.requires.same c.requires.vacant in
    seen_moves p.waiting.items p.before c.args.self.now now c.rules_of-rules.result.now c.args.group at one c.group_step.new.outs (map _ c.remove.new.self.items)
    (r.contents c.args.regs.now) (r.contents c.group_step.new.regs) (r.calls c.args.regs.now) (r.calls c.group_step.new.regs) s c.rules_of-rules.ensures
    (after_removed (group_count now) p.waiting.items c.remove.new.self.items at one c.group_step.new.outs c.remove.ensures.items (c.if-one-groups.true ∙ (c.group_count-groups.ensures.value ∙ ap (λ (s : Geometry). length s.groups) c.shape.ensures.value)))
    c.group_step.ensures.makes

pub returns-else-one-groups-clause-moves : goal.returns-else-one-groups-clause-moves
returns-else-one-groups-clause-moves g c =
    let r = g.R.RegFile in
    let p = c.self.inside in let now = c.args.now.now in let one = c.index.result.now in let at = c.in-Some.place in
    let found = found_in _ p.waiting.items c.deref.result.now c.place_of.result at c.in-Some.is c.place_of.ensures c.deref.ensures.value in
    let s = sees p.waiting.items p.before c.args.self.now now c.args.group at one c.self.view_is c.self.invariant.in_order found c.index.ensures c.requires.same c.requires.vacant in
    seen_moves p.waiting.items p.before c.args.self.now now c.rules_of-rules.result.now c.args.group at one c.group_step.new.outs _
    (r.contents c.args.regs.now) (r.contents c.group_step.new.regs) (r.calls c.args.regs.now) (r.calls c.group_step.new.regs) s c.rules_of-rules.ensures
    (after_set (group_count now) p.waiting.items at one c.group_step.new.outs s.there (λ e. c.if-one-groups.false (e ∙ sym (c.group_count-groups.ensures.value ∙ ap (λ (s : Geometry). length s.groups) c.shape.ensures.value))))
    c.group_step.ensures.makes

pub returns-then-one-groups-clause-drain : goal.returns-then-one-groups-clause-drain
returns-then-one-groups-clause-drain g c =
    let r = g.R.RegFile in
    let p = c.self.inside in let now = c.args.now.now in let one = c.index.result.now in let at = c.in-Some.place in
    let found = found_in _ p.waiting.items c.deref.result.now c.place_of.result at c.in-Some.is c.place_of.ensures c.deref.ensures.value in
    let s = sees p.waiting.items p.before c.args.self.now now c.args.group at one c.self.view_is c.self.invariant.in_order found c.index.ensures c.requires.same c.requires.vacant in
    drain_stays c.args.self.now.before now p.before c.args.group c.args.self.now.flight _ (r.contents c.args.regs.now) (r.contents c.group_step.new.regs) (r.calls c.args.regs.now) (r.calls c.group_step.new.regs) (ap (λ (s : FlightState). s.before) c.self.view_is) c.requires.same
    (subst IsInOrder c.self.view_is c.self.invariant.in_order)
    (seen_moves p.waiting.items p.before c.args.self.now now c.rules_of-rules.result.now c.args.group at one c.group_step.new.outs (map _ c.remove.new.self.items)
    (r.contents c.args.regs.now) (r.contents c.group_step.new.regs) (r.calls c.args.regs.now) (r.calls c.group_step.new.regs) s c.rules_of-rules.ensures
    (after_removed (group_count now) p.waiting.items c.remove.new.self.items at one c.group_step.new.outs c.remove.ensures.items (c.if-one-groups.true ∙ (c.group_count-groups.ensures.value ∙ ap (λ (s : Geometry). length s.groups) c.shape.ensures.value)))
    c.group_step.ensures.makes)

pub returns-else-one-groups-clause-drain : goal.returns-else-one-groups-clause-drain
returns-else-one-groups-clause-drain g c =
    let r = g.R.RegFile in
    let p = c.self.inside in let now = c.args.now.now in let one = c.index.result.now in let at = c.in-Some.place in
    let found = found_in _ p.waiting.items c.deref.result.now c.place_of.result at c.in-Some.is c.place_of.ensures c.deref.ensures.value in
    let s = sees p.waiting.items p.before c.args.self.now now c.args.group at one c.self.view_is c.self.invariant.in_order found c.index.ensures c.requires.same c.requires.vacant in
    drain_stays c.args.self.now.before now p.before c.args.group c.args.self.now.flight _ (r.contents c.args.regs.now) (r.contents c.group_step.new.regs) (r.calls c.args.regs.now) (r.calls c.group_step.new.regs) (ap (λ (s : FlightState). s.before) c.self.view_is) c.requires.same
    (subst IsInOrder c.self.view_is c.self.invariant.in_order)
    (seen_moves p.waiting.items p.before c.args.self.now now c.rules_of-rules.result.now c.args.group at one c.group_step.new.outs _
    (r.contents c.args.regs.now) (r.contents c.group_step.new.regs) (r.calls c.args.regs.now) (r.calls c.group_step.new.regs) s c.rules_of-rules.ensures
    (after_set (group_count now) p.waiting.items at one c.group_step.new.outs s.there (λ e. c.if-one-groups.false (e ∙ sym (c.group_count-groups.ensures.value ∙ ap (λ (s : Geometry). length s.groups) c.shape.ensures.value))))
    c.group_step.ensures.makes)

pub returns-then-one-groups-clause-step : goal.returns-then-one-groups-clause-step
returns-then-one-groups-clause-step g c =
    let r = g.R.RegFile in
    advance_is c.args.self.now.before c.args.now.now c.args.group c.args.self.now.flight _ (r.contents c.args.regs.now) (r.contents c.group_step.new.regs) (r.calls c.args.regs.now) (r.calls c.group_step.new.regs) c.requires.same
    (subst IsInOrder c.self.view_is c.self.invariant.in_order) (returns-then-one-groups-clause-moves g c)

pub returns-else-one-groups-clause-step : goal.returns-else-one-groups-clause-step
returns-else-one-groups-clause-step g c =
    let r = g.R.RegFile in
    advance_is c.args.self.now.before c.args.now.now c.args.group c.args.self.now.flight _ (r.contents c.args.regs.now) (r.contents c.group_step.new.regs) (r.calls c.args.regs.now) (r.calls c.group_step.new.regs) c.requires.same
    (subst IsInOrder c.self.view_is c.self.invariant.in_order) (returns-else-one-groups-clause-moves g c)
