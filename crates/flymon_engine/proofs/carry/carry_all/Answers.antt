use Rattle.std.proofs.Common.{◌≡◌, ◌+◌, ◌∷◌, ◌++◌, take, drop, rules, refl, arith}
use Rattle.flymon_engine.specs.Runs.{carried}
use Rattle.flymon_engine.specs.Arrivals.{Comes}
use Rattle.flymon_engine.specs.Works.{work_of, works_of}
use Rattle.flymon_engine.proofs.WorldLemmas.{where_weaker, then_where, on_same, on_then, was_same, was_then}
use Rattle.flymon_engine.proofs.StepLemmas.{works_next, works_whole, works_all, reaches_none, reaches_more, stops_at, finishes}
use Rattle.fm_io.proofs.SlotLemmas.{others_same, others_then, directory_same, directory_then}
use Rattle.flymon_engine.proofs.carry.carry_all.Goals as goal

pub commands-init : goal.commands-init
commands-init g c = let r = g.R.RegFile in let f = g.F.Files in let m = g.M.Machine in let o = g.O.Sink in record {
  attached = search rules;
  ready = search rules;
  fits = search rules;
  dims = search rules;
  strays = refl;
  directory = directory_same (f.directory c.args.files.now);
  others = others_same 2 (f.slots c.args.files.now);
  later = search rules;
  regs_later = search rules;
  out_later = search rules;
  cursor = on_same (f.slots c.args.files.now).capture.cursor;
  cells = was_same (r.contents c.args.regs.now);
  run = λ before start at. where_weaker (f.slots c.args.files.now).capture.cursor (r.contents c.args.regs.now)
      (λ t d. reaches_none m.rules (m.stands c.args.machine.now) (Comes c.args.capture.now) before (r.calls c.args.regs.now) (o.sent c.args.out.now) start t d) at;
}

pub returns-in-Err-clause-run : goal.returns-in-Err-clause-run
returns-in-Err-clause-run g c = let r = g.R.RegFile in let f = g.F.Files in let m = g.M.Machine in let o = g.O.Sink in
    λ before start at.
    let commands = works_of c.args.commands.now in let index = c.commands.command-index in
    let command = work_of c.command-item.result in
    let here = carried m.rules start (take index commands) in
    let whole : take index commands ++ command ∷ drop (index + 1) commands ≡ commands =
    works_whole c.args.commands.now index c.command-item.result c.commands-test.true c.command-item.is in
    then_where (f.slots c.commands.files).capture.cursor (f.slots c.carry_one.new.files).capture.cursor (r.contents c.commands.regs) (r.contents c.carry_one.new.regs)
    (λ t d reaches. reaches.now)
    (λ t d u e reaches halts. stops_at m.rules (m.stands c.carry_one.new.machine) before (r.calls c.carry_one.new.regs) (o.sent c.carry_one.new.out)
    start (take index commands) (drop (index + 1) commands) commands command c.in-Err.halt u e whole reaches.unmet halts)
    c.carry_one.ensures.cursor c.carry_one.ensures.cells (c.in-Err.ensures.run before here)
    (c.commands.invariant.run before start at)

pub commands-preserved : goal.commands-preserved
commands-preserved g c = let r = g.R.RegFile in let f = g.F.Files in let m = g.M.Machine in let o = g.O.Sink in record {
  attached = search rules;
  ready = search rules;
  fits = search rules;
  dims = search rules;
  strays = search rules;
  directory = directory_then (f.directory c.args.files.now) (f.directory c.commands.files) (f.directory c.carry_one.new.files) c.commands.invariant.directory c.carry_one.ensures.directory;
  others = others_then 2 (f.slots c.args.files.now) (f.slots c.commands.files) (f.slots c.carry_one.new.files) c.commands.invariant.others c.carry_one.ensures.others;
  later = search rules;
  regs_later = search rules;
  out_later = search rules;
  cursor = on_then (f.slots c.args.files.now).capture.cursor (f.slots c.commands.files).capture.cursor (f.slots c.carry_one.new.files).capture.cursor
      c.commands.invariant.cursor c.carry_one.ensures.cursor;
  cells = was_then (r.contents c.args.regs.now) (r.contents c.commands.regs) (r.contents c.carry_one.new.regs) c.commands.invariant.cells c.carry_one.ensures.cells;
  run = λ before start at.
      let commands = works_of c.args.commands.now in let index = c.commands.command-index in
      let command = work_of c.command-item.result in
      let here = carried m.rules start (take index commands) in
      then_where (f.slots c.commands.files).capture.cursor (f.slots c.carry_one.new.files).capture.cursor (r.contents c.commands.regs) (r.contents c.carry_one.new.regs)
      (λ t d reaches. reaches.now)
      (λ t d u e reaches to. reaches_more m.rules (m.stands c.carry_one.new.machine) (Comes c.carry_one.new.capture) before (r.calls c.carry_one.new.regs) (o.sent c.carry_one.new.out)
      start (take index commands) (take (index + 1) commands) command u e (works_next c.args.commands.now index c.command-item.result c.commands-test.true c.command-item.is) reaches.unmet to)
      c.carry_one.ensures.cursor c.carry_one.ensures.cells (c.in-Ok.ensures.run before here)
      (c.commands.invariant.run before start at);
}

pub returns-clause-run : goal.returns-clause-run
returns-clause-run g c = let r = g.R.RegFile in let f = g.F.Files in let m = g.M.Machine in let o = g.O.Sink in
    λ before start at. where_weaker (f.slots c.commands.files).capture.cursor (r.contents c.commands.regs)
    (λ t d. finishes m.rules (m.stands c.commands.machine) (Comes c.commands.capture) before (r.calls c.commands.regs) (o.sent c.commands.out) start
    (take c.commands.command-index (works_of c.args.commands.now)) (works_of c.args.commands.now) t d (works_all c.args.commands.now c.commands.command-index (omega arith)))
    (c.commands.invariant.run before start at)

pub returns-in-Err-clause-cursor : goal.returns-in-Err-clause-cursor
returns-in-Err-clause-cursor g c = let f = g.F.Files in
    on_then (f.slots c.args.files.now).capture.cursor (f.slots c.commands.files).capture.cursor (f.slots c.carry_one.new.files).capture.cursor
    c.commands.invariant.cursor c.carry_one.ensures.cursor

pub returns-in-Err-clause-cells : goal.returns-in-Err-clause-cells
returns-in-Err-clause-cells g c = let r = g.R.RegFile in
    was_then (r.contents c.args.regs.now) (r.contents c.commands.regs) (r.contents c.carry_one.new.regs) c.commands.invariant.cells c.carry_one.ensures.cells

pub returns-in-Err-clause-directory : goal.returns-in-Err-clause-directory
returns-in-Err-clause-directory g c = let f = g.F.Files in directory_then (f.directory c.args.files.now) (f.directory c.commands.files) (f.directory c.carry_one.new.files) c.commands.invariant.directory c.carry_one.ensures.directory

pub returns-in-Err-clause-others : goal.returns-in-Err-clause-others
returns-in-Err-clause-others g c = let f = g.F.Files in others_then 2 (f.slots c.args.files.now) (f.slots c.commands.files) (f.slots c.carry_one.new.files) c.commands.invariant.others c.carry_one.ensures.others
