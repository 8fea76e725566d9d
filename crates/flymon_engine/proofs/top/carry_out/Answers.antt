use Rattle.std.proofs.Common.{◌≡◌, List, Result, Err, sym, ◌∙◌, subst}
use Rattle.task_lang.specs.declared.commands.Command.{Command}
use Rattle.flymon_engine.specs.declared.stop.Halt.{Halt}
use Rattle.flymon_engine.specs.declared.stop.Stop.{Stop}
use Rattle.flymon_engine.specs.Causes.{HasCause}
use Rattle.flymon_engine.specs.Opening.{Opens}
use Rattle.flymon_engine.specs.Words.{Carry}
use Rattle.flymon_engine.specs.Endings.{Promises, seen}
use Rattle.flymon_engine.proofs.EndLemmas.{carried_on, promises_carried, cause_of_run, err_holds}
use Rattle.fm_io.proofs.SlotLemmas.{slot_then}
use Rattle.flymon_engine.proofs.FileLemmas.{opens_later, strays_later}
use Rattle.flymon_engine.proofs.top.carry_out.Goals as goal

pub returns-clause-promises : goal.returns-clause-promises
returns-clause-promises g c = let r = g.R.RegFile in let f = g.F.Files in let m = g.M.Machine in let o = g.O.Sink in
    let before = seen f r o c.args.files.now c.args.regs.now c.args.out.now in
    let files = c.carry_all-carried.new.files in let regs = c.finish.new.regs in let out = c.carry_all-carried.new.out in
    let after = seen f r o files regs out in
    let names = c.args.names in let opened = c.in-Ok.opened in
    let cause : (halt : Halt) → c.carry_all-carried.result ≡ Err halt → HasCause (f.faults c.args.files.now) (f.faults files) (f.last files) (r.faults c.args.regs.now) (r.faults regs) (o.faults c.args.out.now) (o.faults out) halt =
    λ halt e. cause_of_run halt (f.faults c.args.files.now) (f.faults c.open_files.new.files) (f.faults files) (f.last files) (r.faults c.args.regs.now) (r.faults c.start.new.regs) (r.faults c.carry_all-carried.new.regs) (r.faults regs)
    (o.faults c.args.out.now) (o.faults out) c.open_files.ensures.later c.start.ensures.later c.finish.ensures.faults
    (err_holds (HasCause (f.faults c.open_files.new.files) (f.faults files) (f.last files) (r.faults c.start.new.regs) (r.faults c.carry_all-carried.new.regs) (o.faults c.args.out.now) (o.faults out))
    c.carry_all-carried.result halt e c.carry_all-carried.ensures.cause) in
    let attached : (f.slots files).capture.attached ≡ (f.slots c.open_files.new.files).capture.attached = c.carry_all-carried.ensures.attached ∙ sym c.in-Ok.ensures.attached in
    let opens : Opens names.profile.now names.script.now names.capture.now (f.directory files) (f.slots files) opened.profile c.deref.result.now =
    subst (λ (cs : List Command). Opens names.profile.now names.script.now names.capture.now (f.directory files) (f.slots files) opened.profile cs) (sym c.deref.ensures.value)
    (opens_later names.profile.now names.script.now names.capture.now (f.directory c.open_files.new.files) (f.directory files) (f.slots c.open_files.new.files) (f.slots files)
    opened.profile opened.commands.items c.carry_all-carried.ensures.directory c.carry_all-carried.ensures.others
    (record { attached = attached; cursor = c.carry_all-carried.ensures.cursor }) c.in-Ok.ensures.opens) in
    λ way. subst (λ (x : Result (Unit {0}) Stop). Promises m.rules m.lays (Carry way names.profile.now names.script.now names.capture.now) x before after) (sym c.ending.ensures)
    (promises_carried m.rules m.lays way names.profile.now names.script.now names.capture.now before after c.carry_all-carried.result cause (record {
      setup = opened.profile;
      commands = c.deref.result.now;
      opened = opens;
      attached = c.carry_all-carried.ensures.attached;
      shaped = c.finish.ensures.dims ∙ (c.carry_all-carried.ensures.dims ∙ c.in-Ok-start.ensures.dims);
      strays = strays_later (f.directory c.open_files.new.files) (f.directory files) (f.strays c.args.files.now) (f.strays c.open_files.new.files) (f.strays files)
          c.carry_all-carried.ensures.directory c.in-Ok.ensures.strays c.carry_all-carried.ensures.strays;
      carried = carried_on m.rules (m.stands c.in-Ok-start.machine) (m.stands c.carry_all-carried.new.machine) m.lays opened.profile opened.capture before after c.carry_all-carried.result c.deref.result.now
          (f.slots c.open_files.new.files).capture.cursor (f.slots files).capture.cursor (r.contents c.start.new.regs) (r.contents c.carry_all-carried.new.regs) (r.contents regs)
          (r.calls c.start.new.regs) (r.calls c.carry_all-carried.new.regs)
          c.in-Ok.ensures.begun c.in-Ok-start.ensures.cells c.carry_all-carried.ensures.cursor c.carry_all-carried.ensures.cells c.finish.ensures.told
          c.carry_all-carried.ensures.run c.finish.ensures.moves c.in-Ok-start.ensures.calls;
    }))

pub returns-clause-standard : goal.returns-clause-standard
returns-clause-standard g c = let f = g.F.Files in
    λ e. slot_then (f.slots c.args.files.now).profile (f.slots c.open_files.new.files).profile (f.slots c.carry_all-carried.new.files).profile (λ x y z p q. q ∙ p)
    (c.open_files.ensures.standard e) c.carry_all-carried.ensures.others.profile
