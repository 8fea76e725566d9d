use Rattle.std.proofs.Common.{◌≡◌, ◌∙◌, ap, rules}
use Rattle.capture_read.specs.declared.records.CaptureFault.TheVariants.{Read}
use Rattle.capture_read.specs.declared.reader.BeginFail.TheVariants.{Fault}
use Rattle.fm_io.proofs.SlotLemmas.{directory_same, directory_then, others_then}
use Rattle.flymon_engine.proofs.FileLemmas.{attached_there, header_read, header_stops, header_cause, header_names, valid_later, strays_later}
use Rattle.flymon_engine.proofs.opening.capture_of.Goals as goal

pub returns-in-Ok-clause-header : goal.returns-in-Ok-clause-header
returns-in-Ok-clause-header g c = let f = g.F.Files in record {
  there = (attached_there c.args.names.capture.now (f.directory c.attach.new.self) (f.directory c.begin.new.files) c.in_default.field-0
      (f.strays c.args.files.now) (f.strays c.attach.new.self) c.begin.ensures.directory c.in_default.ensures.strays).0;
  text = header_read c.in-Ok.capture c.args.names.capture.now (f.directory c.attach.new.self) (f.directory c.begin.new.files)
      (f.slots c.attach.new.self).capture (f.slots c.begin.new.files).capture c.in_default.ensures.slot.attached c.in_default.ensures.slot.cursor
      c.begin.ensures.directory c.in-Ok.ensures.slot;
}

pub returns-in-Err-Fault : goal.returns-in-Err-Fault
returns-in-Err-Fault g c = let f = g.F.Files in
    let d0 = f.directory c.args.files.now in let d1 = f.directory c.attach.new.self in let d2 = f.directory c.begin.new.files in
    let s0 = f.slots c.args.files.now in let s1 = f.slots c.attach.new.self in let s2 = f.slots c.begin.new.files in
    let directory = directory_then d0 d1 d2 c.in_default.ensures.directory c.begin.ensures.directory in
    let others = others_then 2 s0 s1 s2 c.in_default.ensures.others c.begin.ensures.others in
    let there = attached_there c.args.names.capture.now d1 d2 c.in_default.field-0
    (f.strays c.args.files.now) (f.strays c.attach.new.self) c.begin.ensures.directory c.in_default.ensures.strays in
    rw c.header_refusal.ensures (record {
      later = search rules;
      cause = header_cause c.in-Err-Fault.fault (f.faults c.args.files.now) (f.faults c.attach.new.self) (f.faults c.begin.new.files) (f.last c.attach.new.self) (f.last c.begin.new.files)
          (search rules) (λ e. c.in-Err-Fault.ensures.read (let both : c.in-Err-Fault.field-0 ≡ Fault Read = c.in-Err-Fault.field-0-is ∙ ap Fault e in cc))
          (rw c.in-Err-Fault.field-0-is at c.in-Err-Fault.ensures.last);
      directory = directory;
      others = others;
      header = tt;
      attached = tt;
      ready = tt;
      begun = tt;
      refused = λ valid. header_stops c.in-Err-Fault.fault c.args.names.profile.now c.args.names.script.now c.args.names.capture.now d1 d2 s1.capture s2
          c.in_default.ensures.slot.attached c.in_default.ensures.slot.cursor c.begin.ensures.directory (rw c.in-Err-Fault.field-0-is at c.in-Err-Fault.ensures.slot) there.0
          (valid_later c.args.names.profile.now c.args.names.script.now d0 d2 s0 s2 directory others.profile others.script valid);
      strays = header_names c.in-Err-Fault.fault c.args.names.profile.now c.args.names.script.now c.args.names.capture.now d2 (f.strays c.args.files.now) (f.strays c.begin.new.files)
          (strays_later d2 d2 (f.strays c.args.files.now) (f.strays c.attach.new.self) (f.strays c.begin.new.files) (directory_same d2) there.1 c.begin.ensures.strays);
    })
