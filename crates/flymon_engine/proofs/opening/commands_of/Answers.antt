use Rattle.std.proofs.Common.{Ok, Err}
use Rattle.flymon_engine.proofs.FileLemmas.{script_told, has_later}
use Rattle.flymon_engine.proofs.opening.commands_of.Goals as goal

pub returns-in-Ok-parse_script-clause-gives : goal.returns-in-Ok-parse_script-clause-gives
returns-in-Ok-parse_script-clause-gives g c = let f = g.F.Files in
    script_told (Ok c.in-Ok-parse_script.commands.items) c.args.names.script.now c.in-Ok.text.items (f.directory c.bytes_of.new.files) (f.slots c.bytes_of.new.files).script
    c.in-Ok.ensures.text (rw c.deref.ensures.value at c.in-Ok-parse_script.ensures)

pub returns-in-Err-Fault-clause-refused : goal.returns-in-Err-Fault-clause-refused
returns-in-Err-Fault-clause-refused g c = let f = g.F.Files in
    λ has. (
      has_later c.args.names.profile.now (f.directory c.args.files.now) (f.directory c.bytes_of.new.files) (f.slots c.args.files.now) (f.slots c.bytes_of.new.files)
          c.bytes_of.ensures.directory c.bytes_of.ensures.others.profile has,
      script_told (Err c.in-Err-Fault.fault) c.args.names.script.now c.in-Ok.text.items (f.directory c.bytes_of.new.files) (f.slots c.bytes_of.new.files).script
          c.in-Ok.ensures.text (rw (c.deref.ensures.value, c.in-Err-Fault.field-0-is) at c.in-Err-Fault.ensures),
    )
