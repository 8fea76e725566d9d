use Rattle.std.proofs.lemmas.Result.{err_from_is_err_and}
use Rattle.flymon_engine.proofs.FileLemmas.{profile_later, reads_later}
use Rattle.task_lang.specs.Script.{script_in}
use Rattle.std.proofs.Common.{◌≡◌, Ok}
use Rattle.flymon_engine.proofs.opening.open_files.Goals as goal

pub returns-in_err-capture-clause-refused : goal.returns-in_err-capture-clause-refused
returns-in_err-capture-clause-refused g c = let f = g.F.Files in
    let p = err_from_is_err_and c.from_residual-in_err-capture.result c.from_residual-in_err-capture.ensures.1 in
    rw (p.1, p.2) (c.in_err-capture.ensures.refused (record {
      profile = (
        c.in_ok-profile.profile,
        profile_later c.args.names.profile.now (f.directory c.profile_of.new.files) (f.directory c.commands_of.new.files)
            (f.slots c.profile_of.new.files) (f.slots c.commands_of.new.files) c.in_ok-profile.profile c.commands_of.ensures.directory c.commands_of.ensures.others.profile c.in_ok-profile.ensures.gives,
      );
      commands = c.in_ok-commands.commands.items;
      script_text = c.in_ok-commands.ensures.gives;
    }))

pub returns-clause-opens : goal.returns-clause-opens
returns-clause-opens g c = let f = g.F.Files in record {
  profile_text = profile_later c.args.names.profile.now (f.directory c.commands_of.new.files) (f.directory c.capture_of.new.files)
      (f.slots c.commands_of.new.files) (f.slots c.capture_of.new.files) c.in_ok-profile.profile c.capture_of.ensures.directory c.capture_of.ensures.others.profile
      (profile_later c.args.names.profile.now (f.directory c.profile_of.new.files) (f.directory c.commands_of.new.files)
      (f.slots c.profile_of.new.files) (f.slots c.commands_of.new.files) c.in_ok-profile.profile c.commands_of.ensures.directory c.commands_of.ensures.others.profile c.in_ok-profile.ensures.gives);
  script_text = reads_later (λ old new. new ≡ old) (λ text. script_in text ≡ Ok c.in_ok-commands.commands.items) c.args.names.script.now
      (f.directory c.commands_of.new.files) (f.directory c.capture_of.new.files) (f.slots c.commands_of.new.files).script (f.slots c.capture_of.new.files).script
      c.capture_of.ensures.directory c.capture_of.ensures.others.script c.in_ok-commands.ensures.gives;
  header = c.in_ok-capture.ensures.header;
}
