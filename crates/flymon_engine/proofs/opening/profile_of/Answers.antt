use Rattle.std.proofs.Common.{◌≡◌, false, Ok, Err, rules}
use Rattle.flymon_engine.specs.Opening.{is_standard}
use Rattle.flymon_engine.proofs.FileLemmas.{profile_told, profile_read}
use Rattle.flymon_engine.proofs.opening.profile_of.Goals as goal

pub returns-in-Ok-read_profile-clause-gives : goal.returns-in-Ok-read_profile-clause-gives
returns-in-Ok-read_profile-clause-gives g c = let f = g.F.Files in
    let other : is_standard c.args.names.profile.now ≡ false = search rules in
    profile_read c.args.names.profile.now (f.directory c.bytes_of.new.files) (f.slots c.bytes_of.new.files) c.in-Ok-read_profile.profile other
    (profile_told (Ok c.in-Ok-read_profile.profile) c.args.names.profile.now c.in-Ok.text.items (f.directory c.bytes_of.new.files) (f.slots c.bytes_of.new.files).profile
    c.in-Ok.ensures.text (rw c.deref.ensures.value at c.in-Ok-read_profile.ensures.answer))

pub returns-in-Err-Fault-clause-refused : goal.returns-in-Err-Fault-clause-refused
returns-in-Err-Fault-clause-refused g c = let f = g.F.Files in
    let other : is_standard c.args.names.profile.now ≡ false = search rules in (
      other,
      profile_told (Err c.in-Err-Fault.fault) c.args.names.profile.now c.in-Ok.text.items (f.directory c.bytes_of.new.files) (f.slots c.bytes_of.new.files).profile
          c.in-Ok.ensures.text (rw (c.deref.ensures.value, c.in-Err-Fault.field-0-is) at c.in-Err-Fault.ensures.answer),
    )
