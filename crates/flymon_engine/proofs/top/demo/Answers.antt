use Rattle.std.proofs.Common.{refl}
use Rattle.gen_capture.specs.GenFiles.{directory_of, slots_of}
use Rattle.flymon_engine.specs.Endings.{seen_beside}
use Rattle.flymon_engine.specs.Serial.{serial_rules, serial_lays}
use Rattle.flymon_engine.specs.declared.words.Way.TheVariants.{Replay}
use Rattle.flymon_engine.proofs.DemoLemmas.{demo_promises}
use Rattle.flymon_engine.proofs.top.demo.Goals as goal

pub returns : goal.returns
returns g c = let r = g.R.RegFile in let o = g.O.Sink in
    record {
      promises = λ files last strays directory slots.
          let before = seen_beside r o files last strays directory slots c.args.regs.now c.args.out.now in
          let after = seen_beside r o files last strays directory slots c.carry_out.new.regs c.carry_out.new.out in
          let first = c.new-files.result in let end = c.carry_out.new.files in
          demo_promises c.captures_are_whole.ensures serial_rules serial_lays c.args.seed c.args.count c.requires
          end.seed end.count first.misses first.last first.misses end.misses end.last (directory_of first) (slots_of first) end.places before after c.carry_out.result
          c.new-files.ensures.directory c.carry_out.ensures.directory c.new-files.ensures.faults c.new-files.ensures.strays
          (record { faults = refl; last = refl; strays = refl; directory = refl; slots = refl }) (c.carry_out.ensures.promises Replay);
    }
