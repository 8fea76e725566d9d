use Rattle.std.proofs.Common.{◌≡◌, Option, None, Some, Ok, Result, rules, refl, sym, ap, ◌∙◌, subst, arith}
use Rattle.pkt_headers.specs.declared.packets.Packet.{Packet}
use Rattle.capture_read.specs.declared.records.CaptureFault.{CaptureFault}
use Rattle.flymon_engine.specs.declared.work.Work.TheVariants.{Take}
use Rattle.flymon_engine.specs.declared.stop.Halt.{Halt}
use Rattle.flymon_engine.specs.Worlds.{Halts}
use Rattle.flymon_engine.specs.Arrivals.{Gives, Comes}
use Rattle.capture_read.specs.Steps.{MovesOn}
use Rattle.flymon_engine.specs.Runs.{passed}
use Rattle.flymon_engine.proofs.WorldLemmas.{told_both, was_same, was_then, on_same, on_then, where_weaker, where_tape, where_then}
use Rattle.flymon_engine.proofs.TakeLemmas.{took_none, took_one, took_to_end, took_asked, stopped_by}
use Rattle.fm_io.proofs.SlotLemmas.{others_same, others_then, directory_same, directory_then}
use Rattle.flymon_engine.proofs.carry.take_packets.Goals as goal

pub packets-init : goal.packets-init
packets-init g c = let r = g.R.RegFile in let f = g.F.Files in let m = g.M.Machine in record {
  attached = search rules;
  ready = search rules;
  fits = search rules;
  dims = search rules;
  strays = refl;
  directory = directory_same (f.directory c.args.files.now);
  others = others_same 2 (f.slots c.args.files.now);
  later = search rules;
  faults = refl;
  cursor = on_same (f.slots c.args.files.now).capture.cursor;
  cells = was_same (r.contents c.args.regs.now);
  run = λ before sent run at. where_weaker (f.slots c.args.files.now).capture.cursor (r.contents c.args.regs.now)
      (λ t d. took_none m.rules (m.stands c.args.machine.now) (Comes c.args.capture.now) before (r.calls c.args.regs.now) sent run t d) at;
}

pub packets-preserved : goal.packets-preserved
packets-preserved g c = let r = g.R.RegFile in let f = g.F.Files in let m = g.M.Machine in record {
  attached = search rules;
  ready = search rules;
  fits = search rules;
  dims = search rules;
  strays = search rules;
  directory = directory_then (f.directory c.args.files.now) (f.directory c.packets.files) (f.directory c.next_packet.new.files) c.packets.invariant.directory c.next_packet.ensures.directory;
  others = others_then 2 (f.slots c.args.files.now) (f.slots c.packets.files) (f.slots c.next_packet.new.files) c.packets.invariant.others c.next_packet.ensures.others;
  later = search rules;
  faults = search rules;
  cursor = on_then (f.slots c.args.files.now).capture.cursor (f.slots c.packets.files).capture.cursor (f.slots c.next_packet.new.files).capture.cursor
      c.packets.invariant.cursor c.next_packet.ensures.cursor;
  cells = was_then (r.contents c.args.regs.now) (r.contents c.packets.regs) (r.contents c.pass.new.regs) c.packets.invariant.cells c.pass.ensures.told;
  run = λ before sent run at.
      let here = passed m.rules run c.packets.taken in
      let found : c.next_packet.result ≡ Ok (Some c.in-Ok-Some.packet) = c.in-Ok-Some.is ∙ ap Ok c.in-Ok-Some.field-0-is in
      where_then (f.slots c.packets.files).capture.cursor (f.slots c.next_packet.new.files).capture.cursor (r.contents c.packets.regs) (r.contents c.pass.new.regs)
      (λ t u d e next moves took. took_one m.rules (m.stands c.packets.machine) (m.stands c.pass.new.self) (Comes c.packets.capture) (Comes c.next_packet.new.capture) before
      (r.calls c.packets.regs) (r.calls c.pass.new.regs) sent c.packets.taken run c.in-Ok-Some.packet t u d e next.0
      (subst (λ (x : Result (Option Packet) CaptureFault). Gives (Comes c.next_packet.new.capture) here.left x u) found (next.1 took.now.left))
      (moves took.now.shows.board) took)
      (told_both MovesOn (λ t u. Comes c.packets.capture here.left t → Gives (Comes c.next_packet.new.capture) here.left c.next_packet.result u)
      (f.slots c.packets.files).capture.cursor (f.slots c.next_packet.new.files).capture.cursor c.next_packet.ensures.cursor (c.next_packet.ensures.next here.left))
      (c.pass.ensures.moves here.board)
      (c.packets.invariant.run before sent run at);
}

pub returns-in-Ok-None-clause-run : goal.returns-in-Ok-None-clause-run
returns-in-Ok-None-clause-run g c = let r = g.R.RegFile in let f = g.F.Files in let m = g.M.Machine in
    λ before sent run at.
    let here = passed m.rules run c.packets.taken in
    let found : c.next_packet.result ≡ Ok None = c.in-Ok-None.is ∙ ap Ok c.in-Ok-None.field-0-is in
    where_tape (f.slots c.packets.files).capture.cursor (f.slots c.next_packet.new.files).capture.cursor (r.contents c.packets.regs)
    (λ t u d next took. took_to_end m.rules (m.stands c.packets.machine) (Comes c.packets.capture) (Comes c.next_packet.new.capture) before
    (r.calls c.packets.regs) sent c.packets.taken c.args.asked run t u d c.packets-test.true
    (subst (λ (x : Result (Option Packet) CaptureFault). Gives (Comes c.next_packet.new.capture) here.left x u) found (next took.now.left)) took)
    (c.next_packet.ensures.next here.left)
    (c.packets.invariant.run before sent run at)

pub returns-in-Err-clause-run : goal.returns-in-Err-clause-run
returns-in-Err-clause-run g c = let r = g.R.RegFile in let f = g.F.Files in let m = g.M.Machine in
    λ before sent run at.
    let here = passed m.rules run c.packets.taken in
    where_tape (f.slots c.packets.files).capture.cursor (f.slots c.next_packet.new.files).capture.cursor (r.contents c.packets.regs)
    (λ t u d next took. subst (λ (x : Halt). Halts m.rules (m.stands c.packets.machine) before (r.calls c.packets.regs) sent x run (Take c.args.asked) u.at d) (sym c.halt_of.ensures)
    (stopped_by m.rules (m.stands c.packets.machine) (Comes c.packets.capture) (Comes c.next_packet.new.capture) before
    (r.calls c.packets.regs) sent c.packets.taken c.args.asked run c.in-Err.fault t u d c.packets-test.true next.0
    (subst (λ (x : Result (Option Packet) CaptureFault). Gives (Comes c.next_packet.new.capture) here.left x u) c.in-Err.is (next.1 took.now.left)) took))
    (told_both MovesOn (λ t u. Comes c.packets.capture here.left t → Gives (Comes c.next_packet.new.capture) here.left c.next_packet.result u)
    (f.slots c.packets.files).capture.cursor (f.slots c.next_packet.new.files).capture.cursor c.next_packet.ensures.cursor (c.next_packet.ensures.next here.left))
    (c.packets.invariant.run before sent run at)

pub returns-clause-run : goal.returns-clause-run
returns-clause-run g c = let r = g.R.RegFile in let f = g.F.Files in let m = g.M.Machine in
    λ before sent run at. where_weaker (f.slots c.packets.files).capture.cursor (r.contents c.packets.regs)
    (λ t d took. took_asked m.rules (m.stands c.packets.machine) (Comes c.packets.capture) before (r.calls c.packets.regs) sent c.packets.taken c.args.asked run t d (omega arith) took)
    (c.packets.invariant.run before sent run at)

pub returns-in-Ok-None-clause-directory : goal.returns-in-Ok-None-clause-directory
returns-in-Ok-None-clause-directory g c = let f = g.F.Files in directory_then (f.directory c.args.files.now) (f.directory c.packets.files) (f.directory c.next_packet.new.files) c.packets.invariant.directory c.next_packet.ensures.directory

pub returns-in-Ok-None-clause-others : goal.returns-in-Ok-None-clause-others
returns-in-Ok-None-clause-others g c = let f = g.F.Files in others_then 2 (f.slots c.args.files.now) (f.slots c.packets.files) (f.slots c.next_packet.new.files) c.packets.invariant.others c.next_packet.ensures.others

pub returns-in-Err-clause-directory : goal.returns-in-Err-clause-directory
returns-in-Err-clause-directory g c = let f = g.F.Files in directory_then (f.directory c.args.files.now) (f.directory c.packets.files) (f.directory c.next_packet.new.files) c.packets.invariant.directory c.next_packet.ensures.directory

pub returns-in-Err-clause-others : goal.returns-in-Err-clause-others
returns-in-Err-clause-others g c = let f = g.F.Files in others_then 2 (f.slots c.args.files.now) (f.slots c.packets.files) (f.slots c.next_packet.new.files) c.packets.invariant.others c.next_packet.ensures.others
