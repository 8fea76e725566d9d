use Rattle.std.proofs.Common.{ℕ, List, take, rules, sym, subst}
use Rattle.fm_io.specs.Slots.{slot_at, SlotMoves, Yields}
use Rattle.fm_io.proofs.ListLemmas.{put_taken, put_left}
use Rattle.fm_io.proofs.SlotLemmas.{slot_yields_then, others_then, directory_then}
use Rattle.fm_io.proofs.loops.read_full.Goals as goal

pub pieces-preserved : goal.pieces-preserved
pieces-preserved g c =
    let f = g.F.Files in
    let step = c.in_ok-count.ensures in
    let done = c.pieces.invariant in
    let start = slot_at (f.slots c.args.files.now) c.args.slot in
    let before = slot_at (f.slots c.pieces.files) c.args.slot in
    let after = slot_at (f.slots c.read.new.self) c.args.slot in
    record {
      within = search rules;
      later = search rules;
      last = search rules;
      strays = search rules;
      directory = directory_then (f.directory c.args.files.now) (f.directory c.pieces.files) (f.directory c.read.new.self) done.directory step.directory;
      slot = subst (λ (piece : List ℕ). SlotMoves (Yields piece) start after)
          (sym (put_taken c.pieces.buf c.read.new.buf c.pieces.done c.in_ok-count.count done.within))
          (slot_yields_then (take c.pieces.done c.pieces.buf) (take c.in_ok-count.count c.read.new.buf) start before after
          done.slot step.slot);
      others = others_then c.args.slot (f.slots c.args.files.now) (f.slots c.pieces.files) (f.slots c.read.new.self) done.others step.others;
      rest = put_left c.pieces.buf c.read.new.buf c.args.buf.now c.pieces.done c.in_ok-count.count done.within step.rest done.rest;
    }
