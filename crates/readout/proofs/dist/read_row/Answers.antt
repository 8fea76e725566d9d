use Rattle.std.proofs.Common.{◌≡◌, ◌<◌, ◌^◌, ◌++◌, ◌∷◌, [], rules, arith}
use Rattle.reg_file.proofs.ReadLemmas.{reads_none, reads_then}
use Rattle.readout.specs.PlacedTasks.{place_in}
use Rattle.readout.proofs.DistLemmas.{read_start, read_more, read_done}
use Rattle.readout.proofs.dist.read_row.Goals as goal

pub cells-init : goal.cells-init
cells-init g c =
    let r = g.R.RegFile in let v = g.V.TaskView in
    record {
      reads = reads_none r c.args.regs.now;
      capacity = search rules;
      count = search rules;
      told = rw c.clear.ensures.items (read_start (r.contents c.args.regs.now) (place_in (v.seen c.args.view.now) c.args.at 0));
    }

pub returns-in_err-cell-clause-reads : goal.returns-in_err-cell-clause-reads
returns-in_err-cell-clause-reads g c =
    reads_then g.R.RegFile c.args.regs.now c.cells.regs c.cell.new.regs c.cells.invariant.reads c.cell.ensures.reads

pub cells-preserved : goal.cells-preserved
cells-preserved g c =
    let r = g.R.RegFile in let v = g.V.TaskView in
    let place = place_in (v.seen c.args.view.now) c.args.at 0 in
    let inside : c.cells.index < 2 ^ place.region.bits = rw (← c.requires.size) c.cells-test.true in
    let pushed : c.push.new.self.items ≡ c.cells.cells.items ++ c.in_ok-cell.cell ∷ [] = c.in-Ok.ensures.items in
    record {
      reads = reads_then r c.args.regs.now c.cells.regs c.cell.new.regs c.cells.invariant.reads c.cell.ensures.reads;
      capacity = omega (arith, c.cells.invariant.capacity, c.push.ensures.capacity);
      count = omega (arith, c.cells.invariant.count, c.in-Ok.ensures.len);
      told = rw pushed (read_more (r.contents c.cells.regs) (r.contents c.cell.new.regs) place c.cells.cells.items c.cells.index c.in_ok-cell.cell inside
          c.cell.ensures.reads.contents c.cells.invariant.told c.in_ok-cell.ensures.value);
    }

pub returns-clause-told : goal.returns-clause-told
returns-clause-told g c =
    let r = g.R.RegFile in let v = g.V.TaskView in
    let place = place_in (v.seen c.args.view.now) c.args.at 0 in
    let ended : c.cells.index ≡ c.args.size = omega arith in
    let all : c.cells.index ≡ 2 ^ place.region.bits = rw (← c.requires.size) ended in
    read_done (r.contents c.cells.regs) place c.cells.cells.items c.cells.index all c.cells.invariant.told
