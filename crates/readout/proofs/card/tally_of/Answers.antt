use Rattle.std.proofs.Common.{◌≡◌, ◌<◌, ◌^◌, rules, arith}
use Rattle.reg_file.proofs.ReadLemmas.{reads_none, reads_then}
use Rattle.sketch_defs.proofs.TallyLemmas.{rank_share_le}
use Rattle.readout.specs.PlacedTasks.{place_in}
use Rattle.readout.proofs.CardLemmas.{zeros_start, zeros_step, zeros_done, z_start, z_step, z_done, zero_share_few, rank_share_some}
use Rattle.readout.proofs.card.tally_of.Goals as goal

pub cells-init : goal.cells-init
cells-init g c =
    let r = g.R.RegFile in let v = g.V.TaskView in
    let place = place_in (v.seen c.args.view.now) c.args.at 0 in
    record {
      reads = reads_none r c.args.regs.now;
      few = search rules;
      low = search rules;
      high = search rules;
      zeros = zeros_start (r.contents c.args.regs.now) place;
      z = z_start (r.contents c.args.regs.now) place;
    }

pub tally_add-tally-requires-clause-zeros : goal.tally_add-tally-requires-clause-zeros
tally_add-tally-requires-clause-zeros g c = omega (arith, zero_share_few c.in_ok-cell.cell, c.cells.invariant.few)

pub tally_add-tally-requires-clause-z : goal.tally_add-tally-requires-clause-z
tally_add-tally-requires-clause-z g c = omega (arith, rank_share_le c.in_ok-cell.cell, c.cells.invariant.high)

pub returns-in_err-cell-clause-reads : goal.returns-in_err-cell-clause-reads
returns-in_err-cell-clause-reads g c =
    reads_then g.R.RegFile c.args.regs.now c.cells.regs c.cell.new.regs c.cells.invariant.reads c.cell.ensures.reads

pub cells-preserved : goal.cells-preserved
cells-preserved g c =
    let r = g.R.RegFile in let v = g.V.TaskView in
    let place = place_in (v.seen c.args.view.now) c.args.at 0 in
    let inside : c.cells.index < 2 ^ place.region.bits = rw (← c.requires.size) c.cells-test.true in
    record {
      reads = reads_then r c.args.regs.now c.cells.regs c.cell.new.regs c.cells.invariant.reads c.cell.ensures.reads;
      few = omega (arith, zero_share_few c.in_ok-cell.cell, c.cells.invariant.few, c.tally_add-tally.ensures.zeros);
      low = omega (arith, rank_share_some c.in_ok-cell.cell, c.cells.invariant.low, c.tally_add-tally.ensures.z);
      high = omega (arith, rank_share_le c.in_ok-cell.cell, c.cells.invariant.high, c.tally_add-tally.ensures.z);
      zeros = rw c.tally_add-tally.ensures.zeros (zeros_step (r.contents c.cells.regs) (r.contents c.cell.new.regs) place c.cells.tally.zeros c.cells.index c.in_ok-cell.cell inside
          c.cell.ensures.reads.contents c.cells.invariant.zeros c.in_ok-cell.ensures.value);
      z = rw c.tally_add-tally.ensures.z (z_step (r.contents c.cells.regs) (r.contents c.cell.new.regs) place c.cells.tally.z c.cells.index c.in_ok-cell.cell inside
          c.cell.ensures.reads.contents c.cells.invariant.z c.in_ok-cell.ensures.value);
    }

pub returns-clause-zeros : goal.returns-clause-zeros
returns-clause-zeros g c =
    let r = g.R.RegFile in let v = g.V.TaskView in
    let place = place_in (v.seen c.args.view.now) c.args.at 0 in
    let ended : c.cells.index ≡ c.args.size = omega arith in
    let all : c.cells.index ≡ 2 ^ place.region.bits = rw (← c.requires.size) ended in
    zeros_done (r.contents c.cells.regs) place c.cells.tally.zeros c.cells.index all c.cells.invariant.zeros

pub returns-clause-z : goal.returns-clause-z
returns-clause-z g c =
    let r = g.R.RegFile in let v = g.V.TaskView in
    let place = place_in (v.seen c.args.view.now) c.args.at 0 in
    let ended : c.cells.index ≡ c.args.size = omega arith in
    let all : c.cells.index ≡ 2 ^ place.region.bits = rw (← c.requires.size) ended in
    z_done (r.contents c.cells.regs) place c.cells.tally.z c.cells.index all c.cells.invariant.z
