use Rattle.std.proofs.Common.{◌≡◌, ◌<◌, length, rules, arith}
use Rattle.reg_file.proofs.ReadLemmas.{reads_none, reads_then}
use Rattle.readout.specs.declared.views.Side.TheVariants.{Live}
use Rattle.readout.specs.PlacedTasks.{task_in}
use Rattle.readout.proofs.CellLemmas.{reads_on}
use Rattle.readout.proofs.QueryLemmas.{found_start, found_more, found_done}
use Rattle.readout.proofs.query.found_cells.Goals as goal

pub rows-init : goal.rows-init
rows-init g c =
    let r = g.R.RegFile in let v = g.V.TaskView in
    record {
      reads = reads_none r c.args.regs.now;
      count = search rules;
      found = rw c.new-found.ensures (found_start (r.contents c.args.regs.now) c.args.h (task_in (v.seen c.args.view.now) c.args.task));
    }

pub found_cell-requires-clause-readable : goal.found_cell-requires-clause-readable
found_cell-requires-clause-readable g c =
    let r = g.R.RegFile in let v = g.V.TaskView in
    reads_on (v.seen c.args.view.now) (r.dims c.args.regs.now) (r.dims c.rows.regs) c.args.task Live c.rows.invariant.reads.dims c.requires.readable

pub returns-in_err-found_cell-clause-reads : goal.returns-in_err-found_cell-clause-reads
returns-in_err-found_cell-clause-reads g c =
    reads_then g.R.RegFile c.args.regs.now c.rows.regs c.found_cell.new.regs c.rows.invariant.reads c.found_cell.ensures.reads

pub rows-preserved : goal.rows-preserved
rows-preserved g c =
    let r = g.R.RegFile in let v = g.V.TaskView in
    let placed = task_in (v.seen c.args.view.now) c.args.task in
    let inside : c.rows.row < length placed.places = omega arith in
    record {
      reads = reads_then r c.args.regs.now c.rows.regs c.found_cell.new.regs c.rows.invariant.reads c.found_cell.ensures.reads;
      count = search rules;
      found = rw c.push.ensures.items (found_more (r.contents c.rows.regs) (r.contents c.found_cell.new.regs) c.args.h placed
          c.rows.row c.rows.found.items c.in_ok-found_cell.field-0 inside c.found_cell.ensures.reads.contents c.rows.invariant.found c.in_ok-found_cell.ensures.value);
    }

pub returns-clause-found : goal.returns-clause-found
returns-clause-found g c =
    let r = g.R.RegFile in let v = g.V.TaskView in
    let placed = task_in (v.seen c.args.view.now) c.args.task in
    let all : c.rows.row ≡ length placed.places = omega arith in
    found_done (r.contents c.rows.regs) c.args.h placed c.rows.row c.rows.found.items all c.rows.invariant.found
