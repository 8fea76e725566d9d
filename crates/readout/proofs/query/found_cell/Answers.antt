use Rattle.std.proofs.Common.{◌≡◌, ◌<◌, ◌^◌, ℕ, IfSome, ap, ap₂, subst, ◌∙◌}
use Rattle.std.proofs.lemmas.Result.{IfOk-weaker}
use Rattle.addr_translate.specs.Blocks.{index_of}
use Rattle.hash_units.specs.Toeplitz.{row_hash_of}
use Rattle.readout.specs.declared.views.Placed.{Placed}
use Rattle.readout.specs.declared.views.Side.TheVariants.{Live}
use Rattle.readout.specs.PlacedTasks.{task_in, place_in, live_bits, register_at}
use Rattle.readout.proofs.PlacedTaskLemmas.{row_placed}
use Rattle.readout.proofs.QueryLemmas.{cell_found, FoundAt}
use Rattle.readout.proofs.query.found_cell.Goals as goal

pub returns-clause-value : goal.returns-clause-value
returns-clause-value g c =
    let r = g.R.RegFile in let v = g.V.TaskView in
    let view = v.seen c.args.view.now in
    let placed_task = task_in view c.args.task in
    let placed = row_placed view c.args.task c.args.row c.requires.readable.fit c.requires.readable.task c.requires.row in
    let bits : c.bits_of-bits.result ≡ (place_in view c.args.task c.args.row).region.bits = c.bits_of-bits.ensures.value ∙ ap (λ (p : Placed). p.region.bits) c.placed.ensures in
    let is : c.index.result ≡ index_of (row_hash_of c.args.h c.args.row) (live_bits placed_task) = c.index.ensures.value ∙ ap₂ index_of c.row_hash.ensures (bits ∙ placed.bits_are) in
    let inside : c.index.result < 2 ^ (place_in view c.args.task c.args.row).region.bits = subst (λ (n : ℕ). c.index.result < 2 ^ n) bits c.index.ensures.below in
    IfOk-weaker c.cell.result
    (λ value. IfSome (r.contents c.cell.new.regs) (λ told. value ≡ register_at told Live (place_in view c.args.task c.args.row) c.index.result))
    (λ value. IfSome (r.contents c.cell.new.regs) (FoundAt c.args.h placed_task c.args.row value))
    (λ value here. cell_found (r.contents c.cell.new.regs) c.args.h placed_task c.args.row value c.index.result is inside here) c.cell.ensures.value
