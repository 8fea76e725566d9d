use Rattle.std.proofs.Common.{◌≡◌, ◌+◌, ◌^◌, ◌<◌, arith, rules, ap, ◌∙◌}
use Rattle.addr_translate.specs.Blocks.{Block}
use Rattle.readout.specs.declared.views.Placed.{Placed}
use Rattle.readout.specs.PlacedTasks.{View, place_in, block_of}
use Rattle.readout.proofs.TwoTasksLemmas.{register_exists, register_small, seen_of}
use Rattle.readout.proofs.tests.TwoTasksTaskView.cell.Goals as goal

pub read-requires : goal.read-requires
read-requires g c =
    let view : View = seen_of c.args.self.now.hot c.args.self.now.other c.args.self.now.first c.args.self.now.second c.args.self.now.third in
    let array : c.placed-place.result.array ≡ (place_in view c.args.at c.args.row).array = ap (λ (p : Placed). p.array) c.placed-place.ensures in
    let block : c.part_of.result ≡ block_of c.args.side (place_in view c.args.at c.args.row) =
    c.part_of.ensures ∙ ap (block_of c.args.side) c.placed-place.ensures in
    let base : c.base.inside.base ≡ (block_of c.args.side (place_in view c.args.at c.args.row)).base = ap (λ (b : Block). b.base) (c.base.view_is ∙ block) in
    rw (array, base) (register_exists view (g.R.RegFile.dims c.args.regs.now) c.args.at c.args.row c.args.side c.args.index
    c.requires.fit c.requires.shaped c.requires.task c.requires.row c.requires.side c.requires.index)

pub overflow_add-addr : goal.overflow_add-addr
overflow_add-addr g c =
    let view : View = seen_of c.args.self.now.hot c.args.self.now.other c.args.self.now.first c.args.self.now.second c.args.self.now.third in
    let block : c.part_of.result ≡ block_of c.args.side (place_in view c.args.at c.args.row) =
    c.part_of.ensures ∙ ap (block_of c.args.side) c.placed-place.ensures in
    let base : c.base.inside.base ≡ (block_of c.args.side (place_in view c.args.at c.args.row)).base = ap (λ (b : Block). b.base) (c.base.view_is ∙ block) in
    let small : c.base.inside.base + c.args.index < 2 ^ 32 =
    rw base (register_small view c.args.at c.args.row c.args.side c.args.index (omega arith)
    c.requires.fit c.requires.task c.requires.row c.requires.side c.requires.index) in
    search rules
