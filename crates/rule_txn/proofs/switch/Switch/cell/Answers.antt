-- The register of a row's partition is there.
use Rattle.std.proofs.Common.{◌≡◌, ℕ, ◌+◌, ap, sym, ◌∙◌, subst, arith}
use Rattle.addr_translate.specs.Blocks.{Block}
use Rattle.reg_file.specs.Registers.{InFile}
use Rattle.readout.specs.declared.views.Placed.{Placed}
use Rattle.readout.specs.PlacedTasks.{task_in, place_in, live_bits, frozen_bits, block_of}
use Rattle.rule_txn.specs.Switch.{SwitchState}
use Rattle.rule_txn.specs.Seen.{view_of}
use Rattle.rule_txn.proofs.LookViews.{cell_in, cell_small}
use Rattle.rule_txn.proofs.switch.Switch.cell.Goals as goal

pub overflow_add-region_of : goal.overflow_add-region_of
overflow_add-region_of g c =
    let now : SwitchState = c.args.self.now in
    let placed = task_in (view_of now) c.args.at in
    let place : Placed = place_in (view_of now) c.args.at c.args.row in
    let is = cell_in now.geometry (g.R.RegFile.dims c.args.regs.now) (live_bits placed) (frozen_bits placed) place c.args.side c.args.index
    c.placed-placed.ensures.stands c.requires.shaped c.requires.index in
    let small = cell_small now.geometry (g.R.RegFile.dims c.args.regs.now) place.array ((block_of c.args.side place).base + c.args.index)
    c.placed-placed.ensures.limits c.requires.shaped is in
    let same : c.read.inside.base ≡ (block_of c.args.side place).base =
    ap (λ (b : Block). b.base) (c.read.view_is ∙ c.region_of.ensures ∙ ap (block_of c.args.side) c.placed-placed.ensures.value) in
    omega (arith, small, same)

pub read-requires : goal.read-requires
read-requires g c =
    let now : SwitchState = c.args.self.now in
    let placed = task_in (view_of now) c.args.at in
    let place : Placed = place_in (view_of now) c.args.at c.args.row in
    let is = cell_in now.geometry (g.R.RegFile.dims c.args.regs.now) (live_bits placed) (frozen_bits placed) place c.args.side c.args.index
    c.placed-placed.ensures.stands c.requires.shaped c.requires.index in
    let same : c.read.inside.base ≡ (block_of c.args.side place).base =
    ap (λ (b : Block). b.base) (c.read.view_is ∙ c.region_of.ensures ∙ ap (block_of c.args.side) c.placed-placed.ensures.value) in
    let array : c.placed-placed.result.array ≡ place.array = ap (λ (p : Placed). p.array) c.placed-placed.ensures.value in
    subst (λ (a : ℕ). InFile (g.R.RegFile.dims c.args.regs.now) a (c.read.inside.base + c.args.index)) (sym array)
    (subst (λ (b : ℕ). InFile (g.R.RegFile.dims c.args.regs.now) place.array (b + c.args.index)) (sym same) is)
