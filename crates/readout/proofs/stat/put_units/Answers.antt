use Rattle.std.proofs.Common.{◌++◌, ◌∙◌, ap, ap₂, sym, take, List, Option, ℕ, append_assoc, arith}
use Rattle.std.specs.List.{flat_map, range_with_len}
use Rattle.std.proofs.lemmas.List.{append-nil, take_all}
use Rattle.readout.specs.Lines.{unit_text}
use Rattle.readout.proofs.PieceLemmas.{flat_next}
use Rattle.readout.proofs.ShowLemmas.{number_here, number_inside, numbers_end}
use Rattle.readout.proofs.stat.put_units.Goals as goal

pub units-init : goal.units-init
units-init g c = record { text = sym (append-nil c.args.piece.now.bytes); short = omega arith }

pub put_unit-requires : goal.put_unit-requires
put_unit-requires g c = omega (arith, c.units.invariant.short, c.units-test.true, c.requires.few, c.requires.room)

pub units-preserved : goal.units-preserved
units-preserved g c =
    let f : ℕ → List ℕ = λ unit. unit_text ((g.V.TaskView.seen c.args.view.now).mask c.args.group unit) in
    let xs = range_with_len 0 c.args.units in
    let next = flat_next f xs c.units.unit 0 (number_inside c.args.units c.units.unit c.units-test.true) ∙ ap (λ t. flat_map f (take c.units.unit xs) ++ t) (number_here f c.args.units c.units.unit c.units-test.true) in
    record {
      text = c.put_unit.ensures.text ∙ (ap₂ (λ (l : List ℕ) (m : Option (List ℕ)). l ++ unit_text m) c.units.invariant.text c.unit.ensures
          ∙ (append_assoc c.args.piece.now.bytes (flat_map f (take c.units.unit xs)) (f c.units.unit) ∙ ap (λ t. c.args.piece.now.bytes ++ t) (sym next)));
      short = omega (arith, c.put_unit.ensures.short, c.units.invariant.short);
    }

pub returns-clause-text : goal.returns-clause-text
returns-clause-text g c =
    let f : ℕ → List ℕ = λ unit. unit_text ((g.V.TaskView.seen c.args.view.now).mask c.args.group unit) in
    c.units.invariant.text ∙ ap (λ (l : List ℕ). c.args.piece.now.bytes ++ flat_map f l)
    (take_all c.units.unit (range_with_len 0 c.args.units) (numbers_end c.args.units c.units.unit (omega arith)))
