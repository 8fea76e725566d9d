use Rattle.std.proofs.Common.{◌∙◌, ℕ, Bool, false, length, sym, arith}
use Rattle.group_keys.specs.Units.{unit_at, xor_to}
use Rattle.group_keys.proofs.PairLemmas.{search_on, read_pair}
use Rattle.group_keys.proofs.finds.partner_of.Goals as goal

pub seconds-preserved : goal.seconds-preserved
seconds-preserved c =
    let units = c.args.units.now in
    let mask = c.args.mask.now in
    let test : ℕ → Bool = λ two. xor_to mask (unit_at units c.args.one) (unit_at units two) in
    sym (search_on test c.seconds.two (length units) (omega arith)
    (read_pair units mask c.args.one c.seconds.two c.index-units-one.result c.index-units-two.result false (omega arith) (omega arith)
    c.index-units-one.is c.index-units-two.is (sym c.if-is_pair_for.false ∙ c.is_pair_for.ensures)))
    ∙ c.seconds.invariant
