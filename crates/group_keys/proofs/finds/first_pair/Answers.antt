use Rattle.std.proofs.Common.{◌∙◌, sym, Some, None, arith}
use Rattle.group_keys.proofs.PairLemmas.{no_partner, some_partner, pair_found, none_left}
use Rattle.group_keys.proofs.finds.first_pair.Goals as goal

pub returns-in-Some : goal.returns-in-Some
returns-in-Some c =
    let units = c.args.units.now in
    let mask = c.args.mask.now in
    sym (pair_found units mask (Some (c.firsts.one, c.in-Some.two))
    (sym c.firsts.invariant ∙ some_partner units mask c.firsts.one c.in-Some.two (omega arith) c.in-Some.ensures.least))

pub firsts-preserved : goal.firsts-preserved
firsts-preserved c =
    sym (no_partner c.args.units.now c.args.mask.now c.firsts.one (omega arith) c.in_default.ensures.least) ∙ c.firsts.invariant

pub returns : goal.returns
returns c =
    let units = c.args.units.now in
    let mask = c.args.mask.now in
    sym (pair_found units mask None (sym c.firsts.invariant ∙ none_left units mask c.firsts.one (omega arith)))
