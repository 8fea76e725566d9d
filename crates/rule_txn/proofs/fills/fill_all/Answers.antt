use Rattle.std.proofs.Common.{subst, sym, [], ◌∷◌, get_or}
use Rattle.outside.specs.Told.{Told}
use Rattle.rule_txn.specs.Fills.{Fills}
use Rattle.rule_txn.proofs.StageFills.{fills_more, four_is}
use Rattle.rule_txn.proofs.fills.fill_all.Goals as goal

pub returns-clause-contents : goal.returns-clause-contents
returns-clause-contents g c =
    let contents = g.R.RegFile.contents in
    let v = c.args.value in
    let r = c.fill_one-4.result in
    let xs = c.args.leases.now in
    let x1 = get_or xs 0 c.index-leases-0.result in
    let x2 = get_or xs 1 c.index-leases-1.result in
    let x3 = get_or xs 2 c.index-leases-2.result in
    let x4 = get_or xs 3 c.index-leases-3.result in
    let e = four_is xs c.index-leases-0.result c.index-leases-1.result c.index-leases-2.result c.index-leases-3.result c.type_inv.leases in
    let s0 = contents c.args.regs.now in
    let s1 = contents c.fill_one.new.regs in
    let s2 = contents c.fill_one-2.new.regs in
    let s3 = contents c.fill_one-3.new.regs in
    let s4 = contents c.fill_one-4.new.regs in
    let all_ = fills_more x1 (x2 ∷ x3 ∷ x4 ∷ []) v c.fill_one.result c.in_ok-fill_one.field-0 r s0 s1 s4 c.in_ok-fill_one.was c.fill_one.ensures.contents
    (fills_more x2 (x3 ∷ x4 ∷ []) v c.fill_one-2.result c.in_ok-fill_one-2.field-0 r s1 s2 s4 c.in_ok-fill_one-2.was c.fill_one-2.ensures.contents
    (fills_more x3 (x4 ∷ []) v c.fill_one-3.result c.in_ok-fill_one-3.field-0 r s2 s3 s4 c.in_ok-fill_one-3.was c.fill_one-3.ensures.contents c.fill_one-4.ensures.contents)) in
    subst (λ ys. Told (Fills ys v r) s0 s4) (sym e) all_
