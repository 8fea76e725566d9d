use Rattle.std.proofs.Common.{◌≡◌, ◌≢◌, get_or, arith}
use Rattle.readout.proofs.DistLemmas.{run_more, run_sizes}
use Rattle.readout.proofs.dist.run_length.Goals as goal

pub returns-then-cells-end-clause-sizes : goal.returns-then-cells-end-clause-sizes
returns-then-cells-end-clause-sizes c =
    let apart : get_or c.args.cells.now c.run.end 0 ≢ get_or c.args.cells.now c.args.at 0 = c.if-cells-end.true in
    run_sizes c.args.cells.now c.requires.rising c.args.at c.run.end c.run.invariant.above (λ inside. apart) c.run.invariant.run

pub run-preserved : goal.run-preserved
run-preserved c =
    let same : get_or c.args.cells.now c.run.end 0 ≡ get_or c.args.cells.now c.args.at 0 = c.if-cells-end.false in
    record {
      above = omega (arith, c.run.invariant.above);
      within = omega (arith, c.run-test.true);
      run = run_more c.args.cells.now c.args.at c.run.end c.run.invariant.above c.run-test.true same c.run.invariant.run;
    }

pub returns-clause-sizes : goal.returns-clause-sizes
returns-clause-sizes c =
    run_sizes c.args.cells.now c.requires.rising c.args.at c.run.end c.run.invariant.above (λ inside. absurd (omega (arith, inside, c.run-test.false))) c.run.invariant.run
