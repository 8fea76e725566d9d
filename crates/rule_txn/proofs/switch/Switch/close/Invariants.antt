use Rattle.switch_model.specs.Soundness.{Sound}
use Rattle.rule_txn.specs.Switch.{Stands}
use Rattle.rule_txn.proofs.switch.Switch.close.Given as goal

abbrev pub invariant-records : goal.invariant-records
invariant-records l = record {
  sound : Sound l.stage.geometry l.records.items;
  stands : Stands l.records.items l.stage;
}

abbrev pub decreases-records : goal.decreases-records
decreases-records l = goal.left-records l
