use Rattle.rule_txn.specs.Changes.{add_cause, resize_cause, remove_cause, release_cause}
use Rattle.rule_txn.proofs.BridgeChanges.{change_stands}
use Rattle.rule_txn.proofs.laws.change_stands.Goals as goal

pub returns : goal.returns
returns c = record {
  add = λ change result state now records old new. change_stands add_cause change result state now records old new;
  resize = λ change result state now records old new. change_stands resize_cause change result state now records old new;
  remove = λ change result state now records old new. change_stands remove_cause change result state now records old new;
  release = λ change result state now records old new. change_stands release_cause change result state now records old new;
}
