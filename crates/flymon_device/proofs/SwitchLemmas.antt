-- A switch stays fit for its registers through a change.
use Rattle.std.proofs.Common.{◌≡◌, ap, sym, subst}
use Rattle.std.specs.Prelude.{Option, Result, Ok, Err}
use Rattle.reg_file.specs.Registers.{Dims}
use Rattle.pipe_core.specs.Rules.{IsShaped}
use Rattle.switch_model.specs.Changes.{Edit, Refusal}
use Rattle.rule_txn.specs.Switch.{SwitchState}
use Rattle.rule_txn.specs.Changes.{Answers}

same_geometry : {F T : Type 0} (cause : F → Option Refusal) (verdict : Result Edit Refusal) (result : Result T F) (old now : SwitchState)
    → Answers cause verdict result old now → now.geometry ≡ old.geometry
same_geometry cause (Ok edit) (Ok t) old now is = ap (λ (s : SwitchState). s.geometry) is
same_geometry cause (Ok edit) (Err fault) old now is = ap (λ (s : SwitchState). s.geometry) is.1
same_geometry cause (Err why) (Ok t) old now is = absurd is
same_geometry cause (Err why) (Err fault) old now is = ap (λ (s : SwitchState). s.geometry) is.1

pub stays_shaped : {F T : Type 0} (cause : F → Option Refusal) (verdict : Result Edit Refusal) (result : Result T F) (old now : SwitchState) (before after : Dims)
    → Answers cause verdict result old now → after ≡ before → IsShaped old.geometry before → IsShaped now.geometry after
stays_shaped cause verdict result old now before after answers same shaped =
    subst (λ g. IsShaped g after) (sym (same_geometry cause verdict result old now answers))
    (subst (λ d. IsShaped old.geometry d) (sym same) shaped)
