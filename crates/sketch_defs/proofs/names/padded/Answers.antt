use Rattle.std.proofs.Common.{◌∙◌, ap, refl}
use Rattle.std.specs.Prelude.{ℕ, List, ◌++◌, length, drop, replicate}
use Rattle.sketch_defs.proofs.NameLemmas.{written}
use Rattle.sketch_defs.proofs.names.padded.Goals as goal

pub returns : goal.returns
returns c = ap (λ (text : List ℕ). text ++ drop (length c.args.text.now) (replicate 16 0)) c.copy_from_slice.ensures.after ∙ written c.args.text.now (replicate 16 0) refl
