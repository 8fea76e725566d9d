-- The four parts of a call, each on its own.
use Rattle.std.proofs.Common.{arith}
use Rattle.std.proofs.lemmas.Grind.{common_steps}
use Rattle.reg_file.proofs.Places.{flat-others}
use Rattle.reg_file.proofs.words.change_word.Goals as goal

pub returns : goal.returns
returns c = record {
  here = grind (arith, common_steps);
  carry = grind (arith, common_steps);
  arrays = flat-others _ _ _ _
      (λ k below. grind (arith, common_steps))
      (λ k above. grind (arith, common_steps));
  others = λ i ne. grind (arith, common_steps);
}
