use Rattle.std.proofs.Common.{take}
use Rattle.key_mask.proofs.PartLemmas.{Hold}
use Rattle.key_mask.proofs.masks.mask_of.Given as goal

abbrev pub invariant-parts : goal.invariant-parts
invariant-parts l = Hold (take l.field-index l.parts) l.mask
