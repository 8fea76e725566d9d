use Rattle.key_mask.specs.Fields.{fields}
use Rattle.key_mask.proofs.MaskLemmas.{AreWritten}
use Rattle.key_mask.proofs.masks.bytes_from.Given as goal

abbrev pub invariant-fields : goal.invariant-fields
invariant-fields l = AreWritten fields l.lengths l.bytes l.start l.field-index
