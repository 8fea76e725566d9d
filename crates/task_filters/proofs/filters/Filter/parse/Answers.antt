use Rattle.key_mask.specs.Masks.{mask_bytes_of}
use Rattle.key_mask.proofs.BytesLemmas.{and_bytes_twice}
use Rattle.task_filters.proofs.filters.Filter.parse.Goals as goal

pub invariant_of-result : goal.invariant_of-result
invariant_of-result c = record {
  kept = rw c.masked.ensures.value (and_bytes_twice c.terms.inside.value (mask_bytes_of c.terms.inside.mask));
  long = c.masked.ensures.long;
  known = c.masked.ensures.known;
}
