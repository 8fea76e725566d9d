use Rattle.std.proofs.Common.{◌+◌, slice_range, ◌∙◌}
use Rattle.key_mask.specs.Vectors.{big_endian, value_at}
use Rattle.key_mask.proofs.vectors.KeyVec.value.Goals as goal

pub returns-clause-value : goal.returns-clause-value
unfolding value_at
returns-clause-value c =
    c.number_in.ensures.value
    ∙ (λ i. big_endian (slice_range (c.self.view_is i) (c.start-start.ensures.place i) (c.start-start.ensures.place i + c.size.ensures.size i)))
