use Rattle.std.proofs.Common.{◌+◌, ◌++◌, take, drop, ◌∙◌}
use Rattle.std.specs.Int.{bytes_high_first}
use Rattle.key_mask.specs.Vectors.{with_value}
use Rattle.key_mask.proofs.VectorLemmas.{value_put}
use Rattle.key_mask.proofs.vectors.KeyVec.with_value.Goals as goal

pub returns : goal.returns
unfolding with_value
returns c =
    value_put c.self.inside.0 c.copy_from_slice.new.self c.to_be_bytes.result c.start-start.result c.size-size.result c.args.value
    c.size-size.ensures.most c.to_be_bytes.ensures c.copy_from_slice.ensures.after
    ∙ (λ i. take (c.start-start.ensures.place i) (c.self.view_is i)
    ++ (bytes_high_first (c.size-size.ensures.size i) c.args.value ++ drop (c.start-start.ensures.place i + c.size-size.ensures.size i) (c.self.view_is i)))
