use Rattle.std.proofs.Common.{get_or, refl, sym, ◌∙◌}
use Rattle.key_mask.specs.declared.fields.Field.TheVariants.{SrcIp}
use Rattle.key_mask.specs.Fields.{field_number}
use Rattle.key_mask.proofs.PartLemmas.{hold_more}
use Rattle.key_mask.proofs.masks.mask_of.Goals as goal

pub parts-preserved : goal.parts-preserved
parts-preserved c =
    rw c.with-mask.ensures
    (hold_more c.args.parts.now c.parts.mask c.parts.field-index (field_number (get_or c.args.parts.now c.parts.field-index (SrcIp, 0)).0) (SrcIp, 0)
    c.parts.invariant c.parts-test.true refl (sym c.length.ensures.value ∙ c.if-length-ne0.false) (sym c.allows.ensures ∙ c.if-not-allows.false))
