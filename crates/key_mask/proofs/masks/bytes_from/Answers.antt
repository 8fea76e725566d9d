use Rattle.key_mask.specs.Fields.{fields}
use Rattle.key_mask.specs.Masks.{mask_bytes_of}
use Rattle.key_mask.proofs.MaskLemmas.{written_more, written_all}
use Rattle.key_mask.proofs.masks.bytes_from.Goals as goal

pub fields-preserved : goal.fields-preserved
fields-preserved c =
    written_more fields c.args.lengths.now c.fields.bytes c.fill_prefix.new.bytes c.fields.start c.fields.field-index c.size.result
    c.fields.invariant c.fields-test.true c.size.ensures.size (rw (← c.number.ensures.place) c.fill_prefix.ensures)

pub returns : goal.returns
unfolding mask_bytes_of
returns c = written_all fields c.args.lengths.now c.fields.bytes c.fields.start c.fields.field-index c.fields.invariant c.fields-test.false
