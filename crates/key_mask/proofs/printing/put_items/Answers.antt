use Rattle.std.proofs.Common.{[], ap, ◌∙◌, slice_index}
use Rattle.std.specs.List.{fold}
use Rattle.std.specs.Option.{option_copied}
use Rattle.std.proofs.lemmas.List.{take_all}
use Rattle.key_mask.specs.Fields.{fields, field_number}
use Rattle.key_mask.specs.Items.{with_field}
use Rattle.key_mask.proofs.PrintLemmas.{line_of_fields}
use Rattle.key_mask.proofs.printing.put_items.Goals as goal

pub returns-clause-text : goal.returns-clause-text
returns-clause-text c =
    c.fields.invariant.text
    ∙ ap (fold (λ line field. with_field (option_copied c.args.values) line field (slice_index c.args.mask.now (field_number field))) [])
    (take_all c.fields.field-index fields c.fields-test.false)
    ∙ line_of_fields (option_copied c.args.values) c.args.mask.now
