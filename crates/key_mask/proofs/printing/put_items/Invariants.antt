use Rattle.std.proofs.Common.{◌≡◌, ◌+◌, ◌≤◌, [], length, take, slice_index, is_some}
use Rattle.std.specs.List.{fold, sum_by}
use Rattle.std.specs.Option.{option_copied}
use Rattle.key_mask.specs.Fields.{fields, field_number}
use Rattle.key_mask.specs.Items.{longest_item, with_field}
use Rattle.key_mask.proofs.printing.put_items.Given as goal

abbrev pub invariant-fields : goal.invariant-fields
invariant-fields l = record {
  text : l.line.bytes ≡ fold (λ line field. with_field (option_copied l.values) line field (slice_index l.mask (field_number field))) [] (take l.field-index fields);
  short : length l.line.bytes ≤ sum_by (λ field. longest_item (is_some l.values) field + 1) (take l.field-index fields);
}
