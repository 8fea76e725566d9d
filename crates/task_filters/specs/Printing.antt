-- Filters as they are printed: one canonical text for each.
use Rattle.std.specs.Prelude.{ℕ, true, if◌then◌else◌, List, codes, Some}
use Rattle.std.specs.Str.{bytes_eq}
use Rattle.key_mask.specs.Items.{items_text, longest_items}
use Rattle.key_mask.specs.Masks.{no_lengths}
use Rattle.task_filters.specs.Filters.{Pattern}

-- the one canonical text of a filter: `all`, or its fields in their order, each with its value
unfoldable pub filter_text : Pattern → List ℕ
filter_text pattern =
    if bytes_eq pattern.mask no_lengths then codes "all" else items_text (Some pattern.value) pattern.mask

-- how many bytes it has at most
abbrev pub longest_filter : ℕ
longest_filter = longest_items true
