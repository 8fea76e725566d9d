-- Laws of filters as texts.
use Rattle.std.specs.Prelude.{◌≡◌, ℕ, List, IsTrue, Ok}
use Rattle.task_filters.specs.Filters.{Pattern, IsFilter}
use Rattle.task_filters.specs.Printing.{filter_text}
use Rattle.task_filters.specs.Terms.{filter_in, is_canonical_filter}

-- the canonical text of a filter is read as that filter
abbrev pub FilterAgain : Type 0
FilterAgain = (pattern : Pattern) → IsFilter pattern → filter_in (filter_text pattern) ≡ Ok pattern

-- and no other canonical text is: a canonical text that is read as a filter is the filter's text
abbrev pub OnlyFilter : Type 0
OnlyFilter = (text : List ℕ) (pattern : Pattern) → filter_in text ≡ Ok pattern
    → IsTrue (is_canonical_filter text) → text ≡ filter_text pattern
