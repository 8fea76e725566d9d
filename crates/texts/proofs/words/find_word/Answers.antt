use Rattle.std.proofs.Common.{nat_lt, length, rules, tests}
use Rattle.std.proofs.lemmas.Iterator.Consumers.{nth_from_yields_List, YieldsList-from_filter}
use Rattle.std.proofs.lemmas.Iterator.Splits.{YieldsList-from_slice_split}
use Rattle.texts.specs.Words.{is_blank}
use Rattle.texts.proofs.words.find_word.Goals as goal

pub returns : goal.returns
returns c =
    nth_from_yields_List _ _ _ c.nth.ensures.ran
    (YieldsList-from_filter _ (λ word. nat_lt 0 (length word))
    (YieldsList-from_slice_split _ is_blank c.args.text.now (cc) (cc) (cc) (λ x b q k. search (rules, tests)))
    c.filter.ensures.closure (λ x r q k. search (rules, tests)))
