use Rattle.std.proofs.Common.{◌∙◌, sym, rules, tests}
use Rattle.std.specs.Str.{bytes_eq}
use Rattle.std.proofs.lemmas.Iterator.{YieldsList-from_slice}
use Rattle.std.proofs.lemmas.Iterator.Consumers.{YieldsList-from_copied}
use Rattle.std.proofs.lemmas.Iterator.Search.{find_from_yields_List}
use Rattle.std.proofs.lemmas.Iterator.Adapters.{option_map_id}
use Rattle.task_lang.specs.Words.{all_attrs, attr_named, attr_word}
use Rattle.task_lang.proofs.words.attr_of.Goals as goal

pub returns : goal.returns
unfolding attr_named
returns c =
    sym (option_map_id c.find.result)
    ∙ find_from_yields_List (λ attr. bytes_eq c.args.word.now (attr_word attr)) _ _ _ c.find.ensures.ran
    (YieldsList-from_copied (YieldsList-from_slice all_attrs (cc))) (λ x b q k. search (rules, tests))
