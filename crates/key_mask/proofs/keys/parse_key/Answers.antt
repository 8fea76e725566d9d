use Rattle.std.proofs.Common.{ap, ◌∙◌}
use Rattle.texts.specs.Cuts.{parts}
use Rattle.key_mask.specs.Items.{with_items}
use Rattle.key_mask.specs.Keys.{key_in, with_item}
use Rattle.key_mask.proofs.KeyLemmas.{key_stands}
use Rattle.key_mask.proofs.keys.parse_key.Goals as goal

pub returns-clause-stands : goal.returns-clause-stands
unfolding key_in
returns-clause-stands c =
    key_stands c.args.text.now c.read_items.result
    (c.read_items.ensures ∙ ap (λ none. with_items with_item 0 none (parts 44 c.args.text.now)) c.empty.ensures)
