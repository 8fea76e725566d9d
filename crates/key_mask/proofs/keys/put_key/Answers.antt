use Rattle.std.proofs.Common.{ap, ◌∙◌}
use Rattle.key_mask.specs.Keys.{is_canonical_key, key_in}
use Rattle.key_mask.proofs.KeyLemmas.{key_again, key_canonical}
use Rattle.key_mask.proofs.keys.put_key.Goals as goal

pub returns-clause-again : goal.returns-clause-again
returns-clause-again c =
    ap key_in c.put_items.ensures.text
    ∙ key_again c.args.mask.now c.put_items.ensures.known c.requires

pub returns-clause-canonical : goal.returns-clause-canonical
returns-clause-canonical c =
    ap is_canonical_key c.put_items.ensures.text
    ∙ key_canonical c.args.mask.now c.put_items.ensures.known c.requires
