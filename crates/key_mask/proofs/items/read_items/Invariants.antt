use Rattle.std.proofs.Common.{◌≡◌, ◌+◌, ◌≤◌, length}
use Rattle.std.specs.Option.{option_copied}
use Rattle.texts.specs.Cuts.{left_behind, parts}
use Rattle.texts.proofs.CutLemmas.{parts_behind}
use Rattle.key_mask.specs.Items.{with_items}
use Rattle.key_mask.proofs.items.read_items.Given as goal

abbrev pub invariant-items : goal.invariant-items
invariant-items g l = record {
  same : with_items g.T.FromItems.item_in l.place l.found (parts_behind 44 (option_copied l.left)) ≡ with_items g.T.FromItems.item_in 0 l.fn.none (parts 44 l.fn.text);
  room : l.place + left_behind (option_copied l.left) ≤ length l.fn.text + 1;
}

abbrev pub decreases-items : goal.decreases-items
decreases-items g l = left_behind (option_copied l.left)
