use Rattle.std.proofs.Common.{◌≡◌, ◌≤◌, ◌-◌, length}
use Rattle.std.specs.Option.{option_copied}
use Rattle.texts.specs.Cuts.{left_behind, parts}
use Rattle.texts.proofs.CutLemmas.{parts_behind}
use Rattle.key_mask.specs.Ipv6.{groups_in}
use Rattle.key_mask.proofs.Ipv6ReadLemmas.{ahead}
use Rattle.key_mask.proofs.ipv6.groups_of.Given as goal

abbrev pub invariant-groups : goal.invariant-groups
invariant-groups l = record {
  same : ahead l.groups.items (groups_in (l.most - length l.groups.items) (parts_behind 58 (option_copied l.left))) ≡ groups_in l.most (parts 58 l.fn.text);
  few : length l.groups.items ≤ l.most;
}

abbrev pub decreases-groups : goal.decreases-groups
decreases-groups l = left_behind (option_copied l.left)
