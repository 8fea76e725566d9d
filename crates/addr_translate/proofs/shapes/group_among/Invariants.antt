use Rattle.std.proofs.Common.{◌≡◌, ◌≤◌, take, sum_by}
use Rattle.addr_translate.proofs.shapes.group_among.Given as goal

abbrev pub invariant-groups : goal.invariant-groups
invariant-groups l = record {
  counted : l.before ≡ sum_by (λ g. g.cmus) (take l.number l.groups);
  from : l.before ≤ l.array;
}
