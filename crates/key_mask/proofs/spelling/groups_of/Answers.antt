use Rattle.std.proofs.Common.{◌-◌, ◌%◌, length-set, arith, ◌∙◌}
use Rattle.key_mask.proofs.Ipv6PrintLemmas.{group_put, all_put}
use Rattle.key_mask.proofs.spelling.groups_of.Goals as goal

pub groups-preserved : goal.groups-preserved
groups-preserved c = record {
  same = group_put c.groups.k c.groups.rest c.groups.groups _ c.groups.invariant.long c.groups-test.true c.groups.invariant.same;
  long = length-set c.groups.groups (7 - c.groups.k) (c.groups.rest % 65536) ∙ c.groups.invariant.long;
}

pub returns : goal.returns
returns c = all_put c.groups.k c.groups.rest c.groups.groups _ (omega arith) c.groups.invariant.same
