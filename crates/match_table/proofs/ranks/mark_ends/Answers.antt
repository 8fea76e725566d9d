use Rattle.std.proofs.Common.{[], sym, ◌∙◌, arith}
use Rattle.group_keys.specs.declared.uses.KeyUse.TheVariants.{Single}
use Rattle.match_table.specs.declared.entries.Entry.{Entry}
use Rattle.match_table.specs.declared.operations.Code.TheVariants.{Max}
use Rattle.match_table.specs.declared.operations.First.TheVariants.{Bit}
use Rattle.match_table.specs.declared.operations.Second.TheVariants.{Top}
use Rattle.match_table.specs.Tables.{same_mask}
use Rattle.match_table.proofs.RunLemmas.{ends_on, ends_push}
use Rattle.match_table.proofs.ranks.mark_ends.Goals as goal

any_entry : Entry
any_entry = record {
  row = 0;
  filter = record { value = []; mask = [] };
  keys = Single 0;
  region = record { base = 0; bits = 0 };
  micro = record { code = Max; first = Bit; second = Top };
}

pub entries-preserved-then-goes_on : goal.entries-preserved-then-goes_on
entries-preserved-then-goes_on c = record {
  so_far = ends_on same_mask c.entries.ends.items _ c.entries.at c.args.ranked.now any_entry c.entries-test.true
      (sym (c.goes_on.ensures any_entry) ∙ c.if-goes_on.true) c.entries.invariant.so_far;
  few = omega arith;
  room = omega arith;
  kept = omega arith;
}

pub entries-preserved : goal.entries-preserved
entries-preserved c =
    let push = ends_push same_mask c.entries.ends.items _ c.entries.at c.args.ranked.now any_entry c.entries-test.true
    (sym (c.goes_on.ensures any_entry) ∙ c.if-goes_on.false) c.entries.invariant.so_far in
    record {
      so_far = rw c.put_last.ensures.items push;
      few = omega arith;
      room = omega arith;
      kept = omega arith;
    }
