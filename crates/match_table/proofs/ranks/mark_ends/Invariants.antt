use Rattle.std.proofs.Common.{◌≡◌, ◌≤◌, ◌++◌, length, drop, vec_len, vec_capacity}
use Rattle.match_table.specs.Runs.{ends_from}
use Rattle.match_table.specs.Tables.{same_mask}
use Rattle.match_table.proofs.ranks.mark_ends.Given as goal

abbrev pub invariant-entries : goal.invariant-entries
invariant-entries l = record {
  so_far : l.ends.items ++ ends_from same_mask l.at (drop l.at l.ranked) ≡ ends_from same_mask 0 l.ranked;
  few : vec_len l.ends ≤ l.at;
  room : length l.ranked ≤ vec_capacity l.ends;
  kept : vec_capacity l.fn.ends ≤ vec_capacity l.ends;
}
