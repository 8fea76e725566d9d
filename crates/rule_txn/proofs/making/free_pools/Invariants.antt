use Rattle.std.proofs.Common.{◌≡◌, ◌≤◌, [], map, vec_len, vec_capacity}
use Rattle.std.specs.List.{range_with_len}
use Rattle.addr_translate.specs.Geometry.{array_count}
use Rattle.rule_txn.specs.Switch.{pool_for}
use Rattle.rule_txn.proofs.making.free_pools.Given as goal

abbrev pub invariant-arrays : goal.invariant-arrays
invariant-arrays l = record {
  count : l.array-end ≡ array_count l.shape;
  pools : l.pools.items ≡ map (pool_for l.shape []) (range_with_len 0 l.array);
  len : vec_len l.pools ≡ l.array;
  room : l.array-end ≤ vec_capacity l.pools;
}
