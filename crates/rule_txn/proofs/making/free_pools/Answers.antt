use Rattle.std.proofs.Common.{◌≡◌, ◌∙◌, ◌++◌, ◌∷◌, ◌+◌, [], List, ℕ, refl, ap, sym, subst, arith, map}
use Rattle.std.specs.List.{All, range_with_len}
use Rattle.std.proofs.lemmas.List.Elements.{All-map}
use Rattle.std.proofs.lemmas.List.FromFn.{map-range_with_len_more}
use Rattle.addr_translate.specs.Geometry.{Geometry}
use Rattle.partition_pool.specs.Pools.{PoolState}
use Rattle.rule_txn.specs.Switch.{pool_for}
use Rattle.rule_txn.proofs.making.free_pools.Goals as goal

free_taken : (geometry : Geometry) (n : ℕ) → All (λ (pool : PoolState). pool.taken ≡ []) (map (pool_for geometry []) (range_with_len 0 n))
free_taken geometry n =
    All-map (λ (pool : PoolState). pool.taken ≡ []) (pool_for geometry []) (range_with_len 0 n) (λ k d lt. refl)

pub push_reserved-requires : goal.push_reserved-requires
push_reserved-requires c = omega (arith, c.arrays.invariant.len, c.arrays.invariant.room, c.arrays-test.true)

pub close_pools-requires : goal.close_pools-requires
close_pools-requires c =
    subst (All (λ (pool : PoolState). pool.taken ≡ [])) (sym c.arrays.invariant.pools) (free_taken c.args.shape.now c.arrays.array)

one_more : (geometry : Geometry) (n : ℕ) (old new : List PoolState) (pool : PoolState) → old ≡ map (pool_for geometry []) (range_with_len 0 n)
    → new ≡ old ++ pool ∷ [] → pool ≡ pool_for geometry [] n → new ≡ map (pool_for geometry []) (range_with_len 0 (n + 1))
one_more geometry n old new pool before last is =
    last ∙ ap (λ (ps : List PoolState). ps ++ pool ∷ []) before
    ∙ ap (λ (p : PoolState). map (pool_for geometry []) (range_with_len 0 n) ++ p ∷ []) is
    ∙ sym (map-range_with_len_more (pool_for geometry []) 0 n n (omega arith))

pub arrays-preserved : goal.arrays-preserved
arrays-preserved c = record {
  count = c.arrays.invariant.count;
  pools = one_more c.args.shape.now c.arrays.array c.arrays.pools.items c.push_reserved.new.self.items c.in-Ok.pool
      c.arrays.invariant.pools c.push_reserved.ensures.items c.in-Ok.ensures;
  len = omega (arith, c.arrays.invariant.len, c.push_reserved.ensures.len);
  room = omega (arith, c.arrays.invariant.room, c.push_reserved.ensures.capacity);
}
