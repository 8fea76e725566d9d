-- Before any task, and after the last: nothing is taken, installed or served.
use Rattle.std.proofs.Common.{◌≡◌, ℕ, suc, zero, ◌+◌, ◌^◌, ◌<◌, List, [], ◌∷◌, length, get_or, map, replicate, refl, ap, ap₂, sym, ◌∙◌, subst, arith}
use Rattle.std.specs.Prelude.{Option, None}
use Rattle.std.specs.List.{All, range_with_len}
use Rattle.std.proofs.lemmas.List.Elements.{All-map}
use Rattle.addr_translate.specs.declared.shapes.GroupShape.{GroupShape}
use Rattle.addr_translate.specs.Geometry.{Geometry, array_count, group_in, no_group}
use Rattle.partition_pool.specs.Pools.{PoolState}
use Rattle.group_keys.specs.Units.{UsedUnit}
use Rattle.match_table.specs.Tables.{EntryTable}
use Rattle.pipe_core.specs.Rules.{empty_table}
use Rattle.switch_model.specs.Sights.{all_held, all_spots, all_uses, units_on, used_from, unit_uses}
use Rattle.rule_txn.specs.Switch.{pool_for, pools_for, placed_table, table_for, tables_for, groups_for, Stands, first_state}

pub none_taken : (geometry : Geometry) (pools : List PoolState) → pools ≡ pools_for geometry [] → All (λ (p : PoolState). p.taken ≡ []) pools
unfolding pools_for
none_taken geometry pools e =
    subst (All (λ (p : PoolState). p.taken ≡ [])) (sym e)
    (All-map (λ (p : PoolState). p.taken ≡ []) (pool_for geometry []) (range_with_len 0 (array_count geometry)) (λ k d lt. refl))

-- so many equal elements, by number
same_each : {X : Type 0} (f : ℕ → X) (x : X) (from n : ℕ) → ((k : ℕ) → f k ≡ x) → replicate n x ≡ map f (range_with_len from n)
same_each f x from zero same = refl
same_each f x from (suc n) same = ap₂ (λ y ys. y ∷ ys) (sym (same from)) (same_each f x (from + 1) n same)

empty_placed : (n room : ℕ) → map placed_table (replicate n (empty_table room)) ≡ replicate n (empty_table room)
empty_placed zero room = refl
empty_placed (suc n) room = ap (λ (ts : List EntryTable). empty_table room ∷ ts) (empty_placed n room)

-- each element of a list, by its number
by_number : {X Y : Type 0} (f : X → Y) (d : X) (xs : List X) (from : ℕ) (g : ℕ → X) → ((k : ℕ) → k < length xs → g (from + k) ≡ get_or xs k d)
    → map f xs ≡ map (λ k. f (g k)) (range_with_len from (length xs))
by_number f d [] from g at = refl
by_number f d (x ∷ xs) from g at =
    let here : g from ≡ x = (let e : from ≡ from + 0 = omega arith in ap g e ∙ at 0 (omega arith)) in
    ap₂ (λ y ys. y ∷ ys) (ap f (sym here))
    (by_number f d xs (from + 1) g (λ k lt. let e : from + 1 + k ≡ from + suc k = omega arith in ap g e ∙ at (suc k) (omega (arith, lt))))

pub stands_first : (geometry : Geometry) (key : List ℕ) → Stands [] (first_state geometry key)
unfolding tables_for groups_for all_held all_spots all_uses
stands_first geometry key = record {
  pools = refl;
  tables = empty_placed (array_count geometry) (2 ^ geometry.split)
      ∙ same_each (table_for geometry []) (empty_table (2 ^ geometry.split)) 0 (array_count geometry) (λ k. refl);
  groups = by_number (λ (g : GroupShape). replicate g.units (let free : Option UsedUnit = None in free)) no_group geometry.groups 0 (group_in geometry)
      (λ k lt. (let e : 0 + k ≡ k = omega arith in ap (group_in geometry) e))
      ∙ units_are (range_with_len 0 (length geometry.groups));
}
  where
    free_unit : Option UsedUnit
    free_unit = None

    units_are : (groups : List ℕ) → map (λ k. replicate (group_in geometry k).units free_unit) groups ≡ map (units_on geometry []) groups
    units_are [] = refl
    units_are (g ∷ gs) = ap₂ (λ us rest. us ∷ rest) (same_each (λ unit. used_from (unit_uses [] unit)) free_unit 0 (group_in geometry g).units (λ k. refl)) (units_are gs)
