use Rattle.std.proofs.Common.{◌≡◌, ◌∙◌, ℕ, ◌<◌, ap, ap₂, subst, arith, get_or, length, if◌then◌else◌, List, Option, None, Some, IfSome}
use Rattle.std.specs.List.{All, range_with_len}
use Rattle.std.proofs.lemmas.List.{get_or_read}
use Rattle.std.proofs.lemmas.List.Elements.{All-same, All-take, All-filter, All-weaker}
use Rattle.addr_translate.specs.Geometry.{Geometry, array_count, bits_of, group_number}
use Rattle.group_keys.specs.Units.{UsedUnit}
use Rattle.match_table.specs.Tables.{EntryTable}
use Rattle.partition_pool.specs.Pools.{PoolState}
use Rattle.placer.specs.declared.places.Place.{Place}
use Rattle.placer.specs.Sights.{Sight, bits_for}
use Rattle.placer.specs.Placement.{is_open, no_pool, place_on, placed, sight_in}
use Rattle.placer.specs.Laws.{IsPlaceOn}
use Rattle.placer.specs.Steps.{with_one}
use Rattle.placer.proofs.LookLemmas.{Looks, open_seen, place_seen}
use Rattle.placer.proofs.PlacementLemmas.{All-counted, placed_each, range_below}
use Rattle.placer.proofs.StepLemmas.{array_more, place_more, placed_judged}
use Rattle.placer.proofs.planning.plan.Goals as goal

pub put_open-requires-clause-exist : goal.put_open-requires-clause-exist
put_open-requires-clause-exist c =
    let geometry : Geometry = c.args.shape in
    let P : ℕ → Type 0 = λ a. a < array_count geometry in
    let test = is_open geometry
    (sight_in c.args.tables.now c.args.units.now c.args.pools.now) c.args.task.now in
    let k : ℕ = c.arrays.array in
    let below : All P (range_with_len 0 k) = range_below (array_count geometry) 0 k
    (omega (arith, c.arrays-test.true, c.arrays-array-end.ensures.value)) in
    All-same P c.arrays.arrays.items _ c.arrays.invariant.arrays
    (All-take P c.args.task.now.rows _ (All-counted P c.args.task.now.kind (group_number geometry) _ (All-filter test P _ below)))

pub put_place-requires-clause-exist : goal.put_place-requires-clause-exist
put_place-requires-clause-exist c =
    let geometry : Geometry = c.args.shape in
    let sight : Sight = sight_in c.args.tables.now c.args.units.now c.args.pools.now in
    let P : Place → Type 0 = λ place. place.array < array_count geometry in
    let Q : Place → Type 0 = λ place.
    (place.array < array_count geometry) × IsPlaceOn geometry sight c.args.task.now c.in-Some.bits place.array place in
    let k : ℕ = c.arrays.array in
    let all = placed_each geometry sight c.args.task.now c.in-Some.bits (array_count geometry)
    (range_with_len 0 k)
    (range_below (array_count geometry) 0 k (omega (arith, c.arrays-test.true, c.arrays-array-end.ensures.value))) in
    All-same P c.arrays.places.items _ c.arrays.invariant.places
    (All-take P c.args.task.now.rows _ (All-counted P c.args.task.now.kind (λ place. group_number geometry place.array) _ (All-weaker Q P (λ place h. h.0) _ all)))

pub arrays-preserved : goal.arrays-preserved
arrays-preserved c =
    let geometry : Geometry = c.args.shape in
    let tables : List EntryTable = c.args.tables.now in
    let units : List (List (Option UsedUnit)) = c.args.units.now in
    let pools : List PoolState = c.args.pools.now in
    let task = c.args.task.now in
    let sight : Sight = sight_in tables units pools in
    let bits : ℕ = c.in-Some.bits in
    let k : ℕ = c.arrays.array in
    let within : k < array_count geometry = omega
    (arith, c.arrays-test.true, c.arrays-array-end.ensures.value) in
    let in_pools : k < length pools = omega (arith, c.requires.pools) in
    let pool : PoolState = c.index-pools-array.result in
    let looks : Looks geometry tables units k c.index-tables-array.result c.index-units-group.result = record {
      table_exists = omega (arith, c.requires.tables);
      table_is = c.index-tables-array.is;
      group_exists = omega (arith, c.group_of-group.ensures.value, c.group_of-group.ensures.exists, c.requires.units);
      group_is = c.index-units-group.is
          ∙ ap (λ g. get_or units g c.index-units-group.result) c.group_of-group.ensures.value;
    } in
    let same_bits : pool.bits ≡ bits_of geometry k =
    ap (λ (p : PoolState). p.bits) (get_or_read pools k pool in_pools c.index-pools-array.is no_pool)
    ∙ c.requires.bits k within in
    let same_split : pool.split ≡ geometry.split =
    ap (λ (p : PoolState). p.split) c.index-pools-array.is ∙ c.requires.split k pool in_pools in
    let seen = open_seen geometry tables units pools task k c.index-tables-array.result c.index-units-group.result c.keys_on-keys.result looks c.keys_on-keys.ensures in
    let stands = place_seen geometry tables units pools task bits k c.index-tables-array.result c.index-units-group.result pool
    c.keys_on-keys.result c.free_in-region.result looks in_pools c.index-pools-array.is same_bits same_split c.keys_on-keys.ensures c.free_in-region.ensures in
    record {
      arrays = c.put_open.ensures.items
          ∙ ap (λ ns. with_one task.rows task.kind (group_number geometry) (if c.is_some.result then Some k else None) ns) c.arrays.invariant.arrays
          ∙ array_more task.rows task.kind (group_number geometry)
          (is_open geometry sight task) k c.is_some.result (c.is_some.ensures ∙ seen);
      places = c.put_place.ensures
          ∙ ap (λ ps. with_one task.rows task.kind (λ place. group_number geometry place.array) c.place_of.result ps) c.arrays.invariant.places
          ∙ place_more task.rows task.kind (λ place. group_number geometry place.array)
          (place_on geometry sight task bits) k c.place_of.result (c.place_of.ensures ∙ stands);
    }

pub returns : goal.returns
returns c =
    let geometry : Geometry = c.args.shape in
    let sight : Sight = sight_in c.args.tables.now c.args.units.now c.args.pools.now in
    let task = c.args.task.now in
    let k : ℕ = c.arrays.array in
    let all : k ≡ array_count geometry = omega
    (arith, c.arrays-test.false, c.arrays.auto.array-end, c.arrays-array-end.ensures.value) in
    let Answers : Option ℕ
    → Type 0 = λ o. IfSome o (λ bits. c.judged.result ≡ placed geometry sight task bits) in
    subst Answers (c.in-Some.ensures.bits ∙ ap₂ (bits_for geometry) c.kind.ensures c.size.ensures)
    (c.judged.ensures
    ∙ placed_judged geometry sight task c.in-Some.bits k c.rows.result c.arrays.arrays.items c.arrays.places.items all c.rows.ensures.value c.arrays.invariant.arrays c.arrays.invariant.places)
