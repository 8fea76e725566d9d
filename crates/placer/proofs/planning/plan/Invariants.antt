use Rattle.std.proofs.Common.{◌≡◌, filter, take}
use Rattle.std.specs.List.{filter_map, range_with_len}
use Rattle.addr_translate.specs.Geometry.{group_number}
use Rattle.placer.specs.Placement.{counted, is_open, place_on, sight_in}
use Rattle.placer.proofs.planning.plan.Given as goal

abbrev pub invariant-arrays : goal.invariant-arrays
invariant-arrays l = record {
  arrays : l.arrays.items ≡ take l.task.rows (counted l.task.kind (group_number l.shape) (filter (is_open l.shape (sight_in l.tables l.units l.pools) l.task) (range_with_len 0 l.array)));
  places : l.places.items ≡ take l.task.rows (counted l.task.kind (λ place. group_number l.shape place.array) (filter_map (place_on l.shape (sight_in l.tables l.units l.pools) l.task l.bits) (range_with_len 0 l.array)));
}
