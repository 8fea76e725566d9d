use Rattle.std.proofs.Common.{◌≡◌, ◌++◌, length, take, drop, All}
use Rattle.addr_translate.specs.Geometry.{IsGroup}
use Rattle.toml.specs.View.{items_view}
use Rattle.sw_profile.specs.Keys.{each_fault}
use Rattle.sw_profile.specs.Profiles.{each_group}
use Rattle.sw_profile.proofs.groups.shape_of.Given as goal

abbrev pub invariant-values : goal.invariant-values
invariant-values l = record {
  fault : each_fault (items_view (drop l.value-index l.array.items)) ≡ each_fault (items_view l.array.items);
  same : take l.count l.groups ++ each_group (items_view (drop l.value-index l.array.items)) ≡ each_group (items_view l.array.items);
  places : length l.groups ≡ 12;
  counted : l.count ≡ l.value-index;
  each : All IsGroup (take l.count l.groups);
}
