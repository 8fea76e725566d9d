-- Laws of the placement rule.
use Rattle.std.specs.Prelude.{◌≡◌, ℕ, ◌<◌, Bool, true, List, length, take, Some, Ok}
use Rattle.std.specs.List.{All, AllPairs}
use Rattle.addr_translate.specs.Geometry.{Geometry, array_count, group_number}
use Rattle.group_keys.specs.Units.{keys_for}
use Rattle.lists.specs.Sorting.{sort_by}
use Rattle.match_table.specs.declared.entries.Entry.{Entry}
use Rattle.sketch_defs.specs.declared.kinds.Kind.TheVariants.{SumaxSum}
use Rattle.sketch_defs.specs.Tasks.{Sketch}
use Rattle.placer.specs.declared.places.Place.{Place}
use Rattle.placer.specs.Sights.{Sight, rules_at, units_at, region_for}
use Rattle.placer.specs.Placement.{is_open, places_for, placed}

-- the place stands on an array that is open, with the units that give the key and the lowest free partition
pub record IsPlaceOn (geometry : Geometry) (sight : Sight) (task : Sketch) (bits array : ℕ)
    (place : Place) : Type 0 where
  pub array_is : place.array ≡ array
  pub open_to : is_open geometry sight task array ≡ true
  pub keys_are : keys_for (units_at geometry sight array) task.key ≡ Some place.keys
  pub region_is : region_for geometry sight bits array ≡ Some place.region

-- the places of an accepted task: as many as its rows, each as above, on arrays that rise, and for SuMax-Sum in groups that rise
pub record ArePlaces (geometry : Geometry) (sight : Sight) (task : Sketch) (bits : ℕ)
    (places : List Place) : Type 0 where
  pub first : places ≡ take task.rows (places_for geometry sight task bits)
  pub counted_is : length places ≡ task.rows
  pub exist : All (λ place. place.array < array_count geometry) places
  pub stand : All (λ place. IsPlaceOn geometry sight task bits place.array place) places
  pub rise : AllPairs (λ one two. one.array < two.array) places
  pub groups : task.kind ≡ SumaxSum
      → AllPairs (λ one two. group_number geometry one.array < group_number geometry two.array) places

abbrev pub PlacesStand : Type 0
PlacesStand = (geometry : Geometry) (sight : Sight) (task : Sketch) (bits : ℕ) (places : List Place)
    → placed geometry sight task bits ≡ Ok places → ArePlaces geometry sight task bits places

-- in which order the entries of an array stand is all the same
abbrev pub OrderIsFree : Type 0
OrderIsFree = (geometry : Geometry) (task : Sketch) (bits : ℕ) (one two : Sight) (first : Entry → Entry → Bool)
    → ((array : ℕ) → array < array_count geometry → sort_by first (rules_at one array) ≡ sort_by first (rules_at two array))
    → one.units ≡ two.units → one.taken ≡ two.taken
    → placed geometry one task bits ≡ placed geometry two task bits
