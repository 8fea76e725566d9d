-- The items of an array, and the groups found in them.
use Rattle.std.proofs.Common.{◌≡◌, List, [], ◌∷◌, length, is_some, refl, arith}
use Rattle.std.specs.List.{list_all}
use Rattle.toml.specs.Data.{as_table}
use Rattle.toml.specs.View.{view, items_view}
use Rattle.toml.specs.declared.value.Value.{Value}
use Rattle.sw_profile.specs.Keys.{item_count, are_tables}

-- what is said of items, of the values that they stand for
pub tables_of_items : (values : List Value) → are_tables (items_view values) ≡ list_all (λ v. is_some (as_table (view v))) values
tables_of_items [] = refl
tables_of_items (v ∷ vs) = rw (tables_of_items vs) refl

pub count_of_items : (values : List Value) → item_count (items_view values) ≡ length values
count_of_items [] = refl
count_of_items (v ∷ vs) = omega (arith, count_of_items vs)

pub ruleset of_items = (tables_of_items, count_of_items)
