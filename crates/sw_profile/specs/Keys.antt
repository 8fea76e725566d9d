-- The keys of a profile in their order, what has to stand at each, and the first fault of what does.
use Rattle.std.specs.Prelude.{ℕ, suc, ◌&&◌, ◌==◌, Bool, true, false, not, nat_le, if◌then◌else◌, List, [], ◌∷◌, ◌++◌, length, Option, None, Some, is_some, option_and_then, ℤ, pos, negsuc}
use Rattle.std.specs.List.{list_all}
use Rattle.std.specs.Option.{option_or}
use Rattle.hex.specs.Hex.{is_hex_digit}
use Rattle.toml.specs.Data.{Data, Items, no_items, item, Members, get_member, as_integer, as_str, as_array, as_table}
use Rattle.sw_profile.specs.declared.faults.ProfileKey.{ProfileKey}
use Rattle.sw_profile.specs.declared.faults.ProfileKey.TheVariants as keys
use Rattle.sw_profile.specs.declared.faults.ProfileFault.{ProfileFault}
use Rattle.sw_profile.specs.declared.faults.ProfileFault.TheVariants as faults
use Rattle.sw_profile.specs.Words.{name_of}

-- what is asked of a table: its fault, or none
abbrev pub Demand : Type 0
Demand = Members → Option ProfileFault

-- the first fault, one demand after another
abbrev pub first_fault : List Demand → Demand
first_fault [] entries = None
first_fault (demand ∷ demands) entries = option_or (demand entries) (first_fault demands entries)

-- what stands at a key
abbrev pub member_at : ProfileKey → Members → Option Data
member_at key entries = get_member (name_of key) entries

-- what stands at a key that may not be missing
abbrev pub needed : ProfileKey → (Data → Option ProfileFault) → Option Data → Option ProfileFault
needed key fault None = Some (faults.Missing key)
needed key fault (Some found) = fault found

-- ---- numbers

abbrev pub is_within : ℕ → ℕ → ℤ → Bool
is_within least most (pos n) = nat_le least n && nat_le n most
is_within least most (negsuc n) = false

abbrev pub number_fault : ProfileKey → ℕ → ℕ → Option ℤ → Option ProfileFault
number_fault key least most None = Some (faults.WrongType key)
number_fault key least most (Some z) = if is_within least most z then None else Some (faults.OutOfRange key)

-- an integer from least to most
unfoldable pub number : ProfileKey → ℕ → ℕ → Demand
number key least most entries = needed key (λ found. number_fault key least most (as_integer found)) (member_at key entries)

-- ---- the hash key

abbrev pub digits_fault : Option (List ℕ) → Option ProfileFault
digits_fault None = Some (faults.WrongType keys.HashKey)
digits_fault (Some digits) = if length digits == 104 && list_all is_hex_digit digits then None else Some faults.BadHashKey

-- a string of 104 hexadecimal digits of either case; it may be missing
unfoldable pub hash_digits : Demand
hash_digits entries = option_and_then (λ found. digits_fault (as_str found)) (member_at keys.HashKey entries)

-- ---- groups

-- a group, with arrays of at most 2 ^ most_bits registers
abbrev pub group_keys : ℕ → List Demand
group_keys most_bits = number keys.Cmus 1 4 ∷ number keys.Units 1 4 ∷ number keys.LogRegisters 5 most_bits ∷ []

abbrev pub table_fault : Option Members → Option ProfileFault
table_fault None = Some (faults.WrongType keys.Group)
table_fault (Some entries) = first_fault (group_keys 20) entries

abbrev pub are_tables : Items → Bool
are_tables no_items = true
are_tables (item d ds) = is_some (as_table d) && are_tables ds

abbrev pub item_count : Items → ℕ
item_count no_items = 0
item_count (item d ds) = suc (item_count ds)

-- the first fault of the items, one after another
abbrev pub each_fault : Items → Option ProfileFault
each_fault no_items = None
each_fault (item d ds) = option_or (table_fault (as_table d)) (each_fault ds)

-- 1 to 12 tables
abbrev pub items_fault : Items → Option ProfileFault
items_fault items =
    if not (are_tables items) then Some (faults.WrongType keys.Group)
    else (if nat_le 1 (item_count items) && nat_le (item_count items) 12 then each_fault items
    else Some (faults.OutOfRange keys.Group))

abbrev pub array_fault : Option Items → Option ProfileFault
array_fault None = Some (faults.WrongType keys.Group)
array_fault (Some items) = items_fault items

-- an array of 1 to 12 tables, each of a group
unfoldable pub group_tables : Demand
group_tables entries = needed keys.Group (λ found. array_fault (as_array found)) (member_at keys.Group entries)

-- ---- the keys of each version

-- version 1: equal groups
abbrev pub equal_keys : List Demand
equal_keys = number keys.Groups 1 12 ∷ group_keys 16 ++ hash_digits ∷ []

-- version 2: groups with tables of their own
abbrev pub grouped_keys : List Demand
grouped_keys = number keys.LogBlocks 5 10 ∷ group_tables ∷ hash_digits ∷ []
