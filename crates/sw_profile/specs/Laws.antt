-- A law of profiles.
use Rattle.std.specs.Prelude.{◌≡◌, pos, Option, None, Some, Ok}
use Rattle.toml.specs.Data.{integer, array, Items, no_items, item, Members, as_table}
use Rattle.sw_profile.specs.declared.profiles.Profile.{Profile}
use Rattle.sw_profile.specs.declared.faults.ProfileKey.{ProfileKey}
use Rattle.sw_profile.specs.declared.faults.ProfileKey.TheVariants as keys
use Rattle.sw_profile.specs.Keys.{member_at, item_count}
use Rattle.sw_profile.specs.Profiles.{number_at, profile_of}

-- both tables have the same at the key, or nothing
abbrev pub Agree : ProfileKey → Members → Members → Type 0
Agree key one two = member_at key one ≡ member_at key two

-- a group's table has the numbers of a table of version 1
pub record IsGroupOf (first own : Members) : Type 0 where
  pub cmus : Agree keys.Cmus own first
  pub units : Agree keys.Units own first
  pub bits : Agree keys.LogRegisters own first

abbrev pub IsTableOf : Members → Option Members → Type 0
IsTableOf first None = ⊥
IsTableOf first (Some own) = IsGroupOf first own

abbrev pub AreTablesOf : Members → Items → Type 0
AreTablesOf first no_items = Unit {0}
AreTablesOf first (item d ds) = IsTableOf first (as_table d) × AreTablesOf first ds

-- the second table is of version 2 and says what the first says, group by group
pub record IsInGroups (first second : Members) : Type 0 where
  pub version : member_at keys.Version second ≡ Some (integer (pos 2))
  pub split : member_at keys.LogBlocks second ≡ Some (integer (pos 5))
  pub hash_key : Agree keys.HashKey second first
  pub items : Items
  pub groups : member_at keys.Group second ≡ Some (array items)
  pub count : item_count items ≡ number_at keys.Groups first
  pub each : AreTablesOf first items

-- both give the same profile, if the first has no fault
abbrev pub EqualGroupsStay : Type 0
EqualGroupsStay = (first second : Members) (profile : Profile)
    → member_at keys.Version first ≡ Some (integer (pos 1)) → IsInGroups first second
    → profile_of first ≡ Ok profile → profile_of second ≡ Ok profile
