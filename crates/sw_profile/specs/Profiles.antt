-- The profile that a TOML document describes, or its first fault.
use Rattle.std.specs.Prelude.{◌≡◌, ℕ, ◌≤◌, ◌==◌, nat_lt, if◌then◌else◌, List, [], ◌∷◌, length, Option, None, Some, ok_or, unwrap_or, Result, Ok, Err, ℤ, pos}
use Rattle.std.specs.Option.{option_map_or, option_or}
use Rattle.std.specs.Result.{result_ok}
use Rattle.std.specs.Str.{IsUtf8, is_utf8}
use Rattle.hex.specs.Hex.{decode_sized}
use Rattle.toml.specs.Data.{Data, Items, no_items, item, Members, as_integer, as_str, as_array, as_table}
use Rattle.toml.specs.Errors.{IsBlank}
use Rattle.toml.specs.Parse.{parse_document}
use Rattle.addr_translate.specs.Geometry.{equal_geometry, no_group}
use Rattle.addr_translate.specs.declared.shapes.GroupShape.{GroupShape}
use Rattle.hash_units.specs.Keys.{standard_key}
use Rattle.sw_profile.specs.declared.profiles.Profile.{Profile}
use Rattle.sw_profile.specs.declared.faults.ProfileKey.{ProfileKey}
use Rattle.sw_profile.specs.declared.faults.ProfileKey.TheVariants as keys
use Rattle.sw_profile.specs.declared.faults.ProfileFault.{ProfileFault}
use Rattle.sw_profile.specs.declared.faults.ProfileFault.TheVariants as faults
use Rattle.sw_profile.specs.declared.faults.ProfileFail.{ProfileFail}
use Rattle.sw_profile.specs.declared.faults.ProfileFail.TheVariants as fails
use Rattle.sw_profile.specs.Keys.{Demand, first_fault, member_at, number, equal_keys, grouped_keys}

-- the profile of a switch of which nothing is said
abbrev pub standard_profile : Profile
standard_profile = record { shape = equal_geometry 3 (record { cmus = 3; units = 3; bits = 10 }) 5; key = standard_key }

-- ---- what a table says, where it has no fault

abbrev pub natural : Option ℤ → ℕ
natural (Some (pos n)) = n
natural other = 0

unfoldable pub number_at : ProfileKey → Members → ℕ
number_at key entries = option_map_or (λ found. natural (as_integer found)) (member_at key entries) 0

-- two digits a byte
abbrev pub bytes_by : Option (List ℕ) → List ℕ
bytes_by None = []
bytes_by (Some digits) = unwrap_or (result_ok (decode_sized digits 52)) []

unfoldable pub hash_key_at : Members → List ℕ
hash_key_at entries = option_map_or (λ found. bytes_by (as_str found)) (member_at keys.HashKey entries) standard_key

abbrev pub group_at : Members → GroupShape
group_at entries = record { cmus = number_at keys.Cmus entries; units = number_at keys.Units entries; bits = number_at keys.LogRegisters entries }

abbrev pub group_in : Data → GroupShape
group_in found = option_map_or group_at (as_table found) no_group

abbrev pub each_group : Items → List GroupShape
each_group no_items = []
each_group (item d ds) = group_in d ∷ each_group ds

abbrev pub groups_in : Data → List GroupShape
groups_in found = option_map_or each_group (as_array found) []

unfoldable pub groups_at : Members → List GroupShape
groups_at entries = option_map_or groups_in (member_at keys.Group entries) []

-- version 1: equal groups
abbrev pub equal_profile : Members → Profile
equal_profile entries = record { shape = equal_geometry (number_at keys.Groups entries) (group_at entries) 5; key = hash_key_at entries }

-- version 2: groups with tables of their own
abbrev pub grouped_profile : Members → Profile
grouped_profile entries = record { shape = record { groups = groups_at entries; split = number_at keys.LogBlocks entries }; key = hash_key_at entries }

-- ---- tables and texts

abbrev pub version_keys : ℕ → List Demand
version_keys version = if version == 1 then equal_keys else grouped_keys

-- the first fault of a document's table
abbrev pub fault_of : Members → Option ProfileFault
fault_of entries = option_or (number keys.Version 1 2 entries) (first_fault (version_keys (number_at keys.Version entries)) entries)

-- what a table without a fault says
abbrev pub said_by : Members → Profile
said_by entries = if number_at keys.Version entries == 1 then equal_profile entries else grouped_profile entries

abbrev pub judged : Option ProfileFault → Profile → Result Profile ProfileFault
judged None profile = Ok profile
judged (Some fault) profile = Err fault

-- the profile of a document's table, or its first fault
unfoldable pub profile_of : Members → Result Profile ProfileFault
profile_of entries = judged (fault_of entries) (said_by entries)

-- the table of a text, of at most 65,536 bytes
unfoldable pub table_in : List ℕ → Result Members ProfileFault
table_in text =
    if nat_lt 65536 (length text) then Err faults.TooLong
    else (if is_utf8 text then ok_or (parse_document text) faults.NotToml
    else Err faults.NotToml)

abbrev pub profile_by : Result Members ProfileFault → Result Profile ProfileFault
profile_by (Ok entries) = profile_of entries
profile_by (Err fault) = Err fault

-- the profile of a text, or its first fault
unfoldable pub profile_in : List ℕ → Result Profile ProfileFault
profile_in text = profile_by (table_in text)

-- what is answered is what the text says, profile or fault; where memory ran out, nothing is said
abbrev pub Gives : Result Profile ProfileFail → Result Profile ProfileFault → Type 0
Gives (Ok profile) said = said ≡ Ok profile
Gives (Err (fails.Fault fault)) said = said ≡ Err fault
Gives (Err fails.Memory) said = Unit {0}

-- the text is read for its table, which may need memory
pub record IsReadable (text : List ℕ) : Type 0 where
  pub short : length text ≤ 65536
  pub characters : IsUtf8 text
  pub filled : ¬ IsBlank text
