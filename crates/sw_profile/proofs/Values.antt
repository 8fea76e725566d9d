-- Texts and what they say.
use Rattle.std.proofs.Common.{◌≡◌, ℕ, ◌<◌, [], ◌∷◌, ◌++◌, List, codes, Ok, Err, length, refl}
use Rattle.std.proofs.lemmas.Bool.{lt-ltb}
use Rattle.std.specs.Str.{is_utf8, chars}
use Rattle.hex.proofs.OnLiterals.{hex_on_literals}
use Rattle.toml.proofs.OnLiterals.{toml_on_literals}
use Rattle.addr_translate.specs.Geometry.{equal_geometry}
use Rattle.hash_units.specs.Keys.{standard_key}
use Rattle.sw_profile.specs.declared.faults.ProfileKey.TheVariants as keys
use Rattle.sw_profile.specs.declared.faults.ProfileFault.TheVariants as faults
use Rattle.sw_profile.specs.Words.{name_of, fault_text}
use Rattle.sw_profile.specs.Keys.{number, hash_digits, group_tables}
use Rattle.sw_profile.specs.Profiles.{standard_profile, number_at, hash_key_at, groups_at, profile_of, table_in, profile_in}

-- ---- version 1

default_text : profile_in (codes "version = 1\ngroups = 3\ncmus = 3\nunits = 3\nlog_registers = 10\n") ≡ Ok standard_profile
unfolding is_utf8 chars toml_on_literals hex_on_literals profile_in table_in profile_of number number_at hash_digits hash_key_at name_of
default_text = refl

-- the first lines of a profile whose other keys are right
abbrev before_key : List ℕ
before_key = codes "version = 1\ngroups = 1\ncmus = 1\nunits = 1\nlog_registers = 5\nhash_key = "

-- digits of both cases
own_key : profile_in (before_key ++ codes "\"6D5a56da255b0ec24167253d43a38fb0d0ca2bcbae7b30b477cb2da38030f20c6a42b73bbeac01fa6d5a56da255b0ec24167253D\"")
    ≡ Ok (record { shape = equal_geometry 1 (record { cmus = 1; units = 1; bits = 5 }) 5; key = standard_key })
unfolding is_utf8 chars toml_on_literals hex_on_literals profile_in table_in profile_of number number_at hash_digits hash_key_at name_of
own_key = refl

-- one digit too few
short_key : profile_in (before_key ++ codes "\"6D5a56da255b0ec24167253d43a38fb0d0ca2bcbae7b30b477cb2da38030f20c6a42b73bbeac01fa6d5a56da255b0ec24167253\"") ≡ Err faults.BadHashKey
unfolding is_utf8 chars toml_on_literals hex_on_literals profile_in table_in profile_of number number_at hash_digits hash_key_at name_of
short_key = refl

number_for_key : profile_in (before_key ++ codes "1") ≡ Err (faults.WrongType keys.HashKey)
unfolding is_utf8 chars toml_on_literals hex_on_literals profile_in table_in profile_of number number_at hash_digits hash_key_at name_of
number_for_key = refl

version_alone : profile_in (codes "version = 1") ≡ Err (faults.Missing keys.Groups)
unfolding is_utf8 chars toml_on_literals hex_on_literals profile_in table_in profile_of number number_at hash_digits hash_key_at name_of
version_alone = refl

-- cmus is missing and units is wrong, and both come behind groups
thirteen_groups : profile_in (codes "units = \"\"\ngroups = 13\nversion = 1") ≡ Err (faults.OutOfRange keys.Groups)
unfolding is_utf8 chars toml_on_literals hex_on_literals profile_in table_in profile_of number number_at hash_digits hash_key_at name_of
thirteen_groups = refl

-- ---- version 2

-- the first group has the fewest, the second arrays that version 1 does not have
two_groups : profile_in (codes "version = 2\nlog_blocks = 10\n[[group]]\ncmus = 1\nunits = 1\nlog_registers = 5\n[[group]]\ncmus = 4\nunits = 2\nlog_registers = 20\n")
    ≡ Ok (record { shape = record { groups = record { cmus = 1; units = 1; bits = 5 } ∷ record { cmus = 4; units = 2; bits = 20 } ∷ []; split = 10 }; key = standard_key })
unfolding is_utf8 chars toml_on_literals hex_on_literals profile_in table_in profile_of number number_at hash_digits hash_key_at group_tables groups_at name_of
two_groups = refl

group_is_number : profile_in (codes "version = 2\nlog_blocks = 5\ngroup = 1\n") ≡ Err (faults.WrongType keys.Group)
unfolding is_utf8 chars toml_on_literals hex_on_literals profile_in table_in profile_of number number_at hash_digits hash_key_at group_tables groups_at name_of
group_is_number = refl

no_groups : profile_in (codes "version = 2\nlog_blocks = 5\ngroup = []\n") ≡ Err (faults.OutOfRange keys.Group)
unfolding is_utf8 chars toml_on_literals hex_on_literals profile_in table_in profile_of number number_at hash_digits hash_key_at group_tables groups_at name_of
no_groups = refl

-- ---- no profile of either

third_version : profile_in (codes "version = 3\n") ≡ Err (faults.OutOfRange keys.Version)
unfolding is_utf8 chars toml_on_literals hex_on_literals profile_in table_in profile_of number number_at name_of
third_version = refl

twice : profile_in (codes "version = 1\nversion = 1\n") ≡ Err faults.NotToml
unfolding is_utf8 chars toml_on_literals hex_on_literals profile_in table_in
twice = refl

not_utf8 : profile_in (255 ∷ []) ≡ Err faults.NotToml
unfolding is_utf8 chars profile_in table_in
not_utf8 = refl

too_long : (text : List ℕ) → 65536 < length text → profile_in text ≡ Err faults.TooLong
unfolding profile_in table_in
too_long text long = rw (lt-ltb 65536 (length text) long) refl

-- ---- words

missing_words : fault_text (faults.Missing keys.LogRegisters) ≡ codes "missing log_registers"
unfolding name_of
missing_words = refl

type_words : fault_text (faults.WrongType keys.Group) ≡ codes "wrong type group"
unfolding name_of
type_words = refl

range_words : fault_text (faults.OutOfRange keys.LogBlocks) ≡ codes "out of range log_blocks"
unfolding name_of
range_words = refl
