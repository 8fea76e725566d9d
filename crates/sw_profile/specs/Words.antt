-- How keys are written, and what is said of faults.
use Rattle.std.specs.Prelude.{ℕ, List, [], ◌++◌, codes, Option, None, Some}
use Rattle.sw_profile.specs.declared.faults.ProfileKey.{ProfileKey}
use Rattle.sw_profile.specs.declared.faults.ProfileKey.TheVariants as keys
use Rattle.sw_profile.specs.declared.faults.ProfileFault.{ProfileFault}
use Rattle.sw_profile.specs.declared.faults.ProfileFault.TheVariants as faults

-- how a key is written
unfoldable pub name_of : ProfileKey → List ℕ
name_of keys.Version = codes "version"
name_of keys.Groups = codes "groups"
name_of keys.Cmus = codes "cmus"
name_of keys.Units = codes "units"
name_of keys.LogRegisters = codes "log_registers"
name_of keys.HashKey = codes "hash_key"
name_of keys.LogBlocks = codes "log_blocks"
name_of keys.Group = codes "group"

-- what is said of a fault, before its key
abbrev pub words_of : ProfileFault → List ℕ
words_of faults.TooLong = codes "too long"
words_of faults.NotToml = codes "not toml"
words_of (faults.Missing key) = codes "missing "
words_of (faults.WrongType key) = codes "wrong type "
words_of (faults.OutOfRange key) = codes "out of range "
words_of faults.BadHashKey = codes "bad hash key"

-- the key at which a fault is found
abbrev pub key_of : ProfileFault → Option ProfileKey
key_of (faults.Missing key) = Some key
key_of (faults.WrongType key) = Some key
key_of (faults.OutOfRange key) = Some key
key_of fault = None

abbrev pub name_if : Option ProfileKey → List ℕ
name_if None = []
name_if (Some key) = name_of key

-- what is said of a fault: its words, and its key if it has one
abbrev pub fault_text : ProfileFault → List ℕ
fault_text fault = words_of fault ++ name_if (key_of fault)
