-- Laws of keys, and of IPv6 addresses as texts.
use Rattle.std.specs.Prelude.{◌≡◌, ◌≢◌, ℕ, ◌<◌, ◌⊎◌, List, [], ◌∷◌, ◌++◌, length, IsTrue, Option, Some, Ok}
use Rattle.std.specs.List.{join_with_byte}
use Rattle.texts.specs.Cuts.{tail_of}
use Rattle.key_mask.specs.declared.fields.Field.{Field}
use Rattle.key_mask.specs.Fields.{name_of}
use Rattle.key_mask.specs.Ipv6.{eight_groups_in}
use Rattle.key_mask.specs.Ipv6Grammar.{IsFull, IsShort}
use Rattle.key_mask.specs.Items.{prefix_in}
use Rattle.key_mask.specs.Keys.{key_in, key_text, is_canonical_key}
use Rattle.key_mask.specs.Masks.{AreLengths, AreParts, lengths_of, no_lengths}

-- ---- which texts are keys

-- an item spells a field with a prefix length: the field's name, and a slash with that length or nothing for the whole
pub record Spells (item : List ℕ) (part : Field × ℕ) : Type 0 where
  pub behind : Option (List ℕ)
  pub text : item ≡ name_of part.0 ++ tail_of 47 behind
  pub prefix : prefix_in part.0 behind ≡ Some part.1

abbrev pub AreSpelled : List (List ℕ) → List (Field × ℕ) → Type 0
AreSpelled [] [] = Unit {0}
AreSpelled [] (part ∷ parts) = ⊥
AreSpelled (item ∷ items) [] = ⊥
AreSpelled (item ∷ items) (part ∷ parts) = Spells item part × AreSpelled items parts

-- a text spells these parts: one item or more with commas between
pub record IsKeyOf (text : List ℕ) (parts : List (Field × ℕ)) : Type 0 where
  pub items : List (List ℕ)
  pub some : 0 < length items
  pub each : AreSpelled items parts
  pub text_is : text ≡ join_with_byte 44 items

-- a text that spells parts of a mask, in any order, is read as their mask
abbrev pub KeysAreRead : Type 0
KeysAreRead = (text : List ℕ) (parts : List (Field × ℕ)) → IsKeyOf text parts → AreParts parts
    → key_in text ≡ Ok (lengths_of parts)

-- and no other text is read
abbrev pub NoOthersAreKeys : Type 0
NoOthersAreKeys = (text lengths : List ℕ) → key_in text ≡ Ok lengths
    → (parts : List (Field × ℕ)) × IsKeyOf text parts × AreParts parts × (lengths ≡ lengths_of parts)

-- ---- which key is canonical

-- the canonical key of a mask in which some field stands is read as that mask
abbrev pub KeyAgain : Type 0
KeyAgain = (lengths : List ℕ) → AreLengths lengths → lengths ≢ no_lengths
    → key_in (key_text lengths) ≡ Ok lengths

-- and no other canonical text is: a canonical text that is read as a mask is the mask's key
abbrev pub OnlyKey : Type 0
OnlyKey = (text lengths : List ℕ) → key_in text ≡ Ok lengths → IsTrue (is_canonical_key text)
    → text ≡ key_text lengths

-- ---- which texts are IPv6 addresses

-- each text of the grammar is read as its groups
abbrev pub AddressesAreRead : Type 0
AddressesAreRead = (text groups : List ℕ) → IsFull text groups ⊎ IsShort text groups
    → eight_groups_in text ≡ Some groups

-- and no other text is read
abbrev pub NoOthersAreAddresses : Type 0
NoOthersAreAddresses = (text groups : List ℕ) → eight_groups_in text ≡ Some groups
    → IsFull text groups ⊎ IsShort text groups
