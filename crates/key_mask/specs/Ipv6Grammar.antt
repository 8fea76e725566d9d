-- What the texts of an IPv6 address are: eight groups, or the groups of two sides with `::` between.
use Rattle.std.specs.Prelude.{◌≡◌, ℕ, ◌+◌, ◌-◌, ◌≤◌, List, [], ◌∷◌, ◌++◌, length, replicate, Some}
use Rattle.std.specs.List.{join_with_byte}
use Rattle.key_mask.specs.Ipv6.{group_in}

-- each text is that group
abbrev pub AreGroups : List (List ℕ) → List ℕ → Type 0
AreGroups [] [] = Unit {0}
AreGroups [] (group ∷ groups) = ⊥
AreGroups (text ∷ texts) [] = ⊥
AreGroups (text ∷ texts) (group ∷ groups) = (group_in text ≡ Some group) × AreGroups texts groups

-- eight groups with `:` between
pub record IsFull (text groups : List ℕ) : Type 0 where
  pub texts : List (List ℕ)
  pub each : AreGroups texts groups
  pub eight : length groups ≡ 8
  pub text_is : text ≡ join_with_byte 58 texts

-- at most seven groups with `:` between, and one `::` that stands for the groups of 0 that are missing
pub record IsShort (text groups : List ℕ) : Type 0 where
  pub before : List (List ℕ)
  pub behind : List (List ℕ)
  pub left : List ℕ
  pub right : List ℕ
  pub each_left : AreGroups before left
  pub each_right : AreGroups behind right
  pub few : length left + length right ≤ 7
  pub text_is : text ≡ join_with_byte 58 before ++ (58 ∷ 58 ∷ join_with_byte 58 behind)
  pub groups_are : groups ≡ left ++ (replicate (8 - length left - length right) 0 ++ right)
