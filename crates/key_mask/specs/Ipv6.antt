-- IPv6 addresses as texts: eight groups of hexadecimal digits, or fewer with one `::` for groups of 0.
use Rattle.std.specs.Prelude.{ℕ, zero, suc, ◌+◌, ◌-◌, ◌*◌, ◌/◌, ◌%◌, ◌==◌, ◌||◌, ◌&&◌, nat_lt, if◌then◌else◌, List, [], ◌∷◌, ◌++◌, length, map, take, drop, replicate, slice_index, Option, None, Some}
use Rattle.std.specs.Char.{digit_char}
use Rattle.std.specs.List.{fold, join_with_byte}
use Rattle.texts.specs.Cuts.{parts}
use Rattle.key_mask.specs.Numbers.{◌>>=◌, hex_digit_in}

-- the number that hexadecimal digits go on to behind those of n
abbrev pub hex_after : ℕ → List ℕ → Option ℕ
hex_after n [] = Some n
hex_after n (c ∷ cs) = hex_digit_in c >>= λ d. hex_after (n * 16 + d) cs

-- a group: 1 to 4 hexadecimal digits
unfoldable pub group_in : List ℕ → Option ℕ
group_in text = if length text == 0 || nat_lt 4 (length text) then None else hex_after 0 text

-- groups, at most n of them
unfoldable pub groups_in : ℕ → List (List ℕ) → Option (List ℕ)
groups_in n [] = Some []
groups_in zero (part ∷ more) = None
groups_in (suc n) (part ∷ more) = do
  group ← group_in part
  groups ← groups_in n more
  Some (group ∷ groups)

-- what stands on one side of `::`, which may be nothing: at most n groups with `:` between
unfoldable pub side_in : ℕ → List ℕ → Option (List ℕ)
side_in n text = if length text == 0 then Some [] else groups_in n (parts 58 text)

-- how many bytes stand before the first `::`, if there is one, where k bytes were passed
abbrev pub double_from : ℕ → List ℕ → Option ℕ
double_from k [] = None
double_from k (b ∷ bs) = if b == 58 && slice_index bs 0 == 58 then Some k else double_from (k + 1) bs

-- the eight groups without `::`
unfoldable pub full_in : List ℕ → Option (List ℕ)
full_in text = do
  groups ← groups_in 8 (parts 58 text)
  if length groups == 8 then Some groups else None

-- the groups of two sides, at most seven, with groups of 0 between
unfoldable pub sides_in : List ℕ → List ℕ → Option (List ℕ)
sides_in before behind = do
  left ← side_in 7 before
  right ← side_in (7 - length left) behind
  Some (left ++ (replicate (8 - length left - length right) 0 ++ right))

abbrev pub eight_groups_at : List ℕ → Option ℕ → Option (List ℕ)
eight_groups_at text None = full_in text
eight_groups_at text (Some at) = sides_in (take at text) (drop (at + 2) text)

-- the eight groups of an address
unfoldable pub eight_groups_in : List ℕ → Option (List ℕ)
eight_groups_in text = eight_groups_at text (double_from 0 text)

-- groups as one number, the first the most significant
abbrev pub groups_value : List ℕ → ℕ
groups_value groups = fold (λ n group. n * 65536 + group) 0 groups

-- the address that a text writes
unfoldable pub ipv6_in : List ℕ → Option ℕ
ipv6_in text = do
  groups ← eight_groups_in text
  Some (groups_value groups)

-- ---- the canonical spelling

-- a group in lower case, without zeros in front
unfoldable pub group_text : ℕ → List ℕ
group_text g =
    if nat_lt g 16 then digit_char g ∷ []
    else (if nat_lt g 256 then digit_char (g / 16) ∷ digit_char (g % 16) ∷ []
    else (if nat_lt g 4096 then digit_char (g / 16 / 16) ∷ digit_char (g / 16 % 16) ∷ digit_char (g % 16) ∷ []
    else digit_char (g / 16 / 16 / 16) ∷ digit_char (g / 16 / 16 % 16) ∷ digit_char (g / 16 % 16)
    ∷ digit_char (g % 16) ∷ []))

-- the last k groups of a number, before those behind them
unfoldable pub groups_before : ℕ → ℕ → List ℕ → List ℕ
groups_before zero n behind = behind
groups_before (suc k) n behind = groups_before k (n / 65536) (n % 65536 ∷ behind)

-- eight groups with `:` between
unfoldable pub ipv6_text : ℕ → List ℕ
ipv6_text n = join_with_byte 58 (map group_text (groups_before 8 n []))
