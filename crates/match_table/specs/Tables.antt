-- A table of entries. It keeps them in order of installation, and besides in order of mask and value.
use Rattle.std.specs.Prelude.{◌≡◌, ◌≢◌, ◌≤◌, ◌==◌, ℕ, Bool, true, List, map, length, slice_index_or}
use Rattle.std.specs.Cmp.Lexicographic.{slice_cmp}
use Rattle.std.specs.List.{All, AllPairs, filter, list_all}
use Rattle.std.specs.Ordering.{nat_cmp, is_lt, ordering_then}
use Rattle.std.specs.declared.cmp.Ordering.{Ordering}
use Rattle.std.specs.Str.{bytes_eq}
use Rattle.key_mask.specs.Masks.{mask_bytes_of}
use Rattle.task_filters.specs.Filters.{Pattern, passes, are_disjoint}
use Rattle.lists.specs.Sorting.{Rising, sort_by}
use Rattle.match_table.specs.declared.entries.Entry.{Entry}
use Rattle.match_table.specs.Runs.{ends_from, lasts}

-- a table as it is seen: the room for entries, and the entries in order of installation
pub record EntryTable : Type 0 where
  pub room : ℕ
  pub entries : List Entry

-- the bytes of an entry's mask
abbrev pub mask_of : Entry → List ℕ
mask_of entry = mask_bytes_of entry.filter.mask

-- whether the entry takes the packets of a vector
abbrev pub takes : List ℕ → Entry → Bool
takes vector entry = passes entry.filter vector

abbrev pub has_base : ℕ → Entry → Bool
has_base base entry = entry.region.base == base

abbrev pub has_mask : List ℕ → Entry → Bool
has_mask mask entry = bytes_eq mask (mask_of entry)

abbrev pub has_value : List ℕ → Entry → Bool
has_value value entry = bytes_eq value entry.filter.value

-- whether no vector matches the filter and the entry
abbrev pub is_apart : Pattern → Entry → Bool
is_apart filter entry = are_disjoint entry.filter filter

abbrev pub admits : List Entry → Pattern → Bool
admits entries filter = list_all (is_apart filter) entries

-- by the bytes of the masks, and under one mask by those of the values
abbrev pub order : Entry → Entry → Ordering
order one two = ordering_then (slice_cmp nat_cmp (mask_of one) (mask_of two)) (slice_cmp nat_cmp one.filter.value two.filter.value)

unfoldable pub comes_first : Entry → Entry → Bool
comes_first one two = is_lt (order one two)

-- how an entry's value stands to this one
abbrev pub value_order : List ℕ → Entry → Ordering
value_order value entry = slice_cmp nat_cmp entry.filter.value value

-- the entries in order of mask and value
abbrev pub by_rank : List Entry → List Entry
by_rank = sort_by comes_first

abbrev pub same_mask : Entry → Entry → Bool
same_mask one = has_mask (mask_of one)

-- whether the one entry's mask comes before the other's
abbrev pub lesser_mask : Entry → Entry → Bool
lesser_mask one two = is_lt (slice_cmp nat_cmp (mask_of one) (mask_of two))

-- for each mask the last of its entries, in order
abbrev pub last_of_masks : List Entry → List Entry
last_of_masks entries = lasts same_mask (by_rank entries)

-- the different masks of the entries, in rising order
abbrev pub masks_of : List Entry → List (List ℕ)
masks_of entries = map mask_of (last_of_masks entries)

-- the entries of this mask, in rising order of their values
abbrev pub group_of : List ℕ → List Entry → List Entry
group_of mask entries = filter (has_mask mask) (by_rank entries)

-- no vector matches both, and their bases differ
pub record StandApart (one two : Entry) : Type 0 where
  pub filters : are_disjoint one.filter two.filter ≡ true
  pub bases : one.region.base ≢ two.region.base

-- what a table keeps of its three lists, and of the memory that each of them has
pub record IsTable (room : ℕ) (entries ranked : List Entry) (ends : List ℕ) (list_room ranked_room ends_room : ℕ) : Type 0 where
  pub some : 1 ≤ room
  pub most : room ≤ 1024
  pub apart : AllPairs StandApart entries
  pub in_rank : ranked ≡ by_rank entries
  pub grouped : ends ≡ ends_from same_mask 0 ranked
  pub few : length entries ≤ room
  pub list_holds : room ≤ list_room
  pub ranked_holds : room ≤ ranked_room
  pub ends_holds : room ≤ ends_room

-- entries of one mask, in order
pub record IsGroup (group : List Entry) : Type 0 where
  pub rising : Rising comes_first group
  pub one_mask : (d : Entry) → All (λ entry. mask_of entry ≡ mask_of (slice_index_or group 0 d)) group
