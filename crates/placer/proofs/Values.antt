-- Worked values of the placement rule and of sizes.
use Rattle.std.proofs.Common.{◌≡◌, ℕ, List, [], ◌∷◌, ◌++◌, replicate, Option, None, Some, Ok, Err, refl}
use Rattle.addr_translate.specs.Blocks.{Block}
use Rattle.addr_translate.specs.Geometry.{Geometry, equal_geometry, groups_ended}
use Rattle.key_mask.specs.declared.fields.Field.TheVariants.{SrcIp, Proto}
use Rattle.key_mask.specs.Masks.{mask_bytes_of, lengths_of, no_lengths}
use Rattle.task_filters.specs.Filters.{Pattern, are_disjoint}
use Rattle.pkt_headers.specs.declared.packets.Attr.TheVariants.{Packets}
use Rattle.partition_pool.specs.Pools.{PoolState}
use Rattle.partition_pool.specs.Regions.{free_block}
use Rattle.group_keys.specs.declared.uses.KeyUse.TheVariants.{Single}
use Rattle.group_keys.specs.Units.{UsedUnit, keys_for, pair_for}
use Rattle.match_table.specs.declared.entries.Entry.{Entry}
use Rattle.match_table.specs.declared.operations.Code.TheVariants.{CondAdd}
use Rattle.match_table.specs.declared.operations.First.TheVariants.{Weight}
use Rattle.match_table.specs.declared.operations.Second.TheVariants.{Top}
use Rattle.sketch_defs.specs.declared.kinds.Kind.{Kind}
use Rattle.sketch_defs.specs.declared.kinds.Kind.TheVariants.{Cms, SumaxSum, Hll}
use Rattle.sketch_defs.specs.Tasks.{Sketch}
use Rattle.placer.specs.declared.places.Place.{Place}
use Rattle.placer.specs.declared.places.Refusal.TheVariants.{NoUnit, NoPartition}
use Rattle.placer.specs.Sights.{Sight, bits_for}
use Rattle.placer.specs.Placement.{open_arrays, places_for, placed, first_full}

abbrev all : Pattern
all = record { value = replicate 48 0; mask = no_lengths }

abbrev protocol : ℕ → Pattern
protocol number = record { value = replicate 12 0 ++ number ∷ replicate 35 0; mask = lengths_of ((Proto, 8) ∷ []) }

abbrev source : List ℕ
source = lengths_of ((SrcIp, 32) ∷ [])

abbrev task : Kind → ℕ → Pattern → ℕ → Sketch
task kind rows filter size = record { name = 119 ∷ []; kind = kind; rows = rows; key = source; attr = Packets; filter = filter; size = size }

abbrev block : ℕ → ℕ → Block
block base bits = record { base = base; bits = bits }

abbrev entry : Pattern → Block → Entry
entry filter region = record { row = 0; filter = filter; keys = Single 0; region = region; micro = record { code = CondAdd; first = Weight Packets; second = Top } }

abbrev used : ℕ → Option UsedUnit
used uses = Some (record { mask = source; uses = uses })

abbrev place : ℕ → Block → Place
place array region = record { array = array; keys = Single 0; region = region }

-- ---- one array of 32 registers, with one unit

abbrev one_array : Geometry
one_array = equal_geometry 1 (record { cmus = 1; units = 1; bits = 5 }) 5

-- 8 registers at 0 and 8 at 16, for other protocols: open, but no 16 of the others stand in one partition
abbrev apart_in_place : Sight
apart_in_place = record {
  rules = (entry (protocol 1) (block 0 3) ∷ entry (protocol 17) (block 16 3) ∷ []) ∷ [];
  units = (used 2 ∷ []) ∷ [];
  taken = (block 0 3 ∷ block 16 3 ∷ []) ∷ [];
}

no_partition : placed one_array apart_in_place (task Cms 1 (protocol 2) 16) 4 ≡ Err (NoPartition 1 0)
unfolding placed open_arrays places_for groups_ended keys_for are_disjoint mask_bytes_of free_block
no_partition = refl

-- of 8 registers there is one, between them
in_between : placed one_array apart_in_place (task Cms 1 (protocol 2) 8) 3 ≡ Ok (place 0 (block 8 3) ∷ [])
unfolding placed open_arrays places_for groups_ended keys_for are_disjoint mask_bytes_of free_block
in_between = refl

-- all packets are another task's
abbrev taken_whole : Sight
taken_whole = record { rules = (entry all (block 0 0) ∷ []) ∷ []; units = (used 1 ∷ []) ∷ []; taken = (block 0 0 ∷ []) ∷ [] }

no_packets_left : placed one_array taken_whole (task Cms 1 (protocol 6) 1) 0 ≡ Err (NoUnit 1 0)
unfolding placed open_arrays places_for groups_ended keys_for are_disjoint mask_bytes_of free_block
no_packets_left = refl

-- ---- three groups of three arrays and three units

abbrev nine_arrays : Geometry
nine_arrays = equal_geometry 3 (record { cmus = 3; units = 3; bits = 10 }) 5

abbrev empty : Sight
empty = record { rules = replicate 9 []; units = replicate 3 (replicate 3 None); taken = replicate 9 [] }

three_rows : placed nine_arrays empty (task Cms 3 all 32) 5
    ≡ Ok (place 0 (block 0 5) ∷ place 1 (block 0 5) ∷ place 2 (block 0 5) ∷ [])
unfolding placed open_arrays places_for groups_ended keys_for pair_for are_disjoint mask_bytes_of free_block
three_rows = refl

-- rows of SuMax-Sum stand in different groups, of which there are three
a_row_a_group : placed nine_arrays empty (task SumaxSum 3 all 32) 5
    ≡ Ok (place 0 (block 0 5) ∷ place 3 (block 0 5) ∷ place 6 (block 0 5) ∷ [])
unfolding placed open_arrays places_for groups_ended keys_for pair_for are_disjoint mask_bytes_of free_block
a_row_a_group = refl

too_few_groups : placed nine_arrays empty (task SumaxSum 4 all 32) 5 ≡ Err (NoUnit 4 3)
unfolding placed open_arrays places_for groups_ended keys_for pair_for are_disjoint mask_bytes_of free_block
too_few_groups = refl

-- two tasks of four rows take all packets of eight arrays
abbrev one_left : Sight
one_left = record {
  rules = replicate 8 (entry all (block 0 5) ∷ []) ++ [] ∷ [];
  units = replicate 3 (used 3 ∷ None ∷ None ∷ []);
  taken = replicate 8 (block 0 5 ∷ []) ++ [] ∷ [];
}

one_array_left : placed nine_arrays one_left (task Cms 4 all 32) 5 ≡ Err (NoUnit 4 1)
unfolding placed open_arrays places_for groups_ended keys_for pair_for are_disjoint mask_bytes_of free_block
one_array_left = refl

-- ---- two groups of one array, of 32 and of 64 registers

abbrev two_sizes : Geometry
two_sizes = record { groups = record { cmus = 1; units = 1; bits = 5 } ∷ record { cmus = 1; units = 1; bits = 6 } ∷ []; split = 5 }

abbrev two_empty : Sight
two_empty = record { rules = [] ∷ [] ∷ []; units = (None ∷ []) ∷ (None ∷ []) ∷ []; taken = [] ∷ [] ∷ [] }

-- an array that is too small is not roomy
larger_array : placed two_sizes two_empty (task Cms 1 all 64) 6 ≡ Ok (place 1 (block 0 6) ∷ [])
unfolding placed open_arrays places_for groups_ended keys_for pair_for are_disjoint mask_bytes_of free_block
larger_array = refl

-- 64 cells are as many as the larger array has, 128 are more; HyperLogLog has no fewer than 16
sixty_four : bits_for two_sizes Cms 64 ≡ Some 6
unfolding bits_for
sixty_four = refl

too_many : bits_for two_sizes Cms 128 ≡ None
unfolding bits_for
too_many = refl

no_power : bits_for two_sizes Cms 3 ≡ None
unfolding bits_for
no_power = refl

one_cell : bits_for two_sizes Cms 1 ≡ Some 0
unfolding bits_for
one_cell = refl

few_for_ranks : bits_for two_sizes Hll 8 ≡ None
unfolding bits_for
few_for_ranks = refl

-- of an array of 2 ^ 20 registers in 2 ^ 10 partitions 512 are less than the smallest
too_few : bits_for (equal_geometry 1 (record { cmus = 1; units = 1; bits = 20 }) 10) Cms 512 ≡ None
unfolding bits_for
too_few = refl

-- ---- rows that move

abbrev pool : ℕ → ℕ → List Block → PoolState
pool number bits taken = record { number = number; bits = bits; split = 5; taken = taken }

-- the smallest partition of 64 registers has 2
no_single_register : first_full (pool 0 5 [] ∷ pool 1 6 [] ∷ []) 0 (1 ∷ []) ≡ Some 0
unfolding free_block
no_single_register = refl

-- of two that are full the first
first_of_two : first_full (pool 0 5 [] ∷ pool 1 5 (block 0 5 ∷ []) ∷ pool 2 5 (block 0 5 ∷ []) ∷ []) 5
    (0 ∷ 1 ∷ 2 ∷ []) ≡ Some 1
unfolding free_block
first_of_two = refl

room_for_all : first_full (pool 0 5 [] ∷ pool 1 5 [] ∷ []) 4 (1 ∷ 0 ∷ []) ≡ None
unfolding free_block
room_for_all = refl
