-- Worked values of the definitions.
use Rattle.std.proofs.Common.{◌≡◌, ℕ, List, [], ◌∷◌, map, refl}
use Rattle.std.specs.Prelude.{true, false, None, Some, take}
use Rattle.addr_translate.specs.Blocks.{Block}
use Rattle.partition_pool.specs.Regions.{are_apart, free_block, free_registers, by_base, without}
use Rattle.partition_pool.specs.Nodes.{has_free, node, tree_of, largest_free}
use Rattle.partition_pool.specs.Kept.{blocks_from, place}

abbrev at : ℕ → ℕ → Block
at base bits = record { base = base; bits = bits }

-- ---- an array of 32 registers, in partitions of at least one

-- a new pool: the whole array is free, and so is each half
new_tree : take 3 (tree_of [] 5 0) ≡ 6 ∷ 5 ∷ 5 ∷ []
unfolding tree_of node has_free
new_tree = refl

-- 16 registers are taken
half_found : free_block [] 5 4 ≡ Some (at 0 4)
unfolding free_block
half_found = refl

half_tree : take 3 (tree_of (at 0 4 ∷ []) 5 0) ≡ 5 ∷ 0 ∷ 5 ∷ []
unfolding tree_of node has_free
half_tree = refl

-- the other 16 registers are what is left
upper_found : free_block (at 0 4 ∷ []) 5 4 ≡ Some (at 16 4)
unfolding free_block
upper_found = refl

half_registers : free_registers (at 0 4 ∷ []) 5 ≡ 16
half_registers = refl

half_largest : largest_free (at 0 4 ∷ []) 5 0 ≡ 16
unfolding node has_free
half_largest = refl

-- all 32 registers are one partition, found once
whole_found : free_block [] 5 5 ≡ Some (at 0 5)
unfolding free_block
whole_found = refl

whole_taken : free_block (at 0 5 ∷ []) 5 5 ≡ None
unfolding free_block
whole_taken = refl

-- three of 8 registers are taken, and the second is given back: 16 registers are free, and no 16 of them in
-- one region
abbrev x_y_z : List Block
x_y_z = by_base (at 16 3 ∷ at 0 3 ∷ at 8 3 ∷ [])

three : x_y_z ≡ at 0 3 ∷ at 8 3 ∷ at 16 3 ∷ []
three = refl

abbrev x_z : List Block
x_z = without (at 8 3) x_y_z

two : x_z ≡ at 0 3 ∷ at 16 3 ∷ []
two = refl

no_half : free_block x_z 5 4 ≡ None
unfolding free_block
no_half = refl

free_of_two : free_registers x_z 5 ≡ 16
free_of_two = refl

largest_of_two : largest_free x_z 5 0 ≡ 8
unfolding node has_free
largest_of_two = refl

-- the least free region stands between the two
between : free_block x_z 5 3 ≡ Some (at 8 3)
unfolding free_block
between = refl

tree_of_two : take 7 (tree_of x_z 5 0) ≡ 4 ∷ 4 ∷ 4 ∷ 0 ∷ 4 ∷ 0 ∷ 4 ∷ []
unfolding tree_of node has_free
tree_of_two = refl

-- both halves are taken
full : map (free_block (at 0 4 ∷ at 16 4 ∷ []) 5) (0 ∷ 4 ∷ 5 ∷ []) ≡ None ∷ None ∷ None ∷ []
unfolding free_block
full = refl

full_registers : free_registers (at 0 4 ∷ at 16 4 ∷ []) 5 ≡ 0
full_registers = refl

full_largest : largest_free (at 0 4 ∷ at 16 4 ∷ []) 5 0 ≡ 0
unfolding node has_free
full_largest = refl

-- nothing is taken
all_registers : free_registers [] 5 ≡ 32
all_registers = refl

all_largest : largest_free [] 5 0 ≡ 32
unfolding node has_free
all_largest = refl

-- ---- regions, and where they are kept

touching : are_apart (at 8 3) (at 16 4) ≡ true
touching = refl

inside : are_apart (at 16 4) (at 24 3) ≡ false
inside = refl

-- partitions of at least two registers: 4 registers from the third on, 2 from the fifth on
kept : blocks_from 1 0 (0 ∷ 0 ∷ 3 ∷ 0 ∷ 2 ∷ []) ≡ at 4 2 ∷ at 8 1 ∷ []
kept = refl

-- the whole array, its upper half, and the first quarter
places : place 5 5 0 ∷ place 5 4 1 ∷ place 5 3 0 ∷ [] ≡ 0 ∷ 2 ∷ 3 ∷ []
places = refl
