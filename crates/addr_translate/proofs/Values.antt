-- Worked values of the definitions.
use Rattle.std.proofs.Common.{◌≡◌, ◌-◌, ◌^◌, [], ◌∷◌, map, refl}
use Rattle.std.specs.List.{range_with_len}
use Rattle.addr_translate.specs.Blocks.{index_of}
use Rattle.addr_translate.specs.Geometry.{Geometry, equal_geometry, array_count, arrays_before, groups_ended, group_number, cmu_number, bits_of, greatest_bits, least_bits_of}

-- the hash of 10.0.0.1 in regions of 32 and 16 registers
of_32 : index_of 0x919d5c4a 5 ≡ 18
of_32 = refl

of_16 : index_of 0x919d5c4a 4 ≡ 9
of_16 = refl

no_bits : index_of 0xffff_ffff 0 ≡ 0
no_bits = refl

all_20 : index_of 0xffff_ffff 20 ≡ 2 ^ 20 - 1
all_20 = refl

-- ---- 3 groups of 3 CMUs, each array with 1,024 registers

abbrev three : Geometry
three = equal_geometry 3 (record { cmus = 3; units = 3; bits = 10 }) 5

nine_arrays : array_count three ≡ 9
nine_arrays = refl

groups_of_nine : map (group_number three) (range_with_len 0 9) ≡ 0 ∷ 0 ∷ 0 ∷ 1 ∷ 1 ∷ 1 ∷ 2 ∷ 2 ∷ 2 ∷ []
unfolding groups_ended
groups_of_nine = refl

cmus_of_nine : map (cmu_number three) (range_with_len 0 9) ≡ 0 ∷ 1 ∷ 2 ∷ 0 ∷ 1 ∷ 2 ∷ 0 ∷ 1 ∷ 2 ∷ []
unfolding groups_ended
cmus_of_nine = refl

firsts_of_three : map (arrays_before three) (range_with_len 0 4) ≡ 0 ∷ 3 ∷ 6 ∷ 9 ∷ []
firsts_of_three = refl

least_of_last : least_bits_of three 8 ≡ 5
unfolding groups_ended
least_of_last = refl

greatest_of_three : greatest_bits three ≡ 10
greatest_of_three = refl

-- ---- groups that differ: 2 CMUs, 1 CMU and 3 CMUs

abbrev uneven : Geometry
uneven = record {
  groups = record { cmus = 2; units = 1; bits = 5 } ∷ record { cmus = 1; units = 4; bits = 16 } ∷ record { cmus = 3; units = 2; bits = 8 } ∷ [];
  split = 10;
}

groups_of_uneven : map (group_number uneven) (range_with_len 0 6) ≡ 0 ∷ 0 ∷ 1 ∷ 2 ∷ 2 ∷ 2 ∷ []
unfolding groups_ended
groups_of_uneven = refl

cmus_of_uneven : map (cmu_number uneven) (range_with_len 0 6) ≡ 0 ∷ 1 ∷ 0 ∷ 0 ∷ 1 ∷ 2 ∷ []
unfolding groups_ended
cmus_of_uneven = refl

bits_of_uneven : map (bits_of uneven) (range_with_len 0 6) ≡ 5 ∷ 5 ∷ 16 ∷ 8 ∷ 8 ∷ 8 ∷ []
unfolding groups_ended
bits_of_uneven = refl

greatest_of_uneven : greatest_bits uneven ≡ 16
greatest_of_uneven = refl

-- no partition has less than one register
least_of_uneven : map (least_bits_of uneven) (range_with_len 0 6) ≡ 0 ∷ 0 ∷ 6 ∷ 0 ∷ 0 ∷ 0 ∷ []
unfolding groups_ended
least_of_uneven = refl
