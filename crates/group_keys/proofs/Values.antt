-- Worked values of the definitions.
use Rattle.std.proofs.Common.{◌≡◌, ℕ, List, [], ◌∷◌, Option, None, Some, refl}
use Rattle.key_mask.specs.declared.fields.Field.TheVariants.{SrcIp, DstIp, Proto}
use Rattle.key_mask.specs.Masks.{mask_bytes_of, lengths_of}
use Rattle.group_keys.specs.declared.uses.KeyUse.TheVariants.{Single, Pair}
use Rattle.group_keys.specs.Units.{UsedUnit, pair_for, keys_for, served_units, freed_units, times_in}

-- the source, by its whole address and by 8 bits of it, the destination, the protocol, and both addresses
abbrev source : List ℕ
source = lengths_of ((SrcIp, 32) ∷ [])

abbrev network : List ℕ
network = lengths_of ((SrcIp, 8) ∷ [])

abbrev destination : List ℕ
destination = lengths_of ((DstIp, 32) ∷ [])

abbrev protocol : List ℕ
protocol = lengths_of ((Proto, 8) ∷ [])

abbrev addresses : List ℕ
addresses = lengths_of ((SrcIp, 32) ∷ (DstIp, 32) ∷ [])

abbrev used : List ℕ → ℕ → Option UsedUnit
used mask uses = Some (record { mask = mask; uses = uses })

-- the unit with the mask, though a free one stands before it
with_the_mask : keys_for (None ∷ used network 1 ∷ used source 1 ∷ []) source ≡ Some (Single 2)
unfolding keys_for
with_the_mask = refl

-- a unit with the mask before a pair for it
unit_before_pair : keys_for (used source 1 ∷ used destination 1 ∷ used addresses 1 ∷ None ∷ []) addresses ≡ Some (Single 2)
unfolding keys_for
unit_before_pair = refl

-- a pair before a free unit
pair_before_free : keys_for (None ∷ used source 1 ∷ used destination 1 ∷ []) addresses ≡ Some (Pair 1 2)
unfolding keys_for pair_for mask_bytes_of
pair_before_free = refl

-- the masks of a pair may have bits in common
common_bits : keys_for (used addresses 1 ∷ None ∷ used source 1 ∷ []) destination ≡ Some (Pair 0 2)
unfolding keys_for pair_for mask_bytes_of
common_bits = refl

-- of two pairs for both addresses the one with the lesser first unit, though the other stands between
the_first_pair : keys_for (used (lengths_of ((SrcIp, 32) ∷ (Proto, 8) ∷ [])) 1 ∷ used source 1 ∷ used destination 1 ∷ used (lengths_of ((DstIp, 32) ∷ (Proto, 8) ∷ [])) 1 ∷ []) addresses
    ≡ Some (Pair 0 3)
unfolding keys_for pair_for mask_bytes_of
the_first_pair = refl

the_least_free : keys_for (used network 1 ∷ None ∷ None ∷ []) source ≡ Some (Single 1)
unfolding keys_for pair_for mask_bytes_of
the_least_free = refl

all_in_use : keys_for (used network 1 ∷ used protocol 3 ∷ []) source ≡ None
unfolding keys_for pair_for mask_bytes_of
all_in_use = refl

-- a free unit takes the mask
takes_the_mask : served_units (used network 1 ∷ None ∷ []) (Single 1) source ≡ used network 1 ∷ used source 1 ∷ []
unfolding served_units
takes_the_mask = refl

-- a unit in use keeps its own
counts_a_use : served_units (used network 1 ∷ None ∷ []) (Single 0) network ≡ used network 2 ∷ None ∷ []
unfolding served_units
counts_a_use = refl

counts_a_pair : served_units (used network 1 ∷ None ∷ used source 4 ∷ []) (Pair 0 2) protocol ≡ used network 2 ∷ None ∷ used source 5 ∷ []
unfolding served_units
counts_a_pair = refl

-- a unit with one use becomes free
one_use_left : freed_units (used network 1 ∷ used source 2 ∷ []) (Single 0) ≡ None ∷ used source 2 ∷ []
unfolding freed_units
one_use_left = refl

frees_a_pair : freed_units (used network 1 ∷ None ∷ used source 4 ∷ []) (Pair 0 2) ≡ None ∷ None ∷ used source 3 ∷ []
unfolding freed_units
frees_a_pair = refl

-- the pair for both addresses, once the row with the source alone is gone
pair_after_a_remove : keys_for (freed_units (used source 2 ∷ used destination 1 ∷ []) (Single 0)) addresses ≡ Some (Pair 0 1)
unfolding keys_for pair_for mask_bytes_of freed_units
pair_after_a_remove = refl

-- a unit serves a use once for each time that it stands there
once_each : times_in (Pair 0 2) 2 ≡ 1
once_each = refl

not_at_all : times_in (Pair 0 2) 1 ≡ 0
not_at_all = refl
