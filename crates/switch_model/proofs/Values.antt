-- Worked values: what changes and packets come to on small switches.
use Rattle.std.proofs.Common.{◌≡◌, ℕ, List, [], ◌∷◌, ◌++◌, map, Option, None, Some, refl}
use Rattle.std.specs.Prelude.{replicate, codes, Result, Err}
use Rattle.pkt_headers.specs.declared.packets.Packet.{Packet}
use Rattle.key_mask.specs.declared.fields.Field.TheVariants.{SrcIp, DstIp, Proto}
use Rattle.key_mask.specs.Masks.{no_lengths, mask_bytes_of, lengths_of}
use Rattle.pkt_headers.specs.declared.packets.Attr.TheVariants.{Packets}
use Rattle.task_filters.specs.Filters.{Pattern, are_disjoint, passes}
use Rattle.addr_translate.specs.Blocks.{Block}
use Rattle.addr_translate.specs.Geometry.{Geometry, equal_geometry, groups_ended}
use Rattle.partition_pool.specs.Regions.{free_block}
use Rattle.group_keys.specs.declared.uses.KeyUse.TheVariants.{Single, Pair}
use Rattle.group_keys.specs.Units.{UsedUnit, keys_for, pair_for}
use Rattle.sketch_defs.specs.declared.kinds.Kind.TheVariants.{Cms, SumaxSum}
use Rattle.sketch_defs.specs.Tasks.{Sketch}
use Rattle.placer.specs.declared.places.Refusal.TheVariants.{NoUnit, NoPartition}
use Rattle.placer.specs.Sights.{bits_for}
use Rattle.placer.specs.Placement.{open_arrays, places_for, placed}
use Rattle.switch_model.specs.Records.{Row, Outline, outlines}
use Rattle.switch_model.specs.Sights.{all_held, all_spots, all_uses, sight_of}
use Rattle.switch_model.specs.Changes.{Change, Edit, Add, Resize, Remove, Release, Refusal, Exists, BadMemory, Misplaced, Unknown, FrozenHeld, NoRoom, NoFrozen, judged, changed}
use Rattle.switch_model.specs.Packets.{join}
use Rattle.switch_model.specs.Histories.{Passes, Changes, after, accepted, part_of}

-- `count` groups of arrays of 32 registers, of which each has up to 32 partitions
abbrev of_groups : ℕ → ℕ → ℕ → Geometry
of_groups count cmus units = equal_geometry count (record { cmus = cmus; units = units; bits = 5 }) 5

abbrev source : List ℕ
source = lengths_of ((SrcIp, 32) ∷ [])

abbrev destination : List ℕ
destination = lengths_of ((DstIp, 32) ∷ [])

abbrev both : List ℕ
both = lengths_of ((SrcIp, 32) ∷ (DstIp, 32) ∷ [])

abbrev protocol : List ℕ
protocol = lengths_of ((Proto, 8) ∷ [])

abbrev every : Pattern
every = record { value = replicate 48 0; mask = no_lengths }

-- the packets of one protocol
abbrev only : ℕ → Pattern
only number = record { value = replicate 12 0 ++ number ∷ replicate 35 0; mask = protocol }

-- the packets of a network of 10.0.0.0/8, by the next byte and the prefix
abbrev from : ℕ → ℕ → Pattern
from byte prefix = record { value = 10 ∷ byte ∷ replicate 46 0; mask = lengths_of ((SrcIp, prefix) ∷ []) }

abbrev task : List ℕ → ℕ → List ℕ → Pattern → ℕ → Sketch
task name rows key filter size =
    record { name = name; kind = Cms; rows = rows; key = key; attr = Packets; filter = filter; size = size }

-- the tasks after these changes
abbrev kept : Geometry → List Change → List Outline
kept geometry changes = outlines (after geometry [] (map Changes changes))

-- what comes of a change after these
abbrev answer : Geometry → List Change → Change → Result Edit Refusal
answer geometry changes change = judged geometry (kept geometry changes) change

abbrev block : ℕ → ℕ → Block
block base bits = record { base = base; bits = bits }

abbrev used : List ℕ → ℕ → Option UsedUnit
used mask uses = Some (record { mask = mask; uses = uses })

-- a row with one unit, which has the mask
abbrev row_on : ℕ → Block → ℕ → List ℕ → Row
row_on array region unit mask =
    record { array = array; region = region; keys = Single unit; masks = record { unit = unit; mask = mask } ∷ []; frozen = None }

-- ---- one array with one unit

abbrev single : Geometry
single = of_groups 1 1 1

-- two filters apart, and a third that meets both; and a third that is apart from both, but has no room
abbrev low : Sketch
low = task (codes "low") 1 source (from 0 9) 16

abbrev high : Sketch
high = task (codes "high") 1 source (from 128 9) 16

placed_apart : kept single (Add low ∷ Add high ∷ [])
    ≡ record { task = low; frozen = None; rows = row_on 0 (block 0 4) 0 source ∷ [] }
    ∷ record { task = high; frozen = None; rows = row_on 0 (block 16 4) 0 source ∷ [] } ∷ []
unfolding after changed judged join sight_of all_held all_spots all_uses placed open_arrays places_for bits_for free_block keys_for pair_for passes are_disjoint mask_bytes_of groups_ended
placed_apart = refl

meets_both : answer single (Add low ∷ Add high ∷ []) (Add (task (codes "mid") 1 source (from 0 8) 16)) ≡ Err (Misplaced (NoUnit 1 0))
unfolding after changed judged join sight_of all_held all_spots all_uses placed open_arrays places_for bits_for free_block keys_for pair_for passes are_disjoint mask_bytes_of groups_ended
meets_both = refl

meets_none : answer single (Add low ∷ Add high ∷ []) (Add (task (codes "six") 1 source (record { value = 11 ∷ replicate 47 0; mask = lengths_of ((SrcIp, 8) ∷ []) }) 16))
    ≡ Err (Misplaced (NoPartition 1 0))
unfolding after changed judged join sight_of all_held all_spots all_uses placed open_arrays places_for bits_for free_block keys_for pair_for passes are_disjoint mask_bytes_of groups_ended
meets_none = refl

-- an array whose filters meet all packets is open to nobody; a name is taken; a size is no partition
abbrev a : Change
a = Add (task (codes "a") 1 source every 1)

nothing_open : answer single (a ∷ []) (Add (task (codes "b") 1 source (only 6) 1)) ≡ Err (Misplaced (NoUnit 1 0))
unfolding after changed judged join sight_of all_held all_spots all_uses placed open_arrays places_for bits_for free_block keys_for pair_for passes are_disjoint mask_bytes_of groups_ended
nothing_open = refl

taken_name : answer single (a ∷ []) (Add (task (codes "a") 1 source every 3)) ≡ Err Exists
unfolding after changed judged join sight_of all_held all_spots all_uses placed open_arrays places_for bits_for free_block keys_for pair_for passes are_disjoint mask_bytes_of groups_ended
taken_name = refl

no_size : answer single (a ∷ []) (Add (task (codes "c") 1 source every 3)) ≡ Err (BadMemory 3)
unfolding after changed judged join sight_of all_held all_spots all_uses placed open_arrays places_for bits_for free_block keys_for pair_for passes are_disjoint mask_bytes_of groups_ended
no_size = refl

-- of three tasks the one between goes: its registers are free, and no region of twice the size; the unit has two uses
abbrev three : List Change
three = Add (task (codes "x") 1 source (only 1) 8) ∷ Add (task (codes "y") 1 source (only 6) 8)
    ∷ Add (task (codes "z") 1 source (only 17) 8) ∷ Remove (codes "y") ∷ []

two_left : (sight_of single (kept single three)).taken ≡ (block 0 3 ∷ block 16 3 ∷ []) ∷ []
unfolding after changed judged join sight_of all_held all_spots all_uses placed open_arrays places_for bits_for free_block keys_for pair_for passes are_disjoint mask_bytes_of groups_ended
two_left = refl

unit_left : (sight_of single (kept single three)).units ≡ (used source 2 ∷ []) ∷ []
unfolding after changed judged join sight_of all_held all_spots all_uses placed open_arrays places_for bits_for free_block keys_for pair_for passes are_disjoint mask_bytes_of groups_ended
unit_left = refl

no_room_between : answer single three (Add (task (codes "w") 1 source (only 2) 16)) ≡ Err (Misplaced (NoPartition 1 0))
unfolding after changed judged join sight_of all_held all_spots all_uses placed open_arrays places_for bits_for free_block keys_for pair_for passes are_disjoint mask_bytes_of groups_ended
no_room_between = refl

-- ---- groups are counted for SuMax-Sum

too_few_groups : answer (of_groups 3 3 3) [] (Add (record { name = codes "s"; kind = SumaxSum; rows = 4; key = source; attr = Packets; filter = every; size = 32 }))
    ≡ Err (Misplaced (NoUnit 4 3))
unfolding after changed judged join sight_of all_held all_spots all_uses placed open_arrays places_for bits_for free_block keys_for pair_for passes are_disjoint mask_bytes_of groups_ended
too_few_groups = refl

-- ---- units: a key by two of them

abbrev wide : Geometry
wide = of_groups 1 3 2

abbrev pairing : List Change
pairing = Add (task (codes "a") 1 both every 32) ∷ Add (task (codes "b") 1 destination every 32)
    ∷ Add (task (codes "c") 1 source every 32) ∷ Remove (codes "a") ∷ []

-- the pair keeps the unit whose task is gone
pair_stays : kept wide pairing
    ≡ record { task = task (codes "b") 1 destination every 32; frozen = None; rows = row_on 1 (block 0 5) 1 destination ∷ [] }
    ∷ record {
      task = task (codes "c") 1 source every 32;
      frozen = None;
      rows = record {
        array = 2;
        region = block 0 5;
        keys = Pair 0 1;
        masks = record { unit = 0; mask = both } ∷ record { unit = 1; mask = destination } ∷ [];
        frozen = None;
      } ∷ [];
    } ∷ []
unfolding after changed judged join sight_of all_held all_spots all_uses placed open_arrays places_for bits_for free_block keys_for pair_for passes are_disjoint mask_bytes_of groups_ended
pair_stays = refl

pair_units : (sight_of wide (kept wide pairing)).units ≡ (used both 1 ∷ used destination 2 ∷ []) ∷ []
unfolding after changed judged join sight_of all_held all_spots all_uses placed open_arrays places_for bits_for free_block keys_for pair_for passes are_disjoint mask_bytes_of groups_ended
pair_units = refl

no_third_unit : answer wide pairing (Add (task (codes "d") 1 protocol every 32)) ≡ Err (Misplaced (NoUnit 1 0))
unfolding after changed judged join sight_of all_held all_spots all_uses placed open_arrays places_for bits_for free_block keys_for pair_for passes are_disjoint mask_bytes_of groups_ended
no_third_unit = refl

-- ---- another size

abbrev t : ℕ → Sketch
t size = task (codes "t") 1 source every size

moves_on : kept single (Add (t 16) ∷ Resize (codes "t") 16 ∷ [])
    ≡ record {
      task = t 16;
      frozen = Some 16;
      rows = record (row_on 0 (block 16 4) 0 source) { frozen = Some (block 0 4) } ∷ [];
    } ∷ []
unfolding after changed judged join sight_of all_held all_spots all_uses placed open_arrays places_for bits_for free_block keys_for pair_for passes are_disjoint mask_bytes_of groups_ended
moves_on = refl

still_frozen : answer single (Add (t 16) ∷ Resize (codes "t") 16 ∷ []) (Resize (codes "t") 16) ≡ Err FrozenHeld
unfolding after changed judged join sight_of all_held all_spots all_uses placed open_arrays places_for bits_for free_block keys_for pair_for passes are_disjoint mask_bytes_of groups_ended
still_frozen = refl

thaws : kept single (Add (t 16) ∷ Resize (codes "t") 16 ∷ Release (codes "t") ∷ Resize (codes "t") 16 ∷ Release (codes "t") ∷ [])
    ≡ record { task = t 16; frozen = None; rows = row_on 0 (block 0 4) 0 source ∷ [] } ∷ []
unfolding after changed judged join sight_of all_held all_spots all_uses placed open_arrays places_for bits_for free_block keys_for pair_for passes are_disjoint mask_bytes_of groups_ended
thaws = refl

nothing_frozen : answer single (Add (t 16) ∷ []) (Release (codes "t")) ≡ Err NoFrozen
unfolding after changed judged join sight_of all_held all_spots all_uses placed open_arrays places_for bits_for free_block keys_for pair_for passes are_disjoint mask_bytes_of groups_ended
nothing_frozen = refl

-- two arrays, of which the second has no room for a second region
abbrev full : List Change
full = Add (task (codes "w") 1 source (only 1) 32) ∷ Add (task (codes "x") 1 source (only 2) 16) ∷ Remove (codes "w")
    ∷ Add (task (codes "t") 2 source (only 6) 16) ∷ []

full_array : (sight_of (of_groups 1 2 1) (kept (of_groups 1 2 1) full)).taken ≡ (block 0 4 ∷ []) ∷ (block 0 4 ∷ block 16 4 ∷ []) ∷ []
unfolding after changed judged join sight_of all_held all_spots all_uses placed open_arrays places_for bits_for free_block keys_for pair_for passes are_disjoint mask_bytes_of groups_ended
full_array = refl

second_row : answer (of_groups 1 2 1) full (Resize (codes "t") 16) ≡ Err (NoRoom 1)
unfolding after changed judged join sight_of all_held all_spots all_uses placed open_arrays places_for bits_for free_block keys_for pair_for passes are_disjoint mask_bytes_of groups_ended
second_row = refl

-- ---- a task that goes leaves nothing, and one that is not there can't go

nothing_left : sight_of single (kept single (Add (t 32) ∷ Remove (codes "t") ∷ [])) ≡ sight_of single []
unfolding after changed judged join sight_of all_held all_spots all_uses placed open_arrays places_for bits_for free_block keys_for pair_for passes are_disjoint mask_bytes_of groups_ended
nothing_left = refl

not_there : answer single (Add (t 32) ∷ []) (Remove (codes "u")) ≡ Err Unknown
unfolding after changed judged join sight_of all_held all_spots all_uses placed open_arrays places_for bits_for free_block keys_for pair_for passes are_disjoint mask_bytes_of groups_ended
not_there = refl

-- ---- packets

-- a packet with no field and no bytes
abbrev empty : Packet
empty = record { vec = replicate 48 0; len = 0; ttl = 0; flags = 0 }

-- what a task counted before a resize is frozen, with the size that it had, and what comes behind it is counted anew
counted : part_of (codes "t") (after single [] (Changes (Add (t 16)) ∷ Passes empty ∷ Changes (Resize (codes "t") 32) ∷ Changes (Resize (codes "t") 8) ∷ Passes empty ∷ Passes empty ∷ []))
    ≡ Some (record { task = t 8; packets = empty ∷ empty ∷ []; past = Some (record { size = 16; packets = empty ∷ [] }) })
unfolding after changed judged join sight_of all_held all_spots all_uses placed open_arrays places_for bits_for free_block keys_for pair_for passes are_disjoint mask_bytes_of groups_ended
counted = refl

-- the refused resize does not stand in the history of the accepted ones
counted_alone : accepted single [] (Changes (Add (t 16)) ∷ Passes empty ∷ Changes (Resize (codes "t") 32) ∷ Changes (Remove (codes "u")) ∷ Changes (Resize (codes "t") 8) ∷ [])
    ≡ Changes (Add (t 16)) ∷ Passes empty ∷ Changes (Resize (codes "t") 8) ∷ []
unfolding after changed judged join sight_of all_held all_spots all_uses placed open_arrays places_for bits_for free_block keys_for pair_for passes are_disjoint mask_bytes_of groups_ended
counted_alone = refl
