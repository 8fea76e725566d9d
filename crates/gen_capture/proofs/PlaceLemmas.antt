-- The slots of places.
use Rattle.std.proofs.Common.{◌≡◌, ℕ, zero, suc, ◌<◌, ◌≤◌, List, [], length, drop, Option, None, Some, IfSome, refl, ap, arith}
use Rattle.std.specs.List.{slice_index_or}
use Rattle.std.proofs.lemmas.List.{length-drop}
use Rattle.fm_io.specs.Slots.{Cursor, Slot, SlotMoves, IsAtEnd, slot_at}
use Rattle.gen_capture.specs.declared.places.Place.{Place}
use Rattle.gen_capture.specs.Places.{cursor_in, slot_in, slots_in}

-- where nothing is left, all was read
pub all_read : (at : ℕ) (bytes : List ℕ) → drop at bytes ≡ [] → length bytes ≤ at
all_read at bytes none = omega (arith, length-drop at bytes, ap (λ (l : List ℕ). length l) none)

pub slot_of_place : (seed count slot : ℕ) (places : List (Option Place)) → slot < 3
    → slot_at (slots_in seed count places) slot ≡ slot_in seed count (slice_index_or places slot None)
slot_of_place seed count zero places few = refl
slot_of_place seed count (suc zero) places few = refl
slot_of_place seed count (suc (suc zero)) places few = refl
slot_of_place seed count (suc (suc (suc slot))) places few = absurd (omega arith)

pub slot_moves : {R : Cursor → Cursor → Type 0} (seed count : ℕ) (old new : Place) (a b : Slot)
    → a ≡ slot_in seed count (Some old) → b ≡ slot_in seed count (Some new)
    → R (cursor_in seed count old) (cursor_in seed count new) → SlotMoves R a b
slot_moves seed count old new a b before now r = rw (before, now) (record { attached = refl; cursor = r })

pub slot_ends : (seed count : ℕ) (new : Place) (b : Slot) → b ≡ slot_in seed count (Some new)
    → IsAtEnd (cursor_in seed count new) → IfSome b.cursor IsAtEnd
slot_ends seed count new b now end = rw now end
