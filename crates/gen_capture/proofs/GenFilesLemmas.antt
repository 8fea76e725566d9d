-- Generated files tell whatever they hold.
use Rattle.std.proofs.Common.{◌≡◌, ℕ, ◌==◌, Bool, true, false, cond, Option, None, Some, refl}
use Rattle.std.specs.Prelude.{IsSome}
use Rattle.std.specs.List.{slice_index_or}
use Rattle.fm_io.specs.Slots.{Slot, slot_at}
use Rattle.gen_capture.specs.declared.gen_files.GenFiles.{GenFiles}
use Rattle.gen_capture.specs.declared.places.Place.{Place}
use Rattle.gen_capture.specs.Places.{slot_in}
use Rattle.gen_capture.specs.GenFiles.{slots_of}

abbrev Tells : Slot → Type 0
Tells slot = slot.attached ≡ true → IsSome slot.cursor

tells : (seed count : ℕ) (place : Option Place) → Tells (slot_in seed count place)
tells seed count None = λ e. (cc)
tells seed count (Some place) = λ e. refl

one_of : (b : Bool) (s t : Slot) → Tells s → Tells t → Tells (cond b s t)
one_of true s t p q = p
one_of false s t p q = q

-- each slot with a text tells its bytes and position
pub slots_tell : (files : GenFiles) (number : ℕ)
    → (slot_at (slots_of files) number).attached ≡ true → IsSome (slot_at (slots_of files) number).cursor
slots_tell files number =
    let slot : ℕ → Option Place = λ n. slice_index_or files.places n None in
    let shown : ℕ → Slot = λ n. slot_in files.seed files.count (slot n) in
    let told = λ (n : ℕ). tells files.seed files.count (slot n) in
    one_of (number == 0) (shown 0) (cond (number == 1) (shown 1) (shown 2)) (told 0)
    (one_of (number == 1) (shown 1) (shown 2) (told 1) (told 2))
