-- The texts of the two names, and where the reading of a slot stands in them.
use Rattle.std.specs.Prelude.{◌≡◌, ℕ, ◌+◌, ◌-◌, ◌*◌, ◌==◌, true, if◌then◌else◌, List, [], ◌∷◌, ◌++◌, length, drop, Option, None, Some, codes}
use Rattle.std.specs.List.{slice_index_or}
use Rattle.std.specs.Str.{bytes_eq}
use Rattle.fm_io.specs.Slots.{Cursor, Slot, Slots, no_file}
use Rattle.fm_io.specs.Names.{Directory}
use Rattle.gen_capture.specs.declared.places.CapturePlace.{CapturePlace}
use Rattle.gen_capture.specs.declared.places.Place.{Place}
use Rattle.gen_capture.specs.declared.places.Place.TheVariants.{Script, Capture}
use Rattle.gen_capture.specs.Packets.{packet_of}
use Rattle.gen_capture.specs.Captures.{header_bytes, record_bytes, records_bytes, capture_text}
use Rattle.gen_capture.specs.Scripts.{script_text}

abbrev pub names : List (List ℕ)
names = codes "script" ∷ codes "capture" ∷ []

abbrev pub text_in : ℕ → ℕ → List ℕ → Option (List ℕ)
text_in seed count name =
    if bytes_eq name (codes "script") then Some script_text
    else if bytes_eq name (codes "capture") then Some (capture_text seed count)
    else None

-- both names and their texts are told
abbrev pub directory_in : ℕ → ℕ → Directory
directory_in seed count = record { names = Some names; text = text_in seed count }

-- the header, or the record that is being read
abbrev pub present : CapturePlace → List ℕ
present place = if place.begun == 0 then header_bytes else record_bytes (packet_of place.state)

-- what is still to come: of what is being read, and of the records behind it
unfoldable pub rest_of : ℕ → CapturePlace → List ℕ
rest_of count place =
    drop (length (present place) - place.left) (present place)
    ++ records_bytes place.state (count - place.begun)

-- how many bytes of the capture were read
abbrev pub offset_of : CapturePlace → ℕ
offset_of place = 24 + 70 * place.begun - place.left

abbrev pub cursor_in : ℕ → ℕ → Place → Cursor
cursor_in seed count (Script at) = record { bytes = script_text; at = at }
cursor_in seed count (Capture place) = record { bytes = capture_text seed count; at = offset_of place }

-- a slot with a text tells its bytes and position
abbrev pub slot_in : ℕ → ℕ → Option Place → Slot
slot_in seed count None = no_file
slot_in seed count (Some place) = record { attached = true; cursor = Some (cursor_in seed count place) }

abbrev pub slots_in : ℕ → ℕ → List (Option Place) → Slots
slots_in seed count places = record {
  profile = slot_in seed count (slice_index_or places 0 None);
  script = slot_in seed count (slice_index_or places 1 None);
  capture = slot_in seed count (slice_index_or places 2 None);
}

-- what is still to come where the reading stands so
abbrev pub rest_at : ℕ → Place → List ℕ
rest_at count (Script at) = drop at script_text
rest_at count (Capture place) = rest_of count place

-- the same of a slot: nothing is to come where no text is attached
abbrev pub to_come : ℕ → Option Place → List ℕ
to_come count None = []
to_come count (Some place) = rest_at count place

abbrev pub left_of : Cursor → List ℕ
left_of cursor = drop cursor.at cursor.bytes

abbrev pub left_in : ℕ → ℕ → Option Place → List ℕ
left_in seed count None = []
left_in seed count (Some place) = left_of (cursor_in seed count place)

-- what is to come is what is left of the text
abbrev pub IsPlaced : ℕ → ℕ → Option Place → Type 0
IsPlaced seed count place = to_come count place ≡ left_in seed count place

abbrev pub ArePlaced : ℕ → ℕ → List (Option Place) → Type 0
ArePlaced seed count places = (slot : ℕ) → IsPlaced seed count (slice_index_or places slot None)
