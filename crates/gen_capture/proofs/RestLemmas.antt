-- What is still to come of the capture.
use Rattle.std.proofs.Common.{◌≡◌, ◌≢◌, ℕ, suc, ◌+◌, ◌-◌, ◌<◌, ◌≤◌, ◌==◌, Bool, true, false, List, [], ◌++◌, length, take, drop, refl, sym, ap, ◌∙◌, arith}
use Rattle.std.specs.Prelude.{if◌then◌else◌}
use Rattle.std.proofs.lemmas.Bool.Decides.{nat_tests}
use Rattle.std.proofs.lemmas.List.{length-drop, drop-drop, drop_all, drop-append-le, take-append-le}
use Rattle.gen_capture.specs.declared.places.CapturePlace.{CapturePlace}
use Rattle.gen_capture.specs.Packets.{step, packet_of}
use Rattle.gen_capture.specs.Frames.{frame_of}
use Rattle.gen_capture.specs.Captures.{header_bytes, record_bytes, records_bytes, capture_text}
use Rattle.gen_capture.specs.Places.{present, rest_of}

pub length-record_bytes : (state : ℕ) → length (record_bytes (packet_of state)) ≡ 70
unfolding record_bytes frame_of
length-record_bytes state = refl

length-header_bytes : length header_bytes ≡ 24
unfolding header_bytes
length-header_bytes = refl

-- the length of what is being read
abbrev size : CapturePlace → ℕ
size place = if place.begun == 0 then 24 else 70

length-present : (place : CapturePlace) → length (present place) ≡ size place
length-present place = by (place.begun == 0)
  where
    by : (b : Bool)
        → length (if b then header_bytes else record_bytes (packet_of place.state)) ≡ (if b then 24 else 70)
    by true = length-header_bytes
    by false = length-record_bytes place.state

pub header_present : (place : CapturePlace) → place.begun ≡ 0 → header_bytes ≡ present place
header_present place none = rw none refl

pub record_present : (place : CapturePlace) → place.begun ≢ 0 → record_bytes (packet_of place.state) ≡ present place
record_present place some =
    let test : (place.begun == 0) ≡ false = grind (arith, nat_tests) in
    rw test refl

-- what is still to come of what is being read
abbrev last_of : CapturePlace → List ℕ
last_of place = drop (length (present place) - place.left) (present place)

length-last_of : (place : CapturePlace) → length (last_of place) ≡ place.left
length-last_of place =
    let dropped = length-drop (length (present place) - place.left) (present place) in
    omega (arith, dropped, length-present place, place.within)

-- no more is looked at than what is being read
pub rest_front : (count n : ℕ) (place : CapturePlace) (piece : List ℕ) → piece ≡ present place → n ≤ place.left
    → take n (drop (length piece - place.left) piece) ≡ take n (rest_of count place)
unfolding rest_of
rest_front count n place piece is few =
    let records = records_bytes place.state (count - place.begun) in
    ap (λ (l : List ℕ). take n (drop (length l - place.left) l)) is
    ∙ sym (take-append-le n (last_of place) records (omega (arith, length-last_of place)))

same_piece : (place new : CapturePlace) → new.begun ≡ place.begun → new.state ≡ place.state
    → present new ≡ present place
same_piece place new begun state = rw (begun, state) refl

-- so many bytes more were read of it
pub rest_behind : (count n : ℕ) (place new : CapturePlace) → new.begun ≡ place.begun → new.state ≡ place.state
    → new.left ≡ place.left - n → n ≤ place.left → rest_of count new ≡ drop n (rest_of count place)
unfolding rest_of
rest_behind count n place new begun state left few =
    let piece = present place in
    let size : length piece ≡ size place = length-present place in
    let records = records_bytes place.state (count - place.begun) in
    let at : length piece - new.left ≡ length piece - place.left + n = omega (arith, place.within) in
    let last : last_of new ≡ drop n (last_of place) =
    ap (λ (l : List ℕ). drop (length l - new.left) l) (same_piece place new begun state)
    ∙ (ap (λ k. drop k piece) at ∙ sym (drop-drop n (length piece - place.left) piece)) in
    ap (λ s. last_of new ++ records_bytes s (count - new.begun)) state
    ∙ (ap (λ b. last_of new ++ records_bytes place.state (count - b)) begun
    ∙ (ap (λ (l : List ℕ). l ++ records) last
    ∙ sym (drop-append-le n (last_of place) records (omega (arith, length-last_of place)))))

nothing_left : (place : CapturePlace) → place.left ≡ 0 → last_of place ≡ []
nothing_left place none = drop_all (length (present place) - place.left) (present place) (omega arith)

records_next : (state more : ℕ) → records_bytes state (suc more)
    ≡ record_bytes (packet_of (step state)) ++ records_bytes (step state) more
unfolding records_bytes record_bytes
records_next state more = refl

-- the next record is begun
pub rest_next : (count : ℕ) (place new : CapturePlace) → place.left ≡ 0 → place.begun < count
    → new.begun ≡ place.begun + 1 → new.state ≡ step place.state → new.left ≡ 70 → rest_of count new ≡ rest_of count place
unfolding rest_of
rest_next count place new none more begun state left =
    let later = count - (place.begun + 1) in
    let here : count - place.begun ≡ suc later = omega arith in
    let there : count - new.begun ≡ later = omega arith in
    let next = record_bytes (packet_of (step place.state)) in
    let piece : present new ≡ next =
    sym (record_present new (omega arith)) ∙ ap (λ s. record_bytes (packet_of s)) state in
    let whole : length (present new) - new.left ≡ 0 =
    omega (arith, ap (λ (l : List ℕ). length l) piece, length-record_bytes (step place.state)) in
    ap (λ s. last_of new ++ records_bytes s (count - new.begun)) state
    ∙ (ap (λ k. last_of new ++ records_bytes (step place.state) k) there
    ∙ (ap (λ k. drop k (present new) ++ records_bytes (step place.state) later) whole
    ∙ (ap (λ (l : List ℕ). l ++ records_bytes (step place.state) later) piece
    ∙ (sym (records_next place.state later)
    ∙ (ap (records_bytes place.state) (sym here)
    ∙ ap (λ (l : List ℕ). l ++ records_bytes place.state (count - place.begun))
    (sym (nothing_left place none)))))))

-- nothing comes behind the last record
pub rest_end : (count : ℕ) (place : CapturePlace) → place.left ≡ 0 → count ≤ place.begun
    → rest_of count place ≡ []
unfolding rest_of records_bytes
rest_end count place none all =
    let no_more : count - place.begun ≡ 0 = omega arith in
    rw (nothing_left place none, no_more) refl

-- before the first read the whole capture is to come
pub rest_first : (seed count : ℕ) (place : CapturePlace) → place.begun ≡ 0 → place.state ≡ seed
    → place.left ≡ 24 → rest_of count place ≡ capture_text seed count
unfolding capture_text rest_of header_bytes
rest_first seed count place begun state left =
    let all : count - 0 ≡ count = omega arith in
    rw (begun, state, left) (ap (λ k. header_bytes ++ records_bytes seed k) all)
