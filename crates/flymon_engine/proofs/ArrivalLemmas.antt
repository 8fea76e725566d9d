-- What is left of a capture, one record on.
use Rattle.std.proofs.Common.{◌≡◌, ◌≤◌, ◌<◌, ◌+◌, ◌-◌, ◌==◌, ℕ, zero, suc, Bool, true, false, List, ◌∷◌, length, drop, Option, None, Some, Result, Ok, Err, if◌then◌else◌, refl, sym, ap, ◌∙◌, subst, arith}
use Rattle.std.specs.Prelude.{nat_lt}
use Rattle.std.specs.List.{All}
use Rattle.std.proofs.lemmas.List.Elements.{All-cons, All-nil}
use Rattle.outside.specs.Told.{Told}
use Rattle.outside.proofs.ToldLemmas.{told_weaker}
use Rattle.fm_io.specs.Slots.{Cursor, Slot, SlotMoves}
use Rattle.capture_read.specs.declared.records.CaptureFault.{CaptureFault}
use Rattle.capture_read.specs.declared.records.CaptureFault.TheVariants.{ShortHeader, BadMagic, BadLink, ShortRecord, BigRecord, Read}
use Rattle.capture_read.specs.declared.records.Frame.{Frame}
use Rattle.capture_read.specs.declared.records.Order.{Order}
use Rattle.capture_read.specs.Records.{Record, record_of, record_in, record_at, captured_in}
use Rattle.capture_read.specs.Reading.{Reading, Records, next_in, after_next, moved, before_rest, records_within, records_in}
use Rattle.capture_read.specs.Steps.{GoesOn, AnswersNext, MovesOn, IsAt}
use Rattle.capture_read.proofs.CaptureLemmas.{records_step}
use Rattle.pkt_headers.specs.declared.packets.Packet.{Packet}
use Rattle.pkt_headers.specs.Packets.{packet_in}
use Rattle.flymon_engine.specs.Arrivals.{Arrival, Left, nothing_left, arrival_of, left_of, Comes, Gives, GivesOne, GivesNone}
use Rattle.flymon_engine.specs.Captures.{IsReady}

abbrev left_before : Result (Option Record) CaptureFault → Left → Left
left_before (Err fault) rest = nothing_left (Some fault)
left_before (Ok None) rest = nothing_left None
left_before (Ok (Some found)) rest = record { list = arrival_of found ∷ rest.list; fault = rest.fault }

left_by_step : (found : Result (Option Record) CaptureFault) (rest : Records) → left_of (before_rest found rest) ≡ left_before found (left_of rest)
left_by_step (Err fault) rest = refl
left_by_step (Ok None) rest = refl
left_by_step (Ok (Some found)) rest = refl

-- what is left is the next record, and what is left behind it
left_step : (bytes : List ℕ) (reading : Reading) (found : Result (Option Record) CaptureFault) → next_in bytes reading ≡ found
    → left_of (records_in bytes reading) ≡ left_before found (left_of (records_in bytes (moved reading found)))
left_step bytes reading found e =
    ap left_of (records_step bytes reading)
    ∙ (left_by_step (next_in bytes reading) (records_in bytes (after_next bytes reading))
    ∙ ap (λ x. left_before x (left_of (records_in bytes (moved reading x)))) e)

-- ---- a record ends behind its beginning

ends_behind : (order : Order) (offset : ℕ) (rest : List ℕ) (found : Record) → record_in order offset rest ≡ Ok (Some found) → offset < found.end
unfolding record_in
ends_behind order offset rest found e = by (length rest == 0) (nat_lt (length rest) 16) (nat_lt 262144 (captured_in order rest)) (nat_lt (length rest) (16 + captured_in order rest)) e
  where
    by : (a b c d : Bool)
        → (if a then Ok None else if b then Err (ShortRecord offset) else if c then Err (BigRecord offset (captured_in order rest))
        else if d then Err (ShortRecord offset) else Ok (Some (record_at order offset rest))) ≡ Ok (Some found)
        → offset < found.end
    by true b c d e = cc
    by false true c d e = cc
    by false false true d e = cc
    by false false false true e = cc
    by false false false false e =
        let same : record_at order offset rest ≡ found = cc in
        let end : offset + (16 + captured_in order rest) ≡ found.end = ap (λ (r : Record). r.end) same in omega (arith, end)

next_ends : (bytes : List ℕ) (reading : Reading) (found : Record) → next_in bytes reading ≡ Ok (Some found) → reading.at < found.end
unfolding next_in
next_ends bytes reading found e = by (reading.count == 4294967295) e
  where
    by : (b : Bool) → (if b then Ok None else record_in reading.order reading.at (drop reading.at bytes)) ≡ Ok (Some found) → reading.at < found.end
    by true e = cc
    by false e = ends_behind reading.order reading.at (drop reading.at bytes) found e

-- all records that begin at or behind a place end behind it
above : (n : ℕ) (more : ℕ) (bytes : List ℕ) (reading : Reading) → n ≤ reading.at
    → All (λ (a : Arrival). n < a.end) (left_of (records_within more bytes reading)).list
above n zero bytes reading h = All-nil (λ (a : Arrival). n < a.end)
above n (suc more) bytes reading h = by (next_in bytes reading) refl (λ (r : Reading) (g : n ≤ r.at). above n more bytes r g)
  where
    by : (found : Result (Option Record) CaptureFault) → next_in bytes reading ≡ found
        → ((r : Reading) → n ≤ r.at → All (λ (a : Arrival). n < a.end) (left_of (records_within more bytes r)).list)
        → All (λ (a : Arrival). n < a.end) (left_of (before_rest (next_in bytes reading) (records_within more bytes (moved reading (next_in bytes reading))))).list
    by (Err fault) e rest = rw e (All-nil (λ (a : Arrival). n < a.end))
    by (Ok None) e rest = rw e (All-nil (λ (a : Arrival). n < a.end))
    by (Ok (Some found)) e rest =
        let ends : reading.at < found.end = next_ends bytes reading found e in
        rw e (All-cons (λ (a : Arrival). n < a.end) (arrival_of found) (left_of (records_within more bytes (moved reading (Ok (Some found))))).list
        (omega arith) (rest (moved reading (Ok (Some found))) (omega arith)))

above_all : (n : ℕ) (bytes : List ℕ) (reading : Reading) → n ≤ reading.at → All (λ (a : Arrival). n < a.end) (left_of (records_in bytes reading)).list
unfolding records_in
above_all n bytes reading h = above n (length bytes - reading.at) bytes reading h

-- the position stands before the end of the next record, and so before that of each
above_next : (n : ℕ) (bytes : List ℕ) (reading : Reading) (found : Result (Option Record) CaptureFault) → next_in bytes reading ≡ found
    → ((item : Record) → found ≡ Ok (Some item) → n < item.end)
    → All (λ (a : Arrival). n < a.end) (left_before found (left_of (records_in bytes (moved reading found)))).list
above_next n bytes reading (Err fault) e within = All-nil (λ (a : Arrival). n < a.end)
above_next n bytes reading (Ok None) e within = All-nil (λ (a : Arrival). n < a.end)
above_next n bytes reading (Ok (Some item)) e within =
    All-cons (λ (a : Arrival). n < a.end) (arrival_of item) (left_of (records_in bytes (moved reading (Ok (Some item))))).list (within item refl)
    (above_all n bytes (moved reading (Ok (Some item))) (let h : n < item.end = within item refl in omega arith))

-- ---- what a call comes to

left_same : (reading : Reading) (x y : List ℕ) → x ≡ y → left_of (records_in y reading) ≡ left_of (records_in x reading)
left_same reading x y e = ap (λ b. left_of (records_in b reading)) (sym e)

gives_some : (before after : Reading) (item : Record) (packet : Packet) (left : Left) (t u : Cursor)
    → MovesOn t u → next_in t.bytes before ≡ Ok (Some item) → u.at ≡ item.end → after ≡ moved before (Ok (Some item)) → packet ≡ packet_in item.frame item.len
    → Comes before left t → GivesOne (Comes after) left packet u
gives_some before after item packet left t u on next at is made comes =
    let all = comes ∙ left_step t.bytes before (Ok (Some item)) next in
    let rest = left_of (records_in t.bytes (moved before (Ok (Some item)))) in
    record {
      end = item.end;
      rest = rest.list;
      next = ap (λ (l : Left). l.list) all ∙ (let one : Packet → List Arrival = λ p. record { packet = p; end = item.end } ∷ rest.list in ap one (sym made));
      read = omega (arith, at);
      goes_on = (let make : Option CaptureFault → Left = λ f. record { list = rest.list; fault = f } in ap make (ap (λ (l : Left). l.fault) all))
          ∙ (ap (λ r. left_of (records_in t.bytes r)) (sym is) ∙ sym (left_same after t.bytes u.bytes (sym on.bytes)));
    }

gives_end : (before after : Reading) (left : Left) (t u : Cursor) → MovesOn t u → next_in t.bytes before ≡ Ok None → after ≡ before
    → Comes before left t → GivesNone (Comes after) left u
gives_end before after left t u on next is comes = record {
  none = comes ∙ left_step t.bytes before (Ok None) next;
  stays = comes ∙ (ap (λ r. left_of (records_in t.bytes r)) (sym is) ∙ sym (left_same after t.bytes u.bytes (sym on.bytes)));
}

gives_fault : (before after : Reading) (fault : CaptureFault) (left : Left) (t u : Cursor)
    → AnswersNext (Err fault) (next_in t.bytes before) t u → Comes before left t → Gives (Comes after) left (Err fault) u
gives_fault before after Read left t u reads comes =
    rw (comes ∙ left_step t.bytes before (next_in t.bytes before) refl) (above_next u.at t.bytes before (next_in t.bytes before) refl reads)
gives_fault before after ShortHeader left t u reads comes = comes ∙ left_step t.bytes before (Err ShortHeader) reads
gives_fault before after BadMagic left t u reads comes = comes ∙ left_step t.bytes before (Err BadMagic) reads
gives_fault before after (BadLink link) left t u reads comes = comes ∙ left_step t.bytes before (Err (BadLink link)) reads
gives_fault before after (ShortRecord offset) left t u reads comes = comes ∙ left_step t.bytes before (Err (ShortRecord offset)) reads
gives_fault before after (BigRecord offset size) left t u reads comes = comes ∙ left_step t.bytes before (Err (BigRecord offset size)) reads

-- ---- the same over the slot

pub moves_on : (reading : Reading) (answer : Result (Option Record) CaptureFault) (a b : Slot) → SlotMoves (GoesOn reading answer) a b → Told MovesOn a.cursor b.cursor
moves_on reading answer a b r = told_weaker a.cursor b.cursor (λ x y g. g.moves) r.cursor

pub told_some : (before after : Reading) (frame : Frame) (packet : Packet) (answer : Result (Option Record) CaptureFault) (a b : Slot)
    → Ok (Some (record_of before.at frame)) ≡ answer → packet ≡ packet_in frame.bytes.now frame.len → after ≡ moved before answer
    → SlotMoves (GoesOn before answer) a b
    → (left : Left) → Told (λ old new. Comes before left old → Gives (Comes after) left (Ok (Some packet)) new) a.cursor b.cursor
told_some before after frame packet answer a b is made left r left' =
    told_weaker a.cursor b.cursor
    (λ x y g. gives_some before after (record_of before.at frame) packet left' x y g.moves
    ((by x y answer is g.answers).0) ((by x y answer is g.answers).1) (left ∙ ap (moved before) (sym is)) made)
    r.cursor
  where
    by : (x y : Cursor) (answer : Result (Option Record) CaptureFault) → Ok (Some (record_of before.at frame)) ≡ answer
        → AnswersNext answer (next_in x.bytes before) x y → (next_in x.bytes before ≡ Ok (Some (record_of before.at frame))) × (y.at ≡ (record_of before.at frame).end)
    by x y answer is g = subst (λ (f : Result (Option Record) CaptureFault). AnswersNext f (next_in x.bytes before) x y) (sym is) g

pub told_none : (before after : Reading) (answer : Result (Option Record) CaptureFault) (a b : Slot)
    → Ok None ≡ answer → after ≡ moved before answer → SlotMoves (GoesOn before answer) a b
    → (left : Left) → Told (λ old new. Comes before left old → Gives (Comes after) left (Ok None) new) a.cursor b.cursor
told_none before after answer a b is left r left' =
    told_weaker a.cursor b.cursor
    (λ x y g. let answers : AnswersNext (Ok None) (next_in x.bytes before) x y = subst (λ (f : Result (Option Record) CaptureFault). AnswersNext f (next_in x.bytes before) x y) (sym is) g.answers in
    gives_end before after left' x y g.moves answers.0 (left ∙ ap (moved before) (sym is)))
    r.cursor

pub told_fault : (before after : Reading) (fault : CaptureFault) (a b : Slot) → SlotMoves (GoesOn before (Err fault)) a b
    → (left : Left) → Told (λ old new. Comes before left old → Gives (Comes after) left (Err fault) new) a.cursor b.cursor
told_fault before after fault a b r left = told_weaker a.cursor b.cursor (λ x y g. gives_fault before after fault left x y g.answers) r.cursor
