-- Packets that pass one after another.
use Rattle.std.proofs.Common.{◌≡◌, ◌≤◌, ◌<◌, ℕ, ◌+◌, ◌-◌, true, false, List, [], ◌∷◌, ◌++◌, length, take, drop, Option, None, Some, Err, Bool, get_or, refl, sym, ap, ◌∙◌, subst, add-one, arith, take-add, cond}
use Rattle.std.specs.Prelude.{nat_le, nat_lt, is_some, ◌&&◌, count_by}
use Rattle.std.specs.List.{All}
use Rattle.std.proofs.lemmas.Bool.Decides.{nat_tests}
use Rattle.std.proofs.lemmas.List.{length-drop, length-take, drop_more, take_more}
use Rattle.std.proofs.lemmas.List.Elements.{All-append, All-weaker, All-cons, All-nil, All-head, All-tail, All-take}
use Rattle.std.proofs.lemmas.List.Sums.{sum_by-cons}
use Rattle.outside.proofs.ToldLemmas.{grows_then}
use Rattle.fm_io.specs.Slots.{Cursor}
use Rattle.reg_file.specs.Registers.{Contents}
use Rattle.reg_file.specs.declared.traits.Call.{Call}
use Rattle.pkt_headers.specs.declared.packets.Packet.{Packet}
use Rattle.flymon_engine.specs.Arrivals.{Arrival, Left, Gives, GivesOne, GivesNone, nothing_left}
use Rattle.flymon_engine.specs.Boards.{Board, Rules}
use Rattle.flymon_engine.specs.Moves.{Moves}
use Rattle.flymon_engine.specs.Runs.{Run, passed, pass_one}
use Rattle.flymon_engine.specs.Stops.{ended_by}
use Rattle.flymon_engine.specs.Causes.{halt_of}
use Rattle.flymon_engine.specs.declared.work.Work.TheVariants.{Take}
use Rattle.capture_read.specs.declared.records.CaptureFault.{CaptureFault}
use Rattle.capture_read.specs.declared.records.CaptureFault.TheVariants.{ShortHeader, BadMagic, BadLink, ShortRecord, BigRecord, Read}
use Rattle.capture_read.specs.Steps.{MovesOn}
use Rattle.flymon_engine.specs.declared.stop.Halt.TheVariants.{Damage}
use Rattle.flymon_engine.specs.Worlds.{Before, IsAt, Took, TookAll, Halts}

-- nothing was taken yet
pub took_none : (rules : Rules) (stands : Board → Contents → Type 0) (comes : Left → Cursor → Type 0) (before : Before)
    (calls : Option (List Call)) (sent : Option (List ℕ)) (run : Run) (tape : Cursor) (cells : Contents)
    → IsAt stands comes before calls sent tape cells run → Took rules stands comes before calls sent 0 run tape cells
unfolding passed
took_none rules stands comes before calls sent run tape cells now = record { room = omega arith; ended = All-nil (λ (a : Arrival). a.end ≤ tape.at); rest = refl; now = now }

room_next : {A : Type 0} (k : ℕ) (xs rest : List A) (x : A) → drop k xs ≡ x ∷ rest → k + 1 ≤ length xs
room_next k xs rest x e = omega (arith, length-drop k xs, ap length e)

pub drop_next : {A : Type 0} (k : ℕ) (xs rest : List A) (x : A) → drop k xs ≡ x ∷ rest → drop (k + 1) xs ≡ rest
drop_next k xs rest x e = let more = drop_more xs k x (omega (arith, room_next k xs rest x e)) in cc

pub take_next : {A : Type 0} (k : ℕ) (xs rest : List A) (x : A) → drop k xs ≡ x ∷ rest → take (k + 1) xs ≡ take k xs ++ x ∷ []
take_next k xs rest x e =
    let room : k < length xs = omega (arith, room_next k xs rest x e) in
    let more = drop_more xs k x room in let same : get_or xs k x ≡ x = cc in
    take_more xs k x room ∙ ap (λ y. take k xs ++ y ∷ []) same

pub passed_next : (rules : Rules) (run : Run) (k : ℕ) (a : Arrival) (rest : List Arrival)
    → (passed rules run k).left.list ≡ a ∷ rest → passed rules run (k + 1) ≡ pass_one rules (passed rules run k) a rest
unfolding passed
passed_next rules run k a rest e = rw (add-one, e) refl

take_split : {A : Type 0} (k n : ℕ) (xs : List A) → k ≤ n → take n xs ≡ take k xs ++ take (n - k) (drop k xs)
take_split {A = A} k n xs h =
    let whole : n ≡ k + (n - k) = omega arith in
    ap (λ m. take m xs) whole ∙ take-add k (n - k) xs

-- one packet more
pub took_one : (rules : Rules) (stands0 stands1 : Board → Contents → Type 0) (comes0 comes1 : Left → Cursor → Type 0) (before : Before)
    (calls0 calls1 : Option (List Call)) (sent : Option (List ℕ)) (k : ℕ) (run : Run) (packet : Packet) (t u : Cursor) (c d : Contents)
    → MovesOn t u → GivesOne comes1 (passed rules run k).left packet u
    → Moves stands1 (rules.pass (passed rules run k).board packet) calls0 calls1 d
    → Took rules stands0 comes0 before calls0 sent k run t c → Took rules stands1 comes1 before calls1 sent (k + 1) run u d
took_one rules stands0 stands1 comes0 comes1 before calls0 calls1 sent k run packet t u c d on gives moves took =
    let a : Arrival = record { packet = packet; end = gives.end } in
    let list : (passed rules run k).left.list ≡ drop k run.left.list = ap (λ (l : Left). l.list) took.rest in
    let fault : (passed rules run k).left.fault ≡ run.left.fault = ap (λ (l : Left). l.fault) took.rest in
    let is : drop k run.left.list ≡ a ∷ gives.rest = sym list ∙ gives.next in
    let behind : drop (k + 1) run.left.list ≡ gives.rest = drop_next k run.left.list gives.rest a is in
    let now = passed_next rules run k a gives.rest gives.next in
    let one = pass_one rules (passed rules run k) a gives.rest in
    record {
      room = room_next k run.left.list gives.rest a is;
      ended = rw (take_next k run.left.list gives.rest a is)
          (All-append (λ (a : Arrival). a.end ≤ u.at) (take k run.left.list) (a ∷ [])
          (All-weaker (λ (a : Arrival). a.end ≤ t.at) (λ (a : Arrival). a.end ≤ u.at) (λ (b : Arrival) h. omega (arith, h, on.on)) (take k run.left.list) took.ended)
          (All-cons (λ (a : Arrival). a.end ≤ u.at) a [] (omega (arith, gives.read)) (All-nil (λ (a : Arrival). a.end ≤ u.at))));
      rest = ap (λ (r : Run). r.left) now ∙ (let P : List Arrival → Option CaptureFault → Left = λ l f. record { list = l; fault = f } in cc (behind, fault));
      now = subst (λ (r : Run). IsAt stands1 comes1 before calls1 sent u d r) (sym now) (record {
        shows = record {
          board = moves.stood;
          made = grows_then before.calls calls0 calls1 (passed rules run k).calls (rules.pass (passed rules run k).board packet).calls took.now.shows.made moves.made;
          wrote = took.now.shows.wrote;
        };
        left = gives.goes_on;
      });
    }

-- the capture ended, and no packet is left
none_left : (rules : Rules) (run : Run) (k : ℕ) (fault : Option CaptureFault) → (passed rules run k).left ≡ record { list = drop k run.left.list; fault = run.left.fault }
    → (passed rules run k).left ≡ nothing_left fault → k ≤ length run.left.list → (length run.left.list ≡ k) × (run.left.fault ≡ fault)
none_left rules run k fault rest none room =
    let both : record { list = drop k run.left.list; fault = run.left.fault } ≡ nothing_left fault = sym rest ∙ none in
    let list : drop k run.left.list ≡ [] = ap (λ (l : Left). l.list) both in
    (omega (arith, length-drop k run.left.list, ap length list), ap (λ (l : Left). l.fault) both)

pub took_to_end : (rules : Rules) (stands : Board → Contents → Type 0) (comes0 comes1 : Left → Cursor → Type 0) (before : Before)
    (calls : Option (List Call)) (sent : Option (List ℕ)) (k asked : ℕ) (run : Run) (t u : Cursor) (c : Contents)
    → k < asked → GivesNone comes1 (passed rules run k).left u → Took rules stands comes0 before calls sent k run t c
    → TookAll rules stands comes1 before calls sent k run (Take asked) u c
took_to_end rules stands comes0 comes1 before calls sent k asked run t u c less gives took =
    let (all, none) = none_left rules run k None took.rest gives.none took.room in
    record {
      took = omega arith;
      unmet = rw none refl;
      now = record { shows = took.now.shows; left = gives.stays };
    }

not_less : (b : Bool) (n m : ℕ) → m ≤ n → (b && nat_lt n m) ≡ false
not_less true n m h = grind (arith, nat_tests)
not_less false n m h = refl

-- as many as were asked for
pub took_asked : (rules : Rules) (stands : Board → Contents → Type 0) (comes : Left → Cursor → Type 0) (before : Before)
    (calls : Option (List Call)) (sent : Option (List ℕ)) (k asked : ℕ) (run : Run) (t : Cursor) (c : Contents)
    → k ≡ asked → Took rules stands comes before calls sent k run t c → TookAll rules stands comes before calls sent asked run (Take asked) t c
took_asked rules stands comes before calls sent k asked run t c same took =
    record {
      took = omega (arith, took.room);
      unmet = not_less (is_some run.left.fault) (length run.left.list) asked (omega (arith, took.room));
      now = subst (λ n. IsAt stands comes before calls sent t c (passed rules run n)) same took.now;
    }

-- a count over a front that passes the test and a rest that does not
none_counted : {A : Type 0} (p : A → Bool) (ys : List A) → All (λ y. p y ≡ false) ys → count_by p ys ≡ 0
none_counted p [] n = refl
none_counted p (y ∷ ys) n = rw (All-head (λ y. p y ≡ false) y ys n) (none_counted p ys (All-tail (λ y. p y ≡ false) y ys n))

count_cons : {A : Type 0} (p : A → Bool) (x : A) (xs : List A) → count_by p (x ∷ xs) ≡ cond (p x) 1 0 + count_by p xs
count_cons p x xs = sum_by-cons (λ y. cond (p y) 1 0) x xs

counts_front : {A : Type 0} (p : A → Bool) (xs ys : List A) → All (λ x. p x ≡ true) xs → All (λ y. p y ≡ false) ys → count_by p (xs ++ ys) ≡ length xs
counts_front p [] ys h n = none_counted p ys n
counts_front p (x ∷ xs) ys h n =
    let here : p x ≡ true = All-head (λ x. p x ≡ true) x xs h in
    let behind : count_by p (xs ++ ys) ≡ length xs = counts_front p xs ys (All-tail (λ x. p x ≡ true) x xs h) n in
    count_cons p x (xs ++ ys) ∙ (ap (λ b. cond b 1 0 + count_by p (xs ++ ys)) here ∙ omega (arith, behind))

-- of the records that were asked for, those that were read end at or before the position, and no other
ended_are : (at k asked : ℕ) (list : List Arrival) → k ≤ length list → k < asked
    → All (λ (a : Arrival). a.end ≤ at) (take k list) → All (λ (a : Arrival). at < a.end) (drop k list) → ended_by at asked list ≡ k
ended_are at k asked list room less ended behind =
    let p : Arrival → Bool = λ a. nat_le a.end at in
    let split : take asked list ≡ take k list ++ take (asked - k) (drop k list) = take_split k asked list (omega arith) in
    let some = All-weaker (λ (a : Arrival). a.end ≤ at) (λ (a : Arrival). p a ≡ true) (λ (a : Arrival) h. grind (arith, nat_tests, h)) (take k list) ended in
    let none = All-weaker (λ (a : Arrival). at < a.end) (λ (a : Arrival). p a ≡ false) (λ (a : Arrival) h. grind (arith, nat_tests, h)) (take (asked - k) (drop k list))
    (All-take (λ (a : Arrival). at < a.end) (asked - k) (drop k list) behind) in
    ap (count_by p) split ∙ (counts_front p (take k list) (take (asked - k) (drop k list)) some none ∙ omega (arith, length-take k list))

-- the next record is damaged
at_damage : (rules : Rules) (stands : Board → Contents → Type 0) (comes : Left → Cursor → Type 0) (before : Before)
    (calls : Option (List Call)) (sent : Option (List ℕ)) (k asked at : ℕ) (run : Run) (fault : CaptureFault) (t : Cursor) (c : Contents)
    → k < asked → (passed rules run k).left ≡ nothing_left (Some fault) → Took rules stands comes before calls sent k run t c
    → Halts rules stands before calls sent (Damage fault) run (Take asked) at c
at_damage rules stands comes before calls sent k asked at run fault t c less gives took =
    let (all, some) = none_left rules run k (Some fault) took.rest gives took.room in
    let short : length run.left.list < asked = omega arith in
    record {
      end = passed rules run k;
      halts = record {
        meets = rw some (grind (arith, nat_tests));
        damaged = some;
        is = ap (λ n. passed rules run n) (omega arith);
      };
      shows = took.now.shows;
    }

pub stopped_by : (rules : Rules) (stands : Board → Contents → Type 0) (comes0 comes1 : Left → Cursor → Type 0) (before : Before)
    (calls : Option (List Call)) (sent : Option (List ℕ)) (k asked : ℕ) (run : Run) (fault : CaptureFault) (t u : Cursor) (c : Contents)
    → k < asked → MovesOn t u → Gives comes1 (passed rules run k).left (Err fault) u → Took rules stands comes0 before calls sent k run t c
    → Halts rules stands before calls sent (halt_of fault) run (Take asked) u.at c
stopped_by rules stands comes0 comes1 before calls sent k asked run Read t u c less on gives took =
    let list : (passed rules run k).left.list ≡ drop k run.left.list = ap (λ (l : Left). l.list) took.rest in
    let behind : All (λ (a : Arrival). u.at < a.end) (drop k run.left.list) = rw list at gives in
    let ended = All-weaker (λ (a : Arrival). a.end ≤ t.at) (λ (a : Arrival). a.end ≤ u.at) (λ (a : Arrival) h. omega (arith, h, on.on)) (take k run.left.list) took.ended in
    let is : ended_by u.at asked run.left.list ≡ k = ended_are u.at k asked run.left.list took.room less ended behind in
    record {
      end = passed rules run k;
      halts = record { less = omega arith; is = ap (λ n. passed rules run n) (sym is) };
      shows = took.now.shows;
    }
stopped_by rules stands comes0 comes1 before calls sent k asked run ShortHeader t u c less on gives took =
    at_damage rules stands comes0 before calls sent k asked u.at run ShortHeader t c less gives took
stopped_by rules stands comes0 comes1 before calls sent k asked run BadMagic t u c less on gives took =
    at_damage rules stands comes0 before calls sent k asked u.at run BadMagic t c less gives took
stopped_by rules stands comes0 comes1 before calls sent k asked run (BadLink link) t u c less on gives took =
    at_damage rules stands comes0 before calls sent k asked u.at run (BadLink link) t c less gives took
stopped_by rules stands comes0 comes1 before calls sent k asked run (ShortRecord offset) t u c less on gives took =
    at_damage rules stands comes0 before calls sent k asked u.at run (ShortRecord offset) t c less gives took
stopped_by rules stands comes0 comes1 before calls sent k asked run (BigRecord offset size) t u c less on gives took =
    at_damage rules stands comes0 before calls sent k asked u.at run (BigRecord offset size) t c less gives took
