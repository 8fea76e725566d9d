-- What was sent, with a piece that is still to be sent before the rest.
use Rattle.std.proofs.Common.{◌≡◌, ℕ, zero, suc, ◌+◌, ◌<◌, ◌≤◌, List, [], ◌∷◌, ◌++◌, Option, Result, Ok, Err, length, take, drop, slice_index_or, refl, ◌∙◌, ap, sym, append_assoc, subst, arith}
use Rattle.std.specs.List.{flat_map}
use Rattle.std.proofs.lemmas.List.{append-nil, take_all}
use Rattle.std.specs.Result.{IsErr}
use Rattle.std.proofs.lemmas.Bool.{false≢true}
use Rattle.outside.specs.Faults.{HasCause}
use Rattle.outside.specs.Told.{Grows}
use Rattle.outside.specs.Sent.{CameSoFar, CameInFront, CameInPart, Sends}
use Rattle.outside.proofs.ToldLemmas.{stays_same, grows_then}
use Rattle.outside.proofs.SentLemmas.{none_came, part_came, front_came}
use Rattle.readout.specs.Outcomes.{Gathers}

-- nothing yet
pub put_behind : (a : Option (List ℕ)) (all : List ℕ) → CameSoFar a all all a
put_behind a all = none_came a a all (stays_same a)

-- a line put behind a piece in which room was made
pub room_put : (a b : Option (List ℕ)) (piece line left : List ℕ) → CameSoFar a (piece ++ []) left b → CameSoFar a (piece ++ line) (left ++ line) b
room_put a b piece line left far = record {
  front = far.front;
  grows = far.grows;
  whole = sym (append_assoc far.front left line) ∙ ap (λ t. t ++ line) (far.whole ∙ append-nil piece);
}

-- a front of a text is one of every longer text
pub front_of_more : (a b : Option (List ℕ)) (piece text rest : List ℕ) → CameInFront a (piece ++ text) b → CameInFront a (piece ++ (text ++ rest)) b
front_of_more a b piece text rest front = record {
  rest = front.rest ++ rest;
  so_far = record {
    front = front.so_far.front;
    grows = front.so_far.grows;
    whole = sym (append_assoc front.so_far.front front.rest rest) ∙ (ap (λ t. t ++ rest) front.so_far.whole ∙ append_assoc piece text rest);
  };
}

-- one text, and then another
pub came_then : (a b c : Option (List ℕ)) (piece text mid more left : List ℕ)
    → CameSoFar a (piece ++ text) mid b → CameSoFar b (mid ++ more) left c → CameSoFar a (piece ++ (text ++ more)) left c
came_then a b c piece text mid more left far next = record {
  front = far.front ++ next.front;
  grows = grows_then a b c far.front next.front far.grows next.grows;
  whole = append_assoc far.front next.front left
      ∙ (ap (λ t. far.front ++ t) next.whole ∙ (sym (append_assoc far.front mid more) ∙ (ap (λ t. t ++ more) far.whole ∙ append_assoc piece text more)));
}

-- one text, and then a front of another
pub came_front : (a b c : Option (List ℕ)) (piece text mid more : List ℕ)
    → CameSoFar a (piece ++ text) mid b → CameInFront b (mid ++ more) c → CameInFront a (piece ++ (text ++ more)) c
came_front a b c piece text mid more far front =
    record { rest = front.rest; so_far = came_then a b c piece text mid more front.rest far front.so_far }

pub gathers_then : {T E : Type 0} (result : Result T E) (a b c : Option (List ℕ)) (piece text mid more left : List ℕ)
    → CameSoFar a (piece ++ text) mid b → Gathers b mid more result left c → Gathers a piece (text ++ more) result left c
gathers_then (Ok x) a b c piece text mid more left far next = came_then a b c piece text mid more left far next
gathers_then (Err e) a b c piece text mid more left far front = came_front a b c piece text mid more far front

-- ---- the texts of a list, one after the other

pub flat_next : {X : Type 0} (f : X → List ℕ) (xs : List X) (i : ℕ) (d : X) → i < length xs
    → flat_map f (take (i + 1) xs) ≡ flat_map f (take i xs) ++ f (slice_index_or xs i d)
flat_next f [] i d inside = absurd (omega arith)
flat_next f (x ∷ xs) zero d inside = append-nil (f x)
flat_next f (x ∷ xs) (suc i) d inside =
    let e : suc i + 1 ≡ suc (i + 1) = omega arith in
    ap (λ k. flat_map f (take k (x ∷ xs))) e
    ∙ (ap (λ t. f x ++ t) (flat_next f xs i d (omega arith)) ∙ sym (append_assoc (f x) (flat_map f (take i xs)) (f (slice_index_or xs i d))))

flat_split : {X : Type 0} (f : X → List ℕ) (xs : List X) (k : ℕ) → flat_map f xs ≡ flat_map f (take k xs) ++ flat_map f (drop k xs)
flat_split f xs zero = refl
flat_split f [] (suc k) = refl
flat_split f (x ∷ xs) (suc k) =
    ap (λ t. f x ++ t) (flat_split f xs k) ∙ sym (append_assoc (f x) (flat_map f (take k xs)) (flat_map f (drop k xs)))

-- the texts of the first elements were gathered
abbrev pub FlatSoFar : {X : Type 0} → Option (List ℕ) → List ℕ → (X → List ℕ) → List X → ℕ → List ℕ → Option (List ℕ) → Type 0
FlatSoFar before first f xs i piece now = CameSoFar before (first ++ flat_map f (take i xs)) piece now

pub flat_start : {X : Type 0} (a : Option (List ℕ)) (first : List ℕ) (f : X → List ℕ) (xs : List X) → FlatSoFar a first f xs 0 first a
flat_start a first f xs = subst (λ t. CameSoFar a t first a) (sym (append-nil first)) (put_behind a first)

pub flat_more : {X : Type 0} (a b c : Option (List ℕ)) (first : List ℕ) (f : X → List ℕ) (xs : List X) (i : ℕ) (d : X) (piece left : List ℕ) → i < length xs
    → FlatSoFar a first f xs i piece b → CameSoFar b (piece ++ f (slice_index_or xs i d)) left c → FlatSoFar a first f xs (i + 1) left c
flat_more a b c first f xs i d piece left inside far next =
    subst (λ t. CameSoFar a (first ++ t) left c) (sym (flat_next f xs i d inside))
    (came_then a b c first (flat_map f (take i xs)) piece (f (slice_index_or xs i d)) left far next)

pub flat_cut : {X : Type 0} (a b c : Option (List ℕ)) (first : List ℕ) (f : X → List ℕ) (xs : List X) (i : ℕ) (d : X) (piece : List ℕ) → i < length xs
    → FlatSoFar a first f xs i piece b → CameInFront b (piece ++ f (slice_index_or xs i d)) c → CameInFront a (first ++ flat_map f xs) c
flat_cut a b c first f xs i d piece inside far front =
    subst (λ t. CameInFront a (first ++ t) c) (sym (flat_split f xs (i + 1)))
    (front_of_more a c first (flat_map f (take (i + 1) xs)) (flat_map f (drop (i + 1) xs))
    (subst (λ t. CameInFront a (first ++ t) c) (sym (flat_next f xs i d inside))
    (came_front a b c first (flat_map f (take i xs)) piece (f (slice_index_or xs i d)) far front)))

pub flat_done : {X : Type 0} (a b : Option (List ℕ)) (first : List ℕ) (f : X → List ℕ) (xs : List X) (i : ℕ) (piece : List ℕ) → length xs ≤ i
    → FlatSoFar a first f xs i piece b → CameSoFar a (first ++ flat_map f xs) piece b
flat_done {X = X} a b first f xs i piece all far = subst (λ (l : List X). CameSoFar a (first ++ flat_map f l) piece b) (take_all i xs all) far

-- ---- blocks

-- the piece is sent, which is all that is left
pub sent_rest : {T E : Type 0} (result : Result T E) (a b c : Option (List ℕ)) (all left : List ℕ) → CameSoFar a all left b → Sends b left result c → Sends a all result c
sent_rest (Ok x) a b c all left far grew = subst (λ t. Grows a t c) far.whole (grows_then a b c far.front left far.grows grew)
sent_rest (Err e) a b c all left far part = part_came a b c all left [] (subst (λ t. CameSoFar a all t b) (sym (append-nil left)) far) part

-- the end of a block
pub block_sent : {T E : Type 0} (result : Result T E) (a b c : Option (List ℕ)) (head body end left : List ℕ)
    → CameSoFar a (head ++ body) left b → Sends b (left ++ end) result c → Sends a (head ++ (body ++ end)) result c
block_sent result a b c head body end left far sent =
    sent_rest result a b c (head ++ (body ++ end)) (left ++ end)
    (subst (λ t. CameSoFar a t (left ++ end) b) (append_assoc head body end)
    (record { front = far.front; grows = far.grows; whole = sym (append_assoc far.front left end) ∙ ap (λ t. t ++ end) far.whole })) sent

-- a fault before the end
pub block_cut : (a b : Option (List ℕ)) (head body end : List ℕ) → 0 < length end → CameInFront a (head ++ body) b → CameInPart a (head ++ (body ++ end)) b
block_cut a b head body end some front =
    subst (λ t. CameInPart a t b) (append_assoc head body end)
    (front_came a a b ((head ++ body) ++ end) (head ++ body) end (none_came a a ((head ++ body) ++ end) (stays_same a)) front some)

-- ---- at a fault

pub sends_at_err : {T E : Type 0} (result : Result T E) (a b : Option (List ℕ)) (all : List ℕ) → IsErr result → CameInPart a all b → Sends a all result b
sends_at_err (Ok x) a b all failed part = absurd (false≢true failed)
sends_at_err (Err e) a b all failed part = part

pub gathers_at_err : {T E : Type 0} (result : Result T E) (a b : Option (List ℕ)) (piece text left : List ℕ)
    → IsErr result → CameInFront a (piece ++ text) b → Gathers a piece text result left b
gathers_at_err (Ok x) a b piece text left failed front = absurd (false≢true failed)
gathers_at_err (Err e) a b piece text left failed front = front

-- a cause in a later call is one of both
pub cause_then : {T E D : Type 0} (result : Result T E) (fault : D) (a b c : ℕ) → a ≤ b → HasCause {T = T} b c (Err fault) → HasCause a c result
cause_then (Ok x) fault a b c later cause = record { later = omega (arith, later, cause.later); failed = tt }
cause_then (Err e) fault a b c later cause = record { later = omega (arith, later, cause.later); failed = omega (arith, later, cause.failed) }

-- ---- a list whose texts are put into a piece in which room is made for each

pub flat_put : {X : Type 0} (a b c : Option (List ℕ)) (first : List ℕ) (f : X → List ℕ) (xs : List X) (i : ℕ) (d : X) (piece mid left line : List ℕ) → i < length xs
    → f (slice_index_or xs i d) ≡ line → FlatSoFar a first f xs i piece b → CameSoFar b (piece ++ []) mid c → left ≡ mid ++ line
    → FlatSoFar a first f xs (i + 1) left c
flat_put a b c first f xs i d piece mid left line inside is far room put =
    flat_more a b c first f xs i d piece left inside far
    (subst (λ t. CameSoFar b (piece ++ t) left c) (sym is) (subst (λ l. CameSoFar b (piece ++ line) l c) (sym put) (room_put b c piece line mid room)))

pub flat_unput : {X T E : Type 0} (result : Result T E) (a b c : Option (List ℕ)) (first : List ℕ) (f : X → List ℕ) (xs : List X) (i : ℕ) (d : X) (piece left : List ℕ) → i < length xs
    → IsErr result → FlatSoFar a first f xs i piece b → CameInFront b (piece ++ []) c → Gathers a first (flat_map f xs) result left c
flat_unput result a b c first f xs i d piece left inside failed far front =
    gathers_at_err result a c first (flat_map f xs) left failed
    (flat_cut a b c first f xs i d piece inside far (front_of_more b c piece [] (f (slice_index_or xs i d)) front))

pub flat_stop : {X T E : Type 0} (result : Result T E) (a b c : Option (List ℕ)) (first : List ℕ) (f : X → List ℕ) (xs : List X) (i : ℕ) (d : X) (piece left : List ℕ) → i < length xs
    → IsErr result → FlatSoFar a first f xs i piece b → CameInFront b (piece ++ f (slice_index_or xs i d)) c → Gathers a first (flat_map f xs) result left c
flat_stop result a b c first f xs i d piece left inside failed far front =
    gathers_at_err result a c first (flat_map f xs) left failed (flat_cut a b c first f xs i d piece inside far front)
