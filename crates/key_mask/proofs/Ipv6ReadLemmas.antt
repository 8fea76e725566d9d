-- Groups that are read one by one, and what fills eight places.
use Rattle.std.proofs.Common.{◌≡◌, ℕ, zero, suc, ◌+◌, ◌-◌, ◌*◌, ◌<◌, ◌≤◌, ◌==◌, List, [], ◌∷◌, ◌++◌, length, take, drop, replicate, Option, None, Some, refl, ap, arith, append_assoc, append-nil, ◌^◌, length-append, length-drop}
use Rattle.std.proofs.lemmas.List.{drop-replicate, take-replicate, length-replicate}
use Rattle.std.proofs.Math.Nat.{pow-le-pow_right}
use Rattle.std.proofs.Math.Seq.{take-append-add}
use Rattle.std.proofs.Math.ListN.{drop_of_length-le}
use borrow.Rule.Slice.PartMut.{put_mid}
use Rattle.texts.specs.Cuts.{front, back, parts}
use Rattle.texts.proofs.CutLemmas.{parts_first, parts_behind}
use Rattle.key_mask.specs.Ipv6.{group_in, groups_in}
use Rattle.key_mask.specs.Numbers.{◌>>=◌}

-- what was found, and what is still to come
abbrev pub ahead : List ℕ → Option (List ℕ) → Option (List ℕ)
ahead found None = None
ahead found (Some more) = Some (found ++ more)

joined : (found : List ℕ) (group : ℕ) (o : Option (List ℕ)) → ahead (found ++ group ∷ []) o ≡ ahead found (o >>= λ more. Some (group ∷ more))
joined found group None = refl
joined found group (Some more) = ap Some (append_assoc found (group ∷ []) more)

-- one group more
pub group_taken : (found text part : List ℕ) (rest : Option (List ℕ)) (n room : ℕ) (group : ℕ) → part ≡ front (λ b. b == 58) text → rest ≡ back (λ b. b == 58) text → group_in part ≡ Some group → room ≡ suc n
    → ahead (found ++ group ∷ []) (groups_in n (parts_behind 58 rest)) ≡ ahead found (groups_in room (parts 58 text))
unfolding groups_in
group_taken found text part rest n room group p q e s = rw (parts_first 58 text, s, ← p, ← q, e) (joined found group (groups_in n (parts_behind 58 rest)))

pub group_refused : (found text part : List ℕ) (room : ℕ) → part ≡ front (λ b. b == 58) text → group_in part ≡ None → 0 < room → ahead found (groups_in room (parts 58 text)) ≡ None
unfolding groups_in
group_refused found text part zero p e h = absurd (omega arith)
group_refused found text part (suc n) p e h = rw (parts_first 58 text, ← p, e) refl

pub room_out : (found text : List ℕ) (room : ℕ) → room ≡ 0 → ahead found (groups_in room (parts 58 text)) ≡ None
unfolding groups_in
room_out found text room e = rw (parts_first 58 text, e) refl

pub none_left : (found : List ℕ) (room : ℕ) → ahead found (groups_in room []) ≡ Some found
unfolding groups_in
none_left found room = ap Some (append-nil found)

pub ruleset reading = (group_taken, group_refused, room_out, none_left)

-- ---- room for digits and groups

pub digit_room : (n i : ℕ) → n < 16 ^ i → i < 4 → n * 16 + 15 < 65536
digit_room n i small h = let e : 16 ^ i ≤ 16 ^ 3 = pow-le-pow_right {n = 16} (omega arith) {i = i} {j = 3} (omega arith) in omega (arith, e)

pub digits_small : (n i : ℕ) → n < 16 ^ i → i ≤ 4 → n < 65536
digits_small n i small h = let e : 16 ^ i ≤ 16 ^ 4 = pow-le-pow_right {n = 16} (omega arith) {i = i} {j = 4} h in omega (arith, e)

pub group_room : (n i : ℕ) → n < 65536 ^ i → i < 8 → n * 65536 + 65535 < 2 ^ 128
group_room n i small h = let e : 65536 ^ i ≤ 65536 ^ 7 = pow-le-pow_right {n = 65536} (omega arith) {i = i} {j = 7} (omega arith) in omega (arith, e)

-- ---- two sides with zeros between

-- the array that is filled at both ends
pub filled_is : (left right one two : List ℕ) → length left + length right ≤ 7 → one ≡ left → two ≡ right
    → put_mid (8 - length right) (8 - (8 - length right)) (one ++ drop (length left) (replicate 8 0)) two ≡ left ++ (replicate (8 - length left - length right) 0 ++ right)
filled_is left right one two h p q =
    let nil : ℕ = 0 in
    let m : ℕ = 8 - length left - length right in
    let front : 8 - length right ≡ length left + m = omega arith in
    let zeros : drop (length left) (replicate 8 nil) ≡ replicate (8 - length left) nil = drop-replicate (length left) 8 nil in
    let both : List ℕ = left ++ replicate (8 - length left) nil in
    let long : length (drop (8 - length right) both) ≤ 8 - (8 - length right) = omega (arith, length-drop (8 - length right) both, length-append left (replicate (8 - length left) nil), length-replicate {A = ℕ} (8 - length left) nil) in
    let none : drop (8 - (8 - length right)) (drop (8 - length right) both) ≡ [] = drop_of_length-le (drop (8 - length right) both) long in
    let some : take (8 - length right) (left ++ replicate (8 - length left) nil) ≡ left ++ replicate m nil = rw (front, take-append-add left (replicate (8 - length left) nil) m, take-replicate {X = ℕ} m (8 - length left) nil (omega arith)) refl in
    rw (p, q, zeros, none, some, append-nil right) (append_assoc left (replicate m nil) right)

pub ruleset digits = (digit_room, digits_small)
