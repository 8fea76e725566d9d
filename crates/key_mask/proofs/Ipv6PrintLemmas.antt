-- What is printed of an address.
use Rattle.std.proofs.Common.{◌≡◌, ℕ, suc, ◌+◌, ◌-◌, ◌/◌, ◌%◌, ◌<◌, List, [], ◌∷◌, ◌++◌, length, take, drop, map, get_or, refl, sym, ◌∙◌, arith, append_assoc, set, length-take-le}
use Rattle.std.proofs.lemmas.List.{drop-set, take_more, map-append, length-map}
use Rattle.key_mask.specs.Ipv6.{group_text, groups_before}
use Rattle.std.specs.List.{join_with_byte}

-- one piece more
pub join_more : (c : ℕ) (xs : List (List ℕ)) (y : List ℕ) → 0 < length xs → join_with_byte c (xs ++ y ∷ []) ≡ join_with_byte c xs ++ c ∷ y
join_more c [] y some = absurd (omega arith)
join_more c (x ∷ []) y some = refl
join_more c (x ∷ z ∷ xs) y some = rw (join_more c (z ∷ xs) y (omega arith)) (sym (append_assoc x (c ∷ join_with_byte c (z ∷ xs)) (c ∷ y)))

pub groups_more : (before gs : List ℕ) (k : ℕ) → 0 < k → k < length gs
    → before ++ join_with_byte 58 (map group_text (take (k + 1) gs)) ≡ ((before ++ join_with_byte 58 (map group_text (take k gs))) ++ 58 ∷ []) ++ group_text (get_or gs k 0)
groups_more before gs k some h =
    let texts : List (List ℕ) = map group_text (take k gs) in
    let text : List ℕ = group_text (get_or gs k 0) in
    let there : 0 < length texts = omega (arith, length-map {A = ℕ} {B = List ℕ} (take k gs) group_text, length-take-le k gs (omega arith)) in
    rw (take_more gs k 0 h, map-append group_text (take k gs) (get_or gs k 0 ∷ []), join_more 58 texts text there)
    (sym (append_assoc before (join_with_byte 58 texts) (58 ∷ text)) ∙ sym (append_assoc (before ++ join_with_byte 58 texts) (58 ∷ []) text))

-- a group taken off the number stands at its place
pub group_put : (k rest : ℕ) (gs whole : List ℕ) → length gs ≡ 8 → k < 8 → groups_before (8 - k) rest (drop (8 - k) gs) ≡ whole
    → groups_before (8 - (k + 1)) (rest / 65536) (drop (8 - (k + 1)) (set gs (7 - k) (rest % 65536))) ≡ whole
unfolding groups_before
group_put k rest gs whole long h e =
    let now : 8 - k ≡ suc (7 - k) = omega arith in
    let next : 8 - (k + 1) ≡ 7 - k = omega arith in
    let behind : 7 - k + 1 ≡ suc (7 - k) = omega arith in
    rw (next, drop-set gs (7 - k) (rest % 65536) (omega arith), behind) (rw now at e)

pub all_put : (k rest : ℕ) (gs whole : List ℕ) → k ≡ 8 → groups_before (8 - k) rest (drop (8 - k) gs) ≡ whole → gs ≡ whole
unfolding groups_before
all_put k rest gs whole h e = rw h at e
