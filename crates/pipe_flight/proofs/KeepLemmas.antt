-- All packets become old, one after the other.
use Rattle.std.proofs.Common.{◌≡◌, ◌+◌, ◌<◌, ℕ, length, take, drop, get_or, map, ap, sym, ◌∙◌, ◌++◌, ◌∷◌, [], List, arith}
use Rattle.std.specs.Prelude.{slice_set}
use Rattle.std.proofs.lemmas.List.{take_more, take_more_set, take_at, drop-set-lt, get_or-drop, drop-drop, map-append, length-map}
use Rattle.pipe_flight.specs.declared.waiting.Waiting.{Waiting}
use Rattle.pipe_flight.specs.States.{kept_waiting}

same_there : (was waiting : List Waiting) (i : ℕ) (d : Waiting) → drop i waiting ≡ drop i was → get_or waiting i d ≡ get_or was i d
same_there was waiting i d e =
    let z : i + 0 ≡ i = omega arith in
    ap (λ k. get_or waiting k d) (sym z) ∙ sym (get_or-drop i waiting 0 d) ∙ ap (λ xs. get_or xs 0 d) e ∙ get_or-drop i was 0 d ∙ ap (λ k. get_or was k d) z

pub front_more : (was waiting : List Waiting) (i : ℕ) (d : Waiting) → i < length waiting → i < length was → take i waiting ≡ map kept_waiting (take i was) → drop i waiting ≡ drop i was
    → take (i + 1) (slice_set waiting i (kept_waiting (get_or waiting i d))) ≡ map kept_waiting (take (i + 1) was)
front_more was waiting i d lt less e b =
    take_more_set waiting i (kept_waiting (get_or waiting i d)) lt
    ∙ ap (λ xs. xs ++ kept_waiting (get_or waiting i d) ∷ []) e
    ∙ ap (λ (x : Waiting). map kept_waiting (take i was) ++ kept_waiting x ∷ []) (same_there was waiting i d b)
    ∙ sym (ap (map kept_waiting) (take_more was i d less) ∙ map-append kept_waiting (take i was) (get_or was i d ∷ []))

pub back_more : (was waiting : List Waiting) (i : ℕ) (one : Waiting) → drop i waiting ≡ drop i was → drop (i + 1) (slice_set waiting i one) ≡ drop (i + 1) was
back_more was waiting i one e = drop-set-lt (i + 1) waiting i one (omega arith) ∙ sym (drop-drop 1 i waiting) ∙ ap (drop 1) e ∙ drop-drop 1 i was

pub whole_again : (items new : List Waiting) (len : ℕ) → len ≡ length items → new ≡ map kept_waiting items → take len (new ++ drop (length new) items) ≡ map kept_waiting items
whole_again items new len l e = take_at new (drop (length new) items) len (ap length e ∙ length-map items kept_waiting ∙ sym l) ∙ e
