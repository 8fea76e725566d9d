-- How what came so far goes on.
use Rattle.std.proofs.Common.{◌≡◌, ◌<◌, List, ◌++◌, [], Option, length, refl, ◌∙◌, ap, sym, append_assoc, arith}
use Rattle.std.proofs.lemmas.List.{length-append}
use Rattle.outside.specs.Told.{Stays}
use Rattle.outside.specs.Sent.{CameSoFar, CameInFront, CameInPart}
use Rattle.outside.proofs.ToldLemmas.{grows_none, grows_then}

-- nothing yet
pub none_came : {A : Type 0} (a b : Option (List A)) (all : List A) → Stays a b → CameSoFar a all all b
none_came a b all s = record { front = []; grows = grows_none a b s; whole = refl }

joined : {A : Type 0} (f g r s piece all : List A) → g ++ r ≡ piece → f ++ (piece ++ s) ≡ all → (f ++ g) ++ (r ++ s) ≡ all
joined f g r s piece all e w =
    append_assoc f g (r ++ s) ∙ (ap (λ t. f ++ t) (sym (append_assoc g r s) ∙ ap (λ t. t ++ s) e) ∙ w)

-- a part of the next piece came
pub part_came : {A : Type 0} (a b c : Option (List A)) (all piece rest : List A)
    → CameSoFar a all (piece ++ rest) b → CameInPart b piece c → CameInPart a all c
part_came a b c all piece rest far part = record {
  rest = part.rest ++ rest;
  left = omega (arith, length-append part.rest rest, part.left);
  so_far = record {
    front = far.front ++ part.so_far.front;
    grows = grows_then a b c far.front part.so_far.front far.grows part.so_far.grows;
    whole = joined far.front part.so_far.front part.rest rest piece all part.so_far.whole far.whole;
  };
}

-- what came in part came in front
pub front_of_part : {A : Type 0} (a b : Option (List A)) (all : List A) → CameInPart a all b → CameInFront a all b
front_of_part a b all part = record { rest = part.rest; so_far = part.so_far }

-- a call that sent nothing of what it had to send
pub none_in_part : {A : Type 0} (a b : Option (List A)) (all : List A) → 0 < length all → Stays a b → CameInPart a all b
none_in_part a b all some s = record { rest = all; left = some; so_far = none_came a b all s }

-- a call that sent nothing of what it had to send, which may be nothing
pub none_in_front : {A : Type 0} (a b : Option (List A)) (all : List A) → Stays a b → CameInFront a all b
none_in_front a b all s = record { rest = all; so_far = none_came a b all s }

-- a front of the next piece came, and more was to come behind it
pub front_came : {A : Type 0} (a b c : Option (List A)) (all piece rest : List A)
    → CameSoFar a all (piece ++ rest) b → CameInFront b piece c → 0 < length rest → CameInPart a all c
front_came a b c all piece rest far front some = record {
  rest = front.rest ++ rest;
  left = omega (arith, length-append front.rest rest);
  so_far = record {
    front = far.front ++ front.so_far.front;
    grows = grows_then a b c far.front front.so_far.front far.grows front.so_far.grows;
    whole = joined far.front front.so_far.front front.rest rest piece all front.so_far.whole far.whole;
  };
}
