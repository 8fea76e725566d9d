-- How what is told goes on through calls.
use Rattle.std.proofs.Common.{List, ◌++◌, [], Option, None, Some, refl, ◌∙◌, ap, sym, append_assoc}
use Rattle.std.proofs.lemmas.List.{append-nil}
use Rattle.outside.specs.Told.{Told, Stays, Grows}

-- two calls, one after the other
pub told_then : {A B C : Type 0} {R : A → B → Type 0} {S : B → C → Type 0} {T : A → C → Type 0}
    (a : Option A) (b : Option B) (c : Option C)
    → ((x : A) (y : B) (z : C) → R x y → S y z → T x z) → Told R a b → Told S b c → Told T a c
told_then a b None step r s = tt
told_then a None (Some z) step r s = absurd s
told_then None (Some y) (Some z) step r s = absurd r
told_then (Some x) (Some y) (Some z) step r s = step x y z r s

-- a weaker relation
pub told_weaker : {A B : Type 0} {R S : A → B → Type 0} (a : Option A) (b : Option B)
    → ((x : A) (y : B) → R x y → S x y) → Told R a b → Told S a b
told_weaker a None step r = tt
told_weaker None (Some y) step r = absurd r
told_weaker (Some x) (Some y) step r = step x y r

pub stays_same : {A : Type 0} (o : Option A) → Stays o o
stays_same None = tt
stays_same (Some x) = refl

pub stays_then : {A : Type 0} (a b c : Option A) → Stays a b → Stays b c → Stays a c
stays_then a b c r s = told_then a b c (λ x y z p q. q ∙ p) r s

pub grows_none : {A : Type 0} (a b : Option (List A)) → Stays a b → Grows a [] b
grows_none a b s = told_weaker a b (λ x y p. p ∙ sym (append-nil x)) s

pub grows_then : {A : Type 0} (a b c : Option (List A)) (xs ys : List A) → Grows a xs b → Grows b ys c → Grows a (xs ++ ys) c
grows_then a b c xs ys r s = told_then a b c (λ x y z p q. q ∙ (ap (λ l. l ++ ys) p ∙ append_assoc x xs ys)) r s

pub grows_stays : {A : Type 0} (a b c : Option (List A)) (xs : List A) → Grows a xs b → Stays b c → Grows a xs c
grows_stays a b c xs r s = told_then a b c (λ x y z p q. q ∙ p) r s

pub stays_grows : {A : Type 0} (a b c : Option (List A)) (xs : List A) → Stays a b → Grows b xs c → Grows a xs c
stays_grows a b c xs r s = told_then a b c (λ x y z p q. q ∙ ap (λ l. l ++ xs) p) r s
