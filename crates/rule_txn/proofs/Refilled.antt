-- Registers after a change, from those that its leases fill.
use Rattle.std.proofs.Common.{◌≡◌, ℕ, Bool, true, false, List, [], ◌∷◌, refl, ap, sym, ◌∙◌, subst}
use Rattle.std.specs.Prelude.{◌||◌, Option, None, Some, Result, Ok, Err}
use Rattle.std.specs.List.{All, list_any}
use Rattle.std.proofs.lemmas.Bool.{false≢true}
use Rattle.std.proofs.lemmas.List.Elements.{All-nil, All-cons, All-weaker}
use Rattle.outside.specs.Told.{Told}
use Rattle.reg_file.specs.Registers.{Contents}
use Rattle.switch_model.specs.Sights.{Holding}
use Rattle.switch_model.specs.Changes.{Refusal, Edit}
use Rattle.switch_model.specs.Laws.{is_in, fresh_of, start_in, Refilled}
use Rattle.rule_txn.specs.State.{Lent}
use Rattle.rule_txn.specs.Fills.{holding_of, is_leased, Fills, StayOutside, Refills}
use Rattle.rule_txn.proofs.Pools.{held_of}

leased_any : (leases : List (Option Lent)) (array addr : ℕ) → is_leased leases array addr ≡ list_any (is_in array addr) (held_of leases)
leased_any [] array addr = refl
leased_any (None ∷ rest) array addr = leased_any rest array addr
leased_any (Some lease ∷ rest) array addr = ap (λ b. is_in array addr (holding_of lease) || b) (leased_any rest array addr)

either_first : (a b : Bool) → a ≡ true → (a || b) ≡ true
either_first true b e = refl
either_first false b e = absurd (false≢true e)

either_second : (a b : Bool) → b ≡ true → (a || b) ≡ true
either_second true b e = refl
either_second false b e = e

own_any : (hs : List Holding) → All (λ (h : Holding). (addr : ℕ) → is_in h.array addr h ≡ true → list_any (is_in h.array addr) hs ≡ true) hs
own_any [] = All-nil (λ (h : Holding). (addr : ℕ) → is_in h.array addr h ≡ true → list_any (is_in h.array addr) [] ≡ true)
own_any (x ∷ hs) =
    All-cons (λ (h : Holding). (addr : ℕ) → is_in h.array addr h ≡ true → list_any (is_in h.array addr) (x ∷ hs) ≡ true) x hs
    (λ addr e. either_first (is_in x.array addr x) (list_any (is_in x.array addr) hs) e)
    (All-weaker (λ (h : Holding). (addr : ℕ) → is_in h.array addr h ≡ true → list_any (is_in h.array addr) hs ≡ true)
    (λ (h : Holding). (addr : ℕ) → is_in h.array addr h ≡ true → list_any (is_in h.array addr) (x ∷ hs) ≡ true)
    (λ h own addr e. either_second (is_in h.array addr x) (list_any (is_in h.array addr) hs) (own addr e)) hs (own_any hs))

filled : {T E : Type 0} (leases : List (Option Lent)) (fresh : List Holding) (value : ℕ) (t : T) (old new : Contents) → held_of leases ≡ fresh
    → Fills {T = T} {E = E} leases value (Ok t) old new → Refilled fresh value old new
filled leases fresh value t old new same fills =
    subst (λ hs. Refilled hs value old new) same (record {
      filled = All-weaker (λ (h : Holding). (addr : ℕ) → is_in h.array addr h ≡ true → list_any (is_in h.array addr) (held_of leases) ≡ true)
          (λ (h : Holding). (addr : ℕ) → is_in h.array addr h ≡ true → new h.array addr ≡ value)
          (λ h own addr e. fills.filled h.array addr (leased_any leases h.array addr ∙ own addr e)) (held_of leases) (own_any (held_of leases));
      others = λ array addr none. fills.others array addr (leased_any leases array addr ∙ none);
    })

outside : {T E : Type 0} (leases : List (Option Lent)) (fresh : List Holding) (value : ℕ) (result : Result T E) (old new : Contents) → held_of leases ≡ fresh
    → Fills leases value result old new → StayOutside fresh old new
outside leases fresh value result old new same fills =
    subst (λ hs. StayOutside hs old new) same (λ array addr none. fills.others array addr (leased_any leases array addr ∙ none))

told_weaker : {A B : Type 0} (R S : A → B → Type 0) → ((a : A) (b : B) → R a b → S a b) → (before : Option A) (after : Option B) → Told R before after → Told S before after
told_weaker R S weaker None None told = tt
told_weaker R S weaker (Some a) None told = tt
told_weaker R S weaker None (Some b) told = told
told_weaker R S weaker (Some a) (Some b) told = weaker a b told

-- a change that is made
pub told_made : {L E T : Type 0} (F : Type 0) (leases : List (Option Lent)) (edit : Edit) (r : Result Edit Refusal) (value : ℕ) (result : Result L E) (l : L) (t : T) (before after : Option Contents)
    → r ≡ Ok edit → held_of leases ≡ fresh_of edit → value ≡ start_in edit → result ≡ Ok l → Told (Fills leases value result) before after
    → Told (Refills {T = T} {F = F} r (Ok t)) before after
told_made {L = L} {E = E} {T = T} F leases edit r value result l t before after judged same start is told =
    subst (λ j. Told (Refills {T = T} {F = F} j (Ok t)) before after) (sym judged)
    (told_weaker (Fills leases value result) (Refilled (fresh_of edit) (start_in edit))
    (λ old new fills. subst (λ v. Refilled (fresh_of edit) v old new) start
    (filled {T = L} {E = E} leases (fresh_of edit) value l old new same (subst (λ x. Fills leases value x old new) is fills))) before after told)

-- one that the register file refused
pub told_refused : {L E F : Type 0} (T : Type 0) (leases : List (Option Lent)) (edit : Edit) (r : Result Edit Refusal) (value : ℕ) (result : Result L E) (fault : F) (before after : Option Contents)
    → r ≡ Ok edit → held_of leases ≡ fresh_of edit → Told (Fills leases value result) before after
    → Told (Refills {T = T} {F = F} r (Err fault)) before after
told_refused {F = F} T leases edit r value result fault before after judged same told =
    subst (λ j. Told (Refills {T = T} {F = F} j (Err fault)) before after) (sym judged)
    (told_weaker (Fills leases value result) (StayOutside (fresh_of edit)) (λ old new fills. outside leases (fresh_of edit) value result old new same fills) before after told)
