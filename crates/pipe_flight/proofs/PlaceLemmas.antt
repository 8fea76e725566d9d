-- Calls and the places that they change.
use Rattle.std.proofs.Common.{◌≡◌, ◌≢◌, ℕ, zero, suc, ◌+◌, ◌≤◌, false, cond, List, [], ◌∷◌, ◌++◌, refl, ap, sym, ◌∙◌, subst, arith, filter, ⊎_elim}
use Rattle.std.specs.Prelude.{◌&&◌, ◌==◌, slice_set}
use Rattle.std.proofs.Math.Path.{fun_ext}
use Rattle.std.proofs.lemmas.Bool.{cases_eq}
use Rattle.std.proofs.lemmas.Bool.Decides.{nat_tests}
use Rattle.std.proofs.lemmas.List.{append-nil}
use Rattle.std.proofs.lemmas.List.Elements.{All-nil, All-head, All-tail, All-append, All-weaker, filter-append}
use Rattle.reg_file.specs.declared.traits.Call.{Call}
use Rattle.stateful_ops.specs.Ops.{new_register, carry_of}
use Rattle.reg_file.specs.Registers.{Contents}
use Rattle.reg_file.specs.Calls.{made, all_made, carry_in, handed, is_on}
use Rattle.pipe_core.specs.Flow.{Stages, flow}
use Rattle.pipe_flight.specs.Schedules.{AreAt, AreStaged}
use Rattle.pipe_flight.proofs.Agreements.{SameAt}

-- the same calls on registers that are the same at one place leave it the same
pub all_made_same : (calls : List Call) (one two : Contents) (a i : ℕ) → one a i ≡ two a i → all_made one calls a i ≡ all_made two calls a i
all_made_same [] one two a i e = e
all_made_same (call ∷ calls) one two a i e =
    all_made_same calls (made one call) (made two call) a i (ap (λ (v : ℕ). cond (call.array == a && call.addr == i) (new_register call.op v) v) e)

made_off : (contents : Contents) (call : Call) (a i : ℕ) → ((call.array ≡ a) × (call.addr ≡ i) → ⊥) → made contents call a i ≡ contents a i
made_off contents call a i ne =
    ⊎_elim
    (λ (same : call.array ≡ a). ⊎_elim (λ (here : call.addr ≡ i). absurd (ne (same, here))) (λ (other : call.addr ≢ i). grind (arith, nat_tests)) (cases_eq call.addr i))
    (λ (other : call.array ≢ a). grind (arith, nat_tests))
    (cases_eq call.array a)

-- calls at some places leave every other place
pub all_made_off : (Place : ℕ → ℕ → Type 0) (calls : List Call) (contents : Contents) (a i : ℕ) → AreAt Place calls → (Place a i → ⊥) → all_made contents calls a i ≡ contents a i
all_made_off Place [] contents a i at off = refl
all_made_off Place (call ∷ calls) contents a i at off =
    all_made_off Place calls (made contents call) a i (All-tail (λ (c : Call). Place c.array c.addr) call calls at) off
    ∙ made_off contents call a i (λ e. off (subst (λ x. Place a x) e.1 (subst (λ x. Place x call.addr) e.0 (All-head (λ (c : Call). Place c.array c.addr) call calls at))))

-- the carries of calls at places where the registers are the same
pub handed_at : (Place : ℕ → ℕ → Type 0) (calls : List Call) (one two : Contents) (outs : List ℕ) → AreAt Place calls → SameAt Place one two → handed one calls outs ≡ handed two calls outs
handed_at Place [] one two outs at same = refl
handed_at Place (call ∷ calls) one two outs at same =
    ap (λ (v : ℕ). handed one calls (slice_set outs call.array (carry_of call.op v))) (same.same call.array call.addr (All-head (λ (c : Call). Place c.array c.addr) call calls at))
    ∙ handed_at Place calls one two (slice_set outs call.array (carry_in two call)) (All-tail (λ (c : Call). Place c.array c.addr) call calls at) same

-- the calls of a packet read the registers at the places of its own calls alone
pub flow_same : {P : Type 0} (Place : ℕ → ℕ → Type 0) (stages : Stages P) (one two : Contents) (packet : P) (n group : ℕ) (outs : List ℕ)
    → ((g : ℕ) (o : List ℕ) → group ≤ g → AreAt Place (stages g packet o)) → SameAt Place one two
    → flow stages one packet n group outs ≡ flow stages two packet n group outs
flow_same Place stages one two packet zero group outs at same = refl
flow_same Place stages one two packet (suc n) group outs at same =
    ap (λ o. stages group packet outs ++ flow stages one packet n (group + 1) o) (handed_at Place (stages group packet outs) one two outs (at group outs (omega arith)) same)
    ∙ ap (λ calls. stages group packet outs ++ calls) (flow_same Place stages one two packet n (group + 1) (handed two (stages group packet outs) outs) (λ g o le. at g o (omega arith)) same)

-- and are at such places
pub flow_at : {P : Type 0} (Place : ℕ → ℕ → Type 0) (stages : Stages P) (contents : Contents) (packet : P) (n group : ℕ) (outs : List ℕ)
    → ((g : ℕ) (o : List ℕ) → group ≤ g → AreAt Place (stages g packet o)) → AreAt Place (flow stages contents packet n group outs)
flow_at Place stages contents packet zero group outs at = All-nil (λ (c : Call). Place c.array c.addr)
flow_at Place stages contents packet (suc n) group outs at =
    All-append (λ (c : Call). Place c.array c.addr) (stages group packet outs) (flow stages contents packet n (group + 1) (handed contents (stages group packet outs) outs))
    (at group outs (omega arith))
    (flow_at Place stages contents packet n (group + 1) (handed contents (stages group packet outs) outs) (λ g o le. at g o (omega arith)))

-- ---- by groups

abbrev pub FromGroup : (ℕ → ℕ) → ℕ → ℕ → ℕ → Type 0
FromGroup group_of low a i = low ≤ group_of a

abbrev pub InGroup : (ℕ → ℕ) → ℕ → ℕ → ℕ → Type 0
InGroup group_of group a i = group_of a ≡ group

pub staged_from : {P : Type 0} (group_of : ℕ → ℕ) (stages : Stages P) (packet : P) (low : ℕ) → AreStaged group_of stages → (g : ℕ) (o : List ℕ) → low ≤ g → AreAt (FromGroup group_of low) (stages g packet o)
staged_from group_of stages packet low staged g o le =
    All-weaker (λ (c : Call). group_of c.array ≡ g) (λ (c : Call). low ≤ group_of c.array) (λ c e. omega arith) (stages g packet o) (staged.there g packet o)

-- calls on different groups may change places
pub groups_commute : (group_of : ℕ → ℕ) (group : ℕ) (here others : List Call) (contents : Contents) → AreAt (InGroup group_of group) here → AreAt (FromGroup group_of (group + 1)) others
    → all_made (all_made contents here) others ≡ all_made (all_made contents others) here
groups_commute group_of group here others contents at off = fun_ext (λ a. fun_ext (λ i.
    ⊎_elim
    (λ (same : group_of a ≡ group).
    all_made_off (FromGroup group_of (group + 1)) others (all_made contents here) a i off (λ le. omega arith)
    ∙ all_made_same here contents (all_made contents others) a i (sym (all_made_off (FromGroup group_of (group + 1)) others contents a i off (λ le. omega arith))))
    (λ (other : group_of a ≢ group).
    all_made_same others (all_made contents here) contents a i (all_made_off (InGroup group_of group) here contents a i at other)
    ∙ sym (all_made_off (InGroup group_of group) here (all_made contents others) a i at other))
    (cases_eq (group_of a) group)))

-- calls on one group leave the later ones, and those on later groups leave it
pub same_after : (group_of : ℕ → ℕ) (group : ℕ) (here : List Call) (contents : Contents) → AreAt (InGroup group_of group) here → SameAt (FromGroup group_of (group + 1)) (all_made contents here) contents
same_after group_of group here contents at = record { same = λ a i le. all_made_off (InGroup group_of group) here contents a i at (λ e. omega arith) }

pub same_before : (group_of : ℕ → ℕ) (group : ℕ) (others : List Call) (contents : Contents) → AreAt (FromGroup group_of (group + 1)) others → SameAt (InGroup group_of group) (all_made contents others) contents
same_before group_of group others contents at = record { same = λ a i e. all_made_off (FromGroup group_of (group + 1)) others contents a i at (λ le. omega arith) }

-- ---- calls by array

-- on one array, the calls on a group and those on later groups stand in either order
pub order_by_array : (group_of : ℕ → ℕ) (group array : ℕ) (here others : List Call) → AreAt (InGroup group_of group) here → AreAt (FromGroup group_of (group + 1)) others
    → filter (is_on array) (here ++ others) ≡ filter (is_on array) (others ++ here)
order_by_array group_of group array here others at off =
    filter-append (is_on array) here others
    ∙ ⊎_elim
    (λ (same : group_of array ≡ group).
    let none : filter (is_on array) others ≡ [] = none_there (FromGroup group_of (group + 1)) array others off (λ i le. omega arith) in
    ap (λ xs. filter (is_on array) here ++ xs) none ∙ append-nil (filter (is_on array) here) ∙ ap (λ xs. xs ++ filter (is_on array) here) (sym none))
    (λ (other : group_of array ≢ group).
    let none : filter (is_on array) here ≡ [] = none_there (InGroup group_of group) array here at (λ i. other) in
    ap (λ xs. xs ++ filter (is_on array) others) none ∙ sym (append-nil (filter (is_on array) others)) ∙ ap (λ xs. filter (is_on array) others ++ xs) (sym none))
    (cases_eq (group_of array) group)
    ∙ sym (filter-append (is_on array) others here)
  where
    none_there : (Place : ℕ → ℕ → Type 0) (array : ℕ) (calls : List Call) → AreAt Place calls → ((i : ℕ) → Place array i → ⊥) → filter (is_on array) calls ≡ []
    none_there Place array [] at off = refl
    none_there Place array (call ∷ calls) at off =
        let miss : is_on array call ≡ false = ⊎_elim (λ (e : call.array ≡ array). absurd (off call.addr (subst (λ x. Place x call.addr) e (All-head (λ (c : Call). Place c.array c.addr) call calls at)))) (λ (ne : call.array ≢ array). grind (arith, nat_tests)) (cases_eq call.array array) in
        ap (λ b. cond b (call ∷ filter (is_on array) calls) (filter (is_on array) calls)) miss
        ∙ none_there Place array calls (All-tail (λ (c : Call). Place c.array c.addr) call calls at) off
