-- What calls leave, one after another, and calls on other arrays.
use Rattle.std.proofs.Common.{◌≡◌, ◌≢◌, ℕ, Bool, true, false, List, [], ◌∷◌, ◌++◌, get_or, refl, ap, ap₂, sym, ◌∙◌, arith, eq-eqb, ⊎_elim}
use Rattle.std.specs.Prelude.{◌||◌, ◌==◌, Option, slice_set}
use Rattle.std.specs.List.{list_any, All}
use Rattle.std.proofs.Math.Path.{fun_ext}
use Rattle.std.proofs.lemmas.Bool.{cases_eq, false≢true}
use Rattle.std.proofs.lemmas.Bool.Decides.{nat_tests}
use Rattle.std.proofs.lemmas.List.{get_or-set_other}
use Rattle.std.proofs.lemmas.List.Elements.{All-head, All-tail}
use Rattle.std.proofs.lemmas.List.Sums.{fold-append}
use Rattle.std.proofs.lemmas.List.Folds.{list_any-append}
use Rattle.outside.specs.Told.{Told, Stays, Grows}
use Rattle.outside.proofs.ToldLemmas.{told_then, told_weaker, grows_then, grows_none}
use Rattle.stateful_ops.specs.declared.ops.Op.{Op}
use Rattle.stateful_ops.specs.Ops.{carry_of}
use Rattle.reg_file.specs.declared.traits.Call.{Call}
use Rattle.reg_file.specs.Registers.{Contents, MakesCall}
use Rattle.reg_file.specs.Calls.{made, all_made, carry_in, handed, is_on, Makes}

-- ---- one call

-- what one call of the trait leaves, as a function of what was
pub made_by_call : (array addr : ℕ) (op : Op) (answer : ℕ) (old new : Contents) → MakesCall array addr op answer old new
    → new ≡ made old (let call : Call = record { array = array; addr = addr; op = op } in call)
made_by_call array addr op answer old new m = fun_ext (λ a. fun_ext (λ i.
    ⊎_elim
    (λ (same : a ≡ array).
    ⊎_elim
    (λ (here : i ≡ addr). grind (arith, nat_tests, m.here))
    (λ (other : i ≢ addr). grind (arith, nat_tests, m.others i other))
    (cases_eq i addr))
    (λ (other : a ≢ array). grind (arith, nat_tests, m.arrays a i other))
    (cases_eq a array)))

-- a call elsewhere leaves the register
pub made_elsewhere : (contents : Contents) (call : Call) (a i : ℕ) → call.array ≢ a → made contents call a i ≡ contents a i
made_elsewhere contents call a i other = grind (arith, nat_tests)

-- ---- calls on other arrays

pub or_false : (a b : Bool) → (a || b) ≡ false → (a ≡ false) × (b ≡ false)
or_false true b e = absurd (cc)
or_false false b e = (refl, e)

-- calls elsewhere leave the array
pub all_made_elsewhere : (contents : Contents) (calls : List Call) (a i : ℕ) → list_any (is_on a) calls ≡ false
    → all_made contents calls a i ≡ contents a i
all_made_elsewhere contents [] a i e = refl
all_made_elsewhere contents (call ∷ calls) a i e = by (all_made_elsewhere (made contents call) calls a i) (is_on a call) refl e where
  by : (list_any (is_on a) calls ≡ false → all_made (made contents call) calls a i ≡ made contents call a i)
      → (b : Bool) → is_on a call ≡ b → (b || list_any (is_on a) calls) ≡ false → all_made (made contents call) calls a i ≡ contents a i
  by rest true q f = absurd (cc)
  by rest false q f = rest f ∙ made_elsewhere contents call a i (λ s. false≢true (sym q ∙ eq-eqb call.array a s))

-- the other calls are on arrays on which none of these is
abbrev pub AreElsewhere : List Call → List Call → Type 0
AreElsewhere calls others = All (λ (other : Call). list_any (is_on other.array) calls ≡ false) others

pub elsewhere_same : (contents : Contents) (calls others : List Call) → AreElsewhere calls others
    → All (λ (call : Call). all_made contents calls call.array call.addr ≡ contents call.array call.addr) others
elsewhere_same contents calls others apart k d within =
    all_made_elsewhere contents calls (get_or others k d).array (get_or others k d).addr (apart k d within)

-- registers that are equal where the calls are made give equal carries
pub handed_same : (one two : Contents) (calls : List Call) (outs : List ℕ)
    → All (λ (call : Call). one call.array call.addr ≡ two call.array call.addr) calls → handed one calls outs ≡ handed two calls outs
handed_same one two [] outs same = refl
handed_same one two (call ∷ calls) outs same =
    let Same : Call → Type 0 = λ (c : Call). one c.array c.addr ≡ two c.array c.addr in
    ap (λ (value : ℕ). handed one calls (slice_set outs call.array (carry_of call.op value))) (All-head Same call calls same)
    ∙ handed_same one two calls (slice_set outs call.array (carry_in two call)) (All-tail Same call calls same)

-- ---- what was made

-- no call, and what is told stays
pub makes_none : (outs : List ℕ) (contents new_contents : Option Contents) (list new_list : Option (List Call))
    → Stays contents new_contents → Stays list new_list → Makes [] outs outs contents new_contents list new_list
makes_none outs contents new_contents list new_list same same_list = record {
  joined = grows_none list new_list same_list;
  stays = λ array e. refl;
  told = told_weaker contents new_contents (λ x y p. (p, refl)) same;
}

-- one call
pub makes_one : (array addr answer : ℕ) (op : Op) (outs : List ℕ) (contents new_contents : Option Contents) (list new_list : Option (List Call))
    → Told (MakesCall array addr op answer) contents new_contents
    → (let call : Call = record { array = array; addr = addr; op = op } in Grows list (call ∷ []) new_list)
    → (let call : Call = record { array = array; addr = addr; op = op } in Makes (call ∷ []) outs (slice_set outs array answer) contents new_contents list new_list)
makes_one array addr answer op outs contents new_contents list new_list makes joins = record {
  joined = joins;
  stays = λ b e. get_or-set_other outs array b answer 0 (λ (same : b ≡ array). false≢true (sym (or_false (array == b) false e).0 ∙ eq-eqb array b (sym same)));
  told = told_weaker contents new_contents (λ x y m. (made_by_call array addr op answer x y m, ap (slice_set outs array) m.carry)) makes;
}

-- calls, and then others on other arrays
pub makes_then : (one two : List Call) (outs mid_outs new_outs : List ℕ) (contents mid_contents new_contents : Option Contents) (list mid_list new_list : Option (List Call))
    → AreElsewhere one two
    → Makes one outs mid_outs contents mid_contents list mid_list
    → Makes two mid_outs new_outs mid_contents new_contents mid_list new_list
    → Makes (one ++ two) outs new_outs contents new_contents list new_list
makes_then one two outs mid_outs new_outs contents mid_contents new_contents list mid_list new_list apart m n = record {
  joined = grows_then list mid_list new_list one two m.joined n.joined;
  stays = λ array e.
      let parts = or_false (list_any (is_on array) one) (list_any (is_on array) two) (sym (list_any-append (is_on array) one two) ∙ e) in
      n.stays array parts.1 ∙ m.stays array parts.0;
  told = told_then contents mid_contents new_contents (λ x y z p q. (
    q.0 ∙ ap (λ (c : Contents). all_made c two) p.0 ∙ sym (fold-append made x one two),
    q.1 ∙ ap₂ (λ (c : Contents) (o : List ℕ). handed c two o) p.0 p.1
        ∙ handed_same (all_made x one) x two (handed x one outs) (elsewhere_same x one two apart)
        ∙ sym (fold-append (λ outs (call : Call). slice_set outs call.array (carry_in x call)) outs one two),
  )) m.told n.told;
}

-- ---- what was made over registers that are told
