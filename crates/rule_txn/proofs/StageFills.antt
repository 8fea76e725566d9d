-- Partitions that are filled one after another.
use Rattle.std.proofs.Common.{◌≡◌, ℕ, Bool, true, false, List, [], ◌∷◌, length, get_or, refl, ◌∙◌, subst, arith}
use Rattle.std.specs.Prelude.{◌||◌, Option, None, Some, Result, Ok, Err, OnOk}
use Rattle.outside.specs.Told.{Told}
use Rattle.reg_file.specs.Registers.{Contents}
use Rattle.rule_txn.specs.State.{Lent}
use Rattle.rule_txn.specs.Fills.{is_in_lease, is_leased, Fills}

fills_two : {T U E : Type 0} (x : Option Lent) (xs : List (Option Lent)) (v : ℕ) (u : T) (r : Result U E) (a b c : Contents)
    → Fills {T = T} {E = E} (x ∷ []) v (Ok u) a b → Fills {T = U} {E = E} xs v r b c → Fills {T = U} {E = E} (x ∷ xs) v r a c
fills_two {T} {U} {E} x xs v u r a b c one two = record {
  filled = by r two.filled;
  others = λ array i h. (let both = parts (is_in_lease array i x) (is_leased xs array i) h in
      two.others array i both.1 ∙ one.others array i (none (is_in_lease array i x) both.0));
}
  where
    parts : (p q : Bool) → (p || q) ≡ false → (p ≡ false) × (q ≡ false)
    parts true q h = absurd (cc)
    parts false q h = (refl, h)

    none : (p : Bool) → p ≡ false → (p || false) ≡ false
    none true h = h
    none false h = refl

    some : (p : Bool) → (p || false) ≡ p
    some true = refl
    some false = refl

    cell : ((array i : ℕ) → is_leased xs array i ≡ true → c array i ≡ v)
        → (array i : ℕ) (p q : Bool) → is_in_lease array i x ≡ p → is_leased xs array i ≡ q → (p || q) ≡ true → c array i ≡ v
    cell more array i p true e f h = more array i f
    cell more array i true false e f h = two.others array i f ∙ one.filled array i (some (is_in_lease array i x) ∙ e)
    cell more array i false false e f h = absurd (cc)

    by : (s : Result U E) → OnOk s ((array i : ℕ) → is_leased xs array i ≡ true → c array i ≡ v)
        → OnOk s ((array i : ℕ) → is_leased (x ∷ xs) array i ≡ true → c array i ≡ v)
    by (Ok t) more = λ array i h. cell more array i (is_in_lease array i x) (is_leased xs array i) refl refl h
    by (Err e) more = tt

pub fills_more : {T U E : Type 0} (x : Option Lent) (xs : List (Option Lent)) (v : ℕ) (first : Result T E) (u : T) (r : Result U E) (a b c : Option Contents)
    → first ≡ Ok u → Told (Fills {T = T} {E = E} (x ∷ []) v first) a b → Told (Fills {T = U} {E = E} xs v r) b c
    → Told (Fills {T = U} {E = E} (x ∷ xs) v r) a c
fills_more {T} {U} {E} x xs v first u r a b c ok = by a b c
  where
    by : (a b c : Option Contents) → Told (Fills {T = T} {E = E} (x ∷ []) v first) a b → Told (Fills {T = U} {E = E} xs v r) b c
        → Told (Fills {T = U} {E = E} (x ∷ xs) v r) a c
    by a b None one two = tt
    by a None (Some z) one two = absurd two
    by None (Some y) (Some z) one two = absurd one
    by (Some w) (Some y) (Some z) one two = fills_two x xs v u r w y z (subst (λ s. Fills {T = T} {E = E} (x ∷ []) v s w y) ok one) two

pub four_is : {X : Type 0} (xs : List X) (one two three four : X) → length xs ≡ 4
    → xs ≡ get_or xs 0 one ∷ get_or xs 1 two ∷ get_or xs 2 three ∷ get_or xs 3 four ∷ []
four_is [] one two three four e = absurd (omega arith)
four_is (a ∷ []) one two three four e = absurd (omega arith)
four_is (a ∷ b ∷ []) one two three four e = absurd (omega arith)
four_is (a ∷ b ∷ c ∷ []) one two three four e = absurd (omega arith)
four_is (a ∷ b ∷ c ∷ d ∷ []) one two three four e = refl
four_is (a ∷ b ∷ c ∷ d ∷ x ∷ xs) one two three four e = absurd (omega arith)
