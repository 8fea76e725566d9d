-- Elements in four slots.
use Rattle.std.proofs.Common.{◌≡◌, ℕ, ◌≤◌, List, [], ◌∷◌, ◌++◌, length, refl, ap, ◌∙◌, append_assoc, arith}
use Rattle.std.specs.Prelude.{Option, None, Some, slice_get}
use Rattle.group_keys.specs.Units.{UsedUnit, mask_of}
use Rattle.switch_model.specs.Records.{Row}
use Rattle.switch_model.specs.Changes.{mask_in}
use Rattle.rule_txn.specs.State.{there}
use Rattle.rule_txn.specs.Stages.{arrays_there}

pub there_all : {X : Type 0} (xs : List X) → length xs ≤ 4
    → there (slice_get xs 0 ∷ slice_get xs 1 ∷ slice_get xs 2 ∷ slice_get xs 3 ∷ []) ≡ xs
there_all [] few = refl
there_all (a ∷ []) few = refl
there_all (a ∷ b ∷ []) few = refl
there_all (a ∷ b ∷ c ∷ []) few = refl
there_all (a ∷ b ∷ c ∷ d ∷ []) few = refl
there_all (a ∷ b ∷ c ∷ d ∷ x ∷ xs) few = absurd (omega arith)

pub some_mask : (key : List ℕ) (unit : Option UsedUnit) (mask : List ℕ) → Some mask ≡ mask_of unit → mask ≡ mask_in key unit
some_mask key None mask e = absurd (cc)
some_mask key (Some used) mask e = cc

pub no_mask : (key : List ℕ) (unit : Option UsedUnit) → None ≡ mask_of unit → key ≡ mask_in key unit
no_mask key None e = refl
no_mask key (Some used) e = absurd (cc)

first_there : (row : Option Row) (rows : List (Option Row)) → arrays_there (row ∷ []) ++ arrays_there rows ≡ arrays_there (row ∷ rows)
first_there None rows = refl
first_there (Some row) rows = refl

pub there_four : (one two three four : Option Row)
    → ((([] ++ arrays_there (one ∷ [])) ++ arrays_there (two ∷ [])) ++ arrays_there (three ∷ [])) ++ arrays_there (four ∷ [])
    ≡ arrays_there (one ∷ two ∷ three ∷ four ∷ [])
there_four one two three four =
    let a = arrays_there (one ∷ []) in
    let b = arrays_there (two ∷ []) in
    let c = arrays_there (three ∷ []) in
    let d = arrays_there (four ∷ []) in
    append_assoc (a ++ b) c d
    ∙ append_assoc a b (c ++ d)
    ∙ ap (λ xs. a ++ (b ++ xs)) (first_there three (four ∷ []))
    ∙ ap (λ xs. a ++ xs) (first_there two (three ∷ four ∷ []))
    ∙ first_there one (two ∷ three ∷ four ∷ [])

pub few_there : (row : Option Row) → length (arrays_there (row ∷ [])) ≤ 1
few_there None = omega arith
few_there (Some row) = omega arith
