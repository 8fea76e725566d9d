-- Registers of different arrays stand in different places.
use Rattle.std.proofs.Common.{◌≡◌, ◌≢◌, ℕ, ◌+◌, ◌*◌, ◌^◌, ◌<◌, ◌≤◌, List, slice_index, arith}
use Rattle.std.proofs.Math.Logic.{⊎_elim}
use Rattle.std.proofs.lemmas.Bool.{cases_order}
use Rattle.std.proofs.lemmas.Bool.Decides.{nat_tests}
use Rattle.reg_file.specs.Words.{flat}

-- an array ends before the next begins
array_before : (w a b i : ℕ) → i < w → a < b → a * w + i < b * w
array_before w a b i inside less = grind arith

array_after : (w a b i : ℕ) → b < a → b * w + w ≤ a * w + i
array_after w a b i more = grind arith

flat-same : (bits : ℕ) (old new : List ℕ) (a i : ℕ)
    → (i < 2 ^ bits → slice_index new (a * 2 ^ bits + i) ≡ slice_index old (a * 2 ^ bits + i))
    → flat bits new a i ≡ flat bits old a i
flat-same bits old new a i same = grind (arith, nat_tests)

-- where the words before and after those of one array stay, the other arrays stay
pub flat-others : (bits : ℕ) (old new : List ℕ) (array : ℕ)
    → ((k : ℕ) → k < array * 2 ^ bits → slice_index new k ≡ slice_index old k)
    → ((k : ℕ) → array * 2 ^ bits + 2 ^ bits ≤ k → slice_index new k ≡ slice_index old k)
    → (a i : ℕ) → a ≢ array → flat bits new a i ≡ flat bits old a i
flat-others bits old new array before after a i ne = flat-same bits old new a i (λ inside.
    ⊎_elim (λ (e : a ≡ array). absurd (ne e))
    (⊎_elim (λ (less : a < array). before (a * 2 ^ bits + i) (array_before (2 ^ bits) a array i inside less))
    (λ (more : array < a). after (a * 2 ^ bits + i) (array_after (2 ^ bits) a array i more)))
    (cases_order a array))
