-- Worked values: the bits of sizes, and the live rows of an array.
use Rattle.std.proofs.Common.{◌≡◌, ℕ, List, [], ◌∷◌, refl}
use Rattle.std.specs.Prelude.{None}
use Rattle.group_keys.specs.declared.uses.KeyUse.TheVariants.{Single}
use Rattle.switch_model.specs.Records.{Row, Outline}
use Rattle.readout.specs.PlacedTasks.{no_task}
use Rattle.rule_txn.specs.Seen.{bits_in, rows_on}

smallest : bits_in 1 ≡ 0
smallest = refl

sixteen : bits_in 16 ≡ 4
sixteen = refl

greatest : bits_in 1048576 ≡ 20
greatest = refl

abbrev row_at : ℕ → ℕ → Row
row_at array base = record { array = array; region = record { base = base; bits = 4 }; keys = Single 0; masks = []; frozen = None }

-- one row on array 0, and one on each of the arrays 0 and 1
abbrev two_tasks : List Outline
two_tasks =
    record { task = no_task; frozen = None; rows = row_at 0 0 ∷ [] }
    ∷ record { task = no_task; frozen = None; rows = row_at 0 16 ∷ row_at 1 0 ∷ [] } ∷ []

first_array : rows_on two_tasks 0 ≡ 2
first_array = refl

second_array : rows_on two_tasks 1 ≡ 1
second_array = refl

other_array : rows_on two_tasks 2 ≡ 0
other_array = refl
