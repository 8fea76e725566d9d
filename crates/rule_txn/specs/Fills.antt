-- Registers that a change fills.
use Rattle.std.specs.Prelude.{◌≡◌, ℕ, ◌^◌, Bool, true, false, List, [], ◌∷◌, Option, None, Some, Result, Ok, Err, OnOk}
use Rattle.std.specs.List.{list_any}
use Rattle.reg_file.specs.Registers.{Contents, Dims, InRange}
use Rattle.switch_model.specs.Sights.{Holding}
use Rattle.switch_model.specs.Changes.{Refusal, Edit}
use Rattle.switch_model.specs.Laws.{is_in, fresh_of, start_in, Refilled}
use Rattle.rule_txn.specs.State.{Lent}

-- ---- the partitions of leases

abbrev pub holding_of : Lent → Holding
holding_of lease = record { array = lease.pool; region = lease.region }

abbrev pub is_in_lease : ℕ → ℕ → Option Lent → Bool
is_in_lease array addr None = false
is_in_lease array addr (Some lease) = is_in array addr (holding_of lease)

-- the register stands in the region of one of these leases
abbrev pub is_leased : List (Option Lent) → ℕ → ℕ → Bool
is_leased leases array addr = list_any (is_in_lease array addr) leases

-- the registers of the leases hold the value, unless it was refused, and all others stay
pub record Fills {T E : Type 0} (leases : List (Option Lent)) (value : ℕ) (result : Result T E) (old new : Contents) : Type 0 where
  pub filled : OnOk result ((array addr : ℕ) → is_leased leases array addr ≡ true → new array addr ≡ value)
  pub others : (array addr : ℕ) → is_leased leases array addr ≡ false → new array addr ≡ old array addr

abbrev pub IsInFile : Dims → Option Lent → Type 0
IsInFile dims None = Unit {0}
IsInFile dims (Some lease) = InRange dims lease.pool lease.region.base (2 ^ lease.region.bits)

abbrev pub AreInFile : Dims → List (Option Lent) → Type 0
AreInFile dims [] = Unit {0}
AreInFile dims (lease ∷ rest) = IsInFile dims lease × AreInFile dims rest

-- ---- a change

-- no register outside these regions changed
abbrev pub StayOutside : List Holding → Contents → Contents → Type 0
StayOutside fresh old new = (array addr : ℕ) → list_any (is_in array addr) fresh ≡ false → new array addr ≡ old array addr

-- A change that is made fills the regions that it takes with the start value, and no other register changes; where the
-- register file refused, no register outside them; and where the tasks refused, none.
abbrev pub Refills : {T F : Type 0} → Result Edit Refusal → Result T F → Contents → Contents → Type 0
Refills (Ok edit) (Ok t) old new = Refilled (fresh_of edit) (start_in edit) old new
Refills (Ok edit) (Err fault) old new = StayOutside (fresh_of edit) old new
Refills (Err why) result old new = StayOutside [] old new
