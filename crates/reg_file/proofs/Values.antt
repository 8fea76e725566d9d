-- Worked values: the register at a place and the calls that are told.
use Rattle.std.proofs.Common.{◌≡◌, ℕ, List, [], ◌∷◌, None, Some, refl}
use Rattle.stateful_ops.specs.declared.ops.Op.TheVariants.{Or}
use Rattle.reg_file.specs.declared.traits.Call.{Call}
use Rattle.reg_file.specs.Words.{flat}
use Rattle.reg_file.specs.Log.{Log, first_log, told_calls, log_after, log_shaped}

-- two arrays of two registers
abbrev two_arrays : List ℕ
two_arrays = 10 ∷ 11 ∷ 20 ∷ 21 ∷ []

last_register : flat 1 two_arrays 1 1 ≡ 21
last_register = refl

-- an address past its array is no register of the next one
past_the_array : flat 1 two_arrays 0 2 ≡ 0
past_the_array = refl

past_the_file : flat 1 two_arrays 2 0 ≡ 0
past_the_file = refl

-- room for one call
abbrev call : Call
call = record { array = 0; addr = 3; op = Or 1 }

abbrev none_made : Log
none_made = first_log 1

none_told : told_calls none_made ≡ Some []
none_told = refl

one_told : told_calls (log_after none_made call) ≡ Some (call ∷ [])
one_told = refl

-- a shape empties the list and gives no new room
shaped_told : told_calls (log_shaped (log_after none_made call)) ≡ Some []
shaped_told = refl

second_lost : told_calls (log_after (log_shaped (log_after none_made call)) call) ≡ None
second_lost = refl

lost_for_good : told_calls (log_shaped (log_after (log_after none_made call) call)) ≡ None
lost_for_good = refl
