-- What calls of `rmw` leave in the registers, and the carries that they hand on. Carries stand in a list, by array.
use Rattle.std.specs.Prelude.{◌≡◌, ℕ, ◌==◌, ◌&&◌, Bool, false, if◌then◌else◌, List, fold, slice_set, slice_index, Option}
use Rattle.std.specs.List.{list_any}
use Rattle.outside.specs.Told.{Told, Grows}
use Rattle.stateful_ops.specs.Ops.{new_register, carry_of}
use Rattle.reg_file.specs.declared.traits.Call.{Call}
use Rattle.reg_file.specs.Registers.{Contents}

-- the registers after one call
abbrev pub made : Contents → Call → Contents
made contents call array addr =
    if call.array == array && call.addr == addr then new_register call.op (contents array addr) else contents array addr

-- the registers after these calls
abbrev pub all_made : Contents → List Call → Contents
all_made contents calls = fold made contents calls

-- the carry that a call gives over these registers
abbrev pub carry_in : Contents → Call → ℕ
carry_in contents call = carry_of call.op (contents call.array call.addr)

-- the carries after these calls, each made over these same registers: a call's carry stands at its array
abbrev pub handed : Contents → List Call → List ℕ → List ℕ
handed contents calls outs = fold (λ outs (call : Call). slice_set outs call.array (carry_in contents call)) outs calls

abbrev pub is_on : ℕ → Call → Bool
is_on array call = call.array == array

-- these calls, on different arrays, were made: they joined the list, and where the registers are told, each left what
-- its operation makes of its register; its carry stands at its array, and all other carries stay
pub record Makes (calls : List Call) (outs new_outs : List ℕ) (contents new_contents : Option Contents) (list new_list : Option (List Call)) : Type 0 where
  pub joined : Grows list calls new_list
  pub stays : (array : ℕ) → list_any (is_on array) calls ≡ false → slice_index new_outs array ≡ slice_index outs array
  pub told : Told (λ old now. (now ≡ all_made old calls) × (new_outs ≡ handed old calls outs)) contents new_contents

-- calls were made: where the registers are told, they are those wanted over them, and the registers are what they leave
pub record MakesOver (wanted : Contents → List Call) (contents new_contents : Option Contents) (list new_list : Option (List Call)) : Type 0 where
  pub calls : List Call
  pub joined : Grows list calls new_list
  pub told : Told (λ old now. (calls ≡ wanted old) × (now ≡ all_made old calls)) contents new_contents
