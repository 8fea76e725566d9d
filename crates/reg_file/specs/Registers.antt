-- The contents of a register file are a function of array and address.
use Rattle.std.specs.Prelude.{◌≡◌, ◌≢◌, ℕ, ◌+◌, ◌^◌, ◌<◌, ◌≤◌, Result, Ok, Err, OnOk}
use Rattle.stateful_ops.specs.declared.ops.Op.{Op}
use Rattle.stateful_ops.specs.Ops.{new_register, carry_of}

-- the register at each array and address
abbrev pub Contents : Type 0
Contents = ℕ → ℕ → ℕ

-- how many arrays, and the bits of an address
pub record Dims : Type 0 where
  pub arrays : ℕ
  pub bits : ℕ

-- how many arrays a file may be given, and how many bits of an address
pub record IsShape (arrays bits : ℕ) : Type 0 where
  pub some : 1 ≤ arrays
  pub most_arrays : arrays ≤ 48
  pub least_bits : 5 ≤ bits
  pub most_bits : bits ≤ 20

-- what `shape` leaves: a file that it refused has no arrays
abbrev pub shaped_dims : {T E : Type 0} → ℕ → ℕ → Result T E → Dims
shaped_dims arrays bits (Ok x) = record { arrays = arrays; bits = bits }
shaped_dims arrays bits (Err e) = record { arrays = 0; bits = bits }

-- the register exists
pub record InFile (dims : Dims) (array addr : ℕ) : Type 0 where
  pub in_arrays : array < dims.arrays
  pub in_array : addr < 2 ^ dims.bits

-- each of the `len` registers from `base` exists
pub record InRange (dims : Dims) (array base len : ℕ) : Type 0 where
  pub in_arrays : array < dims.arrays
  pub in_array : base + len ≤ 2 ^ dims.bits

abbrev pub AreZero : Contents → Type 0
AreZero regs = (array addr : ℕ) → regs array addr ≡ 0

-- one register changed, to what the operation makes of it, and its carry was answered
pub record MakesCall (array addr : ℕ) (op : Op) (answer : ℕ) (old new : Contents) : Type 0 where
  pub here : new array addr ≡ new_register op (old array addr)
  pub carry : answer ≡ carry_of op (old array addr)
  pub arrays : (a i : ℕ) → a ≢ array → new a i ≡ old a i
  pub others : (i : ℕ) → i ≢ addr → new array i ≡ old array i

-- the registers of the range hold the value, unless the call was refused, and all others stay
pub record MakesFill {T E : Type 0} (array base len value : ℕ) (result : Result T E) (old new : Contents) : Type 0 where
  pub here : OnOk result ((i : ℕ) → base ≤ i → i < base + len → new array i ≡ value)
  pub arrays : (a i : ℕ) → a ≢ array → new a i ≡ old a i
  pub below : (i : ℕ) → i < base → new array i ≡ old array i
  pub above : (i : ℕ) → base + len ≤ i → new array i ≡ old array i
