-- Each object of the outside counts its faults. The count never falls, and a call fails only where it rose.
use Rattle.std.specs.Prelude.{ℕ, ◌+◌, ◌-◌, ◌^◌, ◌≤◌, min, Result, Ok, Err, OnErr}

-- a counter of 64 bits after one more: it stands still at its last value
abbrev pub count_after : ℕ → ℕ
count_after n = min (n + 1) (2 ^ 64 - 1)

-- the count rose, or stands at its last value
abbrev pub Rose : ℕ → ℕ → Type 0
Rose before now = count_after before ≤ now

-- the count did not fall, and where the call failed it rose
pub record HasCause {T E : Type 0} (before now : ℕ) (result : Result T E) : Type 0 where
  pub later : before ≤ now
  pub failed : OnErr result (Rose before now)

-- the count of an object that counts each call that failed once, and no other
abbrev pub faults_after : {T E : Type 0} → Result T E → ℕ → ℕ
faults_after (Ok x) before = before
faults_after (Err e) before = count_after before
