-- Worked values of the definitions: packets are addresses, and each makes one call in each of three groups.
use Rattle.std.proofs.Common.{◌≡◌, ℕ, ◌+◌, ◌*◌, false, List, [], ◌∷◌, map, replicate, refl}
use Rattle.stateful_ops.specs.declared.ops.Op.TheVariants.{CondAdd}
use Rattle.reg_file.specs.declared.traits.Call.{Call}
use Rattle.reg_file.specs.Registers.{Contents}
use Rattle.pipe_core.specs.Flow.{Stages}
use Rattle.pipe_flight.specs.Flights.{Flying, drained}
use Rattle.pipe_flight.specs.Schedules.{Fill, Step, Moment, Serial, first_moment, first_serial, ran, ran_serial}
use Rattle.pipe_flight.specs.Traces.{not_passed}
use Rattle.pipe_flight.specs.Schedules.Step.{Enter, Advance, Change, Show}

abbrev counts : Stages ℕ
counts group packet outs = record { array = group; addr = packet; op = CondAdd 1 100 } ∷ []

abbrev nothing : Stages ℕ
nothing group packet outs = []

abbrev zeros : Contents
zeros array addr = 0

abbrev none : List ℕ
none = replicate 3 0

abbrev no_fill : Fill
no_fill = record { test = λ a i. false; value = λ a i. 0 }

-- a call on array 2 at address 1 is 21
abbrev places : List Call → List ℕ
places calls = map (λ (call : Call). 10 * call.array + call.addr) calls

abbrev after : List (Step ℕ) → Moment ℕ
after schedule = ran none (first_moment 3 counts zeros) schedule

abbrev serially : List (Step ℕ) → Serial ℕ
serially schedule = ran_serial 3 none (first_serial counts zeros) schedule

-- ---- two packets, one behind the other

abbrev two : List (Step ℕ)
two = Enter 1 ∷ Advance 0 ∷ Enter 2 ∷ Advance 1 ∷ Advance 0 ∷ []

two_made : places (after two).calls ≡ 1 ∷ 11 ∷ 2 ∷ []
two_made = refl

two_stand : map (λ (one : Flying ℕ). one.group) (after two).flight ≡ 2 ∷ 1 ∷ []
two_stand = refl

two_to_come : places (drained (after two).rules (after two).contents (after two).flight) ≡ 21 ∷ 12 ∷ 22 ∷ []
two_to_come = refl

two_not_passed : map (λ group. not_passed group (after two).flight) (0 ∷ 1 ∷ 2 ∷ []) ≡ 0 ∷ 1 ∷ 2 ∷ []
two_not_passed = refl

-- the first packet's carry of array 1 is kept, that of array 2 has still to come
two_carries : map (λ (one : Flying ℕ). one.outs) (after two).flight ≡ (1 ∷ 1 ∷ 0 ∷ []) ∷ (1 ∷ 0 ∷ 0 ∷ []) ∷ []
two_carries = refl

two_serially : places (serially two).calls ≡ 1 ∷ 11 ∷ 21 ∷ 2 ∷ 12 ∷ 22 ∷ []
two_serially = refl

shown : places (after (Enter 1 ∷ Advance 0 ∷ Enter 2 ∷ Show ∷ [])).calls ≡ 1 ∷ 11 ∷ 21 ∷ 2 ∷ 12 ∷ 22 ∷ []
shown = refl

-- ---- rules change

abbrev changed : List (Step ℕ)
changed = Enter 1 ∷ Advance 0 ∷ Change nothing no_fill ∷ Enter 2 ∷ []

-- the first packet keeps its rules, the second makes no call
changed_to_come : places (drained (after changed).rules (after changed).contents (after changed).flight) ≡ 11 ∷ 21 ∷ []
changed_to_come = refl

-- a second change passes the first packet to the end
changed_again : places (after (Enter 1 ∷ Advance 0 ∷ Change nothing no_fill ∷ Enter 2 ∷ Change counts no_fill ∷ [])).calls ≡ 1 ∷ 11 ∷ 21 ∷ []
changed_again = refl
