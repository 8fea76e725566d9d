-- Worked values: the calls that fail.
use Rattle.std.proofs.Common.{◌≡◌, ◌-◌, ◌^◌, [], ◌∷◌, true, false, refl}
use Rattle.outside.specs.Schedule.{Schedule, first_schedule, fails_next, schedule_after}

-- the second call fails
abbrev second_fails : Schedule
second_fails = first_schedule (2 ∷ [])

first_call : fails_next second_fails ≡ false
first_call = refl

second_call : fails_next (schedule_after false second_fails) ≡ true
second_call = refl

second_counted : schedule_after true (schedule_after false second_fails)
    ≡ record { failing = 2 ∷ []; made = 2; faults = 1 }
second_counted = refl

third_call : fails_next (schedule_after true (schedule_after false second_fails)) ≡ false
third_call = refl

-- both counters stand still at their last value
abbrev at_the_end : Schedule
at_the_end = record { failing = (2 ^ 64 - 1) ∷ []; made = 2 ^ 64 - 1; faults = 2 ^ 64 - 1 }

stays_at_the_end : schedule_after true at_the_end ≡ at_the_end
stays_at_the_end = refl

fails_at_the_end : fails_next at_the_end ≡ true
fails_at_the_end = refl
