-- Calls that fail by their numbers, counted from 1.
use Rattle.std.specs.Prelude.{ℕ, ◌==◌, Bool, List, if◌then◌else◌}
use Rattle.std.specs.List.{list_any}
use Rattle.outside.specs.Faults.{count_after}

-- the numbers of the calls that fail, how many calls were made, and how many failed
pub record Schedule : Type 0 where
  pub failing : List ℕ
  pub made : ℕ
  pub faults : ℕ

-- before any call
abbrev pub first_schedule : List ℕ → Schedule
first_schedule failing = record { failing = failing; made = 0; faults = 0 }

-- the next call is one of those that fail
abbrev pub fails_next : Schedule → Bool
fails_next schedule = list_any (λ number. number == count_after schedule.made) schedule.failing

-- the schedule after a call that failed, or did not
abbrev pub schedule_after : Bool → Schedule → Schedule
schedule_after failed schedule = record {
  failing = schedule.failing;
  made = count_after schedule.made;
  faults = if failed then count_after schedule.faults else schedule.faults;
}
