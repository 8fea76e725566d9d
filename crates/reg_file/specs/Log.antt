-- A list of calls that is told while there is room.
use Rattle.std.specs.Prelude.{ℕ, List, [], ◌∷◌, ◌++◌, Option, None, Some, nat_lt, nat_le, if◌then◌else◌}
use Rattle.reg_file.specs.declared.traits.Call.{Call}
use Rattle.outside.specs.Faults.{count_after}

-- how many calls may be told, how many were made, and those since the last shape
pub record Log : Type 0 where
  pub room : ℕ
  pub made : ℕ
  pub list : List Call

-- before any call
abbrev pub first_log : ℕ → Log
first_log room = record { room = room; made = 0; list = [] }

-- the list is told until more calls were made than there is room for
abbrev pub told_calls : Log → Option (List Call)
told_calls log = if nat_le log.made log.room then Some log.list else None

-- the log after a call
abbrev pub log_after : Log → Call → Log
log_after log call = record {
  room = log.room;
  made = count_after log.made;
  list = if nat_lt log.made log.room then log.list ++ call ∷ [] else log.list;
}

-- the log after a shape: the calls made before it still count
abbrev pub log_shaped : Log → Log
log_shaped log = record { room = log.room; made = log.made; list = [] }
