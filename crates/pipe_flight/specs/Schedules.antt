-- Schedules: packets enter and advance and rules change, and beside it the serial run, in which each packet passes all
-- groups as it enters.
use Rattle.std.specs.Prelude.{◌≡◌, ℕ, ◌+◌, ◌<◌, ◌==◌, Bool, false, if◌then◌else◌, List, [], ◌∷◌, ◌++◌, filter, map, fold}
use Rattle.std.specs.List.{All}
use Rattle.outside.specs.Sent.{IsFront}
use Rattle.reg_file.specs.declared.traits.Call.{Call}
use Rattle.reg_file.specs.Registers.{Contents}
use Rattle.reg_file.specs.Calls.{all_made, is_on}
use Rattle.pipe_core.specs.Flow.{Stages, flow}
use Rattle.pipe_flight.specs.Flights.{Flying, Versions, drained, drain, entering, calls_next, moved_on, kept_now, committed}
use Rattle.pipe_flight.specs.Orders.{NobodyAt, if_left, is_old, is_present}

-- values for some registers
pub record Fill : Type 0 where
  pub test : ℕ → ℕ → Bool
  pub value : ℕ → ℕ → ℕ

abbrev pub filled : Fill → Contents → Contents
filled fill contents a i = if fill.test a i then fill.value a i else contents a i

-- a packet enters, or the one before a group passes it; `Change` is a commit and then the change, with the rules that
-- come and what it fills; `Show` passes all to the end
pub data Step (P : Type 0) : Type 0 where
  Enter : (packet : P) → Step P
  Advance : (group : ℕ) → Step P
  Change : (next : Stages P) (fill : Fill) → Step P
  Show : Step P

-- the packets in flight in order of entry, the rules, the registers and the calls made so far
pub record Moment (P : Type 0) : Type 0 where
  pub flight : List (Flying P)
  pub rules : Versions P
  pub contents : Contents
  pub calls : List Call

-- the calls of the packet before the group
abbrev pub calls_of_group : {P : Type 0} → Versions P → ℕ → List (Flying P) → List Call
calls_of_group rules group [] = []
calls_of_group rules group (one ∷ others) =
    if one.group == group then calls_next rules one else calls_of_group rules group others

-- the packet before the group stands before the next, or has left
abbrev pub passed_group : {P : Type 0} → Versions P → Contents → ℕ → List (Flying P) → List (Flying P)
passed_group rules contents group [] = []
passed_group rules contents group (one ∷ others) =
    if one.group == group then if_left rules.count (moved_on rules contents one) ++ others
    else one ∷ passed_group rules contents group others

-- the old packets pass to the end
abbrev pub olds_passed : {P : Type 0} → Moment P → Moment P
olds_passed m = record {
  flight = filter is_present m.flight;
  rules = m.rules;
  contents = drain m.rules m.contents (filter is_old m.flight);
  calls = m.calls ++ drained m.rules m.contents (filter is_old m.flight);
}

abbrev pub moment_after : {P : Type 0} → List ℕ → Moment P → Step P → Moment P
moment_after none m (Enter packet) = record {
  flight = m.flight ++ entering none packet ∷ [];
  rules = m.rules;
  contents = m.contents;
  calls = m.calls;
}
moment_after none m (Advance group) = record {
  flight = passed_group m.rules m.contents group m.flight;
  rules = m.rules;
  contents = all_made m.contents (calls_of_group m.rules group m.flight);
  calls = m.calls ++ calls_of_group m.rules group m.flight;
}
moment_after none m (Change next fill) = record {
  flight = map kept_now (olds_passed m).flight;
  rules = committed m.rules next;
  contents = filled fill (olds_passed m).contents;
  calls = (olds_passed m).calls;
}
moment_after none m Show = record {
  flight = [];
  rules = m.rules;
  contents = drain m.rules m.contents m.flight;
  calls = m.calls ++ drained m.rules m.contents m.flight;
}

-- the serial run so far: the rules, the registers and the calls made
pub record Serial (P : Type 0) : Type 0 where
  pub now : Stages P
  pub contents : Contents
  pub calls : List Call

abbrev pub serial_after : {P : Type 0} → ℕ → List ℕ → Serial P → Step P → Serial P
serial_after count none s (Enter packet) = record {
  now = s.now;
  contents = all_made s.contents (flow s.now s.contents packet count 0 none);
  calls = s.calls ++ flow s.now s.contents packet count 0 none;
}
serial_after count none s (Advance group) = s
serial_after count none s (Change next fill) = record { now = next; contents = filled fill s.contents; calls = s.calls }
serial_after count none s Show = s

-- ---- the conditions of steps

-- the calls are at such places
abbrev pub AreAt : (ℕ → ℕ → Type 0) → List Call → Type 0
AreAt Place calls = All (λ (call : Call). Place call.array call.addr) calls

-- the rules make in a group calls on the group's arrays alone
pub record AreStaged {P : Type 0} (group_of : ℕ → ℕ) (stages : Stages P) : Type 0 where
  pub there : (group : ℕ) (packet : P) (outs : List ℕ) → AreAt (λ a i. group_of a ≡ group) (stages group packet outs)

-- the rules make no call on a register that is filled
abbrev pub Avoids : {P : Type 0} → Stages P → Fill → Type 0
Avoids stages fill = (group : ℕ) (packet : _) (outs : List ℕ) → AreAt (λ a i. fill.test a i ≡ false) (stages group packet outs)

abbrev pub Meets : {P : Type 0} → (ℕ → ℕ) → Moment P → Step P → Type 0
Meets group_of m (Enter packet) = NobodyAt 0 m.flight
Meets group_of m (Advance group) = (NobodyAt group m.flight → ⊥) × NobodyAt (group + 1) m.flight
Meets group_of m (Change next fill) = AreStaged group_of next × Avoids m.rules.now fill
Meets group_of m Show = Unit {0}

-- each step meets its condition when its turn comes
abbrev pub MeetAll : {P : Type 0} → (ℕ → ℕ) → List ℕ → Moment P → List (Step P) → Type 0
MeetAll group_of none m [] = Unit {0}
MeetAll group_of none m (step ∷ steps) = Meets group_of m step × MeetAll group_of none (moment_after none m step) steps

-- ---- whole schedules, from nobody in flight under one set of rules

abbrev pub first_moment : {P : Type 0} → ℕ → Stages P → Contents → Moment P
first_moment count now contents = record {
  flight = [];
  rules = record { count = count; now = now; old = now };
  contents = contents;
  calls = [];
}

abbrev pub first_serial : {P : Type 0} → Stages P → Contents → Serial P
first_serial now contents = record { now = now; contents = contents; calls = [] }

abbrev pub ran : {P : Type 0} → List ℕ → Moment P → List (Step P) → Moment P
ran none m schedule = fold (moment_after none) m schedule

abbrev pub ran_serial : {P : Type 0} → ℕ → List ℕ → Serial P → List (Step P) → Serial P
ran_serial count none s schedule = fold (serial_after count none) s schedule

-- a whole schedule: the carries of a packet that enters, how many groups there are, the first rules and registers, and
-- the steps
pub record Run (P : Type 0) : Type 0 where
  pub none : List ℕ
  pub count : ℕ
  pub now : Stages P
  pub contents : Contents
  pub steps : List (Step P)

abbrev pub ended : {P : Type 0} → Run P → Moment P
ended run = ran run.none (first_moment run.count run.now run.contents) run.steps

abbrev pub ended_serially : {P : Type 0} → Run P → Serial P
ended_serially run = ran_serial run.count run.none (first_serial run.now run.contents) run.steps

-- each step meets its condition, under rules that make in a group calls on the group's arrays alone
pub record IsRun {P : Type 0} (group_of : ℕ → ℕ) (run : Run P) : Type 0 where
  pub some : 0 < run.count
  pub staged : AreStaged group_of run.now
  pub meets : MeetAll group_of run.none (first_moment run.count run.now run.contents) run.steps

-- on each array the calls so far are a front of the serial ones; once nobody is in flight they are equal, and so are
-- the registers
pub record SerialOrder {P : Type 0} (m : Moment P) (s : Serial P) : Type 0 where
  pub front : (array : ℕ) → IsFront (filter (is_on array) m.calls) (filter (is_on array) s.calls)
  pub drained_is : drain m.rules m.contents m.flight ≡ s.contents
  pub calls_at_end : m.flight ≡ [] → (array : ℕ) → filter (is_on array) m.calls ≡ filter (is_on array) s.calls
  pub contents_at_end : m.flight ≡ [] → m.contents ≡ s.contents

abbrev pub KeepsSerialOrder : Type 0 → Type 0
KeepsSerialOrder P = (group_of : ℕ → ℕ) (run : Run P) → IsRun group_of run → SerialOrder (ended run) (ended_serially run)
