-- What the serial run did to the registers of a group, and which of it the packets in flight have done.
use Rattle.std.specs.Prelude.{◌≡◌, ℕ, zero, suc, ◌+◌, ◌<◌, ◌==◌, Bool, if◌then◌else◌, nat_le, List, [], ◌∷◌, ◌++◌, filter, length}
use Rattle.reg_file.specs.declared.traits.Call.{Call}
use Rattle.reg_file.specs.Registers.{Contents}
use Rattle.reg_file.specs.Calls.{all_made}
use Rattle.pipe_core.specs.Flow.{flow}
use Rattle.pipe_flight.specs.Flights.{Flying, calls_next}
use Rattle.pipe_flight.specs.Schedules.{Fill, filled, Step, Serial, serial_after, first_serial, Run, IsRun, ended}
use Rattle.pipe_flight.specs.Schedules.Step.{Enter, Advance, Change, Show}

-- the calls of one packet, or a fill
pub data Item : Type 0 where
  Made : (calls : List Call) → Item
  Filled : (fill : Fill) → Item

-- the items of the serial run, the last first
abbrev pub trace_after : {P : Type 0} → ℕ → List ℕ → Serial P → List Item → Step P → List Item
trace_after count none s trace (Enter packet) = Made (flow s.now s.contents packet count 0 none) ∷ trace
trace_after count none s trace (Advance group) = trace
trace_after count none s trace (Change next fill) = Filled fill ∷ trace
trace_after count none s trace Show = trace

abbrev pub traced : {P : Type 0} → ℕ → List ℕ → Serial P → List Item → List (Step P) → List Item
traced count none s trace [] = trace
traced count none s trace (step ∷ steps) =
    traced count none (serial_after count none s step) (trace_after count none s trace step) steps

abbrev pub trace_of : {P : Type 0} → Run P → List Item
trace_of run = traced run.count run.none (first_serial run.now run.contents) [] run.steps

-- the registers that items leave
abbrev pub play : Contents → List Item → Contents
play start [] = start
play start (Made calls ∷ items) = all_made (play start items) calls
play start (Filled fill ∷ items) = filled fill (play start items)

-- the items without the calls of the last `n` packets
abbrev pub without_last : ℕ → List Item → List Item
without_last zero items = items
without_last (suc n) [] = []
without_last (suc n) (Made calls ∷ items) = without_last n items
without_last (suc n) (Filled fill ∷ items) = Filled fill ∷ without_last (suc n) items

-- how many packets have not passed the group: those that entered last
abbrev pub not_passed : {P : Type 0} → ℕ → List (Flying P) → ℕ
not_passed group [] = 0
not_passed group (one ∷ others) = (if nat_le one.group group then 1 else 0) + not_passed group others

-- the registers of each group are what the serial run's calls and fills leave, without the calls of the packets that
-- have not passed the group
abbrev pub GroupsAgree : {P : Type 0} → (ℕ → ℕ) → ℕ → Contents → List Item → Contents → List (Flying P) → Type 0
GroupsAgree group_of count start trace contents flight =
    (a i : ℕ) → group_of a < count → contents a i ≡ play start (without_last (not_passed (group_of a) flight) trace) a i

abbrev pub KeepsGroupOrder : Type 0 → Type 0
KeepsGroupOrder P = (group_of : ℕ → ℕ) (run : Run P) → IsRun group_of run
    → GroupsAgree group_of run.count run.contents (trace_of run) (ended run).contents (ended run).flight

-- ---- which calls an advance makes

-- the calls of a packet, by how many packets entered after it
abbrev pub calls_from_last : ℕ → List Item → List Call
calls_from_last n [] = []
calls_from_last zero (Made calls ∷ items) = calls
calls_from_last (suc n) (Made calls ∷ items) = calls_from_last n items
calls_from_last n (Filled fill ∷ items) = calls_from_last n items

abbrev pub is_in : (ℕ → ℕ) → ℕ → Call → Bool
is_in group_of group call = group_of call.array == group

-- the calls that a packet makes in its group are those of its calls in the serial run that are on the group's arrays
abbrev pub KeepsPacketCalls : Type 0 → Type 0
KeepsPacketCalls P = (group_of : ℕ → ℕ) (run : Run P) (front : List (Flying P)) (one : Flying P) (back : List (Flying P))
    → IsRun group_of run → (ended run).flight ≡ front ++ one ∷ back
    → calls_next (ended run).rules one ≡ filter (is_in group_of one.group) (calls_from_last (length back) (trace_of run))
