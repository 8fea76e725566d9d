-- What clauses see of a `Flight`, and how an advance changes it.
use Rattle.std.specs.Prelude.{◌≡◌, ℕ, ◌+◌, ◌≤◌, true, List, [], ◌∷◌, ◌++◌, filter, map, length, Option}
use Rattle.reg_file.specs.declared.traits.Call.{Call}
use Rattle.reg_file.specs.Registers.{Contents}
use Rattle.reg_file.specs.Calls.{Makes, all_made}
use Rattle.pkt_headers.specs.declared.packets.Packet.{Packet}
use Rattle.pipe_core.specs.Rules.{Rules}
use Rattle.pipe_core.specs.Flow.{stages_in}
use Rattle.pipe_flight.specs.Flights.{Flying, Versions, drain, calls_next}
use Rattle.pipe_flight.specs.Orders.{IsFlight, if_left, is_old, is_present}
use Rattle.pipe_flight.specs.Schedules.{calls_of_group, passed_group}
use Rattle.pipe_flight.specs.declared.waiting.Waiting.{Waiting}

-- the packets in order of entry, and the old rules
pub record FlightState : Type 0 where
  pub flight : List (Flying Packet)
  pub before : Rules

abbrev pub flying : Waiting → Flying Packet
flying one = record { packet = one.packet; group = one.group; kept = one.kept; outs = one.outs.carry }

abbrev pub state_of : List Waiting → Rules → FlightState
state_of waiting before = record { flight = map flying waiting; before = before }

abbrev pub group_count : Rules → ℕ
group_count rules = length rules.geometry.groups

-- the order holds, there is a group, and there is room for a packet before each
pub record IsKept (state : FlightState) (room : ℕ) : Type 0 where
  pub in_order : IsFlight (group_count state.before) state.flight
  pub some : 1 ≤ group_count state.before
  pub has_room : group_count state.before ≤ room

-- the rules of now and the old ones
abbrev pub versions : Rules → Rules → Versions Packet
versions now before = record { count = group_count now; now = stages_in now; old = stages_in before }

-- the registers after all packets in flight have passed to the end, under these rules of now
abbrev pub drain_of : FlightState → Rules → Contents → Contents
drain_of state now contents = drain (versions now state.before) contents state.flight

-- the packet before the group with these carries, before the next
abbrev pub moved_with : Flying Packet → List ℕ → Flying Packet
moved_with one outs = record { packet = one.packet; group = one.group + 1; kept = one.kept; outs = outs }

-- the packet before the group makes the calls of the group, and stands before the next or has left
pub record MovesOn (rules : Versions Packet) (group : ℕ) (flight new_flight : List (Flying Packet)) (contents new_contents : Option Contents) (list new_list : Option (List Call)) : Type 0 where
  pub front : List (Flying Packet)
  pub one : Flying Packet
  pub back : List (Flying Packet)
  pub split : flight ≡ front ++ one ∷ back
  pub here : one.group ≡ group
  pub outs : List ℕ
  pub new_split : new_flight ≡ front ++ (if_left rules.count (moved_with one outs) ++ back)
  pub makes : Makes (calls_next rules one) one.outs outs contents new_contents list new_list

-- that is a step of a schedule
pub record IsAdvance (rules : Versions Packet) (group : ℕ) (flight new_flight : List (Flying Packet)) (old now : Contents) : Type 0 where
  pub flight_is : new_flight ≡ passed_group rules old group flight
  pub contents_are : now ≡ all_made old (calls_of_group rules group flight)

-- ---- of packets as the code keeps them

-- the packet is old
abbrev pub kept_waiting : Waiting → Waiting
kept_waiting one = record { packet = one.packet; group = one.group; kept = true; outs = one.outs }

-- no packet is old
pub record NoOld (flight : List (Flying Packet)) : Type 0 where
  pub olds : filter is_old flight ≡ []
  pub presents : filter is_present flight ≡ flight
