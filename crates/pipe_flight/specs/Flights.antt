-- Packets that stand before different groups at once, and what they have still to do.
use Rattle.std.specs.Prelude.{ℕ, ◌+◌, ◌-◌, Bool, false, true, if◌then◌else◌, List, [], ◌∷◌, ◌++◌}
use Rattle.reg_file.specs.declared.traits.Call.{Call}
use Rattle.reg_file.specs.Registers.{Contents}
use Rattle.reg_file.specs.Calls.{all_made, handed}
use Rattle.pipe_core.specs.Flow.{Stages, flow}

-- a packet in flight: the group before which it stands, whether it keeps the old rules, and its carries by array
pub record Flying (P : Type 0) : Type 0 where
  pub packet : P
  pub group : ℕ
  pub kept : Bool
  pub outs : List ℕ

-- two sets of rules over so many groups: those of now, and those before the last change
pub record Versions (P : Type 0) : Type 0 where
  pub count : ℕ
  pub now : Stages P
  pub old : Stages P

-- a packet that enters
abbrev pub entering : {P : Type 0} → List ℕ → P → Flying P
entering none packet = record { packet = packet; group = 0; kept = false; outs = none }

-- the rules that a packet meets
abbrev pub stages_of : {P : Type 0} → Versions P → Flying P → Stages P
stages_of rules one = if one.kept then rules.old else rules.now

-- the calls that a packet makes in the group before which it stands
abbrev pub calls_next : {P : Type 0} → Versions P → Flying P → List Call
calls_next rules one = stages_of rules one one.group one.packet one.outs

-- the packet before the next group, with what these calls handed on
abbrev pub moved_on : {P : Type 0} → Versions P → Contents → Flying P → Flying P
moved_on rules contents one = record {
  packet = one.packet;
  group = one.group + 1;
  kept = one.kept;
  outs = handed contents (calls_next rules one) one.outs;
}

-- the calls that a packet has still to make, over these registers
abbrev pub rest_of : {P : Type 0} → Versions P → Contents → Flying P → List Call
rest_of rules contents one = flow (stages_of rules one) contents one.packet (rules.count - one.group) one.group one.outs

-- those of all packets in flight, one packet after the other
abbrev pub drained : {P : Type 0} → Versions P → Contents → List (Flying P) → List Call
drained rules contents [] = []
drained rules contents (one ∷ others) =
    rest_of rules contents one ++ drained rules (all_made contents (rest_of rules contents one)) others

-- the registers after that
abbrev pub drain : {P : Type 0} → Versions P → Contents → List (Flying P) → Contents
drain rules contents flight = all_made contents (drained rules contents flight)

-- ---- rules change

-- the packet keeps the rules that were those of now
abbrev pub kept_now : {P : Type 0} → Flying P → Flying P
kept_now one = record { packet = one.packet; group = one.group; kept = true; outs = one.outs }

-- the rules of now are the old ones, and others come
abbrev pub committed : {P : Type 0} → Versions P → Stages P → Versions P
committed rules next = record { count = rules.count; now = next; old = rules.now }
