-- The rules of a switch with packets before different groups at once.
use Rattle.std.specs.Prelude.{ℕ, zero, suc, ◌+◌, ◌==◌, Bool, true, false, not, if◌then◌else◌, List, [], ◌∷◌, ◌++◌, length, map, filter}
use Rattle.std.specs.List.{flat_map}
use Rattle.addr_translate.specs.Geometry.{Geometry, group_number}
use Rattle.pkt_headers.specs.declared.packets.Packet.{Packet}
use Rattle.reg_file.specs.declared.traits.Call.{Call}
use Rattle.switch_model.specs.Packets.{join, calls_of}
use Rattle.flymon_engine.specs.declared.work.Change.{Change}
use Rattle.flymon_engine.specs.Boards.{Aloft, Board, Move, Rules}
use Rattle.flymon_engine.specs.Serial.{stayed, with_records, change_move, serial_rules}

-- ---- packets in flight, with what they have still to do

-- the operation is on an array of the group
abbrev pub is_in : Geometry → ℕ → Call → Bool
is_in geometry group call = group_number geometry call.array == group

-- what a packet does in the group before which it stands, and what behind it
abbrev pub next_calls : Geometry → Aloft → List Call
next_calls geometry one = filter (is_in geometry one.group) one.calls

abbrev pub later_calls : Geometry → Aloft → List Call
later_calls geometry one = filter (λ call. not (is_in geometry one.group call)) one.calls

-- a packet before the first group
abbrev pub entering : List Call → Aloft
entering calls = record { group = 0; kept = false; calls = calls }

-- before the next group
abbrev pub moved_on : Geometry → Aloft → Aloft
moved_on geometry one = record { group = one.group + 1; kept = one.kept; calls = later_calls geometry one }

-- a packet behind the last group has left
abbrev pub if_left : ℕ → Aloft → List Aloft
if_left count one = if one.group == count then [] else one ∷ []

-- it entered before a change
abbrev pub kept_now : Aloft → Aloft
kept_now one = record { group = one.group; kept = true; calls = one.calls }

abbrev pub is_kept : Aloft → Bool
is_kept one = one.kept

abbrev pub is_present : Aloft → Bool
is_present one = not one.kept

-- all that they have still to do, one packet after another
abbrev pub calls_left : List Aloft → List Call
calls_left flying = flat_map (λ (one : Aloft). one.calls) flying

-- the operations of the packet before the group, on the group's arrays
abbrev pub calls_at : Geometry → ℕ → List Aloft → List Call
calls_at geometry group [] = []
calls_at geometry group (one ∷ others) = if one.group == group then next_calls geometry one else calls_at geometry group others

-- it stands before the next group, or has left
abbrev pub passed_at : Geometry → ℕ → List Aloft → List Aloft
passed_at geometry group [] = []
passed_at geometry group (one ∷ others) =
    if one.group == group then if_left (length geometry.groups) (moved_on geometry one) ++ others
    else one ∷ passed_at geometry group others

-- ---- moves

abbrev pub with_flying : Board → List Aloft → Board
with_flying board flying = record { profile = board.profile; records = board.records; flying = flying }

-- one move, and one from where it leads
abbrev pub and_then : Move → (Board → Move) → Move
and_then first next = record { board = (next first.board).board; calls = first.calls ++ (next first.board).calls }

-- the packet before the group passes it
abbrev pub advanced : ℕ → Board → Move
advanced group board = record {
  board = with_flying board (passed_at board.profile.shape group board.flying);
  calls = calls_at board.profile.shape group board.flying;
}

-- the packets before the first `n` groups pass one group each, the last group's first
abbrev pub advanced_below : ℕ → Board → Move
advanced_below zero board = stayed board
advanced_below (suc n) board = and_then (advanced n board) (advanced_below n)

-- a packet joins the tasks whose filters it matches, and stands before the first group with all its operations to make
abbrev pub entered : Packet → Board → Move
entered packet board = stayed (with_flying (with_records board (join packet board.records))
    (board.flying ++ entering (calls_of board.profile.shape board.profile.key packet board.records) ∷ []))

-- the packets that entered before the last change pass to the end; all others entered before the next one
abbrev pub committed : Board → Move
committed board = record {
  board = with_flying board (map kept_now (filter is_present board.flying));
  calls = calls_left (filter is_kept board.flying);
}

-- all packets pass to the end, in order of entry
abbrev pub settled : Board → Move
settled board = record { board = with_flying board []; calls = calls_left board.flying }

-- ---- the rules

-- each packet in flight passes one group, and then the next packet enters
abbrev pub flight_pass : Board → Packet → Move
flight_pass board packet = and_then (advanced_below (length board.profile.shape.groups) board) (entered packet)

abbrev pub flight_change : Board → Change → Move
flight_change board change = and_then (committed board) (λ board. change_move board change)

-- Verdicts and answers are those of packets that pass one after another. A change that the device refused leaves the
-- packets as they are before a change; read-outs and the end of a run come when all packets have passed.
abbrev pub flight_rules : Rules
flight_rules = record {
  pass = flight_pass;
  verdict = serial_rules.verdict;
  change = flight_change;
  parts = λ board change. 1;
  spoil = λ board change part. committed board;
  answer = serial_rules.answer;
  ask = λ board request. settled board;
  finish = settled;
}
