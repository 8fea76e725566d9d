-- Worked values of runs: text, operations and damage, computed from the definitions alone.
use Rattle.std.proofs.Common.{◌≡◌, ℕ, ◌+◌, List, [], ◌∷◌, Option, None, Some, refl}
use Rattle.std.specs.Prelude.{replicate, codes}
use Rattle.std.specs.Fmt.{digits}
use Rattle.addr_translate.specs.Geometry.{equal_geometry, groups_ended}
use Rattle.capture_read.specs.declared.records.CaptureFault.{CaptureFault}
use Rattle.capture_read.specs.declared.records.CaptureFault.TheVariants.{ShortRecord}
use Rattle.group_keys.specs.Units.{keys_for, pair_for}
use Rattle.hash_units.specs.Keys.{standard_key}
use Rattle.hash_units.specs.Toeplitz.{window, hash_of}
use Rattle.key_mask.specs.declared.fields.Field.TheVariants.{SrcIp}
use Rattle.key_mask.specs.Masks.{no_lengths, mask_bytes_of, lengths_of}
use Rattle.partition_pool.specs.Regions.{free_block}
use Rattle.pkt_headers.specs.declared.packets.Packet.{Packet}
use Rattle.pkt_headers.specs.declared.packets.Attr.TheVariants.{Packets}
use Rattle.placer.specs.Sights.{bits_for}
use Rattle.placer.specs.Placement.{open_arrays, places_for, placed}
use Rattle.readout.specs.Answers.{line_of_query}
use Rattle.readout.specs.Lines.{head_line, cell_line, cells_lines, query_line}
use Rattle.reg_file.specs.declared.traits.Call.{Call}
use Rattle.sketch_defs.specs.declared.kinds.Kind.{Kind}
use Rattle.sketch_defs.specs.declared.kinds.Kind.TheVariants.{Cms, SumaxSum}
use Rattle.sketch_defs.specs.Answers.{cells_found, answer_of}
use Rattle.sketch_defs.specs.Cells.{key_hash, row_hash_at, index_at, independent_cell, independent_cells, raised, chained_cells, cells_of, bound_at}
use Rattle.sketch_defs.specs.Tasks.{Sketch}
use Rattle.stateful_ops.specs.declared.ops.Op.TheVariants.{CondAdd}
use Rattle.sw_profile.specs.declared.profiles.Profile.{Profile}
use Rattle.sw_profile.specs.Profiles.{standard_profile}
use Rattle.switch_model.specs.Changes.{judged, changed}
use Rattle.switch_model.specs.Packets.{join, all_stands, calls_of}
use Rattle.switch_model.specs.Sights.{all_held, all_spots, all_uses, sight_of}
use Rattle.task_filters.specs.Filters.{Pattern, are_disjoint, passes}
use Rattle.task_lang.specs.declared.commands.Command.{Command}
use Rattle.task_lang.specs.declared.commands.Command.TheVariants as commands
use Rattle.flymon_engine.specs.Works.{works_of}
use Rattle.flymon_engine.specs.Arrivals.{Arrival, Left}
use Rattle.flymon_engine.specs.Runs.{Run, passed, step}
use Rattle.flymon_engine.specs.Going.{going, damage_met}
use Rattle.flymon_engine.specs.Endings.{beginning, finished}
use Rattle.flymon_engine.specs.Serial.{serial_rules, answer_to}
use Rattle.flymon_engine.specs.Flight.{flight_rules}

-- a packet from 10.0.0.x port 1024 to port 80 of 192.168.1.1, with the flags of the first packet of a connection
abbrev packet_from : ℕ → Packet
packet_from x = record {
  vec = 10 ∷ 0 ∷ 0 ∷ x ∷ 192 ∷ 168 ∷ 1 ∷ 1 ∷ 4 ∷ 0 ∷ 0 ∷ 80 ∷ 6 ∷ 0 ∷ 8 ∷ 0 ∷ replicate 32 0;
  len = 54;
  ttl = 64;
  flags = 2;
}

-- records of 70 bytes, the first of which ends here
abbrev arrivals : ℕ → List ℕ → List Arrival
arrivals end [] = []
arrivals end (x ∷ xs) = record { packet = packet_from x; end = end } ∷ arrivals (end + 70) xs

abbrev captured : List ℕ → Option CaptureFault → Left
captured sources fault = record { list = arrivals 94 sources; fault = fault }

abbrev source : List ℕ
source = lengths_of ((SrcIp, 32) ∷ [])

abbrev everything : Pattern
everything = record { value = replicate 48 0; mask = no_lengths }

abbrev task : List ℕ → Kind → ℕ → ℕ → Sketch
task name kind rows size =
    record { name = name; kind = kind; rows = rows; key = source; attr = Packets; filter = everything; size = size }

abbrev asked_of : ℕ → Pattern
asked_of x = record { value = 10 ∷ 0 ∷ 0 ∷ x ∷ replicate 44 0; mask = source }

-- what a script comes to on a capture
abbrev run_on : Profile → Left → List Command → Run
run_on profile left script = going serial_rules (beginning profile left) (works_of script)

abbrev hot : List ℕ
hot = codes "hot"

-- a capture that is cut in its third record
abbrev cut : List Command
cut = commands.Add (task hot Cms 1 32) ∷ commands.Packets 2 ∷ commands.Run ∷ []

cut_text : (run_on standard_profile (captured (1 ∷ 1 ∷ []) (Some (ShortRecord 164))) cut).text ≡ codes "added hot\npackets 2\n"
unfolding going step passed judged changed placed open_arrays places_for bits_for free_block keys_for pair_for are_disjoint mask_bytes_of sight_of all_held all_spots all_uses join digits groups_ended
cut_text = refl

cut_damage : damage_met serial_rules (beginning standard_profile (captured (1 ∷ 1 ∷ []) (Some (ShortRecord 164)))) (works_of cut) ≡ Some (ShortRecord 164)
unfolding damage_met step passed
cut_damage = refl

-- four packets of two sources
abbrev session : List Command
session = commands.Add (task hot Cms 1 32) ∷ commands.Run ∷ commands.Read hot ∷ commands.Query hot (asked_of 1) ∷ []

abbrev four : Left
four = captured (1 ∷ 1 ∷ 2 ∷ 1 ∷ []) None

session_text : (run_on standard_profile four session).text
    ≡ codes "added hot\npackets 4\nread hot rows 1 size 32 start 0\ncell 0 1 1\ncell 0 18 3\nend\nquery hot 3\n"
unfolding going step passed judged changed placed open_arrays places_for bits_for free_block keys_for pair_for are_disjoint passes mask_bytes_of sight_of all_held all_spots all_uses join groups_ended digits answer_to line_of_query cells_found answer_of key_hash row_hash_at index_at independent_cell independent_cells cells_of window hash_of head_line cell_line cells_lines query_line
session_text = refl

-- an addition to a register
abbrev one_more : ℕ → ℕ → Call
one_more array addr = record { array = array; addr = addr; op = CondAdd 1 4294967295 }

session_calls : (run_on standard_profile four session).calls ≡ one_more 0 18 ∷ one_more 0 18 ∷ one_more 0 1 ∷ one_more 0 18 ∷ []
unfolding going step passed judged changed placed open_arrays places_for bits_for free_block keys_for pair_for are_disjoint passes mask_bytes_of sight_of all_held all_spots all_uses all_stands calls_of join groups_ended key_hash row_hash_at index_at bound_at window hash_of
session_calls = refl

-- three groups of one array, and a sketch whose rows bound one another
abbrev small : Profile
small = record { shape = equal_geometry 3 (record { cmus = 1; units = 1; bits = 5 }) 5; key = standard_key }

abbrev sums : List Command
sums = commands.Add (task (codes "s") SumaxSum 3 2) ∷ commands.Run ∷ commands.Read (codes "s")
    ∷ commands.Query (codes "s") (asked_of 1) ∷ commands.Query (codes "s") (asked_of 3) ∷ []

sums_text : (run_on small (captured (3 ∷ 3 ∷ 1 ∷ []) None) sums).text
    ≡ codes "added s\npackets 3\nread s rows 3 size 2 start 0\ncell 0 0 2\ncell 0 1 1\ncell 1 1 2\ncell 2 0 1\ncell 2 1 2\nend\nquery s 1\nquery s 2\n"
unfolding going step passed judged changed placed open_arrays places_for bits_for free_block keys_for pair_for are_disjoint passes mask_bytes_of sight_of all_held all_spots all_uses join groups_ended digits answer_to line_of_query cells_found answer_of key_hash row_hash_at index_at raised chained_cells cells_of window hash_of head_line cell_line cells_lines query_line
sums_text = refl

-- ---- packets in flight

-- what a script comes to where all packets in flight have passed at its end
abbrev flown_on : Profile → Left → List Command → Run
flown_on profile left script = finished flight_rules (going flight_rules (beginning profile left) (works_of script))

abbrev three_rows : List Command
three_rows = commands.Add (task (codes "a") Cms 3 32) ∷ commands.Run ∷ []

abbrev three : Left
three = captured (1 ∷ 2 ∷ 1 ∷ []) None

replayed_calls : (run_on small three three_rows).calls
    ≡ one_more 0 18 ∷ one_more 1 19 ∷ one_more 2 11 ∷ one_more 0 1 ∷ one_more 1 12 ∷ one_more 2 3 ∷ one_more 0 18 ∷ one_more 1 19 ∷ one_more 2 11 ∷ []
unfolding going step passed judged changed placed open_arrays places_for bits_for free_block keys_for pair_for are_disjoint passes mask_bytes_of sight_of all_held all_spots all_uses all_stands calls_of join groups_ended key_hash row_hash_at index_at bound_at window hash_of
replayed_calls = refl

-- a packet passes a group as the next one enters
flown_calls : (flown_on small three three_rows).calls
    ≡ one_more 0 18 ∷ one_more 1 19 ∷ one_more 0 1 ∷ one_more 2 11 ∷ one_more 1 12 ∷ one_more 2 3 ∷ one_more 0 18 ∷ one_more 1 19 ∷ one_more 2 11 ∷ []
unfolding going step passed judged changed placed open_arrays places_for bits_for free_block keys_for pair_for are_disjoint passes mask_bytes_of sight_of all_held all_spots all_uses all_stands calls_of join groups_ended key_hash row_hash_at index_at bound_at window hash_of
flown_calls = refl

-- one group of one array: a task takes the registers of one whose packet is in flight as it is removed
abbrev single : Profile
single = record { shape = equal_geometry 1 (record { cmus = 1; units = 1; bits = 5 }) 5; key = standard_key }

abbrev taken_over : List Command
taken_over = commands.Add (task (codes "a") Cms 1 32) ∷ commands.Run ∷ commands.Remove (codes "a") ∷ commands.Add (task (codes "b") Cms 1 32) ∷ []

taken_over_calls : (flown_on single (captured (1 ∷ []) None) taken_over).calls ≡ one_more 0 18 ∷ []
unfolding going step passed judged changed placed open_arrays places_for bits_for free_block keys_for pair_for are_disjoint passes mask_bytes_of sight_of all_held all_spots all_uses all_stands calls_of join groups_ended key_hash row_hash_at index_at bound_at window hash_of
taken_over_calls = refl
