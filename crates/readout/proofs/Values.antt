-- Worked lines.
use Rattle.std.specs.Prelude.{◌≡◌, ℕ, List, [], ◌∷◌, codes, replicate, None, Some, Ok, Err}
use Rattle.std.specs.Fmt.{digits}
use Rattle.std.proofs.Common.{refl}
use Rattle.addr_translate.specs.Geometry.{equal_geometry, groups_ended}
use Rattle.group_keys.specs.declared.uses.KeyUse.{KeyUse}
use Rattle.group_keys.specs.declared.uses.KeyUse.TheVariants.{Single, Pair}
use Rattle.task_filters.specs.Printing.{filter_text}
use Rattle.task_lang.specs.Printing.{task_text}
use Rattle.key_mask.specs.Items.{items_text, with_field}
use Rattle.hex.specs.Hex.{encode_with}
use Rattle.key_mask.specs.Masks.{mask_bytes_of, no_lengths}
use Rattle.pkt_headers.specs.declared.packets.Attr.TheVariants as attrs
use Rattle.sketch_defs.specs.declared.answers.Reply.TheVariants.{Number, Yes}
use Rattle.sketch_defs.specs.declared.kinds.Kind.TheVariants.{Cms}
use Rattle.sketch_defs.specs.Answers.{sizes_of}
use Rattle.sketch_defs.specs.Tasks.{Sketch}
use Rattle.readout.specs.declared.refusals.Refusal.TheVariants.{NoFrozen, NoAnswer}
use Rattle.readout.specs.declared.requests.Ask.TheVariants.{Dist}
use Rattle.readout.specs.declared.views.Placed.{Placed}
use Rattle.readout.specs.declared.views.Side.TheVariants.{Live, Frozen}
use Rattle.readout.specs.Parts.{SketchPart}
use Rattle.readout.specs.PlacedTasks.{View}
use Rattle.readout.specs.Lines.{cells_lines, head_line, cell_line, query_line, size_line, dist_lines, card_line, place_line, group_line, array_line, show_lines, stat_lines, task_lines}
use Rattle.readout.specs.Answers.{lines_of_cells, refused_line}

block : cells_lines Live (codes "b") 4 0 ((0 ∷ 0 ∷ 1024 ∷ 0 ∷ []) ∷ (131072 ∷ 0 ∷ 0 ∷ 0 ∷ []) ∷ [])
    ≡ codes "read b rows 2 size 4 start 0\ncell 0 2 1024\ncell 1 0 131072\nend\n"
unfolding cells_lines head_line cell_line digits
block = refl

-- only cells that are not as they started have lines
flags : cells_lines Frozen (codes "f") 2 4294967295 ((4294967295 ∷ 2 ∷ []) ∷ []) ≡ codes "frozen f rows 1 size 2 start 4294967295\ncell 0 1 2\nend\n"
unfolding cells_lines head_line cell_line digits
flags = refl

query : query_line (codes "hot") (Number 3) ≡ codes "query hot 3\n"
unfolding query_line digits
query = refl

member : query_line (codes "inner") Yes ≡ codes "query inner yes\n"
unfolding query_line
member = refl

dist : dist_lines (codes "m") (sizes_of (0 ∷ 2 ∷ 0 ∷ 1 ∷ [])) ≡ codes "dist m\nsize 0 cells 2\nsize 1 cells 1\nsize 2 cells 1\nend\n"
unfolding dist_lines size_line digits
dist = refl

card : card_line (codes "dests") 63 543313362944 45 ≡ codes "card dests zeros 63 z 543313362944 raw 45\n"
unfolding card_line digits
card = refl

refusal : refused_line Dist (codes "hot") NoAnswer ≡ codes "refused dist hot no answer\n"
unfolding refused_line
refusal = refl

-- ---- a task that was resized: its frozen cells are told, and nothing of a task that was not

task : Sketch
task = record { name = codes "t"; kind = Cms; rows = 1; key = no_lengths; attr = attrs.Packets; filter = record { value = replicate 48 0; mask = no_lengths }; size = 4 }

part : SketchPart
part = record { task = task; live = record { bits = 2; cells = (0 ∷ 0 ∷ 0 ∷ 0 ∷ []) ∷ [] }; frozen = Some (record { bits = 1; cells = (0 ∷ 1 ∷ []) ∷ [] }) }

live : lines_of_cells Live part ≡ Ok (codes "read t rows 1 size 4 start 0\nend\n")
unfolding part task cells_lines head_line cell_line digits
live = refl

frozen : lines_of_cells Frozen part ≡ Ok (codes "frozen t rows 1 size 2 start 0\ncell 0 1 1\nend\n")
unfolding part task cells_lines head_line cell_line digits
frozen = refl

released : lines_of_cells Frozen (record part { frozen = None }) ≡ Err NoFrozen
unfolding part
released = refl

-- ---- rows of tasks

-- array 4 is the second of group 1
place : KeyUse → Placed
place keys = record { array = 4; region = record { base = 512; bits = 9 }; keys = keys; frozen = Some (record { base = 0; bits = 8 }) }

resized_row : place_line (equal_geometry 3 (record { cmus = 3; units = 2; bits = 10 }) 5) 2 (place (Single 0))
    ≡ codes "row 2 group 1 cmu 1 base 512 size 512 keys 0 frozen base 0 size 256\n"
unfolding place_line place groups_ended digits
resized_row = refl

paired_row : place_line (equal_geometry 1 (record { cmus = 3; units = 2; bits = 5 }) 5) 0
    (record { array = 2; region = record { base = 0; bits = 5 }; keys = Pair 0 1; frozen = None })
    ≡ codes "row 0 group 0 cmu 2 base 0 size 32 keys 0+1\n"
unfolding place_line groups_ended digits
paired_row = refl

-- ---- what is in use of one array of 32 registers

unused : View
unused = record {
  geometry = equal_geometry 1 (record { cmus = 1; units = 1; bits = 5 }) 5;
  tasks = [];
  mask = λ group unit. None;
  free = λ array. 32;
  largest = λ array. 32;
  rows = λ array. 0;
}

stat : stat_lines unused ≡ codes "stat groups 1 arrays 1\ngroup 0 units -\narray 0 free 32 largest 32 live 0\nend\n"
unfolding unused stat_lines group_line array_line digits
stat = refl

-- the prefix lengths of one whole source address
source : List ℕ
source = 32 ∷ replicate 10 0

-- two tasks of 8 registers, and 8 that are free between them
stat_used : stat_lines (record unused { mask = λ group unit. Some source; free = λ array. 16; largest = λ array. 8; rows = λ array. 2 })
    ≡ codes "stat groups 1 arrays 1\ngroup 0 units ffffffff000000000000000000000000\narray 0 free 16 largest 8 live 2\nend\n"
unfolding unused source stat_lines group_line array_line mask_bytes_of encode_with digits
stat_used = refl

-- ---- all tasks of a group of three arrays and two units: of one of them the key is that of both units

counted : List ℕ → List ℕ → Sketch
counted name key =
    record { name = name; kind = Cms; rows = 1; key = key; attr = attrs.Packets; filter = record { value = replicate 48 0; mask = no_lengths }; size = 32 }

row_on : ℕ → KeyUse → Placed
row_on array keys = record { array = array; region = record { base = 0; bits = 5 }; keys = keys; frozen = None }

two_tasks : View
two_tasks = record {
  geometry = equal_geometry 1 (record { cmus = 3; units = 2; bits = 5 }) 5;
  tasks = (record { task = counted (codes "b") (0 ∷ 32 ∷ replicate 9 0); places = row_on 1 (Single 1) ∷ [] })
      ∷ (record { task = counted (codes "c") source; places = row_on 2 (Pair 0 1) ∷ [] }) ∷ [];
  mask = λ group unit. None;
  free = λ array. 0;
  largest = λ array. 0;
  rows = λ array. 1;
}

show : show_lines two_tasks
    ≡ codes "tasks 2\ntask b cms 1 key=dst_ip attr=packets filter=all memory=32\nrow 0 group 0 cmu 1 base 0 size 32 keys 1\ntask c cms 1 key=src_ip attr=packets filter=all memory=32\nrow 0 group 0 cmu 2 base 0 size 32 keys 0+1\nend\n"
unfolding two_tasks counted row_on source show_lines task_lines place_line task_text filter_text items_text with_field groups_ended digits
show = refl
