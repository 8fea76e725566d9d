-- What a read-out answers: lines, or why there are none. Lines of tasks are those of their parts, whatever stands where.
use Rattle.std.specs.Prelude.{◌≡◌, ℕ, ◌<◌, ◌^◌, Bool, true, false, if◌then◌else◌, List, ◌++◌, length, codes, Option, None, Some, is_some, Result, Ok, Err}
use Rattle.std.specs.List.{find}
use Rattle.std.specs.Str.{bytes_eq}
use Rattle.reg_file.specs.Registers.{Contents}
use Rattle.task_filters.specs.Filters.{Pattern}
use Rattle.sketch_defs.specs.declared.answers.Reply.{Reply}
use Rattle.sketch_defs.specs.declared.kinds.Kind.{Kind}
use Rattle.sketch_defs.specs.declared.kinds.Kind.TheVariants.{Mrac, Hll}
use Rattle.sketch_defs.specs.Answers.{answer_of, cells_found, sizes_of, zeros_of, z_of, raw_of}
use Rattle.sketch_defs.specs.Cells.{key_hash, row_of}
use Rattle.sketch_defs.specs.Tasks.{Sketch}
use Rattle.sketch_lower.specs.Operations.{start_of}
use Rattle.readout.specs.declared.refusals.Refusal.{Refusal}
use Rattle.readout.specs.declared.refusals.Refusal.TheVariants.{Unknown, NoFrozen, NoAnswer, BadKey}
use Rattle.readout.specs.declared.requests.Ask.{Ask}
use Rattle.readout.specs.declared.requests.Ask.TheVariants.{Cells, Query, Dist, Card}
use Rattle.readout.specs.declared.views.Side.{Side}
use Rattle.readout.specs.declared.views.Side.TheVariants.{Live, Frozen}
use Rattle.readout.specs.Parts.{Rows, SketchPart}
use Rattle.readout.specs.PlacedTasks.{PlacedTask, View, place_at, task_in, task_named, part_in, parts_in}
use Rattle.readout.specs.Lines.{side_word, cells_lines, query_line, dist_lines, card_line}

-- lines, or why there are none
abbrev pub Answer : Type 0
Answer = Result (List ℕ) Refusal

abbrev pub is_mrac : Kind → Bool
is_mrac Mrac = true
is_mrac _ = false

abbrev pub is_hll : Kind → Bool
is_hll Hll = true
is_hll _ = false

-- its cells reply to a key value
abbrev pub answers_keys : Kind → Bool
answers_keys Mrac = false
answers_keys Hll = false
answers_keys _ = true

-- the block over these rows of a task
abbrev pub lines_of_rows : Side → Sketch → Rows → List ℕ
lines_of_rows side task rows = cells_lines side task.name (2 ^ rows.bits) (start_of task.kind) rows.cells

abbrev pub lines_of_frozen : Sketch → Option Rows → Answer
lines_of_frozen task None = Err NoFrozen
lines_of_frozen task (Some rows) = Ok (lines_of_rows Frozen task rows)

-- the cells of a side
abbrev pub lines_of_cells : Side → SketchPart → Answer
lines_of_cells Live part = Ok (lines_of_rows Live part.task part.live)
lines_of_cells Frozen part = lines_of_frozen part.task part.frozen

-- a reply to a key value that has the fields of the key, or does not
abbrev pub line_of_reply : Bool → List ℕ → Option Reply → Answer
line_of_reply keyed name None = Err NoAnswer
line_of_reply keyed name (Some reply) = if keyed then Ok (query_line name reply) else Err BadKey

-- what the cells answer for a key value
unfoldable pub line_of_query : List ℕ → Pattern → SketchPart → Answer
line_of_query hash_key at part =
    let h = key_hash hash_key part.task at.value in
    line_of_reply (bytes_eq at.mask part.task.key) part.task.name (answer_of part.task.kind (cells_found h part.live.bits part.live.cells) h)

-- how many cells hold each value
unfoldable pub lines_of_dist : SketchPart → Answer
lines_of_dist part = if is_mrac part.task.kind then Ok (dist_lines part.task.name (sizes_of (row_of part.live.cells 0))) else Err NoAnswer

-- the estimate of distinct keys
unfoldable pub line_of_card : SketchPart → Answer
line_of_card part =
    let cells = row_of part.live.cells 0 in
    if is_hll part.task.kind then Ok (card_line part.task.name (zeros_of cells) (z_of cells) (raw_of part.live.bits (z_of cells))) else Err NoAnswer

-- the live task of a name
abbrev pub part_named : List ℕ → List SketchPart → Option SketchPart
part_named name parts = find (λ (part : SketchPart). bytes_eq part.task.name name) parts

abbrev pub answer_if_live : (SketchPart → Answer) → Option SketchPart → Answer
answer_if_live answer None = Err Unknown
answer_if_live answer (Some part) = answer part

-- what the live task of a name answers
abbrev pub answer_by : List ℕ → (SketchPart → Answer) → List SketchPart → Answer
answer_by name answer parts = answer_if_live answer (part_named name parts)

-- what a task answers that is asked so
abbrev pub task_answer : List ℕ → Ask → SketchPart → Answer
task_answer hash_key (Cells side) part = lines_of_cells side part
task_answer hash_key (Query at) part = line_of_query hash_key at part
task_answer hash_key Dist part = lines_of_dist part
task_answer hash_key Card part = line_of_card part

-- why a task does not answer what it is asked, whatever it counted; none where it answers
abbrev pub refusal_by : Ask → PlacedTask → Option Refusal
refusal_by (Cells Live) placed = None
refusal_by (Cells Frozen) placed = if is_some (place_at placed 0).frozen then None else Some NoFrozen
refusal_by (Query at) placed =
    if answers_keys placed.task.kind then (if bytes_eq at.mask placed.task.key then None else Some BadKey) else Some NoAnswer
refusal_by Dist placed = if is_mrac placed.task.kind then None else Some NoAnswer
refusal_by Card placed = if is_hll placed.task.kind then None else Some NoAnswer

-- the live task of the name stands at this place of the list, and answers what it is asked
pub record Serves (name : List ℕ) (ask : Ask) (view : View) (at : ℕ) : Type 0 where
  pub below : at < length view.tasks
  pub named : task_named name view ≡ Some (task_in view at)
  pub found : (told : Contents) → part_named name (parts_in told view) ≡ Some (part_in told (task_in view at))
  pub answers : refusal_by ask (task_in view at) ≡ None

-- ---- refusals as lines

abbrev pub reason_word : Refusal → List ℕ
reason_word Unknown = codes "unknown"
reason_word NoFrozen = codes "nothing frozen"
reason_word NoAnswer = codes "no answer"
reason_word BadKey = codes "bad key"

abbrev pub ask_word : Ask → List ℕ
ask_word (Cells side) = side_word side
ask_word (Query at) = codes "query"
ask_word Dist = codes "dist"
ask_word Card = codes "card"

-- `refused WORD NAME REASON`
unfoldable pub refused_line : Ask → List ℕ → Refusal → List ℕ
refused_line ask name refusal =
    codes "refused " ++ (ask_word ask ++ (codes " " ++ (name ++ (codes " " ++ (reason_word refusal ++ codes "\n")))))
