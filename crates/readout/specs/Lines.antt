-- The lines of read-outs.
use Rattle.std.specs.Prelude.{ℕ, ◌==◌, ◌^◌, if◌then◌else◌, List, [], ◌∷◌, ◌++◌, length, take, drop, codes, Option, None, Some}
use Rattle.std.specs.Fmt.{decimal}
use Rattle.std.specs.List.{flat_map, enumerate_from, list_all, range_with_len}
use Rattle.addr_translate.specs.Blocks.{Block}
use Rattle.addr_translate.specs.Geometry.{Geometry, array_count, cmu_number, group_in, group_number}
use Rattle.group_keys.specs.declared.uses.KeyUse.{KeyUse}
use Rattle.group_keys.specs.declared.uses.KeyUse.TheVariants.{Single, Pair}
use Rattle.hex.specs.Hex.{encode_lower}
use Rattle.key_mask.specs.Masks.{mask_bytes_of}
use Rattle.sketch_defs.specs.declared.answers.Reply.{Reply}
use Rattle.sketch_defs.specs.declared.answers.Reply.TheVariants.{Number, Yes, No}
use Rattle.sketch_defs.specs.Answers.{Size}
use Rattle.task_lang.specs.Printing.{task_text}
use Rattle.readout.specs.declared.views.Placed.{Placed}
use Rattle.readout.specs.declared.views.Side.{Side}
use Rattle.readout.specs.declared.views.Side.TheVariants.{Live, Frozen}
use Rattle.readout.specs.PlacedTasks.{PlacedTask, View}

abbrev pub side_word : Side → List ℕ
side_word Live = codes "read"
side_word Frozen = codes "frozen"

-- `read NAME rows D size N start V`
unfoldable pub head_line : Side → List ℕ → ℕ → ℕ → ℕ → List ℕ
head_line side name rows size start =
    side_word side ++ (32 ∷ name ++ (codes " rows " ++ (decimal rows ++ (codes " size " ++ (decimal size ++ (codes " start " ++ (decimal start ++ codes "\n")))))))

-- a cell that is as it started has no line
unfoldable pub cell_line : ℕ → ℕ → ℕ → ℕ → List ℕ
cell_line start row index value =
    if value == start then []
    else codes "cell " ++ (decimal row ++ (codes " " ++ (decimal index ++ (codes " " ++ (decimal value ++ codes "\n")))))

abbrev pub row_lines : ℕ → ℕ → List ℕ → List ℕ
row_lines start row cells = flat_map (λ at. cell_line start row at.0 at.1) (enumerate_from 0 cells)

-- the block of `read` and `frozen`: rows of `size` cells that started at this value
unfoldable pub cells_lines : Side → List ℕ → ℕ → ℕ → List (List ℕ) → List ℕ
cells_lines side name size start rows =
    head_line side name (length rows) size start
    ++ (flat_map (λ at. row_lines start at.0 at.1) (enumerate_from 0 rows) ++ codes "end\n")

abbrev pub reply_text : Reply → List ℕ
reply_text (Number n) = decimal n
reply_text Yes = codes "yes"
reply_text No = codes "no"

unfoldable pub query_line : List ℕ → Reply → List ℕ
query_line name reply = codes "query " ++ (name ++ (codes " " ++ (reply_text reply ++ codes "\n")))

unfoldable pub size_line : Size → List ℕ
size_line size = codes "size " ++ (decimal size.value ++ (codes " cells " ++ (decimal size.cells ++ codes "\n")))

unfoldable pub dist_lines : List ℕ → List Size → List ℕ
dist_lines name sizes = (codes "dist " ++ (name ++ codes "\n")) ++ (flat_map size_line sizes ++ codes "end\n")

unfoldable pub card_line : List ℕ → ℕ → ℕ → ℕ → List ℕ
card_line name zeros z raw =
    codes "card " ++ (name ++ (codes " zeros " ++ (decimal zeros ++ (codes " z " ++ (decimal z ++ (codes " raw " ++ (decimal raw ++ codes "\n")))))))

-- ---- the block of `show`

abbrev pub block_text : Block → List ℕ
block_text block = codes " base " ++ (decimal block.base ++ (codes " size " ++ decimal (2 ^ block.bits)))

abbrev pub keys_text : KeyUse → List ℕ
keys_text (Single unit) = decimal unit
keys_text (Pair one two) = decimal one ++ (codes "+" ++ decimal two)

abbrev pub frozen_text : Option Block → List ℕ
frozen_text None = []
frozen_text (Some block) = codes " frozen" ++ block_text block

-- a row, and the array that it stands on
abbrev pub stand_text : Geometry → ℕ → ℕ → List ℕ
stand_text geometry row array =
    codes "row " ++ (decimal row ++ (codes " group " ++ (decimal (group_number geometry array) ++ (codes " cmu " ++ decimal (cmu_number geometry array)))))

-- `row I group G cmu C base B size N keys U`
unfoldable pub place_line : Geometry → ℕ → Placed → List ℕ
place_line geometry row place =
    stand_text geometry row place.array
    ++ (block_text place.region ++ (codes " keys " ++ (keys_text place.keys ++ (frozen_text place.frozen ++ codes "\n"))))

-- the line of a task, and those of its rows
unfoldable pub task_lines : Geometry → PlacedTask → List ℕ
task_lines geometry placed =
    (codes "task " ++ (task_text placed.task ++ codes "\n"))
    ++ flat_map (λ at. place_line geometry at.0 at.1) (enumerate_from 0 placed.places)

unfoldable pub show_lines : View → List ℕ
show_lines view =
    (codes "tasks " ++ (decimal (length view.tasks) ++ codes "\n"))
    ++ (flat_map (task_lines view.geometry) view.tasks ++ codes "end\n")

-- ---- the block of `stat`

-- the bytes of a mask that are told: the first 16 where all others are 0
abbrev pub told_bytes : List ℕ → List ℕ
told_bytes bytes = if list_all (λ byte. byte == 0) (drop 16 bytes) then take 16 bytes else bytes

abbrev pub unit_text : Option (List ℕ) → List ℕ
unit_text None = codes " -"
unit_text (Some mask) = codes " " ++ encode_lower (told_bytes (mask_bytes_of mask))

unfoldable pub group_line : View → ℕ → List ℕ
group_line view group =
    (codes "group " ++ (decimal group ++ codes " units"))
    ++ (flat_map (λ unit. unit_text (view.mask group unit)) (range_with_len 0 (group_in view.geometry group).units) ++ codes "\n")

unfoldable pub array_line : View → ℕ → List ℕ
array_line view array =
    codes "array " ++ (decimal array ++ (codes " free " ++ (decimal (view.free array)
    ++ (codes " largest " ++ (decimal (view.largest array) ++ (codes " live " ++ (decimal (view.rows array) ++ codes "\n")))))))

unfoldable pub stat_lines : View → List ℕ
stat_lines view =
    (codes "stat groups " ++ (decimal (length view.geometry.groups) ++ (codes " arrays " ++ (decimal (array_count view.geometry) ++ codes "\n"))))
    ++ (flat_map (group_line view) (range_with_len 0 (length view.geometry.groups))
    ++ (flat_map (array_line view) (range_with_len 0 (array_count view.geometry)) ++ codes "end\n"))
