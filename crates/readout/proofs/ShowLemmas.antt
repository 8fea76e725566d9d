-- The lines of rows and tasks, by their numbers.
use Rattle.std.proofs.Common.{◌≡◌, ℕ, ◌<◌, ◌≤◌, List, [], ◌∷◌, ◌++◌, ◌==◌, true, false, nat_lt, length, take, drop, codes, Option, Result, refl, ap, ap₂, sym, ◌∙◌, subst, arith, append_assoc}
use Rattle.std.specs.List.{flat_map, enumerate_from, list_all, range_with_len, slice_index_or}
use Rattle.std.specs.Result.{IsErr}
use Rattle.std.proofs.lemmas.List.{take_all, length-drop}
use Rattle.std.proofs.lemmas.List.FromFn.{length-enumerate_from, get_or-enumerate_from, get_or-range_with_len, length-range_with_len}
use Rattle.std.specs.Str.{IsAscii, IsUtf8}
use Rattle.std.proofs.lemmas.Bool.Decides.{nat_tests}
use Rattle.sketch_defs.proofs.NameLemmas.{both_true}
use Rattle.std.proofs.lemmas.Str.{IsUtf8-from_ascii}
use Rattle.std.proofs.lemmas.Str.Ascii.{IsAscii-nil, IsAscii-cons}
use Rattle.hex.specs.Hex.{lower_digits, encode_lower}
use Rattle.hex.proofs.HexLemmas.{IsAscii-encode_with}
use Rattle.outside.specs.Sent.{CameSoFar, CameInFront, Sends}
use Rattle.std.specs.Fmt.{decimal}
use Rattle.addr_translate.specs.Geometry.{Geometry, array_count}
use Rattle.task_lang.specs.Printing.{task_text}
use Rattle.readout.specs.declared.views.Placed.{Placed}
use Rattle.readout.specs.PlacedTasks.{PlacedTask, View, no_place, place_at}
use Rattle.readout.specs.Lines.{place_line, task_lines, show_lines, told_bytes, group_line, array_line, stat_lines}
use Rattle.readout.specs.Outcomes.{Gathers}
use Rattle.readout.proofs.PieceLemmas.{room_put, came_then, gathers_then, block_sent, block_cut, sends_at_err}

abbrev pub line_at : Geometry → (ℕ × Placed) → List ℕ
line_at geometry row = place_line geometry row.0 row.1

abbrev pub places_of : PlacedTask → List (ℕ × Placed)
places_of placed = enumerate_from 0 placed.places

pub place_count : (placed : PlacedTask) → length (places_of placed) ≡ length placed.places
place_count placed = length-enumerate_from 0 placed.places

pub place_here : (geometry : Geometry) (placed : PlacedTask) (row : ℕ) → row < length placed.places
    → line_at geometry (slice_index_or (places_of placed) row (0, no_place)) ≡ place_line geometry row (place_at placed row)
place_here geometry placed row inside =
    ap (line_at geometry) (get_or-enumerate_from 0 placed.places row (0, no_place) inside) ∙ ap (λ k. place_line geometry k (place_at placed row)) (omega arith)

-- the number of an element of a range
pub number_here : (f : ℕ → List ℕ) (count i : ℕ) → i < count → f (slice_index_or (range_with_len 0 count) i 0) ≡ f i
number_here f count i inside = ap f (get_or-range_with_len 0 count i 0 inside ∙ omega arith)

pub number_inside : (count i : ℕ) → i < count → i < length (range_with_len 0 count)
number_inside count i inside = omega (arith, length-range_with_len 0 count)

pub numbers_end : (count i : ℕ) → i ≡ count → length (range_with_len 0 count) ≤ i
numbers_end count i all = omega (arith, length-range_with_len 0 count)

-- the line of a task, and then those of its rows
pub task_gathered : {T E : Type 0} (result : Result T E) (a b c : Option (List ℕ)) (geometry : Geometry) (placed : PlacedTask) (piece mid put left : List ℕ)
    → CameSoFar a (piece ++ []) mid b → put ≡ mid ++ (codes "task " ++ (task_text placed.task ++ codes "\n"))
    → Gathers b put (flat_map (line_at geometry) (places_of placed)) result left c
    → Gathers a piece (task_lines geometry placed) result left c
unfolding task_lines
task_gathered result a b c geometry placed piece mid put left room is more =
    let line = codes "task " ++ (task_text placed.task ++ codes "\n") in
    gathers_then result a b c piece line put (flat_map (line_at geometry) (places_of placed)) left
    (subst (λ l. CameSoFar a (piece ++ line) l b) (sym is) (room_put a b piece line mid room)) more

-- ---- blocks

pub show_sent : {T E : Type 0} (result : Result T E) (a b c : Option (List ℕ)) (view : View) (head left : List ℕ)
    → head ≡ codes "tasks " ++ (decimal (length view.tasks) ++ codes "\n")
    → CameSoFar a (head ++ flat_map (task_lines view.geometry) view.tasks) left b → Sends b (left ++ codes "end\n") result c → Sends a (show_lines view) result c
unfolding show_lines
show_sent result a b c view head left is far sent =
    subst (λ h. Sends a (h ++ (flat_map (task_lines view.geometry) view.tasks ++ codes "end\n")) result c) is
    (block_sent result a b c head (flat_map (task_lines view.geometry) view.tasks) (codes "end\n") left far sent)

pub show_cut : {T E : Type 0} (result : Result T E) (a b : Option (List ℕ)) (view : View) (head : List ℕ) → IsErr result
    → head ≡ codes "tasks " ++ (decimal (length view.tasks) ++ codes "\n")
    → CameInFront a (head ++ flat_map (task_lines view.geometry) view.tasks) b → Sends a (show_lines view) result b
unfolding show_lines
show_cut result a b view head failed is front =
    subst (λ h. Sends a (h ++ (flat_map (task_lines view.geometry) view.tasks ++ codes "end\n")) result b) is
    (sends_at_err result a b (head ++ (flat_map (task_lines view.geometry) view.tasks ++ codes "end\n")) failed
    (block_cut a b head (flat_map (task_lines view.geometry) view.tasks) (codes "end\n") (omega arith) front))

abbrev pub stat_head : View → List ℕ
stat_head view = codes "stat groups " ++ (decimal (length view.geometry.groups) ++ (codes " arrays " ++ (decimal (array_count view.geometry) ++ codes "\n")))

abbrev pub groups_of : View → List ℕ
groups_of view = flat_map (group_line view) (range_with_len 0 (length view.geometry.groups))

abbrev pub arrays_of : View → List ℕ
arrays_of view = flat_map (array_line view) (range_with_len 0 (array_count view.geometry))

stat_text : (view : View) (head : List ℕ) → head ≡ stat_head view → head ++ ((groups_of view ++ arrays_of view) ++ codes "end\n") ≡ stat_lines view
unfolding stat_lines
stat_text view head is = ap₂ (λ h t. h ++ t) is (append_assoc (groups_of view) (arrays_of view) (codes "end\n"))

pub stat_sent : {T E : Type 0} (result : Result T E) (a b c d : Option (List ℕ)) (view : View) (head mid left : List ℕ) → head ≡ stat_head view
    → CameSoFar a (head ++ groups_of view) mid b → CameSoFar b (mid ++ arrays_of view) left c → Sends c (left ++ codes "end\n") result d → Sends a (stat_lines view) result d
stat_sent result a b c d view head mid left is groups arrays sent =
    subst (λ t. Sends a t result d) (stat_text view head is)
    (block_sent result a c d head (groups_of view ++ arrays_of view) (codes "end\n") left (came_then a b c head (groups_of view) mid (arrays_of view) left groups arrays) sent)

pub stat_cut : {T E : Type 0} (result : Result T E) (a b : Option (List ℕ)) (view : View) (head : List ℕ) → IsErr result → head ≡ stat_head view
    → CameInFront a (head ++ (groups_of view ++ arrays_of view)) b → Sends a (stat_lines view) result b
stat_cut result a b view head failed is front =
    subst (λ t. Sends a t result b) (stat_text view head is)
    (sends_at_err result a b (head ++ ((groups_of view ++ arrays_of view) ++ codes "end\n")) failed
    (block_cut a b head (groups_of view ++ arrays_of view) (codes "end\n") (omega arith) front))

-- ---- masks

ascii_where : (text : List ℕ) → list_all (λ byte. nat_lt byte 128) text ≡ true → IsAscii text
ascii_where [] all = IsAscii-nil
ascii_where (byte ∷ text) all =
    let both = both_true (nat_lt byte 128) (list_all (λ b. nat_lt b 128) text) all in
    IsAscii-cons byte text (grind (arith, nat_tests, both.0)) (ascii_where text both.1)

digits_ascii : IsAscii lower_digits
digits_ascii = ascii_where lower_digits refl

pub digits_are_text : (bytes text : List ℕ) → text ≡ encode_lower bytes → IsUtf8 text
digits_are_text bytes text is = subst IsUtf8 (sym is) (IsUtf8-from_ascii (encode_lower bytes) (IsAscii-encode_with lower_digits bytes digits_ascii))

-- the last 32 of 48 bytes
last_bytes : (bytes : List ℕ) → length bytes ≡ 48 → take 32 (drop 16 bytes) ≡ drop 16 bytes
last_bytes bytes long = take_all 32 (drop 16 bytes) (omega (arith, length-drop 16 bytes, long))

pub told_front : (bytes : List ℕ) → length bytes ≡ 48 → true ≡ list_all (λ byte. byte == 0) (take 32 (drop 16 bytes)) → take 16 bytes ≡ told_bytes bytes
told_front bytes long all =
    let e : list_all (λ byte. byte == 0) (drop 16 bytes) ≡ true = sym (all ∙ ap (list_all (λ byte. byte == 0)) (last_bytes bytes long)) in rw e refl

pub told_whole : (bytes : List ℕ) → length bytes ≡ 48 → false ≡ list_all (λ byte. byte == 0) (take 32 (drop 16 bytes)) → bytes ≡ told_bytes bytes
told_whole bytes long some =
    let e : list_all (λ byte. byte == 0) (drop 16 bytes) ≡ false = sym (some ∙ ap (list_all (λ byte. byte == 0)) (last_bytes bytes long)) in rw e refl
