-- Tasks found in a list, and what a fit task has.
use Rattle.std.proofs.Common.{◌≡◌, ℕ, zero, suc, ◌<◌, ◌≤◌, if◌then◌else◌, Bool, true, false, cond, not, nat_lt, nat_le, List, [], ◌∷◌, length, map, slice_index_or, Option, None, Some, option_map, IfSome, refl, sym, ap, ◌∙◌, arith}
use Rattle.std.specs.List.{All, find, position, position_or_len, slice_get}
use Rattle.std.proofs.lemmas.List.Elements.{All-head, All-tail}
use Rattle.std.specs.Str.{bytes_eq}
use Rattle.std.proofs.lemmas.List.Folds.{find_at}
use Rattle.std.proofs.lemmas.Bool.{cond_both, false≢true}
use Rattle.std.proofs.lemmas.Bool.Decides.{nat_tests}
use Rattle.addr_translate.specs.Geometry.{array_count}
use Rattle.sketch_defs.specs.declared.kinds.Kind.{Kind}
use Rattle.sketch_defs.specs.declared.kinds.Kind.TheVariants.{Cms, SumaxSum, SumaxMax, Bloom, Mrac, Hll, FlagOr, FlagAnd}
use Rattle.sketch_defs.specs.declared.tasks.TaskFault.{TaskFault}
use Rattle.sketch_defs.specs.declared.tasks.TaskFault.TheVariants as faults
use Rattle.sketch_defs.specs.Tasks.{Sketch, first_fault, allows_rows, most_rows}
use Rattle.reg_file.specs.Registers.{Contents}
use Rattle.readout.specs.PlacedTasks.{PlacedTask, View, task_in, place_in, is_named, task_named, part_in, parts_in, live_bits, frozen_bits, IsPlaced, IsPlacedTask, IsFit, no_placed_task, no_place}
use Rattle.readout.specs.Answers.{part_named}
use Rattle.readout.specs.Parts.{SketchPart}
use Rattle.sketch_defs.proofs.NameLemmas.{both_true}

-- ---- found

get_inside : {X : Type 0} (xs : List X) (i : ℕ) (d : X) → i < length xs → slice_get xs i ≡ Some (slice_index_or xs i d)
get_inside [] i d h = absurd (omega arith)
get_inside (x ∷ xs) zero d h = refl
get_inside (x ∷ xs) (suc i) d h = get_inside xs i d (omega arith)

get_outside : {X : Type 0} (xs : List X) (i : ℕ) → length xs ≤ i → slice_get xs i ≡ None
get_outside [] i h = refl
get_outside (x ∷ xs) zero h = absurd (omega arith)
get_outside (x ∷ xs) (suc i) h = get_outside xs i (omega arith)

get_where : {X : Type 0} (xs : List X) (i : ℕ) (d : X)
    → slice_get xs i ≡ option_map (λ k. slice_index_or xs k d) (cond (nat_lt i (length xs)) (Some i) None)
get_where xs i d = cond_both (nat_lt i (length xs)) (Some i) None (λ o. slice_get xs i ≡ option_map (λ k. slice_index_or xs k d) o)
    (λ e. get_inside xs i d (grind (arith, nat_tests, e)))
    (λ e. get_outside xs i (grind (arith, nat_tests, e)))

pub found_at : (name : List ℕ) (view : View) → task_named name view ≡ option_map (task_in view) (position (is_named name) view.tasks)
found_at name view =
    find_at (is_named name) view.tasks ∙ get_where view.tasks (position_or_len (is_named name) view.tasks) no_placed_task

part_by : (told : Contents) (name : List ℕ) (tasks : List PlacedTask)
    → find (λ (part : SketchPart). bytes_eq part.task.name name) (map (part_in told) tasks) ≡ option_map (part_in told) (find (is_named name) tasks)
part_by told name [] = refl
part_by told name (placed ∷ tasks) =
    cond_both (is_named name placed) (Some (part_in told placed)) (find (λ (part : SketchPart). bytes_eq part.task.name name) (map (part_in told) tasks))
    (λ o. o ≡ option_map (part_in told) (cond (is_named name placed) (Some placed) (find (is_named name) tasks)))
    (λ e. rw e refl) (λ e. rw e (part_by told name tasks))

map_both : (told : Contents) (view : View) (found : Option ℕ)
    → option_map (part_in told) (option_map (task_in view) found) ≡ option_map (λ at. part_in told (task_in view at)) found
map_both told view None = refl
map_both told view (Some at) = refl

-- the part of a task that is found
pub part_at : (told : Contents) (name : List ℕ) (view : View)
    → part_named name (parts_in told view) ≡ option_map (λ at. part_in told (task_in view at)) (position (is_named name) view.tasks)
part_at told name view =
    part_by told name view.tasks ∙ (ap (option_map (part_in told)) (found_at name view) ∙ map_both told view (position (is_named name) view.tasks))

below_where : (i n : ℕ) → IfSome (cond (nat_lt i n) (Some i) None) (λ at. at < n)
below_where i n = cond_both (nat_lt i n) (Some i) None (λ o. IfSome o (λ at. at < n)) (λ e. grind (arith, nat_tests, e)) (λ e. tt)

pub found_below : (name : List ℕ) (tasks : List PlacedTask) → IfSome (position (is_named name) tasks) (λ at. at < length tasks)
found_below name tasks = below_where (position_or_len (is_named name) tasks) (length tasks)

-- ---- what a fit task has

placed_task_fit : (view : View) (at : ℕ) → IsFit view → at < length view.tasks → IsPlacedTask view.geometry (task_in view at)
placed_task_fit view at fit below = fit at no_placed_task below

pub rows_placed : (view : View) (at : ℕ) → IsFit view → at < length view.tasks → length (task_in view at).places ≡ (task_in view at).task.rows
rows_placed view at fit below = (placed_task_fit view at fit below).rows

pub row_placed : (view : View) (at row : ℕ) → IsFit view → at < length view.tasks → row < length (task_in view at).places
    → IsPlaced view.geometry (live_bits (task_in view at)) (frozen_bits (task_in view at)) (place_in view at row)
row_placed view at row fit below inside = (placed_task_fit view at fit below).places row no_place inside

pub array_exists : (view : View) (at row : ℕ) → IsFit view → at < length view.tasks → row < length (task_in view at).places
    → (place_in view at row).array < array_count view.geometry
array_exists view at row fit below inside = (row_placed view at row fit below inside).array

pub ranks_bits : (view : View) (at : ℕ) → IsFit view → at < length view.tasks → (task_in view at).task.kind ≡ Hll → 4 ≤ live_bits (task_in view at)
ranks_bits view at fit below is = (placed_task_fit view at fit below).ranks is

-- a task that is found has room where all have
pub found_within : (name : List ℕ) (tasks : List PlacedTask) (most : ℕ) → All (λ placed. live_bits placed ≤ most) tasks
    → IfSome (find (is_named name) tasks) (λ placed. live_bits placed ≤ most)
found_within name [] most room = tt
found_within name (placed ∷ tasks) most room =
    elim (is_named name placed) as (λ b. IfSome (cond b (Some placed) (find (is_named name) tasks)) (λ placed. live_bits placed ≤ most)) [
      | true ↦ All-head (λ placed. live_bits placed ≤ most) placed tasks room
      | false ↦ found_within name tasks most (All-tail (λ placed. live_bits placed ≤ most) placed tasks room)
    ]
