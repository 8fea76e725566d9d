-- A view of two tasks reads registers that there are, and it is fit.
use Rattle.std.proofs.Common.{◌≡◌, ℕ, ◌==◌, if◌then◌else◌, zero, suc, ◌+◌, ◌^◌, ◌<◌, ◌≤◌, true, is_some, [], ◌∷◌, length, slice_index_or, Option, None, Some, option_map, unwrap_or, IfSome, refl, subst, sym, arith}
use Rattle.std.specs.List.{All}
use Rattle.std.proofs.lemmas.Bool.{false≢true}
use Rattle.std.proofs.Math.Pow.{pow_mono}
use Rattle.addr_translate.specs.Blocks.{Block}
use Rattle.addr_translate.specs.Geometry.{Geometry, bits_of, equal_geometry, greatest_bits, groups_ended}
use Rattle.addr_translate.proofs.GeometryLemmas.{bits_within}
use Rattle.reg_file.specs.Registers.{Dims, InFile}
use Rattle.group_keys.specs.declared.uses.KeyUse.{KeyUse}
use Rattle.group_keys.specs.declared.uses.KeyUse.TheVariants.{Single, Pair}
use Rattle.sketch_defs.specs.declared.kinds.Kind.{Kind}
use Rattle.sketch_defs.specs.declared.kinds.Kind.TheVariants.{Cms, Hll}
use Rattle.sketch_defs.specs.Tasks.{Sketch}
use Rattle.readout.specs.declared.views.Placed.{Placed}
use Rattle.readout.specs.declared.views.Side.{Side}
use Rattle.readout.specs.declared.views.Side.TheVariants.{Live, Frozen}
use Rattle.readout.specs.PlacedTasks.{View, task_in, place_in, block_of, live_bits, HasSide, IsFit, IsPlaced, IsPlacedTask, IsShaped, LiesIn}
use Rattle.readout.proofs.PlacedTaskLemmas.{row_placed}

frozen_inside : (geometry : Geometry) (array : ℕ) (frozen : Option Block) (region : Block) (index : ℕ)
    → is_some frozen ≡ true → IfSome frozen (LiesIn geometry array)
    → index < 2 ^ (unwrap_or frozen region).bits → (unwrap_or frozen region).base + index < 2 ^ bits_of geometry array
frozen_inside geometry array None region index some lies below = absurd (false≢true some)
frozen_inside geometry array (Some block) region index some lies below = omega (arith, lies, below)

frozen_there : (one other : Option Block) → option_map (λ (block : Block). block.bits) other ≡ option_map (λ (block : Block). block.bits) one → is_some one ≡ true → is_some other ≡ true
frozen_there None other same some = absurd (false≢true some)
frozen_there (Some block) None same some = absurd (cc)
frozen_there (Some block) (Some other) same some = refl

inside : (view : View) (at row : ℕ) (side : Side) (index : ℕ) → IsFit view → at < length view.tasks
    → row < length (task_in view at).places → HasSide side (task_in view at)
    → index < 2 ^ (block_of side (place_in view at row)).bits
    → (block_of side (place_in view at row)).base + index < 2 ^ bits_of view.geometry (place_in view at row).array
inside view at row Live index fit below within has small =
    let placed = row_placed view at row fit below within in omega (arith, placed.region, small)
inside view at row Frozen index fit below within has small =
    let placed = row_placed view at row fit below within in
    let place = place_in view at row in
    frozen_inside view.geometry place.array place.frozen place.region index
    (frozen_there (place_in view at 0).frozen place.frozen placed.frozen_size has) placed.frozen_region small

pub register_exists : (view : View) (dims : Dims) (at row : ℕ) (side : Side) (index : ℕ) → IsFit view
    → IsShaped view.geometry dims → at < length view.tasks → row < length (task_in view at).places → HasSide side (task_in view at)
    → index < 2 ^ (block_of side (place_in view at row)).bits
    → InFile dims (place_in view at row).array ((block_of side (place_in view at row)).base + index)
register_exists view dims at row side index fit shaped below within has small =
    let placed = row_placed view at row fit below within in
    let place = place_in view at row in
    let bits : bits_of view.geometry place.array ≤ dims.bits = omega (arith, bits_within view.geometry place.array, shaped.bits) in
    let room : 2 ^ bits_of view.geometry place.array ≤ 2 ^ dims.bits = pow_mono {i = bits_of view.geometry place.array} {j = dims.bits} bits in
    record {
      in_arrays = omega (arith, placed.array, shaped.arrays);
      in_array = omega (arith, inside view at row side index fit below within has small, room);
    }

pub register_small : (view : View) (at row : ℕ) (side : Side) (index : ℕ) → greatest_bits view.geometry ≤ 20 → IsFit view
    → at < length view.tasks → row < length (task_in view at).places → HasSide side (task_in view at)
    → index < 2 ^ (block_of side (place_in view at row)).bits
    → (block_of side (place_in view at row)).base + index < 2 ^ 32
register_small view at row side index few fit below within has small =
    let place = place_in view at row in
    let room : 2 ^ bits_of view.geometry place.array ≤ 2 ^ 20 =
    pow_mono {i = bits_of view.geometry place.array} {j = 20} (omega (arith, bits_within view.geometry place.array, few)) in
    omega (arith, inside view at row side index fit below within has small, room)

-- ---- two tasks that fit

abbrev four_arrays : Geometry
four_arrays = equal_geometry 2 (record { cmus = 2; units = 2; bits = 10 }) 5

-- a row of 4 cells, and its frozen row of 2
abbrev row_at : ℕ → ℕ → KeyUse → ℕ → Placed
row_at array base keys frozen = record {
  array = array;
  region = record { base = base; bits = 2 };
  keys = keys;
  frozen = Some (record { base = frozen; bits = 1 });
}

abbrev lone_row : ℕ → Placed
lone_row bits = record { array = 0; region = record { base = 0; bits = bits }; keys = Single 0; frozen = None }

first_placed : IsPlaced four_arrays 2 (Some 1) (row_at 1 32 (Single 0) 8)
unfolding groups_ended
first_placed = record { array = omega arith; region = omega arith; bits_are = refl; frozen_region = omega arith; frozen_size = refl }

second_placed : IsPlaced four_arrays 2 (Some 1) (row_at 3 64 (Pair 0 1) 16)
unfolding groups_ended
second_placed = record { array = omega arith; region = omega arith; bits_are = refl; frozen_region = omega arith; frozen_size = refl }

third_placed : (bits : ℕ) → bits ≤ 9 → IsPlaced four_arrays bits None (lone_row bits)
unfolding groups_ended
third_placed bits few =
    let room : 2 ^ bits ≤ 2 ^ 10 = pow_mono {i = bits} {j = 10} (omega arith) in
    record { array = omega arith; region = omega (arith, room); bits_are = refl; frozen_region = tt; frozen_size = refl }

both_placed : (k : ℕ) (d : Placed) → k < 2 → IsPlaced four_arrays 2 (Some 1) (slice_index_or (row_at 1 32 (Single 0) 8 ∷ row_at 3 64 (Pair 0 1) 16 ∷ []) k d)
both_placed zero d h = first_placed
both_placed (suc zero) d h = second_placed
both_placed (suc (suc k)) d h = absurd (omega arith)

lone_placed : (bits : ℕ) → bits ≤ 9 → (k : ℕ) (d : Placed) → k < 1 → IsPlaced four_arrays bits None (slice_index_or (lone_row bits ∷ []) k d)
lone_placed bits few zero d h = third_placed bits few
lone_placed bits few (suc k) d h = absurd (omega arith)

no_ranks : (kind : Kind) (bits : ℕ) → kind ≡ Cms → kind ≡ Hll → 4 ≤ bits
no_ranks kind bits one other = absurd (cc)

hot_fits : (hot : Sketch) → hot.rows ≡ 2 → hot.size ≡ 4 → hot.kind ≡ Cms → IsPlacedTask four_arrays (record { task = hot; places = row_at 1 32 (Single 0) 8 ∷ row_at 3 64 (Pair 0 1) 16 ∷ [] })
hot_fits hot rows size kind = record { rows = sym rows; places = both_placed; size = size; most = omega arith; ranks = no_ranks hot.kind 2 kind }

other_fits : (other : Sketch) (bits : ℕ) → other.rows ≡ 1 → other.size ≡ 2 ^ bits → bits ≤ 9 → (other.kind ≡ Hll → 4 ≤ bits)
    → IsPlacedTask four_arrays (record { task = other; places = lone_row bits ∷ [] })
other_fits other bits rows size few ranks =
    record { rows = sym rows; places = lone_placed bits few; size = size; most = omega arith; ranks = ranks }

two_fit : (hot other : Sketch) (bits : ℕ) → hot.rows ≡ 2 → hot.size ≡ 4 → hot.kind ≡ Cms → other.rows ≡ 1 → other.size ≡ 2 ^ bits → bits ≤ 9
    → (other.kind ≡ Hll → 4 ≤ bits)
    → All (IsPlacedTask four_arrays) ((record { task = hot; places = row_at 1 32 (Single 0) 8 ∷ row_at 3 64 (Pair 0 1) 16 ∷ [] }) ∷ (record { task = other; places = lone_row bits ∷ [] }) ∷ [])
two_fit hot other bits a b c d e f h zero x inside = hot_fits hot a b c
two_fit hot other bits a b c d e f h (suc zero) x inside = other_fits other bits d e f h
two_fit hot other bits a b c d e f h (suc (suc k)) x inside = absurd (omega arith)

pub view_fit : (hot other : Sketch) (bits : ℕ) (first second third : Placed) → first ≡ row_at 1 32 (Single 0) 8 → second ≡ row_at 3 64 (Pair 0 1) 16 → third ≡ lone_row bits
    → hot.rows ≡ 2 → hot.size ≡ 4 → hot.kind ≡ Cms → other.rows ≡ 1 → other.size ≡ 2 ^ bits → bits ≤ 9 → (other.kind ≡ Hll → 4 ≤ bits)
    → All (IsPlacedTask four_arrays) ((record { task = hot; places = first ∷ second ∷ [] }) ∷ (record { task = other; places = third ∷ [] }) ∷ [])
view_fit hot other bits first second third p q r a b c d e f h =
    subst (λ (x : Placed). All (IsPlacedTask four_arrays) ((record { task = hot; places = x ∷ second ∷ [] }) ∷ (record { task = other; places = third ∷ [] }) ∷ [])) (sym p)
    (subst (λ (x : Placed). All (IsPlacedTask four_arrays) ((record { task = hot; places = row_at 1 32 (Single 0) 8 ∷ x ∷ [] }) ∷ (record { task = other; places = third ∷ [] }) ∷ [])) (sym q)
    (subst (λ (x : Placed). All (IsPlacedTask four_arrays) ((record { task = hot; places = row_at 1 32 (Single 0) 8 ∷ row_at 3 64 (Pair 0 1) 16 ∷ [] }) ∷ (record { task = other; places = x ∷ [] }) ∷ []))
    (sym r) (two_fit hot other bits a b c d e f h)))

pub view_room : (hot other : Sketch) (bits : ℕ) (first second third : Placed) → first ≡ row_at 1 32 (Single 0) 8 → third ≡ lone_row bits → bits ≤ 9
    → All (λ placed. live_bits placed ≤ 9) ((record { task = hot; places = first ∷ second ∷ [] }) ∷ (record { task = other; places = third ∷ [] }) ∷ [])
view_room hot other bits first second third p r few zero x inside = rw p (omega arith)
view_room hot other bits first second third p r few (suc zero) x inside = rw r few
view_room hot other bits first second third p r few (suc (suc k)) x inside = absurd (omega arith)

-- ---- what the view shows

abbrev pub seen_of : Sketch → Sketch → Placed → Placed → Placed → View
seen_of hot other first second third = record {
  geometry = four_arrays;
  tasks = (record { task = hot; places = first ∷ second ∷ [] }) ∷ (record { task = other; places = third ∷ [] }) ∷ [];
  mask = λ group unit. if unit == 0 then Some hot.key else None;
  free = λ array. 7;
  largest = λ array. 4;
  rows = λ array. 1;
}
