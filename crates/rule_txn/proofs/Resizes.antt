-- A task that moves to another size.
use Rattle.std.proofs.Common.{◌≡◌, ◌≢◌, ℕ, ◌+◌, ◌<◌, Bool, true, false, not, cond, List, [], ◌∷◌, ◌++◌, length, get_or, map, refl, ap, ap₂, sym, ◌∙◌, subst, arith, append_assoc, append-nil}
use Rattle.std.specs.Prelude.{Option, None, Some, is_some, option_map, Ok, Err}
use Rattle.std.specs.List.{All, AllPairs, flat_map, filter_map, position_or_len}
use Rattle.std.proofs.lemmas.List.Elements.{All-head, All-tail, All-map, All-weaker}
use Rattle.addr_translate.specs.Blocks.{Block}
use Rattle.addr_translate.specs.Geometry.{Geometry, array_count, bits_of, least_bits_of}
use Rattle.partition_pool.specs.Pools.{PoolState, least_bits}
use Rattle.lists.proofs.PlaceLemmas.{position_some}
use Rattle.reg_file.specs.Registers.{Dims}
use Rattle.pipe_core.specs.Rules.{IsShaped}
use Rattle.placer.specs.Sights.{Sight, region_in, region_for}
use Rattle.placer.specs.Placement.{is_full, first_full}
use Rattle.sketch_defs.specs.Tasks.{Sketch}
use Rattle.switch_model.specs.Records.{Row, Outline}
use Rattle.switch_model.specs.Sights.{Holding, live_holding, frozen_holding, held_by, all_held, row_uses, uses_by, all_uses, sight_of}
use Rattle.switch_model.specs.Soundness.{IsRow, IsTask, RisesIn, Sound}
use Rattle.switch_model.specs.Changes.{moved_row, moved_first, moved_rows, moved_outline}
use Rattle.switch_model.proofs.ListLemmas.{all_here, pairs_weaker, pairs_map, none_passes, mapped_position}
use Rattle.switch_model.proofs.EditLemmas.{held_between, uses_between, AreMoved, HasRegion, are_moved, moved_by, region_of}
use Rattle.switch_model.proofs.AddLemmas.{rises_differ}
use Rattle.switch_model.proofs.StandLemmas.{none_frozen, no_size}
use Rattle.switch_model.proofs.SightLemmas.{taken_seen}
use Rattle.rule_txn.specs.State.{State, there, Lent, Gives}
use Rattle.rule_txn.specs.Rows.{row_array, next_lease, fresh_leases, taken, CanTake, moved_all, CanMoveAll, first_turn, with_rows, less_rows, CanLeaveAll, CanSettleAll}
use Rattle.rule_txn.specs.Switch.{Stands, pools_for, groups_for}
use Rattle.rule_txn.specs.Fills.{holding_of, AreInFile}
use Rattle.rule_txn.proofs.Pools.{Differ, held_of, takes, can_take, pools_at}
use Rattle.rule_txn.proofs.Counts.{IsHeld}
use Rattle.rule_txn.proofs.Enters.{enters, exits}
use Rattle.rule_txn.proofs.Giving.{gives_region, lent, all_in_file, live_held}
use Rattle.rule_txn.proofs.Adds.{there_map}
use Rattle.rule_txn.proofs.Removed.{differ_all}

abbrev pub new_region : Geometry → Sight → ℕ → Row → Block
new_region geometry sight bits row = region_of (region_for geometry sight bits row.array)

abbrev pub new_lease : Geometry → Sight → ℕ → Row → Lent
new_lease geometry sight bits row = lent row.array (new_region geometry sight bits row)

-- a row that moves
pub record MayMove (geometry : Geometry) (sight : Sight) (bits : ℕ) (row : Row) : Type 0 where
  pub array : row.array < array_count geometry
  pub has : HasRegion geometry sight bits row
  pub thawed : row.frozen ≡ None

leases_are : (geometry : Geometry) (os : List Outline) (pools : List PoolState) (bits : ℕ) (slots : List (Option Row)) → pools ≡ pools_for geometry (all_held os)
    → All (MayMove geometry (sight_of geometry os) bits) (there slots)
    → map (next_lease bits pools) (map row_array slots) ≡ map (option_map (new_lease geometry (sight_of geometry os) bits)) slots
leases_are geometry os pools bits [] e each = refl
leases_are geometry os pools bits (None ∷ slots) e each = ap (λ xs. None ∷ xs) (leases_are geometry os pools bits slots e each)
leases_are geometry os pools bits (Some row ∷ slots) e each =
    let is = All-head (MayMove geometry (sight_of geometry os) bits) row (there slots) each in
    ap₂ (λ x xs. x ∷ xs) (gives_region geometry os pools bits row.array (new_region geometry (sight_of geometry os) bits row) e is.array is.has).1
    (leases_are geometry os pools bits slots e (All-tail (MayMove geometry (sight_of geometry os) bits) row (there slots) each))

give_all : (geometry : Geometry) (os : List Outline) (pools : List PoolState) (bits : ℕ) (slots : List (Option Row)) → pools ≡ pools_for geometry (all_held os)
    → All (MayMove geometry (sight_of geometry os) bits) (there slots) → All (Gives bits pools) (there (map row_array slots))
give_all geometry os pools bits slots e each =
    subst (All (Gives bits pools)) (sym (there_map (λ (r : Row). r.array) slots))
    (All-map (Gives bits pools) (λ (r : Row). r.array) (there slots)
    (All-weaker (MayMove geometry (sight_of geometry os) bits) (λ (r : Row). Gives bits pools r.array)
    (λ r is. (gives_region geometry os pools bits r.array (new_region geometry (sight_of geometry os) bits r) e is.array is.has).0) (there slots) each))

may_move_all : (geometry : Geometry) (sight : Sight) (bits : ℕ) (slots : List (Option Row)) → All (MayMove geometry sight bits) (there slots)
    → CanMoveAll slots (map (option_map (new_lease geometry sight bits)) slots)
may_move_all geometry sight bits [] each = tt
may_move_all geometry sight bits (None ∷ slots) each = (tt, may_move_all geometry sight bits slots each)
may_move_all geometry sight bits (Some row ∷ slots) each =
    let is = All-head (MayMove geometry sight bits) row (there slots) each in
    (record { same = refl; thawed = is.thawed }, may_move_all geometry sight bits slots (All-tail (MayMove geometry sight bits) row (there slots) each))

moved_are : (geometry : Geometry) (sight : Sight) (bits : ℕ) (slots : List (Option Row))
    → there (moved_all slots (map (option_map (new_lease geometry sight bits)) slots)) ≡ map (moved_by geometry sight bits) (there slots)
moved_are geometry sight bits [] = refl
moved_are geometry sight bits (None ∷ slots) = moved_are geometry sight bits slots
moved_are geometry sight bits (Some row ∷ slots) = ap (λ rs. moved_by geometry sight bits row ∷ rs) (moved_are geometry sight bits slots)

new_held : (geometry : Geometry) (sight : Sight) (bits : ℕ) (rows : List Row)
    → map holding_of (map (new_lease geometry sight bits) rows) ≡ map live_holding (map (moved_by geometry sight bits) rows)
new_held geometry sight bits [] = refl
new_held geometry sight bits (row ∷ rows) = ap (λ hs. live_holding (moved_by geometry sight bits row) ∷ hs) (new_held geometry sight bits rows)

moved_frozen : (geometry : Geometry) (sight : Sight) (bits : ℕ) (rows : List Row)
    → filter_map frozen_holding (map (moved_by geometry sight bits) rows) ≡ map live_holding rows
moved_frozen geometry sight bits [] = refl
moved_frozen geometry sight bits (row ∷ rows) = ap (λ hs. live_holding row ∷ hs) (moved_frozen geometry sight bits rows)

moved_uses : (geometry : Geometry) (sight : Sight) (bits : ℕ) (rows : List Row)
    → flat_map (row_uses geometry) (map (moved_by geometry sight bits) rows) ≡ flat_map (row_uses geometry) rows
moved_uses geometry sight bits [] = refl
moved_uses geometry sight bits (row ∷ rows) = ap (λ us. row_uses geometry row ++ us) (moved_uses geometry sight bits rows)

no_frozen : (o : Option ℕ) → is_some o ≡ false → o ≡ None
no_frozen None e = refl
no_frozen (Some x) e = absurd (cc)

pub record Resizes (front back : List Outline) (o : Outline) (state : State) (bits size : ℕ) (slots : List (Option Row)) (news : List Row) : Type 0 where
  pub can : CanTake bits state.pools (map row_array slots)
  pub file : (dims : Dims) → IsShaped state.geometry dims → AreInFile dims (fresh_leases bits state.pools (map row_array slots))
  pub fresh : held_of (fresh_leases bits state.pools (map row_array slots)) ≡ map live_holding news
  pub moves : CanMoveAll slots (fresh_leases bits state.pools (map row_array slots))
  pub leave : CanLeaveAll state.geometry state.tables slots
  pub settle : CanSettleAll state.geometry (record o.task { size = size }) first_turn (less_rows state.tables slots) (moved_all slots (fresh_leases bits state.pools (map row_array slots)))
  pub moved : there (moved_all slots (fresh_leases bits state.pools (map row_array slots))) ≡ news
  pub stands : Stands (front ++ moved_outline (record o.task { size = size }) news o ∷ back) (record state {
    pools = taken (fresh_leases bits state.pools (map row_array slots)) state.pools;
    tables = with_rows (record o.task { size = size }) first_turn (less_rows state.tables slots) (moved_all slots (fresh_leases bits state.pools (map row_array slots)));
  })

pub resizes : (front back : List Outline) (o : Outline) (state : State) (bits size : ℕ) (slots : List (Option Row)) (news : List Row)
    → Sound state.geometry (front ++ o ∷ back) → Stands (front ++ o ∷ back) state → there slots ≡ o.rows → is_some o.frozen ≡ false
    → moved_rows state.geometry (sight_of state.geometry (front ++ o ∷ back)) bits 0 o.rows ≡ Ok news
    → Sound state.geometry (front ++ moved_outline (record o.task { size = size }) news o ∷ back)
    → Resizes front back o state bits size slots news
resizes front back o state bits size slots news sound stands rows free moves later =
    let geometry = state.geometry in
    let os = front ++ o ∷ back in
    let sight : Sight = sight_of geometry os in
    let task : Sketch = record o.task { size = size } in
    let p : Outline = moved_outline task news o in
    let is : IsTask geometry o = all_here (IsTask geometry) front back o sound.tasks in
    let now : IsTask geometry p = all_here (IsTask geometry) front back p later.tasks in
    let are : AreMoved geometry sight bits o.rows news = are_moved geometry sight bits 0 o.rows news moves in
    let none : All (λ (row : Row). row.frozen ≡ None) o.rows =
    All-weaker (IsRow geometry o) (λ (row : Row). row.frozen ≡ None) (λ row h. no_size row.frozen (h.frozen_size ∙ no_frozen o.frozen free)) o.rows is.each in
    let may : All (MayMove geometry sight bits) o.rows =
    (λ k d lt. record { array = (let h : IsRow geometry o (get_or o.rows k d) = is.each k d lt in h.array); has = are.each k d lt; thawed = none k d lt }) in
    let each : All (MayMove geometry sight bits) (there slots) = subst (All (MayMove geometry sight bits)) (sym rows) may in
    let different : AllPairs (λ (a b : ℕ). a ≢ b) (there (map row_array slots)) =
    subst (AllPairs (λ (a b : ℕ). a ≢ b)) (sym (there_map (λ (r : Row). r.array) slots ∙ ap (map (λ (r : Row). r.array)) rows))
    (pairs_map (λ (a b : ℕ). a ≢ b) (λ (r : Row). r.array) o.rows
    (pairs_weaker (RisesIn geometry o.task.kind) (λ (one two : Row). one.array ≢ two.array) (λ one two r. rises_differ geometry o.task.kind one two r) o.rows is.rising)) in
    let can = can_take bits state.pools (map row_array slots) (give_all geometry os state.pools bits slots stands.pools each) different in
    let xs : List (Option Lent) = fresh_leases bits state.pools (map row_array slots) in
    let xs_are : xs ≡ map (option_map (new_lease geometry sight bits)) slots = can.1 ∙ leases_are geometry os state.pools bits slots stands.pools each in
    let news_are : map (moved_by geometry sight bits) (there slots) ≡ news = ap (map (moved_by geometry sight bits)) rows ∙ sym are.are in
    let moved_rows_are : there (moved_all slots xs) ≡ news = ap (λ ys. there (moved_all slots ys)) xs_are ∙ moved_are geometry sight bits slots ∙ news_are in
    let fresh : held_of xs ≡ map live_holding news =
    ap held_of xs_are ∙ ap (map holding_of) (there_map (new_lease geometry sight bits) slots) ∙ new_held geometry sight bits (there slots) ∙ ap (map live_holding) news_are in
    let fh = all_held front in
    let bh = all_held back in
    let own : held_by o ≡ map live_holding o.rows = ap (λ hs. map live_holding o.rows ++ hs) (none_frozen o.rows none) ∙ append-nil (map live_holding o.rows) in
    let before : all_held os ≡ fh ++ (map live_holding o.rows ++ bh) = held_between front back o ∙ ap (λ hs. fh ++ (hs ++ bh)) own in
    let frozen_now : filter_map frozen_holding news ≡ map live_holding o.rows = ap (filter_map frozen_holding) are.are ∙ moved_frozen geometry sight bits o.rows in
    let after : all_held (front ++ p ∷ back) ≡ fh ++ (held_of xs ++ (map live_holding o.rows ++ bh)) =
    held_between front back p
    ∙ ap (λ hs. fh ++ hs) (ap₂ (λ ls fs. (ls ++ fs) ++ bh) (sym fresh) frozen_now ∙ append_assoc (held_of xs) (map live_holding o.rows) bh) in
    let pools = takes geometry fh (map live_holding o.rows ++ bh) xs state.pools (stands.pools ∙ ap (pools_for geometry) before)
    (subst (All (λ (h : Holding). h.array < array_count geometry)) (sym fresh)
    (All-weaker (IsHeld geometry) (λ (h : Holding). h.array < array_count geometry) (λ h k. k.array) (map live_holding news) (live_held geometry p news now.each)))
    (subst (AllPairs Differ) after (differ_all geometry (front ++ p ∷ back) later))
    ∙ ap (pools_for geometry) (sym after) in
    let gone = exits geometry front back o slots state.tables sound rows stands.tables in
    let entries = enters geometry front back p (moved_all slots xs) (less_rows state.tables slots) later moved_rows_are gone.1 in
    let uses : uses_by geometry o ≡ uses_by geometry p = sym (moved_uses geometry sight bits o.rows) ∙ ap (flat_map (row_uses geometry)) (sym are.are) in
    record {
      can = can.0;
      file = λ dims shaped. all_in_file geometry dims xs shaped (subst (All (IsHeld geometry)) (sym fresh) (live_held geometry p news now.each));
      fresh = fresh;
      moves = subst (CanMoveAll slots) (sym xs_are) (may_move_all geometry sight bits slots each);
      leave = gone.0;
      settle = entries.0;
      moved = moved_rows_are;
      stands = record {
        pools = pools;
        tables = entries.1;
        groups = stands.groups ∙ ap (groups_for geometry)
            (uses_between geometry front back o ∙ ap (λ us. all_uses geometry front ++ (us ++ all_uses geometry back)) uses ∙ sym (uses_between geometry front back p));
      };
    }

-- ---- whether there is room

is_region : (o : Option Block) → not (is_some o) ≡ false → (region : Block) × (o ≡ Some region)
is_region None e = absurd (cc)
is_region (Some region) e = (region, refl)

no_region : (o : Option Block) → not (is_some o) ≡ true → o ≡ None
no_region None e = refl
no_region (Some region) e = absurd (cc)

full_is : (geometry : Geometry) (os : List Outline) (pools : List PoolState) (bits a : ℕ) → pools ≡ pools_for geometry (all_held os) → a < array_count geometry
    → is_full pools bits a ≡ not (is_some (region_for geometry (sight_of geometry os) bits a))
full_is geometry os pools bits a e lt =
    ap (λ (p : PoolState). not (is_some (region_in p.bits (least_bits p) p.taken bits))) (pools_at geometry (all_held os) pools a e lt)
    ∙ ap (λ taken. not (is_some (region_in (bits_of geometry a) (least_bits_of geometry a) taken bits))) (sym (taken_seen geometry os a lt))

-- no row's array is full: all move
pub all_move : (geometry : Geometry) (os : List Outline) (pools : List PoolState) (bits k : ℕ) (rows : List Row) → pools ≡ pools_for geometry (all_held os)
    → All (λ (row : Row). row.array < array_count geometry) rows → All (λ (row : Row). is_full pools bits row.array ≡ false) rows
    → (news : List Row) × (moved_rows geometry (sight_of geometry os) bits k rows ≡ Ok news)
all_move geometry os pools bits k [] e exist free = ([], refl)
all_move geometry os pools bits k (row ∷ rows) e exist free =
    let rest = all_move geometry os pools bits (k + 1) rows e (All-tail (λ (r : Row). r.array < array_count geometry) row rows exist)
    (All-tail (λ (r : Row). is_full pools bits r.array ≡ false) row rows free) in
    let full = full_is geometry os pools bits row.array e (All-head (λ (r : Row). r.array < array_count geometry) row rows exist) in
    let region = is_region (region_for geometry (sight_of geometry os) bits row.array) (sym full ∙ All-head (λ (r : Row). is_full pools bits r.array ≡ false) row rows free) in
    (moved_row row region.0 ∷ rest.0, ap₂ (λ o r. moved_first k row o r) region.1 rest.1)

-- the first row whose array is full
first_stays : (geometry : Geometry) (os : List Outline) (pools : List PoolState) (bits k i : ℕ) (rows : List Row) → pools ≡ pools_for geometry (all_held os)
    → All (λ (row : Row). row.array < array_count geometry) rows → i ≡ position_or_len (λ (row : Row). is_full pools bits row.array) rows → i < length rows
    → moved_rows geometry (sight_of geometry os) bits k rows ≡ Err (k + i)
first_stays geometry os pools bits k i [] e exist at lt = absurd (omega (arith, lt))
first_stays geometry os pools bits k i (row ∷ rows) e exist at lt =
    by (λ j f g. first_stays geometry os pools bits (k + 1) j rows e tail f g) (is_full pools bits row.array) refl at
  where
    tail : All (λ (r : Row). r.array < array_count geometry) rows
    tail = All-tail (λ (r : Row). r.array < array_count geometry) row rows exist

    full : is_full pools bits row.array ≡ not (is_some (region_for geometry (sight_of geometry os) bits row.array))
    full = full_is geometry os pools bits row.array e (All-head (λ (r : Row). r.array < array_count geometry) row rows exist)

    by : ((j : ℕ) → j ≡ position_or_len (λ (r : Row). is_full pools bits r.array) rows → j < length rows → moved_rows geometry (sight_of geometry os) bits (k + 1) rows ≡ Err (k + 1 + j))
        → (b : Bool) → is_full pools bits row.array ≡ b → i ≡ cond (not b) (1 + position_or_len (λ (r : Row). is_full pools bits r.array) rows) 0
        → moved_first k row (region_for geometry (sight_of geometry os) bits row.array) (moved_rows geometry (sight_of geometry os) bits (k + 1) rows) ≡ Err (k + i)
    by rest true f g =
        let none = no_region (region_for geometry (sight_of geometry os) bits row.array) (sym full ∙ f) in
        let same : k ≡ k + i = omega (arith, g) in
        ap (λ o. moved_first k row o (moved_rows geometry (sight_of geometry os) bits (k + 1) rows)) none ∙ ap Err same
    by rest false f g =
        let j = position_or_len (λ (r : Row). is_full pools bits r.array) rows in
        let region = is_region (region_for geometry (sight_of geometry os) bits row.array) (sym full ∙ f) in
        let same : k + 1 + j ≡ k + i = omega (arith, g) in
        ap₂ (λ o r. moved_first k row o r) region.1 (rest j refl (omega (arith, g, lt))) ∙ ap Err same

pub room_some : (geometry : Geometry) (os : List Outline) (pools : List PoolState) (bits i : ℕ) (rows : List Row) → pools ≡ pools_for geometry (all_held os)
    → All (λ (row : Row). row.array < array_count geometry) rows → first_full pools bits (map (λ (row : Row). row.array) rows) ≡ Some i
    → moved_rows geometry (sight_of geometry os) bits 0 rows ≡ Err i
room_some geometry os pools bits i rows e exist full =
    let at = position_some (λ (row : Row). is_full pools bits row.array) rows i (sym (sym (mapped_position (is_full pools bits) (λ (row : Row). row.array) rows) ∙ full)) in
    let same : 0 + i ≡ i = omega arith in
    first_stays geometry os pools bits 0 i rows e exist at.0 at.1 ∙ ap Err same

pub room_none : (geometry : Geometry) (os : List Outline) (pools : List PoolState) (bits : ℕ) (rows : List Row) → pools ≡ pools_for geometry (all_held os)
    → All (λ (row : Row). row.array < array_count geometry) rows → first_full pools bits (map (λ (row : Row). row.array) rows) ≡ None
    → (news : List Row) × (moved_rows geometry (sight_of geometry os) bits 0 rows ≡ Ok news)
room_none geometry os pools bits rows e exist full =
    all_move geometry os pools bits 0 rows e exist
    (none_passes (λ (row : Row). is_full pools bits row.array) rows (ap is_some (sym (mapped_position (is_full pools bits) (λ (row : Row). row.array) rows) ∙ full)))
