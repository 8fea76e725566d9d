-- A row of SuMax-Sum finds, as its bound, the carry of the row before, which stands in an earlier group.
use Rattle.std.proofs.Common.{◌≡◌, ℕ, suc, ◌+◌, ◌-◌, ◌^◌, ◌<◌, ◌≤◌, ◌&&◌, Bool, true, false, List, [], ◌∷◌, ◌++◌, refl, ap, ap₂, sym, ◌∙◌, subst, arith, eq-eqb}
use Rattle.std.specs.Prelude.{◌⊎◌, Option, None, Some, nat_lt, if◌then◌else◌}
use Rattle.std.specs.List.{All, AllPairs, Contains, flat_map}
use Rattle.std.proofs.Common.{inl, inr}
use Rattle.std.proofs.Math.Pow.{pow-lt}
use Rattle.std.proofs.lemmas.Bool.{false≢true, cases_lt, ltb-true, ltb-false}
use Rattle.std.proofs.lemmas.List.Elements.{All-nil, All-cons, All-head, All-tail, All-append, All-contains, All-contains_itself}
use Rattle.addr_translate.specs.declared.shapes.GroupShape.{GroupShape}
use Rattle.addr_translate.specs.Geometry.{Geometry, groups_ended, group_number}
use Rattle.addr_translate.specs.Blocks.{Block}
use Rattle.pkt_headers.specs.declared.packets.Packet.{Packet}
use Rattle.stateful_ops.specs.Ops.{carry_of}
use Rattle.reg_file.specs.Registers.{Contents}
use Rattle.sketch_defs.specs.declared.kinds.Kind.{Kind}
use Rattle.sketch_defs.specs.declared.kinds.Kind.TheVariants.{SumaxSum}
use Rattle.sketch_defs.specs.Cells.{cell_max, bound_in, bound_at, index_at, cells_of}
use Rattle.sketch_defs.specs.Tasks.{Sketch}
use Rattle.task_filters.specs.Filters.{passes}
use Rattle.sketch_lower.proofs.CellLemmas.{place_lt, carry_is_bound}
use Rattle.switch_model.specs.Records.{Past, Part, Row, Record, Outline, outline, outlines}
use Rattle.switch_model.specs.Soundness.{IsRow, IsTask, RisesIn, Sound}
use Rattle.switch_model.specs.Packets.{Stand, live_stand, live_stands, frozen_stand, frozen_stands, past_stands, stands_by, all_stands, cells_at, HoldsCells, Layout, takes_on, call_of}
use Rattle.switch_model.proofs.ListLemmas.{pairs_head, pairs_tail, all_front, all_back}
use Rattle.switch_model.proofs.StandLemmas.{IsStand, stands_are}
use Rattle.switch_model.proofs.CallLemmas.{Takes, takes}

-- ---- arrays and groups

-- a later array stands in no earlier group
ended_rises : (groups : List GroupShape) (a b : ℕ) → a ≤ b → groups_ended groups a ≤ groups_ended groups b
unfolding groups_ended
ended_rises [] a b le = omega arith
ended_rises (g ∷ gs) a b le =
    by (λ one two. ended_rises gs (a - g.cmus) (b - g.cmus) (omega (arith, le))) (nat_lt a g.cmus) (nat_lt b g.cmus) refl refl where
      by : (g.cmus ≤ a → g.cmus ≤ b → groups_ended gs (a - g.cmus) ≤ groups_ended gs (b - g.cmus)) → (t u : Bool) → nat_lt a g.cmus ≡ t → nat_lt b g.cmus ≡ u
          → (if t then 0 else suc (groups_ended gs (a - g.cmus))) ≤ (if u then 0 else suc (groups_ended gs (b - g.cmus)))
      by rest true u e d = omega arith
      by rest false true e d = absurd (omega (arith, le, ltb-false a g.cmus e, ltb-true b g.cmus d))
      by rest false false e d = omega (arith, rest (ltb-false a g.cmus e) (ltb-false b g.cmus d))

-- and one of an earlier group has a smaller number
pub earlier_group : (geometry : Geometry) (a b : ℕ) → group_number geometry a < group_number geometry b → a < b
earlier_group geometry a b less = by (cases_lt a b) where
  by : (a < b) ⊎ (b ≤ a) → a < b
  by (inl h) = h
  by (inr le) = absurd (omega (arith, less, ended_rises geometry.groups b a le))

same_power : (a b : ℕ) → 2 ^ a ≡ 2 ^ b → a ≡ b
same_power a b same = by (cases_lt a b) (cases_lt b a) where
  by : (a < b) ⊎ (b ≤ a) → (b < a) ⊎ (a ≤ b) → a ≡ b
  by (inl less) other = absurd (let power : 2 ^ a < 2 ^ b = pow-lt less in omega arith)
  by (inr le) (inl less) = absurd (let power : 2 ^ b < 2 ^ a = pow-lt less in omega arith)
  by (inr le) (inr other) = omega arith

-- ---- the row before

-- among these the live row of the same task before this one: on this array, in an earlier group, with the same packets
pub record Follows (geometry : Geometry) (whole : List Stand) (s : Stand) (array : ℕ) : Type 0 where
  pub one : Stand
  pub among : Contains whole one
  pub live : one.live ≡ true
  pub on : one.array ≡ array
  pub task : one.task ≡ s.task
  pub packets : one.packets ≡ s.packets
  pub row : one.row + 1 ≡ s.row
  pub bits : one.region.bits ≡ s.region.bits
  pub earlier : group_number geometry array < group_number geometry s.array
  pub lower : array < s.array

pub record Chained (geometry : Geometry) (whole : List Stand) (s : Stand) : Type 0 where
  pub first : s.live ≡ true → s.before ≡ None → s.row ≡ 0
  pub later : s.live ≡ true → s.task.kind ≡ SumaxSum → (array : ℕ) → s.before ≡ Some array → Follows geometry whole s array

rises_groups : (geometry : Geometry) (kind : Kind) (one two : Row) → kind ≡ SumaxSum → RisesIn geometry kind one two
    → group_number geometry one.array < group_number geometry two.array
rises_groups geometry kind one two chained rises = subst (λ (k : Kind). RisesIn geometry k one two) chained rises

-- the rows behind one
chained_rows : (geometry : Geometry) (o : Outline) (part : Part) (whole : List Stand) (i : ℕ) (before : Option ℕ) (prev : Row) (rows : List Row) → part.task ≡ o.task
    → IsRow geometry o prev → All (IsRow geometry o) rows → AllPairs (RisesIn geometry o.task.kind) (prev ∷ rows)
    → Contains whole (live_stand part i before prev) → All (Contains whole) (live_stands part (i + 1) (Some prev.array) rows)
    → All (Chained geometry whole) (live_stands part (i + 1) (Some prev.array) rows)
chained_rows geometry o part whole i before prev [] same is each rising among others = All-nil (Chained geometry whole)
chained_rows geometry o part whole i before prev (row ∷ rows) same is each rising among others =
    let here : IsRow geometry o row = All-head (IsRow geometry o) row rows each in
    let s : Stand = live_stand part (i + 1) (Some prev.array) row in
    let rest : List Stand = live_stands part (i + 1 + 1) (Some row.array) rows in
    let rises : RisesIn geometry o.task.kind prev row = All-head (RisesIn geometry o.task.kind prev) row rows (pairs_head (RisesIn geometry o.task.kind) prev (row ∷ rows) rising) in
    All-cons (Chained geometry whole) s rest
    (record {
      first = λ live none. absurd (let never : Some prev.array ≡ None = none in cc);
      later = λ live chained array at.
          let on : prev.array ≡ array = (let both : Some prev.array ≡ Some array = at in cc) in
          let groups : group_number geometry prev.array < group_number geometry row.array =
          rises_groups geometry o.task.kind prev row (ap (λ (t : Sketch). t.kind) (sym same) ∙ chained) rises in
          let groups_ : group_number geometry array < group_number geometry row.array = subst (λ (a : ℕ). group_number geometry a < group_number geometry row.array) on groups in
          record {
            one = live_stand part i before prev;
            among = among;
            live = refl;
            on = on;
            task = refl;
            packets = refl;
            row = refl;
            bits = same_power prev.region.bits row.region.bits (is.live_size ∙ sym here.live_size);
            earlier = groups_;
            lower = earlier_group geometry array row.array groups_;
          };
    })
    (chained_rows geometry o part whole (i + 1) (Some prev.array) row rows same here (All-tail (IsRow geometry o) row rows each)
    (pairs_tail (RisesIn geometry o.task.kind) prev (row ∷ rows) rising) (All-head (Contains whole) s rest others) (All-tail (Contains whole) s rest others))

chained_live : (geometry : Geometry) (o : Outline) (part : Part) (whole : List Stand) (rows : List Row) → part.task ≡ o.task
    → All (IsRow geometry o) rows → AllPairs (RisesIn geometry o.task.kind) rows → All (Contains whole) (live_stands part 0 None rows)
    → All (Chained geometry whole) (live_stands part 0 None rows)
chained_live geometry o part whole [] same each rising among = All-nil (Chained geometry whole)
chained_live geometry o part whole (row ∷ rows) same each rising among =
    let s : Stand = live_stand part 0 None row in
    let rest : List Stand = live_stands part (0 + 1) (Some row.array) rows in
    All-cons (Chained geometry whole) s rest
    (record {
      first = λ live none. refl;
      later = λ live chained array is. absurd (let never : None ≡ Some array = is in cc);
    })
    (chained_rows geometry o part whole 0 None row rows same (All-head (IsRow geometry o) row rows each) (All-tail (IsRow geometry o) row rows each) rising
    (All-head (Contains whole) s rest among) (All-tail (Contains whole) s rest among))

frozen_chained : (geometry : Geometry) (whole : List Stand) (part : Part) (past : Past) (i : ℕ) (rows : List Row)
    → All (Chained geometry whole) (frozen_stands part past i rows)
frozen_chained geometry whole part past i [] = All-nil (Chained geometry whole)
frozen_chained geometry whole part past i (row ∷ rows) = by (frozen_chained geometry whole part past (i + 1) rows) row.frozen where
  by : All (Chained geometry whole) (frozen_stands part past (i + 1) rows) → (frozen : Option Block)
      → All (Chained geometry whole) (frozen_stand part past i row frozen ++ frozen_stands part past (i + 1) rows)
  by rest None = rest
  by rest (Some region) =
      let s : Stand = record { live = false; task = part.task; packets = past.packets; row = i; array = row.array; region = region; keys = row.keys; before = None } in
      All-cons (Chained geometry whole) s (frozen_stands part past (i + 1) rows)
      (record { first = λ live. absurd (false≢true live); later = λ live. absurd (false≢true live) }) rest

past_chained : (geometry : Geometry) (whole : List Stand) (part : Part) (past : Option Past) (rows : List Row)
    → All (Chained geometry whole) (past_stands part past rows)
past_chained geometry whole part None rows = All-nil (Chained geometry whole)
past_chained geometry whole part (Some past) rows = frozen_chained geometry whole part past 0 rows

chained_among : (geometry : Geometry) (whole : List Stand) (rs : List Record) → All (IsTask geometry) (outlines rs) → All (Contains whole) (flat_map stands_by rs)
    → All (Chained geometry whole) (flat_map stands_by rs)
chained_among geometry whole [] each among = All-nil (Chained geometry whole)
chained_among geometry whole (r ∷ rs) each among =
    let here : IsTask geometry (outline r) = All-head (IsTask geometry) (outline r) (outlines rs) each in
    let live : List Stand = live_stands r.part 0 None r.rows in
    let frozen : List Stand = past_stands r.part r.part.past r.rows in
    All-append (Chained geometry whole) (stands_by r) (flat_map stands_by rs)
    (All-append (Chained geometry whole) live frozen
    (chained_live geometry (outline r) r.part whole r.rows refl here.each here.rising
    (all_front (Contains whole) live frozen (all_front (Contains whole) (stands_by r) (flat_map stands_by rs) among)))
    (past_chained geometry whole r.part r.part.past r.rows))
    (chained_among geometry whole rs (All-tail (IsTask geometry) (outline r) (outlines rs) each) (all_back (Contains whole) (stands_by r) (flat_map stands_by rs) among))

-- of sound tasks each live row but the first follows another
pub stands_chained : (geometry : Geometry) (rs : List Record) → Sound geometry (outlines rs) → All (Chained geometry (all_stands rs)) (all_stands rs)
unfolding all_stands
stands_chained geometry rs sound = chained_among geometry (flat_map stands_by rs) rs sound.tasks (All-contains_itself (flat_map stands_by rs))

-- ---- the bound

-- what its operation on the registers hands on is the bound in the operation of the later row
pub before_hands_on : (geometry : Geometry) (hash_key : List ℕ) (rs : List Record) (packet : Packet) (contents : Contents) (s : Stand) (array : ℕ)
    → Sound geometry (outlines rs) → Layout hash_key rs contents → s.task.kind ≡ SumaxSum → (f : Follows geometry (all_stands rs) s array)
    → carry_of (call_of hash_key packet f.one).op (contents array (call_of hash_key packet f.one).addr)
    ≡ bound_at hash_key s.task s.region.bits (cells_at hash_key s) packet s.row
before_hands_on geometry hash_key rs packet contents s array sound layout chained f =
    let one : Stand = f.one in
    let is : IsStand geometry one = All-contains (IsStand geometry) (all_stands rs) one (stands_are geometry rs sound.tasks) f.among in
    let holds : HoldsCells hash_key contents one = All-contains (HoldsCells hash_key contents) (all_stands rs) one layout f.among in
    let place : ℕ = index_at hash_key one.task one.region.bits one.row packet in
    let inside : place < 2 ^ one.region.bits = place_lt hash_key one.task one.region.bits one.row packet (omega (arith, is.region.aligned.small)) in
    ap (λ a. carry_of (call_of hash_key packet one).op (contents a (one.region.base + place))) (sym f.on)
    ∙ ap (carry_of (call_of hash_key packet one).op) (holds place inside)
    ∙ carry_is_bound hash_key one.task one.region.bits one.packets packet one.row (ap (λ (t : Sketch). t.kind) f.task ∙ chained) is.row
    ∙ ap (λ n. bound_at hash_key one.task one.region.bits (cells_of hash_key one.task one.region.bits one.packets) packet n) f.row
    ∙ ap (λ t. bound_at hash_key t one.region.bits (cells_of hash_key t one.region.bits one.packets) packet s.row) f.task
    ∙ ap (λ b. bound_at hash_key s.task b (cells_of hash_key s.task b one.packets) packet s.row) f.bits
    ∙ ap (λ ps. bound_at hash_key s.task s.region.bits (cells_of hash_key s.task s.region.bits ps) packet s.row) f.packets

-- it takes the packets that the later row takes
pub before_takes : (geometry : Geometry) (whole : List Stand) (packet : Packet) (s : Stand) (array : ℕ) → (f : Follows geometry whole s array)
    → takes_on packet s.array s ≡ true → takes_on packet array f.one ≡ true
before_takes geometry whole packet s array f taken =
    let t : Takes packet s.array s = takes packet s.array s taken in
    ap₂ (λ a b. a && b) f.live
    (ap₂ (λ a b. a && b) (eq-eqb f.one.array array f.on) (ap (λ (k : Sketch). passes k.filter packet.vec) f.task ∙ t.matches))

-- a first row of SuMax-Sum has no other bound than the greatest
pub first_bound : (hash_key : List ℕ) (s : Stand) (packet : Packet) → s.row ≡ 0
    → bound_at hash_key s.task s.region.bits (cells_at hash_key s) packet s.row ≡ cell_max
unfolding bound_at
first_bound hash_key s packet none =
    ap (λ n. bound_in hash_key s.task s.region.bits packet cell_max 0 (cells_at hash_key s) n) none
