-- A packet makes at most one operation on an array, and leaves the registers laid out.
use Rattle.std.proofs.Common.{◌≡◌, ◌≢◌, ℕ, zero, suc, ◌+◌, ◌^◌, ◌<◌, ◌≤◌, ◌==◌, ◌&&◌, Bool, true, false, cond, List, [], ◌∷◌, ◌++◌, get_or, map, filter, refl, ap, ap₂, sym, ◌∙◌, subst, arith, eq-eqb, ⊎_elim}
use Rattle.std.specs.Prelude.{◌||◌, nat_le, slice_index}
use Rattle.std.specs.List.{All, AllPairs, flat_map, range_with_len}
use Rattle.std.proofs.lemmas.Bool.{false≢true, eqb-true, cases_eq}
use Rattle.std.proofs.lemmas.Bool.Decides.{nat_tests}
use Rattle.std.proofs.lemmas.List.Elements.{All-nil, All-cons, All-head, All-tail, All-map, All-weaker, All-filter, filter_passes, filter-append}
use Rattle.std.proofs.lemmas.List.Kept.{AllPairs-cons, AllPairs-filter}
use Rattle.std.proofs.lemmas.List.Sums.{fold-append}
use Rattle.addr_translate.specs.Blocks.{Block}
use Rattle.addr_translate.specs.Geometry.{Geometry, array_count}
use Rattle.partition_pool.specs.Regions.{are_apart}
use Rattle.pkt_headers.specs.declared.packets.Packet.{Packet}
use Rattle.task_filters.specs.Filters.{passes}
use Rattle.match_table.proofs.OrderLemmas.{passes_one}
use Rattle.stateful_ops.specs.Ops.{new_register}
use Rattle.reg_file.specs.declared.traits.Call.{Call}
use Rattle.reg_file.specs.Registers.{Contents}
use Rattle.reg_file.specs.Calls.{made, all_made}
use Rattle.sketch_defs.specs.Cells.{index_at, cells_of, row_of}
use Rattle.sketch_lower.proofs.CellLemmas.{place_lt}
use Rattle.sketch_lower.proofs.RowLemmas.{cell_here, cell_elsewhere}
use Rattle.switch_model.specs.Records.{Record, outlines}
use Rattle.switch_model.specs.Sights.{Holding}
use Rattle.switch_model.specs.Soundness.{ShareNone, MatchNone, Sound}
use Rattle.switch_model.specs.Packets.{Stand, all_stands, HoldsCells, takes_on, call_of, calls_on, calls_of}
use Rattle.switch_model.specs.Laws.{OneCallAnArray, PacketKeepsLayout}
use Rattle.switch_model.proofs.ListLemmas.{Across, Around, around, pairs_flat, pairs_map, pairs_mapped, pairs_known, pairs_weaker, no_pairs, map_append, all_flat, all_split, all_here, all_and, all_front, all_back}
use Rattle.switch_model.proofs.StandLemmas.{IsStand, holding_of, is_live, spot_by, joined_stand, stands_hold, stands_enter, stands_are, stands_joined}

-- ---- of sound tasks

pub stands_apart : (geometry : Geometry) (rs : List Record) → Sound geometry (outlines rs)
    → AllPairs (λ (s t : Stand). ShareNone (holding_of s) (holding_of t)) (all_stands rs)
stands_apart geometry rs sound =
    pairs_mapped ShareNone holding_of (all_stands rs) (subst (AllPairs ShareNone) (sym (stands_hold geometry rs sound.tasks)) sound.regions)

pub stands_differ : (geometry : Geometry) (rs : List Record) → Sound geometry (outlines rs)
    → AllPairs (λ (s t : Stand). MatchNone (spot_by s) (spot_by t)) (filter is_live (all_stands rs))
stands_differ geometry rs sound =
    pairs_mapped MatchNone spot_by (filter is_live (all_stands rs)) (subst (AllPairs MatchNone) (sym (stands_enter rs)) sound.filters)

-- ---- at most one row of an array takes a packet

pub record Takes (packet : Packet) (array : ℕ) (s : Stand) : Type 0 where
  pub live : s.live ≡ true
  pub on : s.array ≡ array
  pub matches : passes s.task.filter packet.vec ≡ true

pub and_parts : (a b : Bool) → (a && b) ≡ true → (a ≡ true) × (b ≡ true)
and_parts true true e = (refl, refl)
and_parts true false e = absurd (false≢true e)
and_parts false b e = absurd (false≢true e)

pub takes : (packet : Packet) (array : ℕ) (s : Stand) → takes_on packet array s ≡ true → Takes packet array s
takes packet array s e =
    let first = and_parts s.live (s.array == array && passes s.task.filter packet.vec) e in
    let second = and_parts (s.array == array) (passes s.task.filter packet.vec) first.1 in
    record { live = first.0; on = eqb-true s.array array second.0; matches = second.1 }

pub filter_within : {X : Type 0} (p q : X → Bool) → ((x : X) → p x ≡ true → q x ≡ true) → (xs : List X) → filter p (filter q xs) ≡ filter p xs
filter_within p q within [] = refl
filter_within {X} p q within (x ∷ xs) = by (filter_within p q within xs) (q x) (p x) refl refl where
  by : filter p (filter q xs) ≡ filter p xs → (a b : Bool) → q x ≡ a → p x ≡ b
      → filter p (cond a (x ∷ filter q xs) (filter q xs)) ≡ cond b (x ∷ filter p xs) (filter p xs)
  by rest true b e f = ap (λ (t : Bool). cond t (x ∷ filter p (filter q xs)) (filter p (filter q xs))) f ∙ ap (λ ys. cond b (x ∷ ys) ys) rest
  by rest false true e f = absurd (false≢true (sym e ∙ within x f))
  by rest false false e f = rest

-- no two
pub no_two : (geometry : Geometry) (rs : List Record) (packet : Packet) (array : ℕ) → Sound geometry (outlines rs)
    → AllPairs (λ (s t : Stand). ⊥) (filter (takes_on packet array) (all_stands rs))
no_two geometry rs packet array sound =
    let R : Stand → Stand → Type 0 = λ s t. MatchNone (spot_by s) (spot_by t) in
    let takers : List Stand = filter (takes_on packet array) (all_stands rs) in
    let same : filter (takes_on packet array) (filter is_live (all_stands rs)) ≡ takers =
    filter_within (takes_on packet array) is_live (λ s e. (takes packet array s e).live) (all_stands rs) in
    pairs_known (Takes packet array) R (λ (s t : Stand). ⊥)
    (λ s t one two differ.
    false≢true (sym (passes_one s.task.filter t.task.filter packet.vec (differ (one.on ∙ sym two.on)) one.matches) ∙ two.matches))
    takers
    (All-weaker (λ s. takes_on packet array s ≡ true) (Takes packet array) (λ s e. takes packet array s e) takers (filter_passes (takes_on packet array) (all_stands rs)))
    (subst (AllPairs R) same (AllPairs-filter R (takes_on packet array) (filter is_live (all_stands rs)) (stands_differ geometry rs sound)))

pub calls_there : (hash_key : List ℕ) (packet : Packet) (stands : List Stand) (array : ℕ)
    → All (λ (call : Call). call.array ≡ array) (calls_on hash_key packet stands array)
calls_there hash_key packet stands array =
    All-map (λ (call : Call). call.array ≡ array) (call_of hash_key packet) (filter (takes_on packet array) stands)
    (All-weaker (λ s. takes_on packet array s ≡ true) (λ s. s.array ≡ array) (λ s e. (takes packet array s e).on)
    (filter (takes_on packet array) stands) (filter_passes (takes_on packet array) stands))

range_above : (from n : ℕ) → All (λ a. from ≤ a) (range_with_len from n)
range_above from zero = All-nil (λ a. from ≤ a)
range_above from (suc n) =
    All-cons (λ a. from ≤ a) from (range_with_len (from + 1) n) (omega arith)
    (All-weaker (λ a. from + 1 ≤ a) (λ a. from ≤ a) (λ a le. omega arith) (range_with_len (from + 1) n) (range_above (from + 1) n))

pub range_rises : (from n : ℕ) → AllPairs (λ (a b : ℕ). a < b) (range_with_len from n)
range_rises from zero = no_pairs (λ (a b : ℕ). a < b)
range_rises from (suc n) =
    AllPairs-cons (λ (a b : ℕ). a < b) from (range_with_len (from + 1) n)
    (All-weaker (λ a. from + 1 ≤ a) (λ a. from < a) (λ a le. omega arith) (range_with_len (from + 1) n) (range_above (from + 1) n))
    (range_rises (from + 1) n)

pub one_call_an_array : OneCallAnArray
unfolding calls_of
one_call_an_array geometry hash_key rs packet sound =
    let R : Call → Call → Type 0 = λ one two. one.array ≢ two.array in
    let stands : List Stand = all_stands rs in
    let calls : ℕ → List Call = calls_on hash_key packet stands in
    let arrays : List ℕ = range_with_len 0 (array_count geometry) in
    pairs_flat R calls arrays
    (λ k d within.
    let array : ℕ = get_or arrays k d in
    pairs_map R (call_of hash_key packet) (filter (takes_on packet array) stands)
    (pairs_weaker (λ (s t : Stand). ⊥) (λ s t. R (call_of hash_key packet s) (call_of hash_key packet t)) (λ s t never. absurd never)
    (filter (takes_on packet array) stands) (no_two geometry rs packet array sound)))
    (pairs_weaker (λ (a b : ℕ). a < b) (λ a b. Across R (calls a) (calls b))
    (λ a b less i d within j e inside same.
    let one = calls_there hash_key packet stands a i d within in
    let two = calls_there hash_key packet stands b j e inside in
    omega arith)
    arrays (range_rises 0 (array_count geometry)))

-- ---- registers that calls do not reach

abbrev pub Misses : ℕ → ℕ → Call → Type 0
Misses array addr call = call.array ≡ array → call.addr ≢ addr

pub made_missed : (contents : Contents) (call : Call) (array addr : ℕ) → Misses array addr call → made contents call array addr ≡ contents array addr
made_missed contents call array addr misses = by (call.array == array) (call.addr == addr) refl refl where
  by : (a b : Bool) → (call.array == array) ≡ a → (call.addr == addr) ≡ b
      → cond (a && b) (new_register call.op (contents array addr)) (contents array addr) ≡ contents array addr
  by true true e f = absurd (misses (eqb-true call.array array e) (eqb-true call.addr addr f))
  by true false e f = refl
  by false b e f = refl

pub all_missed : (contents : Contents) (calls : List Call) (array addr : ℕ) → All (Misses array addr) calls
    → all_made contents calls array addr ≡ contents array addr
all_missed contents [] array addr misses = refl
all_missed contents (call ∷ calls) array addr misses =
    all_missed (made contents call) calls array addr (All-tail (Misses array addr) call calls misses)
    ∙ made_missed contents call array addr (All-head (Misses array addr) call calls misses)

pub made_alike : (one two : Contents) (call : Call) (array addr : ℕ) → one array addr ≡ two array addr
    → made one call array addr ≡ made two call array addr
made_alike one two call array addr same =
    ap (λ v. cond (call.array == array && call.addr == addr) (new_register call.op v) v) same

pub all_alike : (one two : Contents) (calls : List Call) (array addr : ℕ) → one array addr ≡ two array addr
    → all_made one calls array addr ≡ all_made two calls array addr
all_alike one two [] array addr same = same
all_alike one two (call ∷ calls) array addr same =
    all_alike (made one call) (made two call) calls array addr (made_alike one two call array addr same)

-- of calls array by array those on the array
pub array_hit : (f : ℕ → List Call) → ((a : ℕ) → All (λ (call : Call). call.array ≡ a) (f a)) → (contents : Contents) (array addr from n : ℕ)
    → from ≤ array → array < from + n
    → all_made contents (flat_map f (range_with_len from n)) array addr ≡ all_made contents (f array) array addr
array_hit f there contents array addr from zero low high = absurd (omega arith)
array_hit f there contents array addr from (suc n) low high =
    ap (λ (c : Contents). c array addr) (fold-append made contents (f from) (flat_map f (range_with_len (from + 1) n)))
    ∙ ⊎_elim here (later (array_hit f there (all_made contents (f from)) array addr (from + 1) n)) (cases_eq from array) where
      rest : List Call
      rest = flat_map f (range_with_len (from + 1) n)

      here : from ≡ array → all_made (all_made contents (f from)) rest array addr ≡ all_made contents (f array) array addr
      here same =
          all_missed (all_made contents (f from)) rest array addr
          (all_flat (Misses array addr) f (range_with_len (from + 1) n)
          (All-weaker (λ a. from + 1 ≤ a) (λ a. All (Misses array addr) (f a))
          (λ a le. All-weaker (λ (call : Call). call.array ≡ a) (Misses array addr) (λ call on is. absurd (omega arith)) (f a) (there a))
          (range_with_len (from + 1) n) (range_above (from + 1) n)))
          ∙ ap (λ a. all_made contents (f a) array addr) same

      later : (from + 1 ≤ array → array < from + 1 + n
          → all_made (all_made contents (f from)) rest array addr ≡ all_made (all_made contents (f from)) (f array) array addr)
          → from ≢ array → all_made (all_made contents (f from)) rest array addr ≡ all_made contents (f array) array addr
      later more ne =
          more (omega arith) (omega arith)
          ∙ all_alike (all_made contents (f from)) contents (f array) array addr
          (all_missed contents (f from) array addr (All-weaker (λ (call : Call). call.array ≡ from) (Misses array addr) (λ call on is. absurd (ne (sym on ∙ is))) (f from) (there from)))

-- ---- the registers of one row

-- an operation on a region apart from another misses it
pub apart_misses : (one two : Block) (x j : ℕ) → are_apart one two ≡ true → x < 2 ^ one.bits → j < 2 ^ two.bits → one.base + x ≢ two.base + j
apart_misses one two x j apart first second = by (nat_le (one.base + 2 ^ one.bits) two.base) (nat_le (two.base + 2 ^ two.bits) one.base) refl refl apart where
  by : (a b : Bool) → nat_le (one.base + 2 ^ one.bits) two.base ≡ a → nat_le (two.base + 2 ^ two.bits) one.base ≡ b → (a || b) ≡ true
      → one.base + x ≢ two.base + j
  by true b e f h = λ same. let le : one.base + 2 ^ one.bits ≤ two.base = grind (arith, nat_tests) in omega arith
  by false true e f h = λ same. let le : two.base + 2 ^ two.bits ≤ one.base = grind (arith, nat_tests) in omega arith
  by false false e f h = absurd (false≢true h)

pub are_apart_turned : (one two : Block) → are_apart one two ≡ true → are_apart two one ≡ true
are_apart_turned one two h = by (nat_le (one.base + 2 ^ one.bits) two.base) (nat_le (two.base + 2 ^ two.bits) one.base) h where
  by : (a b : Bool) → (a || b) ≡ true → (b || a) ≡ true
  by true true e = refl
  by true false e = refl
  by false b e = ap (λ t. t || false) e

pub share_turned : (one two : Holding) → ShareNone one two → ShareNone two one
share_turned one two h same = are_apart_turned one.region two.region (h (sym same))

-- a row's operation misses the registers of any other row
abbrev Off : Stand → Stand → Type 0
Off s t = ShareNone (holding_of t) (holding_of s) × (t.region.bits ≤ 32)

call_misses : (hash_key : List ℕ) (packet : Packet) (s t : Stand) (j : ℕ) → j < 2 ^ s.region.bits → Off s t
    → Misses s.array (s.region.base + j) (call_of hash_key packet t)
call_misses hash_key packet s t j within off same =
    apart_misses t.region s.region (index_at hash_key t.task t.region.bits t.row packet) j (off.0 same)
    (place_lt hash_key t.task t.region.bits t.row packet off.1) within

others_miss : (hash_key : List ℕ) (packet : Packet) (s : Stand) (stands : List Stand) (array j : ℕ) → j < 2 ^ s.region.bits → All (Off s) stands
    → All (Misses s.array (s.region.base + j)) (calls_on hash_key packet stands array)
others_miss hash_key packet s stands array j within off =
    All-map (Misses s.array (s.region.base + j)) (call_of hash_key packet) (filter (takes_on packet array) stands)
    (All-filter (takes_on packet array) (λ t. Misses s.array (s.region.base + j) (call_of hash_key packet t)) stands
    (All-weaker (Off s) (λ t. Misses s.array (s.region.base + j) (call_of hash_key packet t)) (λ t o. call_misses hash_key packet s t j within o) stands off))

-- so of all calls its own counts
own_call : (hash_key : List ℕ) (packet : Packet) (front back : List Stand) (s : Stand) (contents : Contents) (j : ℕ) → j < 2 ^ s.region.bits
    → All (Off s) front → All (Off s) back
    → all_made contents (calls_on hash_key packet (front ++ s ∷ back) s.array) s.array (s.region.base + j)
    ≡ all_made contents (map (call_of hash_key packet) (cond (takes_on packet s.array s) (s ∷ []) [])) s.array (s.region.base + j)
own_call hash_key packet front back s contents j within before behind =
    let addr : ℕ = s.region.base + j in
    let f : Stand → Call = call_of hash_key packet in
    let p : Stand → Bool = takes_on packet s.array in
    ap (λ calls. all_made contents calls s.array addr) (ap (map f) (filter-append p front (s ∷ back)) ∙ map_append f (filter p front) (filter p (s ∷ back)))
    ∙ ap (λ (c : Contents). c s.array addr) (fold-append made contents (map f (filter p front)) (map f (filter p (s ∷ back))))
    ∙ all_alike (all_made contents (map f (filter p front))) contents (map f (filter p (s ∷ back))) s.array addr
    (all_missed contents (map f (filter p front)) s.array addr (others_miss hash_key packet s front s.array j within before))
    ∙ by (takes_on packet s.array s) where
      later : List Call
      later = map (call_of hash_key packet) (filter (takes_on packet s.array) back)

      misses : All (Misses s.array (s.region.base + j)) later
      misses = others_miss hash_key packet s back s.array j within behind

      by : (b : Bool)
          → all_made contents (map (call_of hash_key packet) (cond b (s ∷ filter (takes_on packet s.array) back) (filter (takes_on packet s.array) back))) s.array (s.region.base + j)
          ≡ all_made contents (map (call_of hash_key packet) (cond b (s ∷ []) [])) s.array (s.region.base + j)
      by true = all_missed (made contents (call_of hash_key packet s)) later s.array (s.region.base + j) misses
      by false = all_missed contents later s.array (s.region.base + j) misses

takes_here : (packet : Packet) (s : Stand) → takes_on packet s.array s ≡ (s.live && passes s.task.filter packet.vec)
takes_here packet s = ap (λ b. s.live && (b && passes s.task.filter packet.vec)) (eq-eqb s.array s.array refl)

-- one register of the row after its operation
one_register : (hash_key : List ℕ) (packet : Packet) (s : Stand) (contents : Contents) (j : ℕ) → s.region.bits ≤ 32 → s.row < s.task.rows
    → j < 2 ^ s.region.bits → HoldsCells hash_key contents s
    → made contents (call_of hash_key packet s) s.array (s.region.base + j)
    ≡ slice_index (row_of (cells_of hash_key s.task s.region.bits (s.packets ++ packet ∷ [])) s.row) j
one_register hash_key packet s contents j few row within holds = ⊎_elim here there (cases_eq j place) where
  place : ℕ
  place = index_at hash_key s.task s.region.bits s.row packet

  here : j ≡ place → made contents (call_of hash_key packet s) s.array (s.region.base + j)
      ≡ slice_index (row_of (cells_of hash_key s.task s.region.bits (s.packets ++ packet ∷ [])) s.row) j
  here same =
      let addr : s.region.base + place ≡ s.region.base + j = omega arith in
      ap₂ (λ a b. cond (a && b) (new_register (call_of hash_key packet s).op (contents s.array (s.region.base + j))) (contents s.array (s.region.base + j)))
      (eq-eqb s.array s.array refl) (eq-eqb (s.region.base + place) (s.region.base + j) addr)
      ∙ ap (new_register (call_of hash_key packet s).op) (holds j within)
      ∙ ap (λ k. new_register (call_of hash_key packet s).op (slice_index (row_of (cells_of hash_key s.task s.region.bits s.packets) s.row) k)) same
      ∙ sym (cell_here hash_key s.task s.region.bits s.packets packet s.row few row)
      ∙ ap (λ k. slice_index (row_of (cells_of hash_key s.task s.region.bits (s.packets ++ packet ∷ [])) s.row) k) (sym same)

  there : j ≢ place → made contents (call_of hash_key packet s) s.array (s.region.base + j)
      ≡ slice_index (row_of (cells_of hash_key s.task s.region.bits (s.packets ++ packet ∷ [])) s.row) j
  there other =
      made_missed contents (call_of hash_key packet s) s.array (s.region.base + j) (λ same is. other (omega arith))
      ∙ holds j within
      ∙ sym (cell_elsewhere hash_key s.task s.region.bits s.packets packet s.row j few row other)

-- ---- all rows

row_keeps : (geometry : Geometry) (hash_key : List ℕ) (packet : Packet) (front back : List Stand) (s : Stand) (contents : Contents)
    → IsStand geometry s → HoldsCells hash_key contents s → All (Off s) front → All (Off s) back
    → HoldsCells hash_key (all_made contents (flat_map (calls_on hash_key packet (front ++ s ∷ back)) (range_with_len 0 (array_count geometry)))) (joined_stand packet s)
row_keeps geometry hash_key packet front back s contents is holds before behind = by (s.live && passes s.task.filter packet.vec) refl where
  new : Contents
  new = all_made contents (flat_map (calls_on hash_key packet (front ++ s ∷ back)) (range_with_len 0 (array_count geometry)))

  value : (j : ℕ) → j < 2 ^ s.region.bits → new s.array (s.region.base + j)
      ≡ all_made contents (map (call_of hash_key packet) (cond (s.live && passes s.task.filter packet.vec) (s ∷ []) [])) s.array (s.region.base + j)
  value j within =
      array_hit (calls_on hash_key packet (front ++ s ∷ back)) (calls_there hash_key packet (front ++ s ∷ back)) contents s.array (s.region.base + j) 0
      (array_count geometry) (omega arith) (omega (arith, is.array))
      ∙ own_call hash_key packet front back s contents j within before behind
      ∙ ap (λ b. all_made contents (map (call_of hash_key packet) (cond b (s ∷ []) [])) s.array (s.region.base + j)) (takes_here packet s)

  few : s.region.bits ≤ 32
  few = omega (arith, is.region.aligned.small)

  by : (b : Bool) → (s.live && passes s.task.filter packet.vec) ≡ b
      → HoldsCells hash_key new (cond b (record s { packets = s.packets ++ packet ∷ [] }) s)
  by true e j within =
      value j within
      ∙ ap (λ b. all_made contents (map (call_of hash_key packet) (cond b (s ∷ []) [])) s.array (s.region.base + j)) e
      ∙ one_register hash_key packet s contents j few is.row within holds
  by false e j within =
      value j within
      ∙ ap (λ b. all_made contents (map (call_of hash_key packet) (cond b (s ∷ []) [])) s.array (s.region.base + j)) e
      ∙ holds j within

pub packet_keeps_layout : PacketKeepsLayout
unfolding calls_of
packet_keeps_layout geometry hash_key rs packet contents sound layout =
    let stands : List Stand = all_stands rs in
    let new : Contents = all_made contents (flat_map (calls_on hash_key packet stands) (range_with_len 0 (array_count geometry))) in
    let R : Stand → Stand → Type 0 = λ s t. ShareNone (holding_of s) (holding_of t) in
    let small : All (λ (s : Stand). s.region.bits ≤ 32) stands =
    All-weaker (IsStand geometry) (λ (s : Stand). s.region.bits ≤ 32) (λ s is. omega (arith, is.region.aligned.small)) stands (stands_are geometry rs sound.tasks) in
    subst (All (HoldsCells hash_key new)) (sym (stands_joined packet rs))
    (All-map (HoldsCells hash_key new) (joined_stand packet) stands
    (all_split (λ s. HoldsCells hash_key new (joined_stand packet s)) stands (λ front s back whole.
    let a : Around R front back s = around R front back s (subst (AllPairs R) whole (stands_apart geometry rs sound)) in
    let few : All (λ (s : Stand). s.region.bits ≤ 32) (front ++ s ∷ back) = subst (All (λ (s : Stand). s.region.bits ≤ 32)) whole small in
    subst (λ (all : List Stand).
    HoldsCells hash_key (all_made contents (flat_map (calls_on hash_key packet all) (range_with_len 0 (array_count geometry)))) (joined_stand packet s)) (sym whole)
    (row_keeps geometry hash_key packet front back s contents
    (all_here (IsStand geometry) front back s (subst (All (IsStand geometry)) whole (stands_are geometry rs sound.tasks)))
    (all_here (HoldsCells hash_key contents) front back s (subst (All (HoldsCells hash_key contents)) whole layout))
    (all_and (λ t. R t s) (λ (t : Stand). t.region.bits ≤ 32) front a.before (all_front (λ (t : Stand). t.region.bits ≤ 32) front (s ∷ back) few))
    (all_and (λ t. R t s) (λ (t : Stand). t.region.bits ≤ 32) back
    (All-weaker (R s) (λ t. R t s) (λ t h. share_turned (holding_of s) (holding_of t) h) back a.after)
    (All-tail (λ (t : Stand). t.region.bits ≤ 32) s back (all_back (λ (t : Stand). t.region.bits ≤ 32) front (s ∷ back) few)))))))
