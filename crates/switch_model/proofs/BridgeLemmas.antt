-- From rows with their packets to entries, units and the operations that a switch makes by them.
use Rattle.std.proofs.Common.{◌≡◌, ℕ, ◌+◌, ◌<◌, ◌≤◌, ◌==◌, ◌&&◌, Bool, true, false, cond, List, [], ◌∷◌, ◌++◌, length, get_or, map, filter, refl, ap, ap₂, sym, ◌∙◌, subst, arith, bit_xor}
use Rattle.std.specs.Prelude.{Option, None, Some, IsTrue}
use Rattle.std.specs.List.{All, AllPairs, Contains, flat_map}
use Rattle.std.proofs.lemmas.Bool.{false≢true}
use Rattle.std.proofs.lemmas.List.Elements.{All-map, All-nil, All-cons, All-head, All-tail, All-append, All-contains}
use Rattle.addr_translate.specs.Blocks.{Block, index_of}
use Rattle.addr_translate.specs.Geometry.{Geometry, group_in, group_number}
use Rattle.key_mask.specs.Bytes.{and_bytes, xor_bytes}
use Rattle.key_mask.specs.Masks.{mask_bytes_of}
use Rattle.hash_units.specs.Toeplitz.{hash_of}
use Rattle.hash_units.proofs.HashLemmas.{pairs_serve}
use Rattle.pkt_headers.specs.declared.packets.Packet.{Packet}
use Rattle.stateful_ops.specs.Ops.{register_max, carry_of}
use Rattle.reg_file.specs.Registers.{Contents}
use Rattle.group_keys.specs.declared.uses.KeyUse.{KeyUse}
use Rattle.group_keys.specs.declared.uses.KeyUse.TheVariants.{Single, Pair}
use Rattle.group_keys.specs.Units.{UsedUnit, unit_at, units_in, masks_xor_to}
use Rattle.match_table.specs.declared.entries.Entry.{Entry}
use Rattle.match_table.specs.declared.operations.Second.{Second}
use Rattle.match_table.specs.declared.operations.Second.TheVariants.{Top, Carry}
use Rattle.match_table.specs.Operations.{operation_by}
use Rattle.sketch_defs.specs.declared.kinds.Kind.{Kind}
use Rattle.sketch_defs.specs.declared.kinds.Kind.TheVariants.{Cms, SumaxSum, SumaxMax, Bloom, Mrac, Hll, FlagOr, FlagAnd}
use Rattle.sketch_defs.specs.Cells.{bound_at, index_at, row_hash_at, key_hash, brought_by}
use Rattle.sketch_defs.specs.Tasks.{Sketch}
use Rattle.switch_model.proofs.IsolationLemmas.{same_bytes}
use Rattle.sketch_lower.specs.Lowering.{entry_of, micro_of}
use Rattle.sketch_lower.specs.Operations.{operation}
use Rattle.sketch_lower.proofs.EntryLemmas.{lowered_operation}
use Rattle.switch_model.specs.Records.{Past, Part, Row, UnitMask, Record, Outline, outline, outlines}
use Rattle.switch_model.specs.Sights.{Spot, GroupUse, before_of, all_spots, rules_on, row_uses, uses_by, all_uses, units_on, group_uses}
use Rattle.switch_model.specs.Soundness.{IsRow, IsTask, GiveKey, Sound}
use Rattle.switch_model.specs.Packets.{Stand, live_stand, live_stands, frozen_stand, frozen_stands, past_stands, stands_by, all_stands, cells_at, Layout, takes_on, call_of}
use Rattle.task_filters.specs.Filters.{are_disjoint}
use Rattle.std.proofs.lemmas.Bool.{eqb-true}
use Rattle.std.proofs.lemmas.List.Elements.{filter_passes}
use Rattle.std.proofs.lemmas.List.Kept.{AllPairs-filter}
use Rattle.switch_model.specs.Soundness.{MatchNone}
use Rattle.switch_model.proofs.ListLemmas.{pairs_map, pairs_known, all_front, all_back, all_unflat}
use Rattle.switch_model.proofs.StandLemmas.{is_live, spot_by, stands_enter}
use Rattle.switch_model.proofs.CallLemmas.{no_two}
use Rattle.switch_model.proofs.SightLemmas.{HasMask, masks_known, unit_seen}
use Rattle.switch_model.proofs.UnitLemmas.{AreUses}
use Rattle.switch_model.proofs.RowLemmas.{sound_uses}
use Rattle.switch_model.proofs.ChainLemmas.{Chained, Follows, stands_chained, before_hands_on, before_takes, first_bound}

-- ---- entries

-- the entry of a live row
abbrev pub entry_by : Stand → Entry
entry_by s = entry_of s.task s.row s.keys s.region (before_of s.task.kind s.before)

abbrev pub stands_on : ℕ → Stand → Bool
stands_on array s = s.live && s.array == array

on_array : (array : ℕ) (stands : List Stand)
    → map (λ (s : Spot). s.entry) (filter (λ (s : Spot). s.array == array) (map spot_by (filter is_live stands))) ≡ map entry_by (filter (stands_on array) stands)
on_array array [] = refl
on_array array (s ∷ stands) = by (on_array array stands) s.live where
  spots : List Spot
  spots = map spot_by (filter is_live stands)

  live : map (λ (s : Spot). s.entry) (filter (λ (s : Spot). s.array == array) spots) ≡ map entry_by (filter (stands_on array) stands) → (b : Bool)
      → map (λ (s : Spot). s.entry) (cond b (spot_by s ∷ filter (λ (s : Spot). s.array == array) spots) (filter (λ (s : Spot). s.array == array) spots))
      ≡ map entry_by (cond b (s ∷ filter (stands_on array) stands) (filter (stands_on array) stands))
  live more true = ap (λ es. entry_by s ∷ es) more
  live more false = more

  by : map (λ (s : Spot). s.entry) (filter (λ (s : Spot). s.array == array) spots) ≡ map entry_by (filter (stands_on array) stands) → (a : Bool)
      → map (λ (s : Spot). s.entry) (filter (λ (s : Spot). s.array == array) (map spot_by (cond a (s ∷ filter is_live stands) (filter is_live stands))))
      ≡ map entry_by (cond (a && s.array == array) (s ∷ filter (stands_on array) stands) (filter (stands_on array) stands))
  by more true = live more (s.array == array)
  by more false = more

-- the entries of an array are those of its live rows
pub rules_stand : (rs : List Record) (array : ℕ) → rules_on (all_spots (outlines rs)) array ≡ map entry_by (filter (stands_on array) (all_stands rs))
rules_stand rs array = ap (λ spots. rules_on spots array) (sym (stands_enter rs)) ∙ on_array array (all_stands rs)

-- and at most one takes a packet
short : {X : Type 0} (xs : List X) → AllPairs (λ (x y : X). ⊥) xs → length xs ≤ 1
short [] never = omega arith
short (x ∷ []) never = omega arith
short (x ∷ y ∷ xs) never = absurd (never 0 1 x (omega arith) (omega arith))

pub one_takes : (geometry : Geometry) (rs : List Record) (packet : Packet) (array : ℕ) → Sound geometry (outlines rs)
    → length (filter (takes_on packet array) (all_stands rs)) ≤ 1
one_takes geometry rs packet array sound = short (filter (takes_on packet array) (all_stands rs)) (no_two geometry rs packet array sound)

-- ---- bounds

-- the bound in the operation of a row: for all kinds but one the greatest number
abbrev pub bound_for : Kind → ℕ → ℕ
bound_for Cms bound = register_max
bound_for SumaxSum bound = bound
bound_for SumaxMax bound = register_max
bound_for Bloom bound = register_max
bound_for Mrac bound = register_max
bound_for Hll bound = register_max
bound_for FlagOr bound = register_max
bound_for FlagAnd bound = register_max

abbrev pub bound_of : List ℕ → Packet → Stand → ℕ
bound_of hash_key packet s = bound_for s.task.kind (bound_at hash_key s.task s.region.bits (cells_at hash_key s) packet s.row)

-- the row before hands it on
pub record HandsOn (hash_key : List ℕ) (whole : List Stand) (packet : Packet) (contents : Contents) (s : Stand) (array : ℕ) : Type 0 where
  pub one : Stand
  pub among : Contains whole one
  pub takes : takes_on packet s.array s ≡ true → takes_on packet array one ≡ true
  pub hands : carry_of (call_of hash_key packet one).op (contents (call_of hash_key packet one).array (call_of hash_key packet one).addr) ≡ bound_of hash_key packet s

abbrev pub IsBoundBy : List ℕ → List Stand → Packet → Contents → Stand → Second → Type 0
IsBoundBy hash_key whole packet contents s Top = register_max ≡ bound_of hash_key packet s
IsBoundBy hash_key whole packet contents s (Carry array) = HandsOn hash_key whole packet contents s array

pub bound_stands : (geometry : Geometry) (hash_key : List ℕ) (rs : List Record) (packet : Packet) (contents : Contents) (s : Stand)
    → Sound geometry (outlines rs) → Layout hash_key rs contents → Contains (all_stands rs) s → s.live ≡ true
    → IsBoundBy hash_key (all_stands rs) packet contents s (entry_by s).micro.second
bound_stands geometry hash_key rs packet contents s sound layout among live = by s.task.kind s.before refl refl where
  bound : ℕ
  bound = bound_at hash_key s.task s.region.bits (cells_at hash_key s) packet s.row

  chained : Chained geometry (all_stands rs) s
  chained = All-contains (Chained geometry (all_stands rs)) (all_stands rs) s (stands_chained geometry rs sound) among

  top : (kind : Kind) → s.task.kind ≡ kind → register_max ≡ bound_for kind bound → register_max ≡ bound_of hash_key packet s
  top kind e is = is ∙ ap (λ k. bound_for k bound) (sym e)

  by : (kind : Kind) (before : Option ℕ) → s.task.kind ≡ kind → s.before ≡ before
      → IsBoundBy hash_key (all_stands rs) packet contents s (micro_of kind s.task.attr (before_of kind before)).second
  by Cms before e f = top Cms e refl
  by SumaxSum None e f = top SumaxSum e (sym (first_bound hash_key s packet (chained.first live f)))
  by SumaxSum (Some array) e f =
      let before : Follows geometry (all_stands rs) s array = chained.later live e array f in
      record {
        one = before.one;
        among = before.among;
        takes = before_takes geometry (all_stands rs) packet s array before;
        hands = ap (λ a. carry_of (call_of hash_key packet before.one).op (contents a (call_of hash_key packet before.one).addr)) before.on
            ∙ before_hands_on geometry hash_key rs packet contents s array sound layout e before
            ∙ ap (λ k. bound_for k bound) (sym e);
      }
  by SumaxMax before e f = top SumaxMax e refl
  by Bloom before e f = top Bloom e refl
  by Mrac before e f = top Mrac e refl
  by Hll before e f = top Hll e refl
  by FlagOr before e f = top FlagOr e refl
  by FlagAnd before e f = top FlagAnd e refl

-- ---- operations

any_bound : (kind : Kind) (brought bound : ℕ) → operation kind brought (bound_for kind bound) ≡ operation kind brought bound
any_bound Cms brought bound = refl
any_bound SumaxSum brought bound = refl
any_bound SumaxMax brought bound = refl
any_bound Bloom brought bound = refl
any_bound Mrac brought bound = refl
any_bound Hll brought bound = refl
any_bound FlagOr brought bound = refl
any_bound FlagAnd brought bound = refl

-- the operation by the entry, under this bound, is the row's
pub operation_stands : (geometry : Geometry) (hash_key : List ℕ) (rs : List Record) (packet : Packet) (s : Stand) → Sound geometry (outlines rs)
    → Contains (all_stands rs) s → s.live ≡ true
    → operation_by (entry_by s).micro (row_hash_at hash_key s.task s.row packet) s.region.bits packet (bound_of hash_key packet s)
    ≡ (call_of hash_key packet s).op
operation_stands geometry hash_key rs packet s sound among live =
    let bound : ℕ = bound_at hash_key s.task s.region.bits (cells_at hash_key s) packet s.row in
    let chained : Chained geometry (all_stands rs) s = All-contains (Chained geometry (all_stands rs)) (all_stands rs) s (stands_chained geometry rs sound) among in
    lowered_operation hash_key s.task s.region.bits s.row s.keys s.region (before_of s.task.kind s.before) packet (bound_of hash_key packet s)
    (λ kind none.
    ap (λ k. bound_for k bound) kind
    ∙ first_bound hash_key s packet (chained.first live (sym (ap (λ k. before_of k s.before) kind) ∙ none)))
    ∙ any_bound s.task.kind (brought_by s.task.kind hash_key s.task s.region.bits s.row packet) bound

pub addr_stands : (hash_key : List ℕ) (packet : Packet) (s : Stand)
    → s.region.base + index_of (row_hash_at hash_key s.task s.row packet) s.region.bits ≡ (call_of hash_key packet s).addr
unfolding index_at
addr_stands hash_key packet s = refl

-- ---- keys

-- a pair in use, whose masks XOR to the key
pub record BothGive (units : List (Option UsedUnit)) (key : List ℕ) (one two : ℕ) : Type 0 where
  pub first : List ℕ
  pub second : List ℕ
  pub has_first : HasMask (unit_at units one) first
  pub has_second : HasMask (unit_at units two) second
  pub sum : IsTrue (masks_xor_to key first second)

-- the units that are in use give the key
abbrev pub UnitsGive : List (Option UsedUnit) → List ℕ → KeyUse → Type 0
UnitsGive units key (Single unit) = HasMask (unit_at units unit) key
UnitsGive units key (Pair one two) = BothGive units key one two

abbrev pub KnownMask : Geometry → List GroupUse → GroupUse → Type 0
KnownMask geometry uses v = HasMask (unit_at (units_on geometry uses v.group) v.unit) v.mask

pub known_masks : (geometry : Geometry) (uses : List GroupUse) → AreUses geometry uses → All (KnownMask geometry uses) uses
known_masks geometry uses are i d within =
    let v : GroupUse = get_or uses i d in
    subst (λ (o : Option UsedUnit). HasMask o v.mask) (sym (unit_seen (group_in geometry v.group).units (group_uses uses v.group) v.unit (are.exist i d within)))
    (masks_known uses v.group v.unit are.agree i d within refl refl)

abbrev use_by : ℕ → UnitMask → GroupUse
use_by group u = record { group = group; unit = u.unit; mask = u.mask }

row_gives : (geometry : Geometry) (uses : List GroupUse) (group : ℕ) (key : List ℕ) (keys : KeyUse) (masks : List UnitMask)
    → map (λ (u : UnitMask). u.unit) masks ≡ units_in keys → GiveKey masks key
    → All (KnownMask geometry uses) (map (use_by group) masks)
    → UnitsGive (units_on geometry uses group) key keys
row_gives geometry uses group key (Single unit) [] same gives known = absurd gives
row_gives geometry uses group key (Single unit) (one ∷ []) same gives known =
    let is : one.unit ≡ unit = cc in
    let here : HasMask (unit_at (units_on geometry uses group) one.unit) one.mask = All-head (KnownMask geometry uses) (use_by group one) [] known in
    subst (HasMask (unit_at (units_on geometry uses group) unit)) gives
    (subst (λ (k : ℕ). HasMask (unit_at (units_on geometry uses group) k) one.mask) is here)
row_gives geometry uses group key (Single unit) (one ∷ two ∷ []) same gives known = absurd (cc)
row_gives geometry uses group key (Single unit) (one ∷ two ∷ three ∷ masks) same gives known = absurd gives
row_gives geometry uses group key (Pair first second) [] same gives known = absurd gives
row_gives geometry uses group key (Pair first second) (one ∷ []) same gives known = absurd (cc)
row_gives geometry uses group key (Pair first second) (one ∷ two ∷ []) same gives known =
    let first_is : one.unit ≡ first = cc in
    let second_is : two.unit ≡ second = cc in
    let here : HasMask (unit_at (units_on geometry uses group) one.unit) one.mask = All-head (KnownMask geometry uses) (use_by group one) (use_by group two ∷ []) known in
    let there : HasMask (unit_at (units_on geometry uses group) two.unit) two.mask =
    All-head (KnownMask geometry uses) (use_by group two) [] (All-tail (KnownMask geometry uses) (use_by group one) (use_by group two ∷ []) known) in
    record {
      first = one.mask;
      second = two.mask;
      has_first = subst (λ (k : ℕ). HasMask (unit_at (units_on geometry uses group) k) one.mask) first_is here;
      has_second = subst (λ (k : ℕ). HasMask (unit_at (units_on geometry uses group) k) two.mask) second_is there;
      sum = gives;
    }
row_gives geometry uses group key (Pair first second) (one ∷ two ∷ three ∷ masks) same gives known = absurd gives

-- what a row's units give, and that they exist
pub record KeyStands (geometry : Geometry) (uses : List GroupUse) (s : Stand) : Type 0 where
  pub gives : UnitsGive (units_on geometry uses (group_number geometry s.array)) s.task.key s.keys
  pub exist : All (λ unit. unit < (group_in geometry (group_number geometry s.array)).units) (units_in s.keys)

abbrev pub KeyWhereLive : Geometry → List GroupUse → Stand → Type 0
KeyWhereLive geometry uses s = s.live ≡ true → KeyStands geometry uses s

row_key_stands : (geometry : Geometry) (uses : List GroupUse) (o : Outline) (part : Part) (i : ℕ) (before : Option ℕ) (row : Row) → part.task ≡ o.task
    → IsRow geometry o row → All (KnownMask geometry uses) (row_uses geometry row) → KeyStands geometry uses (live_stand part i before row)
row_key_stands geometry uses o part i before row same is known = record {
  gives = row_gives geometry uses (group_number geometry row.array) part.task.key row.keys row.masks is.units
      (subst (λ (t : Sketch). GiveKey row.masks t.key) (sym same) is.key) known;
  exist = subst (All (λ unit. unit < (group_in geometry (group_number geometry row.array)).units)) is.units
      (All-map (λ unit. unit < (group_in geometry (group_number geometry row.array)).units) (λ (u : UnitMask). u.unit) row.masks is.exist);
}

live_keys : (geometry : Geometry) (uses : List GroupUse) (o : Outline) (part : Part) (i : ℕ) (before : Option ℕ) (rows : List Row) → part.task ≡ o.task
    → All (IsRow geometry o) rows → All (λ row. All (KnownMask geometry uses) (row_uses geometry row)) rows
    → All (KeyWhereLive geometry uses) (live_stands part i before rows)
live_keys geometry uses o part i before [] same each known = All-nil (KeyWhereLive geometry uses)
live_keys geometry uses o part i before (row ∷ rows) same each known =
    All-cons (KeyWhereLive geometry uses) (live_stand part i before row) (live_stands part (i + 1) (Some row.array) rows)
    (λ live. row_key_stands geometry uses o part i before row same (All-head (IsRow geometry o) row rows each)
    (All-head (λ row. All (KnownMask geometry uses) (row_uses geometry row)) row rows known))
    (live_keys geometry uses o part (i + 1) (Some row.array) rows same (All-tail (IsRow geometry o) row rows each)
    (All-tail (λ row. All (KnownMask geometry uses) (row_uses geometry row)) row rows known))

frozen_keys : (geometry : Geometry) (uses : List GroupUse) (part : Part) (past : Past) (i : ℕ) (rows : List Row)
    → All (KeyWhereLive geometry uses) (frozen_stands part past i rows)
frozen_keys geometry uses part past i [] = All-nil (KeyWhereLive geometry uses)
frozen_keys geometry uses part past i (row ∷ rows) = by (frozen_keys geometry uses part past (i + 1) rows) row.frozen where
  by : All (KeyWhereLive geometry uses) (frozen_stands part past (i + 1) rows) → (frozen : Option Block)
      → All (KeyWhereLive geometry uses) (frozen_stand part past i row frozen ++ frozen_stands part past (i + 1) rows)
  by rest None = rest
  by rest (Some region) =
      let s : Stand = record { live = false; task = part.task; packets = past.packets; row = i; array = row.array; region = region; keys = row.keys; before = None } in
      All-cons (KeyWhereLive geometry uses) s (frozen_stands part past (i + 1) rows) (λ live. absurd (false≢true live)) rest

past_keys : (geometry : Geometry) (uses : List GroupUse) (part : Part) (past : Option Past) (rows : List Row)
    → All (KeyWhereLive geometry uses) (past_stands part past rows)
past_keys geometry uses part None rows = All-nil (KeyWhereLive geometry uses)
past_keys geometry uses part (Some past) rows = frozen_keys geometry uses part past 0 rows

keys_among : (geometry : Geometry) (uses : List GroupUse) (rs : List Record) → All (IsTask geometry) (outlines rs)
    → All (KnownMask geometry uses) (flat_map (uses_by geometry) (outlines rs)) → All (KeyWhereLive geometry uses) (flat_map stands_by rs)
keys_among geometry uses [] each known = All-nil (KeyWhereLive geometry uses)
keys_among geometry uses (r ∷ rs) each known =
    let here : IsTask geometry (outline r) = All-head (IsTask geometry) (outline r) (outlines rs) each in
    let mine : All (KnownMask geometry uses) (uses_by geometry (outline r)) =
    all_front (KnownMask geometry uses) (uses_by geometry (outline r)) (flat_map (uses_by geometry) (outlines rs)) known in
    All-append (KeyWhereLive geometry uses) (stands_by r) (flat_map stands_by rs)
    (All-append (KeyWhereLive geometry uses) (live_stands r.part 0 None r.rows) (past_stands r.part r.part.past r.rows)
    (live_keys geometry uses (outline r) r.part 0 None r.rows refl here.each (all_unflat (KnownMask geometry uses) (row_uses geometry) r.rows mine))
    (past_keys geometry uses r.part r.part.past r.rows))
    (keys_among geometry uses rs (All-tail (IsTask geometry) (outline r) (outlines rs) each)
    (all_back (KnownMask geometry uses) (uses_by geometry (outline r)) (flat_map (uses_by geometry) (outlines rs)) known))

-- the units of each live row exist and give the key of its task
pub keys_stand : (geometry : Geometry) (rs : List Record) → Sound geometry (outlines rs)
    → All (KeyWhereLive geometry (all_uses geometry (outlines rs))) (all_stands rs)
unfolding all_stands all_uses
keys_stand geometry rs sound =
    keys_among geometry (flat_map (uses_by geometry) (outlines rs)) rs sound.tasks
    (known_masks geometry (flat_map (uses_by geometry) (outlines rs)) (sound_uses geometry (outlines rs) sound))

-- ---- hashes

-- what a unit makes of a vector, and what the units of a use make of it
abbrev pub unit_hash : List ℕ → List ℕ → Option UsedUnit → ℕ
unit_hash hash_key vector None = 0
unit_hash hash_key vector (Some used) = hash_of hash_key (and_bytes vector (mask_bytes_of used.mask))

abbrev pub use_hash : List ℕ → List ℕ → List (Option UsedUnit) → KeyUse → ℕ
use_hash hash_key vector units (Single unit) = unit_hash hash_key vector (unit_at units unit)
use_hash hash_key vector units (Pair one two) = bit_xor (unit_hash hash_key vector (unit_at units one)) (unit_hash hash_key vector (unit_at units two))

has_hash : (hash_key vector mask : List ℕ) (unit : Option UsedUnit) → HasMask unit mask
    → unit_hash hash_key vector unit ≡ hash_of hash_key (and_bytes vector (mask_bytes_of mask))
has_hash hash_key vector mask None has = absurd has
has_hash hash_key vector mask (Some used) has = ap (λ m. hash_of hash_key (and_bytes vector (mask_bytes_of m))) has

-- is the hash of the vector under the key
pub hash_given : (hash_key vector key : List ℕ) (units : List (Option UsedUnit)) (keys : KeyUse) → UnitsGive units key keys
    → use_hash hash_key vector units keys ≡ hash_of hash_key (and_bytes vector (mask_bytes_of key))
hash_given hash_key vector key units (Single unit) gives = has_hash hash_key vector key (unit_at units unit) gives
hash_given hash_key vector key units (Pair one two) gives =
    let both : BothGive units key one two = gives in
    ap₂ bit_xor (has_hash hash_key vector both.first (unit_at units one) both.has_first) (has_hash hash_key vector both.second (unit_at units two) both.has_second)
    ∙ pairs_serve hash_key vector both.first both.second key
    (same_bytes (xor_bytes (mask_bytes_of both.first) (mask_bytes_of both.second)) (mask_bytes_of key) both.sum)

-- and so the hash of the task for the packet
pub task_hash : (hash_key vector : List ℕ) (task : Sketch) → hash_of hash_key (and_bytes vector (mask_bytes_of task.key)) ≡ key_hash hash_key task vector
unfolding key_hash
task_hash hash_key vector task = refl

-- ---- which entry a packet finds

rules_pairs : (array : ℕ) (spots : List Spot) → AllPairs MatchNone spots → AllPairs (λ (one two : Entry). are_disjoint one.filter two.filter ≡ true) (rules_on spots array)
rules_pairs array spots pairs =
    let on : List Spot = filter (λ (s : Spot). s.array == array) spots in
    let Apart : Entry → Entry → Type 0 = λ one two. are_disjoint one.filter two.filter ≡ true in
    pairs_map Apart (λ (s : Spot). s.entry) on
    (pairs_known (λ (s : Spot). (s.array == array) ≡ true) MatchNone (λ (s t : Spot). Apart s.entry t.entry)
    (λ s t one two apart. apart (eqb-true s.array array one ∙ sym (eqb-true t.array array two))) on
    (filter_passes (λ (s : Spot). s.array == array) spots) (AllPairs-filter MatchNone (λ (s : Spot). s.array == array) spots pairs))

-- the filters of an array's entries match no vector in common
pub rules_disjoint : (geometry : Geometry) (all : List Outline) (array : ℕ) → Sound geometry all
    → AllPairs (λ (one two : Entry). are_disjoint one.filter two.filter ≡ true) (rules_on (all_spots all) array)
rules_disjoint geometry all array sound = rules_pairs array (all_spots all) sound.filters
