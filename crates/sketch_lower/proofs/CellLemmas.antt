-- The cells before any packet, and after one more.
use Rattle.std.proofs.Common.{◌≡◌, ℕ, zero, suc, ◌+◌, ◌^◌, ◌<◌, ◌≤◌, ◌==◌, ◌⊎◌, inl, inr, Bool, true, false, min, max, List, [], ◌∷◌, ◌++◌, length, map, set, get_or, replicate, nat_lt, if◌then◌else◌, bit_and, bit_or, Option, Some, IfSome, refl, subst, ap, sym, ◌∙◌, arith, ⊎_elim}
use Rattle.std.specs.List.{filter, fold, sum, range_with_len}
use Rattle.std.proofs.lemmas.Bool.{cases_eq, eq-eqb, ne_eqb}
use Rattle.std.proofs.lemmas.Bool.Decides.{nat_tests}
use Rattle.std.proofs.lemmas.List.{append-nil, length-set, length-replicate, get_or-set_same, get_or-set_other, same_lists, map_push, get_or_default}
use Rattle.std.proofs.lemmas.List.Elements.{filter-append}
use Rattle.std.proofs.lemmas.List.FromFn.{length-map-range_with_len, get_or-map-range_with_len}
use Rattle.std.proofs.lemmas.List.Sums.{fold-append}
use Rattle.pkt_headers.specs.declared.packets.Packet.{Packet}
use Rattle.pkt_headers.specs.Packets.{weight_of}
use Rattle.addr_translate.proofs.BlockLemmas.{index_lt}
use Rattle.key_mask.specs.Bytes.{and_bytes}
use Rattle.key_mask.specs.Masks.{mask_bytes_of}
use Rattle.hash_units.proofs.HashLemmas.{hash_lt, row_hash_lt}
use Rattle.stateful_ops.specs.declared.ops.Op.TheVariants.{CondAdd}
use Rattle.stateful_ops.specs.Ops.{new_register, carry_of}
use Rattle.sketch_defs.specs.declared.kinds.Kind.{Kind}
use Rattle.sketch_defs.specs.declared.kinds.Kind.TheVariants.{Cms, SumaxSum, SumaxMax, Bloom, Mrac, Hll, FlagOr, FlagAnd}
use Rattle.sketch_defs.specs.Tasks.{Sketch}
use Rattle.sketch_defs.specs.Cells.{cell_max, key_hash, row_hash_at, index_at, brought_by, packets_at, Gathering, Added, Greatest, AnyBits, AllBits, gathering_of, gathered, independent_cell, independent_cells, raised_cell, next_bound, raised_rows, raised, chained_cells, bound_in, bound_at, cells_by, cells_of, row_of}
use Rattle.sketch_lower.specs.Operations.{start_of, operation, operation_at, row_after}
use Rattle.sketch_lower.specs.Laws.{CellsStart, CellsStep, CarryIsBound}

-- ---- lists made from a function of the index

-- the function changes at one place
map_range_set : (f g : ℕ → ℕ) (n i : ℕ) → i < n → ((j : ℕ) → (j ≡ i → ⊥) → g j ≡ f j)
    → map g (range_with_len 0 n) ≡ set (map f (range_with_len 0 n)) i (g i)
map_range_set f g n i within same =
    let old : List ℕ = map f (range_with_len 0 n) in
    let long : length old ≡ n = length-map-range_with_len f 0 n in
    same_lists (map g (range_with_len 0 n)) (set old i (g i))
    (length-map-range_with_len g 0 n ∙ sym (length-set old i (g i) ∙ long))
    (λ k d h. let inside : k < n = omega (arith, h, length-map-range_with_len g 0 n) in
    let at : 0 + k ≡ k = omega arith in
    get_or-map-range_with_len g 0 n k k d inside at
    ∙ ⊎_elim
    (λ (e : k ≡ i). ap g e ∙ sym (ap (λ m. get_or (set old i (g i)) m d) e ∙ get_or-set_same old i (g i) d (omega (arith, long, within))))
    (λ (ne : k ≡ i → ⊥). same k ne ∙ sym (get_or-set_other old i k (g i) d ne ∙ get_or-map-range_with_len f 0 n k k d inside at))
    (cases_eq k i))

constant_range : {X : Type 0} (x : X) (from n : ℕ) → map (λ (i : ℕ). x) (range_with_len from n) ≡ replicate n x
constant_range x from zero = refl
constant_range x from (suc n) = ap (λ xs. x ∷ xs) (constant_range x (from + 1) n)

-- ---- where a packet comes to

pub place_lt : (hash_key : List ℕ) (sketch : Sketch) (bits row : ℕ) (packet : Packet) → bits ≤ 32 → index_at hash_key sketch bits row packet < 2 ^ bits
unfolding index_at row_hash_at key_hash
place_lt hash_key sketch bits row packet few =
    let bytes : List ℕ = and_bytes packet.vec (mask_bytes_of sketch.key) in
    index_lt (row_hash_at hash_key sketch row packet) bits (row_hash_lt (key_hash hash_key sketch packet.vec) row (hash_lt hash_key bytes)) few

-- ---- kinds

pub cases_chained : (kind : Kind) → (kind ≡ SumaxSum) ⊎ (kind ≡ SumaxSum → ⊥)
cases_chained SumaxSum = inl refl
cases_chained _ = inr (λ q. (cc))

-- a kind is chained, or its cells gather what their packets bring
cases_gathering : (kind : Kind) → (kind ≡ SumaxSum) ⊎ ((gathering : Gathering) × (gathering_of kind ≡ Some gathering))
cases_gathering Cms = inr (Added, refl)
cases_gathering SumaxSum = inl refl
cases_gathering SumaxMax = inr (Greatest, refl)
cases_gathering Bloom = inr (AnyBits, refl)
cases_gathering Mrac = inr (Added, refl)
cases_gathering Hll = inr (Greatest, refl)
cases_gathering FlagOr = inr (AnyBits, refl)
cases_gathering FlagAnd = inr (AllBits, refl)

independent_is : (gathering : Gathering) (hash_key : List ℕ) (sketch : Sketch) (bits : ℕ) (packets : List Packet)
    → gathering_of sketch.kind ≡ Some gathering
    → cells_of hash_key sketch bits packets ≡ independent_cells gathering hash_key sketch bits packets
unfolding cells_of
independent_is gathering hash_key sketch bits packets known =
    ap (λ (g : Option Gathering). cells_by g hash_key sketch bits packets) known

pub chained_is : (hash_key : List ℕ) (sketch : Sketch) (bits : ℕ) (packets : List Packet) → sketch.kind ≡ SumaxSum
    → cells_of hash_key sketch bits packets ≡ chained_cells hash_key sketch bits packets
unfolding cells_of
chained_is hash_key sketch bits packets chained = ap (λ kind. cells_by (gathering_of kind) hash_key sketch bits packets) chained

-- ---- kinds with independent rows

-- a counter that stops
stopped_more : (total x : ℕ)
    → min (total + x) cell_max ≡ (if nat_lt (min total cell_max) cell_max then min (min total cell_max + x) cell_max else min total cell_max)
stopped_more total x = grind (arith, nat_tests)

-- what a cell makes of one packet more
gathers_more : (kind : Kind) (brought : List ℕ) (x bound : ℕ)
    → IfSome (gathering_of kind) (λ gathering. gathered gathering (brought ++ x ∷ []) ≡ new_register (operation kind x bound) (gathered gathering brought))
gathers_more Cms brought x bound = ap (λ n. min n cell_max) (fold-append _ 0 brought (x ∷ [])) ∙ stopped_more (sum brought) x
gathers_more SumaxSum brought x bound = tt
gathers_more SumaxMax brought x bound = fold-append max 0 brought (x ∷ [])
gathers_more Bloom brought x bound = fold-append bit_or 0 brought (x ∷ [])
gathers_more Mrac brought x bound = ap (λ n. min n cell_max) (fold-append _ 0 brought (x ∷ [])) ∙ stopped_more (sum brought) x
gathers_more Hll brought x bound = fold-append max 0 brought (x ∷ [])
gathers_more FlagOr brought x bound = fold-append bit_or 0 brought (x ∷ [])
gathers_more FlagAnd brought x bound = fold-append bit_and cell_max brought (x ∷ [])

gathered_more : (kind : Kind) (gathering : Gathering) (brought : List ℕ) (x bound : ℕ) → gathering_of kind ≡ Some gathering
    → gathered gathering (brought ++ x ∷ []) ≡ new_register (operation kind x bound) (gathered gathering brought)
gathered_more kind gathering brought x bound known =
    subst (λ (o : Option Gathering). IfSome o (λ g. gathered g (brought ++ x ∷ []) ≡ new_register (operation kind x bound) (gathered g brought))) known
    (gathers_more kind brought x bound)

gathers_none : (kind : Kind) → IfSome (gathering_of kind) (λ gathering. gathered gathering [] ≡ start_of kind)
gathers_none Cms = refl
gathers_none SumaxSum = tt
gathers_none SumaxMax = refl
gathers_none Bloom = refl
gathers_none Mrac = refl
gathers_none Hll = refl
gathers_none FlagOr = refl
gathers_none FlagAnd = refl

none_gathered : (kind : Kind) (gathering : Gathering) → gathering_of kind ≡ Some gathering → gathered gathering [] ≡ start_of kind
none_gathered kind gathering known = subst (λ (o : Option Gathering). IfSome o (λ g. gathered g [] ≡ start_of kind)) known (gathers_none kind)

filter_more_yes : (p : Packet → Bool) (packets : List Packet) (packet : Packet) → p packet ≡ true
    → filter p (packets ++ packet ∷ []) ≡ filter p packets ++ packet ∷ []
filter_more_yes p packets packet e = filter-append p packets (packet ∷ []) ∙ rw e refl

filter_more_no : (p : Packet → Bool) (packets : List Packet) (packet : Packet) → p packet ≡ false
    → filter p (packets ++ packet ∷ []) ≡ filter p packets
filter_more_no p packets packet e = filter-append p packets (packet ∷ []) ∙ rw e (append-nil (filter p packets))

independent_elsewhere : (gathering : Gathering) (hash_key : List ℕ) (sketch : Sketch) (bits : ℕ) (packets : List Packet) (packet : Packet) (row index : ℕ)
    → (index ≡ index_at hash_key sketch bits row packet → ⊥)
    → independent_cell gathering hash_key sketch bits (packets ++ packet ∷ []) row index ≡ independent_cell gathering hash_key sketch bits packets row index
unfolding independent_cell
independent_elsewhere gathering hash_key sketch bits packets packet row index other =
    ap (λ came. gathered gathering (map (brought_by sketch.kind hash_key sketch bits row) came))
    (filter_more_no (λ p. index_at hash_key sketch bits row p == index) packets packet
    (ne_eqb (index_at hash_key sketch bits row packet) index (λ e. other (sym e))))

independent_here : (gathering : Gathering) (hash_key : List ℕ) (sketch : Sketch) (bits : ℕ) (packets : List Packet) (packet : Packet) (row bound : ℕ)
    → gathering_of sketch.kind ≡ Some gathering
    → let place = index_at hash_key sketch bits row packet in
    independent_cell gathering hash_key sketch bits (packets ++ packet ∷ []) row place
    ≡ new_register (operation_at hash_key sketch bits row packet bound) (independent_cell gathering hash_key sketch bits packets row place)
unfolding independent_cell
independent_here gathering hash_key sketch bits packets packet row bound known =
    let place : ℕ = index_at hash_key sketch bits row packet in
    let brought : Packet → ℕ = brought_by sketch.kind hash_key sketch bits row in
    let came : List Packet = packets_at hash_key sketch bits packets row place in
    ap (λ ps. gathered gathering (map brought ps))
    (filter_more_yes (λ p. index_at hash_key sketch bits row p == place) packets packet (eq-eqb place place refl))
    ∙ ap (gathered gathering) (map_push brought came packet)
    ∙ gathered_more sketch.kind gathering (map brought came) (brought packet) bound known

independent_row : (gathering : Gathering) (hash_key : List ℕ) (sketch : Sketch) (bits : ℕ) (packets : List Packet) (row : ℕ) → row < sketch.rows
    → row_of (independent_cells gathering hash_key sketch bits packets) row ≡ map (independent_cell gathering hash_key sketch bits packets row) (range_with_len 0 (2 ^ bits))
unfolding independent_cells
independent_row gathering hash_key sketch bits packets row within =
    let at : 0 + row ≡ row = omega arith in
    get_or-map-range_with_len (λ i. map (independent_cell gathering hash_key sketch bits packets i) (range_with_len 0 (2 ^ bits))) 0 sketch.rows row row [] within at

independent_step : (gathering : Gathering) (hash_key : List ℕ) (sketch : Sketch) (bits : ℕ) (packets : List Packet) (packet : Packet) (row bound : ℕ)
    → gathering_of sketch.kind ≡ Some gathering → bits ≤ 32 → row < sketch.rows
    → row_of (independent_cells gathering hash_key sketch bits (packets ++ packet ∷ [])) row
    ≡ row_after hash_key sketch bits row packet bound (row_of (independent_cells gathering hash_key sketch bits packets) row)
unfolding row_after
independent_step gathering hash_key sketch bits packets packet row bound known few within =
    let place : ℕ = index_at hash_key sketch bits row packet in
    let room : place < 2 ^ bits = place_lt hash_key sketch bits row packet few in
    let old : ℕ → ℕ = independent_cell gathering hash_key sketch bits packets row in
    let new : ℕ → ℕ = independent_cell gathering hash_key sketch bits (packets ++ packet ∷ []) row in
    let cells : List ℕ = map old (range_with_len 0 (2 ^ bits)) in
    let at : 0 + place ≡ place = omega arith in
    let found : get_or cells place 0 ≡ old place = get_or-map-range_with_len old 0 (2 ^ bits) place place 0 room at in
    let left : new place ≡ new_register (operation_at hash_key sketch bits row packet bound) (get_or cells place 0) =
    independent_here gathering hash_key sketch bits packets packet row bound known ∙ ap (new_register (operation_at hash_key sketch bits row packet bound)) (sym found) in
    independent_row gathering hash_key sketch bits (packets ++ packet ∷ []) row within
    ∙ map_range_set old new (2 ^ bits) place room (λ j ne. independent_elsewhere gathering hash_key sketch bits packets packet row j ne)
    ∙ ap (set cells place) left
    ∙ ap (λ row_cells. set row_cells place (new_register (operation_at hash_key sketch bits row packet bound) (get_or row_cells place 0)))
    (sym (independent_row gathering hash_key sketch bits packets row within))

-- ---- the chained kind

operation_chained : (hash_key : List ℕ) (sketch : Sketch) (bits row : ℕ) (packet : Packet) (bound : ℕ) → sketch.kind ≡ SumaxSum
    → operation_at hash_key sketch bits row packet bound ≡ CondAdd (weight_of packet sketch.attr) bound
operation_chained hash_key sketch bits row packet bound chained =
    ap (λ kind. operation kind (brought_by kind hash_key sketch bits row packet) bound) chained

-- raising a row is its operation
pub raised_after : (hash_key : List ℕ) (sketch : Sketch) (bits row : ℕ) (packet : Packet) (bound : ℕ) (cells : List ℕ) → sketch.kind ≡ SumaxSum
    → let place = index_at hash_key sketch bits row packet in
    set cells place (raised_cell (weight_of packet sketch.attr) bound (get_or cells place 0)) ≡ row_after hash_key sketch bits row packet bound cells
unfolding row_after
raised_after hash_key sketch bits row packet bound cells chained =
    let place : ℕ = index_at hash_key sketch bits row packet in
    ap (λ op. set cells place (new_register op (get_or cells place 0))) (sym (operation_chained hash_key sketch bits row packet bound chained))

pub carried : (hash_key : List ℕ) (sketch : Sketch) (bits row : ℕ) (packet : Packet) (bound cell : ℕ) → sketch.kind ≡ SumaxSum
    → carry_of (operation_at hash_key sketch bits row packet bound) cell ≡ next_bound (weight_of packet sketch.attr) bound cell
carried hash_key sketch bits row packet bound cell chained = ap (λ op. carry_of op cell) (operation_chained hash_key sketch bits row packet bound chained)

-- one of the raised rows
raised_row : (hash_key : List ℕ) (sketch : Sketch) (bits : ℕ) (packet : Packet) (bound row : ℕ) (rows : List (List ℕ)) (i : ℕ)
    → sketch.kind ≡ SumaxSum → i < length rows
    → row_of (raised_rows hash_key sketch bits packet bound row rows) i
    ≡ row_after hash_key sketch bits (row + i) packet (bound_in hash_key sketch bits packet bound row rows i) (row_of rows i)
raised_row hash_key sketch bits packet bound row [] i chained within = absurd (omega arith)
raised_row hash_key sketch bits packet bound row (cells ∷ rows) zero chained within =
    let same : row ≡ row + 0 = omega arith in
    raised_after hash_key sketch bits row packet bound cells chained ∙ ap (λ r. row_after hash_key sketch bits r packet bound cells) same
raised_row hash_key sketch bits packet bound row (cells ∷ rows) (suc i) chained within =
    let next : ℕ = next_bound (weight_of packet sketch.attr) bound (get_or cells (index_at hash_key sketch bits row packet) 0) in
    let same : row + 1 + i ≡ row + suc i = omega arith in
    raised_row hash_key sketch bits packet next (row + 1) rows i chained (omega arith)
    ∙ ap (λ r. row_after hash_key sketch bits r packet (bound_in hash_key sketch bits packet next (row + 1) rows i) (row_of rows i)) same

length-raised_rows : (hash_key : List ℕ) (sketch : Sketch) (bits : ℕ) (packet : Packet) (bound row : ℕ) (rows : List (List ℕ))
    → length (raised_rows hash_key sketch bits packet bound row rows) ≡ length rows
length-raised_rows hash_key sketch bits packet bound row [] = refl
length-raised_rows hash_key sketch bits packet bound row (cells ∷ rows) =
    ap suc
    (length-raised_rows hash_key sketch bits packet
    (next_bound (weight_of packet sketch.attr) bound (get_or cells (index_at hash_key sketch bits row packet) 0)) (row + 1) rows)

length-folded : (hash_key : List ℕ) (sketch : Sketch) (bits : ℕ) (packets : List Packet) (rows : List (List ℕ))
    → length (fold (raised hash_key sketch bits) rows packets) ≡ length rows
unfolding raised
length-folded hash_key sketch bits [] rows = refl
length-folded hash_key sketch bits (packet ∷ packets) rows =
    length-folded hash_key sketch bits packets (raised hash_key sketch bits rows packet) ∙ length-raised_rows hash_key sketch bits packet cell_max 0 rows

length-chained : (hash_key : List ℕ) (sketch : Sketch) (bits : ℕ) (packets : List Packet)
    → length (chained_cells hash_key sketch bits packets) ≡ sketch.rows
unfolding chained_cells
length-chained hash_key sketch bits packets =
    length-folded hash_key sketch bits packets (replicate sketch.rows (replicate (2 ^ bits) 0))
    ∙ length-replicate sketch.rows (replicate (2 ^ bits) 0)

pub chained_more : (hash_key : List ℕ) (sketch : Sketch) (bits : ℕ) (packets : List Packet) (packet : Packet)
    → chained_cells hash_key sketch bits (packets ++ packet ∷ []) ≡ raised hash_key sketch bits (chained_cells hash_key sketch bits packets) packet
unfolding chained_cells
chained_more hash_key sketch bits packets packet =
    fold-append (raised hash_key sketch bits) (replicate sketch.rows (replicate (2 ^ bits) 0)) packets (packet ∷ [])

chained_step : (hash_key : List ℕ) (sketch : Sketch) (bits : ℕ) (packets : List Packet) (packet : Packet) (row : ℕ)
    → sketch.kind ≡ SumaxSum → row < sketch.rows
    → let before = chained_cells hash_key sketch bits packets in
    row_of (chained_cells hash_key sketch bits (packets ++ packet ∷ [])) row
    ≡ row_after hash_key sketch bits row packet (bound_at hash_key sketch bits before packet row) (row_of before row)
unfolding raised bound_at
chained_step hash_key sketch bits packets packet row chained within =
    let before : List (List ℕ) = chained_cells hash_key sketch bits packets in
    let same : 0 + row ≡ row = omega arith in
    ap (λ rows. row_of rows row) (chained_more hash_key sketch bits packets packet)
    ∙ raised_row hash_key sketch bits packet cell_max 0 before row chained (omega (arith, within, length-chained hash_key sketch bits packets))
    ∙ ap (λ r. row_after hash_key sketch bits r packet (bound_in hash_key sketch bits packet cell_max 0 before row) (row_of before row)) same

-- the bound after one row more
bound_more : (hash_key : List ℕ) (sketch : Sketch) (bits : ℕ) (packet : Packet) (bound row : ℕ) (rows : List (List ℕ)) (i : ℕ) → i < length rows
    → bound_in hash_key sketch bits packet bound row rows (suc i)
    ≡ next_bound (weight_of packet sketch.attr) (bound_in hash_key sketch bits packet bound row rows i)
    (get_or (row_of rows i) (index_at hash_key sketch bits (row + i) packet) 0)
bound_more hash_key sketch bits packet bound row [] i within = absurd (omega arith)
bound_more hash_key sketch bits packet bound row (cells ∷ rows) zero within =
    let same : row ≡ row + 0 = omega arith in
    ap (λ r. next_bound (weight_of packet sketch.attr) bound (get_or cells (index_at hash_key sketch bits r packet) 0)) same
bound_more hash_key sketch bits packet bound row (cells ∷ rows) (suc i) within =
    let next : ℕ = next_bound (weight_of packet sketch.attr) bound (get_or cells (index_at hash_key sketch bits row packet) 0) in
    let same : row + 1 + i ≡ row + suc i = omega arith in
    bound_more hash_key sketch bits packet next (row + 1) rows i (omega arith)
    ∙ ap (λ r. next_bound (weight_of packet sketch.attr) (bound_in hash_key sketch bits packet next (row + 1) rows i)
    (get_or (row_of rows i) (index_at hash_key sketch bits r packet) 0)) same

-- ---- all kinds

pub cells_start : CellsStart
unfolding independent_cells independent_cell chained_cells
cells_start hash_key sketch bits =
    ⊎_elim
    (λ (chained : sketch.kind ≡ SumaxSum).
    chained_is hash_key sketch bits [] chained
    ∙ ap (λ n. replicate sketch.rows (replicate (2 ^ bits) n)) (ap start_of (sym chained)))
    (λ (other : (gathering : Gathering) × (gathering_of sketch.kind ≡ Some gathering)).
    independent_is other.0 hash_key sketch bits [] other.1
    ∙ constant_range (map (λ (i : ℕ). gathered other.0 []) (range_with_len 0 (2 ^ bits))) 0 sketch.rows
    ∙ ap (replicate sketch.rows) (constant_range (gathered other.0 []) 0 (2 ^ bits) ∙ ap (replicate (2 ^ bits)) (none_gathered sketch.kind other.0 other.1)))
    (cases_gathering sketch.kind)

-- one row after one packet more
pub row_step : (hash_key : List ℕ) (sketch : Sketch) (bits : ℕ) (packets : List Packet) (packet : Packet) (row : ℕ) → bits ≤ 32 → row < sketch.rows
    → let before = cells_of hash_key sketch bits packets in
    row_of (cells_of hash_key sketch bits (packets ++ packet ∷ [])) row
    ≡ row_after hash_key sketch bits row packet (bound_at hash_key sketch bits before packet row) (row_of before row)
row_step hash_key sketch bits packets packet row few within =
    ⊎_elim
    (λ (chained : sketch.kind ≡ SumaxSum).
    ap (λ cells. row_of cells row) (chained_is hash_key sketch bits (packets ++ packet ∷ []) chained)
    ∙ chained_step hash_key sketch bits packets packet row chained within
    ∙ ap (λ cells. row_after hash_key sketch bits row packet (bound_at hash_key sketch bits cells packet row) (row_of cells row))
    (sym (chained_is hash_key sketch bits packets chained)))
    (λ (other : (gathering : Gathering) × (gathering_of sketch.kind ≡ Some gathering)).
    let bound : ℕ = bound_at hash_key sketch bits (cells_of hash_key sketch bits packets) packet row in
    ap (λ cells. row_of cells row) (independent_is other.0 hash_key sketch bits (packets ++ packet ∷ []) other.1)
    ∙ independent_step other.0 hash_key sketch bits packets packet row bound other.1 few within
    ∙ ap (λ cells. row_after hash_key sketch bits row packet bound (row_of cells row)) (sym (independent_is other.0 hash_key sketch bits packets other.1)))
    (cases_gathering sketch.kind)

-- there are as many rows as the task has
pub length-cells : (hash_key : List ℕ) (sketch : Sketch) (bits : ℕ) (packets : List Packet) → length (cells_of hash_key sketch bits packets) ≡ sketch.rows
unfolding independent_cells
length-cells hash_key sketch bits packets =
    ⊎_elim
    (λ (chained : sketch.kind ≡ SumaxSum). ap length (chained_is hash_key sketch bits packets chained) ∙ length-chained hash_key sketch bits packets)
    (λ (other : (gathering : Gathering) × (gathering_of sketch.kind ≡ Some gathering)).
    ap length (independent_is other.0 hash_key sketch bits packets other.1)
    ∙ length-map-range_with_len (λ i. map (independent_cell other.0 hash_key sketch bits packets i) (range_with_len 0 (2 ^ bits))) 0 sketch.rows)
    (cases_gathering sketch.kind)

pub cells_step : CellsStep
cells_step hash_key sketch bits packets packet few =
    let before : List (List ℕ) = cells_of hash_key sketch bits packets in
    let after : List (List ℕ) = cells_of hash_key sketch bits (packets ++ packet ∷ []) in
    let next : ℕ → List ℕ = λ row. row_after hash_key sketch bits row packet (bound_at hash_key sketch bits before packet row) (row_of before row) in
    let long : length after ≡ sketch.rows = length-cells hash_key sketch bits (packets ++ packet ∷ []) in
    same_lists after (map next (range_with_len 0 sketch.rows))
    (long ∙ sym (length-map-range_with_len next 0 sketch.rows))
    (λ row d h. let within : row < sketch.rows = omega (arith, h, long) in
    let at : 0 + row ≡ row = omega arith in
    get_or_default after row d [] (omega (arith, within, long))
    ∙ row_step hash_key sketch bits packets packet row few within
    ∙ sym (get_or-map-range_with_len next 0 sketch.rows row row d within at))

pub carry_is_bound : CarryIsBound
unfolding bound_at
carry_is_bound hash_key sketch bits packets packet row chained within =
    let before : List (List ℕ) = cells_of hash_key sketch bits packets in
    let bound : ℕ = bound_in hash_key sketch bits packet cell_max 0 before row in
    let same : 0 + row ≡ row = omega arith in
    let next : suc row ≡ row + 1 = omega arith in
    carried hash_key sketch bits row packet bound (get_or (row_of before row) (index_at hash_key sketch bits row packet) 0) chained
    ∙ ap (λ r. next_bound (weight_of packet sketch.attr) bound (get_or (row_of before row) (index_at hash_key sketch bits r packet) 0)) (sym same)
    ∙ sym (bound_more hash_key sketch bits packet cell_max 0 before row (omega (arith, within, length-cells hash_key sketch bits packets)))
    ∙ ap (bound_in hash_key sketch bits packet cell_max 0 before) next
