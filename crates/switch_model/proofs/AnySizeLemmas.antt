-- The cells of a task know nothing of its own size.
use Rattle.std.proofs.Common.{◌≡◌, ℕ, ◌+◌, ◌^◌, ◌==◌, Bool, List, [], ◌∷◌, map, filter, refl, ap, ◌∙◌}
use Rattle.std.specs.Prelude.{Option, None, Some, replicate, slice_index, slice_set}
use Rattle.std.specs.List.{fold, range_with_len}
use Rattle.std.proofs.Math.Path.{fun_ext}
use Rattle.pkt_headers.specs.declared.packets.Packet.{Packet}
use Rattle.pkt_headers.specs.Packets.{weight_of}
use Rattle.sketch_defs.specs.declared.kinds.Kind.{Kind}
use Rattle.sketch_defs.specs.declared.kinds.Kind.TheVariants.{Cms, SumaxSum, SumaxMax, Bloom, Mrac, Hll, FlagOr, FlagAnd}
use Rattle.sketch_defs.specs.Tasks.{Sketch}
use Rattle.sketch_defs.specs.Cells.{Gathering, gathering_of, gathered, brought_by, packets_at, raised_cell, next_bound, raised_rows, raised, cells_of, cells_by, chained_cells, independent_cells, independent_cell, index_at, row_hash_at, key_hash}

abbrev sized : Sketch → ℕ → Sketch
sized task size = record task { size = size }

same_index : (hash_key : List ℕ) (task : Sketch) (size bits row : ℕ) (packet : Packet)
    → index_at hash_key (sized task size) bits row packet ≡ index_at hash_key task bits row packet
unfolding index_at row_hash_at key_hash
same_index hash_key task size bits row packet = refl

same_brought : (kind : Kind) (hash_key : List ℕ) (task : Sketch) (size bits row : ℕ) (packet : Packet)
    → brought_by kind hash_key (sized task size) bits row packet ≡ brought_by kind hash_key task bits row packet
unfolding row_hash_at key_hash
same_brought Cms hash_key task size bits row packet = refl
same_brought SumaxSum hash_key task size bits row packet = refl
same_brought SumaxMax hash_key task size bits row packet = refl
same_brought Bloom hash_key task size bits row packet = refl
same_brought Mrac hash_key task size bits row packet = refl
same_brought Hll hash_key task size bits row packet = refl
same_brought FlagOr hash_key task size bits row packet = refl
same_brought FlagAnd hash_key task size bits row packet = refl

same_packets : (hash_key : List ℕ) (task : Sketch) (size bits : ℕ) (packets : List Packet) (row index : ℕ)
    → packets_at hash_key (sized task size) bits packets row index ≡ packets_at hash_key task bits packets row index
same_packets hash_key task size bits packets row index =
    ap (λ (test : Packet → Bool). filter test packets) (fun_ext (λ packet. ap (λ n. n == index) (same_index hash_key task size bits row packet)))

same_cell : (gathering : Gathering) (hash_key : List ℕ) (task : Sketch) (size bits : ℕ) (packets : List Packet) (row index : ℕ)
    → independent_cell gathering hash_key (sized task size) bits packets row index ≡ independent_cell gathering hash_key task bits packets row index
unfolding independent_cell
same_cell gathering hash_key task size bits packets row index =
    ap (λ ps. gathered gathering (map (brought_by task.kind hash_key (sized task size) bits row) ps)) (same_packets hash_key task size bits packets row index)
    ∙ ap (λ (f : Packet → ℕ). gathered gathering (map f (packets_at hash_key task bits packets row index)))
    (fun_ext (λ packet. same_brought task.kind hash_key task size bits row packet))

same_independent : (gathering : Gathering) (hash_key : List ℕ) (task : Sketch) (size bits : ℕ) (packets : List Packet)
    → independent_cells gathering hash_key (sized task size) bits packets ≡ independent_cells gathering hash_key task bits packets
unfolding independent_cells
same_independent gathering hash_key task size bits packets =
    ap (λ (f : ℕ → List ℕ). map f (range_with_len 0 task.rows))
    (fun_ext (λ row. ap (λ (f : ℕ → ℕ). map f (range_with_len 0 (2 ^ bits))) (fun_ext (λ index. same_cell gathering hash_key task size bits packets row index))))

same_rows : (hash_key : List ℕ) (task : Sketch) (size bits : ℕ) (packet : Packet) (bound row : ℕ) (rows : List (List ℕ))
    → raised_rows hash_key (sized task size) bits packet bound row rows ≡ raised_rows hash_key task bits packet bound row rows
same_rows hash_key task size bits packet bound row [] = refl
same_rows hash_key task size bits packet bound row (cells ∷ rows) =
    let weight : ℕ = weight_of packet task.attr in
    let next : ℕ → ℕ = λ index. next_bound weight bound (slice_index cells index) in
    let here : ℕ → List ℕ = λ index. slice_set cells index (raised_cell weight bound (slice_index cells index)) in
    let mine : ℕ = index_at hash_key (sized task size) bits row packet in
    ap (λ rest. here mine ∷ rest) (same_rows hash_key task size bits packet (next mine) (row + 1) rows)
    ∙ ap (λ index. here index ∷ raised_rows hash_key task bits packet (next index) (row + 1) rows) (same_index hash_key task size bits row packet)

same_raised : (hash_key : List ℕ) (task : Sketch) (size bits : ℕ) → raised hash_key (sized task size) bits ≡ raised hash_key task bits
unfolding raised
same_raised hash_key task size bits = fun_ext (λ rows. fun_ext (λ packet. same_rows hash_key task size bits packet 4294967295 0 rows))

same_chained : (hash_key : List ℕ) (task : Sketch) (size bits : ℕ) (packets : List Packet)
    → chained_cells hash_key (sized task size) bits packets ≡ chained_cells hash_key task bits packets
unfolding chained_cells
same_chained hash_key task size bits packets =
    ap (λ (f : List (List ℕ) → Packet → List (List ℕ)). fold f (replicate task.rows (replicate (2 ^ bits) 0)) packets) (same_raised hash_key task size bits)

pub cells_any_size : (hash_key : List ℕ) (task : Sketch) (size bits : ℕ) (packets : List Packet)
    → cells_of hash_key (record task { size = size }) bits packets ≡ cells_of hash_key task bits packets
unfolding cells_of
cells_any_size hash_key task size bits packets = by (gathering_of task.kind) where
  by : (gathering : Option Gathering) → cells_by gathering hash_key (sized task size) bits packets ≡ cells_by gathering hash_key task bits packets
  by None = same_chained hash_key task size bits packets
  by (Some gathering) = same_independent gathering hash_key task size bits packets
