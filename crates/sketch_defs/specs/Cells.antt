-- The cells of a task: what its registers hold, by the packets that came to each. `bits` says how many cells a row has, apart
-- from the task's own size, so that a partition that was frozen at another size uses the same words.
use Rattle.std.specs.Prelude.{ℕ, ◌+◌, ◌^◌, ◌==◌, zero, suc, min, max, nat_lt, if◌then◌else◌, List, [], ◌∷◌, map, replicate, slice_index, slice_index_or, slice_set, bit_and, bit_or, Option, None, Some}
use Rattle.std.specs.List.{filter, fold, sum, range_with_len}
use Rattle.key_mask.specs.Bytes.{and_bytes}
use Rattle.key_mask.specs.Masks.{mask_bytes_of}
use Rattle.pkt_headers.specs.declared.packets.Packet.{Packet}
use Rattle.pkt_headers.specs.Packets.{weight_of}
use Rattle.addr_translate.specs.Blocks.{index_of}
use Rattle.hash_units.specs.Toeplitz.{hash_of, row_hash_of, bit_of, rho_of}
use Rattle.sketch_defs.specs.declared.kinds.Kind.{Kind}
use Rattle.sketch_defs.specs.declared.kinds.Kind.TheVariants.{Cms, SumaxSum, SumaxMax, Bloom, Mrac, Hll, FlagOr, FlagAnd}
use Rattle.sketch_defs.specs.Tasks.{Sketch}

-- the greatest value of a cell
abbrev pub cell_max : ℕ
cell_max = 4294967295

-- the hash of a vector under the task's key
unfoldable pub key_hash : List ℕ → Sketch → List ℕ → ℕ
key_hash hash_key sketch vector = hash_of hash_key (and_bytes vector (mask_bytes_of sketch.key))

-- the hash that a row uses for a packet
unfoldable pub row_hash_at : List ℕ → Sketch → ℕ → Packet → ℕ
row_hash_at hash_key sketch row packet = row_hash_of (key_hash hash_key sketch packet.vec) row

-- the index of the cell of a row that a packet comes to
unfoldable pub index_at : List ℕ → Sketch → ℕ → ℕ → Packet → ℕ
index_at hash_key sketch bits row packet = index_of (row_hash_at hash_key sketch row packet) bits

-- what a packet brings to its cell
abbrev pub brought_by : Kind → List ℕ → Sketch → ℕ → ℕ → Packet → ℕ
brought_by Cms hash_key sketch bits row packet = weight_of packet sketch.attr
brought_by SumaxSum hash_key sketch bits row packet = weight_of packet sketch.attr
brought_by SumaxMax hash_key sketch bits row packet = weight_of packet sketch.attr
brought_by Bloom hash_key sketch bits row packet = 2 ^ bit_of (row_hash_at hash_key sketch row packet)
brought_by Mrac hash_key sketch bits row packet = weight_of packet sketch.attr
brought_by Hll hash_key sketch bits row packet = rho_of (row_hash_at hash_key sketch row packet) bits
brought_by FlagOr hash_key sketch bits row packet = weight_of packet sketch.attr
brought_by FlagAnd hash_key sketch bits row packet = weight_of packet sketch.attr

-- the packets that come to a cell of a row
abbrev pub packets_at : List ℕ → Sketch → ℕ → List Packet → ℕ → ℕ → List Packet
packets_at hash_key sketch bits packets row index = filter (λ packet. index_at hash_key sketch bits row packet == index) packets

-- how a cell makes its value of all that its packets brought
pub data Gathering : Type 0 where
  Added : Gathering
  Greatest : Gathering
  AnyBits : Gathering
  AllBits : Gathering

-- that of a kind whose rows know nothing of one another; in SuMax that adds a row knows of the rows before it
abbrev pub gathering_of : Kind → Option Gathering
gathering_of Cms = Some Added
gathering_of SumaxSum = None
gathering_of SumaxMax = Some Greatest
gathering_of Bloom = Some AnyBits
gathering_of Mrac = Some Added
gathering_of Hll = Some Greatest
gathering_of FlagOr = Some AnyBits
gathering_of FlagAnd = Some AllBits

abbrev pub gathered : Gathering → List ℕ → ℕ
gathered Added brought = min (sum brought) cell_max
gathered Greatest brought = fold max 0 brought
gathered AnyBits brought = fold bit_or 0 brought
gathered AllBits brought = fold bit_and cell_max brought

-- a cell of a row that knows nothing of the others
unfoldable pub independent_cell : Gathering → List ℕ → Sketch → ℕ → List Packet → ℕ → ℕ → ℕ
independent_cell gathering hash_key sketch bits packets row index =
    gathered gathering (map (brought_by sketch.kind hash_key sketch bits row) (packets_at hash_key sketch bits packets row index))

unfoldable pub independent_cells : Gathering → List ℕ → Sketch → ℕ → List Packet → List (List ℕ)
independent_cells gathering hash_key sketch bits packets =
    map (λ row. map (independent_cell gathering hash_key sketch bits packets row) (range_with_len 0 (2 ^ bits))) (range_with_len 0 sketch.rows)

-- SuMax-Sum: a cell below the bound of a packet is raised by the weight and is the bound of the next row; any other cell,
-- and the bound, stay
abbrev pub raised_cell : ℕ → ℕ → ℕ → ℕ
raised_cell weight bound cell = if nat_lt cell bound then min (cell + weight) cell_max else cell

abbrev pub next_bound : ℕ → ℕ → ℕ → ℕ
next_bound weight bound cell = if nat_lt cell bound then min (cell + weight) cell_max else bound

-- the rows from this one on after a packet that comes to them with this bound
abbrev pub raised_rows : List ℕ → Sketch → ℕ → Packet → ℕ → ℕ → List (List ℕ) → List (List ℕ)
raised_rows hash_key sketch bits packet bound row [] = []
raised_rows hash_key sketch bits packet bound row (cells ∷ rows) =
    let index = index_at hash_key sketch bits row packet in
    let weight = weight_of packet sketch.attr in
    let cell = slice_index cells index in
    slice_set cells index (raised_cell weight bound cell) ∷ raised_rows hash_key sketch bits packet (next_bound weight bound cell) (row + 1) rows

unfoldable pub raised : List ℕ → Sketch → ℕ → List (List ℕ) → Packet → List (List ℕ)
raised hash_key sketch bits rows packet = raised_rows hash_key sketch bits packet cell_max 0 rows

unfoldable pub chained_cells : List ℕ → Sketch → ℕ → List Packet → List (List ℕ)
chained_cells hash_key sketch bits packets = fold (raised hash_key sketch bits) (replicate sketch.rows (replicate (2 ^ bits) 0)) packets

-- the bound as the i-th of these rows finds it
abbrev pub bound_in : List ℕ → Sketch → ℕ → Packet → ℕ → ℕ → List (List ℕ) → ℕ → ℕ
bound_in hash_key sketch bits packet bound row rows zero = bound
bound_in hash_key sketch bits packet bound row [] (suc i) = bound
bound_in hash_key sketch bits packet bound row (cells ∷ rows) (suc i) =
    bound_in hash_key sketch bits packet
    (next_bound (weight_of packet sketch.attr) bound (slice_index cells (index_at hash_key sketch bits row packet))) (row + 1) rows i

-- the bound of a packet as a row of these cells finds it
unfoldable pub bound_at : List ℕ → Sketch → ℕ → List (List ℕ) → Packet → ℕ → ℕ
bound_at hash_key sketch bits cells packet row = bound_in hash_key sketch bits packet cell_max 0 cells row

abbrev pub cells_by : Option Gathering → List ℕ → Sketch → ℕ → List Packet → List (List ℕ)
cells_by None hash_key sketch bits packets = chained_cells hash_key sketch bits packets
cells_by (Some gathering) hash_key sketch bits packets = independent_cells gathering hash_key sketch bits packets

-- the rows of a task after these packets, each a list of `2 ^ bits` cells
unfoldable pub cells_of : List ℕ → Sketch → ℕ → List Packet → List (List ℕ)
cells_of hash_key sketch bits packets = cells_by (gathering_of sketch.kind) hash_key sketch bits packets

abbrev pub row_of : List (List ℕ) → ℕ → List ℕ
row_of rows row = slice_index_or rows row []
