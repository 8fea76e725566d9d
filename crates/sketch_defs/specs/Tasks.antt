-- Tasks, and which of them there are.
use Rattle.std.specs.Prelude.{ℕ, ◌&&◌, Bool, true, false, not, nat_le, if◌then◌else◌, List, Option, None, Some}
use Rattle.std.specs.Str.{bytes_eq}
use Rattle.key_mask.specs.Masks.{no_lengths}
use Rattle.pkt_headers.specs.declared.packets.Attr.{Attr}
use Rattle.pkt_headers.specs.declared.packets.Attr.TheVariants.{Packets, Bytes, Ttl, Flags, Flow}
use Rattle.task_filters.specs.Filters.{Pattern}
use Rattle.sketch_defs.specs.declared.kinds.Kind.{Kind}
use Rattle.sketch_defs.specs.declared.kinds.Kind.TheVariants.{Cms, SumaxSum, SumaxMax, Bloom, Mrac, Hll, FlagOr, FlagAnd}
use Rattle.sketch_defs.specs.declared.tasks.TaskFault.{TaskFault}
use Rattle.sketch_defs.specs.declared.tasks.TaskFault.TheVariants as faults

-- a task: the bytes of its name, the prefix lengths of its key, and its other parts
pub record Sketch : Type 0 where
  pub name : List ℕ
  pub kind : Kind
  pub rows : ℕ
  pub key : List ℕ
  pub attr : Attr
  pub filter : Pattern
  pub size : ℕ

abbrev pub most_rows : Kind → ℕ
most_rows Cms = 4
most_rows SumaxSum = 4
most_rows SumaxMax = 4
most_rows Bloom = 4
most_rows Mrac = 1
most_rows Hll = 1
most_rows FlagOr = 4
most_rows FlagAnd = 4

abbrev pub allows_rows : Kind → ℕ → Bool
allows_rows kind rows = nat_le 1 rows && nat_le rows (most_rows kind)

-- the weights that are amounts
abbrev pub is_amount : Attr → Bool
is_amount Packets = true
is_amount Bytes = true
is_amount Ttl = true
is_amount Flags = false
is_amount Flow = false

abbrev pub is_flow : Attr → Bool
is_flow Packets = false
is_flow Bytes = false
is_flow Ttl = false
is_flow Flags = false
is_flow Flow = true

abbrev pub are_flags : Attr → Bool
are_flags Packets = false
are_flags Bytes = false
are_flags Ttl = false
are_flags Flags = true
are_flags Flow = false

-- the attributes of a kind
abbrev pub allows : Kind → Attr → Bool
allows Cms attr = is_amount attr
allows SumaxSum attr = is_amount attr
allows SumaxMax attr = is_amount attr
allows Bloom attr = is_flow attr
allows Mrac attr = is_amount attr
allows Hll attr = is_flow attr
allows FlagOr attr = are_flags attr
allows FlagAnd attr = are_flags attr

-- no field stands in the key
unfoldable pub is_no_key : List ℕ → Bool
is_no_key key = bytes_eq key no_lengths

-- the first cause why there is no such task
abbrev pub first_fault : Sketch → Option TaskFault
first_fault sketch =
    if not (allows_rows sketch.kind sketch.rows) then Some faults.Rows
    else (if is_no_key sketch.key then Some faults.EmptyKey
    else (if not (allows sketch.kind sketch.attr) then Some faults.Attr
    else None))
