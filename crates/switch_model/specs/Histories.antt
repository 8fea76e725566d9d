-- Histories of packets and changes, and what a task has of one: it knows of no other task.
use Rattle.std.specs.Prelude.{ℕ, Bool, true, false, if◌then◌else◌, List, [], ◌∷◌, ◌++◌, Option, None, Some, option_map, Result, Ok, Err}
use Rattle.std.specs.List.{find, fold}
use Rattle.std.specs.Str.{bytes_eq}
use Rattle.addr_translate.specs.Geometry.{Geometry}
use Rattle.pkt_headers.specs.declared.packets.Packet.{Packet}
use Rattle.switch_model.specs.Records.{Part, Record, outlines}
use Rattle.switch_model.specs.Changes.{Change, Add, Resize, Remove, Release, Edit, Refusal, judged, changed, started, resized_part, released_part}
use Rattle.switch_model.specs.Packets.{joined_part, join}

pub data Event : Type 0 where
  Passes : (packet : Packet) → Event
  Changes : (change : Change) → Event

abbrev pub stepped : Geometry → List Record → Event → List Record
stepped geometry records (Passes packet) = join packet records
stepped geometry records (Changes change) = changed geometry records change

unfoldable pub after : Geometry → List Record → List Event → List Record
after geometry records events = fold (stepped geometry) records events

-- ---- which of it is accepted

abbrev pub is_accepted : Result Edit Refusal → Bool
is_accepted (Ok edit) = true
is_accepted (Err refusal) = false

abbrev pub kept : Geometry → List Record → Event → List Event
kept geometry records (Passes packet) = Passes packet ∷ []
kept geometry records (Changes change) =
    if is_accepted (judged geometry (outlines records) change) then Changes change ∷ [] else []

-- the history without the changes that were refused
abbrev pub accepted : Geometry → List Record → List Event → List Event
accepted geometry records [] = []
accepted geometry records (event ∷ events) = kept geometry records event ++ accepted geometry (stepped geometry records event) events

-- ---- one task

abbrev pub has_name : List ℕ → Record → Bool
has_name name r = bytes_eq r.part.task.name name

-- the sketch part of the live task of this name
abbrev pub part_of : List ℕ → List Record → Option Part
part_of name records = option_map (λ (r : Record). r.part) (find (has_name name) records)

-- what an accepted change of the task of this name makes of its sketch part
abbrev pub own_change : Change → Option Part → Option Part
own_change (Add task) part = Some (started task)
own_change (Resize name size) part = option_map (λ (p : Part). resized_part (record p.task { size = size }) p) part
own_change (Remove name) part = None
own_change (Release name) part = option_map released_part part

abbrev pub name_in : Change → List ℕ
name_in (Add task) = task.name
name_in (Resize name size) = name
name_in (Remove name) = name
name_in (Release name) = name

-- packets that its filter matches join it, and the changes of other tasks are nothing to it
abbrev pub alone_after : List ℕ → Option Part → Event → Option Part
alone_after name part (Passes packet) = option_map (joined_part packet) part
alone_after name part (Changes change) = if bytes_eq (name_in change) name then own_change change part else part

-- the sketch part of the task of this name after these packets and accepted changes
unfoldable pub alone : List ℕ → List Event → Option Part
alone name events = fold (alone_after name) None events
