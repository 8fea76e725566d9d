-- An added task that goes again leaves what was there.
use Rattle.std.proofs.Common.{◌≡◌, ℕ, false, List, [], ◌∷◌, ◌++◌, length, map, refl, ap, ◌∙◌}
use Rattle.std.specs.Prelude.{Result, Ok, Err}
use Rattle.std.specs.List.{All, fold}
use Rattle.std.proofs.lemmas.List.{append-nil}
use Rattle.std.proofs.lemmas.List.Sums.{fold-append}
use Rattle.addr_translate.specs.Geometry.{Geometry}
use Rattle.pkt_headers.specs.declared.packets.Packet.{Packet}
use Rattle.switch_model.specs.Records.{Record, Outline, outlines}
use Rattle.switch_model.specs.Sights.{sight_of}
use Rattle.switch_model.specs.Changes.{Change, Remove, Edit, Drop, Refusal, is_called, row_at, new_outline, at_found, at_place, judged, edited_outlines, edited_records, after_verdict, changed}
use Rattle.switch_model.specs.Histories.{Event, Passes, Changes, stepped, after}
use Rattle.switch_model.specs.Laws.{RemovalRestores, RefusalLeaves, Restores}
use Rattle.switch_model.proofs.ListLemmas.{position_here, get_here, removed_here}
use Rattle.switch_model.proofs.JudgedLemmas.{AddIs, add_is}
use Rattle.switch_model.proofs.IsolationLemmas.{join_same, edited_same, bytes_same}

-- what a verdict leaves of the outlines
abbrev pub outlines_after : Result Edit Refusal → List Outline → List Outline
outlines_after (Ok edit) all = edited_outlines edit all
outlines_after (Err why) all = all

pub verdict_same : (verdict : Result Edit Refusal) (rs : List Record) → outlines (after_verdict verdict rs) ≡ outlines_after verdict (outlines rs)
verdict_same (Ok edit) rs = edited_same edit rs
verdict_same (Err why) rs = refl

pub changed_same : (geometry : Geometry) (rs : List Record) (change : Change)
    → outlines (changed geometry rs change) ≡ outlines_after (judged geometry (outlines rs) change) (outlines rs)
unfolding changed
changed_same geometry rs change = verdict_same (judged geometry (outlines rs) change) rs

pub packets_same : (geometry : Geometry) (packets : List Packet) (rs : List Record)
    → outlines (fold (stepped geometry) rs (map Passes packets)) ≡ outlines rs
packets_same geometry [] rs = refl
packets_same geometry (packet ∷ packets) rs = packets_same geometry packets (stepped geometry rs (Passes packet)) ∙ join_same packet rs

-- the last task goes
last_goes : (geometry : Geometry) (all : List Outline) (o : Outline) → All (λ x. is_called o.task.name x ≡ false) all
    → outlines_after (judged geometry (all ++ o ∷ []) (Remove o.task.name)) (all ++ o ∷ []) ≡ all
unfolding judged
last_goes geometry all o none =
    let drop : ℕ → Outline → Result Edit Refusal = λ at o. Ok (Drop at) in
    ap (λ found. outlines_after (at_place found (all ++ o ∷ []) drop) (all ++ o ∷ []))
    (position_here (is_called o.task.name) all [] o none (bytes_same o.task.name o.task.name refl))
    ∙ ap (λ there. outlines_after (at_found (length all) there drop) (all ++ o ∷ [])) (get_here all [] o)
    ∙ removed_here all [] o
    ∙ append-nil all

removal_restores : RemovalRestores
unfolding after
removal_restores geometry rs task edit packets h =
    let all : List Outline = outlines rs in
    let is : AddIs geometry all task edit = add_is geometry all task edit h in
    let o : Outline = new_outline task (map (row_at geometry (sight_of geometry all) task) is.found) in
    let remove_ : Event = Changes (Remove task.name) in
    let with_it : List Record = fold (stepped geometry) (edited_records edit rs) (map Passes packets) in
    let outlines_are : outlines with_it ≡ all ++ o ∷ [] =
    packets_same geometry packets (edited_records edit rs) ∙ edited_same edit rs ∙ ap (λ e. edited_outlines e all) is.is in
    ap outlines (fold-append (stepped geometry) (edited_records edit rs) (map Passes packets) (remove_ ∷ []))
    ∙ changed_same geometry with_it (Remove task.name)
    ∙ ap (λ os. outlines_after (judged geometry os (Remove task.name)) os) outlines_are
    ∙ last_goes geometry all o is.new

refusal_leaves : RefusalLeaves
unfolding changed
refusal_leaves geometry records change why refused = ap (λ verdict. after_verdict verdict records) refused

pub restores : Restores
restores = record { removed = removal_restores; refused = refusal_leaves }
