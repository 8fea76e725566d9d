-- What the parts of tasks answer, and how a read-out ends.
use Rattle.std.proofs.Common.{◌≡◌, ◌≢◌, ℕ, Bool, true, false, if◌then◌else◌, List, Option, None, Some, Result, Ok, Err, IfSome, IfOk, option_map, is_some, refl, ap, ap₂, sym, ◌∙◌, subst, inl, inr}
use Rattle.std.specs.Str.{bytes_eq}
use Rattle.std.specs.Prelude.{not, ◌&&◌, IfErr}
use Rattle.std.proofs.lemmas.Bool.{false≢true}
use Rattle.std.proofs.lemmas.Slice.Eq.{bytes_eq-Decides}
use Rattle.key_mask.specs.Masks.{mask_bytes_of}
use Rattle.outside.specs.Sent.{Sends}
use Rattle.outside.proofs.ToldLemmas.{stays_same}
use Rattle.addr_translate.specs.Blocks.{Block}
use Rattle.reg_file.specs.Registers.{Contents}
use Rattle.task_filters.specs.Filters.{Pattern}
use Rattle.sketch_defs.specs.declared.answers.Reply.{Reply}
use Rattle.sketch_defs.specs.declared.kinds.Kind.{Kind}
use Rattle.sketch_defs.specs.declared.kinds.Kind.TheVariants.{Mrac, Hll}
use Rattle.sketch_defs.specs.Answers.{answer_of, cells_found, sizes_of, zeros_of, z_of, raw_of}
use Rattle.sketch_defs.specs.Cells.{key_hash, row_of}
use Rattle.sketch_defs.specs.Tasks.{Sketch}
use Rattle.readout.specs.declared.refusals.Refusal.{Refusal}
use Rattle.readout.specs.declared.refusals.Refusal.TheVariants.{NoFrozen, NoAnswer, BadKey}
use Rattle.readout.specs.declared.refusals.Stop.{Stop}
use Rattle.readout.specs.declared.requests.Ask.{Ask}
use Rattle.readout.specs.declared.requests.Ask.TheVariants.{Cells, Query, Dist, Card}
use Rattle.readout.specs.declared.views.Side.{Side}
use Rattle.readout.specs.declared.views.Side.TheVariants.{Live, Frozen}
use Rattle.readout.specs.Parts.{Rows, SketchPart}
use Rattle.readout.specs.PlacedTasks.{PlacedTask, View, HasSide, place_at, task_in, part_in, parts_in, rows_of_side}
use Rattle.readout.specs.Lines.{query_line, dist_lines, card_line}
use Rattle.readout.specs.Answers.{Answer, lines_of_rows, lines_of_frozen, lines_of_cells, line_of_reply, line_of_query, lines_of_dist, line_of_card, part_named, answer_if_live, answer_by, task_answer, refusal_by, Serves, is_mrac, is_hll, answers_keys}
use Rattle.readout.specs.Outcomes.{Outcome, Judges, Replies, outcome_of_sent}
use Rattle.readout.proofs.ToldLemmas.{told_all, told_then}

-- ---- a task that is not refused answers with lines

-- an answer is this refusal, or lines where there is none
abbrev Agrees : Option Refusal → Answer → Type 0
Agrees None (Ok lines) = Unit {0}
Agrees None (Err refusal) = ⊥
Agrees (Some refusal) answer = answer ≡ Err refusal

frozen_agrees : (task : Sketch) (rows : Rows) (frozen : Option Block)
    → Agrees (if is_some frozen then None else Some NoFrozen) (lines_of_frozen task (option_map (λ (block : Block). rows) frozen))
frozen_agrees task rows None = refl
frozen_agrees task rows (Some block) = tt

reply_agrees : (keyed : Bool) (name : List ℕ) (reply : Option Reply)
    → Agrees (if is_some reply then (if keyed then None else Some BadKey) else Some NoAnswer) (line_of_reply keyed name reply)
reply_agrees keyed name None = refl
reply_agrees true name (Some reply) = tt
reply_agrees false name (Some reply) = refl

only_agrees : (has : Bool) (lines : List ℕ) → Agrees (if has then None else Some NoAnswer) (if has then Ok lines else Err NoAnswer)
only_agrees true lines = tt
only_agrees false lines = refl

some_reply : (kind : Kind) (cells : List ℕ) (h : ℕ) → is_some (answer_of kind cells h) ≡ answers_keys kind
unfolding answer_of
some_reply Mrac cells h = refl
some_reply Hll cells h = refl
some_reply _ cells h = refl

-- what the cells of a task reply to a key value
abbrev pub reply_of : List ℕ → Pattern → SketchPart → Option Reply
reply_of hash_key at part =
    let h = key_hash hash_key part.task at.value in answer_of part.task.kind (cells_found h part.live.bits part.live.cells) h

key_agrees : (hash_key : List ℕ) (at : Pattern) (part : SketchPart)
    → Agrees (if answers_keys part.task.kind then (if bytes_eq at.mask part.task.key then None else Some BadKey) else Some NoAnswer) (line_of_query hash_key at part)
unfolding line_of_query
key_agrees hash_key at part =
    let h = key_hash hash_key part.task at.value in
    let keyed = bytes_eq at.mask part.task.key in
    subst (λ some. Agrees (if some then (if keyed then None else Some BadKey) else Some NoAnswer) (line_of_reply keyed part.task.name (reply_of hash_key at part)))
    (some_reply part.task.kind (cells_found h part.live.bits part.live.cells) h) (reply_agrees keyed part.task.name (reply_of hash_key at part))

dist_agrees : (part : SketchPart) → Agrees (if is_mrac part.task.kind then None else Some NoAnswer) (lines_of_dist part)
unfolding lines_of_dist
dist_agrees part = only_agrees (is_mrac part.task.kind) (dist_lines part.task.name (sizes_of (row_of part.live.cells 0)))

card_agrees : (part : SketchPart) → Agrees (if is_hll part.task.kind then None else Some NoAnswer) (line_of_card part)
unfolding line_of_card
card_agrees part =
    let cells = row_of part.live.cells 0 in
    only_agrees (is_hll part.task.kind) (card_line part.task.name (zeros_of cells) (z_of cells) (raw_of part.live.bits (z_of cells)))

agrees : (hash_key : List ℕ) (ask : Ask) (placed : PlacedTask) (told : Contents) → Agrees (refusal_by ask placed) (task_answer hash_key ask (part_in told placed))
agrees hash_key (Cells Live) placed told = tt
agrees hash_key (Cells Frozen) placed told = frozen_agrees placed.task (rows_of_side told Frozen placed) (place_at placed 0).frozen
agrees hash_key (Query at) placed told = key_agrees hash_key at (part_in told placed)
agrees hash_key Dist placed told = dist_agrees (part_in told placed)
agrees hash_key Card placed told = card_agrees (part_in told placed)

-- ---- what a task has that is not refused

unrefused : (has : Bool) (refusal : Refusal) (rest : Option Refusal) → (if has then rest else Some refusal) ≡ None → has ≡ true
unrefused true refusal rest e = refl
unrefused false refusal rest e = let no : ⊥ = cc in absurd no

pub has_side : (side : Side) (placed : PlacedTask) → refusal_by (Cells side) placed ≡ None → HasSide side placed
has_side Live placed e = tt
has_side Frozen placed e = unrefused (is_some (place_at placed 0).frozen) NoFrozen None e

pub has_reply : (at : Pattern) (placed : PlacedTask) → refusal_by (Query at) placed ≡ None → answers_keys placed.task.kind ≡ true
has_reply at placed e = unrefused (answers_keys placed.task.kind) NoAnswer (if bytes_eq at.mask placed.task.key then None else Some BadKey) e

pub has_key : (at : Pattern) (placed : PlacedTask) → refusal_by (Query at) placed ≡ None → bytes_eq at.mask placed.task.key ≡ true
has_key at placed e =
    unrefused (bytes_eq at.mask placed.task.key) BadKey None
    (subst (λ some. (if some then (if bytes_eq at.mask placed.task.key then None else Some BadKey) else Some NoAnswer) ≡ None) (has_reply at placed e) e)

ranks : (kind : Kind) → is_hll kind ≡ true → kind ≡ Hll
ranks Hll e = refl
ranks _ e = absurd (false≢true e)

pub has_ranks : (placed : PlacedTask) → refusal_by Card placed ≡ None → placed.task.kind ≡ Hll
has_ranks placed e = ranks placed.task.kind (unrefused (is_hll placed.task.kind) NoAnswer None e)

pub no_counters : (kind : Kind) → answers_keys kind ≡ true → kind ≢ Mrac
no_counters kind answers is = false≢true (sym (ap answers_keys is) ∙ answers)

pub no_ranks : (kind : Kind) → answers_keys kind ≡ true → kind ≢ Hll
no_ranks kind answers is = false≢true (sym (ap answers_keys is) ∙ answers)

-- ---- what holds of the lines of a task holds of its answer

frozen_lines : (task : Sketch) (rows : Rows) (frozen : Option Block) (P : List ℕ → Type 0) → P (lines_of_rows Frozen task rows)
    → IfOk (lines_of_frozen task (option_map (λ (block : Block). rows) frozen)) P
frozen_lines task rows None P p = tt
frozen_lines task rows (Some block) P p = p

pub cells_answered : (side : Side) (placed : PlacedTask) (told : Contents) (P : List ℕ → Type 0) → P (lines_of_rows side placed.task (rows_of_side told side placed))
    → IfOk (lines_of_cells side (part_in told placed)) P
cells_answered Live placed told P p = p
cells_answered Frozen placed told P p = frozen_lines placed.task (rows_of_side told Frozen placed) (place_at placed 0).frozen P p

only_lines : (has : Bool) (lines : List ℕ) (refusal : Refusal) (P : List ℕ → Type 0) → P lines → let answer : Answer = if has then Ok lines else Err refusal in IfOk answer P
only_lines true lines refusal P p = p
only_lines false lines refusal P p = tt

pub dist_answered : (part : SketchPart) (P : List ℕ → Type 0) → P (dist_lines part.task.name (sizes_of (row_of part.live.cells 0))) → IfOk (lines_of_dist part) P
unfolding lines_of_dist
dist_answered part P p = only_lines (is_mrac part.task.kind) (dist_lines part.task.name (sizes_of (row_of part.live.cells 0))) NoAnswer P p

pub card_answered : (part : SketchPart) (P : List ℕ → Type 0)
    → P (card_line part.task.name (zeros_of (row_of part.live.cells 0)) (z_of (row_of part.live.cells 0)) (raw_of part.live.bits (z_of (row_of part.live.cells 0))))
    → IfOk (line_of_card part) P
unfolding line_of_card
card_answered part P p =
    let cells = row_of part.live.cells 0 in
    only_lines (is_hll part.task.kind) (card_line part.task.name (zeros_of cells) (z_of cells) (raw_of part.live.bits (z_of cells))) NoAnswer P p

reply_line : (keyed : Bool) (name : List ℕ) (reply : Option Reply) (P : List ℕ → Type 0) → ((r : Reply) → reply ≡ Some r → P (query_line name r)) → IfOk (line_of_reply keyed name reply) P
reply_line keyed name None P p = tt
reply_line true name (Some reply) P p = p reply refl
reply_line false name (Some reply) P p = tt

pub query_answered : (hash_key : List ℕ) (at : Pattern) (part : SketchPart) (P : List ℕ → Type 0)
    → ((reply : Reply) → reply_of hash_key at part ≡ Some reply → P (query_line part.task.name reply)) → IfOk (line_of_query hash_key at part) P
unfolding line_of_query
query_answered hash_key at part P p = reply_line (bytes_eq at.mask part.task.key) part.task.name (reply_of hash_key at part) P p

-- ---- outcomes

-- the task of the name does not answer
pub refused_by : (hash_key name : List ℕ) (ask : Ask) (view : View) (told : Contents) (placed : PlacedTask) (refusal : Refusal)
    → part_named name (parts_in told view) ≡ Some (part_in told placed) → refusal_by ask placed ≡ Some refusal
    → answer_by name (task_answer hash_key ask) (parts_in told view) ≡ Err refusal
refused_by hash_key name ask view told placed refusal found is =
    ap (answer_if_live (task_answer hash_key ask)) found ∙ subst (λ r. Agrees r (task_answer hash_key ask (part_in told placed))) is (agrees hash_key ask placed told)

pub refused_so : (answer : Contents → Answer) (cells : Option Contents) (before : Option (List ℕ)) (refusal : Refusal)
    → ((told : Contents) → answer told ≡ Err refusal) → Replies answer cells before (Ok (Err refusal)) before
refused_so answer cells before refusal all = record {
  verdict = λ told. subst (λ a. Judges a before (Ok (Err refusal)) before) (sym (all told)) (refl, stays_same before);
  sent = told_all cells (λ told. IfOk (answer told) (λ lines. Sends {T = Result (Unit {0}) Refusal} {E = Stop} before lines (Ok (Err refusal)) before))
      (λ told. subst (λ (a : Answer). IfOk a (λ lines. Sends {T = Result (Unit {0}) Refusal} {E = Stop} before lines (Ok (Err refusal)) before)) (sym (all told)) tt);
}

answered_so : (answer : Answer) (P Q : List ℕ → Type 0) → ((lines : List ℕ) → P lines → Q lines) → IfOk answer P → IfOk answer Q
answered_so (Ok lines) P Q step p = step lines p
answered_so (Err refusal) P Q step p = tt

-- lines that were sent, or not all of them
sent_so : (answer : Answer) (before after : Option (List ℕ)) (sent : Result (Unit {0}) Stop) → Agrees None answer → Judges answer before (outcome_of_sent sent) after
sent_so (Ok lines) before after (Ok x) told = tt
sent_so (Ok lines) before after (Err stop) told = tt
sent_so (Err refusal) before after sent told = absurd told

sends_so : (before after : Option (List ℕ)) (lines : List ℕ) (sent : Result (Unit {0}) Stop) → Sends before lines sent after → Sends before lines (outcome_of_sent sent) after
sends_so before after lines (Ok x) sends = sends
sends_so before after lines (Err stop) sends = sends

-- the lines of the task of the name were sent, or a fault stopped them
pub served_so : (hash_key name : List ℕ) (ask : Ask) (view : View) (at : ℕ) (cells : Option Contents) (before after : Option (List ℕ)) (sent : Result (Unit {0}) Stop) (outcome : Outcome)
    → Serves name ask view at → outcome ≡ outcome_of_sent sent
    → IfSome cells (λ told. IfOk (task_answer hash_key ask (part_in told (task_in view at))) (λ lines. Sends before lines sent after))
    → Replies (λ told. answer_by name (task_answer hash_key ask) (parts_in told view)) cells before outcome after
served_so hash_key name ask view at cells before after sent outcome serves is sends =
    let answer : Contents → Answer = λ told. task_answer hash_key ask (part_in told (task_in view at)) in
    let same : (told : Contents) → answer_by name (task_answer hash_key ask) (parts_in told view) ≡ answer told = λ told. ap (answer_if_live (task_answer hash_key ask)) (serves.found told) in
    subst (λ (o : Outcome). Replies (λ told. answer_by name (task_answer hash_key ask) (parts_in told view)) cells before o after) (sym is) (record {
      verdict = λ told. subst (λ a. Judges a before (outcome_of_sent sent) after) (sym (same told))
          (sent_so (answer told) before after sent (subst (λ r. Agrees r (answer told)) serves.answers (agrees hash_key ask (task_in view at) told)));
      sent = told_then cells (λ told. IfOk (answer told) (λ lines. Sends before lines sent after))
          (λ told. IfOk (answer_by name (task_answer hash_key ask) (parts_in told view)) (λ lines. Sends before lines (outcome_of_sent sent) after))
          (λ told p. subst (λ (a : Answer). IfOk a (λ lines. Sends before lines (outcome_of_sent sent) after)) (sym (same told))
          (answered_so (answer told) (λ lines. Sends before lines sent after) (λ lines. Sends before lines (outcome_of_sent sent) after)
          (λ lines. sends_so before after lines sent) p)) sends;
    })

pub stop_so : (sent : Result (Unit {0}) Stop) (outcome : Outcome) (P : Stop → Type 0) → outcome ≡ outcome_of_sent sent → IfErr sent P → IfErr outcome P
stop_so (Ok x) outcome P is p = subst (λ (o : Outcome). IfErr o P) (sym is) tt
stop_so (Err stop) outcome P is p = subst (λ (o : Outcome). IfErr o P) (sym is) p

-- ---- masks that differ

keys_differ : (v w : Bool) → w ≡ true → true ≡ not (v && w) → v ≡ false
keys_differ false w both h = refl
keys_differ true true both h = absurd (false≢true (sym h))
keys_differ true false both h = absurd (false≢true both)

other_mask : (a b : List ℕ) (v : Bool) → bytes_eq a b ≡ v → true ≡ not (v && bytes_eq (mask_bytes_of a) (mask_bytes_of b)) → v ≡ false
other_mask a b false e h = refl
other_mask a b true e h =
    let same : a ≡ b = (bytes_eq-Decides a b).0 e in
    let both : bytes_eq (mask_bytes_of a) (mask_bytes_of b) ≡ true = (bytes_eq-Decides (mask_bytes_of a) (mask_bytes_of b)).1 (ap mask_bytes_of same) in
    keys_differ true (bytes_eq (mask_bytes_of a) (mask_bytes_of b)) both h

-- two masks that are not the same
pub masks_differ : (a b : List ℕ) → true ≡ not (bytes_eq a b && bytes_eq (mask_bytes_of a) (mask_bytes_of b)) → bytes_eq a b ≡ false
masks_differ a b h = other_mask a b (bytes_eq a b) refl h
