-- A change behind a commit: it fills registers on which no packet in flight has an operation to make.
use Rattle.std.proofs.Common.{◌≡◌, ℕ, ◌+◌, ◌-◌, ◌<◌, ◌^◌, Bool, true, false, cond, List, [], ◌∷◌, length, map, filter, get_or, Option, Result, Ok, Err, refl, ap, ap₂, sym, ◌∙◌, subst, arith}
use Rattle.std.specs.Prelude.{◌||◌}
use Rattle.std.specs.List.{All, Contains, list_any}
use Rattle.std.proofs.Math.Path.{fun_ext}
use Rattle.std.proofs.lemmas.Bool.{false≢true}
use Rattle.std.proofs.lemmas.List.{append-nil}
use Rattle.std.proofs.lemmas.List.Elements.{All-nil, All-head, All-tail, All-contains}
use Rattle.std.proofs.lemmas.List.Folds.{list_any_at}
use Rattle.arrayvec.specs.ArrayString.{ArrayString}
use Rattle.outside.specs.Told.{Grows}
use Rattle.outside.proofs.ToldLemmas.{grows_then}
use Rattle.addr_translate.specs.Geometry.{Geometry, IsGeometry}
use Rattle.addr_translate.specs.Blocks.{Block}
use Rattle.pkt_headers.specs.declared.packets.Packet.{Packet}
use Rattle.reg_file.specs.declared.traits.Call.{Call}
use Rattle.reg_file.specs.declared.traits.DeviceFault.{DeviceFault}
use Rattle.reg_file.specs.Registers.{Contents}
use Rattle.pipe_core.specs.Flow.{stages_in}
use Rattle.pipe_core.specs.Rules as pipes
use Rattle.pipe_flight.specs.Flights as flights
use Rattle.pipe_flight.specs.Flights.{Flying, Versions, drained, drain}
use Rattle.pipe_flight.specs.Orders.{IsFlight, is_old, is_present}
use Rattle.pipe_flight.specs.Schedules.{Fill, filled, Avoids}
use Rattle.pipe_flight.specs.Drains.{with_now}
use Rattle.pipe_flight.specs.Pipes.{Names}
use Rattle.pipe_flight.specs.States.{versions, group_count}
use Rattle.pipe_flight.proofs.PipeLemmas.{unnamed_avoided}
use Rattle.pipe_flight.proofs.LawLemmas.{fill_drain}
use Rattle.pipe_flight.proofs.OrderLemmas.{all_old}
use Rattle.reg_file.specs.Calls.{all_made}
use Rattle.switch_model.specs.Records.{Outline}
use Rattle.switch_model.specs.Sights.{Holding, all_held}
use Rattle.switch_model.specs.Soundness.{Sound, ShareNone}
use Rattle.switch_model.specs.Changes as tasks
use Rattle.switch_model.specs.Changes.{Edit, Refusal, judged}
use Rattle.switch_model.specs.Laws.{is_in, fresh_of, start_in, Refilled}
use Rattle.switch_model.proofs.ListLemmas.{Across}
use Rattle.switch_model.proofs.LayoutLemmas.{not_in}
use Rattle.rule_txn.specs.Switch.{SwitchState, rules_for}
use Rattle.rule_txn.specs.Fills.{StayOutside, Refills}
use Rattle.rule_txn.proofs.BridgeChanges.{fresh_apart}
use Rattle.rule_txn.proofs.SwitchRules.{entry_held}
use Rattle.flymon_engine.specs.declared.work.Change.{Change}
use Rattle.flymon_engine.specs.Boards.{Board}
use Rattle.flymon_engine.specs.ChangeLines.{change_of}
use Rattle.flymon_engine.specs.Moves.{Moves, Changes}
use Rattle.flymon_engine.specs.Serial.{serial_rules, IsSerial, EditsTo}
use Rattle.flymon_engine.specs.Flight.{flight_rules, committed}
use Rattle.flymon_engine.specs.Pipelined.{alofts, versions_of, IsPipeOf, IsAirborne}
use Rattle.flymon_engine.proofs.FlyingLemmas.{fill_alofts}
use Rattle.flymon_engine.proofs.PipelinedLemmas.{versions_are, commits}

-- ---- what a change fills

-- the regions that it takes
abbrev pub fresh_in : Result Edit Refusal → List Holding
fresh_in (Ok edit) = fresh_of edit
fresh_in (Err why) = []

-- their registers become what these registers hold there
abbrev pub fill_of : List Holding → Contents → Fill
fill_of fresh new = record { test = λ array addr. list_any (is_in array addr) fresh; value = new }

outside : {T F : Type 0} (v : Result Edit Refusal) (result : Result T F) (old new : Contents) → Refills v result old new → StayOutside (fresh_in v) old new
outside (Ok edit) (Ok t) old new fills = fills.others
outside (Ok edit) (Err fault) old new fills = fills
outside (Err why) result old new fills = fills

filled_so : (fresh : List Holding) (old new : Contents) → StayOutside fresh old new → new ≡ filled (fill_of fresh new) old
filled_so fresh old new stay = fun_ext (λ array. fun_ext (λ addr. by array addr (list_any (is_in array addr) fresh) refl)) where
  by : (array addr : ℕ) (b : Bool) → list_any (is_in array addr) fresh ≡ b → new array addr ≡ cond b (new array addr) (old array addr)
  by array addr true e = refl
  by array addr false e = stay array addr e

-- the same fill over other registers
stay_over : (fresh : List Holding) (new over : Contents) → StayOutside fresh over (filled (fill_of fresh new) over)
stay_over fresh new over array addr e = ap (λ b. cond b (new array addr) (over array addr)) e

refilled_over : (fresh : List Holding) (value : ℕ) (old new over : Contents) → Refilled fresh value old new → Refilled fresh value over (filled (fill_of fresh new) over)
refilled_over fresh value old new over is = record {
  filled = λ k d within addr inside.
      let h : Holding = get_or fresh k d in
      ap (λ b. cond b (new h.array addr) (over h.array addr)) (list_any_at (is_in h.array addr) fresh k d within inside)
      ∙ is.filled k d within addr inside;
  others = stay_over fresh new over;
}

refills_over : {T F : Type 0} (v : Result Edit Refusal) (result : Result T F) (old new over : Contents) → Refills v result old new
    → Refills v result over (filled (fill_of (fresh_in v) new) over)
refills_over (Ok edit) (Ok t) old new over is = refilled_over (fresh_of edit) (start_in edit) old new over is
refills_over (Ok edit) (Err fault) old new over is = stay_over (fresh_of edit) new over
refills_over (Err why) result old new over is = stay_over [] new over

-- ---- it is apart from all that the rules before it name

apart_of : (geometry : Geometry) (all : List Outline) (change : tasks.Change) (v : Result Edit Refusal) → IsGeometry geometry → Sound geometry all
    → judged geometry all change ≡ v → Across ShareNone (fresh_in v) (all_held all)
apart_of geometry all change (Ok edit) good sound e = fresh_apart geometry all change edit good sound e
apart_of geometry all change (Err why) good sound e = All-nil (λ h. All (ShareNone h) (all_held all))

-- a register of a region that is held is in none of them
none_in : (fresh : List Holding) (all : List Holding) (array : ℕ) (region : Block) (j : ℕ) → Across ShareNone fresh all
    → Contains all (let h : Holding = record { array = array; region = region } in h) → j < 2 ^ region.bits
    → list_any (is_in array (region.base + j)) fresh ≡ false
none_in [] all array region j apart among within = refl
none_in (h ∷ fresh) all array region j apart among within =
    let Apart : Holding → Type 0 = λ h. All (ShareNone h) all in
    ap₂ (λ a b. a || b)
    (not_in h array region j (All-contains (ShareNone h) all (record { array = array; region = region }) (All-head Apart h fresh apart) among) within)
    (none_in fresh all array region j (All-tail Apart h fresh apart) among within)

pub fill_avoided : (pipe : pipes.Rules) (switch : SwitchState) (fresh : List Holding) (new : Contents) → IsPipeOf pipe switch
    → Across ShareNone fresh (all_held switch.outlines) → Avoids (stages_in pipe) (fill_of fresh new)
fill_avoided pipe switch fresh new of apart =
    unnamed_avoided pipe (fill_of fresh new) of.whole (λ array addr inside names. never array addr inside names)
  where
    never : (array addr : ℕ) → list_any (is_in array addr) fresh ≡ true → Names pipe array addr → ⊥
    never array addr inside names =
        let held = entry_held pipe switch array names.entry of.tables names.among in
        let low = names.low in let high = names.high in
        let e : names.entry.region.base + (addr - names.entry.region.base) ≡ addr = omega arith in
        let none = none_in fresh (all_held switch.outlines) array names.entry.region (addr - names.entry.region.base) apart held (omega arith) in
        false≢true (sym none ∙ ap (λ a. list_any (is_in array a) fresh) e ∙ inside)

-- ---- the registers after the packets in flight

pub edits_airborne : (pipe : pipes.Rules) (switch after : SwitchState) (change : Change) (result : Result ArrayString DeviceFault) (flying : List (Flying Packet)) (board : Board)
    (old new : Contents) (list new_list : Option (List Call)) → IsGeometry switch.geometry → IsPipeOf pipe switch
    → All (λ (f : Flying Packet). f.kept ≡ true) flying
    → Refills (judged switch.geometry switch.outlines (change_of change)) result old new → EditsTo switch after change result list new_list
    → IsAirborne (versions pipe pipe) switch flying board old
    → Changes serial_rules (IsAirborne (versions_of after pipe) after flying) board change result list new_list new
edits_airborne pipe switch after change result flying board old new list new_list good of kept fills edits air =
    by result (edits.over board over (filled fill over) (refills_over verdict result old new over fills) air.serial)
  where
    verdict : Result Edit Refusal
    verdict = judged switch.geometry switch.outlines (change_of change)

    fill : Fill
    fill = fill_of (fresh_in verdict) new

    rules : Versions Packet
    rules = versions pipe pipe

    over : Contents
    over = drain rules old flying

    sound : Sound switch.geometry switch.outlines
    sound = subst (Sound switch.geometry) (sym air.serial.stands.same) air.serial.stands.sound

    avoids : Avoids (stages_in pipe) fill
    avoids = fill_avoided pipe switch (fresh_in verdict) new of (apart_of switch.geometry switch.outlines (change_of change) verdict good sound refl)

    is_new : filled fill old ≡ new
    is_new = sym (filled_so (fresh_in verdict) old new (outside verdict result old new fills))

    rules_are : with_now rules (stages_in (rules_for after)) ≡ versions_of after pipe
    rules_are = ap (λ (g : Geometry). (let v : Versions Packet = record { count = length g.groups; now = stages_in (rules_for after); old = stages_in pipe } in v)) (of.geometry ∙ sym edits.geometry)

    -- packets in flight have the same to do
    same_flying : alofts rules old flying ≡ alofts (versions_of after pipe) new flying
    same_flying =
        sym (fill_alofts rules (stages_in (rules_for after)) fill old flying kept avoids)
        ∙ ap₂ (λ v c. alofts v c flying) rules_are is_new

    -- and leave what they would, but for the registers that are filled
    drains : filled fill over ≡ drain (versions_of after pipe) new flying
    drains =
        sym (fill_drain rules (stages_in (rules_for after)) fill old flying kept avoids)
        ∙ ap₂ (λ v c. drain v c flying) rules_are is_new

    lifts : (b : Board) → b.flying ≡ board.flying → IsSerial after b (filled fill over) → IsAirborne (versions_of after pipe) after flying b new
    lifts b e serial = record { flying = e ∙ air.flying ∙ same_flying; serial = subst (IsSerial after b) drains serial }

    by : (result : Result ArrayString DeviceFault) → Changes serial_rules (IsSerial after) board change result list new_list (filled fill over)
        → Changes serial_rules (IsAirborne (versions_of after pipe) after flying) board change result list new_list new
    by (Ok line) is = record {
      judged = is.judged;
      moves = record { stood = lifts (serial_rules.change board change).board refl is.moves.stood; made = is.moves.made };
    }
    by (Err fault) is = record {
      accepted = is.accepted;
      filling = is.filling;
      said = is.said;
      part = is.part;
      less = is.less;
      moves = record { stood = lifts (serial_rules.spoil board change is.part).board refl is.moves.stood; made = is.moves.made };
    }

-- ---- a commit, and the change

pub commits_then : (stands : Board → Contents → Type 0) (board : Board) (change : Change) (result : Result ArrayString DeviceFault) (list mid_list new_list : Option (List Call)) (new : Contents)
    → Grows list (committed board).calls mid_list → Changes serial_rules stands (committed board).board change result mid_list new_list new
    → Changes flight_rules stands board change result list new_list new
commits_then stands board change (Ok line) list mid_list new_list new grew is = record {
  judged = is.judged;
  moves = record { stood = is.moves.stood; made = grows_then list mid_list new_list (committed board).calls [] grew is.moves.made };
}
commits_then stands board change (Err fault) list mid_list new_list new grew is = record {
  accepted = is.accepted;
  filling = is.filling;
  said = is.said;
  part = is.part;
  less = is.less;
  moves = record {
    stood = is.moves.stood;
    made = subst (λ cs. Grows list cs new_list) (append-nil (committed board).calls) (grows_then list mid_list new_list (committed board).calls [] grew is.moves.made);
  };
}

pub changes : (pipe before new_before : pipes.Rules) (switch after : SwitchState) (change : Change) (result : Result ArrayString DeviceFault) (flying new_flying : List (Flying Packet)) (board : Board)
    (old mid new : Contents) (calls : List Call) (list mid_list new_list : Option (List Call)) → IsGeometry switch.geometry → IsPipeOf pipe switch
    → IsFlight (group_count before) flying → new_before ≡ pipe → new_flying ≡ map flights.kept_now (filter is_present flying)
    → Grows list calls mid_list → (calls ≡ drained (versions pipe before) old (filter is_old flying)) × (mid ≡ all_made old calls)
    → Refills (judged switch.geometry switch.outlines (change_of change)) result mid new → EditsTo switch after change result mid_list new_list
    → IsAirborne (versions_of switch before) switch flying board old
    → Changes flight_rules (IsAirborne (versions_of after new_before) after new_flying) board change result list new_list new
changes pipe before new_before switch after change result flying new_flying board old mid new calls list mid_list new_list good of order kept flew grew made fills edits air =
    let went : Moves (IsAirborne (versions pipe pipe) switch new_flying) (committed board) list mid_list mid =
    commits pipe before switch flying new_flying board old mid calls list mid_list order flew grew made
    (subst (λ v. IsAirborne v switch flying board old) (sym (versions_are pipe before switch of)) air) in
    let olds : All (λ (f : Flying Packet). f.kept ≡ true) new_flying = subst (All (λ (f : Flying Packet). f.kept ≡ true)) (sym flew) (all_old (filter is_present flying)) in
    subst (λ b. Changes flight_rules (IsAirborne (versions_of after b) after new_flying) board change result list new_list new) (sym kept)
    (commits_then (IsAirborne (versions_of after pipe) after new_flying) board change result list mid_list new_list new went.made
    (edits_airborne pipe switch after change result new_flying (committed board).board mid new mid_list new_list good of olds fills edits went.stood))
