-- Every schedule of packets in flight keeps the order of the serial run on each array, and ends with its registers.
use Rattle.std.proofs.Common.{◌≡◌, ℕ, Bool, true, false, not, cond, List, [], ◌∷◌, ◌++◌, length, map, filter, refl, ap, ap₂, sym, ◌∙◌, subst, arith}
use Rattle.std.specs.Prelude.{◌==◌}
use Rattle.std.specs.List.{All}
use Rattle.std.proofs.lemmas.Bool.{false≢true}
use Rattle.std.proofs.lemmas.List.{append-nil}
use Rattle.std.proofs.lemmas.List.Elements.{All-nil, All-cons, All-head, All-tail, All-append, All-weaker, All-map, All-filter, filter-append}
use Rattle.std.proofs.lemmas.List.Sums.{fold-append}
use Rattle.addr_translate.specs.Geometry.{Geometry, IsGeometry}
use Rattle.pkt_headers.specs.declared.packets.Packet.{Packet}
use Rattle.reg_file.specs.declared.traits.Call.{Call}
use Rattle.reg_file.specs.Registers.{Contents}
use Rattle.reg_file.specs.Calls.{made, all_made, is_on}
use Rattle.pipe_flight.specs.Orders.{OldFirst}
use Rattle.pipe_flight.specs.Schedules.{AreAt}
use Rattle.sw_profile.specs.declared.profiles.Profile.{Profile}
use Rattle.switch_model.specs.Records.{Record, outlines}
use Rattle.switch_model.specs.Sights.{Holding, all_held}
use Rattle.switch_model.specs.Soundness.{Sound}
use Rattle.switch_model.specs.Changes as model
use Rattle.switch_model.specs.Packets.{HoldsCells, all_stands, join, calls_of, Layout}
use Rattle.switch_model.specs.Laws.{IsProper}
use Rattle.switch_model.specs.Histories.{Passes, Changes}
use Rattle.switch_model.proofs.ListLemmas.{all_back, all_and, all_flat}
use Rattle.switch_model.proofs.CallLemmas.{packet_keeps_layout}
use Rattle.switch_model.proofs.IsolationLemmas.{join_same}
use Rattle.switch_model.proofs.SoundLemmas.{stays_sound, none_sound}
use Rattle.flymon_engine.specs.declared.work.Change as changes
use Rattle.flymon_engine.specs.ChangeLines.{change_of}
use Rattle.flymon_engine.specs.Boards.{Aloft, Board}
use Rattle.flymon_engine.specs.Serial.{packet_move}
use Rattle.flymon_engine.specs.Flight.{entering, is_in, moved_on, kept_now, is_kept, is_present, calls_left, calls_at, passed_at, advanced, settled}
use Rattle.flymon_engine.specs.Schedules.{Step, NobodyAt, Meets, MeetAll, Moment, refilled, filled_by, moment_after, serial_after, first_moment, ran, ran_serially, FollowsSerial, KeepsSerialOrder}
use Rattle.flymon_engine.specs.Schedules.Step.{Enter, Advance, Change, Show}
use Rattle.flymon_engine.proofs.AloftLemmas.{kept_split, all_present, somebody}
use Rattle.flymon_engine.proofs.AheadLemmas.{left_kept, same_by_array}
use Rattle.flymon_engine.proofs.AlikeLemmas.{Alike, Advances, advances, left_entered, same_entered, alike_entered, alike_advanced, alike_changed, alike_settled, alike_stayed, alike_first, left_committed}
use Rattle.flymon_engine.proofs.RefillLemmas.{IsHeld, calls_held, refilled_past, refilled_laid}

-- a packet that entered under the present tasks has operations on their registers alone
abbrev pub IsClear : List Holding → Aloft → Type 0
IsClear held one = one.kept ≡ false → AreAt (IsHeld held) one.calls

-- how a moment agrees with the serial run so far
pub record Agrees (m s : Moment) : Type 0 where
  pub good : IsGeometry m.board.profile.shape
  pub alike : Alike m.board m.calls s.board s.calls
  pub sound : Sound m.board.profile.shape (outlines m.board.records)
  pub clear : All (IsClear (all_held (outlines m.board.records))) m.board.flying
  pub contents : all_made m.contents (calls_left m.board.flying) ≡ s.contents
  pub laid : Layout m.board.profile.key m.board.records s.contents

-- ---- a packet enters

agrees_entered : (m s : Moment) (packet : Packet) → Agrees m s → NobodyAt 0 m.board.flying → Agrees (moment_after m (Enter packet)) (serial_after s (Enter packet))
agrees_entered m s packet a nobody =
    let geometry : Geometry = m.board.profile.shape in
    let records : List Record = m.board.records in
    let its : List Call = calls_of geometry m.board.profile.key packet records in
    let same : (packet_move s.board packet).calls ≡ its = same_entered m.board s.board packet a.alike.same in
    let clear : All (IsClear (all_held (outlines records))) (m.board.flying ++ entering its ∷ []) =
    All-append (IsClear (all_held (outlines records))) m.board.flying (entering its ∷ []) a.clear
    (All-cons (IsClear (all_held (outlines records))) (entering its) [] (λ present. calls_held geometry m.board.profile.key packet records a.sound)
    (All-nil (IsClear (all_held (outlines records))))) in
    record {
      good = a.good;
      alike = alike_entered m.board m.calls s.board s.calls packet a.alike nobody;
      sound = stays_sound geometry records (Passes packet) a.good tt a.sound;
      clear = subst (λ os. All (IsClear (all_held os)) (m.board.flying ++ entering its ∷ [])) (sym (join_same packet records)) clear;
      contents =
          ap (all_made m.contents) (left_entered m.board.flying its)
          ∙ fold-append made m.contents (calls_left m.board.flying) its
          ∙ ap₂ all_made a.contents (sym same);
      laid = subst (λ calls. Layout m.board.profile.key (join packet records) (all_made s.contents calls)) (sym same)
          (packet_keeps_layout geometry m.board.profile.key records packet s.contents a.sound a.laid);
    }

-- ---- an advance

-- passed packets are kept if they were, and what they have left is some of what they had
clear_moved : (geometry : Geometry) (held : List Holding) (group : ℕ) (flying : List Aloft) → All (IsClear held) flying → All (IsClear held) (passed_at geometry group flying)
clear_moved geometry held group [] clear = All-nil (IsClear held)
clear_moved geometry held group (one ∷ others) clear =
    by (clear_moved geometry held group others (All-tail (IsClear held) one others clear)) (one.group == group) ((moved_on geometry one).group == length geometry.groups)
  where
    mine : IsClear held one
    mine = All-head (IsClear held) one others clear

    rest : All (IsClear held) others
    rest = All-tail (IsClear held) one others clear

    by : All (IsClear held) (passed_at geometry group others) → (here last : Bool)
        → All (IsClear held) (cond here (cond last [] (moved_on geometry one ∷ []) ++ others) (one ∷ passed_at geometry group others))
    by later true true = rest
    by later true false =
        All-cons (IsClear held) (moved_on geometry one) others
        (λ present. All-filter (λ call. not (is_in geometry one.group call)) (λ (call : Call). IsHeld held call.array call.addr) one.calls (mine present)) rest
    by later false last = All-cons (IsClear held) one (passed_at geometry group others) mine later

agrees_advanced : (m s : Moment) (group : ℕ) → Agrees m s → Meets m.board (Advance group) → Agrees (moment_after m (Advance group)) (serial_after s (Advance group))
agrees_advanced m s group a meets =
    let geometry : Geometry = m.board.profile.shape in
    let its : List Call = calls_at geometry group m.board.flying in
    let left : List Call = calls_left (passed_at geometry group m.board.flying) in
    let does : Advances geometry group m.board.flying =
    advances geometry group m.board.flying a.alike.stand a.alike.ahead (somebody group m.board.flying meets.0) meets.1 in
    record {
      good = a.good;
      alike = alike_stayed (advanced group m.board).board (m.calls ++ its) s.board s.calls (alike_advanced m.board m.calls s.board s.calls group a.alike does);
      sound = a.sound;
      clear = clear_moved geometry (all_held (outlines m.board.records)) group m.board.flying a.clear;
      contents =
          sym (fold-append made m.contents its left)
          ∙ same_by_array m.contents (its ++ left) (calls_left m.board.flying) does.order
          ∙ a.contents;
      laid = a.laid;
    }

-- ---- a change

-- what the present packets have still to do is on registers that tasks hold
present_held : (held : List Holding) (flying : List Aloft) → OldFirst (map is_kept flying) → All (IsClear held) flying
    → AreAt (IsHeld held) (calls_left (map kept_now (filter is_present flying)))
present_held held flying kept_first clear =
    let P : Call → Type 0 = λ call. IsHeld held call.array call.addr in
    let present : List Aloft = filter is_present flying in
    subst (All P) (sym (left_kept present))
    (all_flat P (λ (one : Aloft). one.calls) present
    (All-weaker (λ (f : Aloft). (f.kept ≡ false) × IsClear held f) (λ (f : Aloft). All P f.calls) (λ f h. h.1 h.0) present
    (all_and (λ (f : Aloft). f.kept ≡ false) (IsClear held) present (all_present flying)
    (all_back (IsClear held) (filter is_kept flying) present (subst (All (IsClear held)) (kept_split flying kept_first) clear)))))

-- now all entered before the last change
clear_kept : (held : List Holding) (flying : List Aloft) → All (IsClear held) (map kept_now flying)
clear_kept held flying = All-map (IsClear held) kept_now flying (λ k d within present. absurd (false≢true (sym present)))

agrees_changed : (m s : Moment) (change : changes.Change) → Agrees m s → IsProper (change_of change) → Agrees (moment_after m (Change change)) (serial_after s (Change change))
agrees_changed m s change a proper =
    let geometry : Geometry = m.board.profile.shape in
    let records : List Record = m.board.records in
    let flying : List Aloft = m.board.flying in
    let what : model.Change = change_of change in
    let its : List Call = calls_left (filter is_kept flying) in
    let left : List Call = calls_left (map kept_now (filter is_present flying)) in
    let fills : Contents → Contents = refilled (model.judged geometry (outlines records) what) in
    let same : filled_by s.board (Change change) s.contents ≡ fills s.contents = ap (λ (b : Board). filled_by b (Change change) s.contents) a.alike.same in
    record {
      good = a.good;
      alike = alike_changed m.board m.calls s.board s.calls change a.alike;
      sound = stays_sound geometry records (Changes what) a.good proper a.sound;
      clear = clear_kept (all_held (outlines (model.changed geometry records what))) (filter is_present flying);
      contents =
          ap (λ calls. all_made (fills (all_made m.contents calls)) left) (append-nil its)
          ∙ refilled_past geometry records what (all_made m.contents its) left a.good a.sound
          (present_held (all_held (outlines records)) flying a.alike.stand.kept_first a.clear)
          ∙ ap fills
          (sym (fold-append made m.contents its left)
          ∙ ap (all_made m.contents) (left_committed (length geometry.groups) flying a.alike.stand)
          ∙ a.contents)
          ∙ sym same;
      laid = subst (Layout m.board.profile.key (model.changed geometry records what)) (sym same)
          (refilled_laid geometry m.board.profile.key records what s.contents a.good a.sound a.laid);
    }

-- ---- all pass

agrees_settled : (m s : Moment) → Agrees m s → Agrees (moment_after m Show) (serial_after s Show)
agrees_settled m s a = record {
  good = a.good;
  alike = alike_stayed (settled m.board).board (m.calls ++ calls_left m.board.flying) s.board s.calls (alike_settled m.board m.calls s.board s.calls a.alike);
  sound = a.sound;
  clear = All-nil (IsClear (all_held (outlines m.board.records)));
  contents = a.contents;
  laid = a.laid;
}

-- ---- all steps

agrees_after : (m s : Moment) (step : Step) → Agrees m s → Meets m.board step → Agrees (moment_after m step) (serial_after s step)
agrees_after m s (Enter packet) a meets = agrees_entered m s packet a meets
agrees_after m s (Advance group) a meets = agrees_advanced m s group a meets
agrees_after m s (Change change) a meets = agrees_changed m s change a meets
agrees_after m s Show a meets = agrees_settled m s a

agrees_always : (m s : Moment) (steps : List Step) → Agrees m s → MeetAll m steps → Agrees (ran m steps) (ran_serially s steps)
agrees_always m s [] a meet = a
agrees_always m s (step ∷ steps) a meet = agrees_always (moment_after m step) (serial_after s step) steps (agrees_after m s step a meet.0) meet.1

-- nothing is in flight at first, and no task holds a register
agrees_first : (profile : Profile) (contents : Contents) → IsGeometry profile.shape → Agrees (first_moment profile contents) (first_moment profile contents)
unfolding all_stands
agrees_first profile contents good = record {
  good = good;
  alike = alike_first profile (omega (arith, good.some_groups));
  sound = none_sound profile.shape;
  clear = All-nil (IsClear (all_held []));
  contents = refl;
  laid = All-nil (HoldsCells profile.key contents);
}

-- what is left to do is what the serial run is ahead
follows : (m s : Moment) → Agrees m s → FollowsSerial m s
follows m s a =
    let left : List Call = calls_left m.board.flying in
    let ended : m.board.flying ≡ [] → left ≡ [] = λ e. ap (λ fs. calls_left fs) e in
    let equal : m.board.flying ≡ [] → m.contents ≡ s.contents = λ e. ap (all_made m.contents) (sym (ended e)) ∙ a.contents in
    record {
      tasks = ap (λ (b : Board). b.records) (sym a.alike.same);
      front = λ array. record { rest = filter (is_on array) left; whole = sym (filter-append (is_on array) m.calls left) ∙ a.alike.order array };
      calls_at_end = λ e array. ap (filter (is_on array)) (sym (append-nil m.calls) ∙ ap (λ calls. m.calls ++ calls) (sym (ended e))) ∙ a.alike.order array;
      contents_at_end = equal;
      laid_at_end = λ e. subst (Layout m.board.profile.key m.board.records) (sym (equal e)) a.laid;
    }

pub keeps_serial_order : KeepsSerialOrder
keeps_serial_order profile contents steps good meet =
    let first : Moment = first_moment profile contents in
    follows (ran first steps) (ran_serially first steps) (agrees_always first first steps (agrees_first profile contents good) meet)
