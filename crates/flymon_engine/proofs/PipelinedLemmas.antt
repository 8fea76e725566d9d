-- Packets pass, enter and settle as the rules of a flight say.
use Rattle.std.proofs.Common.{◌≡◌, ◌≢◌, Bool, true, false, cond, ℕ, ◌+◌, ◌<◌, ◌≤◌, suc, List, [], ◌∷◌, ◌++◌, length, map, filter, Option, None, Some, refl, ap, ap₂, sym, ◌∙◌, subst, arith}
use Rattle.std.specs.Prelude.{◌==◌}
use Rattle.std.specs.List.{All}
use Rattle.std.proofs.lemmas.List.{append-nil, append_assoc}
use Rattle.std.proofs.lemmas.List.Elements.{All-nil, All-cons, All-append, All-weaker}
use Rattle.outside.specs.Told.{Told, Stays, Grows}
use Rattle.outside.proofs.ToldLemmas.{told_then, told_weaker, grows_none, grows_then, grows_stays, stays_same}
use Rattle.addr_translate.specs.Geometry.{Geometry}
use Rattle.pkt_headers.specs.declared.packets.Packet.{Packet}
use Rattle.reg_file.specs.declared.traits.Call.{Call}
use Rattle.reg_file.specs.Registers.{Contents, Dims}
use Rattle.reg_file.specs.Calls.{all_made}
use Rattle.pipe_core.specs.Flow.{Stages, flow, stages_in}
use Rattle.pipe_core.specs.Groups.{no_carries}
use Rattle.pipe_core.specs.Rules as pipes
use Rattle.pipe_core.specs.Rules.{SameShape, IsShaped}
use Rattle.pipe_flight.specs.Flights as flights
use Rattle.pipe_flight.specs.Flights.{Flying, Versions, entering, calls_next, drained, drain, committed}
use Rattle.pipe_flight.specs.Orders as orders
use Rattle.pipe_flight.specs.Orders.{NobodyAt, Falls, IsFlight, is_old}
use Rattle.pipe_flight.specs.States.{versions, group_count, MovesOn, moved_with}
use Rattle.pipe_flight.proofs.DrainLemmas.{drain_append, enter_drain}
use Rattle.pipe_flight.proofs.CommitLemmas.{commit_drained}
use Rattle.pipe_flight.proofs.MoveLemmas.{both_staged, count_same}
use Rattle.pipe_flight.proofs.OrderLemmas.{falls_wider, falls_back, falls_here, falls_above, old_split, all_present}
use Rattle.switch_model.specs.Packets.{join, calls_of, Layout}
use Rattle.rule_txn.specs.Switch.{SwitchState}
use Rattle.rule_txn.specs.Seen.{StandsFor}
use Rattle.rule_txn.proofs.BridgeLemmas.{joins}
use Rattle.rule_txn.proofs.SwitchRules.{calls_for}
use Rattle.flymon_engine.specs.declared.pipelined.Pipelined.{Pipelined}
use Rattle.flymon_engine.specs.Boards.{Aloft, Board, Move}
use Rattle.flymon_engine.specs.Moves.{Moves}
use Rattle.flymon_engine.specs.Serial.{stayed, serial_lays, IsSerial}
use Rattle.flymon_engine.specs.Flight as model
use Rattle.flymon_engine.specs.Flight.{with_flying, and_then, advanced, advanced_below, entered, settled, kept_now, is_present, is_kept, calls_left, calls_at, passed_at}
use Rattle.flymon_engine.specs.Pipelined.{alofts, versions_of, IsPipeOf, IsAirborne, FitsPipelined}
use Rattle.flymon_engine.proofs.SerialLemmas.{told_here}
use Rattle.flymon_engine.proofs.FlyingLemmas.{calls_left_are, nobody_calls, nobody_passes, advance_calls, advance_alofts, enter_alofts, old_calls, present_alofts}

-- ---- the pipe of a switch

-- the rules of now are those of the switch's tasks
pub versions_are : (pipe before : pipes.Rules) (switch : SwitchState) → IsPipeOf pipe switch → versions pipe before ≡ versions_of switch before
versions_are pipe before switch of =
    ap₂ (λ (n : ℕ) (s : Stages Packet). (let v : Versions Packet = record { count = n; now = s; old = stages_in before } in v))
    (ap (λ (g : Geometry). length g.groups) of.geometry) of.acts

pub same_shape : (machine : Pipelined) (dims : Dims) (pipe : pipes.Rules) → FitsPipelined machine dims → IsPipeOf pipe machine.serial.switch
    → SameShape machine.flight.before pipe
same_shape machine dims pipe fits of = record { geometry = fits.geometry ∙ sym of.geometry; hash_key = fits.hash_key ∙ sym of.hash_key }

-- ---- boards that differ in the packets in flight alone

pub serial_flying : (switch : SwitchState) (board : Board) (flying : List Aloft) (contents : Contents) → IsSerial switch board contents → IsSerial switch (with_flying board flying) contents
serial_flying switch board flying contents is = record { geometry = is.geometry; hash_key = is.hash_key; stands = is.stands }

pub serial_laid : (switch : SwitchState) (board : Board) (contents : Contents) → IsSerial switch board contents → serial_lays board contents
serial_laid switch board contents is = subst (λ k. Layout k board.records contents) is.hash_key is.stands.laid

-- ---- all pass to the end

-- the registers are then laid out for the board
landed : (rules : Versions Packet) (switch : SwitchState) (flying : List (Flying Packet)) (board : Board) (old new : Contents) (calls : List Call)
    → (calls ≡ drained rules old flying) × (new ≡ all_made old calls) → IsAirborne rules switch flying board old → IsSerial switch board new
landed rules switch flying board old new calls made air = subst (IsSerial switch board) (sym (made.1 ∙ ap (all_made old) made.0)) air.serial

pub settles : (rules : Versions Packet) (switch : SwitchState) (flying : List (Flying Packet)) (board : Board) (old new : Contents) (calls : List Call) (list new_list : Option (List Call))
    → Grows list calls new_list → (calls ≡ drained rules old flying) × (new ≡ all_made old calls) → IsAirborne rules switch flying board old
    → Moves (λ b c. (b.flying ≡ []) × IsSerial switch b c) (settled board) list new_list new
settles rules switch flying board old new calls list new_list grew made air = record {
  stood = (refl, serial_flying switch board [] new (landed rules switch flying board old new calls made air));
  made = subst (λ cs. Grows list cs new_list) (made.0 ∙ sym (calls_left_are rules old flying) ∙ sym (ap calls_left air.flying)) grew;
}

-- ---- a packet passes a group

pub advances_one : (pipe before : pipes.Rules) (switch : SwitchState) (group : ℕ) (flying new_flying : List (Flying Packet)) (board : Board) (old new : Contents) (list new_list : Option (List Call))
    → SameShape before pipe → IsFlight (group_count before) flying → switch.geometry ≡ pipe.geometry
    → (m : MovesOn (versions pipe before) group flying new_flying (Some old) (Some new) list new_list)
    → drain (versions pipe before) new new_flying ≡ drain (versions pipe before) old flying
    → IsAirborne (versions pipe before) switch flying board old
    → Moves (IsAirborne (versions pipe before) switch new_flying) (advanced group board) list new_list new
advances_one pipe before switch group flying new_flying board old new list new_list same order shape m drains air =
    let rules = versions pipe before in
    let falls : Falls (group_count pipe) (m.front ++ m.one ∷ m.back) = subst (λ n. Falls n (m.front ++ m.one ∷ m.back)) (count_same same) (subst (Falls (group_count before)) m.split order.falls) in
    let below = falls_here (group_count pipe) m.front m.one m.back falls in
    let above = falls_above (group_count pipe) m.front m.one m.back falls in
    let both = both_staged pipe before (sym same.geometry) in
    let profile : board.profile.shape ≡ pipe.geometry = sym air.serial.geometry ∙ shape in
    let there : alofts rules old (m.front ++ m.one ∷ m.back) ≡ board.flying = ap (alofts rules old) (sym m.split) ∙ sym air.flying in
    let is_next : moved_with m.one m.outs ≡ flights.moved_on rules old m.one = ap (moved_with m.one) m.makes.told.1 in
    let flew : new_flying ≡ m.front ++ (orders.if_left (group_count pipe) (flights.moved_on rules old m.one) ++ m.back) =
    m.new_split ∙ ap (λ n. m.front ++ (orders.if_left (group_count pipe) n ++ m.back)) is_next in
    record {
      stood = record {
        flying = ap₂ (λ g k. passed_at g k board.flying) profile (sym m.here)
            ∙ ap (passed_at pipe.geometry m.one.group) (sym there)
            ∙ sym (advance_alofts pipe before old m.front m.one m.back both below above)
            ∙ ap₂ (alofts rules) (sym m.makes.told.0) (sym flew);
        serial = serial_flying switch board (passed_at board.profile.shape group board.flying) (drain rules new new_flying)
            (subst (IsSerial switch board) (sym drains) air.serial);
      };
      made = subst (λ cs. Grows list cs new_list)
          (sym (ap₂ (λ g k. calls_at g k board.flying) profile (sym m.here) ∙ ap (calls_at pipe.geometry m.one.group) (sym there)
          ∙ advance_calls pipe before old m.front m.one m.back both below above))
          m.makes.joined;
    }

-- nobody does
pub advances_none : (pipe before : pipes.Rules) (switch : SwitchState) (group : ℕ) (flying : List (Flying Packet)) (board : Board) (contents : Contents)
    → NobodyAt group flying → IsAirborne (versions pipe before) switch flying board contents
    → IsAirborne (versions pipe before) switch flying (advanced group board).board contents × ((advanced group board).calls ≡ [])
advances_none pipe before switch group flying board contents nobody air =
    let rules = versions pipe before in
    let shape = board.profile.shape in (
      record {
        flying = ap (passed_at shape group) air.flying ∙ nobody_passes shape group rules contents flying nobody;
        serial = serial_flying switch board (passed_at shape group board.flying) (drain rules contents flying) air.serial;
      },
      ap (calls_at shape group) air.flying ∙ nobody_calls shape group rules contents flying nobody,
    )

pub moves_none : (pipe before : pipes.Rules) (switch : SwitchState) (group : ℕ) (flying : List (Flying Packet)) (board : Board) (contents : Contents) (list : Option (List Call))
    → NobodyAt group flying → IsAirborne (versions pipe before) switch flying board contents
    → Moves (IsAirborne (versions pipe before) switch flying) (advanced group board) list list contents
moves_none pipe before switch group flying board contents list nobody air =
    let none = advances_none pipe before switch group flying board contents nobody air in
    record { stood = none.0; made = subst (λ cs. Grows list cs list) (sym none.1) (grows_none list list (stays_same list)) }

-- an advance of the flight, where the registers are told
pub advance_told : (pipe before : pipes.Rules) (switch : SwitchState) (group : ℕ) (flying new_flying : List (Flying Packet)) (contents new_contents : Option Contents) (list new_list : Option (List Call))
    → SameShape before pipe → IsFlight (group_count before) flying → switch.geometry ≡ pipe.geometry
    → MovesOn (versions pipe before) group flying new_flying contents new_contents list new_list
    → Told (λ old new. drain (versions pipe before) new new_flying ≡ drain (versions pipe before) old flying) contents new_contents
    → Told (λ old new. (board : Board) → IsAirborne (versions pipe before) switch flying board old
    → Moves (IsAirborne (versions pipe before) switch new_flying) (advanced group board) list new_list new) contents new_contents
advance_told pipe before switch group flying new_flying None None list new_list same order shape m drains = tt
advance_told pipe before switch group flying new_flying (Some old) None list new_list same order shape m drains = tt
advance_told pipe before switch group flying new_flying None (Some new) list new_list same order shape m drains = absurd drains
advance_told pipe before switch group flying new_flying (Some old) (Some new) list new_list same order shape m drains =
    λ board air. advances_one pipe before switch group flying new_flying board old new list new_list same order shape m drains air

-- the old rules stay, as a flight tells it
pub advance_under : (pipe first before new_before : pipes.Rules) (switch : SwitchState) (group : ℕ) (flying new_flying : List (Flying Packet)) (contents new_contents : Option Contents) (list new_list : Option (List Call))
    → before ≡ first → new_before ≡ before → SameShape before pipe → IsFlight (group_count before) flying → switch.geometry ≡ pipe.geometry
    → MovesOn (versions pipe before) group flying new_flying contents new_contents list new_list
    → Told (λ old new. drain (versions pipe new_before) new new_flying ≡ drain (versions pipe before) old flying) contents new_contents
    → Told (λ old new. (board : Board) → IsAirborne (versions pipe first) switch flying board old
    → Moves (IsAirborne (versions pipe first) switch new_flying) (advanced group board) list new_list new) contents new_contents
advance_under pipe first before new_before switch group flying new_flying contents new_contents list new_list e kept same order shape m drains =
    subst (λ b. Told (λ old new. (board : Board) → IsAirborne (versions pipe b) switch flying board old
    → Moves (IsAirborne (versions pipe b) switch new_flying) (advanced group board) list new_list new) contents new_contents) e
    (advance_told pipe before switch group flying new_flying contents new_contents list new_list same order shape m
    (subst (λ b. Told (λ old new. drain (versions pipe b) new new_flying ≡ drain (versions pipe before) old flying) contents new_contents) kept drains))

falls_under : (high : ℕ) (flying : List (Flying Packet)) → Falls high flying → All (λ (f : Flying Packet). f.group < high) flying
falls_under high [] falls = All-nil (λ (f : Flying Packet). f.group < high)
falls_under high (one ∷ flying) falls =
    All-cons (λ (f : Flying Packet). f.group < high) one flying falls.0 (falls_under high flying (falls_wider one.group high flying (omega (arith, falls.0)) falls.1))

-- nobody is left before the group
pub left_behind : (rules : Versions Packet) (high group : ℕ) (flying new_flying : List (Flying Packet)) (contents new_contents : Option Contents) (list new_list : Option (List Call))
    → Falls high flying → MovesOn rules group flying new_flying contents new_contents list new_list → NobodyAt group new_flying
left_behind rules high group flying new_flying contents new_contents list new_list falls m =
    let N : Flying Packet → Type 0 = λ f. f.group ≢ group in
    let fell : Falls high (m.front ++ m.one ∷ m.back) = subst (Falls high) m.split falls in
    let here = m.here in
    let next = moved_with m.one m.outs in
    subst (NobodyAt group) (sym m.new_split)
    (All-append N m.front (orders.if_left rules.count next ++ m.back)
    (All-weaker (λ (f : Flying Packet). m.one.group + 1 ≤ f.group) N (λ f le e. omega (arith, le, e, here)) m.front (falls_above high m.front m.one m.back fell))
    (All-append N (orders.if_left rules.count next) m.back
    (by (next.group == rules.count) (λ e. omega (arith, e, here)))
    (All-weaker (λ (f : Flying Packet). f.group < m.one.group) N (λ f less e. omega (arith, less, e, here)) m.back
    (falls_under m.one.group m.back (falls_back high m.front (m.one ∷ m.back) fell).1))))
  where
    by : (b : Bool) → (m.one.group + 1 ≢ group) → NobodyAt group (cond b [] (moved_with m.one m.outs ∷ []))
    by true away = All-nil (λ (f : Flying Packet). f.group ≢ group)
    by false away = All-cons (λ (f : Flying Packet). f.group ≢ group) (moved_with m.one m.outs) [] away (All-nil (λ (f : Flying Packet). f.group ≢ group))

-- ---- a packet enters

pub enters : (pipe before : pipes.Rules) (switch : SwitchState) (packet : Packet) (flying : List (Flying Packet)) (board : Board) (contents : Contents)
    → IsPipeOf pipe switch → IsAirborne (versions pipe before) switch flying board contents
    → IsAirborne (versions pipe before) switch (flying ++ entering no_carries packet ∷ []) (entered packet board).board contents
enters pipe before switch packet flying board contents of air =
    let rules = versions pipe before in
    let after = drain rules contents flying in
    let calls : flow (stages_in pipe) after packet (group_count pipe) 0 no_carries ≡ calls_of switch.geometry switch.hash_key packet board.records =
    ap (λ (g : Geometry). flow (stages_in pipe) after packet (length g.groups) 0 no_carries) of.geometry
    ∙ calls_for pipe switch board.records packet after of.whole of.geometry of.hash_key of.tables of.groups air.serial.stands in
    record {
      flying = ap₂ (λ fs cs. fs ++ model.entering cs ∷ []) air.flying
          (sym (calls ∙ ap₂ (λ g k. calls_of g k packet board.records) air.serial.geometry air.serial.hash_key))
          ∙ sym (enter_alofts rules contents flying no_carries packet);
      serial = record {
        geometry = air.serial.geometry;
        hash_key = air.serial.hash_key;
        stands = subst (StandsFor switch (join packet board.records))
            (sym (enter_drain rules contents flying no_carries packet ∙ ap (all_made after) calls))
            (joins switch board.records packet after air.serial.stands);
      };
    }

-- ---- a commit

pub commits : (pipe before : pipes.Rules) (switch : SwitchState) (flying new_flying : List (Flying Packet)) (board : Board) (old new : Contents) (calls : List Call) (list new_list : Option (List Call))
    → IsFlight (group_count before) flying → new_flying ≡ map flights.kept_now (filter orders.is_present flying)
    → Grows list calls new_list → (calls ≡ drained (versions pipe before) old (filter is_old flying)) × (new ≡ all_made old calls)
    → IsAirborne (versions pipe before) switch flying board old
    → Moves (IsAirborne (versions pipe pipe) switch new_flying) (model.committed board) list new_list new
commits pipe before switch flying new_flying board old new calls list new_list order flew grew made air =
    let rules = versions pipe before in
    let mid : new ≡ drain rules old (filter is_old flying) = made.1 ∙ ap (all_made old) made.0 in
    let presents = filter orders.is_present flying in
    let drains : drain (versions pipe pipe) new new_flying ≡ drain rules old flying =
    ap₂ (drain (versions pipe pipe)) mid flew
    ∙ ap (all_made (drain rules old (filter is_old flying))) (commit_drained rules (stages_in pipe) (drain rules old (filter is_old flying)) presents (all_present flying))
    ∙ sym (drain_append rules old (filter is_old flying) presents)
    ∙ ap (drain rules old) (sym (old_split flying order.old_first)) in
    record {
      stood = record {
        flying = ap (λ fs. map kept_now (filter is_present fs)) air.flying
            ∙ sym (present_alofts rules (stages_in pipe) old flying order.old_first)
            ∙ ap₂ (alofts (versions pipe pipe)) (sym mid) (sym flew);
        serial = serial_flying switch board (map kept_now (filter is_present board.flying)) (drain (versions pipe pipe) new new_flying)
            (subst (IsSerial switch board) (sym drains) air.serial);
      };
      made = subst (λ cs. Grows list cs new_list)
          (made.0 ∙ sym (old_calls rules old flying order.old_first) ∙ sym (ap (λ fs. calls_left (filter is_kept fs)) air.flying)) grew;
    }

-- ---- each packet in flight passes a group

-- so far, down to the groups below `left`
pub record GoesDown (rules : Versions Packet) (switch : SwitchState) (flying : List (Flying Packet)) (board : Board) (count left : ℕ) (list new_list : Option (List Call)) (contents : Contents) : Type 0 where
  pub so_far : Move
  pub moves : Moves (IsAirborne rules switch flying) so_far list new_list contents
  pub whole : and_then so_far (advanced_below left) ≡ advanced_below count board

pub goes_first : (rules : Versions Packet) (switch : SwitchState) (flying : List (Flying Packet)) (board : Board) (count : ℕ) (list : Option (List Call)) (contents : Contents)
    → IsAirborne rules switch flying board contents → GoesDown rules switch flying board count count list list contents
goes_first rules switch flying board count list contents air = record {
  so_far = stayed board;
  moves = record { stood = air; made = grows_none list list (stays_same list) };
  whole = refl;
}

abbrev a_move : Board → List Call → Move
a_move board calls = record { board = board; calls = calls }

pub goes_on : (rules : Versions Packet) (switch : SwitchState) (flying new_flying : List (Flying Packet)) (board : Board) (count left : ℕ) (list mid_list new_list : Option (List Call)) (old new : Contents)
    → GoesDown rules switch flying board count (suc left) list mid_list old
    → ((b : Board) → IsAirborne rules switch flying b old → Moves (IsAirborne rules switch new_flying) (advanced left b) mid_list new_list new)
    → GoesDown rules switch new_flying board count left list new_list new
goes_on rules switch flying new_flying board count left list mid_list new_list old new goes step =
    let here = step goes.so_far.board goes.moves.stood in
    let next = advanced left goes.so_far.board in
    record {
      so_far = and_then goes.so_far (advanced left);
      moves = record { stood = here.stood; made = grows_then list mid_list new_list goes.so_far.calls next.calls goes.moves.made here.made };
      whole = ap (a_move (advanced_below left next.board).board) (append_assoc goes.so_far.calls next.calls (advanced_below left next.board).calls) ∙ goes.whole;
    }

pub goes_last : (rules : Versions Packet) (switch : SwitchState) (flying : List (Flying Packet)) (board : Board) (count : ℕ) (list new_list : Option (List Call)) (contents : Contents)
    → GoesDown rules switch flying board count 0 list new_list contents → Moves (IsAirborne rules switch flying) (advanced_below count board) list new_list contents
goes_last rules switch flying board count list new_list contents goes =
    subst (λ move. Moves (IsAirborne rules switch flying) move list new_list contents)
    (ap (a_move goes.so_far.board) (sym (append-nil goes.so_far.calls)) ∙ goes.whole) goes.moves

-- the same, where the registers are told
abbrev pub GoesTold : (pipe before : pipes.Rules) (switch : SwitchState) (start flying : List (Flying Packet)) (board : Board) (left : ℕ) (contents now : Option Contents) (list new_list : Option (List Call)) → Type 0
GoesTold pipe before switch start flying board left contents now list new_list = Told (λ old new. IsAirborne (versions pipe before) switch start board old
    → GoesDown (versions pipe before) switch flying board (group_count pipe) left list new_list new) contents now

pub told_first : (pipe before : pipes.Rules) (switch : SwitchState) (flying : List (Flying Packet)) (board : Board) (left : ℕ) (contents : Option Contents) (list : Option (List Call))
    → left ≡ group_count pipe → GoesTold pipe before switch flying flying board left contents contents list list
told_first pipe before switch flying board left contents list e =
    subst (λ n. GoesTold pipe before switch flying flying board n contents contents list list) (sym e)
    (told_here (λ old new. IsAirborne (versions pipe before) switch flying board old → GoesDown (versions pipe before) switch flying board (group_count pipe) (group_count pipe) list list new)
    contents (λ d air. goes_first (versions pipe before) switch flying board (group_count pipe) list d air))

pub told_on : (pipe before : pipes.Rules) (switch : SwitchState) (start flying new_flying : List (Flying Packet)) (board : Board) (left group : ℕ) (contents mid new_contents : Option Contents) (list mid_list new_list : Option (List Call))
    → left ≡ suc group → GoesTold pipe before switch start flying board left contents mid list mid_list
    → Told (λ old new. (b : Board) → IsAirborne (versions pipe before) switch flying b old → Moves (IsAirborne (versions pipe before) switch new_flying) (advanced group b) mid_list new_list new) mid new_contents
    → GoesTold pipe before switch start new_flying board group contents new_contents list new_list
told_on pipe before switch start flying new_flying board left group contents mid new_contents list mid_list new_list e goes step =
    told_then contents mid new_contents
    (λ x y z p q air. goes_on (versions pipe before) switch flying new_flying board (group_count pipe) group list mid_list new_list y z
    (subst (λ n. GoesDown (versions pipe before) switch flying board (group_count pipe) n list mid_list y) e (p air)) q)
    goes step

pub told_none : (pipe before : pipes.Rules) (switch : SwitchState) (start flying : List (Flying Packet)) (board : Board) (left group : ℕ) (contents now : Option Contents) (list new_list : Option (List Call))
    → left ≡ suc group → NobodyAt group flying → GoesTold pipe before switch start flying board left contents now list new_list
    → GoesTold pipe before switch start flying board group contents now list new_list
told_none pipe before switch start flying board left group contents now list new_list e nobody goes =
    told_weaker contents now
    (λ x y p air. goes_on (versions pipe before) switch flying flying board (group_count pipe) group list new_list new_list y y
    (subst (λ n. GoesDown (versions pipe before) switch flying board (group_count pipe) n list new_list y) e (p air))
    (λ b. moves_none pipe before switch group flying b y new_list nobody))
    goes

pub told_last : (pipe before : pipes.Rules) (switch : SwitchState) (start flying : List (Flying Packet)) (board : Board) (left : ℕ) (contents now : Option Contents) (list new_list : Option (List Call))
    → left ≡ 0 → GoesTold pipe before switch start flying board left contents now list new_list
    → Told (λ old new. IsAirborne (versions pipe before) switch start board old
    → Moves (IsAirborne (versions pipe before) switch flying) (advanced_below (group_count pipe) board) list new_list new) contents now
told_last pipe before switch start flying board left contents now list new_list e goes =
    told_weaker contents now
    (λ x y p air. goes_last (versions pipe before) switch flying board (group_count pipe) list new_list y
    (subst (λ n. GoesDown (versions pipe before) switch flying board (group_count pipe) n list new_list y) e (p air)))
    goes

-- ---- the calls of the machine

pub passes : (pipe before new_before : pipes.Rules) (switch : SwitchState) (packet : Packet) (flying mid_flying new_flying : List (Flying Packet)) (board : Board) (old new : Contents) (list new_list : Option (List Call))
    → IsPipeOf pipe switch → new_before ≡ before → new_flying ≡ mid_flying ++ entering no_carries packet ∷ []
    → (IsAirborne (versions pipe before) switch flying board old → Moves (IsAirborne (versions pipe before) switch mid_flying) (advanced_below (group_count pipe) board) list new_list new)
    → IsAirborne (versions_of switch before) switch flying board old
    → Moves (IsAirborne (versions_of switch new_before) switch new_flying) (model.flight_pass board packet) list new_list new
passes pipe before new_before switch packet flying mid_flying new_flying board old new list new_list of kept flew moves air =
    let are = versions_are pipe before switch of in
    let count : group_count pipe ≡ length board.profile.shape.groups = ap (λ (g : Geometry). length g.groups) (of.geometry ∙ air.serial.geometry) in
    let went : Moves (IsAirborne (versions pipe before) switch mid_flying) (advanced_below (length board.profile.shape.groups) board) list new_list new =
    subst (λ n. Moves (IsAirborne (versions pipe before) switch mid_flying) (advanced_below n board) list new_list new) count
    (moves (subst (λ v. IsAirborne v switch flying board old) (sym are) air)) in
    let below = advanced_below (length board.profile.shape.groups) board in
    record {
      stood = subst (λ fs. IsAirborne (versions_of switch new_before) switch fs (entered packet below.board).board new) (sym flew)
          (subst (λ b. IsAirborne (versions_of switch b) switch (mid_flying ++ entering no_carries packet ∷ []) (entered packet below.board).board new) (sym kept)
          (subst (λ v. IsAirborne v switch (mid_flying ++ entering no_carries packet ∷ []) (entered packet below.board).board new) are
          (enters pipe before switch packet mid_flying below.board new of went.stood)));
      made = subst (λ cs. Grows list cs new_list) (sym (append-nil below.calls)) went.made;
    }

pub lands : (pipe before : pipes.Rules) (switch : SwitchState) (flying : List (Flying Packet)) (board : Board) (old new : Contents) (calls : List Call)
    → IsPipeOf pipe switch → (calls ≡ drained (versions pipe before) old flying) × (new ≡ all_made old calls)
    → IsAirborne (versions_of switch before) switch flying board old → IsSerial switch board new
lands pipe before switch flying board old new calls of made air =
    landed (versions pipe before) switch flying board old new calls made (subst (λ v. IsAirborne v switch flying board old) (sym (versions_are pipe before switch of)) air)

-- the end: all packets pass, and the registers are laid out
pub finishes : (pipe before : pipes.Rules) (switch : SwitchState) (flying : List (Flying Packet)) (board : Board) (old new : Contents) (calls : List Call) (list new_list : Option (List Call))
    → IsPipeOf pipe switch → Grows list calls new_list → (calls ≡ drained (versions pipe before) old flying) × (new ≡ all_made old calls)
    → IsAirborne (versions_of switch before) switch flying board old
    → Moves serial_lays (settled board) list new_list new
finishes pipe before switch flying board old new calls list new_list of grew made air =
    let went = settles (versions pipe before) switch flying board old new calls list new_list grew made
    (subst (λ v. IsAirborne v switch flying board old) (sym (versions_are pipe before switch of)) air) in
    record { stood = serial_laid switch (settled board).board new went.stood.1; made = went.made }

-- a read-out: all packets pass first
pub asks : (pipe before new_before : pipes.Rules) (switch new_switch : SwitchState) (flying new_flying : List (Flying Packet)) (board : Board) (old new : Contents)
    (calls : List Call) (list mid_list new_list : Option (List Call)) → IsPipeOf pipe switch → new_switch ≡ switch → new_flying ≡ []
    → Grows list calls mid_list → (calls ≡ drained (versions pipe before) old flying) × (new ≡ all_made old calls) → Stays mid_list new_list
    → IsAirborne (versions_of switch before) switch flying board old
    → Moves (IsAirborne (versions_of new_switch new_before) new_switch new_flying) (settled board) list new_list new
asks pipe before new_before switch new_switch flying new_flying board old new calls list mid_list new_list of same landed grew made stays air =
    let went = settles (versions pipe before) switch flying board old new calls list mid_list grew made
    (subst (λ v. IsAirborne v switch flying board old) (sym (versions_are pipe before switch of)) air) in
    record {
      stood = subst (λ s. IsAirborne (versions_of s new_before) s new_flying (settled board).board new) (sym same)
          (subst (λ fs. IsAirborne (versions_of switch new_before) switch fs (settled board).board new) (sym landed)
          (record { flying = refl; serial = went.stood.1 }));
      made = grows_stays list mid_list new_list (settled board).calls went.made stays;
    }
