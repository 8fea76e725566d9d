-- What a command comes to.
use Rattle.std.proofs.Common.{◌≡◌, ◌≤◌, ◌<◌, ℕ, true, false, List, [], ◌∷◌, ◌++◌, length, Option, Result, Ok, Err, Bool, OnOk, OnErr, ◌+◌, take, drop, get_or, refl, sym, ap, ◌∙◌, subst, arith}
use Rattle.std.specs.Prelude.{nat_lt, is_some, ◌&&◌, not}
use Rattle.std.proofs.lemmas.Bool.Decides.{nat_tests}
use Rattle.std.proofs.lemmas.List.{length-map, get_or-map, take_more, drop_more, take_all, take-append-drop}
use Rattle.outside.specs.Told.{Stays, Grows}
use Rattle.outside.specs.Sent.{CameInPart}
use Rattle.outside.proofs.ToldLemmas.{grows_then, grows_stays}
use Rattle.fm_io.specs.Slots.{Cursor}
use Rattle.reg_file.specs.Registers.{Contents}
use Rattle.reg_file.specs.declared.traits.Call.{Call}
use Rattle.flymon_engine.specs.declared.work.Work.{Work}
use Rattle.flymon_engine.specs.declared.work.Work.TheVariants.{Change, Ask}
use Rattle.flymon_engine.specs.declared.stop.Halt.{Halt}
use Rattle.flymon_engine.specs.declared.stop.Halt.TheVariants.{Output, Device}
use Rattle.task_lang.specs.declared.commands.Command.{Command}
use Rattle.flymon_engine.specs.Works.{work_of, works_of}
use Rattle.flymon_engine.specs.Arrivals.{Left}
use Rattle.flymon_engine.specs.Boards.{Board, Move, Rules}
use Rattle.flymon_engine.specs.Moves.{Moves}
use Rattle.flymon_engine.specs.Runs.{Run, moved, sends, passed, step, done_by, lines_of, meets, carried, unmet, taken_by}
use Rattle.flymon_engine.specs.Stops.{IsServed, SpoilsTo}
use Rattle.flymon_engine.specs.Worlds.{Before, Shows, IsAt, Halts, GoesOn, AdvancesTo, Goes, TookAll, Reaches, EndsAt}

-- a command that asks for no packets meets no damage
pub asks_none : (b : Bool) (n : ℕ) → (b && nat_lt n 0) ≡ false
asks_none true n = grind (arith, nat_tests)
asks_none false n = refl

pub change_unmet : (run : Run) (change : _) → meets run (Change change) ≡ false
change_unmet run change = asks_none (is_some run.left.fault) (length run.left.list)

pub ask_unmet : (run : Run) (request : _) → meets run (Ask request) ≡ false
ask_unmet run request = asks_none (is_some run.left.fault) (length run.left.list)

-- a piece more was sent
pub shows_more : (stands : Board → Contents → Type 0) (before : Before) (calls : Option (List Call)) (s0 s1 : Option (List ℕ)) (cells : Contents) (run : Run) (piece : List ℕ)
    → Grows s0 piece s1 → Shows stands before calls s0 cells run → Shows stands before calls s1 cells (sends run piece)
shows_more stands before calls s0 s1 cells run piece grew shows =
    record { board = shows.board; made = shows.made; wrote = grows_then before.sent s0 s1 run.text piece shows.wrote grew }

pub shows_same : (stands : Board → Contents → Type 0) (before : Before) (calls : Option (List Call)) (s0 s1 : Option (List ℕ)) (cells : Contents) (run : Run)
    → Stays s0 s1 → Shows stands before calls s0 cells run → Shows stands before calls s1 cells run
shows_same stands before calls s0 s1 cells run same shows =
    record { board = shows.board; made = shows.made; wrote = grows_stays before.sent s0 s1 run.text shows.wrote same }

-- the machine moved
pub shows_moved : (stands0 stands1 : Board → Contents → Type 0) (before : Before) (calls0 calls1 : Option (List Call)) (sent : Option (List ℕ)) (c d : Contents) (run : Run) (move : Move)
    → Moves stands1 move calls0 calls1 d → Shows stands0 before calls0 sent c run → Shows stands1 before calls1 sent d (moved run move)
shows_moved stands0 stands1 before calls0 calls1 sent c d run move moves shows =
    record { board = moves.stood; made = grows_then before.calls calls0 calls1 run.calls move.calls shows.made moves.made; wrote = shows.wrote }

-- a command that was carried out, and whose lines were sent, or a part of them
pub goes_by_line : {T : Type 0} (rules : Rules) (stands : Board → Contents → Type 0) (before : Before) (calls : Option (List Call)) (s0 s1 : Option (List ℕ))
    (run : Run) (command : Work) (line : List ℕ) (result : Result T Halt) (cells : Contents)
    → meets run command ≡ false → lines_of rules run command ≡ line
    → OnOk result (Grows s0 line s1) → OnErr result (CameInPart s0 line s1) → OnErr result (result ≡ Err Output)
    → Shows stands before calls s0 cells (done_by rules run command)
    → (at : ℕ) → GoesOn rules stands before calls s1 result run command at cells
unfolding step
goes_by_line rules stands before calls s0 s1 run command line (Ok x) cells unmet is grew part output shows at =
    record {
      unmet = unmet;
      shows = rw is (shows_more stands before calls s0 s1 cells (done_by rules run command) line grew shows);
    }
goes_by_line rules stands before calls s0 s1 run command line (Err halt) cells unmet is grew part output shows at =
    let halted : halt ≡ Output = cc in
    let end = sends (done_by rules run command) part.so_far.front in
    subst (λ (h : Halt). Halts rules stands before calls s1 h run command at cells) (sym halted) (record {
      end = end;
      halts = record {
        front = part.so_far.front;
        unmet = unmet;
        cuts = record { rest = part.rest; some = part.left; whole = part.so_far.whole ∙ sym is };
        is = refl;
      };
      shows = shows_more stands before calls s0 s1 cells (done_by rules run command) part.so_far.front part.so_far.grows shows;
    })

-- a command that the device refused
pub refused_by_device : (rules : Rules) (stands : Board → Contents → Type 0) (before : Before) (calls : Option (List Call)) (s0 s1 : Option (List ℕ))
    (run here : Run) (command : Work) (line : List ℕ) (cells : Contents)
    → IsServed rules run command → SpoilsTo rules run command here → lines_of rules run command ≡ line
    → CameInPart s0 line s1 → Shows stands before calls s0 cells here
    → (at : ℕ) → Halts rules stands before calls s1 Device run command at cells
refused_by_device rules stands before calls s0 s1 run here command line cells served spoiled is part shows at = record {
  end = sends here part.so_far.front;
  halts = record {
    here = here;
    front = part.so_far.front;
    served = served;
    spoiled = spoiled;
    cuts = record { rest = part.rest; some = part.left; whole = part.so_far.whole ∙ sym is };
    is = refl;
  };
  shows = shows_more stands before calls s0 s1 cells here part.so_far.front part.so_far.grows shows;
}

-- a command that leaves the capture where it is
pub goes_at : {T : Type 0} (rules : Rules) (stands0 stands1 : Board → Contents → Type 0) (comes : Left → Cursor → Type 0) (before : Before) (calls0 calls1 : Option (List Call)) (s0 s1 : Option (List ℕ))
    (run : Run) (command : Work) (result : Result T Halt) (tape : Cursor) (c d : Contents)
    → (step rules run command).left ≡ run.left
    → (Shows stands0 before calls0 s0 c run → (at : ℕ) → GoesOn rules stands1 before calls1 s1 result run command at d)
    → IsAt stands0 comes before calls0 s0 tape c run → Goes rules stands1 comes before calls1 s1 result run command tape d
goes_at rules stands0 stands1 comes before calls0 calls1 s0 s1 run command (Ok x) tape c d same goes is =
    record { advances = goes is.shows tape.at; left = subst (λ (l : Left). comes l tape) (sym same) is.left }
goes_at rules stands0 stands1 comes before calls0 calls1 s0 s1 run command (Err halt) tape c d same goes is = goes is.shows tape.at

pub change_stays : (rules : Rules) (run : Run) (change : _) → (step rules run (Change change)).left ≡ run.left
unfolding step
change_stays rules run change = refl

pub ask_stays : (rules : Rules) (run : Run) (request : _) → (step rules run (Ask request)).left ≡ run.left
unfolding step
ask_stays rules run request = refl

-- packets were taken, and their number sent
pub goes_took : {T : Type 0} (rules : Rules) (stands : Board → Contents → Type 0) (comes : Left → Cursor → Type 0) (before : Before) (calls : Option (List Call)) (s0 s1 : Option (List ℕ))
    (run : Run) (command : Work) (count : ℕ) (line : List ℕ) (result : Result T Halt) (tape : Cursor) (cells : Contents)
    → done_by rules run command ≡ passed rules run (taken_by run command) → lines_of rules run command ≡ line
    → OnOk result (Grows s0 line s1) → OnErr result (CameInPart s0 line s1) → OnErr result (result ≡ Err Output)
    → TookAll rules stands comes before calls s0 count run command tape cells → Goes rules stands comes before calls s1 result run command tape cells
unfolding step
goes_took {T} rules stands comes before calls s0 s1 run command count line result tape cells does is grew part output took =
    let at : done_by rules run command ≡ passed rules run count = does ∙ ap (λ n. passed rules run n) (sym took.took) in
    let shows : Shows stands before calls s0 cells (done_by rules run command) = subst (λ r. Shows stands before calls s0 cells r) (sym at) took.now.shows in
    let goes = goes_by_line rules stands before calls s0 s1 run command line result cells took.unmet is grew part output shows in
    let left : comes (done_by rules run command).left tape = subst (λ (r : Run). comes r.left tape) (sym at) took.now.left in
    goes_with result left goes
  where
    goes_with : (result : Result T Halt) → comes (done_by rules run command).left tape
        → ((at : ℕ) → GoesOn rules stands before calls s1 result run command at cells) → Goes rules stands comes before calls s1 result run command tape cells
    goes_with (Ok x) left goes = record { advances = goes tape.at; left = left }
    goes_with (Err halt) left goes = goes tape.at

-- the works of the commands so far, and of one more
pub works_next : (commands : List Command) (index : ℕ) (command : Command) → index < length commands → command ≡ get_or commands index command
    → take (index + 1) (works_of commands) ≡ take index (works_of commands) ++ work_of command ∷ []
works_next commands index command inside is =
    let within : index < length (works_of commands) = omega (arith, length-map commands work_of) in
    let same : get_or (works_of commands) index (work_of command) ≡ work_of command = get_or-map work_of commands index command (work_of command) inside ∙ ap work_of (sym is) in
    take_more (works_of commands) index (work_of command) within ∙ ap (λ w. take index (works_of commands) ++ w ∷ []) same

pub works_whole : (commands : List Command) (index : ℕ) (command : Command) → index < length commands → command ≡ get_or commands index command
    → take index (works_of commands) ++ work_of command ∷ drop (index + 1) (works_of commands) ≡ works_of commands
works_whole commands index command inside is =
    let within : index < length (works_of commands) = omega (arith, length-map commands work_of) in
    let same : get_or (works_of commands) index (work_of command) ≡ work_of command = get_or-map work_of commands index command (work_of command) inside ∙ ap work_of (sym is) in
    ap (λ w. take index (works_of commands) ++ w ∷ drop (index + 1) (works_of commands)) (sym same)
    ∙ (ap (λ xs. take index (works_of commands) ++ xs) (sym (drop_more (works_of commands) index (work_of command) within)) ∙ take-append-drop index (works_of commands))

pub works_all : (commands : List Command) (index : ℕ) → length commands ≤ index → take index (works_of commands) ≡ works_of commands
works_all commands index h = take_all index (works_of commands) (omega (arith, length-map commands work_of))

-- the commands so far, and one more
carried_more : (rules : Rules) (run : Run) (done : List Work) (command : Work)
    → carried rules run (done ++ command ∷ []) ≡ step rules (carried rules run done) command
unfolding carried
carried_more rules run [] command = refl
carried_more rules run (first ∷ done) command = carried_more rules (step rules run first) done command

unmet_more : (rules : Rules) (run : Run) (done : List Work) (command : Work)
    → unmet rules run done ≡ true → meets (carried rules run done) command ≡ false → unmet rules run (done ++ command ∷ []) ≡ true
unfolding carried unmet
unmet_more rules run [] command all one = ap (λ b. not b && true) one
unmet_more rules run (first ∷ done) command all one = both (meets run first) (unmet rules (step rules run first) done) (unmet rules (step rules run first) (done ++ command ∷ [])) all
    (λ rest. unmet_more rules (step rules run first) done command rest one)
  where
    both : (b u v : Bool) → (not b && u) ≡ true → (u ≡ true → v ≡ true) → (not b && v) ≡ true
    both true u v e f = e
    both false u v e f = f e

pub reaches_none : (rules : Rules) (stands : Board → Contents → Type 0) (comes : Left → Cursor → Type 0) (before : Before) (calls : Option (List Call)) (sent : Option (List ℕ))
    (start : Run) (tape : Cursor) (cells : Contents) → IsAt stands comes before calls sent tape cells start → Reaches rules stands comes before calls sent start [] tape cells
unfolding carried unmet
reaches_none rules stands comes before calls sent start tape cells is = record { unmet = refl; now = is }

pub reaches_more : (rules : Rules) (stands : Board → Contents → Type 0) (comes : Left → Cursor → Type 0) (before : Before) (calls : Option (List Call)) (sent : Option (List ℕ))
    (start : Run) (done next : List Work) (command : Work) (tape : Cursor) (cells : Contents) → next ≡ done ++ command ∷ [] → unmet rules start done ≡ true
    → AdvancesTo rules stands comes before calls sent (carried rules start done) command tape cells → Reaches rules stands comes before calls sent start next tape cells
reaches_more rules stands comes before calls sent start done next command tape cells is all to = rw is (record {
  unmet = unmet_more rules start done command all to.advances.unmet;
  now = rw (carried_more rules start done command) (record { shows = to.advances.shows; left = to.left });
})

pub stops_at : (rules : Rules) (stands : Board → Contents → Type 0) (before : Before) (calls : Option (List Call)) (sent : Option (List ℕ))
    (start : Run) (done rest commands : List Work) (command : Work) (halt : Halt) (tape : Cursor) (cells : Contents) → done ++ command ∷ rest ≡ commands → unmet rules start done ≡ true
    → Halts rules stands before calls sent halt (carried rules start done) command tape.at cells
    → EndsAt {T = Unit {0}} rules stands before calls sent (Err halt) start commands tape cells
stops_at rules stands before calls sent start done rest commands command halt tape cells whole all halts = record {
  end = halts.end;
  ends = record { done = done; command = command; rest = rest; whole = whole; unmet = all; halts = halts.halts };
  shows = halts.shows;
}

pub finishes : (rules : Rules) (stands : Board → Contents → Type 0) (comes : Left → Cursor → Type 0) (before : Before) (calls : Option (List Call)) (sent : Option (List ℕ))
    (start : Run) (done commands : List Work) (tape : Cursor) (cells : Contents) → done ≡ commands
    → Reaches rules stands comes before calls sent start done tape cells → EndsAt {T = Unit {0}} rules stands before calls sent (Ok tt) start commands tape cells
finishes rules stands comes before calls sent start done commands tape cells is reaches = record {
  end = carried rules start done;
  ends = record { unmet = ap (unmet rules start) (sym is) ∙ reaches.unmet; is = ap (carried rules start) is };
  shows = reaches.now.shows;
}
