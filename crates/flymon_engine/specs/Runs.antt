-- A run: what was sent, the operations that were made, the tasks, and what the capture still gives.
use Rattle.std.specs.Prelude.{ℕ, zero, suc, min, length, nat_lt, is_some, ◌&&◌, not, Bool, true, List, [], ◌∷◌, ◌++◌, codes}
use Rattle.std.specs.Fmt.{decimal}
use Rattle.reg_file.specs.declared.traits.Call.{Call}
use Rattle.flymon_engine.specs.declared.work.Work.{Work}
use Rattle.flymon_engine.specs.declared.work.Work.TheVariants.{Take, Change, Ask}
use Rattle.flymon_engine.specs.Arrivals.{Arrival, Left}
use Rattle.flymon_engine.specs.Boards.{Board, Move, Rules, lines_in}

-- the text that was sent, the operations, the tasks, and the packets that are still to come
pub record Run : Type 0 where
  pub text : List ℕ
  pub calls : List Call
  pub board : Board
  pub left : Left

abbrev pub moved : Run → Move → Run
moved run move = record { text = run.text; calls = run.calls ++ move.calls; board = move.board; left = run.left }

abbrev pub sends : Run → List ℕ → Run
sends run piece = record { text = run.text ++ piece; calls = run.calls; board = run.board; left = run.left }

-- a packet passes, and these are left behind it
abbrev pub pass_one : Rules → Run → Arrival → List Arrival → Run
pass_one rules run arrival rest = record {
  text = run.text;
  calls = run.calls ++ (rules.pass run.board arrival.packet).calls;
  board = (rules.pass run.board arrival.packet).board;
  left = record { list = rest; fault = run.left.fault };
}

-- the first of the packets that are left passes
abbrev pub pass_first : Rules → Run → List Arrival → Run
pass_first rules run [] = run
pass_first rules run (arrival ∷ rest) = pass_one rules run arrival rest

-- so many of the packets that are left pass, one after another
unfoldable pub passed : Rules → Run → ℕ → Run
passed rules run zero = run
passed rules run (suc k) = pass_first rules (passed rules run k) (passed rules run k).left.list

-- how many packets a command asks for
abbrev pub asked_by : Work → ℕ
asked_by (Take count) = count
asked_by (Change change) = 0
asked_by (Ask request) = 0

-- and how many it takes
abbrev pub taken_by : Run → Work → ℕ
taken_by run command = min (asked_by command) (length run.left.list)

-- it asks for a packet where the capture is damaged
abbrev pub meets : Run → Work → Bool
meets run command = is_some run.left.fault && nat_lt (length run.left.list) (asked_by command)

-- `packets K`
abbrev pub packets_line : ℕ → List ℕ
packets_line count = codes "packets " ++ (decimal count ++ codes "\n")

-- what a command writes
abbrev pub lines_of : Rules → Run → Work → List ℕ
lines_of rules run (Take count) = packets_line (taken_by run (Take count))
lines_of rules run (Change change) = lines_in (rules.verdict run.board change)
lines_of rules run (Ask request) = lines_in (rules.answer run.board request)

-- what it does
abbrev pub done_by : Rules → Run → Work → Run
done_by rules run (Take count) = passed rules run (taken_by run (Take count))
done_by rules run (Change change) = moved run (rules.change run.board change)
done_by rules run (Ask request) = moved run (rules.ask run.board request)

unfoldable pub step : Rules → Run → Work → Run
step rules run command = sends (done_by rules run command) (lines_of rules run command)

-- all works, one after another
unfoldable pub carried : Rules → Run → List Work → Run
carried rules run [] = run
carried rules run (command ∷ works) = carried rules (step rules run command) works

-- none of them meets the damage of the capture
unfoldable pub unmet : Rules → Run → List Work → Bool
unmet rules run [] = true
unmet rules run (command ∷ works) = not (meets run command) && unmet rules (step rules run command) works
