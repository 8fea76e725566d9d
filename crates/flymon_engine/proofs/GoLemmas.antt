-- A run that stops is a front of the whole script's.
use Rattle.std.proofs.Common.{◌≡◌, ℕ, zero, suc, true, false, List, [], ◌∷◌, ◌++◌, Bool, Option, None, Some, Result, Ok, Err, refl, sym, ap, ◌∙◌, append_assoc}
use Rattle.std.specs.Prelude.{not, ◌&&◌}
use Rattle.std.proofs.lemmas.List.{append-nil}
use Rattle.flymon_engine.specs.declared.work.Work.{Work}
use Rattle.flymon_engine.specs.declared.work.Work.TheVariants.{Take, Change, Ask}
use Rattle.flymon_engine.specs.declared.stop.Halt.{Halt}
use Rattle.flymon_engine.specs.declared.stop.Halt.TheVariants.{Damage, Input, Device, Output}
use Rattle.flymon_engine.specs.Arrivals.{Arrival}
use Rattle.flymon_engine.specs.Boards.{Rules}
use Rattle.flymon_engine.specs.Runs.{Run, passed, pass_first, taken_by, meets, step, sends, done_by, lines_of, carried, unmet}
use Rattle.flymon_engine.specs.Stops.{Finished, Ends, Cuts, SpoilsTo}
use Rattle.capture_read.specs.declared.records.CaptureFault.{CaptureFault}
use Rattle.flymon_engine.proofs.StepLemmas.{change_unmet, ask_unmet}
use Rattle.flymon_engine.specs.Going.{going, damage_met, GoesTo, AgreesBy}
use Rattle.outside.specs.Sent.{IsFront}

-- a test that holds of all
split : (b u : Bool) → (not b && u) ≡ true → (b ≡ false) × (u ≡ true)
split true u e = absurd (let x : false ≡ true = e in cc)
split false u e = (refl, e)

-- behind commands that meet no damage the script goes on
goes_on : (rules : Rules) (run : Run) (done commands : List Work) → unmet rules run done ≡ true
    → going rules run (done ++ commands) ≡ going rules (carried rules run done) commands
unfolding going carried unmet
goes_on rules run [] commands u = refl
goes_on rules run (c ∷ done) commands u =
    let (here, behind) = split (meets run c) (unmet rules (step rules run c) done) u in
    rw here (goes_on rules (step rules run c) done commands behind)

meets_on : (rules : Rules) (run : Run) (done commands : List Work) → unmet rules run done ≡ true
    → damage_met rules run (done ++ commands) ≡ damage_met rules (carried rules run done) commands
unfolding damage_met carried unmet
meets_on rules run [] commands u = refl
meets_on rules run (c ∷ done) commands u =
    let (here, behind) = split (meets run c) (unmet rules (step rules run c) done) u in
    rw here (meets_on rules (step rules run c) done commands behind)

front_same : (xs : List ℕ) → IsFront xs xs
front_same xs = record { rest = []; whole = append-nil xs }

front_then : (xs ys zs : List ℕ) → IsFront xs ys → IsFront ys zs → IsFront xs zs
front_then xs ys zs a b = record { rest = a.rest ++ b.rest; whole = sym (append_assoc xs a.rest b.rest) ∙ (ap (λ l. l ++ b.rest) a.whole ∙ b.whole) }

-- packets change no text
passed_text : (rules : Rules) (run : Run) (k : ℕ) → (passed rules run k).text ≡ run.text
unfolding passed
passed_text rules run zero = refl
passed_text rules run (suc k) = one (passed rules run k) (passed rules run k).left.list ∙ passed_text rules run k
  where
    one : (here : Run) (list : List Arrival) → (pass_first rules here list).text ≡ here.text
    one here [] = refl
    one here (a ∷ list) = refl

done_text : (rules : Rules) (run : Run) (command : Work) → (done_by rules run command).text ≡ run.text
done_text rules run (Take count) = passed_text rules run (taken_by run (Take count))
done_text rules run (Change change) = refl
done_text rules run (Ask request) = refl

-- what was sent is a front of all that the script sends
going_text : (rules : Rules) (run : Run) (commands : List Work) → IsFront run.text (going rules run commands).text
unfolding going step
going_text rules run [] = front_same run.text
going_text rules run (c ∷ commands) = by (meets run c) refl (going_text rules (step rules run c) commands)
  where
    by : (b : Bool) → meets run c ≡ b → IsFront (step rules run c).text (going rules (step rules run c) commands).text → IsFront run.text (going rules run (c ∷ commands)).text
    by true e rest = rw e (record { rest = []; whole = append-nil run.text ∙ sym (passed_text rules run (taken_by run c)) })
    by false e rest = rw e (front_then run.text (step rules run c).text (going rules (step rules run c) commands).text
        (record { rest = lines_of rules run c; whole = ap (λ t. t ++ lines_of rules run c) (sym (done_text rules run c)) })
        rest)

-- a part of a command's lines
part_text : (rules : Rules) (run : Run) (command : Work) (commands : List Work) (front : List ℕ) → meets run command ≡ false
    → Cuts (lines_of rules run command) front → IsFront (run.text ++ front) (going rules run (command ∷ commands)).text
unfolding going step
part_text rules run command commands front unmet cuts = rw unmet (front_then (run.text ++ front) (step rules run command).text (going rules (step rules run command) commands).text
    (record { rest = cuts.rest; whole = append_assoc run.text front cuts.rest ∙ (ap (λ l. run.text ++ l) cuts.whole ∙ ap (λ t. t ++ lines_of rules run command) (sym (done_text rules run command))) })
    (going_text rules (step rules run command) commands))

spoiled_text : (rules : Rules) (run here : Run) (command : Work) → SpoilsTo rules run command here → (meets run command ≡ false) × (here.text ≡ run.text)
spoiled_text rules run here (Take count) e = absurd e
spoiled_text rules run here (Change change) e = (change_unmet run change, ap (λ (r : Run). r.text) e.is)
spoiled_text rules run here (Ask request) e = (ask_unmet run request, ap (λ (r : Run). r.text) e)

-- the script from the command on that was cut off
from_here : (rules : Rules) (start : Run) (done rest commands : List Work) (command : Work) → done ++ command ∷ rest ≡ commands → unmet rules start done ≡ true
    → going rules start commands ≡ going rules (carried rules start done) (command ∷ rest)
from_here rules start done rest commands command whole u = ap (going rules start) (sym whole) ∙ goes_on rules start done (command ∷ rest) u

goes_to_damage : (rules : Rules) (run end : Run) (command : Work) (rest : List Work) (damage : Option CaptureFault) → meets run command ≡ true → run.left.fault ≡ damage
    → end ≡ passed rules run (taken_by run command) → (damage_met rules run (command ∷ rest) ≡ damage) × (going rules run (command ∷ rest) ≡ end)
unfolding going damage_met
goes_to_damage rules run end command rest damage met is e = (rw met is, rw met (sym e))

finishes_so : (rules : Rules) (start end : Run) (commands : List Work) → Finished rules start commands end → GoesTo rules start commands None end
unfolding going damage_met
finishes_so rules start end commands done = record {
  damaged = ap (damage_met rules start) (sym (append-nil commands)) ∙ meets_on rules start commands [] done.unmet;
  is = ap (going rules start) (sym (append-nil commands)) ∙ (goes_on rules start commands [] done.unmet ∙ sym done.is);
}

in_text : (rules : Rules) (start here end : Run) (commands : List Work) (text : List ℕ) (run : Run) → end ≡ here → here.text ≡ text → going rules start commands ≡ run → IsFront text run.text → IsFront end.text (going rules start commands).text
in_text rules start here end commands text run e t g front =
    let is : end.text ≡ text = ap (λ (r : Run). r.text) e ∙ t in
    rw (is, g) front

pub agrees : {T : Type 0} (rules : Rules) (at : ℕ) (result : Result T Halt) (start : Run) (commands : List Work) (end : Run)
    → Ends rules at result start commands end → AgreesBy rules result start commands end
agrees rules at (Ok x) start commands end ends = finishes_so rules start end commands ends
agrees rules at (Err (Damage fault)) start commands end ends =
    let here = carried rules start ends.done in
    let to = goes_to_damage rules here end ends.command ends.rest (Some fault) ends.halts.meets ends.halts.damaged ends.halts.is in
    record {
      damaged = ap (damage_met rules start) (sym ends.whole) ∙ (meets_on rules start ends.done (ends.command ∷ ends.rest) ends.unmet ∙ to.0);
      is = from_here rules start ends.done ends.rest commands ends.command ends.whole ends.unmet ∙ to.1;
    }
agrees rules at (Err Input) start commands end ends =
    let here = carried rules start ends.done in
    in_text rules start (passed rules here _) end commands here.text (going rules here (ends.command ∷ ends.rest)) ends.halts.is (passed_text rules here _)
    (from_here rules start ends.done ends.rest commands ends.command ends.whole ends.unmet) (going_text rules here (ends.command ∷ ends.rest))
agrees rules at (Err Device) start commands end ends =
    let here = carried rules start ends.done in
    let spoiled = spoiled_text rules here ends.halts.here ends.command ends.halts.spoiled in
    in_text rules start (sends ends.halts.here ends.halts.front) end commands (here.text ++ ends.halts.front) (going rules here (ends.command ∷ ends.rest)) ends.halts.is (ap (λ t. t ++ ends.halts.front) spoiled.1)
    (from_here rules start ends.done ends.rest commands ends.command ends.whole ends.unmet) (part_text rules here ends.command ends.rest ends.halts.front spoiled.0 ends.halts.cuts)
agrees rules at (Err Output) start commands end ends =
    let here = carried rules start ends.done in
    in_text rules start (sends (done_by rules here ends.command) ends.halts.front) end commands (here.text ++ ends.halts.front) (going rules here (ends.command ∷ ends.rest)) ends.halts.is
    (ap (λ t. t ++ ends.halts.front) (done_text rules here ends.command))
    (from_here rules start ends.done ends.rest commands ends.command ends.whole ends.unmet) (part_text rules here ends.command ends.rest ends.halts.front ends.halts.unmet ends.halts.cuts)
