-- How a run ends once its commands were carried out, and what is known of its files then.
use Rattle.std.proofs.Common.{◌≡◌, ◌++◌, ℕ, List, [], Option, None, Some, Result, Ok, Err, IfSome, IfErr, ◌≤◌, refl, ap, ◌∙◌, subst, arith}
use Rattle.outside.specs.Faults as Faults
use Rattle.outside.specs.Sent.{CameInPart}
use Rattle.outside.proofs.SentLemmas.{front_of_part}
use Rattle.std.specs.Result.{OnOk, OnErr}
use Rattle.std.proofs.lemmas.List.{append-nil}
use Rattle.outside.specs.Told.{Told, Grows}
use Rattle.outside.proofs.ToldLemmas.{told_then, stays_same, grows_none, grows_then}
use Rattle.fm_io.specs.Slots.{Cursor}
use Rattle.reg_file.specs.Registers.{Contents}
use Rattle.reg_file.specs.declared.traits.Call.{Call}
use Rattle.capture_read.specs.Reading.{Reading}
use Rattle.capture_read.specs.Steps.{MovesOn}
use Rattle.sw_profile.specs.declared.profiles.Profile.{Profile}
use Rattle.task_lang.specs.declared.commands.Command.{Command}
use Rattle.flymon_engine.specs.declared.stop.Halt.{Halt}
use Rattle.flymon_engine.specs.declared.stop.Refusal.{Refusal}
use Rattle.flymon_engine.specs.declared.stop.Refusal.TheVariants as refusals
use Rattle.flymon_engine.specs.declared.stop.Halt.TheVariants.{Damage, Input, Device, Output}
use Rattle.flymon_engine.specs.Causes.{HasCause}
use Rattle.flymon_engine.specs.Arrivals.{left_in, Comes}
use Rattle.flymon_engine.specs.Captures.{HasBegun}
use Rattle.flymon_engine.specs.Boards.{Board, Rules, no_tasks}
use Rattle.flymon_engine.specs.Moves.{Moves, WasTold}
use Rattle.flymon_engine.specs.Runs.{Run}
use Rattle.flymon_engine.specs.Works.{works_of}
use Rattle.flymon_engine.specs.declared.words.Way.{Way}
use Rattle.flymon_engine.specs.Words.{Carry}
use Rattle.flymon_engine.specs.Worlds.{Before, WhereTold, IsAt, EndsAt}
use Rattle.flymon_engine.specs.Messages.{SendsMessage}
use Rattle.flymon_engine.specs.Endings.{Seen, Carried, CarriesFiles, Promises, StopsReading, StopsOpening, beginning, carried_as}

-- the operations of the run and those of its end are all that were made since the list was empty
made_all : (a b c d : Option (List Call)) (xs ys : List Call) → Told (λ old now. now ≡ []) a b → Grows b xs c → Grows c ys d → Told (λ old now. now ≡ xs ++ ys) a d
made_all a b c d xs ys empty first last =
    told_then a b d (λ x y z p q. q ∙ ap (λ l. l ++ (xs ++ ys)) p) empty (grows_then b c d xs ys first last)

pub carried_on : {T : Type 0} (rules : Rules) (stands0 stands1 lays : Board → Contents → Type 0) (profile : Profile) (reading : Reading)
    (before after : Seen) (result : Result T Halt) (commands : List Command) (t0 t1 : Option Cursor) (c0 c1 c2 : Option Contents) (calls1 calls2 : Option (List Call))
    → IfSome t0 (HasBegun reading) → IfSome c0 (stands0 (no_tasks profile))
    → Told MovesOn t0 t1 → WasTold c0 c1 → WasTold c1 c2
    → ((base : Before) (start : Run) → WhereTold t0 c0 (λ t c. IsAt stands0 (Comes reading) base calls1 before.sent t c start)
    → WhereTold t1 c1 (EndsAt rules stands1 base calls2 after.sent result start (works_of commands)))
    → ((board : Board) → Told (λ old new. stands1 board old → Moves lays (rules.finish board) calls2 after.calls new) c1 c2)
    → Told (λ old now. now ≡ []) before.calls calls1
    → WhereTold t1 c2 (Carried rules lays profile before after result commands)
carried_on rules stands0 stands1 lays profile reading before after result commands t0 None c0 c1 c2 calls1 calls2 begun stood on r s run finish empty = tt
carried_on rules stands0 stands1 lays profile reading before after result commands None (Some u) c0 c1 c2 calls1 calls2 begun stood on r s run finish empty = absurd on
carried_on rules stands0 stands1 lays profile reading before after result commands (Some t) (Some u) c0 c1 None calls1 calls2 begun stood on r s run finish empty = tt
carried_on rules stands0 stands1 lays profile reading before after result commands (Some t) (Some u) c0 None (Some e) calls1 calls2 begun stood on r s run finish empty = absurd s
carried_on rules stands0 stands1 lays profile reading before after result commands (Some t) (Some u) None (Some d) (Some e) calls1 calls2 begun stood on r s run finish empty = absurd r
carried_on rules stands0 stands1 lays profile reading before after result commands (Some t) (Some u) (Some c) (Some d) (Some e) calls1 calls2 begun stood on r s run finish empty =
    let base : Before = record { calls = calls1; sent = before.sent } in
    let ends = run base (beginning profile begun.left) (record {
      shows = record {
        board = stood;
        made = grows_none calls1 calls1 (stays_same calls1);
        wrote = grows_none before.sent before.sent (stays_same before.sent);
      };
      left = begun.goes_on;
    }) in
    let moves = finish ends.end.board ends.shows.board in
    record {
      left = begun.left;
      opened = ap left_in on.bytes ∙ begun.is;
      end = ends.end;
      ends = ends.ends;
      text = ends.shows.wrote;
      operations = made_all before.calls calls1 calls2 after.calls ends.end.calls (rules.finish ends.end.board).calls empty ends.shows.made moves.made;
      registers = moves.stood;
    }

-- the promises of a run whose commands were carried out, or stopped
pub promises_carried : (rules : Rules) (lays : Board → Contents → Type 0) (way : Way) (profile script capture : List ℕ) (before after : Seen) (result : Result (Unit {0}) Halt)
    → ((halt : Halt) → result ≡ Err halt → HasCause before.files after.files after.last before.regs after.regs before.out after.out halt)
    → CarriesFiles rules lays profile script capture before after result → Promises rules lays (Carry way profile script capture) (carried_as result) before after
promises_carried rules lays way profile script capture before after (Ok x) cause carried = carried
promises_carried rules lays way profile script capture before after (Err halt) cause carried = record { cause = cause halt refl; carried = carried }

-- a fault of the commands is one of the run
pub cause_of_run : (halt : Halt) (f0 f1 f2 last r0 r1 r2 r3 o0 o1 : ℕ) → f0 ≤ f1 → r0 ≤ r1 → r3 ≡ r2
    → HasCause f1 f2 last r1 r2 o0 o1 halt → HasCause f0 f2 last r0 r3 o0 o1 halt
cause_of_run (Damage fault) f0 f1 f2 last r0 r1 r2 r3 o0 o1 f r e cause = tt
cause_of_run Input f0 f1 f2 last r0 r1 r2 r3 o0 o1 f r e cause = (omega (arith, cause.0), cause.1)
cause_of_run Device f0 f1 f2 last r0 r1 r2 r3 o0 o1 f r e cause = omega arith
cause_of_run Output f0 f1 f2 last r0 r1 r2 r3 o0 o1 f r e cause = cause

pub err_holds : {T : Type 0} (P : Halt → Type 0) (result : Result T Halt) (halt : Halt) → result ≡ Err halt → IfErr result P → P halt
err_holds P result halt e h = let Q : Result _ Halt → Type 0 = λ r. IfErr r P in subst Q e h

pub message_sent : {E : Type 0} (result : Result (Unit {0}) E) (message : List ℕ) (faults now : ℕ) (before after : Option (List ℕ))
    → Faults.HasCause faults now result → OnOk result (Grows before message after) → OnErr result (CameInPart before message after)
    → SendsMessage message faults now before after
message_sent (Ok x) message faults now before after cause sent part = record {
  front = record { rest = []; so_far = record { front = message; grows = sent; whole = append-nil message } };
  whole = λ honest. sent;
}
message_sent (Err e) message faults now before after cause sent part = record {
  front = front_of_part before after message part;
  whole = λ honest. absurd (honest cause.failed);
}
