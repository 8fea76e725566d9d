-- A change fills registers that no packet in flight reaches then, and leaves the registers laid out.
use Rattle.std.proofs.Common.{◌≡◌, ℕ, Bool, true, false, cond, List, [], ◌∷◌, get_or, map, filter, Result, Ok, Err, refl, ap, ap₂, sym, subst, arith}
use Rattle.std.specs.Prelude.{◌||◌}
use Rattle.std.specs.List.{All, list_any, range_with_len}
use Rattle.std.proofs.lemmas.List.Elements.{All-nil, All-cons, All-head, All-tail, All-weaker, All-map, All-filter}
use Rattle.addr_translate.specs.Geometry.{Geometry, IsGeometry, array_count}
use Rattle.pkt_headers.specs.declared.packets.Packet.{Packet}
use Rattle.reg_file.specs.declared.traits.Call.{Call}
use Rattle.reg_file.specs.Registers.{Contents}
use Rattle.reg_file.specs.Calls.{all_made}
use Rattle.sketch_defs.specs.Cells.{index_at}
use Rattle.sketch_lower.proofs.CellLemmas.{place_lt}
use Rattle.pipe_flight.specs.Schedules.{Fill, AreAt}
use Rattle.pipe_flight.proofs.SerialLemmas.{fill_past}
use Rattle.switch_model.specs.Records.{Record, outlines}
use Rattle.switch_model.specs.Sights.{Holding, all_held}
use Rattle.switch_model.specs.Soundness.{ShareNone, Sound}
use Rattle.switch_model.specs.Changes.{Change, Edit, Refusal, judged, after_verdict, changed}
use Rattle.switch_model.specs.Packets.{Stand, all_stands, takes_on, call_of, calls_on, calls_of, Layout}
use Rattle.switch_model.specs.Laws.{is_in, fresh_of, start_in, Refilled}
use Rattle.switch_model.proofs.ListLemmas.{Across, all_flat, all_mapped}
use Rattle.switch_model.proofs.LayoutLemmas.{not_in, change_keeps_layout}
use Rattle.switch_model.proofs.StandLemmas.{IsStand, holding_of, stands_hold, stands_are}
use Rattle.rule_txn.proofs.BridgeChanges.{fresh_apart}
use Rattle.flymon_engine.specs.Schedules.{refilled}

-- ---- registers that tasks hold

-- the register is in no region that shares none with those that are held
abbrev pub IsHeld : List Holding → ℕ → ℕ → Type 0
IsHeld held array addr = (h : Holding) → All (ShareNone h) held → is_in array addr h ≡ false

call_held : (geometry : Geometry) (hash_key : List ℕ) (packet : Packet) (held : List Holding) (stands : List Stand) → map holding_of stands ≡ held
    → All (IsStand geometry) stands → All (λ s. (let call : Call = call_of hash_key packet s in IsHeld held call.array call.addr)) stands
call_held geometry hash_key packet held stands same are k d within h apart =
    let s : Stand = get_or stands k d in
    let is : IsStand geometry s = are k d within in
    not_in h s.array s.region (index_at hash_key s.task s.region.bits s.row packet)
    (all_mapped (ShareNone h) holding_of stands (subst (All (ShareNone h)) (sym same) apart) k d within)
    (place_lt hash_key s.task s.region.bits s.row packet (omega (arith, is.region.aligned.small)))

-- a packet that enters reaches registers of the tasks alone
pub calls_held : (geometry : Geometry) (hash_key : List ℕ) (packet : Packet) (records : List Record) → Sound geometry (outlines records)
    → AreAt (IsHeld (all_held (outlines records))) (calls_of geometry hash_key packet records)
unfolding calls_of
calls_held geometry hash_key packet records sound =
    let held : List Holding = all_held (outlines records) in
    let stands : List Stand = all_stands records in
    let P : Call → Type 0 = λ call. IsHeld held call.array call.addr in
    let arrays : List ℕ = range_with_len 0 (array_count geometry) in
    all_flat P (calls_on hash_key packet stands) arrays
    (λ k d within.
    let on : Stand → Bool = takes_on packet (get_or arrays k d) in
    All-map P (call_of hash_key packet) (filter on stands)
    (All-filter on (λ s. P (call_of hash_key packet s)) stands
    (call_held geometry hash_key packet held stands (stands_hold geometry records sound.tasks) (stands_are geometry records sound.tasks))))

-- ---- a change that is accepted

none_in : (held fresh : List Holding) (array addr : ℕ) → IsHeld held array addr → Across ShareNone fresh held → list_any (is_in array addr) fresh ≡ false
none_in held [] array addr is apart = refl
none_in held (h ∷ fresh) array addr is apart =
    ap₂ (λ a b. a || b) (is h (All-head (λ h. All (ShareNone h) held) h fresh apart))
    (none_in held fresh array addr is (All-tail (λ h. All (ShareNone h) held) h fresh apart))

-- what it fills stays clear of operations on what was held before
edit_past : (held : List Holding) (edit : Edit) (contents : Contents) (calls : List Call) → Across ShareNone (fresh_of edit) held → AreAt (IsHeld held) calls
    → all_made (refilled (Ok edit) contents) calls ≡ refilled (Ok edit) (all_made contents calls)
edit_past held edit contents calls apart at =
    let fill : Fill = record { test = λ array addr. list_any (is_in array addr) (fresh_of edit); value = λ array addr. start_in edit } in
    fill_past fill contents calls
    (All-weaker (λ (call : Call). IsHeld held call.array call.addr) (λ (call : Call). list_any (is_in call.array call.addr) (fresh_of edit) ≡ false)
    (λ call is. none_in held (fresh_of edit) call.array call.addr is apart) calls at)

pub refilled_past : (geometry : Geometry) (records : List Record) (change : Change) (contents : Contents) (calls : List Call) → IsGeometry geometry
    → Sound geometry (outlines records) → AreAt (IsHeld (all_held (outlines records))) calls
    → all_made (refilled (judged geometry (outlines records) change) contents) calls ≡ refilled (judged geometry (outlines records) change) (all_made contents calls)
refilled_past geometry records change contents calls good sound at = by (judged geometry (outlines records) change) refl
  where
    by : (r : Result Edit Refusal) → judged geometry (outlines records) change ≡ r → all_made (refilled r contents) calls ≡ refilled r (all_made contents calls)
    by (Ok edit) e = edit_past (all_held (outlines records)) edit contents calls (fresh_apart geometry (outlines records) change edit good sound e) at
    by (Err why) e = refl

-- ---- registers stay laid out

any_first : (test : Holding → Bool) (h : Holding) (fresh : List Holding) → test h ≡ true → list_any test (h ∷ fresh) ≡ true
any_first test h fresh e = ap (λ b. b || list_any test fresh) e

any_later : (test : Holding → Bool) (h : Holding) (fresh : List Holding) → list_any test fresh ≡ true → list_any test (h ∷ fresh) ≡ true
any_later test h fresh e = by (test h)
  where
    by : (b : Bool) → (b || list_any test fresh) ≡ true
    by true = refl
    by false = e

any_of : (fresh : List Holding) → All (λ h. (test : Holding → Bool) → test h ≡ true → list_any test fresh ≡ true) fresh
any_of [] = All-nil (λ h. (test : Holding → Bool) → test h ≡ true → list_any test [] ≡ true)
any_of (first ∷ fresh) =
    All-cons (λ h. (test : Holding → Bool) → test h ≡ true → list_any test (first ∷ fresh) ≡ true) first fresh
    (λ test e. any_first test first fresh e)
    (All-weaker (λ h. (test : Holding → Bool) → test h ≡ true → list_any test fresh ≡ true) (λ h. (test : Holding → Bool) → test h ≡ true → list_any test (first ∷ fresh) ≡ true)
    (λ h later test e. any_later test first fresh (later test e)) fresh (any_of fresh))

refilled_is : (edit : Edit) (contents : Contents) → Refilled (fresh_of edit) (start_in edit) contents (refilled (Ok edit) contents)
refilled_is edit contents = record {
  filled = All-weaker (λ h. (test : Holding → Bool) → test h ≡ true → list_any test (fresh_of edit) ≡ true)
      (λ (h : Holding). (addr : ℕ) → is_in h.array addr h ≡ true → refilled (Ok edit) contents h.array addr ≡ start_in edit)
      (λ h any addr e. ap (λ b. cond b (start_in edit) (contents h.array addr)) (any (is_in h.array addr) e)) (fresh_of edit) (any_of (fresh_of edit));
  others = λ array addr e. ap (λ b. cond b (start_in edit) (contents array addr)) e;
}

pub refilled_laid : (geometry : Geometry) (hash_key : List ℕ) (records : List Record) (change : Change) (contents : Contents) → IsGeometry geometry
    → Sound geometry (outlines records) → Layout hash_key records contents
    → Layout hash_key (changed geometry records change) (refilled (judged geometry (outlines records) change) contents)
unfolding changed
refilled_laid geometry hash_key records change contents good sound laid = by (judged geometry (outlines records) change) refl
  where
    by : (r : Result Edit Refusal) → judged geometry (outlines records) change ≡ r → Layout hash_key (after_verdict r records) (refilled r contents)
    by (Ok edit) e = change_keeps_layout geometry hash_key records change edit contents (refilled (Ok edit) contents) good sound laid e (refilled_is edit contents)
    by (Err why) e = laid
