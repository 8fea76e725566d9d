-- Entries of a task's rows that are installed one after another, and taken out.
use Rattle.std.proofs.Common.{◌≡◌, ◌↔◌, ℕ, ◌+◌, ◌<◌, ◌≤◌, ◌^◌, List, [], ◌∷◌, ◌++◌, length, refl, ap, ap₂, sym, ◌∙◌, subst, arith, map, append_assoc}
use Rattle.std.specs.Prelude.{Option, None, Some, bit_and, bit_xor}
use Rattle.std.specs.List.{All, AllPairs, list_any}
use Rattle.std.proofs.lemmas.List.Elements.{All-head, All-tail, All-append, All-weaker}
use Rattle.std.proofs.lemmas.Nat.{and_comm, xor_comm}
use Rattle.addr_translate.specs.Geometry.{Geometry, array_count}
use Rattle.key_mask.specs.Bytes.{bytewise, and_bytes, xor_bytes}
use Rattle.key_mask.specs.Masks.{mask_bytes_of}
use Rattle.key_mask.proofs.BytesLemmas.{and_bytes_assoc}
use Rattle.task_filters.specs.Filters.{Pattern, are_disjoint, difference, some_bit}
use Rattle.match_table.specs.Tables.{EntryTable}
use Rattle.pipe_core.specs.Rules.{installed, uninstalled, Fits}
use Rattle.sketch_defs.specs.Tasks.{Sketch}
use Rattle.switch_model.specs.Records.{Row}
use Rattle.switch_model.specs.Sights.{Spot, spot_of, spots_from, rules_on}
use Rattle.switch_model.specs.Soundness.{MatchNone}
use Rattle.switch_model.proofs.ListLemmas.{Around, around, all_back}
use Rattle.rule_txn.specs.declared.rows.Turn.{Turn}
use Rattle.rule_txn.specs.State.{there}
use Rattle.rule_txn.specs.Rows.{with_rows, less_rows, CanSettleAll, CanLeaveAll}
use Rattle.rule_txn.specs.Switch.{placed_table, tables_for}
use Rattle.rule_txn.proofs.Tables.{SpotsDiffer, Joins, Installs, install_one, uninstall_one, has_room}

-- ---- no vector matches both, either way round

turned : (f : ℕ → ℕ → ℕ) → ((a b : ℕ) → f a b ≡ f b a) → (xs ys : List ℕ) → bytewise f xs ys ≡ bytewise f ys xs
turned f comm [] [] = refl
turned f comm [] (y ∷ ys) = refl
turned f comm (x ∷ xs) [] = refl
turned f comm (x ∷ xs) (y ∷ ys) = ap₂ (λ z zs. z ∷ zs) (comm x y) (turned f comm xs ys)

difference_turned : (one two : Pattern) → difference one two ≡ difference two one
difference_turned one two =
    let x = xor_bytes one.value two.value in
    let m = mask_bytes_of one.mask in
    let n = mask_bytes_of two.mask in
    and_bytes_assoc x m n
    ∙ ap (and_bytes x) (turned bit_and and_comm m n)
    ∙ sym (and_bytes_assoc x n m)
    ∙ ap (λ y. and_bytes (and_bytes y n) m) (turned bit_xor xor_comm one.value two.value)

pub disjoint_turned : (one two : Pattern) → are_disjoint one two ≡ are_disjoint two one
unfolding are_disjoint
disjoint_turned one two = ap (list_any some_bit) (difference_turned one two)

match_turned : (s x : Spot) → MatchNone s x → MatchNone x s
match_turned s x none same = disjoint_turned x.entry.filter s.entry.filter ∙ none (sym same)

differ_turned : (s x : Spot) → SpotsDiffer s x → SpotsDiffer x s
differ_turned s x differ same equal = differ (sym same) (sym equal)

-- ---- rows that settle

-- the array exists, and the entry may stand there
pub record MayStand (geometry : Geometry) (s : Spot) : Type 0 where
  pub array : s.array < array_count geometry
  pub fits : Fits geometry s.array s.entry

joins : (front middle back : List Spot) (s : Spot) → AllPairs SpotsDiffer (front ++ s ∷ (middle ++ back)) → AllPairs MatchNone (front ++ s ∷ (middle ++ back))
    → Joins front back s × All (λ x. SpotsDiffer x s) front
joins front middle back s differ apart =
    let bases : Around SpotsDiffer front (middle ++ back) s = around SpotsDiffer front (middle ++ back) s differ in
    let filters : Around MatchNone front (middle ++ back) s = around MatchNone front (middle ++ back) s apart in (
      record {
        bases = All-append (λ x. SpotsDiffer x s) front back bases.before
            (All-weaker (SpotsDiffer s) (λ x. SpotsDiffer x s) (λ x d. differ_turned s x d) back (all_back (SpotsDiffer s) middle back bases.after));
        filters = All-append (λ x. MatchNone x s) front back filters.before
            (All-weaker (MatchNone s) (λ x. MatchNone x s) (λ x d. match_turned s x d) back (all_back (MatchNone s) middle back filters.after));
      },
      bases.before,
    )

-- what holds of the entries of rows that settle between others
pub record MaySettle (geometry : Geometry) (front here back : List Spot) : Type 0 where
  pub stand : All (MayStand geometry) here
  pub differ : AllPairs SpotsDiffer (front ++ (here ++ back))
  pub apart : AllPairs MatchNone (front ++ (here ++ back))
  pub few : (a : ℕ) → a < array_count geometry → length (rules_on (front ++ (here ++ back)) a) ≤ 2 ^ geometry.split

pub settles : (geometry : Geometry) (task : Sketch) (turn : Turn) (front back : List Spot) (slots : List (Option Row)) (tables : List EntryTable)
    → map placed_table tables ≡ tables_for geometry (front ++ back)
    → turn.row + length (there slots) ≤ task.rows → (turn.before ≡ None) ↔ (turn.row ≡ 0)
    → MaySettle geometry front (spots_from task turn.row turn.before (there slots)) back
    → CanSettleAll geometry task turn tables slots
    × (map placed_table (with_rows task turn tables slots) ≡ tables_for geometry (front ++ (spots_from task turn.row turn.before (there slots) ++ back)))
settles geometry task turn front back [] tables e few first may = (tt, e)
settles geometry task turn front back (None ∷ slots) tables e few first may =
    let more = settles geometry task turn front back slots tables e few first may in ((tt, more.0), more.1)
settles geometry task turn front back (Some row ∷ slots) tables e few first may =
    let s : Spot = spot_of task turn.row turn.before row in
    let next : Turn = record { row = turn.row + 1; before = Some row.array } in
    let later = spots_from task (turn.row + 1) (Some row.array) (there slots) in
    let here : MayStand geometry s = All-head (MayStand geometry) s later may.stand in
    let with_others = joins front later back s may.differ may.apart in
    let one : Installs geometry front back s tables = install_one geometry front back s tables e here.array with_others.0 with_others.1 in
    let room = has_room front later back s (2 ^ geometry.split) (may.few s.array here.array) in
    let assoc = append_assoc front (s ∷ []) back in
    let whole = append_assoc front (s ∷ []) (later ++ back) in
    let more = settles geometry task next (front ++ s ∷ []) back slots (installed tables row.array s.entry)
    (one.now ∙ ap (tables_for geometry) (sym assoc))
    (omega (arith, few))
    ((λ none. absurd (cc)), (λ zero_. absurd (omega (arith, zero_))))
    (record {
      stand = All-tail (MayStand geometry) s later may.stand;
      differ = subst (AllPairs SpotsDiffer) (sym whole) may.differ;
      apart = subst (AllPairs MatchNone) (sym whole) may.apart;
      few = λ a lt. subst (λ spots. length (rules_on spots a) ≤ 2 ^ geometry.split) (sym whole) (may.few a lt);
    }) in (
      (
        record {
          few = omega (arith, few);
          first = first;
          array = here.array;
          fits = here.fits;
          table = record { few = subst (λ n. n < 2 ^ geometry.split) (sym one.long) room; apart = one.apart; base = one.base };
        },
        more.0,
      ),
      more.1 ∙ ap (tables_for geometry) whole,
    )

-- ---- rows that leave

pub leaves : (geometry : Geometry) (task : Sketch) (i : ℕ) (before : Option ℕ) (front back : List Spot) (slots : List (Option Row)) (tables : List EntryTable)
    → map placed_table tables ≡ tables_for geometry (front ++ (spots_from task i before (there slots) ++ back))
    → All (λ (s : Spot). s.array < array_count geometry) (spots_from task i before (there slots))
    → AllPairs SpotsDiffer (front ++ (spots_from task i before (there slots) ++ back))
    → CanLeaveAll geometry tables slots × (map placed_table (less_rows tables slots) ≡ tables_for geometry (front ++ back))
leaves geometry task i before front back [] tables e within differ = (tt, e)
leaves geometry task i before front back (None ∷ slots) tables e within differ =
    let more = leaves geometry task i before front back slots tables e within differ in ((tt, more.0), more.1)
leaves geometry task i before front back (Some row ∷ slots) tables e within differ =
    let s : Spot = spot_of task i before row in
    let later = spots_from task (i + 1) (Some row.array) (there slots) in
    let near : Around SpotsDiffer front (later ++ back) s = around SpotsDiffer front (later ++ back) s differ in
    let lt = All-head (λ (t : Spot). t.array < array_count geometry) s later within in
    let one = uninstall_one geometry front (later ++ back) s tables e lt near.before in
    let more = leaves geometry task (i + 1) (Some row.array) front back slots (uninstalled tables row.array row.region.base) one.1
    (All-tail (λ (t : Spot). t.array < array_count geometry) s later within) near.others in
    ((record { array = lt; entry = one.0 }, more.0), more.1)
