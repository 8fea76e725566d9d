-- What holds of all entries in order holds of all.
use Rattle.std.proofs.Common.{◌≡◌, ℕ, ◌<◌, Bool, true, false, cond, List, [], ◌∷◌, length, map, filter, refl, ap, sym, ◌∙◌, subst, arith}
use Rattle.std.specs.Prelude.{◌==◌, Option}
use Rattle.std.specs.List.{All}
use Rattle.std.proofs.lemmas.Bool.{eqb-true}
use Rattle.std.proofs.lemmas.List.Elements.{All-nil, All-cons, All-head, All-tail, All-weaker}
use Rattle.std.proofs.lemmas.List.FromFn.{length-map-range_with_len}
use Rattle.lists.specs.Sorting.{put_by, sort_by}
use Rattle.lists.proofs.SortLemmas.{All-sorted}
use Rattle.addr_translate.specs.Geometry.{Geometry, IsGeometry, array_count, group_in}
use Rattle.pkt_headers.specs.declared.packets.Packet.{Packet}
use Rattle.reg_file.specs.declared.traits.Call.{Call}
use Rattle.reg_file.specs.Registers.{Contents}
use Rattle.reg_file.specs.Calls.{MakesOver}
use Rattle.match_table.specs.Tables.{EntryTable}
use Rattle.pipe_core.specs.Rules.{IsPipe, Fits, table_at, units_of}
use Rattle.pipe_core.specs.Flow.{calls_over}
use Rattle.switch_model.specs.Records.{Outline}
use Rattle.switch_model.specs.Sights.{Spot, spots_by, all_spots, all_uses, rules_on, starts_before, group_uses, units_on}
use Rattle.switch_model.specs.Soundness.{IsTask, Sound}
use Rattle.switch_model.proofs.ListLemmas.{all_flat}
use Rattle.switch_model.proofs.SightLemmas.{length_units}
use Rattle.rule_txn.specs.State.{State}
use Rattle.rule_txn.specs.Switch.{Stands, IsSwitch, groups_for}
use Rattle.rule_txn.specs.Seen.{PassesOver}
use Rattle.rule_txn.proofs.Places.{at_range}
use Rattle.rule_txn.proofs.Settled.{MayStand}
use Rattle.rule_txn.proofs.Enters.{task_stands}
use Rattle.rule_txn.proofs.Tables.{length-tables, table_is}
use Rattle.rule_txn.proofs.BridgeLemmas.{shown_by, rules_in, packet_stands}

put_back : {X : Type 0} (P : X → Type 0) (first : X → X → Bool) (x : X) (ys : List X) → All P (put_by first x ys) → P x × All P ys
put_back P first x [] all = (All-head P x [] all, All-nil P)
put_back {X} P first x (y ∷ ys) all = by (put_back P first x ys) (first x y) all where
  by : (All P (put_by first x ys) → P x × All P ys) → (b : Bool) → All P (cond b (x ∷ y ∷ ys) (y ∷ put_by first x ys)) → P x × All P (y ∷ ys)
  by rest true all = (All-head P x (y ∷ ys) all, All-tail P x (y ∷ ys) all)
  by rest false all =
      let more = rest (All-tail P y (put_by first x ys) all) in
      (more.0, All-cons P y ys (All-head P y (put_by first x ys) all) more.1)

pub all_sorted_back : {X : Type 0} (P : X → Type 0) (first : X → X → Bool) (xs : List X) → All P (sort_by first xs) → All P xs
all_sorted_back P first [] all = All-nil P
all_sorted_back P first (x ∷ xs) all =
    let both = put_back P first x (sort_by first xs) all in All-cons P x xs both.0 (all_sorted_back P first xs both.1)
