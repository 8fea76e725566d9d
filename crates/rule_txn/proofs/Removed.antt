-- Tasks that are removed, and frozen rows that are released.
use Rattle.std.proofs.Common.{◌≡◌, ℕ, ◌+◌, List, [], ◌∷◌, ◌++◌, map, refl, ap, ap₂, sym, ◌∙◌, subst, append_assoc}
use Rattle.std.specs.Prelude.{Option, None, Some, option_map}
use Rattle.std.specs.List.{All, AllPairs, flat_map, filter_map, cons_option}
use Rattle.std.proofs.lemmas.List.Elements.{All-weaker}
use Rattle.addr_translate.specs.Blocks.{Block}
use Rattle.addr_translate.specs.Geometry.{Geometry}
use Rattle.sketch_defs.specs.Tasks.{Sketch}
use Rattle.switch_model.specs.Records.{Row, Outline}
use Rattle.switch_model.specs.Sights.{Holding, live_holding, frozen_holding, held_by, all_held, spots_from, all_spots, row_uses, all_uses}
use Rattle.switch_model.specs.Soundness.{ShareNone, Sound}
use Rattle.switch_model.specs.Changes.{thawed_row, thawed_outline}
use Rattle.switch_model.proofs.ListLemmas.{all_front, all_back, pairs_weaker}
use Rattle.switch_model.proofs.EditLemmas.{held_between, held_both, spots_both, uses_both, spots_between, uses_between, held_thawed, pairs_cut}
use Rattle.rule_txn.specs.State.{State, there, Lent}
use Rattle.rule_txn.specs.Rows.{lives, frozens, given, CanGive, less_rows, less_uses, CanLeaveAll, CanFreeAll}
use Rattle.rule_txn.specs.Switch.{Stands, pools_for, tables_for, groups_for}
use Rattle.rule_txn.specs.Fills.{holding_of}
use Rattle.rule_txn.proofs.Pools.{Differ, Exists, share_differ, held_of, gives}
use Rattle.rule_txn.proofs.Counts.{IsHeld, all_are_held}
use Rattle.rule_txn.proofs.Enters.{exits, uses_exit}

pub lives_held : (slots : List (Option Row)) → held_of (lives slots) ≡ map live_holding (there slots)
lives_held [] = refl
lives_held (None ∷ slots) = lives_held slots
lives_held (Some row ∷ slots) = ap (λ hs. live_holding row ∷ hs) (lives_held slots)

pub frozens_held : (slots : List (Option Row)) → held_of (frozens slots) ≡ filter_map frozen_holding (there slots)
frozens_held [] = refl
frozens_held (None ∷ slots) = frozens_held slots
frozens_held (Some row ∷ slots) = by (frozens_held slots) row.array row.frozen
  where
    by : held_of (frozens slots) ≡ filter_map frozen_holding (there slots) → (array : ℕ) (frozen : Option Block)
        → map holding_of (there (option_map (λ (r : Block). (let l : Lent = record { pool = array; region = r } in l)) frozen ∷ frozens slots))
        ≡ cons_option (option_map (λ (r : Block). (let h : Holding = record { array = array; region = r } in h)) frozen) (filter_map frozen_holding (there slots))
    by rest array None = rest
    by rest array (Some region) = ap (λ hs. (let h : Holding = record { array = array; region = region } in h) ∷ hs) rest

exist_all : (geometry : Geometry) (os : List Outline) → Sound geometry os → All (Exists geometry) (all_held os)
exist_all geometry os sound = All-weaker (IsHeld geometry) (Exists geometry) (λ h is. is.array) (all_held os) (all_are_held geometry os sound)

pub differ_all : (geometry : Geometry) (os : List Outline) → Sound geometry os → AllPairs Differ (all_held os)
differ_all geometry os sound = pairs_weaker ShareNone Differ (λ x y s. share_differ x y s) (all_held os) sound.regions

pub record Removes (front back : List Outline) (state : State) (slots : List (Option Row)) : Type 0 where
  pub leave : CanLeaveAll state.geometry state.tables slots
  pub units : CanFreeAll state.geometry state.groups slots
  pub live : CanGive state.pools (lives slots)
  pub frozen : CanGive (given (lives slots) state.pools) (frozens slots)
  pub stands : Stands (front ++ back) (record state {
    pools = given (frozens slots) (given (lives slots) state.pools);
    tables = less_rows state.tables slots;
    groups = less_uses state.geometry state.groups slots;
  })

pub removes : (front back : List Outline) (o : Outline) (state : State) (slots : List (Option Row)) → Sound state.geometry (front ++ o ∷ back)
    → Stands (front ++ o ∷ back) state → there slots ≡ o.rows → Removes front back state slots
removes front back o state slots sound stands rows =
    let geometry = state.geometry in
    let fh = all_held front in
    let bh = all_held back in
    let ls = held_of (lives slots) in
    let fs = held_of (frozens slots) in
    let own : held_by o ≡ ls ++ fs =
    ap₂ (λ xs ys. xs ++ ys) (ap (map live_holding) (sym rows) ∙ sym (lives_held slots)) (ap (filter_map frozen_holding) (sym rows) ∙ sym (frozens_held slots)) in
    let whole : all_held (front ++ o ∷ back) ≡ fh ++ (ls ++ (fs ++ bh)) =
    held_between front back o ∙ ap (λ hs. fh ++ (hs ++ bh)) own ∙ ap (λ hs. fh ++ hs) (append_assoc ls fs bh) in
    let exist = subst (All (Exists geometry)) whole (exist_all geometry (front ++ o ∷ back) sound) in
    let differ = subst (AllPairs Differ) whole (differ_all geometry (front ++ o ∷ back) sound) in
    let middle = all_back (Exists geometry) fh (ls ++ (fs ++ bh)) exist in
    let first = gives geometry fh (fs ++ bh) (lives slots) state.pools (stands.pools ∙ ap (pools_for geometry) whole)
    (all_front (Exists geometry) ls (fs ++ bh) middle) differ in
    let second = gives geometry fh bh (frozens slots) (given (lives slots) state.pools) first.1
    (all_front (Exists geometry) fs bh (all_back (Exists geometry) ls (fs ++ bh) middle)) (pairs_cut Differ fh ls (fs ++ bh) differ) in
    let entries = exits geometry front back o slots state.tables sound rows stands.tables in
    let units = uses_exit geometry front back o slots state.groups sound rows stands.groups in
    record {
      leave = entries.0;
      units = units.0;
      live = first.0;
      frozen = second.0;
      stands = record {
        pools = second.1 ∙ ap (pools_for geometry) (sym (held_both front back));
        tables = entries.1 ∙ ap (tables_for geometry) (sym (spots_both front back));
        groups = units.1 ∙ ap (groups_for geometry) (sym (uses_both geometry front back));
      };
    }

-- ---- frozen rows

thawed_spots : (task : Sketch) (i : ℕ) (before : Option ℕ) (rows : List Row) → spots_from task i before (map thawed_row rows) ≡ spots_from task i before rows
thawed_spots task i before [] = refl
thawed_spots task i before (row ∷ rows) = ap₂ (λ s ss. s ∷ ss) refl (thawed_spots task (i + 1) (Some row.array) rows)

thawed_uses : (geometry : Geometry) (rows : List Row) → flat_map (row_uses geometry) (map thawed_row rows) ≡ flat_map (row_uses geometry) rows
thawed_uses geometry [] = refl
thawed_uses geometry (row ∷ rows) = ap (λ us. row_uses geometry row ++ us) (thawed_uses geometry rows)

pub record Releases (front back : List Outline) (o : Outline) (state : State) (slots : List (Option Row)) : Type 0 where
  pub frozen : CanGive state.pools (frozens slots)
  pub stands : Stands (front ++ thawed_outline o ∷ back) (record state { pools = given (frozens slots) state.pools })

pub releases : (front back : List Outline) (o : Outline) (state : State) (slots : List (Option Row)) → Sound state.geometry (front ++ o ∷ back)
    → Stands (front ++ o ∷ back) state → there slots ≡ o.rows → Releases front back o state slots
releases front back o state slots sound stands rows =
    let geometry = state.geometry in
    let p = thawed_outline o in
    let fh = all_held front in
    let bh = all_held back in
    let ls = map live_holding o.rows in
    let fs = held_of (frozens slots) in
    let own : held_by o ≡ ls ++ fs = ap (λ ys. ls ++ ys) (ap (filter_map frozen_holding) (sym rows) ∙ sym (frozens_held slots)) in
    let whole : all_held (front ++ o ∷ back) ≡ (fh ++ ls) ++ (fs ++ bh) =
    held_between front back o ∙ ap (λ hs. fh ++ (hs ++ bh)) own ∙ ap (λ hs. fh ++ hs) (append_assoc ls fs bh) ∙ sym (append_assoc fh ls (fs ++ bh)) in
    let exist = subst (All (Exists geometry)) whole (exist_all geometry (front ++ o ∷ back) sound) in
    let differ = subst (AllPairs Differ) whole (differ_all geometry (front ++ o ∷ back) sound) in
    let gone = gives geometry (fh ++ ls) bh (frozens slots) state.pools (stands.pools ∙ ap (pools_for geometry) whole)
    (all_front (Exists geometry) fs bh (all_back (Exists geometry) (fh ++ ls) (fs ++ bh) exist)) differ in
    record {
      frozen = gone.0;
      stands = record {
        pools = gone.1 ∙ ap (pools_for geometry) (append_assoc fh ls bh ∙ ap (λ hs. fh ++ (hs ++ bh)) (sym (held_thawed o)) ∙ sym (held_between front back p));
        tables = stands.tables ∙ ap (tables_for geometry)
            (spots_between front back o ∙ ap (λ ss. all_spots front ++ (ss ++ all_spots back)) (sym (thawed_spots o.task 0 None o.rows)) ∙ sym (spots_between front back p));
        groups = stands.groups ∙ ap (groups_for geometry)
            (uses_between geometry front back o ∙ ap (λ us. all_uses geometry front ++ (us ++ all_uses geometry back)) (sym (thawed_uses geometry o.rows)) ∙ sym (uses_between geometry front back p));
      };
    }
