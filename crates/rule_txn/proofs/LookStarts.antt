-- A switch that begins, and one that ends.
use Rattle.std.proofs.Common.{◌≡◌, ℕ, ◌≤◌, List, [], ◌∷◌, ◌++◌, sym, subst, append-nil}
use Rattle.std.specs.Prelude.{Option, None, Some, IfSome}
use Rattle.std.specs.List.{All}
use Rattle.std.proofs.lemmas.List.Elements.{All-nil}
use Rattle.addr_translate.specs.Geometry.{Geometry, IsGeometry}
use Rattle.partition_pool.specs.Pools.{PoolState}
use Rattle.reg_file.specs.Registers.{Contents}
use Rattle.switch_model.specs.Records.{Row, Outline}
use Rattle.switch_model.specs.Sights.{all_held}
use Rattle.switch_model.specs.Soundness.{Sound}
use Rattle.switch_model.specs.Packets.{HoldsCells, all_stands}
use Rattle.switch_model.proofs.SoundLemmas.{none_sound}
use Rattle.switch_model.proofs.EditLemmas.{sound_dropped}
use Rattle.rule_txn.specs.State.{State, there}
use Rattle.rule_txn.specs.Rows.{given, frozens, lives, less_rows, less_uses}
use Rattle.rule_txn.specs.Switch.{SwitchState, IsSwitch, Stands, most_records, first_state}
use Rattle.rule_txn.specs.Seen.{StandsFor}
use Rattle.rule_txn.proofs.Removed.{Removes, removes}
use Rattle.rule_txn.proofs.StageStarts.{stands_first, none_taken}

pub begins : (geometry : Geometry) (key : List ℕ) (os : List Outline) (state : State) (capacity : ℕ) → os ≡ [] → state ≡ first_state geometry key
    → IsGeometry geometry → most_records geometry ≤ capacity → IsSwitch os state capacity
begins geometry key os state capacity none first good room =
    subst (λ (xs : List Outline). IsSwitch xs state capacity) (sym none)
    (subst (λ (s : State). IsSwitch [] s capacity) (sym first)
    (record { limits = good; sound = none_sound geometry; stands = stands_first geometry key; room = room }))

pub stands_none : (state : SwitchState) (contents : Option Contents) → state.outlines ≡ [] → IfSome contents (StandsFor state [])
unfolding all_stands
stands_none state None none = tt
stands_none state (Some contents) none =
    record { sound = none_sound state.geometry; same = none; laid = All-nil (HoldsCells state.hash_key contents) }

-- the last task goes
pub record Goes (front : List Outline) (state : State) (slots : List (Option Row)) : Type 0 where
  pub sound : Sound state.geometry front
  pub removes : Removes front [] state slots
  pub stands : Stands front (record state {
    pools = given (frozens slots) (given (lives slots) state.pools);
    tables = less_rows state.tables slots;
    groups = less_uses state.geometry state.groups slots;
  })

pub goes : (front : List Outline) (o : Outline) (os : List Outline) (state : State) (slots : List (Option Row)) → os ≡ front ++ o ∷ []
    → Sound state.geometry os → Stands os state → there slots ≡ o.rows → Goes front state slots
goes front o os state slots last sound stands rows =
    let now : Sound state.geometry (front ++ o ∷ []) = subst (λ (xs : List Outline). Sound state.geometry xs) last sound in
    let gone = removes front [] o state slots now (subst (λ (xs : List Outline). Stands xs state) last stands) rows in
    let after : State = record state {
      pools = given (frozens slots) (given (lives slots) state.pools);
      tables = less_rows state.tables slots;
      groups = less_uses state.geometry state.groups slots;
    } in
    record {
      sound = subst (Sound state.geometry) (append-nil front) (sound_dropped state.geometry front [] o now);
      removes = gone;
      stands = subst (λ (xs : List Outline). Stands xs after) (append-nil front) gone.stands;
    }

-- after the last task
pub all_given : (os : List Outline) (state : State) → os ≡ [] → Stands os state → All (λ (p : PoolState). p.taken ≡ []) state.pools
unfolding all_held
all_given os state none stands =
    let last : Stands [] state = subst (λ (xs : List Outline). Stands xs state) none stands in
    none_taken state.geometry state.pools last.pools
