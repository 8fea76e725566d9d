-- How a moment of a schedule agrees with the serial run so far.
use Rattle.std.proofs.Common.{◌≡◌, ℕ, ◌<◌, ◌≤◌, false, List, [], ◌∷◌, ◌++◌, filter}
use Rattle.std.specs.List.{All}
use Rattle.reg_file.specs.declared.traits.Call.{Call}
use Rattle.reg_file.specs.Registers.{Contents}
use Rattle.reg_file.specs.Calls.{is_on}
use Rattle.pipe_flight.specs.Flights.{Flying, Versions, stages_of, rest_of, drained, drain}
use Rattle.pipe_flight.specs.Orders.{IsFlight}
use Rattle.pipe_flight.specs.Schedules.{Fill, Moment, Serial, AreAt, AreStaged}
use Rattle.pipe_flight.specs.Traces.{Item, GroupsAgree}
use Rattle.pipe_flight.specs.Traces.Item.{Made, Filled}

-- the registers are the same at such places
pub record SameAt (Place : ℕ → ℕ → Type 0) (one two : Contents) : Type 0 where
  pub same : (a i : ℕ) → Place a i → one a i ≡ two a i

-- some packet stands before the group
pub record Stands {P : Type 0} (group : ℕ) (flight : List (Flying P)) : Type 0 where
  pub front : List (Flying P)
  pub one : Flying P
  pub back : List (Flying P)
  pub split : flight ≡ front ++ one ∷ back
  pub here : one.group ≡ group

-- what is left to do leads to the serial run
pub record Agrees {P : Type 0} (group_of : ℕ → ℕ) (m : Moment P) (s : Serial P) : Type 0 where
  pub some : 0 < m.rules.count
  pub now_staged : AreStaged group_of m.rules.now
  pub old_staged : AreStaged group_of m.rules.old
  pub flight : IsFlight m.rules.count m.flight
  pub now : s.now ≡ m.rules.now
  pub contents : drain m.rules m.contents m.flight ≡ s.contents
  pub calls : (array : ℕ) → filter (is_on array) (m.calls ++ drained m.rules m.contents m.flight) ≡ filter (is_on array) s.calls

-- ---- which item of a trace is whose

abbrev pub rev : {A : Type 0} → List A → List A
rev [] = []
rev (x ∷ xs) = rev xs ++ x ∷ []

-- the calls are those that the packet has made, and those that it has still to make
pub record IsOf {P : Type 0} (group_of : ℕ → ℕ) (rules : Versions P) (contents : Contents) (one : Flying P) (calls : List Call) : Type 0 where
  pub done : List Call
  pub whole : calls ≡ done ++ rest_of rules contents one
  pub behind : AreAt (λ a i. group_of a < one.group) done

-- from its group on the packet's calls are at such places
pub record Reaches {P : Type 0} (Place : ℕ → ℕ → Type 0) (rules : Versions P) (one : Flying P) : Type 0 where
  pub at : (g : ℕ) (o : List ℕ) → one.group ≤ g → AreAt Place (stages_of rules one g one.packet o)

abbrev pub Unfilled : Fill → ℕ → ℕ → Type 0
Unfilled fill array addr = fill.test array addr ≡ false

-- no packet will call on a register that is filled
abbrev pub AvoidsAll : {P : Type 0} → Versions P → Fill → List (Flying P) → Type 0
AvoidsAll rules fill flight = All (Reaches (Unfilled fill) rules) flight

-- the packets in flight, the last first, in a trace
abbrev pub Follows : {P : Type 0} → (ℕ → ℕ) → Versions P → Contents → List (Flying P) → List Item → Type 0
Follows group_of rules contents [] trace = Unit {0}
Follows group_of rules contents (one ∷ others) [] = ⊥
Follows group_of rules contents (one ∷ others) (Made calls ∷ items) =
    IsOf group_of rules (drain rules contents (rev others)) one calls × Follows group_of rules contents others items
Follows group_of rules contents (one ∷ others) (Filled fill ∷ items) =
    AvoidsAll rules fill (one ∷ others) × Follows group_of rules contents (one ∷ others) items

-- a moment and the trace of the serial run so far
pub record Traced {P : Type 0} (group_of : ℕ → ℕ) (start : Contents) (m : Moment P) (trace : List Item) : Type 0 where
  pub backward : List (Flying P)
  pub order : m.flight ≡ rev backward
  pub follows : Follows group_of m.rules m.contents backward trace
  pub groups : GroupsAgree group_of m.rules.count start trace m.contents m.flight
