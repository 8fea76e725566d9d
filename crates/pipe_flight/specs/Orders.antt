-- In which order packets stand in flight.
use Rattle.std.specs.Prelude.{◌≡◌, ◌≢◌, ℕ, ◌<◌, ◌==◌, Bool, false, not, if◌then◌else◌, List, [], ◌∷◌, map}
use Rattle.std.specs.List.{All}
use Rattle.pipe_flight.specs.Flights.{Flying}

abbrev pub NobodyAt : {P : Type 0} → ℕ → List (Flying P) → Type 0
NobodyAt group flight = All (λ one. one.group ≢ group) flight

-- a packet behind the last group has left
abbrev pub if_left : {P : Type 0} → ℕ → Flying P → List (Flying P)
if_left count one = if one.group == count then [] else one ∷ []

abbrev pub is_old : {P : Type 0} → Flying P → Bool
is_old one = one.kept

abbrev pub is_present : {P : Type 0} → Flying P → Bool
is_present one = not one.kept

-- in order of entry the groups fall
abbrev pub Falls : {P : Type 0} → ℕ → List (Flying P) → Type 0
Falls high [] = Unit {0}
Falls high (one ∷ others) = (one.group < high) × Falls one.group others

-- old packets come before present ones
abbrev pub OldFirst : List Bool → Type 0
OldFirst [] = Unit {0}
OldFirst (old ∷ others) = (old ≡ false → All (λ other. other ≡ false) others) × OldFirst others

-- what holds of packets in flight at all times
pub record IsFlight {P : Type 0} (count : ℕ) (flight : List (Flying P)) : Type 0 where
  pub falls : Falls count flight
  pub old_first : OldFirst (map is_old flight)
