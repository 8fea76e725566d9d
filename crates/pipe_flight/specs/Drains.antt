-- What entries and fills make of the registers that packets in flight will leave.
use Rattle.std.specs.Prelude.{◌≡◌, ℕ, true, List, [], ◌∷◌, ◌++◌}
use Rattle.std.specs.List.{All}
use Rattle.reg_file.specs.Registers.{Contents}
use Rattle.reg_file.specs.Calls.{all_made}
use Rattle.pipe_core.specs.Flow.{Stages, flow}
use Rattle.pipe_flight.specs.Flights.{Flying, Versions, entering, drain}
use Rattle.pipe_flight.specs.Schedules.{Fill, filled, Avoids}

-- a packet that enters makes its calls under the rules of now after all packets in flight
abbrev pub DrainsEntered : Type 0 → Type 0
DrainsEntered P = (rules : Versions P) (contents : Contents) (flight : List (Flying P)) (none : List ℕ) (packet : P)
    → drain rules contents (flight ++ entering none packet ∷ [])
    ≡ all_made (drain rules contents flight) (flow rules.now (drain rules contents flight) packet rules.count 0 none)

abbrev pub with_now : {P : Type 0} → Versions P → Stages P → Versions P
with_now rules next = record { count = rules.count; now = next; old = rules.old }

-- where all packets are old, a fill of registers on which the old rules make no call, with any change of the rules of
-- now, changes in the end the filled registers alone, and leaves there what it fills
abbrev pub DrainsFilled : Type 0 → Type 0
DrainsFilled P = (rules : Versions P) (next : Stages P) (fill : Fill) (contents : Contents) (flight : List (Flying P))
    → All (λ one. one.kept ≡ true) flight → Avoids rules.old fill
    → drain (with_now rules next) (filled fill contents) flight ≡ filled fill (drain rules contents flight)
