-- What of a list of things to come, as the bytes of a text or a list of calls, has come so far.
use Rattle.std.specs.Prelude.{◌≡◌, ◌<◌, List, ◌++◌, length, Option, Result, Ok, Err}
use Rattle.outside.specs.Told.{Grows}

-- a list begins with this front
pub record IsFront {A : Type 0} (front all : List A) : Type 0 where
  pub rest : List A
  pub whole : front ++ rest ≡ all

-- all but `rest` came: what is told grew by a front of `all`, and `rest` is still to come
pub record CameSoFar {A : Type 0} (before : Option (List A)) (all rest : List A) (after : Option (List A)) : Type 0 where
  pub front : List A
  pub grows : Grows before front after
  pub whole : front ++ rest ≡ all

-- a front of `all` came, perhaps the whole
pub record CameInFront {A : Type 0} (before : Option (List A)) (all : List A) (after : Option (List A)) : Type 0 where
  pub rest : List A
  pub so_far : CameSoFar before all rest after

-- a proper front of `all` came: at least one element did not
pub record CameInPart {A : Type 0} (before : Option (List A)) (all : List A) (after : Option (List A)) : Type 0 where
  pub rest : List A
  pub left : 0 < length rest
  pub so_far : CameSoFar before all rest after

-- all came where the call did its work, and a proper front of it where a fault stopped it
abbrev pub Sends : {A T E : Type 0} → Option (List A) → List A → Result T E → Option (List A) → Type 0
Sends before all (Ok x) after = Grows before all after
Sends before all (Err e) after = CameInPart before all after
