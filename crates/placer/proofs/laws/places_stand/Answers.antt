use Rattle.placer.proofs.PlacementLemmas.{placed_accepted}
use Rattle.placer.proofs.laws.places_stand.Goals as goal

pub returns : goal.returns
returns c = λ geometry sight task bits places. placed_accepted geometry sight task bits places
