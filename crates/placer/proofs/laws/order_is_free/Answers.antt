use Rattle.placer.proofs.SightLemmas.{placed_same}
use Rattle.placer.proofs.laws.order_is_free.Goals as goal

pub returns : goal.returns
returns c = λ geometry task bits one two first. placed_same geometry task bits one two first
