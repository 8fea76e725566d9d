use Rattle.switch_model.proofs.SoundLemmas as lemmas
use Rattle.switch_model.proofs.laws.stays_sound.Goals as goal

pub returns : goal.returns
returns c = lemmas.stays_sound
