use Rattle.std.proofs.Common.{length}
use Rattle.placer.proofs.planning.tests.+beside.Given as goal

abbrev pub decreases-beside : goal.decreases-beside
decreases-beside l = length l.bases.now
