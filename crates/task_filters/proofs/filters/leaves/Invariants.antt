use Rattle.std.proofs.Common.{◌≡◌, ℕ, ◌*◌, ◌<◌, get_or}
use Rattle.key_mask.specs.Bytes.{and_bytes}
use Rattle.task_filters.proofs.filters.leaves.Given as goal

abbrev pub invariant-eights : goal.invariant-eights
invariant-eights l = (k : ℕ) → k < 8 * l.eight → get_or (and_bytes l.bytes l.mask) k 0 ≡ get_or l.value k 0
