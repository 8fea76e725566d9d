use Rattle.std.proofs.Common.{◌≡◌, ℕ, ◌-◌, ◌*◌, ◌<◌, get_or}
use Rattle.key_mask.specs.Masks.{prefix_byte}
use Rattle.key_mask.proofs.masks.fill_prefix.Given as goal

abbrev pub invariant-bytes : goal.invariant-bytes
invariant-bytes l = record {
  left : l.left ≡ l.ones - 8 * l.byte-index;
  done : (k : ℕ) → k < l.byte-index → get_or l.bytes k 0 ≡ prefix_byte l.ones k;
}
