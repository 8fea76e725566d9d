use Rattle.std.proofs.Common.{◌≡◌, ℕ, ◌<◌, length, get_or, bit_and}
use Rattle.key_mask.specs.declared.fields.TheConstants.{KEY_BYTES}
use Rattle.key_mask.proofs.vectors.and_of.Given as goal

abbrev pub invariant-bytes : goal.invariant-bytes
invariant-bytes l = record {
  long : length l.bytes ≡ KEY_BYTES;
  done : (k : ℕ) → k < l.at → get_or l.bytes k 0 ≡ bit_and (get_or l.one k 0) (get_or l.two k 0);
}
